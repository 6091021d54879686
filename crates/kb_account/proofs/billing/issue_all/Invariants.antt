-- The ledger of a blank with one part.
use Rattle.kb_account.proofs.billing.issue_all.Given as goal

abbrev pub ghosts-issue_counted : goal.ghosts-issue_counted
ghosts-issue_counted a = record { name = a.blank.name; parts = a.blank.parts }
