-- The ledger of a blank with one part.
use Rattle.tests_due.proofs.covers.covers.covers_made_right_in_turn.Given as goal

abbrev pub ghosts-holds_all : goal.ghosts-holds_all
ghosts-holds_all g a = record { name = a.blank.name; parts = a.blank.parts }
