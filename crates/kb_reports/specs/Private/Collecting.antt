-- Accounts as they are listed.
use Rattle.std.specs.Prelude.{ℕ, List}
use Rattle.kb_reports.specs.declared.listed.Listed.{Listed}

-- one on the lane of a number
abbrev pub listed_in : ℕ → List ℕ → Listed
listed_in lane account = record { account = account; lane = lane }
