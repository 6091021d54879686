-- The entries of a subscription: its start, and its changes by rising day. Which of them governs a day.
use Rattle.std.specs.Prelude.{ℕ, ◌<◌, ◌≤◌, Bool, false, nat_le, nat_lt, List, [], ◌∷◌, ◌++◌, length, drop}
use Rattle.std.specs.Prelude.{filter, Option, None}
use Rattle.std.specs.List.{AllPairs, last_or}
use Rattle.kb_timeline.specs.declared.entry.Entry.{Entry}

-- the most entries that a subscription has
abbrev pub max_entries : ℕ
max_entries = 1024

-- what always holds of entries: there is a start, no change lies before it, changes rise by day, and there
-- are at most 1,024 entries
pub record IsEntries (entries : List Entry) : Type 0 where
  pub started : 0 < length entries
  pub begun : AllPairs (λ (earlier later : Entry). earlier.day ≤ later.day) entries
  pub rising : AllPairs (λ (earlier later : Entry). earlier.day < later.day) (drop 1 entries)
  pub limit : length entries ≤ max_entries

-- the entry that governs a day: the last one dated on or before it
abbrev pub entry_on : List Entry → ℕ → Option Entry
entry_on entries day = last_or None (filter (λ (entry : Entry). nat_le entry.day day) entries)

-- a day lies before the start
abbrev pub is_before_start : List Entry → ℕ → Bool
is_before_start [] day = false
is_before_start (start ∷ changes) day = nat_lt day start.day

-- what a change on a day leaves: the start, and the changes dated before the day
abbrev pub kept_by_change : ℕ → List Entry → List Entry
kept_by_change day [] = []
kept_by_change day (start ∷ changes) = start ∷ filter (λ (change : Entry). nat_lt change.day day) changes

-- the entries after a change: those that it leaves, and itself
abbrev pub with_change : List Entry → Entry → List Entry
with_change entries change = kept_by_change change.day entries ++ change ∷ []
