-- What a change leaves of entries, and that the entries after it are entries again.
use Rattle.std.proofs.Common.{◌≡◌, ℕ, suc, ◌<◌, ◌≤◌, true, false, List, [], ◌∷◌, ◌++◌, length, take, drop}
use Rattle.std.proofs.Common.{filter, nat_lt, ap, arith}
use Rattle.std.specs.List.{All, AllPairs}
use Rattle.std.specs.List.Sorted.{IsPartitionPoint}
use Rattle.std.proofs.lemmas.Bool.{ltb-true, ltb-false}
use Rattle.std.proofs.lemmas.List.Elements.{All-push, All-filter, filter_passes}
use Rattle.std.proofs.lemmas.List.Kept.{AllPairs-cons, AllPairs-filter}
use Rattle.std.proofs.lemmas.List.Quantifiers.{all_pairs_push}
use Rattle.kb_timeline.specs.declared.entry.Entry.{Entry}
use Rattle.kb_timeline.specs.EntryDays.{IsEntries, max_entries, is_before_start, kept_by_change, with_change}
use Rattle.kb_timeline.proofs.Partitions.{filter-take}

-- so many changes are dated before a day, and no other one
abbrev pub AreEarlier : List Entry → ℕ → ℕ → Type 0
AreEarlier changes day count =
    IsPartitionPoint (λ (change : Entry). nat_lt change.day day ≡ true)
    (λ (change : Entry). nat_lt change.day day ≡ false) changes count

-- a change leaves the start, and as many first changes as are dated before it
pub kept_by_change-take : (entries : List Entry) (day count : ℕ) → 0 < length entries
    → count ≤ length (drop 1 entries)
    → AreEarlier (drop 1 entries) day count → kept_by_change day entries ≡ take (suc count) entries
kept_by_change-take [] day count some within earlier = absurd (omega arith)
kept_by_change-take (start ∷ changes) day count some within earlier =
    ap (λ (kept : List Entry). start ∷ kept)
    (filter-take (λ (change : Entry). nat_lt change.day day) changes count within earlier)

-- the entries after a change that doesn't lie before the start
pub IsEntries-with_change : (entries : List Entry) (change : Entry) → IsEntries entries
    → is_before_start entries change.day ≡ false
    → length (with_change entries change) ≤ max_entries → IsEntries (with_change entries change)
IsEntries-with_change [] change is begun limit = let some = is.started in absurd (omega arith)
IsEntries-with_change (start ∷ changes) change is begun limit =
    record {
      started = omega arith;
      begun =
          AllPairs-cons (λ (earlier later : Entry). earlier.day ≤ later.day) start later behind
          (λ i j d below within. let less = rise i j d below within in omega arith);
      rising = rise;
      limit = limit;
    }
  where
    kept : List Entry
    kept = filter (λ (other : Entry). nat_lt other.day change.day) changes

    later : List Entry
    later = kept ++ change ∷ []

    rise : AllPairs (λ (one other : Entry). one.day < other.day) later
    rise =
        all_pairs_push (λ (one other : Entry). one.day < other.day) kept change
        (AllPairs-filter (λ (one other : Entry). one.day < other.day)
        (λ (other : Entry). nat_lt other.day change.day) changes is.rising)
        (λ k d within. ltb-true _ change.day (filter_passes (λ (other : Entry). nat_lt other.day change.day)
        changes k d within))

    behind : All (λ (other : Entry). start.day ≤ other.day) later
    behind =
        All-push (λ (other : Entry). start.day ≤ other.day) kept change
        (All-filter (λ (other : Entry). nat_lt other.day change.day)
        (λ (other : Entry). start.day ≤ other.day) changes
        (λ k d within. is.begun 0 (suc k) d (omega arith) (omega arith)))
        (ltb-false change.day start.day begun)
