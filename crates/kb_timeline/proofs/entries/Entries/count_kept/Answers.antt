-- The days of changes rise: a binary search counts those before a day.
use Rattle.std.proofs.Common.{List, length, drop, add-one, nat_lt, subst, ap, rules, arith}
use Rattle.std.proofs.lemmas.List.Sorted.{IsPartitionPoint-from_clause, IsPartitionedBy-ltb}
use Rattle.std.proofs.lemmas.List.Sorted.{IsNonDecreasingBy-drop}
use Rattle.kb_timeline.specs.declared.entry.Entry.{Entry}
use Rattle.kb_timeline.proofs.BegunEntries.{IsNonDecreasingBy-entries}
use Rattle.kb_timeline.proofs.ChangedEntries.{AreEarlier, kept_by_change-take}
use Rattle.kb_timeline.proofs.entries.Entries.count_kept.Goals as goal

pub returns-clause-kept : goal.returns-clause-kept
returns-clause-kept c =
    let day = c.args.day in
    let entries = c.args.self.now in
    let count = c.partition_point.result in
    let rise =
    IsNonDecreasingBy-drop (λ (entry : Entry). entry.day) 1 entries
    (IsNonDecreasingBy-entries entries c.changes.ensures.sound) in
    let parted = IsPartitionedBy-ltb (λ (entry : Entry). entry.day) (drop 1 entries) day rise in
    let point =
    IsPartitionPoint-from_clause (λ (entry : Entry). nat_lt entry.day day) _ _
    c.partition_point.ensures.partitioned
    (rw c.changes.ensures.same parted) (λ a r q k. search rules) in
    let earlier =
    subst (λ (changes : List Entry). AreEarlier changes day count) c.changes.ensures.same point in
    rw add-one
    (kept_by_change-take entries day count c.changes.ensures.sound.started
    (omega (arith, ap length c.changes.ensures.same)) earlier)
