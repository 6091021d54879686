-- The days of entries don't fall: a binary search counts those up to a day.
use Rattle.std.proofs.Common.{List, nat_le, subst, leb-true, leb-false, rules}
use Rattle.std.proofs.lemmas.List.Sorted.{IsPartitionPoint-from_clause, IsPartitionedBy-leb}
use Rattle.kb_timeline.specs.declared.entry.Entry.{Entry}
use Rattle.kb_timeline.proofs.BegunEntries.{AreBegun, IsNonDecreasingBy-entries}
use Rattle.kb_timeline.proofs.entries.Entries.count_begun.Goals as goal

pub returns-clause-begun : goal.returns-clause-begun
returns-clause-begun c =
    let day = c.args.day in
    let parted =
    IsPartitionedBy-leb (λ (entry : Entry). entry.day) _ day
    (IsNonDecreasingBy-entries _ c.as_slice.ensures.sound) in
    let point =
    IsPartitionPoint-from_clause (λ (entry : Entry). nat_le entry.day day) _ _
    c.partition_point.ensures.partitioned parted (λ a r q k. search rules) in
    subst (λ (entries : List Entry). AreBegun entries day c.partition_point.result) c.as_slice.ensures.same (
      (λ k d low high. leb-true _ day (point.0 k d low high)),
      (λ k d low high. leb-false _ day (point.1 k d low high)),
    )
