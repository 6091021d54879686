-- The days rise: a binary search counts those up to a day.
use Rattle.std.proofs.Common.{ℕ, nat_le, leb-true, leb-false, rules}
use Rattle.std.proofs.lemmas.List.Sorted.{IsPartitionPoint-from_clause, IsPartitionedBy-leb}
use Rattle.kb_events.proofs.RisingDays.{IsNonDecreasingBy-rising}
use Rattle.kb_events.proofs.standing.count_turned.Goals as goal

pub returns-clause-turned : goal.returns-clause-turned
returns-clause-turned c =
    let day = c.args.day in
    let parted = IsPartitionedBy-leb (λ (turn : ℕ). turn) _ day
    (IsNonDecreasingBy-rising c.args.turns.now c.requires.rising) in
    let point =
    IsPartitionPoint-from_clause (λ (turn : ℕ). nat_le turn day) _ _ c.partition_point.ensures.partitioned
    parted (λ a r q k. search rules) in (
      (λ k d low high. leb-true _ day (point.0 k d low high)),
      (λ k d low high. leb-false _ day (point.1 k d low high)),
    )
