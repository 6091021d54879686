-- The entries that a change leaves, and the change, are entries.
use Rattle.std.proofs.Common.{◌≡◌, ◌≤◌, List, length, length-take, ap, subst, sym, arith}
use Rattle.std.proofs.lemmas.Grind.{common_steps}
use Rattle.std.proofs.lemmas.List.{length_push}
use Rattle.kb_timeline.specs.declared.entry.Entry.{Entry}
use Rattle.kb_timeline.specs.EntryDays.{IsEntries, max_entries, kept_by_change, with_change}
use Rattle.kb_timeline.proofs.ChangedEntries.{IsEntries-with_change}
use Rattle.kb_timeline.proofs.entries.Entries.with_change.Goals as goal

pub invariant_of-result : goal.invariant_of-result
invariant_of-result c =
    let entries = c.args.self.now in
    let same : c.in_ok-items.items ≡ with_change entries c.args.change = grind (arith, common_steps) in
    let sound =
    subst (λ (all : List Entry). IsEntries all) c.as_slice.ensures.same c.as_slice.ensures.sound in
    let room : length (with_change entries c.args.change) ≤ max_entries =
    omega (
      arith,
      length_push (kept_by_change c.args.change.day entries) c.args.change,
      ap length c.count_kept-kept.ensures.kept,
      length-take c.count_kept-kept.result entries,
      sound.limit,
    ) in
    subst (λ (all : List Entry). IsEntries all) (sym same)
    (IsEntries-with_change entries c.args.change sound c.requires.begun room)
