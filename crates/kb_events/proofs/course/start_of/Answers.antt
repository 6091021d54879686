-- The start is the first entry, and no other is dated before it.
use Rattle.std.proofs.Common.{◌≤◌, All, ap, subst, ◌∙◌, sym, arith}
use Rattle.std.proofs.lemmas.List.{get_or_default}
use Rattle.kb_days.specs.Calendar.{first_day}
use Rattle.kb_timeline.specs.declared.entry.Entry.{Entry}
use Rattle.kb_events.proofs.NamedDays.{All-named}
use Rattle.kb_events.proofs.course.start_of.Goals as goal

pub returns-clause-named : goal.returns-clause-named
returns-clause-named c =
    let entries = c.as_slice.result.now in
    let start = c.index-as_slice-0.result in
    let some = c.as_slice.ensures.sound.started in
    let first = λ (place : _) (d : Entry) (inside : _). ap (λ (entry : Entry). entry.day)
    (get_or_default entries 0 d start some ∙ sym c.index-as_slice-0.is) in
    subst (All (λ (entry : Entry). first_day ≤ entry.day)) c.as_slice.ensures.same
    (All-named entries start.day c.as_slice.ensures.sound
    (omega (
      arith,
      c.number-named.ensures.value,
      c.number-named.ensures.first,
      ap (λ (entry : Entry). entry.day) c.index-as_slice-0.is,
    )) first)
