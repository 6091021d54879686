-- The refusal of a text, as its own rule says it and as the machine does.
use Rattle.std.proofs.Common.{◌≡◌, ℕ, refl, Result, IfErr}
use Rattle.kb_codec.specs.declared.command.Command.{Command}
use Rattle.kb_codec.specs.declared.command.Command.TheVariants as kinds
use Rattle.kb_codec.specs.declared.command.Catalog.{Catalog}
use Rattle.kb_codec.specs.declared.command.OverdueRules.{OverdueRules}
use Rattle.kb_book.specs.Rows.{IsUnprepared}
use Rattle.kb_book.specs.declared.unprepared.Unprepared.{Unprepared}
use Rattle.kb_machine.specs.declared.change.Planned.{Planned}
use Rattle.kb_machine.specs.Judged.{Judged, New, Again, Refused, refusal_in, lifted}
use Rattle.kb_machine.specs.Texts.{catalog_judged, overdue_judged}
use Rattle.kb_machine.specs.Machines.{MachineValue, judged}

pub refusal_lifted : {R S A B : Type 0} (reply : R → S) (after : A → B) (told : Judged R A)
    → refusal_in (lifted reply after told) ≡ refusal_in told
refusal_lifted reply after (New given next) = refl
refusal_lifted reply after (Again given) = refl
refusal_lifted reply after (Refused refusal) = refl

pub refused_catalog : (machine : MachineValue) (today : ℕ) (command : Command) (text : Catalog)
    (result : Result Planned Unprepared) → command ≡ kinds.Catalog text
    → IfErr result (IsUnprepared (refusal_in (catalog_judged machine.texts text)))
    → IfErr result (IsUnprepared (refusal_in (judged machine today command)))
unfolding judged
refused_catalog machine today command text result is refused =
    rw (is, refusal_lifted) refused

pub refused_overdue : (machine : MachineValue) (today : ℕ) (command : Command) (text : OverdueRules)
    (result : Result Planned Unprepared) → command ≡ kinds.OverdueRules text
    → IfErr result (IsUnprepared (refusal_in (overdue_judged machine.texts text)))
    → IfErr result (IsUnprepared (refusal_in (judged machine today command)))
unfolding judged
refused_overdue machine today command text result is refused =
    rw (is, refusal_lifted) refused
