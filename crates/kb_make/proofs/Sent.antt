-- Commands that are sent one after another.
use Rattle.std.proofs.Common.{◌≡◌, ℕ, ◌+◌, Bool, true, false, true≢false, List, [], ◌∷◌, if◌then◌else◌, ◌≤◌}
use Rattle.std.proofs.Common.{zero-add, refl, sym, ap, subst, ◌∙◌, arith}
use mir.Val.{bool_byte}
use Rattle.kb_codec.specs.declared.command.Command.{Command}
use Rattle.kb_codec.specs.declared.command.Command.TheVariants as kinds
use Rattle.kb_make.specs.SeedCommands.{is_seeded}
use Rattle.kb_codec.specs.Entries.{Entry}
use Rattle.kb_machine.specs.Machines.{MachineValue}
use Rattle.kb_codec.specs.Senders.{is_callers, is_text}
use Rattle.kb_lane.specs.Outbox.{work_of}
use Rattle.kb_make.specs.Makes.{IsDoneWith, Sends, is_refused, sent}
use Rattle.kb_make.specs.Private.Sending.{Completes}

-- a command that a seed stands for is a caller's
pub seeded_callers : (command : Command) → is_seeded command ≡ true → is_callers command ≡ true
seeded_callers (kinds.Auto c) seeded = absurd (true≢false (sym seeded))
seeded_callers (kinds.Settle c) seeded = absurd (true≢false (sym seeded))
seeded_callers (kinds.Overdue c) seeded = absurd (true≢false (sym seeded))
seeded_callers command seeded = refl

-- and so is a text, which leaves nothing to do
pub text_callers : (command : Command) → is_text command ≡ true → is_callers command ≡ true
text_callers (kinds.Catalog c) text = refl
text_callers (kinds.OverdueRules c) text = refl
text_callers command text = absurd (true≢false (sym text))

pub text_works : (today : ℕ) (command : Command) → is_text command ≡ true → (fresh : Bool)
    → (if fresh then work_of (today, command) else []) ≡ []
text_works today (kinds.Catalog c) text true = refl
text_works today (kinds.OverdueRules c) text true = refl
text_works today command text true = absurd (true≢false (sym text))
text_works today command text false = refl

-- all are left to send at first
pub none_sent : (first : MachineValue) (all : List Entry) → Completes first all first all 0
none_sent first all last others sends =
    subst (λ (number : ℕ). Sends first all last number) (sym (zero-add others)) sends

-- one more is sent, and counted if it is refused
pub counted : (flag : Bool) (count : ℕ) → count ≡ bool_byte flag → count ≤ 1
counted true count is = omega (arith, is)
counted false count is = omega (arith, is)

pub one_sent : (first now next : MachineValue) (all left : List Entry) (entry : Entry)
    (refused count : ℕ) (flag : Bool)
    → Completes first all now (entry ∷ left) refused → IsDoneWith entry.0 (sent now entry) next
    → flag ≡ is_refused now entry → count ≡ bool_byte flag → Completes first all next left (refused + count)
one_sent first now next all left entry refused count flag completes done told is last others sends =
    let alike : count ≡ (if is_refused now entry then 1 else 0) = is ∙ by_flag flag ∙ ap number told in
    let grouped : refused + (count + others) ≡ refused + count + others = omega arith in
    subst (λ (number : ℕ). Sends first all last number) grouped
    (completes last (count + others) (next, others, done, sends, ap (λ (one : ℕ). one + others) alike))
  where
    number : Bool → ℕ
    number told = if told then 1 else 0

    by_flag : (flag : Bool) → bool_byte flag ≡ number flag
    by_flag true = refl
    by_flag false = refl

-- none is left
pub all_sent : (first now : MachineValue) (all : List Entry) (refused : ℕ)
    → Completes first all now [] refused
    → Sends first all now refused
all_sent first now all refused completes =
    let none : refused + 0 ≡ refused = omega arith in
    subst (λ (number : ℕ). Sends first all now number) none (completes now 0 (refl, refl))
