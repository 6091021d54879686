-- The replies to commands that aren't refused.
use Rattle.std.proofs.Common.{◌≡◌, ℕ, true, true≢false, refl, sym, subst, ◌∙◌, ap}
use Rattle.kb_codec.specs.declared.command.Command.{Command}
use Rattle.kb_codec.specs.declared.command.Command.TheVariants as kinds
use Rattle.kb_book.specs.declared.reply.LaneReply.{LaneReply}
use Rattle.kb_book.specs.declared.reply.LaneReply.TheVariants as replies
use Rattle.kb_machine.specs.declared.change.Change.{Change}
use Rattle.kb_machine.specs.declared.change.Change.TheVariants as changes
use Rattle.kb_machine.specs.Judged.{Judged, New, Again, Refused, lifted}
use Rattle.kb_machine.specs.Texts.{catalog_judged, overdue_judged}
use Rattle.kb_machine.specs.Machines.{MachineValue, judged, reply_of, with_texts, with_book, by_book, book_of}
use Rattle.kb_codec.specs.Senders.{account_of}
use Rattle.kb_machine.specs.Plans.{change_reply}
use Rattle.kb_lane.specs.Replies.{IsReply, is_accepted}

-- a reply that isn't a refusal accepts
abbrev pub Accepts : {A : Type 0} → Judged LaneReply A → Type 0
Accepts (New reply after) = is_accepted reply ≡ true
Accepts (Again reply) = is_accepted reply ≡ true
Accepts (Refused refusal) = Unit {0}

lifted-accepts : {R A B : Type 0} (reply : R → LaneReply) (after : A → B)
    → ((told : R) → is_accepted (reply told) ≡ true) → (told : Judged R A) → Accepts (lifted reply after told)
lifted-accepts reply after accepts (New told next) = accepts told
lifted-accepts reply after accepts (Again told) = accepts told
lifted-accepts reply after accepts (Refused refusal) = tt

-- so does each of the machine's
pub judged_accepts : (machine : MachineValue) (today : ℕ) (command : Command)
    → Accepts (judged machine today command)
unfolding judged
judged_accepts machine today (kinds.Catalog c) =
    lifted-accepts replies.Version (with_texts machine) (λ told. refl) (catalog_judged machine.texts c)
judged_accepts machine today (kinds.OverdueRules c) =
    lifted-accepts replies.States (with_texts machine) (λ told. refl) (overdue_judged machine.texts c)
judged_accepts machine today command =
    lifted-accepts replies.Accepted (with_book machine (account_of command)) (λ told. refl)
    (by_book machine today command (book_of machine (account_of command)))

pub again_accepted : (machine : MachineValue) (today : ℕ) (command : Command) (reply : LaneReply)
    → judged machine today command ≡ Again reply → is_accepted reply ≡ true
again_accepted machine today command reply is =
    let P : Judged LaneReply MachineValue → Type 0 = λ told. Accepts told in
    subst P is (judged_accepts machine today command)

pub change_accepted : (change : Change) → is_accepted (change_reply change) ≡ true
change_accepted (changes.Catalog catalog keys number) = refl
change_accepted (changes.Overdue config keys number) = refl
change_accepted (changes.Book account next) = refl

-- a reply that accepts is one of three
pub accepted_reply : (told : Judged LaneReply MachineValue) (reply : LaneReply) → is_accepted reply ≡ true
    → reply_of told ≡ reply → IsReply told reply
accepted_reply told (replies.Accepted answer) accepts is = is
accepted_reply told (replies.Version number) accepts is = is
accepted_reply told (replies.States number) accepts is = is
accepted_reply told (replies.Refused refusal) accepts is = is
accepted_reply told replies.DiskFault accepts is = absurd (true≢false (sym accepts))
accepted_reply told (replies.Stopped count) accepts is = absurd (true≢false (sym accepts))
accepted_reply told (replies.Full commands size) accepts is = absurd (true≢false (sym accepts))
accepted_reply told replies.NoMemory accepts is = tt

pub accepted_fault : (reply : LaneReply) → is_accepted reply ≡ true → reply ≡ replies.DiskFault → ⊥
accepted_fault reply accepts is = true≢false (sym accepts ∙ ap is_accepted is)

pub accepted_stopped : (reply : LaneReply) (count : ℕ) → is_accepted reply ≡ true
    → reply ≡ replies.Stopped count → ⊥
accepted_stopped reply count accepts is = true≢false (sym accepts ∙ ap is_accepted is)

pub accepted_full : (reply : LaneReply) (commands size : ℕ) → is_accepted reply ≡ true
    → reply ≡ replies.Full commands size → ⊥
accepted_full reply commands size accepts is = true≢false (sym accepts ∙ ap is_accepted is)
