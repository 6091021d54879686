-- A history, and the texts and the commands on one account of it.
use Rattle.std.proofs.Common.{◌≡◌, ℕ, Bool, true, false, List, [], ◌∷◌, ◌++◌, bytes_eq}
use Rattle.std.proofs.Common.{refl, sym, ap, subst, ◌∙◌, inl, inr, ◌⊎◌, true≢false}
use Rattle.std.proofs.lemmas.Slice.Eq.{bytes_eq-Decides}
use Rattle.std.specs.List.{fold}
use Rattle.kb_codec.specs.declared.command.Command.{Command}
use Rattle.kb_codec.specs.declared.command.Command.TheVariants as kinds
use Rattle.kb_codec.specs.Entries.{Entry, History}
use Rattle.kb_book.specs.Rows.{limit}
use Rattle.kb_book.specs.declared.reply.LaneReply.{LaneReply}
use Rattle.kb_book.specs.declared.reply.LaneReply.TheVariants as replies
use Rattle.kb_machine.specs.Judged.{Judged, New, Again, Refused, after_judged, is_new}
use Rattle.kb_machine.specs.Texts.{catalog_judged, overdue_judged}
use Rattle.kb_machine.specs.Machines.{MachineValue, no_machine, book_of, judged}
use Rattle.kb_machine.specs.Machines.{account_judged, max_accounts, reply_of}
use Rattle.kb_codec.specs.Senders.{account_of}
use Rattle.kb_machine.specs.Histories.{entry_after, replay, IsNewOn, AreNewFrom}
use Rattle.kb_histories.specs.OwnCommands.{concerns, own_history, OwnCommandsSuffice, OwnCommandsReply}
use Rattle.kb_histories.specs.OwnCommands.{OwnCommandsReplied}
use Rattle.kb_histories.proofs.RepeatedEntries.{new-later, new-earlier}
use Rattle.kb_histories.proofs.OneAccount.{only, narrowed, text-same, account-same, other-same, book_of-only}

-- a command comes to the same, unless it is refused as one account too many
abbrev ComesSame : List ℕ → Judged LaneReply MachineValue → Judged LaneReply MachineValue → Type 0
ComesSame account one whole =
    (whole ≡ Refused (limit 1 max_accounts)) ⊎ (one ≡ narrowed account whole)

-- so does one on the account
on_account : (machine : MachineValue) (account : List ℕ) (today : ℕ) (command : Command)
    → bytes_eq account (account_of command) ≡ true
    → ComesSame account (account_judged (only account machine) today command)
    (account_judged machine today command)
on_account machine account today command is =
    let same : account ≡ account_of command = (bytes_eq-Decides account (account_of command)).0 is in
    subst (λ account. ComesSame account (account_judged (only account machine) today command)
    (account_judged machine today command)) (sym same) (account-same machine today command)

-- and so does a text
judged-same : (machine : MachineValue) (account : List ℕ) (today : ℕ) (command : Command)
    → concerns account command ≡ true
    → ComesSame account (judged (only account machine) today command) (judged machine today command)
unfolding judged
judged-same machine account today (kinds.Catalog c) is =
    inr (text-same machine account replies.Version (catalog_judged machine.texts c))
judged-same machine account today (kinds.OverdueRules c) is =
    inr (text-same machine account replies.States (overdue_judged machine.texts c))
judged-same machine account today command is = on_account machine account today command is

-- a new one isn't refused
new-same : (account : List ℕ) (one whole : Judged LaneReply MachineValue)
    → ComesSame account one whole → is_new whole ≡ true → one ≡ narrowed account whole
new-same account one whole (inl full) new = absurd (true≢false (sym new ∙ ap is_new full))
new-same account one whole (inr same) new = same

-- any other command leaves the account and the texts
judged-other : (machine : MachineValue) (account : List ℕ) (today : ℕ) (command : Command)
    → concerns account command ≡ false
    → only account (after_judged machine (judged machine today command)) ≡ only account machine
unfolding judged
judged-other machine account today (kinds.Catalog c) other = absurd (true≢false other)
judged-other machine account today (kinds.OverdueRules c) other = absurd (true≢false other)
judged-other machine account today command other = other-same machine today command account other

after-narrowed : (machine : MachineValue) (account : List ℕ) (comes : Judged LaneReply MachineValue)
    → after_judged (only account machine) (narrowed account comes) ≡ only account (after_judged machine comes)
after-narrowed machine account (New reply after) = refl
after-narrowed machine account (Again reply) = refl
after-narrowed machine account (Refused refused) = refl

new-narrowed : (account : List ℕ) (comes : Judged LaneReply MachineValue)
    → is_new (narrowed account comes) ≡ is_new comes
new-narrowed account (New reply after) = refl
new-narrowed account (Again reply) = refl
new-narrowed account (Refused refused) = refl

reply-narrowed : (account : List ℕ) (comes : Judged LaneReply MachineValue)
    → reply_of (narrowed account comes) ≡ reply_of comes
reply-narrowed account (New reply after) = refl
reply-narrowed account (Again reply) = refl
reply-narrowed account (Refused refused) = refl

-- the texts and the commands on an account lead to the texts and that account, and are new
abbrev Leads : List ℕ → MachineValue → History → Type 0
Leads account machine history =
    (fold entry_after (only account machine) (own_history account history)
    ≡ only account (fold entry_after machine history))
    × AreNewFrom (only account machine) (own_history account history)

leads : (account : List ℕ) (history : History) (machine : MachineValue) → AreNewFrom machine history
    → Leads account machine history
unfolding AreNewFrom
leads account [] machine fresh = (refl, tt)
leads account (entry ∷ later) machine fresh =
    by_concern (concerns account entry.1) refl (leads account later (entry_after machine entry) fresh.1)
  where
    by_concern : (own : Bool) → concerns account entry.1 ≡ own
        → Leads account (entry_after machine entry) later → Leads account machine (entry ∷ later)
    by_concern false other rest =
        rw other (subst (λ (from : MachineValue). (fold entry_after from (own_history account later)
        ≡ only account (fold entry_after (entry_after machine entry) later))
        × AreNewFrom from (own_history account later))
        (judged-other machine account entry.0 entry.1 other) rest)
    by_concern true is rest =
        let same = new-same account (judged (only account machine) entry.0 entry.1)
        (judged machine entry.0 entry.1) (judged-same machine account entry.0 entry.1 is) fresh.0 in
        let next : entry_after (only account machine) entry ≡ only account (entry_after machine entry) =
        ap (after_judged (only account machine)) same
        ∙ after-narrowed machine account (judged machine entry.0 entry.1) in
        let new : IsNewOn (only account machine) entry =
        ap is_new same ∙ new-narrowed account (judged machine entry.0 entry.1) ∙ fresh.0 in
        let led = subst (λ (from : MachineValue). (fold entry_after from (own_history account later)
        ≡ only account (fold entry_after (entry_after machine entry) later))
        × AreNewFrom from (own_history account later)) (sym next) rest in
        rw is (led.0, (new, led.1))

-- what the texts and its own commands lead to is that account of what the history leads to
led-own : (history : History) (account : List ℕ) → AreNewFrom no_machine history
    → replay (own_history account history) ≡ only account (replay history)
unfolding replay
led-own history account fresh = (leads account history no_machine fresh).0

pub own_commands_suffice : OwnCommandsSuffice
own_commands_suffice history account fresh =
    let led = led-own history account fresh in (
      ap (λ (machine : MachineValue). machine.texts) led,
      ap (λ (machine : MachineValue). book_of machine account) led ∙ book_of-only account (replay history),
      (leads account history no_machine fresh).1,
    )

pub own_commands_reply : OwnCommandsReply
own_commands_reply history account fresh today command concerned =
    by_comes (judged-same (replay history) account today command concerned)
  where
    one : Judged LaneReply MachineValue
    one = judged (only account (replay history)) today command

    whole : Judged LaneReply MachineValue
    whole = judged (replay history) today command

    by_comes : ComesSame account one whole
        → (reply_of whole ≡ replies.Refused (limit 1 max_accounts))
        ⊎ (reply_of (judged (replay (own_history account history)) today command) ≡ reply_of whole)
    by_comes (inl full) = inl (ap reply_of full)
    by_comes (inr same) =
        inr (ap (λ (machine : MachineValue). reply_of (judged machine today command))
        (led-own history account fresh)
        ∙ ap reply_of same
        ∙ reply-narrowed account whole)

-- the command behind the first ones of a new history is new
new-here : (front back : History) (entry : Entry) → AreNewFrom no_machine (front ++ entry ∷ back)
    → IsNewOn (replay front) entry
unfolding AreNewFrom replay
new-here front back entry fresh = (new-later front (entry ∷ back) no_machine fresh).0

pub own_commands_replied : OwnCommandsReplied
own_commands_replied front back entry account fresh concerned =
    let one : Judged LaneReply MachineValue = judged (only account (replay front)) entry.0 entry.1 in
    let whole : Judged LaneReply MachineValue = judged (replay front) entry.0 entry.1 in
    let same : one ≡ narrowed account whole =
    new-same account one whole (judged-same (replay front) account entry.0 entry.1 concerned)
    (new-here front back entry fresh) in
    ap (λ (machine : MachineValue). reply_of (judged machine entry.0 entry.1))
    (led-own front account (new-earlier front (entry ∷ back) no_machine fresh))
    ∙ ap reply_of same
    ∙ reply-narrowed account whole
