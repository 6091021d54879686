-- What the book of an account and the replies on it depend on: its own commands, and the texts.
use Rattle.std.specs.Prelude.{ℕ, ◌≡◌, ◌⊎◌, Bool, true, ◌||◌, bytes_eq}
use Rattle.std.specs.Prelude.{List, [], ◌∷◌, ◌++◌, filter, codes, refl}
use Rattle.kb_codec.specs.declared.command.Command.{Command}
use Rattle.kb_book.specs.Rows.{limit}
use Rattle.kb_book.specs.declared.reply.LaneReply.TheVariants as replies
use Rattle.kb_codec.specs.Entries.{Entry, History}
use Rattle.kb_machine.specs.Machines.{no_machine, max_accounts, book_of, judged, reply_of}
use Rattle.kb_codec.specs.Senders.{is_text, account_of}
use Rattle.kb_machine.specs.Histories.{replay, AreNewFrom}
use Rattle.kb_histories.specs.Openings.{opening_of}

-- a command is a text, or on this account
abbrev pub concerns : List ℕ → Command → Bool
concerns account command = is_text command || bytes_eq account (account_of command)

-- the texts of a history, and its commands on an account
abbrev pub own_history : List ℕ → History → History
own_history account history = filter (λ (entry : Entry). concerns account entry.1) history

of_two_accounts : own_history (codes "a2") (opening_of (codes "a1") ∷ opening_of (codes "a2") ∷ [])
    ≡ opening_of (codes "a2") ∷ []
of_two_accounts = refl

two_are_new : AreNewFrom no_machine (opening_of (codes "a1") ∷ opening_of (codes "a2") ∷ [])
unfolding AreNewFrom judged
two_are_new = (refl, (refl, tt))

-- The texts and an account's own commands lead to the same texts and the same book of that account as the
-- whole history does, and each of them is new to those before it.
abbrev pub OwnCommandsSuffice : Type 0
OwnCommandsSuffice = (history : History) (account : List ℕ) → AreNewFrom no_machine history
    → ((replay (own_history account history)).texts ≡ (replay history).texts)
    × (book_of (replay (own_history account history)) account ≡ book_of (replay history) account)
    × AreNewFrom no_machine (own_history account history)

-- A command on an account, or a text, gets the reply that it gets after the texts and the account's own
-- commands alone, unless it is refused as one account too many.
abbrev pub OwnCommandsReply : Type 0
OwnCommandsReply = (history : History) (account : List ℕ) → AreNewFrom no_machine history
    → (today : ℕ) (command : Command) → concerns account command ≡ true
    → (reply_of (judged (replay history) today command) ≡ replies.Refused (limit 1 max_accounts))
    ⊎ (reply_of (judged (replay (own_history account history)) today command)
    ≡ reply_of (judged (replay history) today command))

-- so each command of the history on an account, or text, got that reply
abbrev pub OwnCommandsReplied : Type 0
OwnCommandsReplied = (front back : History) (entry : Entry) (account : List ℕ)
    → AreNewFrom no_machine (front ++ entry ∷ back) → concerns account entry.1 ≡ true
    → reply_of (judged (replay (own_history account front)) entry.0 entry.1)
    ≡ reply_of (judged (replay front) entry.0 entry.1)
