-- What an accepted command leaves a lane to do.
use Rattle.std.specs.Prelude.{◌≡◌, List, [], ◌∷◌, ◌++◌, codes, refl, None}
use Rattle.kb_days.specs.Dates.{march}
use Rattle.kb_codec.specs.declared.command.Command.{Command}
use Rattle.kb_codec.specs.declared.command.Command.TheVariants as kinds
use Rattle.kb_codec.specs.declared.action.Action.TheVariants as actions
use Rattle.kb_book.specs.Edits.{auto_key}
use Rattle.kb_codec.specs.Entries.{Entry}
use Rattle.kb_codec.specs.Senders.{account_of}
use Rattle.kb_lane.specs.declared.work.Work.{Work}
use Rattle.kb_lane.specs.declared.work.Work.TheVariants.{Ask, Check}

-- the payment that the gateway is to be asked for: of an account, by its key
abbrev pub ask_of : Entry → List Work
ask_of (today, kinds.Act account key (actions.Pay c)) = Ask account c.payment ∷ []
ask_of (today, kinds.Act account key (actions.Refund c)) = Ask account c.payment ∷ []
ask_of (today, kinds.Auto c) = Ask c.account (auto_key c.invoice today) ∷ []
ask_of (today, _) = []

-- an account that changed is to be looked at
abbrev pub check_of : Command → List Work
check_of (kinds.Catalog c) = []
check_of (kinds.OverdueRules c) = []
check_of command = Check (account_of command) ∷ []

-- what a command leaves to do: first to ask, then to look
abbrev pub work_of : Entry → List Work
work_of entry = ask_of entry ++ check_of entry.1

of_a_bill : work_of (march 1, kinds.Act (codes "a1") (codes "k1") (actions.Bill (record { day = None })))
    ≡ Check (codes "a1") ∷ []
of_a_bill = refl
