-- What the commands of a seed make of a lane with the shop's texts, whose gateway takes each payment.
use Rattle.std.specs.Prelude.{ℕ, zero, suc, ◌+◌, ◌≡◌, Bool, List, [], ◌∷◌, ◌++◌, Option, None, Some, is_some}
use Rattle.std.specs.Prelude.{Ok, if◌then◌else◌}
use Rattle.kb_days.specs.Dates.{january}
use Rattle.kb_catalog_text.specs.Shops.{shop_catalog, shop_overdue}
use Rattle.kb_catalog_text.specs.Texts.{CatalogText, OverdueText}
use Rattle.kb_codec.specs.declared.command.Command.{Command}
use Rattle.kb_gateway.specs.declared.told.Told.TheVariants.{Processed}
use Rattle.kb_codec.specs.Entries.{Entry}
use Rattle.kb_machine.specs.Judged.{is_new, refusal_in}
use Rattle.kb_machine.specs.Machines.{MachineValue, judged}
use Rattle.kb_machine.specs.Histories.{entry_after, replay}
use Rattle.kb_lane.specs.declared.work.Work.{Work}
use Rattle.kb_lane.specs.declared.work.Work.TheVariants.{Ask, Check}
use Rattle.kb_lane.specs.Outbox.{work_of}
use Rattle.kb_lane.specs.Orders.{settled_by}
use Rattle.kb_lane.specs.Draining.{due_of}
use Rattle.kb_folder.specs.Foundings.{AreTextsOf, first_commands}
use Rattle.kb_make.specs.Seeds.{commands_of}

-- accounts and texts, and what is yet to do for them
pub record Busy : Type 0 where
  pub machine : MachineValue
  pub works : List Work

-- A command is accepted, and what it leaves to do stands behind what there is.
abbrev pub accepted : ℕ → Busy → Command → Busy
accepted today busy command = record {
  machine = entry_after busy.machine (today, command);
  works = busy.works ++ work_of (today, command);
}

abbrev pub accepted_if : ℕ → Busy → Option Command → Busy
accepted_if today busy None = busy
accepted_if today busy (Some command) = accepted today busy command

-- What comes of the first thing to do: an account that is looked at accepts the command that it asks for by
-- itself, if it asks for one; and a payment that is asked for is settled as paid.
abbrev pub first_done : ℕ → MachineValue → List Work → Busy
first_done today machine [] = record { machine = machine; works = [] }
first_done today machine (Check account ∷ later) =
    accepted_if today (record { machine = machine; works = later }) (due_of machine today account)
first_done today machine (Ask account key ∷ later) =
    accepted_if today (record { machine = machine; works = later }) (settled_by account key (Ok Processed))

-- so many things are done, one after another
abbrev pub done_times : ℕ → ℕ → Busy → Busy
done_times zero today busy = busy
done_times (suc count) today busy = done_times count today (first_done today busy.machine busy.works)

-- Things are done until nothing is left to do.
abbrev pub IsDoneWith : ℕ → Busy → MachineValue → Type 0
IsDoneWith today busy last = (count : ℕ) × (done_times count today busy
    ≡ record { machine = last; works = [] })

-- what a command leaves that is sent on a day: one that isn't new leaves nothing to do
abbrev pub sent : MachineValue → Entry → Busy
sent machine entry = record {
  machine = entry_after machine entry;
  works = if is_new (judged machine entry.0 entry.1) then work_of entry else [];
}

-- a command is refused
abbrev pub is_refused : MachineValue → Entry → Bool
is_refused machine entry = is_some (refusal_in (judged machine entry.0 entry.1))

-- Commands are sent on their days, one after another, and what each leaves to do is done before the next;
-- so many of them are refused.
abbrev pub Sends : MachineValue → List Entry → MachineValue → ℕ → Type 0
Sends machine [] last refused = (last ≡ machine) × (refused ≡ 0)
Sends machine (entry ∷ later) last refused = (next : MachineValue) × (others : ℕ)
    × IsDoneWith entry.0 (sent machine entry) next × Sends next later last others
    × (refused ≡ (if is_refused machine entry then 1 else 0) + others)

-- What the commands of a seed make, for so many accounts and months, of accounts that have the shop's texts.
pub record Makes (seed accounts months : ℕ) (last : MachineValue) (refused : ℕ) : Type 0 where
  pub catalog : CatalogText
  pub overdue : OverdueText
  pub texts : AreTextsOf (Some shop_catalog) (Some shop_overdue) catalog overdue
  pub sends : Sends (replay (first_commands (january 1) catalog overdue))
      (commands_of seed accounts months) last
      refused
