-- The catalog of a machine has the plans of its accounts.
use Rattle.std.specs.Prelude.{ℕ, ◌≡◌, List, [], ◌∷◌, ◌++◌, Some, codes, refl}
use Rattle.kb_days.specs.Dates.{march}
use Rattle.kb_catalog.specs.declared.version.Version.{Version}
use Rattle.kb_catalog.specs.SmallVersion.{small}
use Rattle.kb_codec.specs.declared.command.Command.{Command}
use Rattle.kb_codec.specs.declared.command.Command.TheVariants as kinds
use Rattle.kb_book.specs.Books.{BookValue}
use Rattle.kb_codec.specs.Entries.{Entry, History}
use Rattle.kb_machine.specs.Judged.{after_judged}
use Rattle.kb_machine.specs.Machines.{MachineValue, book_of, judged}
use Rattle.kb_machine.specs.Histories.{replay}
use Rattle.kb_histories.specs.HeldPlans.{HasPlansOf}

-- it has those of each account
pub record HasAllPlans (machine : MachineValue) : Type 0 where
  pub held : (account : List ℕ) (book : BookValue) → book_of machine account ≡ Some book
      → HasPlansOf machine.texts.world.versions book.timeline

-- for examples, a text that says a version, under a key
abbrev text_of : List ℕ → Version → Entry
text_of key version =
    (march 1, kinds.Catalog (record { key = key; text = record { text = []; version = version } }))

-- each command leaves the versions that there are, perhaps with later ones behind them
abbrev pub VersionsStay : Type 0
VersionsStay = (machine : MachineValue) (today : ℕ) (command : Command)
    → (later : List Version)
    × ((after_judged machine (judged machine today command)).texts.world.versions
    ≡ machine.texts.world.versions ++ later)

the_second_comes_behind : (replay (text_of (codes "t1") small
    ∷ text_of (codes "t2") (record small { effective = march 1 }) ∷ [])).texts.world.versions
    ≡ small ∷ record small { effective = march 1 } ∷ []
unfolding replay judged
the_second_comes_behind = refl

-- it has them still after each command
abbrev pub PlansStay : Type 0
PlansStay = (machine : MachineValue) (today : ℕ) (command : Command) → HasAllPlans machine
    → HasAllPlans (after_judged machine (judged machine today command))

-- so it has those of each history
abbrev pub ReplaysHavePlans : Type 0
ReplaysHavePlans = (history : History) → HasAllPlans (replay history)
