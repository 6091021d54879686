-- A summary is determined by the numbers that it is made of.
use Rattle.std.proofs.Common.{◌≡◌, ℕ, zero, suc, ◌+◌, List, [], ◌∷◌, Result, Ok, if◌then◌else◌, refl, sym, ap}
use Rattle.std.proofs.Common.{ap₂, subst, ◌∙◌}
use Rattle.kb_days.specs.Dates.{january}
use Rattle.kb_catalog_text.specs.declared.fault.TextFault.{TextFault}
use Rattle.kb_catalog_text.specs.Texts.{CatalogText, OverdueText, catalog_read, overdue_read}
use Rattle.kb_codec.specs.Entries.{Entry}
use Rattle.kb_machine.specs.Machines.{MachineValue}
use Rattle.kb_machine.specs.Histories.{replay}
use Rattle.kb_folder.specs.Foundings.{first_commands}
use Rattle.kb_make.specs.Seeds.{commands_of}
use Rattle.kb_make.specs.Totals.{totals_of}
use Rattle.kb_make.specs.Makes.{Busy, IsDoneWith, Makes, Sends, done_times, first_done, is_refused}
use Rattle.kb_make.specs.Summaries.{IsSummary, summary_text}

-- nothing to do
abbrev done : MachineValue → Busy
done machine = record { machine = machine; works = [] }

-- once nothing is left to do, nothing more is done
done-stays : (count today : ℕ) (machine : MachineValue) → done_times count today (done machine) ≡ done machine
done-stays zero today machine = refl
done-stays (suc count) today machine = done-stays count today machine

ends-stays : (count today : ℕ) (busy : Busy) (last other : MachineValue) → busy ≡ done last
    → done_times count today busy ≡ done other → last ≡ other
ends-stays count today busy last other is ends =
    ap (λ (one : Busy). one.machine) (sym (done-stays count today last) ∙ sym (ap (done_times count today) is)
    ∙ ends)

times-once : (count more today : ℕ) (busy : Busy) (last other : MachineValue)
    → done_times count today busy ≡ done last → done_times more today busy ≡ done other → last ≡ other
times-once zero more today busy last other is ends = ends-stays more today busy last other is ends
times-once (suc count) zero today busy last other ends is =
    sym (ends-stays (suc count) today busy other last is ends)
times-once (suc count) (suc more) today busy last other one two =
    times-once count more today (first_done today busy.machine busy.works) last other one two

done-once : (today : ℕ) (busy : Busy) (last other : MachineValue) → IsDoneWith today busy last
    → IsDoneWith today busy other → last ≡ other
done-once today busy last other one two = times-once one.0 two.0 today busy last other one.1 two.1

-- commands lead to one end, and so many are refused
sends-once : (entries : List Entry) (machine last other : MachineValue) (refused more : ℕ)
    → Sends machine entries last refused → Sends machine entries other more → (last ≡ other)
    × (refused ≡ more)
sends-once [] machine last other refused more one two = (one.0 ∙ sym two.0, one.1 ∙ sym two.1)
sends-once (entry ∷ later) machine last other refused more one two =
    let same : two.0 ≡ one.0 = done-once entry.0 _ two.0 one.0 two.2 one.2 in
    let moved = subst (λ (next : MachineValue). Sends next later other two.1) same two.3 in
    let rest = sends-once later one.0 last other one.1 two.1 one.3 moved in (
      rest.0,
      one.4 ∙ ap (λ (others : ℕ). (if is_refused machine entry then 1 else 0) + others) rest.1
          ∙ sym two.4,
    )

-- a text says one thing
said-once : {A : Type 0} (read : Result A TextFault) (one other : A) → read ≡ Ok one → read ≡ Ok other
    → one ≡ other
said-once read one other said told = cc

catalog-once : (one other : CatalogText) → one.text ≡ other.text → catalog_read one.text ≡ Ok one.version
    → catalog_read other.text ≡ Ok other.version → one ≡ other
catalog-once one other same said told =
    ap₂ (λ text version.
    let made : CatalogText = record { text = text; version = version } in made) same
    (said-once (catalog_read one.text) one.version other.version said (ap catalog_read same ∙ told))

overdue-once : (one other : OverdueText) → one.text ≡ other.text → overdue_read one.text ≡ Ok one.states
    → overdue_read other.text ≡ Ok other.states → one ≡ other
overdue-once one other same said told =
    ap₂ (λ text states.
    let made : OverdueText = record { text = text; states = states } in made) same
    (said-once (overdue_read one.text) one.states other.states said (ap overdue_read same ∙ told))

-- the machine and the number are determined
makes-once : (seed accounts months : ℕ) (last other : MachineValue) (refused more : ℕ)
    → Makes seed accounts months last refused → Makes seed accounts months other more
    → (last ≡ other) × (refused ≡ more)
makes-once seed accounts months last other refused more one two =
    let catalogs = catalog-once two.catalog one.catalog (two.texts.catalog_kept ∙ sym one.texts.catalog_kept)
    two.texts.catalog_said one.texts.catalog_said in
    let overdues = overdue-once two.overdue one.overdue (two.texts.overdue_kept ∙ sym one.texts.overdue_kept)
    two.texts.overdue_said one.texts.overdue_said in
    let start = ap₂ (λ (catalog : CatalogText) (overdue : OverdueText). replay
    (first_commands (january 1) catalog overdue))
    catalogs overdues in
    let moved = subst (λ (first : MachineValue). Sends first (commands_of seed accounts months) other more)
    start two.sends in
    sends-once (commands_of seed accounts months) _ last other refused more one.sends moved

-- and so is the text
pub summary_once : (seed accounts months : ℕ) (text other : List ℕ) → IsSummary seed accounts months text
    → IsSummary seed accounts months other → text ≡ other
summary_once seed accounts months text other one two =
    let same = makes-once seed accounts months one.last two.last one.refused two.refused one.made two.made in
    one.told
    ∙ ap₂ (λ (last : MachineValue) (refused : ℕ). summary_text (totals_of (last ∷ [])) refused) same.0 same.1
    ∙ sym two.told
