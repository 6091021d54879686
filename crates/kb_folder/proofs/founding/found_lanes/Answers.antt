use Rattle.std.proofs.Common.{◌≡◌, ◌∷◌, [], List, ap₂, subst}
use Rattle.kb_codec.specs.Entries.{payload, payloads}
use Rattle.kb_folder.specs.Foundings.{CountsFaults, catalog_command, overdue_command, first_commands}
use Rattle.kb_folder.specs.Private.Runs.{Founds}
use Rattle.kb_folder.proofs.Outcomes.{from_start, founded_with, one_left, no_text, tells_of, others_same}
use Rattle.kb_folder.specs.Begun.{AllComeBackBy}
use Rattle.kb_folder.proofs.ComeBack.{crashes_with}
use Rattle.kb_folder.proofs.Unharmed.{unharmed_with}
use Rattle.kb_folder.proofs.founding.found_lanes.Goals as goal

-- the run, told from the start
abbrev Ran : (g : _) → goal.After-drop-first g → Type 0
Ran g c = Founds c.args.folder.now c.args.lanes
    (payloads (first_commands c.args.today c.in-Ok.ensures.records.0 c.in-Ok.ensures.records.1))
    (g.V.Vault.told c.args.vault.now).lane_bytes (g.V.Vault.told c.found_each.new.vault).lane_bytes
    c.found_each.result

ran : (g : _) (c : goal.After-drop-first g) → Ran g c
ran g c =
    let told = c.in-Ok.ensures.records in
    let one = c.deref.ensures.value in
    let other = c.deref-2.ensures.value in
    let first : c.deref.result.now ≡ payload (c.args.today, catalog_command told.0) = let is = told.3 in cc in
    let second : c.deref-2.result.now ≡ payload (c.args.today, overdue_command told.1) = let is =
    told.4 in cc in
    from_start c.args.folder.now c.args.lanes _ (g.V.Vault.told c.both_records.new.vault).lane_bytes
    (g.V.Vault.told c.found_each.new.vault).lane_bytes (g.V.Vault.told c.args.vault.now).lane_bytes
    c.found_each.result
    c.both_records.ensures.same_lanes
    (subst (λ (records : List (List _)). Founds c.args.folder.now c.args.lanes records
    (g.V.Vault.told c.both_records.new.vault).lane_bytes (g.V.Vault.told c.found_each.new.vault).lane_bytes
    c.found_each.result)
    (ap₂ (λ a b. a ∷ b ∷ []) first second) c.found_each.ensures.founds)

pub returns-clause-founded : goal.returns-clause-founded
returns-clause-founded g c =
    founded_with c.args.today c.args.folder.now c.args.lanes
    ((g.V.Vault.told c.args.vault.now).file_bytes c.args.catalog.now)
    ((g.V.Vault.told c.args.vault.now).file_bytes c.args.overdue.now)
    (g.V.Vault.told c.args.vault.now).lane_bytes
    (g.V.Vault.told c.found_each.new.vault).lane_bytes c.in-Ok.ensures.records.0 c.in-Ok.ensures.records.1
    c.in-Ok.ensures.records.2 c.found_each.result (ran g c)

pub returns-clause-refused : goal.returns-clause-refused
returns-clause-refused g c =
    tells_of ((g.V.Vault.told c.args.vault.now).file_bytes c.args.catalog.now)
    ((g.V.Vault.told c.args.vault.now).file_bytes c.args.overdue.now) c.found_each.result
    (no_text c.args.folder.now c.args.lanes _ (g.V.Vault.told c.args.vault.now).lane_bytes
    (g.V.Vault.told c.found_each.new.vault).lane_bytes c.found_each.result (ran g c)) c.in-Ok.ensures.judged

pub returns-clause-untouched : goal.returns-clause-untouched
returns-clause-untouched g c =
    λ fault is. absurd (no_text c.args.folder.now c.args.lanes _ (g.V.Vault.told c.args.vault.now).lane_bytes
    (g.V.Vault.told c.found_each.new.vault).lane_bytes c.found_each.result (ran g c) fault is)

pub returns-clause-not_empty : goal.returns-clause-not_empty
returns-clause-not_empty g c =
    λ lane is. let left = one_left c.args.folder.now c.args.lanes _
    (g.V.Vault.told c.args.vault.now).lane_bytes
    (g.V.Vault.told c.found_each.new.vault).lane_bytes c.found_each.result (ran g c) lane is in
    (left.0, left.2)

pub returns-clause-before : goal.returns-clause-before
returns-clause-before g c =
    λ lane is. let told = c.in-Ok.ensures.records in (
      told.0,
      told.1,
      told.2,
      (one_left c.args.folder.now c.args.lanes _ (g.V.Vault.told c.args.vault.now).lane_bytes
          (g.V.Vault.told c.found_each.new.vault).lane_bytes c.found_each.result (ran g c) lane is).1,
    )

pub returns-clause-unharmed : goal.returns-clause-unharmed
returns-clause-unharmed g c =
    unharmed_with c.args.today c.args.folder.now c.args.lanes
    ((g.V.Vault.told c.args.vault.now).file_bytes c.args.catalog.now)
    ((g.V.Vault.told c.args.vault.now).file_bytes c.args.overdue.now)
    (g.V.Vault.told c.args.vault.now).lane_bytes
    (g.V.Vault.told c.found_each.new.vault).lane_bytes c.in-Ok.ensures.records.0 c.in-Ok.ensures.records.1
    c.in-Ok.ensures.records.2 c.found_each.result (ran g c)

pub returns-clause-others : goal.returns-clause-others
returns-clause-others g c =
    others_same c.args.folder.now c.args.lanes _ (g.V.Vault.told c.args.vault.now).lane_bytes
    (g.V.Vault.told c.found_each.new.vault).lane_bytes c.found_each.result (ran g c)

pub returns-clause-counted : goal.returns-clause-counted
returns-clause-counted g c =
    subst (λ old. CountsFaults old (g.V.Vault.told c.found_each.new.vault).faults c.found_each.result)
    c.in-Ok.ensures.counted c.found_each.ensures.counted

-- what came back, by the texts as records
back : (g : _) (c : goal.After-drop-first g) → AllComeBackBy g.V.Disk.Disk.told c.args.folder.now c.args.lanes
    (payloads (first_commands c.args.today c.in-Ok.ensures.records.0 c.in-Ok.ensures.records.1))
    (g.V.Vault.told c.both_records.new.vault) (g.V.Vault.told c.found_each.new.vault) c.found_each.result
back g c =
    let told = c.in-Ok.ensures.records in
    let one = c.deref.ensures.value in
    let other = c.deref-2.ensures.value in
    let first : c.deref.result.now ≡ payload (c.args.today, catalog_command told.0) = let is = told.3 in cc in
    let second : c.deref-2.result.now ≡ payload (c.args.today, overdue_command told.1) = let is =
    told.4 in cc in
    subst (λ (records : List (List _)). AllComeBackBy g.V.Disk.Disk.told c.args.folder.now c.args.lanes records
    (g.V.Vault.told c.both_records.new.vault) (g.V.Vault.told c.found_each.new.vault) c.found_each.result)
    (ap₂ (λ a b. a ∷ b ∷ []) first second) c.found_each.ensures.moments

pub returns-clause-moments : goal.returns-clause-moments
returns-clause-moments g c =
    crashes_with g.V.Disk.Disk.told c.args.today c.args.folder.now c.args.lanes
    ((g.V.Vault.told c.args.vault.now).file_bytes c.args.catalog.now)
    ((g.V.Vault.told c.args.vault.now).file_bytes c.args.overdue.now)
    (g.V.Vault.told c.args.vault.now) (g.V.Vault.told c.both_records.new.vault)
    (g.V.Vault.told c.found_each.new.vault) c.in-Ok.ensures.records.0 c.in-Ok.ensures.records.1
    c.in-Ok.ensures.records.2 c.both_records.ensures.same_lanes c.both_records.ensures.same_back
    c.found_each.result (back g c)
