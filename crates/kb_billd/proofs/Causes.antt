-- What a run of the program leaves, whatever its words are.
use Rattle.std.specs.Prelude.{⊤}
use Rattle.std.proofs.Common.{◌≡◌, ℕ, inl, inr, arith, List, Option, None, Some, Result, Ok, Err}
use Rattle.std.proofs.Common.{false, sym, subst, ◌∙◌}
use Rattle.kb_base.specs.Faults.{Rose}
use Rattle.kb_disk.specs.Places.{SameLanes}
use Rattle.kb_disk.specs.Told.{DiskTold, VaultTold}
use Rattle.kb_gateway.specs.Told.{MarketTold, no_market_told}
use Rattle.kb_runs.specs.Reading.{Known}
use Rattle.kb_words.specs.declared.words.Words.{Words}
use Rattle.kb_words.specs.declared.words.Words.TheVariants as words
use Rattle.kb_apply.specs.Applying.{Applies}
use Rattle.kb_apply.specs.LaneRuns.{Outside, lanes_machine}
use Rattle.kb_folder.specs.declared.unopened.Unopened.{Unopened}
use Rattle.kb_folder.specs.declared.unopened.Unopened.TheVariants as unopened
use Rattle.kb_folder.specs.Openings.{IsCause}
use Rattle.kb_runs.specs.declared.stop.Stop.{Stop}
use Rattle.kb_runs.specs.declared.stop.Stop.TheVariants as stops
use Rattle.kb_reports.specs.declared.printing.Unprinted.{Unprinted}
use Rattle.kb_reports.specs.declared.printing.Unprinted.TheVariants as unprinted
use Rattle.kb_reports.specs.Listings.{Said}
use Rattle.kb_billd.specs.Reports.{ReportsFolder, outcome_of_printing, said_by}
use Rattle.kb_billd.specs.Runs.{AppliesFolder, stop_of_unopened}
use Rattle.kb_billd.specs.Summaries.{MakesBy}
use Rattle.kb_billd.specs.TopCall.{AppliesBy, Around, Begins, Does, alone, gateway_of}
use Rattle.kb_billd.proofs.Founded.{founding_disk, founding_no_market}

-- the program is stopped so
abbrev stopped : Stop → Result (Unit {0}) Stop
stopped stop = Err stop

-- lanes that aren't opened since a disk failed, or since the market did
unopened_disk : {D : Type 0} (folder : List ℕ) (old new : VaultTold D) (market market_after : ℕ)
    (fault : Unopened)
    → stopped (stop_of_unopened fault) ≡ stopped stops.Disk → IsCause folder old new market market_after fault
    → Rose old.faults new.faults
unopened_disk folder old new market market_after unopened.Disk same cause = cause.0
unopened_disk folder old new market market_after unopened.NoMemory same cause = absurd (cc)
unopened_disk folder old new market market_after (unopened.Journal lane at) same cause = absurd (cc)
unopened_disk folder old new market market_after unopened.Market same cause = absurd (cc)

unopened_market : {D : Type 0} (folder : List ℕ) (old new : VaultTold D) (market market_after : ℕ)
    (fault : Unopened)
    → stopped (stop_of_unopened fault) ≡ stopped stops.Market
    → IsCause folder old new market market_after fault
    → Rose market market_after
unopened_market folder old new market market_after unopened.Disk same cause = absurd (cc)
unopened_market folder old new market market_after unopened.NoMemory same cause = absurd (cc)
unopened_market folder old new market market_after (unopened.Journal lane at) same cause = absurd (cc)
unopened_market folder old new market market_after unopened.Market same cause = cause.1

-- no market fails where none is asked
nobody : Rose 0 0 → ⊥
nobody rose = absurd (omega (arith, rose (omega arith)))

module _ {D G C : Type 0} (outside : Outside D G C) (serves : G → ℕ → Type 0)
    (folder : List ℕ) (clock : C) (old new : VaultTold D) (market market_after : MarketTold G)
    (left left_after written written_after : Known)
    (outcome : Result (Unit {0}) Stop) where
  applied_inside : AppliesFolder outside serves folder clock old new market market_after left left_after
      written written_after outcome → SameLanes new.is_out old.is_out
  applied_inside (inl (fault, told, leaves)) = leaves.same.out
  applied_inside (inr runs) = runs.inside

  applied_disk : AppliesFolder outside serves folder clock old new market market_after left left_after
      written written_after outcome → outcome ≡ Err stops.Disk → Rose old.faults new.faults
  applied_disk (inl (fault, told, leaves)) is =
      unopened_disk folder old new market.faults market_after.faults fault (sym told ∙ is) leaves.cause
  applied_disk (inr runs) is = runs.counted is

  applied_market : AppliesFolder outside serves folder clock old new market market_after left left_after
      written written_after outcome → outcome ≡ Err stops.Market
      → Rose market.faults market_after.faults
  applied_market (inl (fault, told, leaves)) is =
      unopened_market folder old new market.faults market_after.faults fault (sym told ∙ is) leaves.cause
  applied_market (inr runs) is =
      absurd (subst (Applies (lanes_machine outside)
      (record { lanes = runs.first; clock = clock; full = false })
      left left_after written written_after runs.last) is runs.ran).1

module _ {D : Type 0} (disks : DiskTold D) (folder : List ℕ) (said : Said) (old new : VaultTold D)
    (written written_after : Known) (outcome : Result (Unit {0}) Stop) where
  reported_inside : ReportsFolder disks folder said old new written written_after outcome
      → SameLanes new.is_out old.is_out
  reported_inside (inl (fault, told, nothing)) = nothing.same.out
  reported_inside (inr (printed, told, reports)) = reports.same.out

  reported_disk : ReportsFolder disks folder said old new written written_after outcome
      → outcome ≡ Err stops.Disk
      → Rose old.faults new.faults
  reported_disk (inl (fault, told, nothing)) is = unopened_disk folder old new 0 0 fault
      (sym told ∙ is) nothing.cause
  reported_disk (inr (printed, told, reports)) is = by_print printed (sym told ∙ is)
    where
      by_print : (printed : Result (Unit {0}) Unprinted) → outcome_of_printing printed ≡ Err stops.Disk
          → Rose old.faults new.faults
      by_print (Ok done) same = absurd (cc)
      by_print (Err unprinted.Output) same = absurd (cc)
      by_print (Err unprinted.NoMemory) same = absurd (cc)

  reported_no_market : ReportsFolder disks folder said old new written written_after outcome
      → outcome ≡ Err stops.Market
      → ⊥
  reported_no_market (inl (fault, told, nothing)) is =
      nobody (unopened_market folder old new 0 0 fault (sym told ∙ is) nothing.cause)
  reported_no_market (inr (printed, told, reports)) is = by_print printed (sym told ∙ is)
    where
      by_print : (printed : Result (Unit {0}) Unprinted) → outcome_of_printing printed ≡ Err stops.Market → ⊥
      by_print (Ok done) same = absurd (cc)
      by_print (Err unprinted.Output) same = absurd (cc)
      by_print (Err unprinted.NoMemory) same = absurd (cc)

module _ {D G C : Type 0} (outside : Outside D G C) (serves : G → List ℕ → ℕ → Type 0) (clock : C)
    (old new : Around D G) (outcome : Result (Unit {0}) Stop) where
  by-inside : (folder : List ℕ) (gateway : Option (List ℕ))
      → AppliesBy outside serves folder clock old new outcome gateway
      → SameLanes new.vault.is_out old.vault.is_out
  by-inside folder (Some name) applies = applied_inside outside
      (λ gateway place. serves gateway name place) folder clock old.vault new.vault old.market
      new.market old.left new.left old.written new.written outcome applies
  by-inside folder None applies = applied_inside (alone outside)
      (λ gateway place. ⊤) folder clock old.vault new.vault no_market_told no_market_told old.left new.left
      old.written new.written outcome applies.1

  -- the lanes that were out are out
  does-inside : (given : Option Words) → Does outside serves clock old new outcome given
      → SameLanes new.vault.is_out old.vault.is_out
  does-inside None does = does.1.inside
  does-inside (Some (words.Init init)) does = does.founded.inside
  does-inside (Some (words.Apply apply)) does = by-inside apply.dir (gateway_of apply.gateway) does
  does-inside (Some (words.Bill bill)) does = does.1.inside
  does-inside (Some (words.Serve serve)) does = does.1.inside
  does-inside (Some (words.Report report)) does =
      reported_inside outside.disks report.dir (said_by report.kind report.day) old.vault new.vault
      old.written
      new.written outcome does.reported
  does-inside (Some (words.Make make)) does = does.untouched.inside

  pub begins_inside : (given : Option Words) → Begins outside serves clock old new outcome given
      → SameLanes new.vault.is_out old.vault.is_out
  begins_inside given (inl does) = does-inside given does
  begins_inside given (inr memory) = memory.1.inside

  by-disk : (folder : List ℕ) (gateway : Option (List ℕ))
      → AppliesBy outside serves folder clock old new outcome gateway → outcome ≡ Err stops.Disk
      → Rose old.vault.faults new.vault.faults
  by-disk folder (Some name) applies = applied_disk outside
      (λ gateway place. serves gateway name place) folder clock old.vault new.vault old.market
      new.market old.left new.left old.written new.written outcome applies
  by-disk folder None applies = applied_disk (alone outside)
      (λ gateway place. ⊤) folder clock old.vault new.vault no_market_told no_market_told old.left new.left
      old.written new.written outcome applies.1

  other : (stop : Stop) → outcome ≡ stopped stops.Words → outcome ≡ stopped stop
      → stopped stops.Words ≡ stopped stop
  other stop words is = sym words ∙ is

  -- a disk that failed is counted
  does-disk : (given : Option Words) → Does outside serves clock old new outcome given
      → outcome ≡ Err stops.Disk
      → Rose old.vault.faults new.vault.faults
  does-disk None does is = let same = other stops.Disk does.0 is in absurd (cc)
  does-disk (Some (words.Init init)) does is =
      founding_disk outside.disks does.today init old.vault new.vault outcome does.founded is
  does-disk (Some (words.Apply apply)) does is = by-disk apply.dir (gateway_of apply.gateway) does is
  does-disk (Some (words.Bill bill)) does is = let same = other stops.Disk does.0 is in absurd (cc)
  does-disk (Some (words.Serve serve)) does is = let same = other stops.Disk does.0 is in absurd (cc)
  does-disk (Some (words.Report report)) does is =
      reported_disk outside.disks report.dir (said_by report.kind report.day) old.vault new.vault old.written
      new.written outcome does.reported is
  does-disk (Some (words.Make make)) does is = absurd (subst
      (MakesBy make old.written new.written) is does.made)

  pub begins_disk : (given : Option Words) → Begins outside serves clock old new outcome given
      → outcome ≡ Err stops.Disk → Rose old.vault.faults new.vault.faults
  begins_disk given (inl does) is = does-disk given does is
  begins_disk given (inr memory) is = let same = sym memory.0 ∙ is in absurd (cc)

  by-market : (folder : List ℕ) (gateway : Option (List ℕ))
      → AppliesBy outside serves folder clock old new outcome gateway → outcome ≡ Err stops.Market
      → Rose old.market.faults new.market.faults
  by-market folder (Some name) applies is = applied_market outside
      (λ gateway place. serves gateway name place) folder clock old.vault new.vault old.market
      new.market old.left new.left old.written new.written outcome applies is
  by-market folder None applies is = absurd (nobody (applied_market (alone outside)
      (λ gateway place. ⊤) folder clock old.vault new.vault no_market_told no_market_told
      old.left new.left old.written new.written outcome applies.1 is))

  -- a market that failed is counted
  does-market : (given : Option Words) → Does outside serves clock old new outcome given
      → outcome ≡ Err stops.Market → Rose old.market.faults new.market.faults
  does-market None does is = let same = other stops.Market does.0 is in absurd (cc)
  does-market (Some (words.Init init)) does is =
      absurd (founding_no_market outside.disks does.today init old.vault new.vault outcome does.founded is)
  does-market (Some (words.Apply apply)) does is = by-market apply.dir (gateway_of apply.gateway) does is
  does-market (Some (words.Bill bill)) does is = let same = other stops.Market does.0 is in absurd (cc)
  does-market (Some (words.Serve serve)) does is = let same = other stops.Market does.0 is in absurd (cc)
  does-market (Some (words.Report report)) does is =
      absurd (reported_no_market outside.disks report.dir (said_by report.kind report.day) old.vault
      new.vault old.written
      new.written outcome does.reported is)
  does-market (Some (words.Make make)) does is = absurd
      (subst (MakesBy make old.written new.written) is does.made)

  pub begins_market : (given : Option Words) → Begins outside serves clock old new outcome given
      → outcome ≡ Err stops.Market → Rose old.market.faults new.market.faults
  begins_market given (inl does) is = does-market given does is
  begins_market given (inr memory) is = let same = sym memory.0 ∙ is in absurd (cc)
