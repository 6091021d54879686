-- What a crash leaves of a lane's disk.
use Rattle.std.proofs.Common.{◌≡◌, ◌≤◌, ℕ, List, length, Some, ◌⊎◌, inl, inr}
use Rattle.std.proofs.Common.{arith, sym, subst, ◌∙◌}
use Rattle.kb_disk.specs.Moments.{AtEachMoment}
use Rattle.kb_disk.specs.Told.{DiskTold}
use Rattle.kb_journal.specs.Format.{StandsFor}
use Rattle.kb_codec.specs.Entries.{payloads}
use Rattle.kb_lane.specs.Lanes.{IsPart, LaneValue}
use Rattle.kb_desk.specs.Continuing.{Continues}
use Rattle.kb_folder.specs.OneLane.{IsOpened}

module _ {D G : Type 0} (disks : DiskTold D) (count number : ℕ) (bytes : List ℕ) (first last : LaneValue D G)
    (opened : IsOpened disks count number (Some bytes) first)
    (goes : Continues disks.honest disks.moment disks.left_since disks.fault_count first last) where
  -- what was there at first stands for the first commands
  at_first : (image : List ℕ) → disks.left_since first.log.journal.disk 0 image
      → IsPart last.log.opened last.log image
  at_first image left =
      let more = goes.well.further in
      let same : image ≡ bytes = opened.unharmed image left in
      inl (
        first.log.history,
        more.0,
        more.1,
        subst (λ (n : ℕ). n ≤ length first.log.history) (sym (goes.itself.opened ∙ opened.opened))
            (omega arith),
        subst (λ (b : List ℕ). StandsFor last.log.journal.lanes last.log.journal.lane
            (payloads first.log.history) b) (sym same)
            (subst (λ (n : ℕ). StandsFor n last.log.journal.lane (payloads first.log.history) bytes)
            (sym (goes.itself.lanes ∙ opened.one_of_them))
            (subst (λ (n : ℕ). StandsFor count n (payloads first.log.history) bytes)
            (sym (goes.itself.lane ∙ opened.place)) opened.stands)),
      )

  -- at each moment since it was taken out
  pub prefix_left : (image : List ℕ) → disks.left_since last.log.journal.disk 0 image
      → IsPart last.log.opened last.log image
  prefix_left image left = by_run (goes.well.within opened.running opened.bytes.true_to_them)
    where
      by_run : (last.log.journal.disk ≡ first.log.journal.disk)
          ⊎ AtEachMoment disks.moment disks.left_since first.log.journal.disk last.log.journal.disk
          (IsPart (length first.log.history) last.log) → IsPart last.log.opened last.log image
      by_run (inl same) = at_first image (subst (λ (disk : D). disks.left_since disk 0 image) same left)
      by_run (inr moments) = by_moment (moments.before 0 image (omega arith) left)
        where
          by_moment : disks.left_since first.log.journal.disk 0 image
              ⊎ IsPart (length first.log.history) last.log image → IsPart last.log.opened last.log image
          by_moment (inl before) = at_first image before
          by_moment (inr part) = subst (λ (n : ℕ). IsPart n last.log image)
              (sym (goes.itself.opened ∙ opened.opened)) part
