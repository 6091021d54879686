-- Pieces whose last one is made longer, or has one behind it.
use Rattle.std.proofs.Common.{◌≡◌, ℕ, ◌-◌, ◌<◌, true, false, ◌&&◌, ◌==◌, List, [], ◌∷◌, ◌++◌, length, map}
use Rattle.std.proofs.Common.{slice_index_or, slice_set, refl, ap, subst, arith}
use Rattle.kb_base.specs.Runs.{Stretch}
use Rattle.kb_base.specs.Intervals.{last_two, push_stretch}
use Rattle.kb_due.specs.declared.cell.Cell.{Cell}
use Rattle.kb_due.specs.declared.cell.Piece.{Piece}
use Rattle.kb_due.specs.CellStretches.{same_cell, stretch_of}

module _ (last : Piece) (from to : ℕ) (cell : Cell) where
  abbrev pub next : Stretch Cell
  next = record { from = from; to = to; value = cell }

  abbrev pub longer : Piece
  longer = record { from = last.from; to = to; cell = last.cell }

  longer_at : (one : Piece) (later : List Piece) → last ≡ slice_index_or (one ∷ later) (length later) last
      → ((last.to == from) && same_cell last.cell cell) ≡ true
      → map stretch_of (slice_set (one ∷ later) (length later) longer)
      ≡ push_stretch same_cell (map stretch_of (one ∷ later)) next
  longer_at one [] is on =
      subst (λ (p : Piece). stretch_of longer ∷ [] ≡ last_two same_cell (stretch_of p) next) is (rw on refl)
  longer_at one (two ∷ later) is on = ap (λ pieces. stretch_of one ∷ pieces) (longer_at two later is on)

  other_at : (one : Piece) (later : List Piece) → last ≡ slice_index_or (one ∷ later) (length later) last
      → ((last.to == from) && same_cell last.cell cell) ≡ false
      → map stretch_of (one ∷ later) ++ next ∷ [] ≡ push_stretch same_cell (map stretch_of (one ∷ later)) next
  other_at one [] is off =
      subst (λ (p : Piece). stretch_of p ∷ next ∷ [] ≡ last_two same_cell (stretch_of p) next) is
      (rw off refl)
  other_at one (two ∷ later) is off = ap (λ pieces. stretch_of one ∷ pieces) (other_at two later is off)

  -- the last one goes on, and is made longer
  pub push_stretch-longer : (found : List Piece) → 0 < length found
      → last ≡ slice_index_or found (length found - 1) last
      → ((last.to == from) && same_cell last.cell cell) ≡ true
      → map stretch_of (slice_set found (length found - 1) longer)
      ≡ push_stretch same_cell (map stretch_of found) next
  push_stretch-longer [] some is on = absurd (omega (arith, some))
  push_stretch-longer (one ∷ later) some is on =
      let place : length (one ∷ later) - 1 ≡ length later = omega arith in
      rw place (longer_at one later (rw place at is) on)

  -- or it doesn't, and the next one stands behind it
  pub push_stretch-other : (found : List Piece) → 0 < length found
      → last ≡ slice_index_or found (length found - 1) last
      → ((last.to == from) && same_cell last.cell cell) ≡ false
      → map stretch_of found ++ next ∷ [] ≡ push_stretch same_cell (map stretch_of found) next
  push_stretch-other [] some is off = absurd (omega (arith, some))
  push_stretch-other (one ∷ later) some is off =
      let place : length (one ∷ later) - 1 ≡ length later = omega arith in
      other_at one later (rw place at is) off
