-- A journal with one record at most has room for another.
use Rattle.std.proofs.Common.{ℕ, ◌≤◌, inl, inr, arith}
use Rattle.kb_journal.specs.Keeping.{JournalValue, IsFull}

pub has_room : {D : Type 0} (journal : JournalValue D) (size : ℕ) → journal.count ≤ 1 → journal.gate ≤ 65557
    → size ≤ 65536 → IsFull journal size → ⊥
has_room journal size few short sized (inl many) = absurd (omega (arith, few, many))
has_room journal size few short sized (inr long) = absurd (omega (arith, short, sized, long))
