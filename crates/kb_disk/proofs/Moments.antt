-- How what holds at each moment goes on over calls of a disk.
use Rattle.std.proofs.Common.{ℕ, ◌≤◌, List, inl, inr, ⊎_elim, arith}
use Rattle.kb_disk.specs.Moments.{Elapses, AtEachMoment}

module _ {D : Type 0} (moment : D → ℕ) (left_since : D → ℕ → List ℕ → Type 0) where
  -- one call: what holds of the images before it and after it holds at each moment of it
  pub called : (images : D → List ℕ → Type 0) (old new : D) (P : List ℕ → Type 0)
      → ((image : List ℕ) → left_since old (moment old) image → images old image)
      → Elapses (moment old) (moment new) (left_since old) (left_since new) (images new)
      → ((image : List ℕ) → images old image → P image)
      → ((image : List ℕ) → images new image → P image)
      → AtEachMoment moment left_since old new P
  called images old new P only_now time first last = record {
    later = time.later;
    each = λ image left. ⊎_elim (λ before. first image (only_now image before)) (last image)
        (time.nothing_else (moment old) image (omega arith) left);
    before = λ then image early left. ⊎_elim (λ before. inl before) (λ now. inr (last image now))
        (time.nothing_else then image early left);
  }

  -- no call
  pub unmoved : (images : D → List ℕ → Type 0) (disk : D) (P : List ℕ → Type 0)
      → ((image : List ℕ) → left_since disk (moment disk) image → images disk image)
      → ((image : List ℕ) → images disk image → P image)
      → AtEachMoment moment left_since disk disk P
  unmoved images disk P only_now here = record {
    later = omega arith;
    each = λ image left. here image (only_now image left);
    before = λ then image early left. inl left;
  }

  -- one run of calls after another
  pub then_on : (old middle new : D) (P : List ℕ → Type 0) → AtEachMoment moment left_since old middle P
      → AtEachMoment moment left_since middle new P → AtEachMoment moment left_since old new P
  then_on old middle new P first second = record {
    later = omega (arith, first.later, second.later);
    each = λ image left. ⊎_elim (first.each image) (λ is. is)
        (second.before (moment old) image first.later left);
    before = λ then image early left. ⊎_elim (first.before then image early) (λ is. inr is)
        (second.before then image (omega (arith, early, first.later)) left);
  }

  -- what follows from it holds too
  pub weaker : (old new : D) (P Q : List ℕ → Type 0) → ((image : List ℕ) → P image → Q image)
      → AtEachMoment moment left_since old new P → AtEachMoment moment left_since old new Q
  weaker old new P Q follows run = record {
    later = run.later;
    each = λ image left. follows image (run.each image left);
    before = λ then image early left. ⊎_elim (λ before. inl before) (λ is. inr (follows image is))
        (run.before then image early left);
  }

  -- the images at the end are among those of its moments
  pub now_has : (images : D → List ℕ → Type 0) (old new : D) (P : List ℕ → Type 0)
      → ((time : ℕ) (image : List ℕ) → time ≤ moment new → images new image → left_since new time image)
      → AtEachMoment moment left_since old new P → (image : List ℕ) → images new image → P image
  now_has images old new P counts_now run image now = run.each image
      (counts_now (moment old) image run.later now)
