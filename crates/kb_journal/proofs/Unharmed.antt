-- What is left of a disk where its journal isn't made.
use Rattle.std.proofs.Common.{ℕ, ◌≡◌, List, [], ◌∷◌, length, refl, sym, ◌∙◌, subst, inl, inr}
use Rattle.std.proofs.Common.{arith}
use Rattle.kb_disk.specs.Images.{Torn, Only, IsAmong}
use Rattle.kb_disk.specs.Moments.{Elapses, AtEachMoment}
use Rattle.kb_disk.proofs.Moments.{called, then_on, weaker}
use Rattle.kb_journal.specs.Beginnings.{HasOrBegins}

-- a write of the header that is cut short begins the journal
pub torn_begins : (lanes lane : ℕ) (records : List (List ℕ)) (size : ℕ) (old image : List ℕ)
    → length old ≡ 0 → size ≡ 17 → Torn 0 size old image → HasOrBegins lanes lane records old image
torn_begins lanes lane records size [] image none is torn = inr
    (refl, inl (omega (arith, torn.no_longer, is)))
torn_begins lanes lane records size (byte ∷ bytes) image none is torn = absurd (omega arith)

-- so at each moment of the call that asks for the size and of the write
pub begins_at_each_moment : {D : Type 0} (seen : D → List ℕ) (images : D → List ℕ → Type 0) (moment : D → ℕ)
    (left_since : D → ℕ → List ℕ → Type 0) (lanes lane : ℕ) (records : List (List ℕ)) (size : ℕ)
    (old middle new : D)
    → ((image : List ℕ) → left_since old (moment old) image → images old image)
    → Elapses (moment old) (moment middle) (left_since old) (left_since middle) (images middle)
    → IsAmong (images middle) (images old) → Only (seen old) (images old) → seen middle ≡ seen old
    → length (seen middle) ≡ 0 → size ≡ 17
    → (Only (seen middle) (images middle)
    → AtEachMoment moment left_since middle new (Torn 0 size (seen middle)))
    → AtEachMoment moment left_since old new (HasOrBegins lanes lane records (seen old))
begins_at_each_moment seen images moment left_since lanes lane records size old middle new only_now time among
    only same none is write =
    let P : List ℕ → Type 0 = HasOrBegins lanes lane records (seen old) in
    let then : AtEachMoment moment left_since middle new (Torn 0 size (seen middle)) =
    write (λ image now. only image (among image now) ∙ sym same) in
    then_on moment left_since old middle new P
    (called moment left_since images old middle P only_now time (λ image was. inl (only image was))
    (λ image now. inl (only image (among image now))))
    (weaker moment left_since middle new (Torn 0 size (seen middle)) P
    (λ image torn. subst (λ (bytes : List ℕ). HasOrBegins lanes lane records bytes image) same
    (torn_begins lanes lane records size (seen middle) image none is torn)) then)
