-- A list of which the member at a place is edited.
use Rattle.std.proofs.Common.{◌≡◌, ℕ, zero, suc, ◌+◌, Bool, if◌then◌else◌, List, [], ◌∷◌, length, get_or, set}
use Rattle.std.proofs.Common.{slice_get, Some, refl, ap, sym, ◌∙◌}
use Rattle.std.specs.List.{position_from}
use Rattle.std.proofs.lemmas.Option.{none-some}
use Rattle.kb_timeline.specs.declared.subscription.Subscription.{Subscription}
use Rattle.kb_timeline.specs.TimelineEdits.{TimelineValue, edited_at, with_edit}

module _ {A : Type 0} where
  -- a new member in the place of another one
  pub edited_at-set : (place : ℕ) (new : A) (members : List A)
      → edited_at place (λ (old : A). new) members ≡ set members place new
  edited_at-set place new [] = refl
  edited_at-set zero new (member ∷ later) = refl
  edited_at-set (suc place) new (member ∷ later) = ap (λ rest. member ∷ rest) (edited_at-set place new later)

  -- an edit makes one new member of the member that is there
  pub edited_at-there : (place : ℕ) (edit : A → A) (old : A) (members : List A)
      → slice_get members place ≡ Some old
      → edited_at place edit members ≡ edited_at place (λ (member : A). edit old) members
  edited_at-there place edit old [] there = absurd (none-some old there)
  edited_at-there zero edit old (member ∷ later) there =
      let same : member ≡ old = cc in ap (λ new. edit new ∷ later) same
  edited_at-there (suc place) edit old (member ∷ later) there =
      ap (λ rest. member ∷ rest) (edited_at-there place edit old later there)

  -- there are as many members as before
  pub length-edited_at : (place : ℕ) (edit : A → A) (members : List A)
      → length (edited_at place edit members) ≡ length members
  length-edited_at place edit [] = refl
  length-edited_at zero edit (member ∷ later) = refl
  length-edited_at (suc place) edit (member ∷ later) =
      ap (λ count. suc count) (length-edited_at place edit later)

  -- an edit that passes a test as the old member does leaves what is found by it
  pub position_from-edited_at : (test : A → Bool) (start place : ℕ) (old new : A) (members : List A)
      → slice_get members place ≡ Some old → test new ≡ test old
      → position_from test start (edited_at place (λ (member : A). new) members)
      ≡ position_from test start members
  position_from-edited_at test start place old new [] there kept = refl
  position_from-edited_at test start zero old new (member ∷ later) there kept =
      let same : member ≡ old = cc in
      ap (λ passes. if passes then Some start else position_from test (start + 1) later)
      (kept ∙ ap test (sym same))
  position_from-edited_at test start (suc place) old new (member ∷ later) there kept =
      ap (λ rest. if test member then Some start else rest)
      (position_from-edited_at test (start + 1) place old new later there kept)

  -- what an edit keeps of the member that is there, it keeps of each
  pub edited_at-keeps : {B : Type 0} (of : A → B) (place : ℕ) (old new : A) (members : List A)
      → slice_get members place ≡ Some old → of new ≡ of old
      → (other : ℕ) (d : A)
      → of (get_or (edited_at place (λ (member : A). new) members) other d) ≡ of (get_or members other d)
  edited_at-keeps of place old new [] there kept other d = refl
  edited_at-keeps of zero old new (member ∷ later) there kept zero d =
      let same : member ≡ old = cc in kept ∙ ap of (sym same)
  edited_at-keeps of zero old new (member ∷ later) there kept (suc other) d = refl
  edited_at-keeps of (suc place) old new (member ∷ later) there kept zero d = refl
  edited_at-keeps of (suc place) old new (member ∷ later) there kept (suc other) d =
      edited_at-keeps of place old new later there kept other d

-- where the new subscription is what an edit makes of the one that is there, that edit is made
pub with_edit-there : (timeline : TimelineValue) (place : ℕ) (edit : Subscription → Subscription)
    (old new : Subscription)
    → slice_get timeline.subscriptions place ≡ Some old → new ≡ edit old
    → with_edit timeline place (λ (subscription : Subscription). new) ≡ with_edit timeline place edit
with_edit-there timeline place edit old new there made =
    ap (λ (subscriptions : List Subscription). record timeline { subscriptions = subscriptions })
    (ap (λ (subscription : Subscription). edited_at place (λ (member : Subscription). subscription)
    timeline.subscriptions) made
    ∙ sym (edited_at-there place edit old timeline.subscriptions there))
