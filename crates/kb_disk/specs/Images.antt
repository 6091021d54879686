-- What the calls of a disk do to its bytes, and what a crash may leave of them: the images. A write or a cut
-- that isn't synced yet may be half there, so an image may be shorter than what a read gives, or longer.
use Rattle.std.specs.Prelude.{ℕ, ◌≡◌, ◌≤◌, ◌<◌, ◌+◌, min, max, List, [], ◌∷◌, ◌++◌, length, take, drop, refl}
use Rattle.std.proofs.Common.{lit≤}

-- the bytes after a write at a place, over what is there and past the end
abbrev pub overwritten : List ℕ → ℕ → List ℕ → List ℕ
overwritten old at bytes = take at old ++ (bytes ++ drop (at + length bytes) old)

over_and_past_the_end : overwritten (1 ∷ 2 ∷ 3 ∷ []) 2 (8 ∷ 9 ∷ []) ≡ 1 ∷ 2 ∷ 8 ∷ 9 ∷ []
over_and_past_the_end = refl

-- What a read into a buffer gave: so many of the bytes from this place on, and some where there are any.
pub record Gives (bytes : List ℕ) (at : ℕ) (buffer : List ℕ) (count : ℕ) : Type 0 where
  pub given : take count buffer ≡ take count (drop at bytes)
  pub there : count ≤ length (drop at bytes)
  pub some : 0 < length buffer → at < length bytes → 0 < count

two_of_three : Gives (1 ∷ 2 ∷ 3 ∷ []) 1 (2 ∷ 3 ∷ 0 ∷ []) 2
two_of_three = record { given = refl; there = lit≤ tt; some = λ room more. lit≤ tt }

-- An image after a write of so many bytes at a place, which a crash may have cut short: any bytes in the
-- range and past the old end, the same bytes elsewhere.
pub record Torn (at size : ℕ) (old new : List ℕ) : Type 0 where
  pub before : take (min at (length old)) new ≡ take at old
  pub no_shorter : length old ≤ length new
  pub no_longer : length new ≤ max (length old) (at + size)
  pub after : drop (at + size) new ≡ drop (at + size) old

torn_in_the_middle : Torn 1 2 (1 ∷ 2 ∷ 3 ∷ 4 ∷ []) (1 ∷ 8 ∷ 3 ∷ 4 ∷ [])
torn_in_the_middle = record { before = refl; no_shorter = lit≤ tt; no_longer = lit≤ tt; after = refl }

-- An image after a cut to a size, which a crash may have kept from some or all of the bytes: a first part of
-- the old one, no shorter than the cut leaves it.
pub record CutDown (size : ℕ) (old new : List ℕ) : Type 0 where
  pub no_shorter : min size (length old) ≤ length new
  pub front : take (length new) old ≡ new

cut_in_part : CutDown 1 (1 ∷ 2 ∷ 3 ∷ []) (1 ∷ 2 ∷ [])
cut_in_part = record { no_shorter = lit≤ tt; front = refl }

-- each image after a step comes of an image before it by the step
abbrev pub Follows : (List ℕ → List ℕ → Type 0) → (List ℕ → Type 0) → (List ℕ → Type 0) → Type 0
Follows Step before after = (image : List ℕ) → after image → (old : List ℕ) × before old × Step old image

-- each image after is an image before
abbrev pub IsAmong : (List ℕ → Type 0) → (List ℕ → Type 0) → Type 0
IsAmong after before = (image : List ℕ) → after image → before image

-- a crash leaves these bytes and no others
abbrev pub Only : List ℕ → (List ℕ → Type 0) → Type 0
Only bytes images = (image : List ℕ) → images image → image ≡ bytes
