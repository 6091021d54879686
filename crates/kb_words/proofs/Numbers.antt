-- The number of some first digits, and of all.
use Rattle.std.proofs.Common.{◌≡◌, ℕ, ◌+◌, ◌-◌, ◌*◌, ◌<◌, ◌≤◌, ◌++◌, List, [], ◌∷◌, take, drop, length}
use Rattle.std.proofs.Common.{get_or, fold, sym, arith, ap, false, nat_le}
use Rattle.std.proofs.lemmas.Bool.{lt-leb}
use Rattle.std.proofs.lemmas.List.{take-append-drop}
use Rattle.std.proofs.lemmas.List.Sums.{fold-append, fold_more}
use Rattle.kb_days.specs.DateText.{number_of}

-- a number with one more digit
abbrev with_digit : ℕ → ℕ → ℕ
with_digit number digit = 10 * number + (digit - 48)

-- one more digit
pub number_of-more : (digits : List ℕ) (i : ℕ) → i < length digits
    → number_of (take (i + 1) digits) ≡ 10 * number_of (take i digits) + (get_or digits i 0 - 48)
number_of-more digits i h = fold_more with_digit 0 digits i 0 h

-- digits behind a number don't make it less
fold-rises : (digits : List ℕ) (number : ℕ) → number ≤ fold with_digit number digits
fold-rises [] number = omega arith
fold-rises (digit ∷ rest) number =
    let later = fold-rises rest (with_digit number digit) in omega (arith, later)

-- some first digits stand for no more than all
pub number_of-take : (digits : List ℕ) (i : ℕ) → number_of (take i digits) ≤ number_of digits
number_of-take digits i =
    let whole : number_of digits ≡ number_of (take i digits ++ drop i digits) =
    ap number_of (sym (take-append-drop i digits)) in
    let split = fold-append with_digit 0 (take i digits) (drop i digits) in
    let rises = fold-rises (drop i digits) (number_of (take i digits)) in
    omega (arith, whole, split, rises)

-- a number above the largest isn't one in the range
pub number_of-above : (digits : List ℕ) (i most : ℕ) → i < length digits
    → most < 10 * number_of (take i digits) + (get_or digits i 0 - 48) → nat_le (number_of digits) most
    ≡ false
number_of-above digits i most h above =
    let more = number_of-more digits i h in
    let part = number_of-take digits (i + 1) in
    lt-leb (number_of digits) most (omega (arith, more, part))
