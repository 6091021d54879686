-- The text of a day, YYYY-MM-DD.
use Rattle.std.specs.Prelude.{ℕ, zero, suc, ◌+◌, ◌-◌, ◌*◌, ◌/◌, ◌%◌, ◌≡◌, Bool, ◌&&◌, nat_eq, nat_le}
use Rattle.std.specs.Prelude.{if◌then◌else◌, List, [], ◌∷◌, ◌++◌, take, drop, fold, codes, Option, Some, None}
use Rattle.std.specs.Prelude.{refl}
use Rattle.kb_days.specs.Calendar.{first_day, last_day, month_start, month_of, day_of_month, month_after}
use Rattle.kb_days.specs.Calendar.{month_length}

-- a number in so many decimal digits
abbrev pub digits : ℕ → ℕ → List ℕ
digits zero number = []
digits (suc count) number = digits count (number / 10) ++ (48 + number % 10) ∷ []

-- the text of a civil date: four digits, two and two
unfoldable pub civil_text : ℕ → ℕ → ℕ → List ℕ
civil_text year month day = digits 4 year ++ codes "-" ++ digits 2 month ++ codes "-" ++ digits 2 day

-- the text of a day
unfoldable pub date_text : ℕ → List ℕ
date_text day = civil_text (1970 + month_of day / 12) (month_of day % 12 + 1) (day_of_month day)

text_of_a_day : date_text 19792 ≡ codes "2024-03-10"
unfolding date_text civil_text day_of_month month_of month_after month_start month_length
text_of_a_day = refl

-- the number that some decimal digits stand for
abbrev pub number_of : List ℕ → ℕ
number_of text = fold (λ number digit. 10 * number + (digit - 48)) 0 text

-- the day that the digits of a text name
unfoldable pub named_day : List ℕ → ℕ
named_day text =
    month_start (12 * (number_of (take 4 text) - 1970) + (number_of (take 2 (drop 5 text)) - 1))
    + (number_of (take 2 (drop 8 text)) - 1)

-- two texts are the same
abbrev pub same_text : List ℕ → List ℕ → Bool
same_text [] [] = Bool.true
same_text [] (b ∷ bs) = Bool.false
same_text (a ∷ as_) [] = Bool.false
same_text (a ∷ as_) (b ∷ bs) = nat_eq a b && same_text as_ bs

-- the day of a text: the one that its digits name, if a command may name it and it has this text
unfoldable pub read_day : List ℕ → Option ℕ
read_day text =
    if nat_le first_day (named_day text) && nat_le (named_day text) last_day
    && same_text (date_text (named_day text)) text
    then Some (named_day text) else None
