-- A civil date's text is ten bytes, and names one date.
use Rattle.std.proofs.Common.{◌≡◌, ℕ, ◌^◌, ◌<◌, List, [], ◌∷◌, ◌++◌, length, get_or, take, drop, refl, ap}
use Rattle.std.proofs.Common.{◌∙◌, arith, length-take, length-drop}
use Rattle.kb_days.specs.DateText.{digits, civil_text}
use Rattle.kb_days.proofs.Digits.{digits-injective}

-- a civil date's text has ten bytes
pub length-civil_text : (text : List ℕ) (y m d : ℕ) → text ≡ civil_text y m d → length text ≡ 10
unfolding civil_text
length-civil_text text y m d e = rw e refl

-- the fifth is a dash
pub first_dash-civil_text : (text : List ℕ) (y m d : ℕ) → text ≡ civil_text y m d → get_or text 4 0 ≡ 45
unfolding civil_text
first_dash-civil_text text y m d e = rw e refl

-- and so is the eighth
pub second_dash-civil_text : (text : List ℕ) (y m d : ℕ) → text ≡ civil_text y m d → get_or text 7 0 ≡ 45
unfolding civil_text
second_dash-civil_text text y m d e = rw e refl

-- the year's digits come first
pub year-civil_text : (text : List ℕ) (y m d : ℕ) → y < 10000 → text ≡ civil_text y m d
    → (y < 10 ^ length (take 4 text)) × (take 4 text ≡ digits (length (take 4 text)) y)
unfolding civil_text
year-civil_text text y m d h e = rw e (h, refl)

-- the month's digits come after five bytes
pub month-civil_text : (text : List ℕ) (y m d : ℕ) → m < 100 → text ≡ civil_text y m d
    → (m < 10 ^ length (take 2 (drop 5 text)))
    × (take 2 (drop 5 text) ≡ digits (length (take 2 (drop 5 text))) m)
unfolding civil_text
month-civil_text text y m d h e = rw e (h, refl)

-- the day's digits come after eight bytes
pub day-civil_text : (text : List ℕ) (y m d : ℕ) → d < 100 → text ≡ civil_text y m d
    → (d < 10 ^ length (take 2 (drop 8 text)))
    × (take 2 (drop 8 text) ≡ digits (length (take 2 (drop 8 text))) d)
unfolding civil_text
day-civil_text text y m d h e = rw e (h, refl)

-- ten bytes are four, one, two, one and two
ten_bytes : (text : List ℕ) → length text ≡ 10
    → text ≡ take 4 text ++ get_or text 4 0 ∷ [] ++ take 2 (drop 5 text) ++ get_or text 7 0 ∷ [] ++ take 2
    (drop 8 text)
ten_bytes (a ∷ b ∷ c ∷ d ∷ e ∷ f ∷ g ∷ h ∷ i ∷ j ∷ []) len = refl
ten_bytes other len = absurd (omega arith)

-- ten bytes with digits and dashes at their places are a civil date's text
pub civil_text-made : (text : List ℕ) (y m d : ℕ) → length text ≡ 10 → get_or text 4 0 ≡ 45
    → get_or text 7 0 ≡ 45 → take 4 text ≡ digits (length (take 4 text)) y
    → take 2 (drop 5 text) ≡ digits (length (take 2 (drop 5 text))) m
    → take 2 (drop 8 text) ≡ digits (length (take 2 (drop 8 text))) d → text ≡ civil_text y m d
unfolding civil_text
civil_text-made text y m d len first second year month day =
    let four : length (take 4 text) ≡ 4 = simp length-take (omega arith) in
    let two : length (take 2 (drop 5 text)) ≡ 2 = simp (length-take, length-drop) (omega arith) in
    let last : length (take 2 (drop 8 text)) ≡ 2 = simp (length-take, length-drop) (omega arith) in
    let year_is : take 4 text ≡ digits 4 y = rw four at year in
    let month_is : take 2 (drop 5 text) ≡ digits 2 m = rw two at month in
    let day_is : take 2 (drop 8 text) ≡ digits 2 d = rw last at day in
    ten_bytes text len ∙ rw (first, second, year_is, month_is, day_is) refl

-- two civil dates with one text are the same
pub civil_text-injective : (y m d y₂ m₂ d₂ : ℕ) → y < 10000 → m < 100 → d < 100 → y₂ < 10000 → m₂ < 100
    → d₂ < 100 → civil_text y m d ≡ civil_text y₂ m₂ d₂ → (y ≡ y₂) × (m ≡ m₂) × (d ≡ d₂)
unfolding civil_text
civil_text-injective y m d y₂ m₂ d₂ hy hm hd hy₂ hm₂ hd₂ e = (
  digits-injective 4 y y₂ hy hy₂ (ap (take 4) e),
  digits-injective 2 m m₂ hm hm₂
      (ap (λ text. take 2 (drop 5 text)) e),
  digits-injective 2 d d₂ hd hd₂
      (ap (λ text. take 2 (drop 8 text)) e),
)
