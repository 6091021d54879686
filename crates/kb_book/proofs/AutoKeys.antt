-- Automatic payments of two invoices, or of one on two days, have different keys.
use Rattle.std.proofs.Common.{◌≡◌, ℕ, ◌+◌, ◌/◌, ◌%◌, ◌<◌, ◌≤◌, ◌^◌, List, ◌++◌, length, take, drop}
use Rattle.std.proofs.Common.{codes, decimal, arith, ap, sym, ◌∙◌, refl, length-append}
use Rattle.std.proofs.lemmas.Fmt.{decimal_injective}
use Rattle.std.proofs.Math.Seq.{take-append_seam, drop-append_seam}
use Rattle.kb_days.specs.Calendar.{last_day, month_of, month_start, day_of_month}
use Rattle.kb_days.specs.DateText.{date_text, civil_text}
use Rattle.kb_days.proofs.Months.{day_of_month-start, day_of_month-high, month_length-high}
use Rattle.kb_days.proofs.Reaches.{month_of-last_reach}
use Rattle.kb_days.proofs.CivilTexts.{civil_text-injective, length-civil_text}
use Rattle.kb_book.specs.Edits.{auto_key}

-- a day's text is that of its civil date
date_text-parts : (day : ℕ) → date_text day ≡ civil_text (1970 + month_of day / 12) (month_of day % 12 + 1)
    (day_of_month day)
unfolding date_text
date_text-parts day = refl

-- a day that a command may name has a year of four digits
year_of-named : (day : ℕ) → day ≤ last_day → 1970 + month_of day / 12 < 10000
year_of-named day low = omega (arith, month_of-last_reach day (omega arith))

-- and each day a number of two
day_of_month_bound : (day : ℕ) → day_of_month day < 100
day_of_month_bound day = omega (arith, day_of_month-high day, month_length-high (month_of day))

-- a day's text has ten bytes
length-date_text : (day : ℕ) → length (date_text day) ≡ 10
length-date_text day =
    length-civil_text (date_text day) (1970 + month_of day / 12) (month_of day % 12 + 1) (day_of_month day)
    (date_text-parts day)

-- two days with one text are the same
pub date_text-injective : (day other : ℕ) → day ≤ last_day → other ≤ last_day
    → date_text day ≡ date_text other → day ≡ other
date_text-injective day other low high same =
    let parts = civil_text-injective (1970 + month_of day / 12) (month_of day % 12 + 1) (day_of_month day)
    (1970 + month_of other / 12) (month_of other % 12 + 1) (day_of_month other) (year_of-named day low)
    (omega arith) (day_of_month_bound day) (year_of-named other high) (omega arith)
    (day_of_month_bound other) (sym (date_text-parts day) ∙ same ∙ date_text-parts other) in
    let month : month_of day ≡ month_of other = omega (arith, parts.0, parts.1) in
    let start = ap month_start month in
    omega (arith, start, parts.2, day_of_month-start day, day_of_month-start other)

module _ {A : Type 0} where
  -- two texts whose backs are of one length have the same fronts and the same backs
  same_front : (front back other rear : List A) → length back ≡ length rear → front ++ back ≡ other ++ rear
      → front ≡ other
  same_front front back other rear size same =
      let count : length front ≡ length other =
      omega (arith, size, ap length same, length-append front back, length-append other rear) in
      sym (take-append_seam front back) ∙ ap (take (length front)) same
      ∙ ap (λ n. take n (other ++ rear)) count ∙ take-append_seam other rear

  same_back : (front back other rear : List A) → length back ≡ length rear → front ++ back ≡ other ++ rear
      → back ≡ rear
  same_back front back other rear size same =
      let count : length front ≡ length other =
      omega (arith, size, ap length same, length-append front back, length-append other rear) in
      sym (drop-append_seam front back) ∙ ap (drop (length front)) same
      ∙ ap (λ n. drop n (other ++ rear)) count ∙ drop-append_seam other rear

-- what follows the first five bytes of a key
key_parts : (invoice day other date : ℕ) → auto_key invoice day ≡ auto_key other date
    → (decimal invoice ++ codes "-") ++ date_text day ≡ (decimal other ++ codes "-") ++ date_text date
key_parts invoice day other date same = ap (drop 5) same

-- the texts of both days are as long
both_texts : (day date : ℕ) → length (date_text day) ≡ length (date_text date)
both_texts day date = omega (arith, length-date_text day, length-date_text date)

-- the key tells the invoice
pub auto_key-invoice : (invoice day other date : ℕ) → invoice < 2 ^ 64 → other < 2 ^ 64
    → auto_key invoice day ≡ auto_key other date → invoice ≡ other
auto_key-invoice invoice day other date low high same =
    decimal_injective invoice other low high
    (same_front (decimal invoice) (codes "-") (decimal other) (codes "-") refl
    (same_front (decimal invoice ++ codes "-") (date_text day) (decimal other ++ codes "-") (date_text date)
    (both_texts day date) (key_parts invoice day other date same)))

-- and the text of the day
pub auto_key-day : (invoice day other date : ℕ) → auto_key invoice day ≡ auto_key other date
    → date_text day ≡ date_text date
auto_key-day invoice day other date same =
    same_back (decimal invoice ++ codes "-") (date_text day) (decimal other ++ codes "-") (date_text date)
    (both_texts day date) (key_parts invoice day other date same)
