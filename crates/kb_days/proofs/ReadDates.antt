-- Reading a day's text gives the day, and each text that is read is the text of its day.
use Rattle.std.proofs.Common.{◌≡◌, ℕ, ◌+◌, ◌-◌, ◌*◌, ◌/◌, ◌%◌, ◌<◌, ◌≤◌, Bool, true, false, ◌&&◌, nat_eq}
use Rattle.std.proofs.Common.{nat_le, if◌then◌else◌, List, [], ◌∷◌, Option, Some, None, refl, sym, ◌∙◌, arith}
use Rattle.std.proofs.Common.{pos, IfOk, IfSome, Result, Ok, Err, ok_or}
use Rattle.std.proofs.lemmas.Bool.{eq-eqb, eqb-true, le-leb, leb-true, and_parts, and_from}
use Rattle.std.proofs.lemmas.Option.{none-some}
use Rattle.jiff_core.specs.Calendar.{days_from_civil, IsCivilDate}
use Rattle.jiff_core.proofs.SignedLemmas.{signed_arith}
use Rattle.kb_days.specs.Calendar.{first_day, last_day, month_start, month_of, day_of_month}
use Rattle.kb_days.specs.DateText.{civil_text, date_text, named_day, same_text, read_day}
use Rattle.kb_days.proofs.Months.{day_of_month-low, day_of_month-high, day_of_month-start, month_length-high}
use Rattle.kb_days.proofs.CivilDates.{year-civil, month-civil, day_of_month-civil}
use Rattle.kb_days.proofs.CivilDates.{days_from_civil-day_of_month, civil-day_of_month}
use Rattle.kb_days.proofs.Reaches.{month_of-last_reach}
use Rattle.kb_days.proofs.Digits.{number_of-digits}
use Rattle.kb_days.proofs.CivilTexts.{civil_text-injective}

-- a text is the same as itself
same_text-refl : (text : List ℕ) → same_text text text ≡ true
same_text-refl [] = refl
same_text-refl (a ∷ as_) = and_from (nat_eq a a) (same_text as_ as_) (eq-eqb a a refl) (same_text-refl as_)

-- texts that are found the same are equal
same_text-true : (s t : List ℕ) → same_text s t ≡ true → s ≡ t
same_text-true [] [] h = refl
same_text-true [] (b ∷ bs) h = absurd (cc)
same_text-true (a ∷ as_) [] h = absurd (cc)
same_text-true (a ∷ as_) (b ∷ bs) h =
    let parts = and_parts (nat_eq a b) (same_text as_ bs) h in
    let head = eqb-true a b parts.0 in
    let tail = same_text-true as_ bs parts.1 in
    cc

-- the day that the digits of a civil date's text name
named_day-civil_text : (y m d : ℕ) → y < 10000 → m < 100 → d < 100
    → named_day (civil_text y m d) ≡ month_start (12 * (y - 1970) + (m - 1)) + (d - 1)
unfolding named_day civil_text
named_day-civil_text y m d year month day =
    let y_is = number_of-digits 4 y year in
    let m_is = number_of-digits 2 m month in
    let d_is = number_of-digits 2 d day in
    rw (y_is, m_is, d_is) refl

-- the digits of a day's text name the day
named_day-date_text : (day : ℕ) → day ≤ last_day → named_day (date_text day) ≡ day
unfolding date_text
named_day-date_text day h =
    let month = month_of-last_reach day (omega arith) in
    let index : 12 * (1970 + month_of day / 12 - 1970) + (month_of day % 12 + 1 - 1) ≡ month_of day = omega
    arith in
    let named = named_day-civil_text (1970 + month_of day / 12) (month_of day % 12 + 1) (day_of_month day)
    (omega arith) (omega arith) (omega (arith, day_of_month-high day, month_length-high (month_of day))) in
    named ∙ rw index (omega (arith, day_of_month-start day, day_of_month-low day))

-- reading takes a day that a command may name and has the text
read_day-named : (text : List ℕ) (day : ℕ) → first_day ≤ day → day ≤ last_day → named_day text ≡ day
    → date_text day ≡ text → read_day text ≡ Some day
unfolding read_day
read_day-named text day first last named e =
    rw (named, e, le-leb first_day day first, le-leb day last_day last, same_text-refl text) refl

-- what is taken under a test passes the test
taken : (b : Bool) (n day : ℕ) → (if b then Some n else None) ≡ Some day → (b ≡ true) × (n ≡ day)
taken true n day e = (refl, cc)
taken false n day e = absurd (cc)

-- what is read may be named by a command and has the text
read_day-holds : (text : List ℕ) (day : ℕ) → read_day text ≡ Some day → (first_day ≤ day) × (day ≤ last_day)
    × (date_text day ≡ text)
unfolding read_day
read_day-holds text day e =
    let test = nat_le first_day (named_day text) && nat_le (named_day text) last_day
    && same_text (date_text (named_day text)) text in
    let holds = taken test (named_day text) day e in
    let bounds = and_parts (nat_le first_day (named_day text) && nat_le (named_day text) last_day)
    (same_text (date_text (named_day text)) text) holds.0 in
    let ends = and_parts (nat_le first_day (named_day text)) (nat_le (named_day text) last_day) bounds.0 in
    let same = same_text-true (date_text (named_day text)) text bounds.1 in (
      rw (← holds.1) (leb-true first_day (named_day text) ends.0),
      rw (← holds.1)
          (leb-true (named_day text) last_day ends.1),
      rw (← holds.1) same,
    )

-- the text of a day reads as the day
pub read_day-date_text : (day : ℕ) → first_day ≤ day → day ≤ last_day → read_day (date_text day) ≡ Some day
read_day-date_text day first last =
    read_day-named (date_text day) day first last (named_day-date_text day last) refl

-- a text that reads as a day is the day's text
pub date_text-read_day : (text : List ℕ) (day : ℕ) → read_day text ≡ Some day → date_text day ≡ text
date_text-read_day text day e = (read_day-holds text day e).2

-- nothing is found where nothing can be
none_found : (o : Option ℕ) → ((day : ℕ) → o ≡ Some day → ⊥) → o ≡ None
none_found None h = refl
none_found (Some day) h = absurd (h day refl)

-- a text that is no day's does not read
pub read_day-none : (text : List ℕ)
    → ((day : ℕ) → first_day ≤ day → day ≤ last_day → date_text day ≡ text → ⊥) → read_day text ≡ None
read_day-none text h =
    none_found (read_day text) (λ day e. let holds =
    read_day-holds text day e in h day holds.0 holds.1 holds.2)

-- the text of a civil date's day is that of the date
pub date_text-civil : (y m d day : ℕ) → IsCivilDate (pos y) m d → days_from_civil (pos y) m d ≡ pos day
    → date_text day ≡ civil_text y m d
unfolding date_text
date_text-civil y m d day civil e =
    let year : 1970 + month_of day / 12 ≡ y = omega
    (arith, signed_arith, year-civil (pos y) m d day civil e) in
    rw (year, ← month-civil (pos y) m d day civil e, ← day_of_month-civil (pos y) m d day civil e) refl

-- a day's text is that of its civil date
date_text-parts : (day : ℕ) → date_text day ≡ civil_text (1970 + month_of day / 12) (month_of day % 12 + 1)
    (day_of_month day)
unfolding date_text
date_text-parts day = refl

-- a day that a command may name has a year of four digits
year_of-named : (day : ℕ) → day ≤ last_day → 1970 + month_of day / 12 < 10000
year_of-named day h = omega (arith, month_of-last_reach day (omega arith))

-- and a number of two
day_of_month_bound : (day : ℕ) → day_of_month day < 100
day_of_month_bound day = omega (arith, day_of_month-high day, month_length-high (month_of day))

-- a text that is no civil date's does not read
pub read_day-no_parts : (text : List ℕ)
    → ((y m d : ℕ) → y < 10000 → m < 100 → d < 100 → text ≡ civil_text y m d → ⊥) → read_day text ≡ None
read_day-no_parts text h =
    read_day-none text (λ day first last e.
    h (1970 + month_of day / 12) (month_of day % 12 + 1) (day_of_month day) (year_of-named day last)
    (omega arith) (day_of_month_bound day) (sym e ∙ date_text-parts day))

-- the parts that a text names are those of each day with the text
parts-date_text : (text : List ℕ) (y m d day : ℕ) → y < 10000 → m < 100 → d < 100 → text ≡ civil_text y m d
    → day ≤ last_day → date_text day ≡ text → (1970 + month_of day / 12 ≡ y) × (month_of day % 12 + 1 ≡ m)
    × (day_of_month day ≡ d)
parts-date_text text y m d day hy hm hd made last e =
    civil_text-injective (1970 + month_of day / 12) (month_of day % 12 + 1) (day_of_month day) y m d
    (year_of-named day last) (omega arith) (day_of_month_bound day) hy hm hd
    (sym (date_text-parts day) ∙ e ∙ made)

-- a text that names a date which the calendar does not have does not read
pub read_day-no_date : (text : List ℕ) (y m d : ℕ) → y < 10000 → m < 100 → d < 100 → text ≡ civil_text y m d
    → (IsCivilDate (pos y) m d → ⊥) → read_day text ≡ None
read_day-no_date text y m d hy hm hd made h =
    read_day-none text (λ day first last e.
    let parts = parts-date_text text y m d day hy hm hd made last e in
    h (rw (← parts.0, ← parts.1, ← parts.2) (civil-day_of_month day (year_of-named day last))))

-- a text that names a date of the calendar reads as the date's day, if a command may name it
pub read_day-date : (text : List ℕ) (y m d : ℕ) (result : Option ℕ) → y < 10000 → m < 100 → d < 100
    → text ≡ civil_text y m d → IsCivilDate (pos y) m d
    → IfSome result (λ day. (first_day ≤ day) × (day ≤ last_day) × (days_from_civil (pos y) m d ≡ pos day))
    → ((day : ℕ) → first_day ≤ day → day ≤ last_day → days_from_civil (pos y) m d ≡ pos day
    → result ≡ Some day) → result ≡ read_day text
read_day-date text y m d (Some day) hy hm hd made civil found all =
    sym (rw (made, ← date_text-civil y m d day civil found.2) (read_day-date_text day found.0 found.1))
read_day-date text y m d None hy hm hd made civil found all =
    sym (read_day-none text (λ day first last e.
    let parts = parts-date_text text y m d day hy hm hd made last e in
    none-some day
    (all day first last (rw (← parts.0, ← parts.1, ← parts.2) (days_from_civil-day_of_month day)))))

-- what is taken in place of a fault was there
taken_Ok : {E : Type 0} (found : Option ℕ) (fault : E) (day : ℕ) → ok_or found fault ≡ Ok day
    → found ≡ Some day
taken_Ok (Some other) fault day e = cc
taken_Ok None fault day e = absurd (cc)

-- a text that is taken is the day's
pub date_text-ok_or : {E : Type 0} (text : List ℕ) (fault : E) (result : Result ℕ E)
    → result ≡ ok_or (read_day text) fault → IfOk result (λ day. date_text day ≡ text)
date_text-ok_or text fault (Ok day) e =
    date_text-read_day text day (taken_Ok (read_day text) fault day (sym e))
date_text-ok_or text fault (Err other) e = tt

-- and each text of a day that a command may name is taken
pub ok_or-date_text : {E : Type 0} (text : List ℕ) (fault : E) (result : Result ℕ E) (day : ℕ)
    → result ≡ ok_or (read_day text) fault → first_day ≤ day → day ≤ last_day → date_text day ≡ text
    → result ≡ Ok day
ok_or-date_text text fault result day e first last same =
    e ∙ rw (← same, read_day-date_text day first last) refl
