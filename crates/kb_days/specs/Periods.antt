-- Billing periods: how long each is, and its word.
use Rattle.std.specs.Prelude.{ℕ, ◌≡◌, List, codes, Option, Some, None, refl}
use Rattle.kb_days.specs.declared.period.Period.{Period}
use Rattle.kb_days.specs.declared.period.Period.TheVariants.{Daily, Weekly, Biweekly, ThirtyDays, Monthly}
use Rattle.kb_days.specs.declared.period.Period.TheVariants.{Quarterly, Biannual, Annual, Biennial}
use Rattle.kb_days.specs.declared.period.Period.TheVariants.{NoBillingPeriod}

-- how many days a period has, if it is counted in days
abbrev pub period_days : Period → Option ℕ
period_days Daily = Some 1
period_days Weekly = Some 7
period_days Biweekly = Some 14
period_days ThirtyDays = Some 30
period_days Monthly = None
period_days Quarterly = None
period_days Biannual = None
period_days Annual = None
period_days Biennial = None
period_days NoBillingPeriod = None

two_weeks : period_days Biweekly ≡ Some 14
two_weeks = refl

-- how many months a period has, if it is counted in months
abbrev pub period_months : Period → Option ℕ
period_months Daily = None
period_months Weekly = None
period_months Biweekly = None
period_months ThirtyDays = None
period_months Monthly = Some 1
period_months Quarterly = Some 3
period_months Biannual = Some 6
period_months Annual = Some 12
period_months Biennial = Some 24
period_months NoBillingPeriod = None

half_a_year : period_months Biannual ≡ Some 6
half_a_year = refl

-- the word of a period
abbrev pub period_word : Period → List ℕ
period_word Daily = codes "DAILY"
period_word Weekly = codes "WEEKLY"
period_word Biweekly = codes "BIWEEKLY"
period_word ThirtyDays = codes "THIRTY_DAYS"
period_word Monthly = codes "MONTHLY"
period_word Quarterly = codes "QUARTERLY"
period_word Biannual = codes "BIANNUAL"
period_word Annual = codes "ANNUAL"
period_word Biennial = codes "BIENNIAL"
period_word NoBillingPeriod = codes "NO_BILLING_PERIOD"

word_of_a_month : period_word Monthly ≡ codes "MONTHLY"
word_of_a_month = refl
