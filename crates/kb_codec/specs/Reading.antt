-- How each member of a command is read from the front of some bytes: its value, and the bytes behind it.
use Rattle.std.specs.Prelude.{ℕ, ◌≡◌, ◌&&◌, Bool, true, false, nat_lt, nat_le, List, [], ◌∷◌, length, take}
use Rattle.std.specs.Prelude.{drop, Option, Some, None, if◌then◌else◌, slice_get, ◌%◌, ◌/◌, ◌==◌}
use Rattle.std.specs.Int.{w32, w64, from_be_bytes}
use Rattle.std.specs.Option.{option_map, option_and_then}
use Rattle.kb_days.specs.Names.{is_name}
use Rattle.kb_days.specs.Calendar.{first_day, last_day}
use Rattle.kb_days.specs.declared.period.Period.{Period}
use Rattle.kb_days.specs.declared.period.Period.TheVariants as periods
use Rattle.kb_money.specs.Currency.{is_currency}
use Rattle.kb_payment.specs.declared.attempt.Status.{Status}
use Rattle.kb_payment.specs.declared.attempt.Status.TheVariants as statuses
use Rattle.kb_blocking.specs.declared.state.Flags.{Flags}
use Rattle.kb_codec.specs.declared.amount.TheConstants.{MAX_AMOUNT}
use Rattle.kb_codec.specs.declared.scope.BlockScope.{BlockScope}
use Rattle.kb_codec.specs.declared.scope.BlockScope.TheVariants as scopes

-- what is read from the front of some bytes, and the bytes behind it
abbrev pub Reader : Type 0 → Type 0
Reader A = List ℕ → Option (A × List ℕ)

-- what a call returned, and what it left of the bytes, is what a reader reads; of the bytes behind no value
-- nothing is said
abbrev pub Reads : {A : Type 0} → Reader A → List ℕ → Option A → List ℕ → Type 0
Reads read old None new = read old ≡ None
Reads read old (Some value) new = read old ≡ Some (value, new)

-- the next byte
abbrev pub byte_in : Reader ℕ
byte_in [] = None
byte_in (byte ∷ rest) = Some (byte, rest)

-- so many of the next bytes
abbrev pub bytes_in : ℕ → Reader (List ℕ)
bytes_in count bytes = if nat_lt (length bytes) count then None else Some (take count bytes, drop count bytes)

-- a value of what is read
abbrev pub into : {A B : Type 0} → (A → B) → Reader A → Reader B
into value read bytes = option_map (λ x. (value x.0, x.1)) (read bytes)

-- a value of what is read, if there is one
abbrev pub made : {A B : Type 0} → (A → Option B) → Reader A → Reader B
made of read bytes = option_and_then (λ x. option_map (λ value. (value, x.1)) (of x.0)) (read bytes)

-- one value, and then another one that may depend on it
abbrev pub chained : {A B : Type 0} → Reader A → (A → Reader B) → Reader B
chained first second bytes = option_and_then (λ x. second x.0 x.1) (first bytes)

-- one value, and then another one
abbrev pub both : {A B : Type 0} → Reader A → Reader B → Reader (A × B)
both first second bytes = chained first (λ x. into (λ y. (x, y)) second) bytes

-- a list of numbers that passes a test
abbrev pub passed : (List ℕ → Bool) → List ℕ → Option (List ℕ)
passed test bytes = if test bytes then Some bytes else None

-- a number in a range
abbrev pub within : ℕ → ℕ → ℕ → Option ℕ
within low high number = if nat_le low number && nat_le number high then Some number else None

-- a number in four bytes
unfoldable pub four_in : Reader ℕ
four_in bytes = into (from_be_bytes w32) (bytes_in 4) bytes

-- a number in eight bytes
unfoldable pub eight_in : Reader ℕ
eight_in bytes = into (from_be_bytes w64) (bytes_in 8) bytes

-- a name
unfoldable pub name_in : Reader (List ℕ)
name_in bytes = chained byte_in (λ count. made (passed is_name) (bytes_in count)) bytes

-- a currency
unfoldable pub currency_in : Reader (List ℕ)
currency_in bytes = made (passed is_currency) (bytes_in 3) bytes

-- a day of the month
unfoldable pub bcd_in : Reader ℕ
bcd_in bytes = made (within 1 31) byte_in bytes

-- a day
unfoldable pub day_in : Reader ℕ
day_in bytes = made (within first_day last_day) four_in bytes

-- the number of an invoice
unfoldable pub invoice_in : Reader ℕ
invoice_in bytes = made (within 1 4294967295) four_in bytes

-- an amount
unfoldable pub amount_in : Reader ℕ
amount_in bytes = made (within 1 MAX_AMOUNT) eight_in bytes

-- off and on
abbrev pub truths : List Bool
truths = false ∷ true ∷ []

-- whether something is on
unfoldable pub truth_in : Reader Bool
truth_in bytes = made (slice_get truths) byte_in bytes

-- a member that may be missing
unfoldable pub optional_in : {A : Type 0} → Reader A → Reader (Option A)
optional_in read bytes =
    chained truth_in (λ there. if there then into Some read else λ rest. Some (None, rest)) bytes

-- the periods, in order
abbrev pub all_periods : List Period
all_periods = periods.Daily ∷ periods.Weekly ∷ periods.Biweekly ∷ periods.ThirtyDays ∷ periods.Monthly
    ∷ periods.Quarterly ∷ periods.Biannual ∷ periods.Annual ∷ periods.Biennial ∷ periods.NoBillingPeriod ∷ []

-- a period
unfoldable pub period_in : Reader Period
period_in bytes = made (slice_get all_periods) byte_in bytes

-- what a blocking state may speak of, in order
abbrev pub all_scopes : List BlockScope
all_scopes = scopes.Account ∷ scopes.Bundle ∷ scopes.Subscription ∷ []

-- what a blocking state speaks of
unfoldable pub scope_in : Reader BlockScope
scope_in bytes = made (slice_get all_scopes) byte_in bytes

-- how an attempt may stand, in order
abbrev pub all_statuses : List Status
all_statuses = statuses.Unknown ∷ statuses.Pending ∷ statuses.Success ∷ statuses.PaymentFailure
    ∷ statuses.PluginFailure ∷ []

-- how an attempt stands
unfoldable pub status_in : Reader Status
status_in bytes = made (slice_get all_statuses) byte_in bytes

-- the flags of a byte
abbrev pub flags_of : ℕ → Option Flags
flags_of byte =
    if nat_lt byte 8
    then Some (record { change = byte % 2 == 1; entitlement = byte / 2 % 2 == 1; billing = byte / 4 == 1 })
    else None

-- the flags of a blocking state
unfoldable pub flags_in : Reader Flags
flags_in bytes = made flags_of byte_in bytes

-- the bytes of a text
unfoldable pub text_in : Reader (List ℕ)
text_in bytes = chained four_in bytes_in bytes
