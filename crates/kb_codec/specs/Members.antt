-- How each member of a command is spelled in bytes.
use Rattle.std.specs.Prelude.{ℕ, ◌+◌, ◌*◌, Bool, true, false, ◌≡◌, List, [], ◌∷◌, ◌++◌, length, Option, Some}
use Rattle.std.specs.Prelude.{None, refl, codes}
use Rattle.std.specs.Int.{w32, w64, to_be_bytes}
use Rattle.kb_days.specs.declared.period.Period.{Period}
use Rattle.kb_days.specs.declared.period.Period.TheVariants as periods
use Rattle.kb_payment.specs.declared.attempt.Status.{Status}
use Rattle.kb_payment.specs.declared.attempt.Status.TheVariants as statuses
use Rattle.kb_blocking.specs.declared.state.Flags.{Flags}
use Rattle.kb_codec.specs.declared.scope.BlockScope.{BlockScope}
use Rattle.kb_codec.specs.declared.scope.BlockScope.TheVariants as scopes

-- a number in four bytes, the highest of them first
unfoldable pub four_bytes : ℕ → List ℕ
four_bytes number = to_be_bytes w32 number

four : four_bytes 19792 ≡ 0 ∷ 0 ∷ 77 ∷ 80 ∷ []
unfolding four_bytes
four = refl

-- a number in eight bytes, the highest of them first
unfoldable pub eight_bytes : ℕ → List ℕ
eight_bytes number = to_be_bytes w64 number

eight : eight_bytes 1000 ≡ 0 ∷ 0 ∷ 0 ∷ 0 ∷ 0 ∷ 0 ∷ 3 ∷ 232 ∷ []
unfolding eight_bytes
eight = refl

-- a name: a byte with its length, and its bytes
unfoldable pub name_bytes : List ℕ → List ℕ
name_bytes name = length name ∷ name

a1 : name_bytes (codes "a1") ≡ 2 ∷ 97 ∷ 49 ∷ []
unfolding name_bytes
a1 = refl

-- a currency: its three letters
unfoldable pub currency_bytes : List ℕ → List ℕ
currency_bytes currency = currency

dollars : currency_bytes (codes "USD") ≡ 85 ∷ 83 ∷ 68 ∷ []
unfolding currency_bytes
dollars = refl

-- a day of the month
unfoldable pub bcd_bytes : ℕ → List ℕ
bcd_bytes bcd = bcd ∷ []

the_last_day : bcd_bytes 31 ≡ 31 ∷ []
unfolding bcd_bytes
the_last_day = refl

-- a day: its number in four bytes
unfoldable pub day_bytes : ℕ → List ℕ
day_bytes day = four_bytes day

a_day : day_bytes 19792 ≡ 0 ∷ 0 ∷ 77 ∷ 80 ∷ []
unfolding day_bytes four_bytes
a_day = refl

-- the number of an invoice, in four bytes
unfoldable pub invoice_bytes : ℕ → List ℕ
invoice_bytes invoice = four_bytes invoice

the_first_invoice : invoice_bytes 1 ≡ 0 ∷ 0 ∷ 0 ∷ 1 ∷ []
unfolding invoice_bytes four_bytes
the_first_invoice = refl

-- an amount: its minor units in eight bytes
unfoldable pub amount_bytes : ℕ → List ℕ
amount_bytes amount = eight_bytes amount

ten_dollars : amount_bytes 1000 ≡ 0 ∷ 0 ∷ 0 ∷ 0 ∷ 0 ∷ 0 ∷ 3 ∷ 232 ∷ []
unfolding amount_bytes eight_bytes
ten_dollars = refl

-- a member that may be missing: 0, or 1 and the member
unfoldable pub optional_bytes : {A : Type 0} → (A → List ℕ) → Option A → List ℕ
optional_bytes spell None = 0 ∷ []
optional_bytes spell (Some value) = 1 ∷ spell value

no_day : optional_bytes day_bytes None ≡ 0 ∷ []
unfolding optional_bytes
no_day = refl

some_day : optional_bytes day_bytes (Some 19792) ≡ 1 ∷ 0 ∷ 0 ∷ 77 ∷ 80 ∷ []
unfolding optional_bytes day_bytes four_bytes
some_day = refl

-- off and on
abbrev pub truth_byte : Bool → ℕ
truth_byte false = 0
truth_byte true = 1

-- whether something is on
unfoldable pub truth_bytes : Bool → List ℕ
truth_bytes truth = truth_byte truth ∷ []

on : truth_bytes true ≡ 1 ∷ []
unfolding truth_bytes
on = refl

-- the periods, from 0
abbrev pub period_byte : Period → ℕ
period_byte periods.Daily = 0
period_byte periods.Weekly = 1
period_byte periods.Biweekly = 2
period_byte periods.ThirtyDays = 3
period_byte periods.Monthly = 4
period_byte periods.Quarterly = 5
period_byte periods.Biannual = 6
period_byte periods.Annual = 7
period_byte periods.Biennial = 8
period_byte periods.NoBillingPeriod = 9

-- a period
unfoldable pub period_bytes : Period → List ℕ
period_bytes period = period_byte period ∷ []

monthly : period_bytes periods.Monthly ≡ 4 ∷ []
unfolding period_bytes
monthly = refl

-- what a blocking state speaks of, from 0
abbrev pub scope_byte : BlockScope → ℕ
scope_byte scopes.Account = 0
scope_byte scopes.Bundle = 1
scope_byte scopes.Subscription = 2

-- what a blocking state speaks of
unfoldable pub scope_bytes : BlockScope → List ℕ
scope_bytes scope = scope_byte scope ∷ []

a_bundle : scope_bytes scopes.Bundle ≡ 1 ∷ []
unfolding scope_bytes
a_bundle = refl

-- how an attempt stands, from 0
abbrev pub status_byte : Status → ℕ
status_byte statuses.Unknown = 0
status_byte statuses.Pending = 1
status_byte statuses.Success = 2
status_byte statuses.PaymentFailure = 3
status_byte statuses.PluginFailure = 4

-- how an attempt stands
unfoldable pub status_bytes : Status → List ℕ
status_bytes status = status_byte status ∷ []

paid : status_bytes statuses.Success ≡ 2 ∷ []
unfolding status_bytes
paid = refl

-- 1 for the flag of changes, 2 for that of entitlement, 4 for that of billing
abbrev pub flags_byte : Flags → ℕ
flags_byte flags = truth_byte flags.change + 2 * truth_byte flags.entitlement + 4 * truth_byte flags.billing

-- the flags of a blocking state, in one byte
unfoldable pub flags_bytes : Flags → List ℕ
flags_bytes flags = flags_byte flags ∷ []

all_but_entitlement : flags_bytes (record { change = true; entitlement = false; billing = true }) ≡ 5 ∷ []
unfolding flags_bytes
all_but_entitlement = refl

-- a text: its length in four bytes, and its bytes
unfoldable pub text_bytes : List ℕ → List ℕ
text_bytes text = four_bytes (length text) ++ text

a_text : text_bytes (codes "hi") ≡ 0 ∷ 0 ∷ 0 ∷ 2 ∷ 104 ∷ 105 ∷ []
unfolding text_bytes four_bytes
a_text = refl
