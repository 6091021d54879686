-- Readings of a few bytes.
use Rattle.std.specs.Prelude.{true, false, ◌≡◌, [], ◌∷◌, Some, None, codes, refl}
use Rattle.kb_days.specs.declared.period.Period.TheVariants as periods
use Rattle.kb_payment.specs.declared.attempt.Status.TheVariants as statuses
use Rattle.kb_codec.specs.declared.scope.BlockScope.TheVariants as scopes
use Rattle.kb_codec.specs.Reading.{four_in, eight_in, name_in, currency_in, bcd_in, day_in, invoice_in}
use Rattle.kb_codec.specs.Reading.{amount_in, truth_in, optional_in, period_in, scope_in, status_in, flags_in}
use Rattle.kb_codec.specs.Reading.{text_in}

a_name : name_in (2 ∷ 97 ∷ 49 ∷ 7 ∷ []) ≡ Some (codes "a1", 7 ∷ [])
unfolding name_in
a_name = refl

a_name_cut_short : name_in (2 ∷ 97 ∷ []) ≡ None
unfolding name_in
a_name_cut_short = refl

in_lower_case : currency_in (117 ∷ 115 ∷ 100 ∷ []) ≡ None
unfolding currency_in
in_lower_case = refl

day_0_of_a_month : bcd_in (0 ∷ []) ≡ None
unfolding bcd_in
day_0_of_a_month = refl

a_day : day_in (0 ∷ 0 ∷ 77 ∷ 80 ∷ []) ≡ Some (19792, [])
unfolding day_in four_in
a_day = refl

a_day_of_the_past : day_in (0 ∷ 0 ∷ 0 ∷ 80 ∷ []) ≡ None
unfolding day_in four_in
a_day_of_the_past = refl

no_invoice : invoice_in (0 ∷ 0 ∷ 0 ∷ 0 ∷ []) ≡ None
unfolding invoice_in four_in
no_invoice = refl

ten_dollars : amount_in (0 ∷ 0 ∷ 0 ∷ 0 ∷ 0 ∷ 0 ∷ 3 ∷ 232 ∷ []) ≡ Some (1000, [])
unfolding amount_in eight_in
ten_dollars = refl

no_truth : truth_in (2 ∷ []) ≡ None
unfolding truth_in
no_truth = refl

a_missing_day : optional_in day_in (0 ∷ 7 ∷ []) ≡ Some (None, 7 ∷ [])
unfolding optional_in truth_in
a_missing_day = refl

monthly : period_in (4 ∷ []) ≡ Some (periods.Monthly, [])
unfolding period_in
monthly = refl

no_period : period_in (10 ∷ []) ≡ None
unfolding period_in
no_period = refl

a_bundle : scope_in (1 ∷ []) ≡ Some (scopes.Bundle, [])
unfolding scope_in
a_bundle = refl

paid : status_in (2 ∷ []) ≡ Some (statuses.Success, [])
unfolding status_in
paid = refl

all_but_entitlement : flags_in (5 ∷ []) ≡ Some
    (record { change = true; entitlement = false; billing = true }, [])
unfolding flags_in
all_but_entitlement = refl

a_text : text_in (0 ∷ 0 ∷ 0 ∷ 2 ∷ 104 ∷ 105 ∷ []) ≡ Some (codes "hi", [])
unfolding text_in four_in
a_text = refl
