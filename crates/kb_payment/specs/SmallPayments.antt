-- Examples: a purchase of 1000 on the first invoice, of which 400 are refunded.
use Rattle.std.specs.Prelude.{codes, pos, List, ℕ, [], ◌∷◌, None, Some, false, ◌≡◌, refl}
use Rattle.kb_days.specs.Dates.{march}
use Rattle.kb_payment.specs.declared.attempt.Status.TheVariants.{Success, PaymentFailure}
use Rattle.kb_payment.specs.declared.fault.PayFault.TheVariants.{KeyReused, NoPayment, NothingDue}
use Rattle.kb_payment.specs.declared.fault.PayFault.TheVariants.{AttemptOpen}
use Rattle.kb_payment.specs.declared.fault.PayFault.TheVariants.{PaymentState, AmountTooLarge}
use Rattle.kb_payment.specs.PaymentSums.{PaymentsValue, paid_on, taken_of, open_keys}
use Rattle.kb_payment.specs.PaymentEdits.{no_payments, purchased, purchase_fault, refunded, charged_back}
use Rattle.kb_payment.specs.PaymentEdits.{give_back_fault, settled, settle_fault}

abbrev p1 : List ℕ
p1 = codes "p1"

abbrev p2 : List ℕ
p2 = codes "p2"

abbrev r1 : List ℕ
r1 = codes "r1"

abbrev c1 : List ℕ
c1 = codes "c1"

-- all of the balance is asked for on the first of March
abbrev begun : PaymentsValue
begun = purchased no_payments p1 1 (pos 1000) None (march 1) false

begun_pays_nothing : paid_on begun 1 ≡ pos 0
begun_pays_nothing = refl

begun_is_open : open_keys begun ≡ p1 ∷ []
begun_is_open = refl

no_second_one : purchase_fault begun p2 1 (pos 1000) None ≡ Some AttemptOpen
no_second_one = refl

one_of_another_invoice : purchase_fault begun p2 2 (pos 1000) (Some 1000) ≡ None
one_of_another_invoice = refl

no_refund_yet : give_back_fault begun r1 p1 400 ≡ Some PaymentState
no_refund_yet = refl

-- it succeeds
abbrev paid : PaymentsValue
paid = settled begun p1 Success

paid_pays_all : paid_on paid 1 ≡ pos 1000
paid_pays_all = refl

paid_is_final : settle_fault paid p1 ≡ Some PaymentState
paid_is_final = refl

nothing_is_due : purchase_fault paid p2 1 (pos 0) None ≡ Some NothingDue
nothing_is_due = refl

too_much_is_refused : purchase_fault paid p2 2 (pos 999) (Some 1000) ≡ Some AmountTooLarge
too_much_is_refused = refl

-- 400 are refunded on the 26th
abbrev refund_begun : PaymentsValue
refund_begun = refunded paid r1 p1 400 (march 26)

refund_begun_counts : taken_of refund_begun p1 ≡ pos 400
refund_begun_counts = refl

refund_begun_pays_still : paid_on refund_begun 1 ≡ pos 1000
refund_begun_pays_still = refl

refund_pays_back : paid_on (settled refund_begun r1 Success) 1 ≡ pos 600
refund_pays_back = refl

failed_refund_is_given_free : taken_of (settled refund_begun r1 PaymentFailure) p1 ≡ pos 0
failed_refund_is_given_free = refl

-- 601 more are too much, 600 are charged back at once
more_than_is_left : give_back_fault refund_begun c1 p1 601 ≡ Some AmountTooLarge
more_than_is_left = refl

all_that_is_left : give_back_fault refund_begun c1 p1 600 ≡ None
all_that_is_left = refl

charged_back_at_once : paid_on (charged_back refund_begun c1 p1 600 (march 27)) 1 ≡ pos 400
charged_back_at_once = refl

no_refund_of_a_refund : give_back_fault (settled refund_begun r1 Success) c1 r1 1 ≡ Some PaymentState
no_refund_of_a_refund = refl

no_such_payment : give_back_fault paid r1 p2 400 ≡ Some NoPayment
no_such_payment = refl

key_is_taken : give_back_fault paid p1 p1 400 ≡ Some KeyReused
key_is_taken = refl
