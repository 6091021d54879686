-- The numbers and names of refusals.
use Rattle.std.specs.Prelude.{ℕ, List, codes}
use Rattle.kb_book.specs.declared.refusal.Refusal.{Refusal}
use Rattle.kb_book.specs.declared.refusal.Refusal.TheVariants as refusal

-- the number of a refusal
abbrev pub refusal_number : Refusal → ℕ
refusal_number refusal.BadName = 1
refusal_number refusal.BadDate = 2
refusal_number refusal.NoAccount = 3
refusal_number refusal.AccountExists = 4
refusal_number refusal.NoCatalog = 5
refusal_number refusal.NoPlan = 6
refusal_number refusal.NoPrice = 7
refusal_number refusal.SubscriptionExists = 8
refusal_number refusal.NoSubscription = 9
refusal_number refusal.BundleRule = 10
refusal_number refusal.BeforeStart = 11
refusal_number refusal.Cancelled = 12
refusal_number refusal.NotCancelled = 13
refusal_number refusal.ChangeBlocked = 14
refusal_number refusal.PolicyIllegal = 15
refusal_number refusal.KeyReused = 16
refusal_number refusal.NoInvoice = 17
refusal_number refusal.NothingDue = 18
refusal_number refusal.AttemptOpen = 19
refusal_number refusal.NoPayment = 20
refusal_number refusal.PaymentState = 21
refusal_number refusal.AmountTooLarge = 22
refusal_number (refusal.Limit which limit) = 23
refusal_number refusal.VersionOrder = 24

-- the name of a refusal
abbrev pub refusal_name : Refusal → List ℕ
refusal_name refusal.BadName = codes "BadName"
refusal_name refusal.BadDate = codes "BadDate"
refusal_name refusal.NoAccount = codes "NoAccount"
refusal_name refusal.AccountExists = codes "AccountExists"
refusal_name refusal.NoCatalog = codes "NoCatalog"
refusal_name refusal.NoPlan = codes "NoPlan"
refusal_name refusal.NoPrice = codes "NoPrice"
refusal_name refusal.SubscriptionExists = codes "SubscriptionExists"
refusal_name refusal.NoSubscription = codes "NoSubscription"
refusal_name refusal.BundleRule = codes "BundleRule"
refusal_name refusal.BeforeStart = codes "BeforeStart"
refusal_name refusal.Cancelled = codes "Cancelled"
refusal_name refusal.NotCancelled = codes "NotCancelled"
refusal_name refusal.ChangeBlocked = codes "ChangeBlocked"
refusal_name refusal.PolicyIllegal = codes "PolicyIllegal"
refusal_name refusal.KeyReused = codes "KeyReused"
refusal_name refusal.NoInvoice = codes "NoInvoice"
refusal_name refusal.NothingDue = codes "NothingDue"
refusal_name refusal.AttemptOpen = codes "AttemptOpen"
refusal_name refusal.NoPayment = codes "NoPayment"
refusal_name refusal.PaymentState = codes "PaymentState"
refusal_name refusal.AmountTooLarge = codes "AmountTooLarge"
refusal_name (refusal.Limit which limit) = codes "Limit"
refusal_name refusal.VersionOrder = codes "VersionOrder"
