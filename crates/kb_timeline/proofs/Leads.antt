-- The lead of a bundle.
use Rattle.std.proofs.Common.{◌≡◌, ℕ, true, slice_get, nat_eq, Option, Some, None, IfSome, ◌+◌, ◌∙◌, ap, sym}
use Rattle.std.proofs.Common.{arith}
use Rattle.std.proofs.lemmas.Bool.{eqb-true, eqb-false}
use Rattle.kb_timeline.specs.declared.subscription.Subscription.{Subscription}
use Rattle.kb_timeline.specs.TimelineEdits.{TimelineValue, IsLead, lead_of}
use Rattle.kb_timeline.proofs.FoundPlaces.{position_from-first}

-- a subscription that is there, and passes a test, is of the bundle
of_bundle : (found : Option Subscription) (bundle : ℕ) → IfSome found (λ sub. nat_eq sub.bundle bundle ≡ true)
    → IfSome found (λ sub. sub.bundle ≡ bundle)
of_bundle None bundle is = tt
of_bundle (Some sub) bundle is = eqb-true sub.bundle bundle is

-- the place of a bundle's lead is that of its first subscription
pub lead_of-first : (timeline : TimelineValue) (bundle : ℕ) (found : Option ℕ)
    → found ≡ lead_of timeline bundle
    → IfSome found (λ place. IsLead timeline bundle place)
lead_of-first timeline bundle None e = tt
lead_of-first timeline bundle (Some place) e =
    let at : place ≡ 0 + place = omega arith in
    let first =
    position_from-first (λ (sub : Subscription). nat_eq sub.bundle bundle) 0 place timeline.subscriptions
    (sym e ∙ ap (λ place. Some place) at) in
    record {
      of_bundle = of_bundle (slice_get timeline.subscriptions place) bundle first.0;
      first = λ k d within. eqb-false _ bundle (first.1 k d within);
    }
