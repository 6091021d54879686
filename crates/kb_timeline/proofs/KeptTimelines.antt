-- A timeline stays one when a subscription is created or edited.
use Rattle.std.proofs.Common.{◌≡◌, ℕ, ◌+◌, ◌<◌, ◌≤◌, Bool, true, false, List, [], ◌∷◌, ◌++◌, length}
use Rattle.std.proofs.Common.{length-append, get_or, slice_get, bytes_eq, nat_lt, nat_eq, unwrap_or, Option}
use Rattle.std.proofs.Common.{Some, None, IsSome, IfSome, ◌⊎◌, inl, inr, refl, sym, subst, ap, ltb-true}
use Rattle.std.proofs.Common.{arith}
use Rattle.std.specs.List.{All, AllPairs, position_from}
use Rattle.std.proofs.lemmas.Bool.{cases_lt, eq-eqb}
use Rattle.std.proofs.lemmas.List.Elements.{All-push}
use Rattle.std.proofs.lemmas.List.Quantifiers.{all_pairs_push}
use Rattle.std.proofs.lemmas.Option.{slice_get-get_or}
use Rattle.std.proofs.lemmas.Slice.Eq.{bytes_eq-Decides}
use Rattle.kb_timeline.specs.declared.entry.Entry.{Entry}
use Rattle.kb_timeline.specs.declared.subscription.Subscription.{Subscription}
use Rattle.kb_timeline.specs.TimelineEdits.{TimelineValue, IsTimeline, max_subscriptions, bundle_named}
use Rattle.kb_timeline.specs.TimelineEdits.{subscription_named, lead_of, with_name, created, create_fault}
use Rattle.kb_timeline.specs.TimelineEdits.{edited_at, with_edit}
use Rattle.kb_timeline.proofs.EditedMembers.{edited_at-keeps, length-edited_at, position_from-edited_at}
use Rattle.kb_timeline.proofs.FoundPlaces.{position_from-none, position_from-within, position_from-push}

-- names differ in both orders
bytes_eq-flip : (one other : List ℕ) → bytes_eq one other ≡ false → bytes_eq other one ≡ false
bytes_eq-flip one other differ = by_test (bytes_eq other one) refl
  where
    by_test : (same : Bool) → bytes_eq other one ≡ same → bytes_eq other one ≡ false
    by_test true is =
        let same = (bytes_eq-Decides one other).1 (sym ((bytes_eq-Decides other one).0 is)) in absurd (cc)
    by_test false is = is

-- another value of a subscription has its name and its bundle
abbrev IsSame : Subscription → Option Subscription → Type 0
IsSame new found = IfSome found (λ (old : Subscription). (new.name ≡ old.name) × (new.bundle ≡ old.bundle))

-- a timeline with another value of a subscription
pub IsTimeline-with_edit : (timeline : TimelineValue) (place : ℕ) (new : Subscription) → IsTimeline timeline
    → place < length timeline.subscriptions
    → IsSame new (slice_get timeline.subscriptions place)
    → IsTimeline (with_edit timeline place (λ (subscription : Subscription). new))
IsTimeline-with_edit timeline place new is within same =
    record {
      bundle_names = is.bundle_names;
      names =
          λ i j d below inside. rw (same_name i d, same_name j d)
          (is.names i j d below (omega (arith, count)));
      placed = λ k d inside. rw (same_bundle k d) (is.placed k d (omega (arith, count)));
      led = λ bundle inside. rw (same_lead bundle) (is.led bundle inside);
      few = omega (arith, count, is.few);
      limit = omega (arith, count, is.limit);
    }
  where
    edited : List Subscription
    edited = edited_at place (λ (subscription : Subscription). new) timeline.subscriptions

    count : length edited ≡ length timeline.subscriptions
    count = length-edited_at place (λ (subscription : Subscription). new) timeline.subscriptions

    old : Subscription
    old = get_or timeline.subscriptions place new

    there : slice_get timeline.subscriptions place ≡ Some old
    there = slice_get-get_or timeline.subscriptions place new within

    kept : (new.name ≡ old.name) × (new.bundle ≡ old.bundle)
    kept = subst (IsSame new) there same

    same_name : (k : ℕ) (d : Subscription)
        → (get_or edited k d).name ≡ (get_or timeline.subscriptions k d).name
    same_name =
        edited_at-keeps (λ (subscription : Subscription). subscription.name) place old new
        timeline.subscriptions there kept.0

    same_bundle : (k : ℕ) (d : Subscription)
        → (get_or edited k d).bundle ≡ (get_or timeline.subscriptions k d).bundle
    same_bundle =
        edited_at-keeps (λ (subscription : Subscription). subscription.bundle) place old new
        timeline.subscriptions there kept.1

    same_lead : (bundle : ℕ)
        → position_from (λ (sub : Subscription). nat_eq sub.bundle bundle) 0 edited ≡ lead_of timeline bundle
    same_lead bundle =
        position_from-edited_at (λ (sub : Subscription). nat_eq sub.bundle bundle) 0 place old new
        timeline.subscriptions
        there (ap (λ at. nat_eq at bundle) kept.1)

-- a subscription that isn't refused has a new name, and there is room for it
create_fault-none : (timeline : TimelineValue) (name : List ℕ) → create_fault timeline name ≡ None
    → (subscription_named timeline name ≡ None) × (length timeline.subscriptions < max_subscriptions)
create_fault-none timeline name none = by_place (subscription_named timeline name) refl
  where
    by_place : (place : Option ℕ) → subscription_named timeline name ≡ place
        → (subscription_named timeline name ≡ None) × (length timeline.subscriptions < max_subscriptions)
    by_place None is = (is, by_room (nat_lt (length timeline.subscriptions) max_subscriptions) refl)
      where
        by_room : (room : Bool) → nat_lt (length timeline.subscriptions) max_subscriptions ≡ room
            → length timeline.subscriptions < max_subscriptions
        by_room true room = ltb-true (length timeline.subscriptions) max_subscriptions room
        by_room false room = let refused = rw (is, room) at none in absurd (cc)
    by_place (Some place) is = let refused = rw is at none in absurd (cc)

-- a name that isn't there is put behind others
AllPairs-with_name : (names : List (List ℕ)) (name : List ℕ) (place : Option ℕ)
    → position_from (λ (other : List ℕ). bytes_eq name other) 0 names ≡ place
    → AllPairs (λ (one other : List ℕ). bytes_eq one other ≡ false) names
    → AllPairs (λ (one other : List ℕ). bytes_eq one other ≡ false) (with_name names place name)
AllPairs-with_name names name None is differ =
    all_pairs_push (λ (one other : List ℕ). bytes_eq one other ≡ false) names name differ
    (λ k d within. bytes_eq-flip name _ (position_from-none (λ (other : List ℕ). bytes_eq name other) 0 names
    is k d within))
AllPairs-with_name names name (Some place) is differ = differ

-- the place of a name among names of which it is one
unwrap_or-with_name : (names : List (List ℕ)) (name : List ℕ) (place : Option ℕ)
    → position_from (λ (other : List ℕ). bytes_eq name other) 0 names ≡ place
    → unwrap_or place (length names) < length (with_name names place name)
unwrap_or-with_name names name None is = omega (arith, length-append names (name ∷ []))
unwrap_or-with_name names name (Some place) is =
    let within =
    position_from-within (λ (other : List ℕ). bytes_eq name other) 0 place names is in omega arith

-- there are as many names as before, or one more
length-with_name : (names : List (List ℕ)) (name : List ℕ) (place : Option ℕ)
    → (length names ≤ length (with_name names place name))
    × (length (with_name names place name) ≤ length names + 1)
length-with_name names name None =
    (omega (arith, length-append names (name ∷ [])), omega (arith, length-append names (name ∷ [])))
length-with_name names name (Some place) = (omega arith, omega arith)

-- a bundle that wasn't there is that of a subscription whose bundle has the name
unwrap_or-new : (names : List (List ℕ)) (name : List ℕ) (place : Option ℕ) (bundle : ℕ)
    → length names ≤ bundle
    → bundle < length (with_name names place name) → unwrap_or place (length names) ≡ bundle
unwrap_or-new names name None bundle behind within = omega (arith, length-append names (name ∷ []))
unwrap_or-new names name (Some place) bundle behind within = absurd (omega arith)

-- a subscription that isn't refused makes another timeline
pub IsTimeline-created : (timeline : TimelineValue) (bundle name : List ℕ) (addon : Bool) (first : Entry)
    → IsTimeline timeline → create_fault timeline name ≡ None
    → IsTimeline (created timeline bundle name addon first)
IsTimeline-created timeline bundle name addon first is none =
    record {
      bundle_names = AllPairs-with_name timeline.bundles bundle place refl is.bundle_names;
      names =
          all_pairs_push (λ (one other : Subscription). bytes_eq one.name other.name ≡ false)
          timeline.subscriptions new is.names other_name;
      placed =
          All-push (λ (subscription : Subscription). subscription.bundle < length names)
          timeline.subscriptions new earlier
          (unwrap_or-with_name timeline.bundles bundle place refl);
      led = λ other within.
          position_from-push (λ (sub : Subscription). nat_eq sub.bundle other) 0 timeline.subscriptions new
          (by_age other within);
      few = omega (arith, longer.1, is.few, count);
      limit = omega (arith, count, room.1);
    }
  where
    place : Option ℕ
    place = bundle_named timeline bundle

    names : List (List ℕ)
    names = with_name timeline.bundles place bundle

    new : Subscription
    new =
        record {
          name = name;
          bundle = unwrap_or place (length timeline.bundles);
          addon = addon;
          entries =
              first ∷ [];
          cancel = None;
        }

    room : (subscription_named timeline name ≡ None) × (length timeline.subscriptions < max_subscriptions)
    room = create_fault-none timeline name none

    longer : (length timeline.bundles ≤ length names) × (length names ≤ length timeline.bundles + 1)
    longer = length-with_name timeline.bundles bundle place

    count : length (timeline.subscriptions ++ new ∷ []) ≡ length timeline.subscriptions + 1
    count = length-append timeline.subscriptions (new ∷ [])

    other_name : (k : ℕ) (d : Subscription) → k < length timeline.subscriptions
        → bytes_eq (get_or timeline.subscriptions k d).name name ≡ false
    other_name k d within =
        bytes_eq-flip name _
        (position_from-none (λ (subscription : Subscription). bytes_eq name subscription.name) 0
        timeline.subscriptions room.0 k d within)

    earlier : All (λ (subscription : Subscription). subscription.bundle < length names) timeline.subscriptions
    earlier k d within = let old = is.placed k d within in omega (arith, longer.0)

    by_age : (other : ℕ) → other < length names
        → IsSome (lead_of timeline other) ⊎ (nat_eq new.bundle other ≡ true)
    by_age other within =
        elim (cases_lt other (length timeline.bundles)) [
          | inl there ↦ inl (is.led other there)
          | inr behind ↦
              inr (eq-eqb _ other (unwrap_or-new timeline.bundles bundle place other behind within))
        ]
