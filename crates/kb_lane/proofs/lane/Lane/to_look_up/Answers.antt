use Rattle.std.proofs.Common.{◌≡◌, ◌≤◌, arith, ℕ, length, map, AllPairs, ◌++◌, List, All, refl, sym, ap}
use Rattle.std.proofs.Common.{subst, ◌∙◌}
use Rattle.std.proofs.lemmas.List.{append-nil}
use Rattle.std.proofs.lemmas.List.Elements.{All-nil, All-more}
use Rattle.kb_book.specs.Books.{BookValue}
use Rattle.kb_lane.specs.Lanes.{machine_of}
use Rattle.kb_lane.specs.LookingUp.{to_look_up}
use Rattle.kb_lane.specs.Private.Looking.{left_in, left_each, AreOpenIn, AreToLookUp}
use Rattle.kb_lane.proofs.Rest.{all_done}
use Rattle.kb_lane.proofs.LookingUp.{each_on, all_taken, left_all}
use Rattle.kb_lane.proofs.ToLookUp.{are_to_look_up}
use Rattle.kb_lane.proofs.lane.Lane.to_look_up.Goals as goal

pub loop-account-init : goal.loop-account-init
loop-account-init g c = (
  ap (λ payments. payments ++ left_each c.args.self.now c.deref-account-items.result.now)
      c.new-payments.ensures.items,
  All-nil (AreOpenIn (machine_of c.args.self.now)),
)

pub loop-account-preserved : goal.loop-account-preserved
loop-account-preserved g c = (
  each_on (left_in c.args.self.now) (left_each c.args.self.now) (λ account later. refl)
      c.deref-account-items.result.now c.loop-account.account-index c.account-item.result
      c.loop-account.payments.items _ _ c.loop-account-test.true c.account-item.is
      c.in_ok-add_open.ensures.added
      c.loop-account.invariant.0,
  All-more (AreOpenIn (machine_of c.args.self.now)) c.deref-account-items.result.now
      c.loop-account.account-index
      c.account-item.result c.loop-account-test.true c.loop-account.invariant.1
      (subst (AreOpenIn (machine_of c.args.self.now)) c.account-item.is c.in_ok-add_open.ensures.them),
)

pub returns-clause-all : goal.returns-clause-all
returns-clause-all g c =
    let items = c.deref-account-items.result.now in
    let end : length items ≤ c.loop-account.account-index = omega (arith, c.loop-account-test.false) in
    let named = c.in_ok-accounts.ensures.names
    ∙ ap (λ books. map (λ (entry : List ℕ × BookValue). entry.0) books)
    (c.books.ensures ∙ ap (λ machine. machine.books)
    (c.self.invariant.replayed ∙ ap (λ lane. machine_of lane) c.self.view_is)) in
    let names = c.deref-account-items.ensures.value ∙ named in
    let all : c.loop-account.payments.items ≡ to_look_up c.args.self.now
    = sym (append-nil c.loop-account.payments.items)
    ∙ ap (λ left. c.loop-account.payments.items ++ left_each c.args.self.now left)
    (sym (all_done items c.loop-account.account-index end)) ∙ c.loop-account.invariant.0
    ∙ ap (left_each c.args.self.now) names ∙ left_all c.args.self.now _ in
    all

pub returns-clause-them : goal.returns-clause-them
returns-clause-them g c =
    let items = c.deref-account-items.result.now in
    let end : length items ≤ c.loop-account.account-index = omega (arith, c.loop-account-test.false) in
    let named = c.in_ok-accounts.ensures.names
    ∙ ap (λ books. map (λ (entry : List ℕ × BookValue). entry.0) books)
    (c.books.ensures ∙ ap (λ machine. machine.books)
    (c.self.invariant.replayed ∙ ap (λ lane. machine_of lane) c.self.view_is)) in
    let names = c.deref-account-items.ensures.value ∙ named in
    let all : c.loop-account.payments.items ≡ to_look_up c.args.self.now
    = sym (append-nil c.loop-account.payments.items)
    ∙ ap (λ left. c.loop-account.payments.items ++ left_each c.args.self.now left)
    (sym (all_done items c.loop-account.account-index end)) ∙ c.loop-account.invariant.0
    ∙ ap (left_each c.args.self.now) names ∙ left_all c.args.self.now _ in
    subst (AreToLookUp c.args.self.now) (sym all) (are_to_look_up c.args.self.now
    (subst (AllPairs (λ (one other : List ℕ). one ≡ other → ⊥)) named c.in_ok-accounts.ensures.apart)
    (subst (All (AreOpenIn (machine_of c.args.self.now)))
    (all_taken items c.loop-account.account-index end ∙ names) c.loop-account.invariant.1))
