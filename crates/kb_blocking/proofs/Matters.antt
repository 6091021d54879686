-- States of one scope and service.
use Rattle.std.proofs.Common.{◌≡◌, true, refl, sym, ap, ◌∙◌}
use Rattle.std.proofs.lemmas.Bool.{and_parts, and_from, eqb-true, eq-eqb}
use Rattle.std.proofs.lemmas.Slice.Eq.{bytes_eq-Decides}
use Rattle.kb_blocking.specs.declared.state.Scope.{Scope}
use Rattle.kb_blocking.specs.declared.state.Scope.TheVariants.{Account, Bundle, Subscription}
use Rattle.kb_blocking.specs.declared.state.BlockState.{BlockState}
use Rattle.kb_blocking.specs.declared.state.Chain.{Chain}
use Rattle.kb_blocking.specs.Blocking.{same_scope, same_matter, is_on_chain}

-- scopes that are the same are equal
same_scope-is : (scope other : Scope) → same_scope scope other ≡ true → scope ≡ other
same_scope-is Account Account same = refl
same_scope-is Account (Bundle place) same = absurd (cc)
same_scope-is Account (Subscription place) same = absurd (cc)
same_scope-is (Bundle place) Account same = absurd (cc)
same_scope-is (Bundle place) (Bundle other) same = ap (λ p. Bundle p) (eqb-true place other same)
same_scope-is (Bundle place) (Subscription other) same = absurd (cc)
same_scope-is (Subscription place) Account same = absurd (cc)
same_scope-is (Subscription place) (Bundle other) same = absurd (cc)
same_scope-is (Subscription place) (Subscription other) same =
    ap (λ p. Subscription p) (eqb-true place other same)

-- a scope is the same as itself
same_scope-itself : (scope : Scope) → same_scope scope scope ≡ true
same_scope-itself Account = refl
same_scope-itself (Bundle place) = eq-eqb place place refl
same_scope-itself (Subscription place) = eq-eqb place place refl

-- a state has its own scope and service
pub same_matter-itself : (state : BlockState) → same_matter state state ≡ true
same_matter-itself state =
    and_from _ _ (same_scope-itself state.scope) ((bytes_eq-Decides state.service state.service).1 refl)

-- of two states with one scope and service, what has those of one has those of the other
pub same_matter-as : (matter state other : BlockState) → same_matter matter state ≡ true
    → same_matter matter other ≡ same_matter state other
same_matter-as matter state other same =
    let parts = and_parts _ _ same in
    rw (
      same_scope-is matter.scope state.scope parts.0,
      (bytes_eq-Decides matter.service state.service).0 parts.1,
    )
    refl

-- two states with the scope and service of a third have one
pub same_matter-through : (matter state other : BlockState) → same_matter matter other ≡ true
    → same_matter state other ≡ true → same_matter matter state ≡ true
same_matter-through matter state other one two =
    same_matter-as matter other state one ∙ sym (same_matter-as state other state two)
    ∙ same_matter-itself state

-- states with one scope and service are on the same chains
pub is_on_chain-as : (chain : Chain) (matter state : BlockState) → same_matter matter state ≡ true
    → is_on_chain chain matter.scope ≡ is_on_chain chain state.scope
is_on_chain-as chain matter state same =
    ap (is_on_chain chain) (same_scope-is matter.scope state.scope (and_parts _ _ same).0)
