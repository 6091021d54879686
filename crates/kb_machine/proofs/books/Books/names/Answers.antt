use Rattle.std.proofs.Common.{◌≡◌, List, ℕ, ◌++◌, AllPairs, sym, ap, subst, ◌∙◌}
use Rattle.std.proofs.lemmas.List.{append-nil}
use Rattle.std.specs.List.Sorted.{IsStrictlySortedBy}
use Rattle.std.specs.Map.{keys_of}
use Rattle.kb_sharing.specs.Keys.{by_words}
use Rattle.kb_machine.proofs.NamedBooks.{sorted_apart}
use Rattle.kb_machine.proofs.books.Books.names.Goals as goal

pub returns-clause-apart : goal.returns-clause-apart
returns-clause-apart c =
    let all : c.loop-name.names.items ≡ keys_of c.args.self.now
    = sym (append-nil c.loop-name.names.items)
    ∙ ap (λ more. c.loop-name.names.items ++ more) (sym c.in-None.ensures.steps.0) ∙ c.loop-name.invariant in
    subst (AllPairs (λ (one other : List ℕ). one ≡ other → ⊥)) (sym all)
    (sorted_apart (keys_of c.args.self.now)
    (subst (λ books. IsStrictlySortedBy by_words (keys_of books)) c.self.view_is
    c.keys-name-items.ensures.ordered))
