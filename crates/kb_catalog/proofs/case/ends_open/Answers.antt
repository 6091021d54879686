use Rattle.std.proofs.Common.{refl, sym, ◌∙◌}
use Rattle.kb_catalog.specs.Cases.{is_open, ends_open}
use Rattle.kb_catalog.proofs.LastMembers.{by_last}
use Rattle.kb_catalog.proofs.case.ends_open.Goals as goal

pub returns-in-Some : goal.returns-in-Some
returns-in-Some g c =
    c.is_open.ensures
    ∙ sym (by_last (ends_open g.C.Case.asks) (λ case. is_open (g.C.Case.asks case)) (λ member. refl)
    (λ member next later. refl) _ _ _
    c.in-Some.ensures.cases.0)
