use Rattle.std.proofs.Common.{◌∙◌, ◌∷◌, ap, sym}
use Rattle.kb_http.specs.Routes.{of_account}
use Rattle.kb_http.proofs.Paths.{of_account-more}
use Rattle.kb_http.proofs.route.items_place.Goals as goal

pub returns-in-Some-more : goal.returns-in-Some-more
returns-in-Some-more c =
    let first = rw c.in-Some.is at c.first_piece.ensures.split in
    let second = rw c.in-Some-more.is at c.first_piece-2.ensures.split in
    sym (ap (of_account c.args.account) (first ∙ ap (λ more. c.first_piece.result.0.now ∷ more) second)
    ∙ of_account-more c.args.account c.first_piece.result.0.now c.first_piece-2.result.0.now
    c.in-Some-more.field-0.now)
