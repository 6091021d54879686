use Rattle.kb_http.proofs.Paths.{of_accounts-unnamed}
use Rattle.kb_http.proofs.route.account_place.Goals as goal

pub returns-in_default : goal.returns-in_default
returns-in_default c =
    of_accounts-unnamed c.args.words.now c.first_piece.result.0.now c.first_piece.result.1
    c.first_piece.ensures.split (λ named. let e = c.in_default.ensures.accepted.1 named in cc)
