use Rattle.std.proofs.Common.{◌∙◌, sym}
use Rattle.kb_http.proofs.Paths.{of_words-other, of_words-accounts}
use Rattle.kb_http.proofs.route.words_place.Goals as goal

pub returns-else-eq : goal.returns-else-eq
returns-else-eq c =
    of_words-other c.args.words.now c.first_piece.result.0.now c.in-Some.rest.now
    (rw c.in-Some.is at c.first_piece.ensures.split) (sym (rw c.as_slice.ensures at c.if-eq.ensures))

pub returns-then-eq : goal.returns-then-eq
returns-then-eq c =
    c.account_place.ensures
    ∙ of_words-accounts c.args.words.now c.first_piece.result.0.now c.in-Some.rest.now
    (rw c.in-Some.is at c.first_piece.ensures.split) (sym (rw c.as_slice.ensures at c.if-eq.ensures))
