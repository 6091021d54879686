-- Each field is the sum of two.
use Rattle.std.proofs.Common.{◌+◌, ap, ◌∙◌, to_z-of_z}
use Rattle.kb_make.proofs.AddedSums.{plus_of}
use Rattle.kb_make.proofs.totals.Totals.plus.Goals as goal

pub returns : goal.returns
returns c =
    plus_of c.args.self.now c.args.sums.now _ _ _ _ _ _ _ c.in_ok-counted.ensures c.in_ok-counted-2.ensures
    (c.in_ok-counted-3.ensures ∙ ap (λ n. c.args.self.now.invoices + n) c.into.ensures)
    (to_z-of_z c.in_ok-summed.ensures.fits ∙ c.in_ok-summed.ensures.sum)
    (to_z-of_z c.in_ok-summed-2.ensures.fits ∙ c.in_ok-summed-2.ensures.sum)
    (to_z-of_z c.in_ok-summed-3.ensures.fits ∙ c.in_ok-summed-3.ensures.sum)
    (to_z-of_z c.in_ok-summed-4.ensures.fits ∙ c.in_ok-summed-4.ensures.sum)
