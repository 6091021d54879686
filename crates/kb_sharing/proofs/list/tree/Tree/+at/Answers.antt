-- Which part of the tree has the place.
use Rattle.std.proofs.Common.{sym, subst, arith}
use Rattle.std.proofs.lemmas.Option.{slice_get_past}
use Rattle.kb_sharing.specs.Private.Trees.{IsSized}
use Rattle.kb_sharing.proofs.TreeSizes.{length_tree, slice_get-first, slice_get-second, slice_get-last}
use Rattle.kb_sharing.proofs.list.tree.Tree.+at.Goals as goal

pub returns-then-place-half : goal.returns-then-place-half
returns-then-place-half g t c =
    let sized = subst (IsSized c.args.size) c.in-Two.is c.requires.sized in
    rw (c.in-Two.is, c.at.ensures, c.deref.ensures)
    (sym (slice_get-first _ _ _ _ (length_tree _ _ sized.1) (length_tree _ _ sized.2) c.args.place
    c.if-place-half.true))

pub returns-then-place-half-2 : goal.returns-then-place-half-2
returns-then-place-half-2 g t c =
    let sized = subst (IsSized c.args.size) c.in-Two.is c.requires.sized in
    rw (c.in-Two.is, c.at-then-place-half-2.ensures, c.deref-then-place-half-2.ensures)
    (sym (slice_get-second _ _ _ _ (length_tree _ _ sized.1) (length_tree _ _ sized.2) c.args.place
    c.if-place-half.false c.if-place-half-2.true))

pub returns-then-place-half-3 : goal.returns-then-place-half-3
returns-then-place-half-3 g t c =
    let sized = subst (IsSized c.args.size) c.in-Two.is c.requires.sized in
    rw (c.in-Two.is, c.deref-then-place-half-3.ensures)
    (sym (slice_get-last _ _ _ _ (length_tree _ _ sized.1) (length_tree _ _ sized.2) c.args.place
    c.if-place-half.false c.if-place-half-3.true))

pub returns-else-place-half-3 : goal.returns-else-place-half-3
returns-else-place-half-3 g t c =
    let sized = length_tree _ _ c.requires.sized in
    let whole = (subst (IsSized c.args.size) c.in-Two.is c.requires.sized).0 in
    sym (slice_get_past _ c.args.place (omega arith))
