-- The cover is that of the items, whose numbers are below the first new one.
use Rattle.std.proofs.Common.{◌∙◌, sym, subst, map, All, List}
use Rattle.kb_days.specs.Calendar.{first_day, charged_days}
use Rattle.kb_due.specs.CellStretches.{stretch_of}
use Rattle.kb_tree.specs.Covers.{due_in, IsBelow}
use Rattle.kb_tree.specs.Items.{Numbered}
use Rattle.kb_tree.proofs.NumberedItems.{above-of, new_items-of, below-new}
use Rattle.kb_tree.proofs.coverage.Coverage.bring_up.Goals as goal

pub reconcile-requires-clause-above : goal.reconcile-requires-clause-above
reconcile-requires-clause-above g c =
    above-of c.self.inside.cover c.self.inside.items c.args.first c.self.invariant
    (subst (λ (items : List Numbered). All (IsBelow c.args.first) items) (sym c.self.view_is)
    c.requires.below)

pub returns-clause-below : goal.returns-clause-below
returns-clause-below g c =
    below-new c.self.inside.items c.in_ok-all.all (due_in (map stretch_of c.args.pieces.now)) c.args.first
    c.in_ok-cover.items.items c.deref.result.now
    (subst (λ (items : List Numbered). All (IsBelow c.args.first) items) (sym c.self.view_is)
    c.requires.below)
    (c.in_ok-cover.ensures.items
    ∙ new_items-of c.self.inside.cover c.self.inside.items
    (due_in (map stretch_of c.args.pieces.now)) first_day
    charged_days c.self.invariant)
    c.deref.ensures.value c.in_ok-all.ensures
