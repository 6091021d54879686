use Rattle.std.proofs.Common.{◌+◌, Ok, ◌++◌, drop, append-nil, sym, ap, ◌∙◌, arith}
use Rattle.std.proofs.lemmas.List.{at_drop_all}
use Rattle.toml.specs.Data.{item, Items}
use Rattle.toml.specs.View.{view, items_view}
use Rattle.toml.proofs.Views.{items_view-drop}
use Rattle.kb_catalog_text.specs.Reads.{and_then, read_items, read_table}
use Rattle.kb_catalog_text.proofs.ReadSteps.{read_items-more, read_items-fault}
use Rattle.kb_catalog_text.proofs.Told.{told}
use Rattle.kb_catalog_text.proofs.entries.read_items.Goals as goal

pub returns-in_err-read_entry : goal.returns-in_err-read_entry
returns-in_err-read_entry g c =
    let reads = read_table g.T.Entry.says in
    let l = c.loop-item in
    let turn = items_view-drop c.args.items.now l.item-index c.item-item.result c.loop-item-test.true
    ∙ ap (λ v. item (view v) (items_view (drop (l.item-index + 1) c.args.items.now))) (sym c.item-item.is) in
    told _ _ _ c.from_residual.ensures (λ kept.
    sym (sym (read_items-fault reads c.args.key.now _ (items_view (drop (l.item-index + 1) c.args.items.now))
    l.entries _ (c.in_err-read_entry.ensures kept))
    ∙ ap (λ (entries : Items). and_then (read_items reads c.args.key.now entries)
    (λ rest. Ok (l.entries ++ rest))) (sym turn) ∙ l.invariant))

pub loop-item-preserved : goal.loop-item-preserved
loop-item-preserved g c =
    let reads = read_table g.T.Entry.says in
    let l = c.loop-item in
    let turn = items_view-drop c.args.items.now l.item-index c.item-item.result c.loop-item-test.true
    ∙ ap (λ v. item (view v) (items_view (drop (l.item-index + 1) c.args.items.now))) (sym c.item-item.is) in
    rw c.in_ok-push.ensures.ok
    (sym (read_items-more reads c.args.key.now _ (items_view (drop (l.item-index + 1) c.args.items.now))
    l.entries _ c.in_ok-read_entry.ensures)
    ∙ ap (λ (entries : Items). and_then (read_items reads c.args.key.now entries)
    (λ rest. Ok (l.entries ++ rest))) (sym turn) ∙ l.invariant)

pub returns : goal.returns
unfolding read_items
returns g c =
    let reads = read_table g.T.Entry.says in
    sym c.loop-item.invariant
    ∙ at_drop_all (λ items. and_then (read_items reads c.args.key.now (items_view items))
    (λ rest. Ok (c.loop-item.entries ++ rest))) c.args.items.now c.loop-item.item-index
    (omega (arith, c.loop-item-test.false))
    ∙ ap Ok (append-nil c.loop-item.entries)
