use Rattle.std.proofs.Common.{◌≡◌, ℕ, List, ap, subst, ◌∙◌}
use Rattle.std.specs.FinMap.{find, entries}
use Rattle.kb_sharing.specs.Keys.{by_words}
use Rattle.kb_codec.specs.declared.command.Command.TheVariants as kinds
use Rattle.kb_codec.specs.CommandBytes.{spelling}
use Rattle.kb_book.specs.Rows.{IsUnprepared}
use Rattle.kb_machine.specs.Judged.{refusal_in}
use Rattle.kb_machine.specs.Texts.{TextsValue, by_key, new_catalog}
use Rattle.kb_machine.proofs.machine.Machine.plan_catalog.Goals as goal

pub returns-in-Err-clause-refused : goal.returns-in-Err-clause-refused
returns-in-Err-clause-refused c =
    let texts : TextsValue = record {
      world = c.self.inside.world;
      catalogs = entries c.self.inside.catalogs;
      overdues = entries c.self.inside.overdues;
    } in
    let spelled : c.deref.result.now ≡ spelling (kinds.Catalog c.args.text.now) =
    c.deref.ensures.value ∙ c.in_ok-spelling.ensures ∙ ap spelling c.requires.text in
    let P : List ℕ → Type 0 = λ written. IsUnprepared (refusal_in (by_key
    (find by_words c.args.text.now.key texts.catalogs) written (new_catalog texts c.args.text.now)))
    c.in-Err.fault in
    rw (← c.self.view_is) (subst P spelled (c.in-Err.ensures.refused (new_catalog texts c.args.text.now)))
