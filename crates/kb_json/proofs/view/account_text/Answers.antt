use Rattle.kb_json.proofs.view.account_text.Goals as goal

pub returns : goal.returns
returns c =
    rw (
      c.word.ensures,
      c.name.ensures,
      c.currency.ensures,
      c.date_if.ensures,
      c.reach_of.ensures,
      c.sum.ensures,
      c.sum-2.ensures,
      c.sum-3.ensures,
      c.sum-4.ensures,
      c.overdue_field.ensures,
    ) at c.text_of.ensures
