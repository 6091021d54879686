use Rattle.kb_json.proofs.view.payment_text.Goals as goal

pub returns : goal.returns
returns c =
    rw (
      c.word.ensures,
      c.name.ensures,
      c.word-2.ensures,
      c.kind_word.ensures,
      c.count.ensures,
      c.from.ensures,
      c.count-2.ensures,
      c.word-3.ensures,
      c.status_word.ensures,
    ) at c.text_of.ensures
