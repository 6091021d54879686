use Rattle.kb_json.proofs.view.subscription_text.Goals as goal

pub returns : goal.returns
returns c =
    rw (
      c.word.ensures,
      c.name.ensures,
      c.name-2.ensures,
      c.date.ensures,
      c.word-2.ensures,
      c.state_word.ensures,
      c.name_if.ensures,
      c.phase_field.ensures,
      c.date_if.ensures,
    ) at c.text_of.ensures
