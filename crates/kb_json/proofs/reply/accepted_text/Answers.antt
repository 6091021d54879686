use Rattle.kb_json.proofs.reply.accepted_text.Goals as goal

pub returns : goal.returns
returns c =
    rw (
      c.word.ensures,
      c.count.ensures,
      c.count_if.ensures,
      c.wide.ensures,
      c.sum.ensures,
      c.sum-2.ensures,
      c.sum-3.ensures,
    ) at c.text_of.ensures
