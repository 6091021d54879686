use Rattle.kb_http.proofs.Looks.{part_cut, some_list}
use Rattle.kb_http.proofs.reading.end_of.Goals as goal

pub returns-in-len1-up : goal.returns-in-len1-up
returns-in-len1-up c old new left end = (
  part_cut c.args.pending.now (some_list c.args.pending.now c.in-len1-up.len_at_least) c.requires.short
      c.requires.none
      c.requires.unfinished,
  end,
)
