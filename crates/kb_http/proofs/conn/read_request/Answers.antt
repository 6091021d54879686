use Rattle.std.proofs.Common.{take, ◌+◌, refl, ◌∙◌}
use Rattle.kb_http.proofs.Taken.{is_request, consumes}
use Rattle.kb_http.proofs.conn.read_request.Goals as goal

pub returns-in-Ok-take_body-clause-request : goal.returns-in-Ok-take_body-clause-request
returns-in-Ok-take_body-clause-request g c =
    let whole = c.in-Ok.ensures.whole in (
      take (c.in-Ok.found.0.len + c.in-Ok.found.1) c.read_whole.new.pending.items,
      consumes _ _ c.args.pending.now.items c.read_whole.new.pending.items c.take_body.new.pending.items
          (c.in-Ok.found.0.len + c.in-Ok.found.1) c.read_whole.ensures.ahead.kept
          c.in-Ok-take_body.ensures.rest,
      is_request c.args.given c.read_whole.new.pending.items c.in-Ok.found.0 c.in-Ok.found.1 _ whole
          (c.from_vec.ensures ∙ c.in-Ok-take_body.ensures.body) refl c.closes.ensures,
    )
