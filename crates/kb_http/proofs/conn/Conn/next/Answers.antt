use Rattle.kb_http.specs.Connections.{unread}
use Rattle.kb_http.proofs.Complete.{meets_known, meets_none, meets_some}
use Rattle.kb_http.proofs.conn.Conn.next.Goals as goal

pub returns-in-None-clause-whole : goal.returns-in-None-clause-whole
returns-in-None-clause-whole g c since bytes known head rest begins =
    meets_known _ _ c.args.self.now.given (unread g.L.Link.left c.args.self.now)
    (g.L.Link.left c.read_next.new.self.link)
    bytes c.read_next.new.self.pending head rest c.read_next.result known c.read_next.ensures.request
    c.read_next.ensures.kept c.read_next.ensures.cause begins

pub returns-in-None-clause-none : goal.returns-in-None-clause-none
returns-in-None-clause-none g c since known =
    meets_none _ _ c.args.self.now.given (unread g.L.Link.left c.args.self.now)
    (g.L.Link.left c.read_next.new.self.link)
    c.read_next.new.self.pending c.read_next.result known c.read_next.ensures.request c.read_next.ensures.kept
    c.read_next.ensures.cause

pub returns-in-None-clause-part : goal.returns-in-None-clause-part
returns-in-None-clause-part g c since bytes more known any some whole is =
    meets_some _ _ c.args.self.now.given (unread g.L.Link.left c.args.self.now)
    (g.L.Link.left c.read_next.new.self.link)
    bytes more c.read_next.new.self.pending whole c.read_next.result known c.read_next.ensures.request
    c.read_next.ensures.kept c.read_next.ensures.cause any some is
