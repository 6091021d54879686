use Rattle.kb_days.proofs.ReadDates.{date_text-ok_or, ok_or-date_text}
use Rattle.kb_days.proofs.date_text.parse.Goals as goal

pub returns-clause-text : goal.returns-clause-text
returns-clause-text c = date_text-ok_or c.args.text.now (record {}) c.ok_or.result (cc)

pub returns-clause-all : goal.returns-clause-all
returns-clause-all c day = ok_or-date_text c.args.text.now (record {}) c.ok_or.result day (cc)
