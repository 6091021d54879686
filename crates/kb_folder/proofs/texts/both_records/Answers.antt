use Rattle.kb_catalog_text.specs.Texts.{catalog_read, overdue_read}
use Rattle.kb_folder.proofs.Read.{file_none, file_second}
use Rattle.kb_folder.proofs.texts.both_records.Goals as goal

pub returns-in-Err-clause-judged : goal.returns-in-Err-clause-judged
returns-in-Err-clause-judged g c =
    file_second catalog_read overdue_read _ _ _ c.in-Err.fault
    (c.catalog_record.ensures.same_files c.args.overdue.now)
    c.in_ok-first.ensures.judged c.in-Err.ensures.judged

pub returns-in-Ok-clause-judged : goal.returns-in-Ok-clause-judged
returns-in-Ok-clause-judged g c =
    file_none catalog_read overdue_read _ _ _ (c.catalog_record.ensures.same_files c.args.overdue.now)
    c.in_ok-first.ensures.judged c.in-Ok.ensures.judged
