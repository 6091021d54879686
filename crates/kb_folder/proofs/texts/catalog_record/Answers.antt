use Rattle.kb_folder.proofs.Read.{catalog_short, text_kept}
use Rattle.kb_folder.proofs.texts.catalog_record.Goals as goal

pub returns-clause-record : goal.returns-clause-record
returns-clause-record g c =
    let found = c.in_ok-written_catalog.ensures.record in (
      found.0,
      text_kept ((g.V.Vault.told c.args.vault.now).file_bytes c.args.name.now) c.in_ok-text.text.items
          found.0.text
          c.in_ok-text.ensures.bytes found.1 (catalog_short found.0.text found.0.version found.2),
      found.2,
      found.3,
    )
