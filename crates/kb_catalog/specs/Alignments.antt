-- The alignments of starts among those of starts and changes.
use Rattle.kb_catalog.specs.declared.words.Align.{Align}
use Rattle.kb_catalog.specs.declared.words.Align.TheVariants as align
use Rattle.kb_catalog.specs.declared.words.CreateAlign.{CreateAlign}
use Rattle.kb_catalog.specs.declared.words.CreateAlign.TheVariants as create

-- the alignment of a start, as one of a change
abbrev pub align_of : CreateAlign → Align
align_of create.StartOfBundle = align.StartOfBundle
align_of create.StartOfSubscription = align.StartOfSubscription
