-- The words of a catalog's enumerations; two values are the same where their words are.
use Rattle.std.specs.Prelude.{ℕ, Bool, bytes_eq, List, codes}
use Rattle.kb_days.specs.declared.period.Period.{Period}
use Rattle.kb_days.specs.Periods.{period_word}
use Rattle.kb_catalog.specs.declared.words.Category.{Category}
use Rattle.kb_catalog.specs.declared.words.Category.TheVariants.{Base, AddOn, Standalone}
use Rattle.kb_catalog.specs.declared.words.PhaseType.{PhaseType}
use Rattle.kb_catalog.specs.declared.words.PhaseType.TheVariants.{Trial, Discount, FixedTerm, Evergreen}

-- the word of a category
abbrev pub category_word : Category → List ℕ
category_word Base = codes "BASE"
category_word AddOn = codes "ADD_ON"
category_word Standalone = codes "STANDALONE"

-- the word of a phase type
abbrev pub phase_word : PhaseType → List ℕ
phase_word Trial = codes "TRIAL"
phase_word Discount = codes "DISCOUNT"
phase_word FixedTerm = codes "FIXEDTERM"
phase_word Evergreen = codes "EVERGREEN"

abbrev pub same_category : Category → Category → Bool
same_category a b = bytes_eq (category_word a) (category_word b)

abbrev pub same_phase : PhaseType → PhaseType → Bool
same_phase a b = bytes_eq (phase_word a) (phase_word b)

abbrev pub same_period : Period → Period → Bool
same_period a b = bytes_eq (period_word a) (period_word b)
