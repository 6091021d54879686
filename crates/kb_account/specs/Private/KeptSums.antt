-- How the sums of an answer are kept.
use Rattle.std.specs.Prelude.{ℤ}
use Rattle.std.specs.Arc.{arc_value}
use Rattle.kb_account.specs.declared.kept_answer.KeptSums.{KeptSums}
use Rattle.kb_account.specs.declared.kept_answer.KeptSums.TheVariants.{Small, Large}

-- the total, the credit and what is unpaid
abbrev pub sums_in : KeptSums → ℤ × ℤ × ℤ
sums_in (Small total credit unpaid) = (total, credit, unpaid)
sums_in (Large answer) = ((arc_value answer).total, (arc_value answer).credit, (arc_value answer).unpaid)
