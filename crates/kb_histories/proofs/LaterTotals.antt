-- What an account is charged in all is the same with later versions of a catalog.
use Rattle.std.proofs.Common.{ℕ, ◌+◌, length, sum_by, Option, pos, ◌+ℤ◌, ap, ap₂}
use Rattle.std.specs.List.{range_with_len}
use Rattle.std.proofs.Math.Path.{fun_ext}
use Rattle.kb_days.specs.Calendar.{first_day, charged_days}
use Rattle.kb_due.specs.declared.cell.Cell.{Cell}
use Rattle.kb_tree.specs.Amounts.{charged}
use Rattle.kb_book.specs.Dues.{facts_of}
use Rattle.kb_histories.specs.LaterVersions.{TotalsStay}
use Rattle.kb_histories.proofs.LaterDues.{dues_stay, fees_stay}

pub totals_stay : TotalsStay
totals_stay world later book held =
    ap (λ (costs : ℕ → ℕ). pos (sum_by costs (range_with_len 0 (length book.timeline.subscriptions)))
    +ℤ book.beside) (fun_ext (λ (sub : ℕ).
    ap₂ (λ (fees dues : ℕ → Option Cell). charged fees first_day charged_days
    + charged dues first_day charged_days)
    (fun_ext (λ (day : ℕ). fees_stay (facts_of world book) later sub book.billed day held))
    (fun_ext (λ (day : ℕ). dues_stay (facts_of world book) later sub book.billed day held))))
