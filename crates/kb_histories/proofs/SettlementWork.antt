-- A settlement adds no work.
use Rattle.std.proofs.Common.{◌≤◌, sym, arith, true≢false}
use Rattle.kb_codec.specs.declared.command.Command.TheVariants as kinds
use Rattle.kb_machine.specs.Judged.{after_judged}
use Rattle.kb_histories.proofs.JudgedCases.{judged-cases, accepted_on}
use Rattle.kb_histories.specs.OwnWork.{all_work}
use Rattle.kb_histories.specs.SettledWork.{SettlementsAddNoWork}
use Rattle.kb_histories.proofs.BookWork.{settle-work}
use Rattle.kb_histories.proofs.MachineWork.{work-kept}

pub settlements_add_no_work : SettlementsAddNoWork
settlements_add_no_work machine today named c are =
    judged-cases machine today
    (λ comes. all_work named today (after_judged machine comes) ≤ all_work named today machine)
    (λ reply. omega arith) (λ refusal. omega arith) (kinds.Settle c)
    (λ text. absurd (true≢false (sym text))) (λ name request d opens. absurd (cc))
    (λ book there none.
    work-kept machine today named c.account book (accepted_on machine today (kinds.Settle c) book).1 are there
    (settle-work machine.texts.world book today (are.billed c.account book there) c))
