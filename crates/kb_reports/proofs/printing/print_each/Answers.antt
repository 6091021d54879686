-- What was said so far, and then this account's lines or a first part of them.
use Rattle.std.proofs.Common.{◌++◌, ◌+◌, ◌∙◌, drop, map}
use Rattle.std.proofs.KnownBytes.{Appends-trans}
use Rattle.std.proofs.lemmas.Result.{err_from_is_err_and}
use Rattle.std.specs.List.{flat_map}
use Rattle.kb_lane.specs.Lanes.{machine_of}
use Rattle.kb_reports.specs.Listings.{of_listed}
use Rattle.kb_reports.proofs.PrintedAccounts.{one_said, part_said}
use Rattle.kb_reports.proofs.printing.print_each.Goals as goal

pub returns-in_err-print_account-clause-part : goal.returns-in_err-print_account-clause-part
returns-in_err-print_account-clause-part g c =
    let say = of_listed (g.R.Report.said c.args.report.now) (map machine_of c.args.lanes.now) in
    let all = c.args.listed.now in
    let place = c.loop-one.one-index in
    let before = c.loop-one.invariant.said in
    let part = c.in_err-print_account.ensures.part in
    let failed = err_from_is_err_and c.from_residual.result c.from_residual.ensures.1 in
    rw failed.1 (
      before.0 ++ part.0,
      Appends-trans _ _ _ _ _ before.1 part.1,
      (
        part.2.0 ++ flat_map say (drop (place + 1) all),
        part_said say all place c.one-item.result c.loop-one-test.true c.one-item.is before.0 before.2 part.0
            part.2.0 part.2.1,
      ),
    )

pub loop-one-preserved : goal.loop-one-preserved
loop-one-preserved g c =
    let say = of_listed (g.R.Report.said c.args.report.now) (map machine_of c.args.lanes.now) in
    let before = c.loop-one.invariant.said in
    record {
      said = (
        before.0 ++ say c.one-item.result,
        Appends-trans (g.O.Sink.written c.args.output.now) (g.O.Sink.written c.loop-one.output)
            (g.O.Sink.written c.print_account.new.output) before.0 (say c.one-item.result) before.1
            c.in_ok-print_account.ensures.printed,
        one_said say c.args.listed.now c.loop-one.one-index c.one-item.result
            c.loop-one-test.true c.one-item.is
            before.0 before.2,
      );
      calm = c.in_ok-print_account.ensures.calm ∙ c.loop-one.invariant.calm;
    }
