use Rattle.std.proofs.Common.{◌≡◌, Err, map, string_bytes}
use Rattle.kb_runs.specs.declared.run_stop.RunStop.TheVariants as runs
use Rattle.kb_words.specs.Grammar.{words_of as words_of_grammar}
use Rattle.kb_apply.specs.LaneRuns.{outside_of}
use Rattle.kb_runs.specs.declared.stop.Stop.TheVariants as stops
use Rattle.kb_billd.specs.TopCall.{around_of}
use Rattle.kb_billd.proofs.Causes.{begins_disk, begins_inside, begins_market}
use Rattle.kb_billd.proofs.Untouched.{rose_over}
use Rattle.kb_billd.proofs.top.billd.Goals as goal

pub returns-clause-ends : goal.returns-clause-ends
returns-clause-ends g c = record {
  outcome = c.begin-run.result;
  written = g.O.Sink.written c.begin-run.new.output;
  done = c.begin-run.ensures.begins;
  closed = c.close.ensures.closes;
}

pub returns-clause-input : goal.returns-clause-input
returns-clause-input g c = λ is. c.begin-run.ensures.input (c.close.ensures.tells.input is)

pub returns-clause-output : goal.returns-clause-output
returns-clause-output g c = λ is. rose_over (g.O.Sink.faults c.args.output.now)
    (g.O.Sink.faults c.begin-run.new.output) (g.O.Sink.faults c.close.new.output)
    (c.begin-run.result ≡ Err (stops.Run runs.Output)) c.begin-run.ensures.output_rising
    c.close.ensures.rising
    c.begin-run.ensures.output (c.close.ensures.cause is)

pub returns-clause-inside : goal.returns-clause-inside
returns-clause-inside g c = begins_inside (outside_of g.V.Disk.Disk.told g.M.Gateway.Gateway.told
    g.C.Clock.day) g.M.Market.serves c.args.clock
    (around_of (g.I.Source.left c.args.input.now) (g.O.Sink.written c.args.output.now)
    (g.V.Vault.told c.args.vault.now)
    (g.M.Market.told c.args.market.now))
    (around_of (g.I.Source.left c.begin-run.new.input) (g.O.Sink.written c.begin-run.new.output)
    (g.V.Vault.told
    c.begin-run.new.vault) (g.M.Market.told c.begin-run.new.market))
    c.begin-run.result (words_of_grammar (map string_bytes c.args.words.now.items))
    c.begin-run.ensures.begins

pub returns-clause-disk : goal.returns-clause-disk
returns-clause-disk g c = λ is. begins_disk (outside_of g.V.Disk.Disk.told g.M.Gateway.Gateway.told
    g.C.Clock.day) g.M.Market.serves c.args.clock
    (around_of (g.I.Source.left c.args.input.now) (g.O.Sink.written c.args.output.now)
    (g.V.Vault.told c.args.vault.now)
    (g.M.Market.told c.args.market.now))
    (around_of (g.I.Source.left c.begin-run.new.input) (g.O.Sink.written c.begin-run.new.output)
    (g.V.Vault.told
    c.begin-run.new.vault) (g.M.Market.told c.begin-run.new.market))
    c.begin-run.result (words_of_grammar (map string_bytes c.args.words.now.items))
    c.begin-run.ensures.begins
    (c.close.ensures.tells.disk is)

pub returns-clause-market : goal.returns-clause-market
returns-clause-market g c = λ is. begins_market (outside_of g.V.Disk.Disk.told g.M.Gateway.Gateway.told
    g.C.Clock.day) g.M.Market.serves c.args.clock
    (around_of (g.I.Source.left c.args.input.now) (g.O.Sink.written c.args.output.now)
    (g.V.Vault.told c.args.vault.now)
    (g.M.Market.told c.args.market.now))
    (around_of (g.I.Source.left c.begin-run.new.input) (g.O.Sink.written c.begin-run.new.output)
    (g.V.Vault.told
    c.begin-run.new.vault) (g.M.Market.told c.begin-run.new.market))
    c.begin-run.result (words_of_grammar (map string_bytes c.args.words.now.items))
    c.begin-run.ensures.begins
    (c.close.ensures.tells.market is)
