use Rattle.std.proofs.Common.{◌≡◌, ℕ, take, drop, rules, ap, ◌∙◌, sym}
use Rattle.std.specs.Int.{w16, to_be_bytes}
use Rattle.kb_journal.specs.Format.{magic}
use Rattle.kb_journal.specs.Reading.{zeros}
use Rattle.kb_journal.proofs.Parts.{header_whole}
use Rattle.kb_journal.proofs.header.read_header.Goals as goal

pub returns-clause-header : goal.returns-clause-header
returns-clause-header c =
    let letters : take 8 c.args.bytes.now ≡ magic = search rules in
    let none : take 4 (drop 12 c.args.bytes.now) ≡ zeros = search rules in
    let one : to_be_bytes w16 c.args.lane ≡ take 2 (drop 10 c.args.bytes.now) =
    ap (λ (n : ℕ). to_be_bytes w16 n) (sym c.if-read_number-lane.false) ∙ c.read_number.ensures.written in
    header_whole c.args.bytes.now c.read_number-lanes.result c.args.lane letters
    c.read_number-lanes.ensures.written one none
