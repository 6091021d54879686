use Rattle.std.proofs.Common.{◌∙◌, ap, arith, to_z-of_z}
use Rattle.std.specs.Fmt.{signed_decimal}
use Rattle.kb_json.proofs.Decimals.{IsNumber-text}
use Rattle.kb_json.proofs.draft.Draft.long_number.Goals as goal

pub number-requires : goal.number-requires
number-requires c =
    IsNumber-text c.args.number c.as_str.result.now (omega (arith, c.ranges.number.sfits))
    (c.as_str.ensures.value ∙ c.in_ok-digits.ensures ∙ ap signed_decimal (to_z-of_z c.ranges.number))
