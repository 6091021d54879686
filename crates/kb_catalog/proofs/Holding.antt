-- Each rule list of a valid version ends with a case without condition.
use Rattle.std.proofs.Common.{◌≡◌, true, false, List, arith}
use Rattle.std.proofs.lemmas.Bool.{or_parts, not-false}
use Rattle.kb_catalog.specs.declared.version.Version.{Version}
use Rattle.kb_catalog.specs.declared.rule.Rule.TheVariants.{Cases}
use Rattle.kb_catalog.specs.VersionRules.{rule_list_wrong, IsValid}
use Rattle.kb_catalog.specs.Cases.{Asks, ends_open, EndOpen, asks_of_change, asks_of_plan, asks_of_create}
use Rattle.kb_catalog.specs.VersionCases.{decides_wrongly}
use Rattle.kb_catalog.proofs.RulesHold.{valid-nowhere_broken}

-- a rule list that doesn't decide wrongly ends with a case without condition
decides-open : {A : Type 0} (version : Version) (asks : A → Asks) (cases : List A)
    → decides_wrongly version asks cases ≡ false
    → ends_open asks cases ≡ true
decides-open version asks cases right = not-false _ (or_parts _ _ right).0

-- so does each one of a valid version
pub EndOpen-valid : (version : Version) → IsValid version → EndOpen version.rules
EndOpen-valid version valid =
    let at_0 : rule_list_wrong version 0 ≡ false = valid-nowhere_broken version valid Cases 0 (omega arith) in
    let at_1 : rule_list_wrong version 1 ≡ false = valid-nowhere_broken version valid Cases 1 (omega arith) in
    let at_2 : rule_list_wrong version 2 ≡ false = valid-nowhere_broken version valid Cases 2 (omega arith) in
    let at_3 : rule_list_wrong version 3 ≡ false = valid-nowhere_broken version valid Cases 3 (omega arith) in
    let at_4 : rule_list_wrong version 4 ≡ false =
    valid-nowhere_broken version valid Cases 4 (omega arith) in (
      decides-open version asks_of_change version.rules.change_policy
          (or_parts _ _ (or_parts _ _ (or_parts _ _ (or_parts _ _ at_0).0).0).0).0,
      decides-open version asks_of_change version.rules.change_alignment
          (or_parts _ _ (or_parts _ _ (or_parts _ _ at_1).0).0).0,
      decides-open version asks_of_plan version.rules.cancel_policy (or_parts _ _ (or_parts _ _ at_2).0).0,
      decides-open version asks_of_create version.rules.create_alignment (or_parts _ _ at_3).0,
      decides-open version asks_of_plan version.rules.billing_alignment at_4,
    )

pub ruleset endings = EndOpen-valid
