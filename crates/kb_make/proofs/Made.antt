-- What a lane tells that has sent all commands of a seed.
use Rattle.std.proofs.Common.{◌≡◌, ℕ, List, [], ◌∷◌, Result, Ok, Err, IfOk, ap, subst, ◌∙◌}
use Rattle.kb_days.specs.Dates.{january}
use Rattle.kb_catalog_text.specs.Texts.{CatalogText, OverdueText}
use Rattle.kb_machine.specs.Machines.{MachineValue}
use Rattle.kb_machine.specs.Histories.{replay}
use Rattle.kb_folder.specs.Foundings.{first_commands}
use Rattle.kb_make.specs.Seeds.{commands_of}
use Rattle.kb_make.specs.declared.totals.Totals.{Totals}
use Rattle.kb_make.specs.Totals.{totals_of}
use Rattle.kb_make.specs.Makes.{Sends}
use Rattle.kb_make.specs.Summaries.{IsSummary, summary_text}
use Rattle.kb_make.specs.Private.ShopTexts.{AreShopTexts}
use Rattle.kb_make.proofs.ShopTexts.{are_texts}

-- its summary
pub summary_made : (seed accounts months refused : ℕ) (first last : MachineValue) (totals : Totals)
    (text : List ℕ)
    → (catalog : CatalogText) × (overdue : OverdueText) × AreShopTexts catalog overdue
    × (first ≡ replay (first_commands (january 1) catalog overdue))
    → Sends first (commands_of seed accounts months) last refused → totals ≡ totals_of (last ∷ [])
    → text ≡ summary_text totals refused → IsSummary seed accounts months text
summary_made seed accounts months refused first last totals text texts sends sums told = record {
  last = last;
  refused = refused;
  made = record {
    catalog = texts.0;
    overdue = texts.1;
    texts = are_texts texts.0 texts.1 texts.2;
    sends = subst (λ (machine : MachineValue). Sends machine (commands_of seed accounts months) last refused)
        texts.3
        sends;
  };
  told = told ∙ ap (λ (one : Totals). summary_text one refused) sums;
}

-- what follows of a value, if there is one
pub of_value : {A E : Type 0} {P Q : A → Type 0} (result : Result A E) → ((value : A) → P value → Q value)
    → IfOk result P → IfOk result Q
of_value (Ok value) follows told = follows value told
of_value (Err fault) follows told = tt
