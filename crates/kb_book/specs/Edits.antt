-- The edits of a book.
use Rattle.std.specs.Prelude.{ℕ, ◌≡◌, List, [], ◌∷◌, ◌++◌, codes, Option, Some, decimal, refl}
use Rattle.std.specs.Fmt.{digits}
use Rattle.kb_days.specs.DateText.{date_text, civil_text}
use Rattle.kb_days.specs.Dates.{march}
use Rattle.kb_days.specs.Calendar.{month_of, day_of_month, month_after, month_start, month_length}
use Rattle.kb_timeline.specs.TimelineEdits.{TimelineValue}
use Rattle.kb_blocking.specs.declared.state.BlockState.{BlockState}
use Rattle.kb_overdue.specs.declared.state.OverdueState.{OverdueState}
use Rattle.kb_payment.specs.PaymentSums.{PaymentsValue}
use Rattle.kb_codec.specs.declared.action.Create.{Create}
use Rattle.kb_book.specs.Worlds.{WorldValue}
use Rattle.kb_tree.specs.Issues.{no_items}
use Rattle.kb_book.specs.Books.{BookValue}
use Rattle.kb_book.specs.Dues.{facts_of}
use Rattle.kb_book.specs.SubscriptionCommands.{started}
use Rattle.kb_book.specs.BlockCommands.{with_state, transition_state}
use Rattle.kb_book.specs.Inner.{state_name}

-- a start: the subscription is put behind the others, without an item
abbrev pub with_start : WorldValue → BookValue → ℕ → Create → BookValue
with_start world book today c = record book {
  timeline = started (facts_of world book) today c;
  charges = book.charges ++ no_items ∷ [];
}

-- an edited timeline
abbrev pub with_timeline : BookValue → TimelineValue → BookValue
with_timeline book timeline = record book { timeline = timeline }

-- other blocking states, and other payments
abbrev pub with_blocks : BookValue → List BlockState → BookValue
with_blocks book blocks = record book { blocks = blocks }

abbrev pub with_payments : BookValue → PaymentsValue → BookValue
with_payments book payments = record book { payments = payments }

-- a transition into the account's state of today, which is the present one from now on
abbrev pub with_transition : BookValue → Option OverdueState → ℕ → BookValue
with_transition book state today = record book {
  blocks = with_state book.blocks (transition_state state today);
  overdue = state_name state;
  transition = Some today;
}

-- the payment key of an automatic payment of an invoice on a day
abbrev pub auto_key : ℕ → ℕ → List ℕ
auto_key invoice day = codes "auto-" ++ decimal invoice ++ codes "-" ++ date_text day

key_of_march_1 : auto_key 12 (march 1) ≡ codes "auto-12-2024-03-01"
unfolding date_text civil_text digits month_of day_of_month month_after month_start month_length
key_of_march_1 = refl
