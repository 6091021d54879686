-- The book of an account that is opened.
use Rattle.std.proofs.Common.{◌≡◌, ℕ, List, [], None, pos, sym, subst}
use Rattle.std.specs.FinMap.{put}
use Rattle.kb_sharing.specs.Keys.{by_words}
use Rattle.kb_days.specs.Calendar.{first_day, charged_days}
use Rattle.kb_timeline.specs.TimelineEdits.{TimelineValue, no_subscriptions}
use Rattle.kb_blocking.specs.declared.state.BlockState.{BlockState}
use Rattle.kb_payment.specs.PaymentSums.{PaymentsValue}
use Rattle.kb_payment.specs.PaymentEdits.{no_payments}
use Rattle.kb_credit.specs.InvoiceRows.{InvoicesValue}
use Rattle.kb_credit.specs.InvoiceEdits.{no_invoices}
use Rattle.kb_codec.specs.declared.command.Command.{Command}
use Rattle.kb_codec.specs.declared.command.Command.TheVariants as kinds
use Rattle.kb_codec.specs.declared.action.Action.TheVariants as actions
use Rattle.kb_codec.specs.declared.action.OpenAccount.{OpenAccount}
use Rattle.kb_codec.specs.CommandBytes.{spelling}
use Rattle.kb_book.specs.declared.answer.Answer.{Answer}
use Rattle.kb_book.specs.Worlds.{WorldValue}
use Rattle.kb_tree.specs.Issues.{SubscriptionItems}
use Rattle.kb_book.specs.Books.{BookValue, Kept, Keyed, new_book}
use Rattle.kb_book.specs.Steps.{Outcome, accepted_over}
use Rattle.kb_book.specs.SoundBooks.{IsBook}
use Rattle.kb_book.specs.BilledBooks.{IsBilled, IsEven}
use Rattle.kb_book.proofs.NewBooks.{opened-sound, opened-billed, opened-even}
use Rattle.kb_account.specs.Prepares.{opening_book}

-- what is told of it
abbrev pub first_answer : Answer
first_answer = record { command = 1; invoice = None; total = pos 0; credit = pos 0; unpaid = pos 0 }

-- what that command makes of a new book
abbrev pub IsOpened : List ℕ → List ℕ → OpenAccount → BookValue → Answer → Type 0
IsOpened account key c book answer =
    (world : WorldValue) (today : ℕ)
    → accepted_over world (new_book account c.currency c.bcd c.autopay) today
    (kinds.Act account key (actions.OpenAccount c)) first_day charged_days
    ≡ (answer, book)

-- it is a book without a subscription that keeps its answer
pub opened-is : (command : Command) (account key : List ℕ) (c : OpenAccount)
    (timeline : TimelineValue) (blocks : List BlockState)
    (payments : PaymentsValue) (invoices : InvoicesValue) (charges : List SubscriptionItems)
    (kept : Keyed Kept)
    (answer : Answer) → command ≡ kinds.Act account key (actions.OpenAccount c)
    → timeline ≡ no_subscriptions → blocks ≡ []
    → payments ≡ no_payments → invoices ≡ no_invoices → charges ≡ []
    → kept ≡ put by_words key (record { spelling = spelling command; answer = answer }) []
    → answer ≡ first_answer
    → IsOpened account key c (record {
      account = account;
      currency = c.currency;
      bcd = c.bcd;
      autopay = c.autopay;
      timeline = timeline;
      blocks = blocks;
      billed = None;
      beside = pos 0;
      payments = payments;
      invoices = invoices;
      charges = charges;
      overdue = None;
      transition = None;
      commands = 1;
      kept = kept;
    }) answer
opened-is command account key c timeline blocks payments invoices charges kept answer is one two three
    four five six
    told world today =
    rw (one, two, three, four, five, six, is, told)

-- such a book is sound
pub opened-sound_book : (account key : List ℕ) (c : OpenAccount) (book : BookValue) (answer : Answer)
    → IsOpened account key c book answer
    → IsBook book
opened-sound_book account key c book answer made =
    subst (λ (outcome : Outcome). IsBook outcome.1) (made no_world 0)
    (opened-sound account c.currency c.bcd c.autopay no_world 0 key c)
  where
    no_world : WorldValue
    no_world = record { versions = []; states = [] }

module _ (command : Command) (account key : List ℕ) (c : OpenAccount)
    (is : command ≡ kinds.Act account key (actions.OpenAccount c)) (book : BookValue) (answer : Answer)
    (made : IsOpened account key c book answer) where
  -- whichever the command is
  pub opened-command : (world : WorldValue) (today : ℕ)
      → accepted_over world (opening_book command) today command first_day charged_days ≡ (answer, book)
  opened-command world today =
      subst (λ (asked : Command). accepted_over world (opening_book asked) today asked first_day charged_days
      ≡ (answer, book))
      (sym is) (made world today)

  -- and it is billed, in any world
  pub opened-days : (world : WorldValue) → IsBilled world book
  opened-days world =
      subst (λ (outcome : Outcome). IsBilled world outcome.1) (made world 0)
      (opened-billed account c.currency c.bcd c.autopay world 0 key c)

  pub opened-credit : (world : WorldValue) → IsEven world book
  opened-credit world =
      subst (λ (outcome : Outcome). IsEven world outcome.1) (made world 0)
      (opened-even account c.currency c.bcd c.autopay world 0 key c)
