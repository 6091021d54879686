-- What a command that begins an attempt finds and leaves.
use Rattle.std.proofs.Common.{◌≡◌, ℕ, ◌≤◌, true, List, Some, None, refl, sym, ap, ◌∙◌, true≢false}
use Rattle.kb_days.specs.Calendar.{last_day}
use Rattle.kb_payment.specs.declared.attempt.Attempt.{Attempt}
use Rattle.kb_payment.specs.declared.attempt.Status.TheVariants.{Unknown}
use Rattle.kb_payment.specs.PaymentSums.{attempt_of}
use Rattle.kb_codec.specs.declared.command.Command.{Command}
use Rattle.kb_codec.specs.declared.command.Command.TheVariants as kinds
use Rattle.kb_codec.specs.declared.action.OpenAccount.{OpenAccount}
use Rattle.kb_machine.specs.Judged.{after_judged, is_new}
use Rattle.kb_machine.specs.Machines.{MachineValue, judged, opening}
use Rattle.kb_codec.specs.Senders.{is_text, account_of}
use Rattle.kb_histories.specs.Attempts.{attempt_in, attempt_at, begun_key}
use Rattle.kb_histories.specs.Begins.{AttemptsBegin, BegunKeysAreFree}
use Rattle.kb_histories.specs.PaymentKeys.{AreKeyed}
use Rattle.kb_book.proofs.RepeatedCommands.{find-put-self}
use Rattle.kb_histories.proofs.JudgedCases.{judged-cases, accepted_on}
use Rattle.kb_histories.proofs.AcceptedBooks.{accepted-payments, own-none, key-free, begun-found}

-- a text begins none
text-begins : (today : ℕ) (command : Command) → is_text command ≡ true → begun_key today command ≡ None
text-begins today (kinds.Catalog c) text = refl
text-begins today (kinds.OverdueRules c) text = refl
text-begins today command text = absurd (true≢false (sym text))

module _ (machine : MachineValue) (today : ℕ) (command : Command) (key : List ℕ)
    (new : is_new (judged machine today command) ≡ true) (begins : begun_key today command ≡ Some key) where
  -- it isn't a text
  no-text : is_text command ≡ true → ⊥
  no-text text = let none = text-begins today command text in cc

  -- nor does it open its account
  no-opening : (name request : List ℕ) (c : OpenAccount) → command ≡ opening name request c → ⊥
  no-opening name request c opens =
      let none : begun_key today command ≡ None = ap (begun_key today) opens in cc

  -- so it leaves an attempt
  begins-after : (attempt : Attempt)
      × (attempt_at (after_judged machine (judged machine today command)) (account_of command) key
      ≡ Some attempt)
      × (attempt.status ≡ Unknown)
  begins-after =
      judged-cases machine today
      (λ comes. is_new comes ≡ true → (attempt : Attempt)
      × (attempt_at (after_judged machine comes) (account_of command) key ≡ Some attempt)
      × (attempt.status ≡ Unknown)) (λ reply again. absurd (true≢false (sym again)))
      (λ refusal refused. absurd (true≢false (sym refused))) command (λ text. absurd (no-text text))
      (λ name request c opens. absurd (no-opening name request c opens))
      (λ book there none accepted.
      let found = begun-found machine.texts.world book today command key
      (own-none machine.texts.world book today command none) begins in (
        found.0,
        ap (attempt_in key)
            (find-put-self (account_of command) (accepted_on machine today command book).1 machine.books)
            ∙ ap (λ payments. attempt_of payments key)
            (accepted-payments machine.texts.world book today command)
            ∙ found.1,
        found.2,
      )) new

  -- and its key was free
  free-before : AreKeyed machine → today ≤ last_day
      → attempt_at machine (account_of command) key ≡ None
  free-before keyed last =
      judged-cases machine today
      (λ comes. is_new comes ≡ true → attempt_at machine (account_of command) key ≡ None)
      (λ reply again. absurd (true≢false (sym again)))
      (λ refusal refused. absurd (true≢false (sym refused))) command (λ text. absurd (no-text text))
      (λ name request c opens. absurd (no-opening name request c opens))
      (λ book there none accepted.
      ap (attempt_in key) there
      ∙ key-free machine.texts.world book today command key (keyed.keyed (account_of command) book there) last
      (own-none machine.texts.world book today command none) begins) new

pub attempts_begin : AttemptsBegin
attempts_begin machine today command key new begins = begins-after machine today command key new begins

pub begun_keys_are_free : BegunKeysAreFree
begun_keys_are_free machine today command key keyed last new begins =
    free-before machine today command key new begins keyed last
