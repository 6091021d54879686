-- What a command leaves of a machine: texts with later versions, or one more book.
use Rattle.std.proofs.Common.{◌≡◌, ℕ, Bool, true, false, List, [], ◌∷◌, ◌++◌, Option, Some, None, cond}
use Rattle.std.proofs.Common.{bytes_eq, refl, sym, true≢false}
use Rattle.std.specs.FinMap.{find}
use Rattle.std.proofs.lemmas.List.{append-nil}
use Rattle.kb_sharing.specs.Keys.{by_words}
use Rattle.kb_catalog.specs.declared.version.Version.{Version}
use Rattle.kb_codec.specs.declared.command.Command.{Command}
use Rattle.kb_codec.specs.declared.command.Command.TheVariants as kinds
use Rattle.kb_codec.specs.declared.action.OpenAccount.{OpenAccount}
use Rattle.kb_book.specs.declared.refusal.Refusal.{Refusal}
use Rattle.kb_book.specs.declared.refusal.Refusal.TheVariants.{KeyReused}
use Rattle.kb_book.specs.Books.{BookValue}
use Rattle.kb_book.specs.Rows.{first_refusal}
use Rattle.kb_book.specs.Steps.{rows_of}
use Rattle.kb_account.specs.Prepares.{opening_book}
use Rattle.kb_book.specs.declared.reply.LaneReply.{LaneReply}
use Rattle.kb_book.specs.declared.reply.LaneReply.TheVariants as replies
use Rattle.kb_machine.specs.Judged.{New, Again, Refused, unless_refused, lifted, after_judged}
use Rattle.kb_machine.specs.Texts.{KeptText, TextsValue, by_key, catalog_rows, with_catalog, with_overdue}
use Rattle.kb_machine.specs.Machines.{MachineValue, book_of, with_book, with_texts, judged, opening}
use Rattle.kb_codec.specs.Senders.{account_of}
use Rattle.kb_histories.proofs.JudgedCases.{judged-cases, accepted_on}

-- texts have the versions of others, perhaps with later ones behind them
abbrev pub HaveLater : TextsValue → TextsValue → Type 0
HaveLater texts next = (later : List Version) × (next.world.versions ≡ texts.world.versions ++ later)

module _ (machine : MachineValue) (today : ℕ) (P : MachineValue → Type 0) (before : P machine) where
  -- a text comes again, is refused, or leads to the next texts
  text-leaves : (reply : ℕ → LaneReply) (spelled : List ℕ) (number : ℕ) (next : TextsValue)
      (found : Option KeptText) (refused : Option Refusal) → P (with_texts machine next)
      → P (after_judged machine (lifted reply (with_texts machine)
      (by_key found spelled (unless_refused refused (New number next)))))
  text-leaves reply spelled number next None None after = after
  text-leaves reply spelled number next None (Some refused) after = before
  text-leaves reply spelled number next (Some kept) refused after = by_same (bytes_eq kept.spelling spelled)
    where
      by_same : (same : Bool) → P (after_judged machine (lifted reply (with_texts machine)
          (cond same (Again kept.number) (Refused KeyReused))))
      by_same true = before
      by_same false = before

  -- what holds before a command, with later versions, and with the book that it leaves, holds after it
  pub judged-leaves : (command : Command)
      → ((texts : TextsValue) → HaveLater machine.texts texts → P (with_texts machine texts))
      → ((name request : List ℕ) (c : OpenAccount) → P (with_book machine (account_of command)
      (accepted_on machine today (opening name request c) (opening_book (opening name request c))).1))
      → ((book : BookValue) → book_of machine (account_of command) ≡ Some book
      → first_refusal (rows_of machine.texts.world book today command) ≡ None
      → P (with_book machine (account_of command) (accepted_on machine today command book).1))
      → P (after_judged machine (judged machine today command))
  unfolding judged
  judged-leaves (kinds.Catalog c) texts opened taken =
      text-leaves replies.Version _ _ (with_catalog machine.texts c)
      (find by_words c.key machine.texts.catalogs)
      (first_refusal (catalog_rows machine.texts.world.versions c.text.version))
      (texts (with_catalog machine.texts c) (c.text.version ∷ [], refl))
  judged-leaves (kinds.OverdueRules c) texts opened taken =
      text-leaves replies.States _ _ (with_overdue machine.texts c)
      (find by_words c.key machine.texts.overdues) None
      (texts (with_overdue machine.texts c) ([], sym (append-nil machine.texts.world.versions)))
  judged-leaves command texts opened taken =
      judged-cases machine today (λ comes. P (after_judged machine comes)) (λ reply. before)
      (λ refusal. before) command (λ text. absurd (true≢false (sym text)))
      (λ name request c opens none. opened name request c) taken
