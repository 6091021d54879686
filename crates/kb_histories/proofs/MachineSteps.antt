-- What each command leaves of the replies that are kept, and what it adds.
use Rattle.std.proofs.Common.{◌≡◌, ℕ, ◌+◌, Bool, true, false, List, length, Some, None, cond, option_map}
use Rattle.std.proofs.Common.{bytes_eq, refl, ap, ◌∙◌}
use Rattle.std.specs.FinMap.{find}
use Rattle.kb_sharing.specs.Keys.{by_words}
use Rattle.kb_codec.specs.declared.command.Command.{Command}
use Rattle.kb_codec.specs.declared.command.Catalog.{Catalog}
use Rattle.kb_codec.specs.declared.command.OverdueRules.{OverdueRules}
use Rattle.kb_codec.specs.declared.command.Command.TheVariants as kinds
use Rattle.kb_codec.specs.CommandBytes.{spelling}
use Rattle.kb_book.specs.declared.refusal.Refusal.TheVariants as refusal
use Rattle.kb_book.specs.Rows.{first_refusal}
use Rattle.kb_codec.specs.Senders.{key_of}
use Rattle.kb_book.specs.declared.reply.LaneReply.{LaneReply}
use Rattle.kb_book.specs.declared.reply.LaneReply.TheVariants as replies
use Rattle.kb_book.proofs.RepeatedCommands.{bytes_eq-self, find-put-self}
use Rattle.kb_machine.specs.Judged.{New, Again, Refused, after_judged, is_new}
use Rattle.kb_machine.specs.Texts.{KeptText, catalog_rows, with_catalog, with_overdue}
use Rattle.kb_machine.specs.Machines.{MachineValue, judged, with_texts}
use Rattle.kb_histories.specs.RequestKeys.{Scope, CatalogTexts, OverdueTexts, OfAccount, scope_of}
use Rattle.kb_histories.proofs.PutEntries.{find-put-stays}
use Rattle.kb_histories.proofs.ToldReplies.{Told, told_at, told_version, told_states}
use Rattle.kb_histories.proofs.TextSteps.{text-leaves, text-new, text-kept}
use Rattle.kb_histories.proofs.AccountSteps.{account-stays, account-new, account-kept}

module _ (machine : MachineValue) where
  -- a catalog text, as it is kept
  abbrev new_version : Catalog → KeptText
  new_version c =
      record { spelling = spelling (kinds.Catalog c); number = length machine.texts.world.versions + 1 }

  abbrev new_states : OverdueRules → KeptText
  new_states c = record { spelling = spelling (kinds.OverdueRules c); number = length c.text.states }

  -- a catalog text leaves what is kept
  catalog-stays : (c : Catalog) (scope : Scope) (key : List ℕ) (told : Told)
      → told_at scope key machine ≡ Some told → find by_words c.key machine.texts.catalogs ≡ None
      → told_at scope key (with_texts machine (with_catalog machine.texts c)) ≡ Some told
  catalog-stays c CatalogTexts key told is none =
      find-put-stays key c.key (new_version c) machine.texts.catalogs told_version told none is
  catalog-stays c OverdueTexts key told is none = is
  catalog-stays c (OfAccount account) key told is none = is

  overdue-stays : (c : OverdueRules) (scope : Scope) (key : List ℕ) (told : Told)
      → told_at scope key machine ≡ Some told → find by_words c.key machine.texts.overdues ≡ None
      → told_at scope key (with_texts machine (with_overdue machine.texts c)) ≡ Some told
  overdue-stays c CatalogTexts key told is none = is
  overdue-stays c OverdueTexts key told is none =
      find-put-stays key c.key (new_states c) machine.texts.overdues told_states told none is
  overdue-stays c (OfAccount account) key told is none = is

  -- what is kept at a key stays, whatever the command comes to
  pub stays : (today : ℕ) (command : Command) (scope : Scope) (key : List ℕ) (told : Told)
      → told_at scope key machine ≡ Some told
      → told_at scope key (after_judged machine (judged machine today command)) ≡ Some told
  unfolding judged
  stays today (kinds.Catalog c) scope key told is =
      text-leaves machine replies.Version (spelling (kinds.Catalog c)) (new_version c).number
      (with_catalog machine.texts c) (λ after. told_at scope key after ≡ Some told)
      (find by_words c.key machine.texts.catalogs)
      (first_refusal (catalog_rows machine.texts.world.versions c.text.version)) is
      (catalog-stays c scope key told is)
  stays today (kinds.OverdueRules c) scope key told is =
      text-leaves machine replies.States (spelling (kinds.OverdueRules c)) (new_states c).number
      (with_overdue machine.texts c) (λ after. told_at scope key after ≡ Some told)
      (find by_words c.key machine.texts.overdues) None is (overdue-stays c scope key told is)
  stays today command scope key told is = account-stays machine today command scope key told is

  -- a new command is kept at its key
  pub told_new : (today : ℕ) (command : Command) (key : List ℕ) (reply : LaneReply) (after : MachineValue)
      → key_of command ≡ Some key → judged machine today command ≡ New reply after
      → told_at (scope_of command) key after ≡ Some (spelling command, reply)
  unfolding judged
  told_new today (kinds.Catalog c) key reply after named is =
      let one : c.key ≡ key = cc in
      rw (← one) (text-new machine replies.Version (spelling (kinds.Catalog c)) (new_version c).number
      (with_catalog machine.texts c)
      (λ reply after. told_at CatalogTexts c.key after ≡ Some (spelling (kinds.Catalog c), reply))
      (find by_words c.key machine.texts.catalogs)
      (first_refusal (catalog_rows machine.texts.world.versions c.text.version))
      (ap (option_map told_version) (find-put-self c.key (new_version c) machine.texts.catalogs))
      reply after is)
  told_new today (kinds.OverdueRules c) key reply after named is =
      let one : c.key ≡ key = cc in
      rw (← one) (text-new machine replies.States (spelling (kinds.OverdueRules c)) (new_states c).number
      (with_overdue machine.texts c)
      (λ reply after. told_at OverdueTexts c.key after ≡ Some (spelling (kinds.OverdueRules c), reply))
      (find by_words c.key machine.texts.overdues) None
      (ap (option_map told_states) (find-put-self c.key (new_states c) machine.texts.overdues))
      reply after is)
  told_new today command key reply after named is = account-new machine today command key reply after named is

  -- one whose key was used gets what is kept there, or is refused
  pub kept_key : (today : ℕ) (command : Command) (key : List ℕ) (told : Told) → key_of command ≡ Some key
      → told_at (scope_of command) key machine ≡ Some told
      → judged machine today command
      ≡ cond (bytes_eq told.0 (spelling command)) (Again told.1) (Refused refusal.KeyReused)
  unfolding judged
  kept_key today (kinds.Catalog c) key told named is =
      let one : key ≡ c.key = cc in
      text-kept machine replies.Version (spelling (kinds.Catalog c)) (new_version c).number
      (with_catalog machine.texts c) (find by_words c.key machine.texts.catalogs)
      (first_refusal (catalog_rows machine.texts.world.versions c.text.version)) told (rw one at is)
  kept_key today (kinds.OverdueRules c) key told named is =
      let one : key ≡ c.key = cc in
      text-kept machine replies.States (spelling (kinds.OverdueRules c)) (new_states c).number
      (with_overdue machine.texts c) (find by_words c.key machine.texts.overdues) None told (rw one at is)
  kept_key today command key told named is = account-kept machine today command key told named is

  -- the same command gets its reply again
  pub told_again : (today : ℕ) (command : Command) (key : List ℕ) (reply : LaneReply)
      → key_of command ≡ Some key → told_at (scope_of command) key machine ≡ Some (spelling command, reply)
      → judged machine today command ≡ Again reply
  told_again today command key reply named is =
      kept_key today command key (spelling command, reply) named is
      ∙ ap (λ same. cond same (Again reply) (Refused refusal.KeyReused)) (bytes_eq-self (spelling command))

  -- and none is new
  pub not_new : (today : ℕ) (command : Command) (key : List ℕ) (told : Told) → key_of command ≡ Some key
      → told_at (scope_of command) key machine ≡ Some told → is_new (judged machine today command) ≡ false
  not_new today command key told named is =
      ap is_new (kept_key today command key told named is) ∙ by_same (bytes_eq told.0 (spelling command))
    where
      by_same : (same : Bool)
          → is_new {A = MachineValue} (cond same (Again told.1) (Refused refusal.KeyReused)) ≡ false
      by_same true = refl
      by_same false = refl
