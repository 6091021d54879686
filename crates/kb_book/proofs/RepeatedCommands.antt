-- A command that comes again gives its answer again, and leaves the book.
use Rattle.std.proofs.Common.{◌≡◌, ℕ, true, List, Some, Ok, cond, bytes_eq, refl, ap, subst, ◌∙◌}
use Rattle.std.specs.Cmp.Lexicographic.{nat_list_cmp_total}
use Rattle.std.specs.FinMap.{find, put}
use Rattle.std.specs.FinMap.Entries.{find-put}
use Rattle.std.proofs.lemmas.Map.Text.{is_eq-slice_cmp}
use Rattle.std.proofs.lemmas.Slice.Eq.{bytes_eq-Decides}
use Rattle.kb_sharing.specs.Keys.{by_words}
use Rattle.kb_days.specs.Calendar.{first_day, charged_days}
use Rattle.kb_codec.specs.declared.command.Command.{Command}
use Rattle.kb_codec.specs.CommandBytes.{spelling}
use Rattle.kb_book.specs.declared.answer.Answer.{Answer}
use Rattle.kb_book.specs.Worlds.{WorldValue}
use Rattle.kb_book.specs.Books.{BookValue, Keyed}
use Rattle.kb_book.specs.Steps.{Outcome, keep, kept_of, accepted_over, billed_outcome}
use Rattle.kb_codec.specs.Senders.{key_of}
use Rattle.kb_book.specs.Steps.{issue_over, step}
use Rattle.kb_book.specs.Commands.{own_lines, begun}

-- a text is the same as itself
pub bytes_eq-self : (text : List ℕ) → bytes_eq text text ≡ true
bytes_eq-self text = (bytes_eq-Decides text text).1 refl

-- what is put in at a key is found there
pub find-put-self : {X : Type 0} (key : List ℕ) (value : X) (entries : Keyed X)
    → find by_words key (put by_words key value entries) ≡ Some value
find-put-self key value entries =
    find-put by_words nat_list_cmp_total key key value entries
    ∙ ap (λ same. cond same (Some value) (find by_words key entries))
    (is_eq-slice_cmp key key ∙ bytes_eq-self key)

-- the answer to a command is kept with its spelling
kept-accepted : (command : Command) (key : List ℕ) (outcome : Outcome)
    → kept_of (keep command (Some key) outcome).1 (Some key)
    ≡ Some (record { spelling = spelling command; answer = outcome.0 })
kept-accepted command key outcome =
    find-put-self key (record { spelling = spelling command; answer = outcome.0 }) outcome.1.kept

-- a command whose answer is kept gives it again
step-kept : (world : WorldValue) (book : BookValue) (today : ℕ) (command : Command) (answer : Answer)
    → kept_of book (key_of command) ≡ Some (record { spelling = spelling command; answer = answer })
    → step world book today command ≡ Ok (answer, book)
unfolding step
step-kept world book today command answer kept = rw (kept, bytes_eq-self (spelling command)) refl

-- once it is accepted, its answer is kept
kept-after : (command : Command) (key : List ℕ) (outcome : Outcome) → key_of command ≡ Some key
    → kept_of (keep command (key_of command) outcome).1 (key_of command)
    ≡ Some (record { spelling = spelling command; answer = (keep command (key_of command) outcome).0 })
kept-after command key outcome is = rw is (kept-accepted command key outcome)

-- so it is given again, on whatever day and by whatever texts the command comes again
pub repeat-step : (world other : WorldValue) (book after : BookValue) (today tomorrow : ℕ) (command : Command)
    (answer : Answer) (key : List ℕ) → key_of command ≡ Some key
    → accepted_over world book today command first_day charged_days ≡ (answer, after)
    → step other after tomorrow command ≡ Ok (answer, after)
repeat-step world other book after today tomorrow command answer key is accepted =
    let outcome : Outcome = accepted_over world book today command first_day charged_days in
    let before : Outcome = billed_outcome (begun world book today command) today
    (issue_over world (begun world book today command) first_day charged_days) (own_lines command) in
    subst (λ (given : Outcome). step other given.1 tomorrow command ≡ Ok (given.0, given.1)) accepted
    (step-kept other outcome.1 tomorrow command outcome.0 (kept-after command key before is))
