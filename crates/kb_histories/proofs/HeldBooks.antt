-- The catalog of a machine has the plans of its accounts, after each command.
use Rattle.std.proofs.Common.{◌≡◌, ℕ, List, [], ◌∷◌, ◌++◌, Option, Some, None, sym, subst}
use Rattle.std.specs.List.{fold}
use Rattle.std.proofs.lemmas.List.{append-nil}
use Rattle.std.proofs.lemmas.List.Elements.{All-nil, All-weaker}
use Rattle.kb_days.specs.Calendar.{first_day, charged_days}
use Rattle.kb_catalog.specs.declared.version.Version.{Version}
use Rattle.kb_timeline.specs.declared.entry.Entry.{Entry}
use Rattle.kb_timeline.specs.TimelineEdits.{TimelineValue}
use Rattle.kb_codec.specs.declared.command.Command.{Command}
use Rattle.kb_codec.specs.declared.action.OpenAccount.{OpenAccount}
use Rattle.kb_book.specs.Worlds.{WorldValue}
use Rattle.kb_book.specs.Books.{BookValue}
use Rattle.kb_book.specs.Commands.{begun, own_lines}
use Rattle.kb_book.specs.Steps.{Outcome, keep, accepted_over, billed_outcome, issue_over}
use Rattle.kb_account.specs.Prepares.{opening_book}
use Rattle.kb_codec.specs.Entries.{History}
use Rattle.kb_machine.specs.Machines.{MachineValue, no_machine, with_book, opening}
use Rattle.kb_codec.specs.Senders.{account_of, key_of}
use Rattle.kb_machine.specs.Histories.{entry_after, replay}
use Rattle.kb_histories.proofs.FoundEntries.{found-put}
use Rattle.kb_histories.specs.HeldPlans.{HasPlanOf, HasEachOf, HasPlansOf}
use Rattle.kb_histories.specs.HeldMachines.{HasAllPlans, VersionsStay, PlansStay, ReplaysHavePlans}
use Rattle.kb_histories.proofs.LaterChoices.{choice_of-later}
use Rattle.kb_histories.proofs.HeldEdits.{begun-held}
use Rattle.kb_histories.proofs.JudgedTexts.{judged-leaves}

-- with later versions a catalog has the plans that it had
module _ (catalog later : List Version) where
  entry-later : (entry : Entry) → HasPlanOf catalog entry → HasPlanOf (catalog ++ later) entry
  entry-later entry held = rw (choice_of-later catalog later entry.plan held) held

  held-later : (timeline : TimelineValue) → HasPlansOf catalog timeline
      → HasPlansOf (catalog ++ later) timeline
  held-later timeline held =
      All-weaker (HasEachOf catalog) (HasEachOf (catalog ++ later))
      (λ subscription own. All-weaker (HasPlanOf catalog) (HasPlanOf (catalog ++ later)) entry-later
      subscription.entries own) timeline.subscriptions held

-- keeping an answer leaves the timeline
held-keep : (catalog : List Version) (command : Command) (key : Option (List ℕ)) (outcome : Outcome)
    → HasPlansOf catalog outcome.1.timeline → HasPlansOf catalog (keep command key outcome).1.timeline
held-keep catalog command None outcome held = held
held-keep catalog command (Some key) outcome held = held

-- the catalog has the plans of a book that an accepted command leaves
accepted-held : (world : WorldValue) (book : BookValue) (today : ℕ) (command : Command)
    → HasPlansOf world.versions (begun world book today command).timeline
    → HasPlansOf world.versions (accepted_over world book today command first_day charged_days).1.timeline
accepted-held world book today command held =
    let edited : BookValue = begun world book today command in
    held-keep world.versions command (key_of command)
    (billed_outcome edited today (issue_over world edited first_day charged_days) (own_lines command)) held

-- those of one that is opened
opened-held : (world : WorldValue) (today : ℕ) (name request : List ℕ) (c : OpenAccount)
    → HasPlansOf world.versions
    (accepted_over world (opening_book (opening name request c)) today (opening name request c) first_day
    charged_days).1.timeline
opened-held world today name request c =
    accepted-held world (opening_book (opening name request c)) today (opening name request c)
    (All-nil (HasEachOf world.versions))

-- and of all with one more
held-put : (machine : MachineValue) (own : List ℕ) (value : BookValue) → HasAllPlans machine
    → HasPlansOf machine.texts.world.versions value.timeline → HasAllPlans (with_book machine own value)
held-put machine own value has held = record {
  held =
      λ account book. found-put account own value machine.books
      (λ found. found ≡ Some book → HasPlansOf machine.texts.world.versions book.timeline)
      (λ other there. has.held account book there)
      (λ same there. let one : value ≡ book = cc in
      subst (λ (other : BookValue). HasPlansOf machine.texts.world.versions other.timeline) one held);
}

-- a command leaves the versions that there are
pub versions_stay : VersionsStay
versions_stay machine today command =
    judged-leaves machine today (λ after. (later : List Version)
    × (after.texts.world.versions ≡ machine.texts.world.versions ++ later))
    ([], sym (append-nil machine.texts.world.versions)) command (λ texts more. more)
    (λ name request c. ([], sym (append-nil machine.texts.world.versions)))
    (λ book there none. ([], sym (append-nil machine.texts.world.versions)))

-- and the catalog has all plans still
pub plans_stay : PlansStay
plans_stay machine today command has =
    judged-leaves machine today HasAllPlans has command
    (λ texts more. record {
      held = λ account book there.
          rw more.1
          (held-later machine.texts.world.versions more.0 book.timeline (has.held account book there));
    })
    (λ name request c. held-put machine (account_of command) _ has
    (opened-held machine.texts.world today name request c))
    (λ book there none.
    held-put machine (account_of command) _ has
    (accepted-held machine.texts.world book today command
    (begun-held machine.texts.world book today (has.held (account_of command) book there) command none)))

-- so it has them after each history
held-after : (later : History) (machine : MachineValue) → HasAllPlans machine
    → HasAllPlans (fold entry_after machine later)
held-after [] machine has = has
held-after (entry ∷ later) machine has =
    held-after later (entry_after machine entry) (plans_stay machine entry.0 entry.1 has)

pub replays_have_plans : ReplaysHavePlans
unfolding replay
replays_have_plans history =
    held-after history no_machine (record { held = λ account book there. absurd (cc) })
