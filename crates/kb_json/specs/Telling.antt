-- The line in which something is said.
use Rattle.std.specs.Prelude.{ℕ, ◌≡◌, ◌⊎◌, Bool, true, false, List, [], ◌∷◌, ◌++◌, codes, refl}
use Rattle.kb_base.specs.Lines.{line_feed}
use Rattle.kb_book.specs.declared.refusal.Refusal.TheVariants as refusals
use Rattle.kb_book.specs.declared.reply.LaneReply.TheVariants as replies
use Rattle.kb_json.specs.declared.fault.RequestFault.TheVariants as faults
use Rattle.kb_json.specs.declared.said.Said.{Said}
use Rattle.kb_json.specs.declared.said.Said.TheVariants as says
use Rattle.kb_json.specs.Answers.{say}

-- what is said tells of something that may have been written down
abbrev pub tells_change : Said → Bool
tells_change (says.Reply (replies.Accepted answer)) = true
tells_change (says.Reply (replies.Version number)) = true
tells_change (says.Reply (replies.States number)) = true
tells_change (says.Reply replies.DiskFault) = true
tells_change (says.Janitor step) = true
tells_change other = false

a_refusal_tells_none : tells_change (says.Reply (replies.Refused refusals.NoAccount)) ≡ false
a_refusal_tells_none = refl

a_new_version_tells_one : tells_change (says.Reply (replies.Version 2)) ≡ true
a_new_version_tells_one = refl

a_full_lane_tells_none : tells_change (says.Reply (replies.Full 7 400)) ≡ false
a_full_lane_tells_none = refl

a_disk_that_failed_tells_one : tells_change (says.Reply replies.DiskFault) ≡ true
a_disk_that_failed_tells_one = refl

-- The line that says it: its text. If there is no memory for that, and what is said tells of no change, it
-- may be the text of want of memory. So it may if a text was taken by some lanes and then refused by the
-- next.
abbrev pub Says : Said → List ℕ → Type 0
Says spoken text = (text ≡ say spoken ++ line_feed ∷ [])
    ⊎ ((tells_change spoken ≡ false) × (text ≡ say (says.Fault faults.NoMemory) ++ line_feed ∷ []))

-- a text is the first part of another one
abbrev pub IsPartOf : List ℕ → List ℕ → Type 0
IsPartOf part text = (rest : List ℕ) × (text ≡ part ++ rest)

the_first_two_of_three : IsPartOf (codes "ok") (codes "ok!")
the_first_two_of_three = (codes "!", refl)
