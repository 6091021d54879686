-- What a text leaves of the replies that are kept, and what it adds.
use Rattle.std.proofs.Common.{◌≡◌, ℕ, Bool, true, false, List, Option, Some, None}
use Rattle.std.proofs.Common.{cond, option_map, bytes_eq, refl}
use Rattle.kb_book.specs.declared.refusal.Refusal.{Refusal}
use Rattle.kb_book.specs.declared.refusal.Refusal.TheVariants as refusal
use Rattle.kb_book.specs.declared.reply.LaneReply.{LaneReply}
use Rattle.kb_machine.specs.Judged.{Judged, New, Again, Refused, unless_refused, lifted, after_judged}
use Rattle.kb_machine.specs.Texts.{KeptText, TextsValue, by_key}
use Rattle.kb_machine.specs.Machines.{MachineValue, with_texts}
use Rattle.kb_histories.proofs.ToldReplies.{Told}

module _ (machine : MachineValue) (reply : ℕ → LaneReply) (spelled : List ℕ) (number : ℕ)
    (next : TextsValue) where
  -- what a text comes to, by what is kept at its key and by why it would be refused
  abbrev pub text_judged : Option KeptText → Option Refusal → Judged LaneReply MachineValue
  text_judged found refused =
      lifted reply (with_texts machine) (by_key found spelled (unless_refused refused (New number next)))

  -- what holds before and after holds of what it leaves
  pub text-leaves : (P : MachineValue → Type 0) (found : Option KeptText) (refused : Option Refusal)
      → P machine → (found ≡ None → P (with_texts machine next))
      → P (after_judged machine (text_judged found refused))
  text-leaves P None None before after = after refl
  text-leaves P None (Some refused) before after = before
  text-leaves P (Some kept) refused before after = by_same (bytes_eq kept.spelling spelled)
    where
      by_same : (same : Bool) → P (after_judged machine (lifted reply (with_texts machine)
          (cond same (Again kept.number) (Refused refusal.KeyReused))))
      by_same true = before
      by_same false = before

  -- a new one leads to its texts, and gets its number
  pub text-new : (Q : LaneReply → MachineValue → Type 0) (found : Option KeptText) (refused : Option Refusal)
      → Q (reply number) (with_texts machine next) → (told : LaneReply) (after : MachineValue)
      → text_judged found refused ≡ New told after → Q told after
  text-new Q None None new told after is =
      let same_told : reply number ≡ told = cc in
      let same_after : with_texts machine next ≡ after = cc in
      rw (← same_told, ← same_after) new
  text-new Q None (Some refused) new told after is = absurd (cc)
  text-new Q (Some kept) refused new told after is = by_same (bytes_eq kept.spelling spelled) is
    where
      by_same : (same : Bool) → lifted reply (with_texts machine)
          (cond same (Again kept.number) (Refused refusal.KeyReused)) ≡ New told after → Q told after
      by_same true is = absurd (cc)
      by_same false is = absurd (cc)

  -- one whose key was used gets what is kept there, or is refused
  pub text-kept : (found : Option KeptText) (refused : Option Refusal) (told : Told)
      → option_map (λ (kept : KeptText). (kept.spelling, reply kept.number)) found ≡ Some told
      → text_judged found refused
      ≡ cond (bytes_eq told.0 spelled) (Again told.1) (Refused (refusal.KeyReused))
  text-kept None refused told is = absurd (cc)
  text-kept (Some kept) refused told is =
      let same : (kept.spelling, reply kept.number) ≡ told = cc in
      rw (← same) (by_same (bytes_eq kept.spelling spelled))
    where
      by_same : (same : Bool) → lifted reply (with_texts machine)
          (cond same (Again kept.number) (Refused refusal.KeyReused))
          ≡ cond same (Again (reply kept.number)) (Refused refusal.KeyReused)
      by_same true = refl
      by_same false = refl
