-- Each step of the code keeps what always holds, and tells what it tells.
use Rattle.std.proofs.Common.{◌≡◌, ℕ, ◌+◌, ◌%◌, ◌^◌, ◌<◌, ◌==◌, List, [], ◌∷◌, ◌++◌, length, set, Some}
use Rattle.std.proofs.Common.{Option, Bool, refl, sym, ap, ◌∙◌, subst, arith}
use Rattle.std.specs.Prelude.{slice_index}
use mathlib.Core.List.{IsPrefix}
use mathlib.Core.Option.{some, none}
use mathlib.Core.Logic.{dite}
use native.Mathlib.Decide.{ℕ_discrete}
use prog.Atomic.{either}
use lib.ListN.{get_elem?}
use Rattle.atomic_table.specs.Table.{Act, Step, keeps, takes, gives, Valid, step, stepped, carried_after}
use Rattle.atomic_table.specs.Table.{Allows, Splits, Joins}
use Rattle.atomic_table.proofs.Lists.{set_else, set_again, exchanged}
use Rattle.kb_lock.specs.declared.table.View.{View}
use Rattle.kb_lock.specs.Rule.{has_ticket, has_slot, IsLock}
use Rattle.kb_lock.specs.Private.Views.{rests, noting, waits, holds, told}
use Rattle.kb_lock.specs.Private.Plays.{Sat, drawn, looked, told_front, gone, shown}
use Rattle.kb_lock.proofs.Prefixes.{prefix_self}
use Rattle.kb_lock.proofs.Kept.{nothing, word_again, with_view, still, at_home, quiet, draw, take, tell}
use Rattle.kb_lock.proofs.Kept.{leave, add_rest}

module _ {T E : Type 0} (history : T → List E) (slots id : ℕ) where
  abbrev Play : Type 1
  Play = Step (Option T) → Sat T E → ℕ → Sat T E → Type 0

  -- a step on a word, by a seat
  abbrev May : Play → ℕ → ℕ → ℕ → (ℕ → ℕ) → Sat T E → Type 0
  May play word first second f m =
      Allows (IsLock history) slots id m word f (play (step slots word first second none) m)

  pub draws : (old : ℕ) (m : Sat T E) → m ≡ (rests m.0.seen, []) → old + 1 < 2 ^ 64
      → May drawn 0 old (old + 1) (λ n. either (n == old) (old + 1) n) m
  draws old m is more = subst (May drawn 0 old (old + 1) (λ n. either (n == old) (old + 1) n)) (sym is) known
    where
      known : May drawn 0 old (old + 1) (λ n. either (n == old) (old + 1) n) (rests m.0.seen, [])
      known s h wide at low =
          let seen : List E = m.0.seen in
          let n : ℕ = slice_index s.words 0 in
          let first : n ≡ h.next = ap (λ ws. slice_index ws 0) h.words in
          let tells : View E → Act (Option T) → Type 0 =
          (λ w a. drawn (step slots 0 old (old + 1) none) (rests seen, []) n (w, carried_after [] a)) in
          exchanged n old (old + 1)
          (λ k.
          (w : View E) × (a : Act (Option T)) × Valid s.homes [] a
          × IsLock history (stepped s 0 k id [] w a) × tells w a)
          (λ same.
          let kept = draw history s h id seen old at (sym first ∙ same) more in (
            waits old seen,
            keeps,
            tt,
            kept,
            ((λ _. ap (λ k. (waits k seen, [])) (sym same)), (λ apart. absurd (apart same))),
          ))
          (λ apart.
          let kept = still history s 0 id [] (rests seen) h at in
          (rests seen, keeps, tt, kept, ((λ same. absurd (apart same)), (λ _. refl))))

  pub looks : (ticket : ℕ) (m : Sat T E) → m ≡ (waits ticket m.0.seen, [])
      → May (looked history) 1 0 0 (λ n. n) m
  looks ticket m is = subst (May (looked history) 1 0 0 (λ n. n)) (sym is) known
    where
      known : May (looked history) 1 0 0 (λ n. n) (waits ticket m.0.seen, [])
      known s h wide at low =
          let n : ℕ = slice_index s.words 1 in
          let second : n ≡ h.serving = ap (λ ws. slice_index ws 1) h.words in
          let seen : List E = m.0.seen in
          let v : View E = waits ticket seen in
          dite
          (ℕ_discrete n ticket)
          (λ same.
          let home = at_home history s h id v at (refl, sym same ∙ second) refl in
          let value : T = home.0 in
          let begins : IsPrefix seen (history value) =
          subst (IsPrefix seen) (sym home.2) (h.agree id v at).seen in
          let kept = take history s h id ticket seen value at (sym second ∙ same) home.1 home.2 in (
            holds ticket (history value),
            takes 0 (Some value),
            ap (λ hs. get_elem? hs 0) home.1,
            kept,
            ((λ _. (value, begins, refl)), (λ apart. absurd (apart same))),
          ))
          (λ apart.
          let kept = still history s 1 id [] v h at in
          (v, keeps, tt, kept, ((λ same. absurd (apart same)), (λ _. refl))))

  pub tells : (count : ℕ) (m : Sat T E) (value : T) → m ≡ (holds m.0.ticket m.0.seen, (0, Some value) ∷ [])
      → IsPrefix m.0.seen (history value) → count ≡ length (history value)
      → Allows (IsLock history) slots id m 2 (λ _. count)
      (λ _. told_front history (step slots 2 count 0 none) m count)
  tells count m value is grown counted =
      subst
      (λ (z : Sat T E).
      Allows (IsLock history) slots id z 2 (λ _. count)
      (λ _. told_front history (step slots 2 count 0 none) z count))
      (sym is)
      (λ s h wide at low.
      let slot = (0, Some value) ∷ [] in
      let kept = tell history s h id m.0.ticket m.0.seen value count slot at grown counted in
      (told m.0.ticket (history value), keeps, tt, kept, refl))

  pub leaves : (m : Sat T E) (value : T) → m ≡ (told m.0.ticket (history value), (0, Some value) ∷ [])
      → May gone 1 1 0 (λ n. (n + 1) % 2 ^ 64) m
  leaves m value is = subst (May gone 1 1 0 (λ n. (n + 1) % 2 ^ 64)) (sym is) known
    where
      known : May gone 1 1 0 (λ n. (n + 1) % 2 ^ 64) (told m.0.ticket (history value), (0, Some value) ∷ [])
      known s h wide at low =
          let n : ℕ = slice_index s.words 1 in
          let second : n ≡ h.serving = ap (λ ws. slice_index ws 1) h.words in
          let mine = h.agree id (told m.0.ticket (history value)) at in
          let a : m.0.ticket ≡ h.serving = (mine.served refl).0 in
          let b : m.0.ticket < h.next = (mine.drawn refl).1 in
          let c : h.next < 2 ^ 64 = h.in_order.1 in
          let kept = leave history s h id m.0.ticket value ((n + 1) % 2 ^ 64) at (omega arith) in
          (rests (history value), gives, tt, kept, refl)

  pub shows : (m : Sat T E) → m ≡ (noting m.0.seen m.0.note, []) → May shown 2 0 0 (λ n. n) m
  shows m is = subst (May shown 2 0 0 (λ n. n)) (sym is) known
    where
      known : May shown 2 0 0 (λ n. n) (noting m.0.seen m.0.note, [])
      known s h wide at low =
          let v : View E = noting m.0.seen m.0.note in
          let mine = h.agree id v at in
          let w : View E = rests h.front in
          let kept = quiet history s h id v h.front [] at refl refl (prefix_self h.front) (nothing h.front) in
          let again : s.words ≡ set s.words 2 (slice_index s.words 2) = sym (word_again s.words 2) in
          let same : IsLock history (stepped s 2 (slice_index s.words 2) id [] w keeps) =
          subst (λ ws. IsLock history (with_view history s ws id w)) again kept in
          (w, keeps, tt, same, (h.front, mine.seen, mine.note, refl))

module _ {T E : Type 0} (history : T → List E) (id : ℕ) where
  pub splits : (v : View E) → Splits (IsLock history) id v v (rests v.seen)
  splits v s h at =
      subst
      (λ l. IsLock history (record { words = s.words; homes = s.homes; views = l ++ rests v.seen ∷ [] }))
      (sym (set_again s.views id v at))
      (add_rest history s h id v at)

  pub joins : (other : ℕ) (m m' : Sat T E) → m ≡ (rests m.0.seen, []) → m' ≡ (rests m'.0.seen, [])
      → Joins (IsLock history) id m.0 other m'.0 (noting m.0.seen m'.0.seen) (rests [])
  joins other m m' is is' s h at apart there =
      let w : View E = noting m.0.seen m'.0.seen in
      let other_at : get_elem? s.views other ≡ some m'.0 = sym (set_else s.views id other w apart) ∙ there in
      let seen = (h.agree id m.0 at).seen in
      let noted = (h.agree other m'.0 other_at).seen in
      let ticket : Sat T E → Bool = (λ z. has_ticket z.0.stage) in
      let slot : Sat T E → Bool = (λ z. has_slot z.0.stage) in
      let first = quiet history s h id m.0 m.0.seen m'.0.seen at (ap ticket is) (ap slot is) seen noted in
      let t = with_view history s s.words id w in
      let none = nothing first.front in
      quiet history t first other m'.0 [] [] there (ap ticket is') (ap slot is') none none
