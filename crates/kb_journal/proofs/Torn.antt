-- What the two writes of an append make of a journal's bytes, done or cut short by a crash.
use Rattle.std.proofs.Common.{ℕ, ◌≡◌, ◌+◌, ◌<◌, min, List, [], ◌∷◌, ◌++◌, length, take, drop, get_or, refl}
use Rattle.std.proofs.Common.{sym, ◌∙◌, ap, subst, inl, inr, arith, append_assoc, length-append}
use Rattle.std.proofs.Common.{take-append-drop}
use Rattle.std.proofs.lemmas.Bool.{cases_eq, ne_eqb}
use Rattle.std.proofs.lemmas.List.{take_at, drop_at, drop_more}
use Rattle.kb_disk.specs.Images.{overwritten, Torn}
use Rattle.kb_journal.specs.Format.{framed, body, IsSized, AreSized, IsClosed, StandsFor, IsWithOrWithout}
use Rattle.kb_journal.proofs.Bodies.{body-push, AreSized-push}

-- A record is written whole behind the last gate, which is closed, with a closed gate behind it.
pub record IsStaged (lanes lane : ℕ) (records : List (List ℕ)) (bytes seen : List ℕ) : Type 0 where
  pub gate : ℕ
  pub rest : List ℕ
  pub closed : IsClosed gate
  pub sized : AreSized records
  pub one : IsSized bytes
  pub parts : seen ≡ body lanes lane records ++ (gate ∷ (framed bytes ++ (0 ∷ rest)))

-- a list by its front, an element and the rest
split_at : (front rest : List ℕ) (one : ℕ) → front ++ (one ∷ rest) ≡ (front ++ one ∷ []) ++ rest
split_at front rest one = sym (append_assoc front (one ∷ []) rest)

length_front : (front : List ℕ) (one place : ℕ) → place ≡ length front
    → length (front ++ one ∷ []) ≡ place + 1
length_front front one place at = omega (arith, at, length-append front (one ∷ []))

module _ (lanes lane : ℕ) (records : List (List ℕ)) (bytes : List ℕ) (place : ℕ)
    (at : place ≡ length (body lanes lane records)) where
  -- the first write, cut short, changes nothing before it
  pub torn_behind : (size : ℕ) (seen image : List ℕ) → StandsFor lanes lane records seen
      → Torn (place + 1) size seen image
      → StandsFor lanes lane records image
  torn_behind size seen image stands torn =
      let front : List ℕ = body lanes lane records ++ stands.gate ∷ [] in
      let long : length front ≡ place + 1 = length_front (body lanes lane records) stands.gate place at in
      let whole : seen ≡ front ++ stands.free = stands.parts
      ∙ split_at (body lanes lane records) stands.free stands.gate in
      let size_is : length seen ≡ length front + length stands.free = ap length whole
      ∙ length-append front stands.free in
      let within : min (place + 1) (length seen) ≡ place + 1 = omega arith in
      let same : take (place + 1) image ≡ front =
      subst (λ (n : ℕ). take n image ≡ take (place + 1) seen) within torn.before
      ∙ ap (λ (l : List ℕ). take (place + 1) l) whole ∙ take_at front stands.free (place + 1) long in
      record {
        gate = stands.gate;
        free = drop (place + 1) image;
        closed = stands.closed;
        sized = stands.sized;
        parts = sym (take-append-drop (place + 1) image)
            ∙ ap (λ (l : List ℕ). l ++ drop (place + 1) image) same
            ∙ sym (split_at (body lanes lane records) (drop (place + 1) image) stands.gate);
      }

  -- done, it puts the record behind the gate
  pub staged : (seen new : List ℕ) → IsSized bytes → StandsFor lanes lane records seen
      → new ≡ overwritten seen (place + 1) (framed bytes ++ 0 ∷ []) → IsStaged lanes lane records bytes new
  staged seen new one stands written =
      let front : List ℕ = body lanes lane records ++ stands.gate ∷ [] in
      let block : List ℕ = framed bytes ++ 0 ∷ [] in
      let long : length front ≡ place + 1 = length_front (body lanes lane records) stands.gate place at in
      let whole : seen ≡ front ++ stands.free = stands.parts
      ∙ split_at (body lanes lane records) stands.free stands.gate in
      let rest : List ℕ = drop (place + 1 + length block) seen in
      let same : take (place + 1) seen ≡ front =
      ap (λ (l : List ℕ). take (place + 1) l) whole ∙ take_at front stands.free (place + 1) long in
      record {
        gate = stands.gate;
        rest = rest;
        closed = stands.closed;
        sized = stands.sized;
        one = one;
        parts = written ∙ ap (λ (l : List ℕ). l ++ (block ++ rest)) same
            ∙ sym (split_at (body lanes lane records) (block ++ rest) stands.gate)
            ∙ ap (λ (l : List ℕ). body lanes lane records ++ (stands.gate ∷ l))
            (append_assoc (framed bytes) (0 ∷ []) rest);
      }

  -- an open gate in place of the closed one
  opened_parts : (rest : List ℕ) → body lanes lane records ++ (1 ∷ (framed bytes ++ (0 ∷ rest)))
      ≡ body lanes lane (records ++ bytes ∷ []) ++ (0 ∷ rest)
  opened_parts rest =
      sym (append_assoc (body lanes lane records) (1 ∷ framed bytes) (0 ∷ rest))
      ∙ ap (λ (l : List ℕ). l ++ (0 ∷ rest)) (sym (body-push lanes lane records bytes))

  opened_stands : (new rest : List ℕ) → AreSized records → IsSized bytes
      → new ≡ body lanes lane records ++ (1 ∷ (framed bytes ++ (0 ∷ rest)))
      → StandsFor lanes lane (records ++ bytes ∷ []) new
  opened_stands new rest all one parts = record {
    gate = 0;
    free = rest;
    closed = refl;
    sized = AreSized-push records bytes all one;
    parts = parts ∙ opened_parts rest;
  }

  -- the second write, cut short, leaves some byte as the gate
  pub torn_gate : (seen image : List ℕ) → IsStaged lanes lane records bytes seen → Torn place 1 seen image
      → IsWithOrWithout lanes lane records bytes image
  torn_gate seen image stage torn =
      let more : List ℕ = framed bytes ++ (0 ∷ stage.rest) in
      let size_is : length seen ≡ length (body lanes lane records) + length (stage.gate ∷ more) =
      ap length stage.parts ∙ length-append (body lanes lane records) (stage.gate ∷ more) in
      let within : min place (length seen) ≡ place = omega arith in
      let same : take place image ≡ body lanes lane records =
      subst (λ (n : ℕ). take n image ≡ take place seen) within torn.before
      ∙ ap (λ (l : List ℕ). take place l) stage.parts
      ∙ take_at (body lanes lane records) (stage.gate ∷ more) place (sym at) in
      let long : length (body lanes lane records ++ stage.gate ∷ []) ≡ place + 1 =
      length_front (body lanes lane records) stage.gate place at in
      let behind : drop (place + 1) image ≡ more =
      torn.after ∙ ap (λ (l : List ℕ). drop (place + 1) l)
      (stage.parts ∙ split_at (body lanes lane records) more stage.gate)
      ∙ drop_at (body lanes lane records ++ stage.gate ∷ []) more (place + 1) long in
      let gate : ℕ = get_or image place 0 in
      let here : place < length image = omega (arith, size_is, torn.no_shorter) in
      let parts : image ≡ body lanes lane records ++ (gate ∷ more) =
      sym (take-append-drop place image) ∙ ap (λ (l : List ℕ). l ++ drop place image) same
      ∙ ap (λ (l : List ℕ). body lanes lane records ++ l)
      (drop_more image place 0 here ∙ ap (λ (l : List ℕ). gate ∷ l) behind) in
      elim (cases_eq gate 1) [
        | inl is_open ↦ inr (opened_stands image stage.rest stage.sized stage.one
            (parts ∙ ap (λ (n : ℕ). body lanes lane records ++ (n ∷ more)) is_open))
        | inr shut ↦ inl (record {
          gate = gate;
          free = more;
          closed = ne_eqb gate 1 shut;
          sized = stage.sized;
          parts = parts;
        })
      ]

  -- done, it opens the gate
  pub opened : (seen new : List ℕ) → IsStaged lanes lane records bytes seen
      → new ≡ overwritten seen place (1 ∷ [])
      → StandsFor lanes lane (records ++ bytes ∷ []) new
  opened seen new stage written =
      let more : List ℕ = framed bytes ++ (0 ∷ stage.rest) in
      let long : length (body lanes lane records ++ stage.gate ∷ []) ≡ place + 1 =
      length_front (body lanes lane records) stage.gate place at in
      let same : take place seen ≡ body lanes lane records =
      ap (λ (l : List ℕ). take place l) stage.parts
      ∙ take_at (body lanes lane records) (stage.gate ∷ more) place (sym at) in
      let behind : drop (place + 1) seen ≡ more =
      ap (λ (l : List ℕ). drop (place + 1) l) (stage.parts
      ∙ split_at (body lanes lane records) more stage.gate)
      ∙ drop_at (body lanes lane records ++ stage.gate ∷ []) more (place + 1) long in
      opened_stands new stage.rest stage.sized stage.one
      (written ∙ ap (λ (l : List ℕ). l ++ (1 ∷ drop (place + 1) seen)) same
      ∙ ap (λ (l : List ℕ). body lanes lane records ++ (1 ∷ l)) behind)
