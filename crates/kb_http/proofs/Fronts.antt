-- Texts that are read byte by byte: what was read is put before what the rest gives.
use Rattle.std.proofs.Common.{◌≡◌, ℕ, ◌+◌, ◌<◌, true, false, List, [], ◌∷◌, ◌++◌, refl, sym, ap, ◌∙◌, length}
use Rattle.std.proofs.Common.{take, drop, get_or, append_assoc, ◌≤◌, ◌≢◌, eq-eqb, append-nil}
use Rattle.std.specs.Prelude.{◌==◌}
use Rattle.std.proofs.lemmas.List.{drop_more, take_more, drop_all, take_all}
use Rattle.std.proofs.lemmas.Bool.{ne_eqb}
use Rattle.kb_base.specs.Lines.{pieces, onto_first}
use Rattle.kb_base.proofs.Pieces.{pieces-some}

-- bytes put before the first of some pieces
abbrev pub onto_front : List ℕ → List (List ℕ) → List (List ℕ)
onto_front front [] = front ∷ []
onto_front front (piece ∷ pieces) = (front ++ piece) ∷ pieces

onto_front-onto_first : (front : List ℕ) (byte : ℕ) (ps : List (List ℕ))
    → onto_front front (onto_first byte ps) ≡ onto_front (front ++ byte ∷ []) ps
onto_front-onto_first front byte [] = refl
onto_front-onto_first front byte (piece ∷ ps) = ap (λ text. text ∷ ps)
    (sym (append_assoc front (byte ∷ []) piece))

pieces-other : (separator byte : ℕ) (rest : List ℕ) → (byte == separator) ≡ false
    → pieces separator (byte ∷ rest) ≡ onto_first byte (pieces separator rest)
pieces-other separator byte rest other = rw other refl

pub pieces-separator : (separator byte : ℕ) (rest : List ℕ) → (byte == separator) ≡ true
    → pieces separator (byte ∷ rest) ≡ [] ∷ pieces separator rest
pieces-separator separator byte rest same = rw same refl

-- a byte that is no separator goes on with the first piece
pub onto_front-pieces : (separator : ℕ) (front : List ℕ) (byte : ℕ) (rest : List ℕ)
    → (byte == separator) ≡ false
    → onto_front front (pieces separator (byte ∷ rest))
    ≡ onto_front (front ++ byte ∷ []) (pieces separator rest)
onto_front-pieces separator front byte rest other =
    ap (onto_front front) (pieces-other separator byte rest other)
    ∙ onto_front-onto_first front byte (pieces separator rest)

pub onto_front-nil : (separator : ℕ) (bytes : List ℕ)
    → pieces separator bytes ≡ onto_front [] (pieces separator bytes)
onto_front-nil separator bytes =
    let some = pieces-some separator bytes in
    rw some.2 refl

-- the bytes before a place hold no separator, and what stands behind it goes on with their piece
abbrev pub ReadsUpTo : ℕ → List ℕ → ℕ → Type 0
ReadsUpTo separator bytes at = pieces separator bytes ≡ onto_front (take at bytes)
    (pieces separator (drop at bytes))

pub read_on : (separator : ℕ) (bytes : List ℕ) (at : ℕ) → at < length bytes → get_or bytes at 0 ≢ separator
    → ReadsUpTo separator bytes at → ReadsUpTo separator bytes (at + 1)
read_on separator bytes at within other so_far =
    so_far ∙ ap (λ rest. onto_front (take at bytes) (pieces separator rest)) (drop_more bytes at 0 within)
    ∙ onto_front-pieces separator (take at bytes) (get_or bytes at 0) (drop (at + 1) bytes) (ne_eqb _ _ other)
    ∙ ap (λ front. onto_front front (pieces separator (drop (at + 1) bytes)))
    (sym (take_more bytes at 0 within))

pub read_first : (separator : ℕ) (bytes : List ℕ) (at : ℕ) → at < length bytes → get_or bytes at 0 ≡ separator
    → ReadsUpTo separator bytes at → pieces separator bytes ≡ take at bytes
    ∷ pieces separator (drop (at + 1) bytes)
read_first separator bytes at within same so_far =
    so_far ∙ ap (λ rest. onto_front (take at bytes) (pieces separator rest)) (drop_more bytes at 0 within)
    ∙ ap (onto_front (take at bytes)) (pieces-separator separator (get_or bytes at 0) (drop (at + 1) bytes)
    (eq-eqb _ _ same))
    ∙ ap (λ front. front ∷ pieces separator (drop (at + 1) bytes)) (append-nil (take at bytes))

pub read_all : (separator : ℕ) (bytes : List ℕ) (at : ℕ) → length bytes ≤ at → ReadsUpTo separator bytes at
    → pieces separator bytes ≡ bytes ∷ []
read_all separator bytes at past so_far =
    so_far ∙ ap (λ rest. onto_front (take at bytes) (pieces separator rest)) (drop_all at bytes past)
    ∙ ap (λ front. front ∷ []) (append-nil (take at bytes) ∙ take_all at bytes past)
