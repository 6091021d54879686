-- The first line of what a link gives, of which no more is read than a line that answers may have.
use Rattle.std.specs.Prelude.{ℕ, zero, suc, ◌≡◌, ◌-◌, ◌==◌, if◌then◌else◌, List, [], ◌∷◌, ◌++◌, length}
use Rattle.std.specs.Prelude.{Option, Some, codes, refl}
use Rattle.kb_base.specs.Lines.{line_feed}
use Rattle.kb_gateway.specs.Exchanges.{max_answer}

-- the first bytes up to the first line feed, but no more than this many
abbrev pub first_line : ℕ → List ℕ → List ℕ
first_line zero bytes = []
first_line (suc room) [] = []
first_line (suc room) (byte ∷ bytes) = byte ∷ (if byte == line_feed then [] else first_line room bytes)

ended : first_line 5 (65 ∷ 10 ∷ 66 ∷ []) ≡ 65 ∷ 10 ∷ []
ended = refl

too_long : first_line 3 (codes "ERROR") ≡ codes "ERR"
too_long = refl

-- these bytes are the first line of what a link gives, where it tells that
abbrev pub IsFirstLine : Option (List ℕ) → List ℕ → Type 0
IsFirstLine left line = (bytes : List ℕ) → left ≡ Some bytes → line ≡ first_line max_answer bytes

-- what was read begins the first line, and what is left holds the rest of it
abbrev pub BeginsLine : Option (List ℕ) → Option (List ℕ) → List ℕ → Type 0
BeginsLine old now line = (bytes rest : List ℕ) → old ≡ Some bytes → now ≡ Some rest
    → first_line max_answer bytes ≡ line ++ first_line (max_answer - length line) rest
