-- Words in the fields of a head: their case doesn't count, and commas stand between those of a list.
use Rattle.std.specs.Prelude.{ℕ, Bool, ◌≡◌, List, [], ◌∷◌, map, codes, bytes_eq, refl, true, false}
use Rattle.std.specs.Char.{to_ascii_lowercase}
use Rattle.httparse.specs.Grammar.{trim_ows}
use Rattle.kb_base.specs.Lines.{pieces}

-- two words are the same but for the case of ASCII letters
abbrev pub is_word : List ℕ → List ℕ → Bool
is_word word other = bytes_eq (map to_ascii_lowercase word) (map to_ascii_lowercase other)

in_capitals : is_word (codes "CLOSE") (codes "close") ≡ true
in_capitals = refl

another_word : is_word (codes "closed") (codes "close") ≡ false
another_word = refl

-- a comma stands between the words of a list
abbrev pub comma : ℕ
comma = 44

-- the words of a list, without the spaces and tabs around each
abbrev pub words_of : List ℕ → List (List ℕ)
words_of text = map trim_ows (pieces comma text)

three_words : words_of (codes "a, b ,") ≡ codes "a" ∷ codes "b" ∷ [] ∷ []
unfolding trim_ows
three_words = refl
