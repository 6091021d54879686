-- Texts that are added one after another.
use Rattle.std.proofs.Common.{◌≡◌, ℕ, List, ◌++◌, ◌∙◌, ap, append_assoc}

pub in_two : (old a b one two : List ℕ) → one ≡ old ++ a → two ≡ one ++ b → two ≡ old ++ (a ++ b)
in_two old a b one two first second = second ∙ ap (λ text. text ++ b) first ∙ append_assoc old a b

pub in_three : (old a b c one two three : List ℕ) → one ≡ old ++ a → two ≡ one ++ b → three ≡ two ++ c
    → three ≡ old ++ (a ++ (b ++ c))
in_three old a b c one two three first second third =
    in_two one b c two three second third ∙ ap (λ text. text ++ (b ++ c)) first ∙ append_assoc old a (b ++ c)
