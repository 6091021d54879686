-- The first line, as far as it was read byte by byte.
use Rattle.std.proofs.Common.{◌≡◌, ◌≢◌, ◌≤◌, ◌<◌, ◌+◌, ◌-◌, ◌==◌, ℕ, zero, suc, true, false, if◌then◌else◌}
use Rattle.std.proofs.Common.{List, [], ◌∷◌, ◌++◌, length, Option, None, Some, refl, ap, sym, ◌∙◌, arith}
use Rattle.std.proofs.Common.{length-append, append_assoc, append-nil}
use Rattle.std.proofs.lemmas.Bool.{ne_eqb}
use Rattle.std.specs.Io.KnownBytes.{Consumes, IsAtEnd}
use Rattle.kb_base.specs.Lines.{line_feed}
use Rattle.kb_gateway.specs.Exchanges.{max_answer}
use Rattle.kb_gateway.specs.Private.FirstLine.{first_line, IsFirstLine, BeginsLine}

-- the first line of a byte and more: it ends with a line feed, and else the rest follows
first_line-cons : (room later byte : ℕ) (more : List ℕ) → room ≡ suc later
    → first_line room (byte ∷ more) ≡ byte ∷ (if byte == line_feed then [] else first_line later more)
first_line-cons room later byte more is = rw is refl

-- no line at the end
first_line-nil : (room : ℕ) → first_line room [] ≡ []
first_line-nil zero = refl
first_line-nil (suc room) = refl

-- the first line of a line feed and more
first_line-feed : (room byte : ℕ) (more : List ℕ) → 0 < room → (byte == line_feed) ≡ true
    → first_line room (byte ∷ more) ≡ byte ∷ []
first_line-feed room byte more some feed =
    rw feed at (first_line-cons room (room - 1) byte more (omega arith))

-- the first line of another byte and more
first_line-other : (room later byte : ℕ) (more : List ℕ) → room ≡ later + 1 → (byte == line_feed) ≡ false
    → first_line room (byte ∷ more) ≡ byte ∷ first_line later more
first_line-other room later byte more is other =
    rw other at (first_line-cons room later byte more (omega (arith, is)))

-- another byte was read, which is no line feed
pub begins-byte : (old mid new : Option (List ℕ)) (line : List ℕ) (byte : ℕ) → length line < max_answer
    → byte ≢ line_feed → Consumes old mid line → BeginsLine old mid line
    → Consumes mid new (byte ∷ []) → BeginsLine old new (line ++ byte ∷ [])
begins-byte None mid new line byte room other heard begins more bytes rest was is = absurd (cc)
begins-byte (Some xs) None new line byte room other heard begins more bytes rest was is = absurd heard
begins-byte (Some xs) (Some ys) None line byte room other heard begins more bytes rest was is = absurd more
begins-byte (Some xs) (Some ys) (Some zs) line byte room other heard begins more bytes rest was is =
    let same : zs ≡ rest = cc in
    let room_left : max_answer - length line ≡ max_answer - length (line ++ byte ∷ []) + 1
    = omega (arith, length-append line (byte ∷ []), room) in
    let step : first_line (max_answer - length line) ys
    ≡ byte ∷ first_line (max_answer - length (line ++ byte ∷ [])) zs
    = rw more (first_line-other _ _ byte zs room_left (ne_eqb byte line_feed other)) in
    let behind = first_line (max_answer - length (line ++ byte ∷ [])) zs in
    begins bytes ys was refl ∙ ap (λ more. line ++ more) step ∙ sym (append_assoc line (byte ∷ []) behind)
    ∙ ap (λ more. (line ++ byte ∷ []) ++ first_line (max_answer - length (line ++ byte ∷ [])) more) same

-- a line feed was read
pub first-feed : (old mid new : Option (List ℕ)) (line : List ℕ) (byte : ℕ) → length line < max_answer
    → byte ≡ line_feed → Consumes old mid line → BeginsLine old mid line
    → Consumes mid new (byte ∷ []) → IsFirstLine old (line ++ byte ∷ [])
first-feed None mid new line byte room feed heard begins more bytes was = absurd (cc)
first-feed (Some xs) None new line byte room feed heard begins more bytes was = absurd heard
first-feed (Some xs) (Some ys) None line byte room feed heard begins more bytes was = absurd more
first-feed (Some xs) (Some ys) (Some zs) line byte room feed heard begins more bytes was =
    let step : first_line (max_answer - length line) ys ≡ byte ∷ []
    = rw more (first_line-feed _ byte zs (omega (arith, room)) (rw feed refl)) in
    sym (begins bytes ys was refl ∙ ap (λ more. line ++ more) step)

-- the link has ended
pub first-end : (old mid new : Option (List ℕ)) (line : List ℕ) → Consumes old mid line
    → BeginsLine old mid line → Consumes mid new [] → IsAtEnd new → IsFirstLine old line
first-end None mid new line heard begins more end bytes was = absurd (cc)
first-end (Some xs) None new line heard begins more end bytes was = absurd heard
first-end (Some xs) (Some ys) None line heard begins more end bytes was = absurd more
first-end (Some xs) (Some ys) (Some zs) line heard begins more end bytes was =
    let none : ys ≡ [] = more ∙ end in
    sym (begins bytes ys was refl ∙ ap (λ more. line ++ first_line (max_answer - length line) more) none
    ∙ ap (λ more. line ++ more) (first_line-nil (max_answer - length line)) ∙ append-nil line)

-- as much was read as an answer may have
pub first-full : (old mid : Option (List ℕ)) (line : List ℕ) → max_answer ≤ length line
    → Consumes old mid line → BeginsLine old mid line → IsFirstLine old line
first-full None mid line full heard begins bytes was = absurd (cc)
first-full (Some xs) None line full heard begins bytes was = absurd heard
first-full (Some xs) (Some ys) line full heard begins bytes was =
    let none : max_answer - length line ≡ 0 = omega (arith, full) in
    sym (begins bytes ys was refl ∙ rw none (append-nil line))
