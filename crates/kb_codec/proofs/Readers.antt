-- What a reader that reads something has read.
use Rattle.std.proofs.Common.{ℕ, zero, suc, ◌≡◌, ◌+◌, ◌<◌, ◌≤◌, ◌&&◌, Bool, true, false, cond, ltb, leb}
use Rattle.std.proofs.Common.{List, [], ◌∷◌, ◌++◌, length, take, drop, get_or, Option, Some, None, IsTrue}
use Rattle.std.proofs.Common.{refl, sym, ap, subst, ◌∙◌, arith, inl, inr}
use Rattle.std.specs.Prelude.{slice_get}
use Rattle.std.specs.Option.{option_map, option_and_then}
use Rattle.std.proofs.lemmas.Bool.{cases_lt, ltb-false, le-ltb, leb-true, le-leb}
use Rattle.std.proofs.lemmas.List.{take_at, drop_at, take-append-drop, length-append, length-take}
use Rattle.std.proofs.lemmas.List.{get_or-drop, get_or-take, get_or_past}
use Rattle.kb_codec.specs.Reading.{Reader, byte_in, bytes_in, into, made, chained, passed, within}

-- each is a byte
abbrev pub IsBytes : List ℕ → Type 0
IsBytes bytes = (i : ℕ) → get_or bytes i 0 < 256

pub IsBytes-drop : (n : ℕ) (bytes : List ℕ) → IsBytes bytes → IsBytes (drop n bytes)
IsBytes-drop n bytes h i = rw get_or-drop (h (n + i))

pub IsBytes-take : (n : ℕ) (bytes : List ℕ) → IsBytes bytes → IsBytes (take n bytes)
IsBytes-take n bytes h i =
    elim (cases_lt i n) [
      | inl lt ↦ rw (get_or-take n bytes i 0 lt) (h i)
      | inr le ↦ rw (get_or_past (take n bytes) i 0 (omega (arith, length-take n bytes))) (omega arith)
    ]

pub IsBytes-rest : (byte : ℕ) (bytes : List ℕ) → IsBytes (byte ∷ bytes) → IsBytes bytes
IsBytes-rest byte bytes h i = h (suc i)

-- what there is, if something is made of it
pub then_some : {A B : Type 0} (o : Option A) (f : A → Option B) (y : B) → option_and_then f o ≡ Some y
    → (x : A) × (o ≡ Some x) × (f x ≡ Some y)
then_some None f y e = absurd cc
then_some (Some x) f y e = (x, refl, e)

pub some_is : {A : Type 0} (x y : A) → Some x ≡ Some y → x ≡ y
some_is x y e = cc

pub map_some : {A B : Type 0} (o : Option A) (f : A → B) (y : B) → option_map f o ≡ Some y
    → (x : A) × (o ≡ Some x) × (f x ≡ y)
map_some None f y e = absurd cc
map_some (Some x) f y e = (x, refl, some_is (f x) y e)

-- what was read for a value that was made of it
pub made_some : {A B : Type 0} (of : A → Option B) (read : Reader A) (bytes : List ℕ) (value : B)
    (rest : List ℕ) → made of read bytes ≡ Some (value, rest)
    → (x : A) × (read bytes ≡ Some (x, rest)) × (of x ≡ Some value)
made_some {A} {B} of read bytes value rest e =
    let a = then_some (read bytes) (λ x. option_map (λ v. (v, x.1)) (of x.0)) (value, rest) e in
    let b = map_some (of a.0.0) (λ v. (v, a.0.1)) (value, rest) a.2 in
    let rest-is : a.0.1 ≡ rest = ap (λ (p : B × List ℕ). p.1) b.2 in
    let value-is : b.0 ≡ value = ap (λ (p : B × List ℕ). p.0) b.2 in
    (a.0.0, a.1 ∙ ap (λ (r : List ℕ). Some (a.0.0, r)) rest-is, b.1 ∙ ap (λ (v : B). Some v) value-is)

pub into_some : {A B : Type 0} (f : A → B) (read : Reader A) (bytes : List ℕ) (value : B) (rest : List ℕ)
    → into f read bytes ≡ Some (value, rest)
    → (x : A) × (read bytes ≡ Some (x, rest)) × (f x ≡ value)
into_some {A} {B} f read bytes value rest e =
    let a = map_some (read bytes) (λ x. (f x.0, x.1)) (value, rest) e in
    let rest-is : a.0.1 ≡ rest = ap (λ (p : B × List ℕ). p.1) a.2 in
    let value-is : f a.0.0 ≡ value = ap (λ (p : B × List ℕ). p.0) a.2 in
    (a.0.0, a.1 ∙ ap (λ (r : List ℕ). Some (a.0.0, r)) rest-is, value-is)

pub chained_some : {A B : Type 0} (first : Reader A) (second : A → Reader B) (bytes : List ℕ) (value : B)
    (rest : List ℕ) → chained first second bytes ≡ Some (value, rest)
    → (x : A) × (middle : List ℕ) × (first bytes ≡ Some (x, middle)) × (second x middle ≡ Some (value, rest))
chained_some first second bytes value rest e =
    let a = then_some (first bytes) (λ x. second x.0 x.1) (value, rest) e in
    (a.0.0, a.0.1, a.1, a.2)

-- the same ways forwards
pub made_again : {A B : Type 0} (of : A → Option B) (read : Reader A) (bytes : List ℕ) (x : A) (value : B)
    (rest : List ℕ) → read bytes ≡ Some (x, rest) → of x ≡ Some value
    → made of read bytes ≡ Some (value, rest)
made_again of read bytes x value rest e h = rw (e, h) refl

pub into_again : {A B : Type 0} (f : A → B) (read : Reader A) (bytes : List ℕ) (x : A) (rest : List ℕ)
    → read bytes ≡ Some (x, rest) → into f read bytes ≡ Some (f x, rest)
into_again f read bytes x rest e = rw e refl

pub chained_again : {A B : Type 0} (first : Reader A) (second : A → Reader B) (bytes : List ℕ) (x : A)
    (middle : List ℕ) (y : B) (rest : List ℕ) → first bytes ≡ Some (x, middle)
    → second x middle ≡ Some (y, rest) → chained first second bytes ≡ Some (y, rest)
chained_again first second bytes x middle y rest e h = rw (e, h) refl

-- a byte that was read is the first one
pub byte_some : (bytes : List ℕ) (byte : ℕ) (rest : List ℕ) → byte_in bytes ≡ Some (byte, rest)
    → bytes ≡ byte ∷ rest
byte_some [] byte rest e = absurd cc
byte_some (b ∷ bs) byte rest e =
    let p = some_is (b, bs) (byte, rest) e in
    ap (λ (q : ℕ × List ℕ). q.0 ∷ q.1) p

-- a test that did not fail
pub guard_some : {A : Type 0} (test : Bool) (x y : A) → cond test None (Some x) ≡ Some y
    → (test ≡ false) × (x ≡ y)
guard_some true x y e = absurd cc
guard_some false x y e = (refl, some_is x y e)

pub guard_passed : {A : Type 0} (test : Bool) (x y : A) → cond test (Some x) None ≡ Some y
    → (test ≡ true) × (x ≡ y)
guard_passed true x y e = (refl, some_is x y e)
guard_passed false x y e = absurd cc

-- bytes that were read are the first ones
pub bytes_some : (count : ℕ) (bytes front rest : List ℕ) → bytes_in count bytes ≡ Some (front, rest)
    → (bytes ≡ front ++ rest) × (length front ≡ count) × (front ≡ take count bytes)
    × (rest ≡ drop count bytes)
bytes_some count bytes front rest e =
    let g = guard_some (ltb (length bytes) count) (take count bytes, drop count bytes) (front, rest) e in
    let long : count ≤ length bytes = ltb-false _ _ g.0 in
    let front-is : take count bytes ≡ front = ap (λ (p : List ℕ × List ℕ). p.0) g.1 in
    let rest-is : drop count bytes ≡ rest = ap (λ (p : List ℕ × List ℕ). p.1) g.1 in
    let len : length (take count bytes) ≡ count = omega (arith, length-take count bytes) in (
      sym (take-append-drop count bytes)
          ∙ ap (λ (p : List ℕ × List ℕ). p.0 ++ p.1) g.1,
      rw (← front-is) len,
      sym front-is,
      sym rest-is,
    )

pub bytes_again : (count : ℕ) (front rest : List ℕ) → length front ≡ count
    → bytes_in count (front ++ rest) ≡ Some (front, rest)
bytes_again count front rest len =
    let long : ltb (length (front ++ rest)) count ≡ false =
    le-ltb _ _ (omega (arith, length-append front rest)) in
    rw (long, take_at front rest count len, drop_at front rest count len) refl

-- what passed a test is what was tested
pub passed_some : (test : List ℕ → Bool) (bytes value : List ℕ) → passed test bytes ≡ Some value
    → (bytes ≡ value) × IsTrue (test value)
passed_some test bytes value e =
    let g = guard_passed (test bytes) bytes value e in
    (g.1, subst (λ (v : List ℕ). test v ≡ true) g.1 g.0)

pub passed_again : (test : List ℕ → Bool) (bytes : List ℕ) → IsTrue (test bytes)
    → passed test bytes ≡ Some bytes
passed_again test bytes h = let e : test bytes ≡ true = h in rw e refl

-- both of two tests hold
pub both_true : (a b : Bool) → (a && b) ≡ true → (a ≡ true) × (b ≡ true)
both_true true b e = (refl, e)
both_true false b e = absurd cc

-- a number that is in a range is itself
pub within_some : (low high number value : ℕ) → within low high number ≡ Some value
    → (number ≡ value) × (low ≤ value) × (value ≤ high)
within_some low high number value e =
    let g = guard_passed (leb low number && leb number high) number value e in
    let h = both_true (leb low number) (leb number high) g.0 in
    let least : low ≤ number = leb-true low number h.0 in
    let most : number ≤ high = leb-true number high h.1 in
    (g.1, subst (λ n. low ≤ n) g.1 least, subst (λ n. n ≤ high) g.1 most)

pub within_again : (low high number : ℕ) → low ≤ number → number ≤ high → within low high number ≡ Some number
within_again low high number least most = rw (le-leb low number least, le-leb number high most) refl

-- what holds of each member of a list and its place, counted from a number
abbrev pub Holds : {A : Type 0} → (ℕ → A → Type 0) → ℕ → List A → Type 0
Holds P n [] = Unit {0}
Holds P n (x ∷ xs) = P n x × Holds P (suc n) xs

-- it holds of the one at a place
pub at_place : {A : Type 0} (P : ℕ → A → Type 0) (n : ℕ) (xs : List A) (i : ℕ) (x : A) → Holds P n xs
    → slice_get xs i ≡ Some x → P (n + i) x
at_place P n [] i x h e = absurd cc
at_place P n (y ∷ ys) zero x h e = subst (λ k. P k x) (omega arith) (subst (λ v. P n v) (some_is y x e) h.0)
at_place P n (y ∷ ys) (suc i) x h e = subst (λ k. P k x) (omega arith) (at_place P (suc n) ys i x h.1 e)
