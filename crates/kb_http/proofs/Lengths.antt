-- The length of a body, told by fields one after another.
use Rattle.std.proofs.Common.{◌≡◌, ℕ, Bool, true, false, if◌then◌else◌, List, [], ◌∷◌, Option, None, Some}
use Rattle.std.proofs.Common.{Result, Err, refl, ap, ◌∙◌}
use Rattle.std.specs.Prelude.{bytes_eq, codes}
use Rattle.std.specs.List.{list_any}
use Rattle.kb_http.specs.Heads.{is_named, values_of, body_length, framing_of}
use Rattle.kb_http.specs.Private.Parts.{told_with, told_by, length_of}

-- the length told after some values
told_on : Option (Result ℕ ℕ) → List (List ℕ) → Option (Result ℕ ℕ)
told_on told [] = told
told_on told (text ∷ more) = told_on (told_with told text) more

-- two of them stay refused
told_on-refused : (values : List (List ℕ)) → told_on (Some (Err 400)) values ≡ Some (Err 400)
unfolding told_on
told_on-refused [] = refl
told_on-refused (text ∷ more) = told_on-refused more

length_of-told_on : (is_post : Bool) (values : List (List ℕ))
    → length_of is_post (told_on None values) ≡ body_length is_post values
unfolding told_on
length_of-told_on is_post [] = refl
length_of-told_on is_post (text ∷ []) = refl
length_of-told_on is_post (text ∷ other ∷ more) = ap (length_of is_post) (told_on-refused more)

-- only the values of fields with the name count
told_by-values : (told : Option (Result ℕ ℕ)) (fields : List (List ℕ × List ℕ))
    → told_by told fields ≡ told_on told (values_of (codes "content-length") fields)
unfolding told_on
told_by-values told [] = refl
told_by-values told (field ∷ fields) =
    by_test (is_named (codes "content-length") field) (told_by-values (told_with told field.1) fields)
    (told_by-values told fields)
  where
    by_test : (test : Bool)
        → told_by (told_with told field.1) fields ≡ told_on (told_with told field.1)
        (values_of (codes "content-length") fields)
        → told_by told fields ≡ told_on told (values_of (codes "content-length") fields)
        → told_by (if test then told_with told field.1 else told) fields
        ≡ told_on told (if test then field.1 ∷ values_of (codes "content-length") fields else values_of
        (codes "content-length") fields)
    by_test true named other = named
    by_test false named other = other

-- no field refuses first
pub framing_told : (method : List ℕ) (fields : List (List ℕ × List ℕ)) (result : Result ℕ ℕ)
    → list_any (is_named (codes "transfer-encoding")) fields ≡ false
    → result ≡ length_of (bytes_eq method (codes "POST")) (told_by None fields)
    → result ≡ framing_of method fields
framing_told method fields result none told =
    rw none (
    told ∙ ap (length_of (bytes_eq method (codes "POST"))) (told_by-values None fields)
    ∙ length_of-told_on (bytes_eq method (codes "POST")) (values_of (codes "content-length") fields)
    )
