-- What a text is read as, step by step.
use Rattle.std.proofs.Common.{◌≡◌, ℕ, ◌≤◌, Bool, true, false, nat_lt, List, length, Some, None, Result}
use Rattle.std.proofs.Common.{IsUtf8, refl, arith}
use Rattle.std.specs.Str.{is_utf8}
use Rattle.std.proofs.lemmas.Bool.Decides.{nat_tests}
use Rattle.std.proofs.lemmas.Str.{is_utf8-from_IsUtf8, IsUtf8-from_is_utf8}
use Rattle.toml.specs.Data.{Members}
use Rattle.toml.specs.Parse.{parse_document}
use Rattle.kb_catalog_text.specs.declared.fault.TextFault.{TextFault}
use Rattle.kb_catalog_text.specs.declared.fault.TextFault.TheVariants.{NotToml, Missing, WrongKind, Unknown}
use Rattle.kb_catalog_text.specs.declared.fault.TextFault.TheVariants.{Rule, Memory, TooLong}
use Rattle.kb_catalog_text.specs.Reads.{Read}
use Rattle.kb_catalog_text.specs.Texts.{max_bytes, document_of, judged, text_read, IsFaultOf, IsNoDocument}

-- a text that is TOML has that document
pub document_of-some : (bytes : List ℕ) (members : Members) → IsUtf8 bytes
    → parse_document bytes ≡ Some members → document_of bytes ≡ Some members
unfolding document_of
document_of-some bytes members utf8 parsed = rw (is_utf8-from_IsUtf8 bytes utf8, parsed) refl

-- a text that isn't has none
pub document_of-none : (bytes : List ℕ) → (IsUtf8 bytes → parse_document bytes ≡ None)
    → document_of bytes ≡ None
unfolding document_of
document_of-none bytes refused = by_test (is_utf8 bytes) refl
  where
    by_test : (utf8 : Bool) → is_utf8 bytes ≡ utf8 → document_of bytes ≡ None
    by_test true is = rw is (refused (IsUtf8-from_is_utf8 bytes is))
    by_test false is = rw is refl

pub ruleset documents = (document_of-some, document_of-none)

-- a text of a document is judged by what that says
pub text_read-document : {A : Type 0} (rules : A → Result A TextFault) (read : Members → Read A)
    (bytes : List ℕ) (members : Members)
    → length bytes ≤ max_bytes → document_of bytes ≡ Some members
    → text_read rules read bytes ≡ judged rules (read members)
unfolding text_read
text_read-document rules read bytes members short document =
    let short_test : nat_lt max_bytes (length bytes) ≡ false =
    grind (arith, nat_tests) in rw (short_test, document) refl

-- a text without a document has that fault
pub text_read-fault : {A : Type 0} (rules : A → Result A TextFault) (read : Members → Read A) (bytes : List ℕ)
    (fault : TextFault)
    → IsNoDocument bytes fault → IsFaultOf (text_read rules read bytes) fault
unfolding text_read
text_read-fault rules read bytes NotToml none =
    λ kept. let short_test : nat_lt max_bytes (length bytes) ≡ false = let short = none.0
    in grind (arith, nat_tests) in rw (short_test, none.1) refl
text_read-fault rules read bytes Memory none = λ kept. absurd (kept refl)
text_read-fault rules read bytes (TooLong count) none =
    λ kept. let long_test : nat_lt max_bytes (length bytes) ≡ true = let long = none.0
    in grind (arith, nat_tests) in rw (long_test, none.1) refl
text_read-fault rules read bytes (Missing key) none = absurd none
text_read-fault rules read bytes (WrongKind key) none = absurd none
text_read-fault rules read bytes (Unknown key) none = absurd none
text_read-fault rules read bytes (Rule rule index) none = absurd none

pub ruleset texts = (text_read-document, text_read-fault)
