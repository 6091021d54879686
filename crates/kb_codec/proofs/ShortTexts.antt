-- A text that was read isn't long.
use Rattle.std.proofs.Common.{ℕ, ◌≡◌, ◌<◌, ◌≤◌, ◌^◌, Bool, true, false, cond, ltb, List, length, Result, Ok}
use Rattle.std.proofs.Common.{Err, arith, refl}
use Rattle.std.proofs.lemmas.Bool.{ltb-false}
use Rattle.kb_catalog.specs.declared.version.Version.{Version}
use Rattle.kb_overdue.specs.declared.state.OverdueState.{OverdueState}
use Rattle.kb_catalog_text.specs.declared.fault.TextFault.{TextFault}
use Rattle.kb_catalog_text.specs.Texts.{max_bytes, catalog_read, overdue_read, text_read}

-- what passes a first test has no fault of that test
not_first : {A : Type 0} (test : Bool) (fault : TextFault) (other : Result A TextFault) (value : A)
    → cond test (Err fault) other ≡ Ok value → test ≡ false
not_first true fault other value e = absurd cc
not_first false fault other value e = refl

-- a text of at most so many bytes is short
few : (bytes : List ℕ) → ltb max_bytes (length bytes) ≡ false → length bytes < 2 ^ 32
few bytes e = let le : length bytes ≤ 60000 = ltb-false _ _ e in omega arith

-- a catalog text that was read isn't long
pub catalog_short : (bytes : List ℕ) (version : Version) → catalog_read bytes ≡ Ok version
    → length bytes < 2 ^ 32
unfolding text_read
catalog_short bytes version e = few bytes (not_first (ltb max_bytes (length bytes)) _ _ version e)

-- an overdue text that was read isn't long
pub overdue_short : (bytes : List ℕ) (states : List OverdueState) → overdue_read bytes ≡ Ok states
    → length bytes < 2 ^ 32
unfolding text_read
overdue_short bytes states e = few bytes (not_first (ltb max_bytes (length bytes)) _ _ states e)
