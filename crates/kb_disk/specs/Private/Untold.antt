-- A lane that is out tells no bytes.
use Rattle.std.specs.Prelude.{◌≡◌, true, Option, None, Some, refl, List, ℕ}
use Rattle.std.proofs.Common.{T, sym, subst}
use Rattle.std.specs.Option.{is_none}

pub none_told : (bytes : Option (List ℕ)) → is_none bytes ≡ true → bytes ≡ None
none_told None is = refl
none_told (Some bytes) is = absurd (subst T (sym is) tt)
