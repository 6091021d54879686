-- What follows from two facts that hold where a call succeeds.
use Rattle.std.specs.Prelude.{Result, Ok, Err, OnOk}

-- they hold together where it succeeds
pub both_ok : {T E : Type 0} (result : Result T E) (P Q R : Type 0) → (P → Q → R) → OnOk result P
    → OnOk result Q
    → OnOk result R
both_ok (Ok value) P Q R join p q = join p q
both_ok (Err fault) P Q R join p q = tt
