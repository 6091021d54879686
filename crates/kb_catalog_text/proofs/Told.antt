-- A fault that a step of reading tells is passed on.
use Rattle.std.proofs.Common.{◌≡◌, Ok, Err}
use Rattle.std.specs.Result.{IsErr, IsErrAnd}
use Rattle.kb_catalog_text.specs.declared.key_fault.KeyFault.{KeyFault}
use Rattle.kb_catalog_text.specs.declared.key_fault.KeyFault.TheVariants.{Memory}
use Rattle.kb_catalog_text.specs.Reads.{Read, IsRead}

-- the fault is what is read, unless memory ran out
pub told : {A : Type 0} (result wanted : Read A) (fault : KeyFault) → IsErr result
    × IsErrAnd result (λ passed. passed ≡ fault)
    → ((fault ≡ Memory → ⊥) → wanted ≡ Err fault) → IsRead result wanted
told (Ok value) wanted fault passed is = absurd (cc)
told (Err other) wanted fault passed is = λ kept. let same : other ≡ fault = passed.1
    in rw same (is (rw same at kept))
