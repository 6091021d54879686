-- What is read at a key, step by step.
use Rattle.std.proofs.Common.{◌≡◌, ℕ, Bool, true, false, List, [], ◌∷◌, ◌++◌, Some, None, Ok, Err}
use Rattle.std.proofs.Common.{append_assoc, refl, ap}
use Rattle.toml.specs.Data.{Data, Items, item, Members, member, get_member, as_array, as_table}
use Rattle.kb_catalog_text.specs.declared.key_fault.KeyFault.{KeyFault}
use Rattle.kb_catalog_text.specs.declared.key_fault.KeyFault.TheVariants.{Missing, WrongKind, Unknown}
use Rattle.kb_catalog_text.specs.Reads.{Read, and_then, first_failing, keys_read, read_table, read_array}
use Rattle.kb_catalog_text.specs.Reads.{required, optional, read_or, read_items}

-- a value that is missing
pub required-none : {A : Type 0} (read : List ℕ → Data → Read A) (key : List ℕ) (entries : Members)
    → get_member key entries ≡ None
    → required read key entries ≡ Err (Missing key)
unfolding required
required-none read key entries none = rw none refl

pub optional-none : {A : Type 0} (read : List ℕ → Data → Read A) (key : List ℕ) (entries : Members)
    → get_member key entries ≡ None
    → optional read key entries ≡ Ok None
unfolding optional
optional-none read key entries none = rw none refl

pub read_or-none : {A : Type 0} (other : A) (read : List ℕ → Data → Read A) (key : List ℕ) (entries : Members)
    → get_member key entries ≡ None
    → read_or other read key entries ≡ Ok other
unfolding read_or
read_or-none other read key entries none = rw none refl

-- a value that is there
pub required-some : {A : Type 0} (read : List ℕ → Data → Read A) (key : List ℕ) (entries : Members)
    (value : Data)
    → get_member key entries ≡ Some value → required read key entries ≡ read key value
unfolding required
required-some read key entries value some = rw some refl

pub read_or-some : {A : Type 0} (other : A) (read : List ℕ → Data → Read A) (key : List ℕ) (entries : Members)
    (value : Data)
    → get_member key entries ≡ Some value → read_or other read key entries ≡ read key value
unfolding read_or
read_or-some other read key entries value some = rw some refl

-- a value that may be missing, and is there
pub optional-found : {A : Type 0} (read : List ℕ → Data → Read A) (key : List ℕ) (entries : Members)
    (value : Data) (found : A)
    → get_member key entries ≡ Some value → read key value ≡ Ok found
    → optional read key entries ≡ Ok (Some found)
unfolding optional
optional-found read key entries value found some is = rw (some, is) refl

pub optional-fault : {A : Type 0} (read : List ℕ → Data → Read A) (key : List ℕ) (entries : Members)
    (value : Data) (fault : KeyFault)
    → get_member key entries ≡ Some value → read key value ≡ Err fault → optional read key entries ≡ Err fault
unfolding optional
optional-fault read key entries value fault some is = rw (some, is) refl

pub ruleset at_key = (required-none, required-some, optional-none, read_or-none, read_or-some)

-- the elements that are read before the others
pub read_items-more : {A : Type 0} (read : List ℕ → Data → Read A) (key : List ℕ) (value : Data)
    (later : Items) (before : List A) (first : A)
    → read key value ≡ Ok first
    → and_then (read_items read key (item value later)) (λ rest. Ok (before ++ rest))
    ≡ and_then (read_items read key later) (λ rest. Ok ((before ++ first ∷ []) ++ rest))
unfolding read_items
read_items-more {A} read key value later before first is = rw is (by_rest (read_items read key later))
  where
    by_rest : (rest : Read (List A))
        → and_then (and_then rest (λ rest. Ok (first ∷ rest))) (λ rest. Ok (before ++ rest))
        ≡ and_then rest (λ rest. Ok ((before ++ first ∷ []) ++ rest))
    by_rest (Ok rest) = ap Ok (rw (append_assoc before (first ∷ []) rest) refl)
    by_rest (Err fault) = refl

-- the first element that isn't read
pub read_items-fault : {A : Type 0} (read : List ℕ → Data → Read A) (key : List ℕ) (value : Data)
    (later : Items) (before : List A) (fault : KeyFault)
    → read key value ≡ Err fault
    → and_then (read_items read key (item value later)) (λ rest. Ok (before ++ rest)) ≡ Err fault
unfolding read_items
read_items-fault read key value later before fault is = rw is refl

-- a value that is no array or table, and one that is
pub read_array-none : {A : Type 0} (read : List ℕ → Data → Read A) (key : List ℕ) (value : Data)
    → as_array value ≡ None
    → read_array read key value ≡ Err (WrongKind key)
unfolding read_array
read_array-none read key value none = rw none refl

pub read_array-some : {A : Type 0} (read : List ℕ → Data → Read A) (key : List ℕ) (value : Data)
    (items : Items) → as_array value ≡ Some items
    → read_array read key value ≡ read_items read key items
unfolding read_array
read_array-some read key value items some = rw some refl

pub read_table-none : {A : Type 0} (read : Members → Read A) (key : List ℕ) (value : Data)
    → as_table value ≡ None
    → read_table read key value ≡ Err (WrongKind key)
unfolding read_table
read_table-none read key value none = rw none refl

pub read_table-some : {A : Type 0} (read : Members → Read A) (key : List ℕ) (value : Data) (entries : Members)
    → as_table value ≡ Some entries
    → read_table read key value ≡ read entries
unfolding read_table
read_table-some read key value entries some = rw some refl

pub ruleset inner = (read_array-none, read_array-some, read_table-none, read_table-some)

-- the first key that isn't known
pub first_failing-passed : (known : List ℕ → Bool) (key : List ℕ) (value : Data) (later : Members)
    → known key ≡ true
    → first_failing known (member key value later) ≡ first_failing known later
unfolding first_failing
first_failing-passed known key value later passes = rw passes refl

pub first_failing-here : (known : List ℕ → Bool) (key : List ℕ) (value : Data) (later : Members)
    → known key ≡ false
    → first_failing known (member key value later) ≡ Some key
unfolding first_failing
first_failing-here known key value later fails = rw fails refl

pub keys_read-none : (known : List ℕ → Bool) (entries : Members) → first_failing known entries ≡ None
    → keys_read known entries ≡ Ok tt
unfolding keys_read
keys_read-none known entries none = rw none refl

pub keys_read-some : (known : List ℕ → Bool) (entries : Members) (key : List ℕ)
    → first_failing known entries ≡ Some key
    → keys_read known entries ≡ Err (Unknown key)
unfolding keys_read
keys_read-some known entries key some = rw some refl

pub ruleset known_keys = (keys_read-none, keys_read-some)
