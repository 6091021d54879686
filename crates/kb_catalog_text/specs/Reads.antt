-- How a table of a text is read, key by key: as a value, or as the first fault.
use Rattle.std.specs.Prelude.{ℕ, ◌≡◌, Bool, true, false, List, [], ◌∷◌, codes, Option, Some, None, Result, Ok}
use Rattle.std.specs.Prelude.{Err, refl, bytes_eq, pos}
use Rattle.std.specs.List.{list_any}
use Rattle.toml.specs.Data.{Data, integer, boolean, Items, no_items, item, Members, no_members, member}
use Rattle.toml.specs.Data.{get_member, as_bool, as_array, as_table}
use Rattle.kb_catalog_text.specs.declared.key_fault.KeyFault.{KeyFault}
use Rattle.kb_catalog_text.specs.declared.key_fault.KeyFault.TheVariants.{Missing, WrongKind, Unknown, Memory}

-- what a part of a text is read as: a value, or the first fault
abbrev pub Read : Type 0 → Type 0
Read A = Result A KeyFault

-- a fault that is told is the one that there is, unless memory ran out
abbrev pub IsTold : KeyFault → KeyFault → Type 0
IsTold told fault = (told ≡ Memory → ⊥) → told ≡ fault

-- what a call read is what a definition says, unless memory ran out
abbrev pub IsRead : {A : Type 0} → Read A → Read A → Type 0
IsRead (Ok value) wanted = wanted ≡ Ok value
IsRead (Err fault) wanted = (fault ≡ Memory → ⊥) → wanted ≡ Err fault

-- what is read next, given what was read
abbrev pub and_then : {A B : Type 0} → Read A → (A → Read B) → Read B
and_then (Ok value) next = next value
and_then (Err fault) next = Err fault

-- the first key of a table that fails a test; the keys of a table stand in the order of their bytes
unfoldable pub first_failing : (List ℕ → Bool) → Members → Option (List ℕ)
first_failing known no_members = None
first_failing known (member key value later) = of_test (known key) (first_failing known later)
  where
    of_test : Bool → Option (List ℕ) → Option (List ℕ)
    of_test true failing = failing
    of_test false failing = Some key

-- a table has known keys alone; else the first other one is told
unfoldable pub keys_read : (List ℕ → Bool) → Members → Read (Unit {0})
keys_read known members = of_key (first_failing known members)
  where
    of_key : Option (List ℕ) → Read (Unit {0})
    of_key None = Ok tt
    of_key (Some key) = Err (Unknown key)

-- a key is among some
abbrev pub is_among : List (List ℕ) → List ℕ → Bool
is_among keys key = list_any (bytes_eq key) keys

-- what was found in a value at a key, which is of the wrong kind where nothing was
abbrev pub read_found : {A : Type 0} → List ℕ → Option A → Read A
read_found key None = Err (WrongKind key)
read_found key (Some found) = Ok found

-- a value, as a kind of value that it may be of
abbrev pub read_as : {A : Type 0} → (Data → Option A) → List ℕ → Data → Read A
read_as kind key value = read_found key (kind value)

-- the value at a key that has to be there
unfoldable pub required : {A : Type 0} → (List ℕ → Data → Read A) → List ℕ → Members → Read A
required {A} read key members = of_value (get_member key members)
  where
    of_value : Option Data → Read A
    of_value None = Err (Missing key)
    of_value (Some value) = read key value

-- the value at a key that may be missing
unfoldable pub optional : {A : Type 0} → (List ℕ → Data → Read A) → List ℕ → Members → Read (Option A)
optional {A} read key members = of_value (get_member key members)
  where
    of_value : Option Data → Read (Option A)
    of_value None = Ok None
    of_value (Some value) = and_then (read key value) (λ found. Ok (Some found))

-- the value at a key, or another one where it is missing
unfoldable pub read_or : {A : Type 0} → A → (List ℕ → Data → Read A) → List ℕ → Members → Read A
read_or {A} other read key members = of_value (get_member key members)
  where
    of_value : Option Data → Read A
    of_value None = Ok other
    of_value (Some value) = read key value

-- a table at a key
unfoldable pub read_table : {A : Type 0} → (Members → Read A) → List ℕ → Data → Read A
read_table read key value = and_then (read_as as_table key value) read

-- the elements of an array at a key, one after another
unfoldable pub read_items : {A : Type 0} → (List ℕ → Data → Read A) → List ℕ → Items → Read (List A)
read_items read key no_items = Ok []
read_items read key (item value later) =
    and_then (read key value) (λ first. and_then (read_items read key later) (λ rest. Ok (first ∷ rest)))

-- an array at a key
unfoldable pub read_array : {A : Type 0} → (List ℕ → Data → Read A) → List ℕ → Data → Read (List A)
read_array read key value = and_then (read_as as_array key value) (read_items read key)

-- for the examples: a = 1, b = true
abbrev two_keys : Members
two_keys = member (codes "a") (integer (pos 1)) (member (codes "b") (boolean true) no_members)

b_is_true : required (read_as as_bool) (codes "b") two_keys ≡ Ok true
unfolding required
b_is_true = refl

a_is_no_flag : required (read_as as_bool) (codes "a") two_keys ≡ Err (WrongKind (codes "a"))
unfolding required
a_is_no_flag = refl

c_is_missing : required (read_as as_bool) (codes "c") two_keys ≡ Err (Missing (codes "c"))
unfolding required
c_is_missing = refl

c_may_be_missing : read_or false (read_as as_bool) (codes "c") two_keys ≡ Ok false
unfolding read_or
c_may_be_missing = refl

b_is_unknown : keys_read (is_among (codes "a" ∷ codes "c" ∷ [])) two_keys ≡ Err (Unknown (codes "b"))
unfolding keys_read first_failing
b_is_unknown = refl

second_is_no_flag : read_items (read_as as_bool) (codes "d")
    (item (boolean true) (item (integer (pos 1)) no_items)) ≡ Err (WrongKind (codes "d"))
unfolding read_items
second_is_no_flag = refl
