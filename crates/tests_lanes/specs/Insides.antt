-- Vaults out of which no lane is.
use Rattle.std.specs.Prelude.{ℕ, ◌≡◌, false, List}
use Rattle.kb_disk.specs.VaultMemory.{VaultValue, is_out}

-- no lane is out
abbrev pub AllInside : VaultValue → Type 0
AllInside vault = (folder : List ℕ) (lane : ℕ) → is_out vault.lanes folder lane ≡ false
