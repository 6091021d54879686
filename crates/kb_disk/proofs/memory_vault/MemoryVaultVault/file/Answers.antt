use Rattle.std.proofs.Common.{◌≡◌, ◌≤◌, ℕ, List, length, take, arith}
use Rattle.std.proofs.lemmas.List.{length-take}
use Rattle.kb_disk.specs.declared.vault.TheConstants.{MAX_FILE}
use Rattle.kb_disk.proofs.memory_vault.MemoryVaultVault.file.Goals as goal

no_longer : (most : ℕ) (whole bytes : List ℕ) → bytes ≡ take most whole → length bytes ≤ most
no_longer most whole bytes is = rw is (rw (length-take most whole) (omega arith))

pub returns-clause-size : goal.returns-clause-size
returns-clause-size c =
    no_longer MAX_FILE _ c.in_ok-first_bytes.field-0.items c.in_ok-first_bytes.ensures
