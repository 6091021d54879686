-- The work of the accounts of some names: how it grows with the names, and how much it is at most.
use Rattle.std.specs.Prelude.{ℕ, ◌+◌, ◌*◌, ◌≡◌, ◌≤◌, Bool, true, List, length, sum_by, if◌then◌else◌, refl}
use Rattle.kb_book.specs.Books.{BookValue}
use Rattle.kb_machine.specs.Machines.{MachineValue}
use Rattle.kb_histories.specs.SmallMachines.{owing}
use Rattle.kb_histories.specs.OwnWork.{all_work}

-- fewer names have no more work
abbrev pub FewerNamesHaveNoMore : Type 0
FewerNamesHaveNoMore = (machine : MachineValue) (today : ℕ) (some named : List ℕ → Bool)
    → ((account : List ℕ) → some account ≡ true → named account ≡ true)
    → all_work some today machine ≤ all_work named today machine

-- how many accounts have a name that passes a test, and how many invoices these have
abbrev pub named_accounts : (List ℕ → Bool) → MachineValue → ℕ
named_accounts named machine =
    sum_by (λ (entry : List ℕ × BookValue). if named entry.0 then 1 else 0) machine.books

abbrev pub named_invoices : (List ℕ → Bool) → MachineValue → ℕ
named_invoices named machine =
    sum_by (λ (entry : List ℕ × BookValue). if named entry.0 then length entry.1.invoices.rows else 0)
    machine.books

-- an account may have a transition and an invoice that is yet to be issued, and beside these its invoices
abbrev pub WorkIsBounded : Type 0
WorkIsBounded = (machine : MachineValue) (today : ℕ) (named : List ℕ → Bool)
    → all_work named today machine ≤ 7 * named_accounts named machine + 3 * named_invoices named machine

one_account : named_accounts (λ account. true) owing ≡ 1
one_account = refl

its_invoice : named_invoices (λ account. true) owing ≡ 1
its_invoice = refl
