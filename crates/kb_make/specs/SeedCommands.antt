-- The kinds of commands that a seed stands for. A command gets its key when it is sent: until then it is a
-- function of the key.
use Rattle.std.specs.Prelude.{ℕ, ◌+◌, ◌-◌, ◌%◌, ◌≡◌, Bool, true, false, List, [], ◌∷◌, length, Some, codes}
use Rattle.std.specs.Prelude.{slice_get, refl}
use Rattle.std.specs.Fmt.{digits}
use Rattle.kb_days.specs.Dates.{january, february}
use Rattle.kb_days.specs.declared.period.Period.TheVariants.{Monthly}
use Rattle.kb_codec.specs.declared.command.Command.{Command}
use Rattle.kb_codec.specs.declared.command.Command.TheVariants as kinds
use Rattle.kb_codec.specs.declared.action.Action.TheVariants as actions
use Rattle.kb_make.specs.NumberedNames.{account_name}

-- opens an account, by its first draw
abbrev pub opening : ℕ → ℕ → List ℕ → Command
opening account first key = kinds.Act (account_name account) key (actions.OpenAccount (record {
  currency = codes "USD";
  bcd = first % 28 + 1;
  autopay = true;
}))

the_first_account : opening 1 16838 (codes "k1") ≡
    kinds.Act (codes "m1") (codes "k1") (actions.OpenAccount (record {
      currency = codes "USD";
      bcd = 11;
      autopay = true;
    }))
unfolding digits
the_first_account = refl

-- begins the account's subscription on a day
abbrev pub creation : ℕ → ℕ → List ℕ → Command
creation account day key = kinds.Act (account_name account) key (actions.Create (record {
  bundle = codes "b1";
  subscription = codes "s1";
  product = codes "Basic";
  period = Monthly;
  list = codes "DEFAULT";
  day = Some day;
}))

its_subscription : creation 1 (january 19) (codes "k2") ≡
    kinds.Act (codes "m1") (codes "k2") (actions.Create (record {
      bundle = codes "b1";
      subscription = codes "s1";
      product = codes "Basic";
      period = Monthly;
      list = codes "DEFAULT";
      day = Some (january 19);
    }))
unfolding digits
its_subscription = refl

-- pauses the account's bundle, and resumes it, on a day
abbrev pub pause : ℕ → ℕ → List ℕ → Command
pause account day key =
    kinds.Act (account_name account) key (actions.Pause (record { bundle = codes "b1"; day = Some day }))

abbrev pub resumption : ℕ → ℕ → List ℕ → Command
resumption account day key =
    kinds.Act (account_name account) key (actions.Resume (record { bundle = codes "b1"; day = Some day }))

paused : pause 2 (january 29) (codes "k9") ≡
    kinds.Act (codes "m2") (codes "k9")
    (actions.Pause (record { bundle = codes "b1"; day = Some (january 29) }))
unfolding digits
paused = refl

resumed : resumption 1 (january 29) (codes "k3") ≡
    kinds.Act (codes "m1") (codes "k3")
    (actions.Resume (record { bundle = codes "b1"; day = Some (january 29) }))
unfolding digits
resumed = refl

-- changes the account's subscription to a product on a day
abbrev pub change : ℕ → List ℕ → ℕ → List ℕ → Command
change account product day key = kinds.Act (account_name account) key (actions.Change (record {
  subscription = codes "s1";
  product = product;
  period = Monthly;
  list = codes "DEFAULT";
  day = Some day;
}))

to_a_better_one : change 1 (codes "Pro") (january 30) (codes "k3") ≡
    kinds.Act (codes "m1") (codes "k3") (actions.Change (record {
      subscription = codes "s1";
      product = codes "Pro";
      period = Monthly;
      list = codes "DEFAULT";
      day = Some (january 30);
    }))
unfolding digits
to_a_better_one = refl

-- charges an amount in cents, and credits one
abbrev pub charge : ℕ → ℕ → List ℕ → Command
charge account amount key =
    kinds.Act (account_name account) key (actions.Charge (record { amount = amount }))

abbrev pub credit : ℕ → ℕ → List ℕ → Command
credit account amount key =
    kinds.Act (account_name account) key (actions.Credit (record { amount = amount }))

charged : charge 12 500 (codes "k3") ≡
    kinds.Act (codes "m12") (codes "k3") (actions.Charge (record { amount = 500 }))
unfolding digits
charged = refl

credited : credit 12 300 (codes "k3") ≡
    kinds.Act (codes "m12") (codes "k3") (actions.Credit (record { amount = 300 }))
unfolding digits
credited = refl

-- bills the account up to a day
abbrev pub bill : ℕ → ℕ → List ℕ → Command
bill account day key = kinds.Act (account_name account) key (actions.Bill (record { day = Some day }))

billed : bill 1 (february 1) (codes "k4")
    ≡ kinds.Act (codes "m1") (codes "k4") (actions.Bill (record { day = Some (february 1) }))
unfolding digits
billed = refl

-- what the draw of a month chooses from, numbered from 0; the day is the first of the month
abbrev pub choices : ℕ → ℕ → List (List ℕ → Command)
choices account day =
    pause account (day - 3)
    ∷ resumption account (day - 3)
    ∷ change account (codes "Pro") (day - 2)
    ∷ change account (codes "Basic") (day - 2)
    ∷ charge account 500
    ∷ credit account 300
    ∷ []

number_1 : slice_get (choices 1 (february 1)) 1 ≡ Some (resumption 1 (january 29))
number_1 = refl

none_is_number_6 : length (choices 1 (february 1)) ≡ 6
none_is_number_6 = refl

-- a command is of a kind that a seed may stand for
abbrev pub is_seeded : Command → Bool
is_seeded (kinds.Act account key (actions.OpenAccount c)) = true
is_seeded (kinds.Act account key (actions.Create c)) = true
is_seeded (kinds.Act account key (actions.Change c)) = true
is_seeded (kinds.Act account key (actions.Pause c)) = true
is_seeded (kinds.Act account key (actions.Resume c)) = true
is_seeded (kinds.Act account key (actions.Bill c)) = true
is_seeded (kinds.Act account key (actions.Charge c)) = true
is_seeded (kinds.Act account key (actions.Credit c)) = true
is_seeded _ = false

a_bill : is_seeded (bill 1 (february 1) (codes "k4")) ≡ true
a_bill = refl

an_automatic_payment : is_seeded (kinds.Auto (record { account = codes "m1"; invoice = 1 })) ≡ false
an_automatic_payment = refl
