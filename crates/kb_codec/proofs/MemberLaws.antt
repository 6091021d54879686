-- Each member is read as it is spelled, and was spelled as it is read.
use Rattle.std.proofs.Common.{ℕ, zero, suc, ◌≡◌, ◌<◌, ◌^◌, Bool, true, false, cond, ltb, eqb, List, ◌∷◌, ◌++◌}
use Rattle.std.proofs.Common.{length, Option, Some, None, refl, sym, ap, subst, ◌∙◌, arith, append_assoc}
use Rattle.std.specs.Prelude.{slice_get, IfSome}
use Rattle.std.specs.Int.{w32, w64, to_be_bytes, from_be_bytes}
use Rattle.std.specs.List.{list_all}
use Rattle.std.proofs.lemmas.Bool.{eqb-true, ltb-true}
use Rattle.std.proofs.lemmas.Nat.{be_bytes_4, be_bytes_8, from_be_bytes-to_be_bytes_4}
use Rattle.std.proofs.lemmas.Nat.{from_be_bytes-to_be_bytes_8}
use Rattle.kb_days.specs.Names.{IsName, is_name}
use Rattle.kb_days.specs.Calendar.{first_day, last_day}
use Rattle.kb_days.specs.declared.period.Period.{Period}
use Rattle.kb_days.specs.declared.period.Period.TheVariants as periods
use Rattle.kb_money.specs.Currency.{IsCurrency, is_currency, is_capital}
use Rattle.kb_payment.specs.declared.attempt.Status.{Status}
use Rattle.kb_payment.specs.declared.attempt.Status.TheVariants as statuses
use Rattle.kb_blocking.specs.declared.state.Flags.{Flags}
use Rattle.kb_codec.specs.declared.amount.TheConstants.{MAX_AMOUNT}
use Rattle.kb_codec.specs.declared.scope.BlockScope.{BlockScope}
use Rattle.kb_codec.specs.declared.scope.BlockScope.TheVariants as scopes
use Rattle.kb_codec.specs.Members.{four_bytes, eight_bytes, name_bytes, currency_bytes, bcd_bytes, day_bytes}
use Rattle.kb_codec.specs.Members.{invoice_bytes, amount_bytes, optional_bytes, truth_bytes, truth_byte}
use Rattle.kb_codec.specs.Members.{period_bytes, period_byte, scope_bytes, scope_byte, status_bytes}
use Rattle.kb_codec.specs.Members.{status_byte, flags_bytes, flags_byte}
use Rattle.kb_codec.specs.Commands.{IsDay, IsBcd, IsAmount, IsInvoiceNo}
use Rattle.kb_codec.specs.Reading.{byte_in, bytes_in, into, made, passed, within, four_in, eight_in, name_in}
use Rattle.kb_codec.specs.Reading.{currency_in, bcd_in, day_in, invoice_in, amount_in, truth_in, truths}
use Rattle.kb_codec.specs.Reading.{optional_in, period_in, all_periods, scope_in, all_scopes, status_in}
use Rattle.kb_codec.specs.Reading.{all_statuses, flags_in, flags_of}
use Rattle.kb_codec.specs.MemberKinds.{Member, both, optional, name, currency, bcd, day, invoice, amount}
use Rattle.kb_codec.specs.MemberKinds.{truth, period, scope, status, flags}
use Rattle.kb_codec.proofs.Readers.{IsBytes, IsBytes-take, IsBytes-drop, IsBytes-rest, some_is, made_some}
use Rattle.kb_codec.proofs.Readers.{into_some, chained_some, made_again, into_again, chained_again, byte_some}
use Rattle.kb_codec.proofs.Readers.{bytes_some, bytes_again, passed_some, passed_again, within_some}
use Rattle.kb_codec.proofs.Readers.{within_again, Holds, at_place, guard_passed, both_true}

-- what a member that was read was spelled as
pub record WasRead {A : Type 0} (m : Member A) (bytes : List ℕ) (value : A) (rest : List ℕ) : Type 0 where
  pub spelled : bytes ≡ m.spell value ++ rest
  pub allowed : m.allowed value
  pub bytes_left : IsBytes rest

-- a member is read as it is spelled, and was spelled as it is read
pub record IsExact {A : Type 0} (m : Member A) : Type 0 where
  pub again : (value : A) (rest : List ℕ) → m.allowed value
      → m.read (m.spell value ++ rest) ≡ Some (value, rest)
  pub sound : (bytes : List ℕ) (value : A) (rest : List ℕ) → IsBytes bytes
      → m.read bytes ≡ Some (value, rest) → WasRead m bytes value rest

-- ---- numbers

pub four_again : (n : ℕ) (rest : List ℕ) → n < 2 ^ 32 → four_in (four_bytes n ++ rest) ≡ Some (n, rest)
unfolding four_in four_bytes
four_again n rest lt =
    into_again (from_be_bytes w32) (bytes_in 4) (to_be_bytes w32 n ++ rest) (to_be_bytes w32 n) rest
    (bytes_again 4 (to_be_bytes w32 n) rest refl)
    ∙ ap (λ (k : ℕ). Some (k, rest)) (from_be_bytes-to_be_bytes_4 n lt)

pub record IsNumber (front : List ℕ) (limit : ℕ) (bytes : List ℕ) (n : ℕ) (rest : List ℕ) : Type 0 where
  pub spelled : bytes ≡ front ++ rest
  pub below : n < limit
  pub bytes_left : IsBytes rest

pub four_some : (bytes : List ℕ) (n : ℕ) (rest : List ℕ) → IsBytes bytes → four_in bytes ≡ Some (n, rest)
    → IsNumber (four_bytes n) (2 ^ 32) bytes n rest
unfolding four_in four_bytes
four_some bytes n rest fits e =
    let a = into_some (from_be_bytes w32) (bytes_in 4) bytes n rest e in
    let b = bytes_some 4 bytes a.0 rest a.1 in
    let front_fits : IsBytes a.0 = rw b.2 (IsBytes-take 4 bytes fits) in
    let back : to_be_bytes w32 n ≡ a.0 = be_bytes_4 a.0 n b.1 front_fits (sym a.2) in
    let below : from_be_bytes w32 a.0 < 2 ^ 32 =
    omega (arith, front_fits 0, front_fits 1, front_fits 2, front_fits 3) in
    record {
      spelled = b.0 ∙ ap (λ (l : List ℕ). l ++ rest) (sym back);
      below = subst (λ k. k < 2 ^ 32) a.2 below;
      bytes_left = rw b.3 (IsBytes-drop 4 bytes fits);
    }

eight_again : (n : ℕ) (rest : List ℕ) → n < 2 ^ 64 → eight_in (eight_bytes n ++ rest) ≡ Some (n, rest)
unfolding eight_in eight_bytes
eight_again n rest lt =
    into_again (from_be_bytes w64) (bytes_in 8) (to_be_bytes w64 n ++ rest) (to_be_bytes w64 n) rest
    (bytes_again 8 (to_be_bytes w64 n) rest refl)
    ∙ ap (λ (k : ℕ). Some (k, rest)) (from_be_bytes-to_be_bytes_8 n lt)

eight_some : (bytes : List ℕ) (n : ℕ) (rest : List ℕ) → IsBytes bytes → eight_in bytes ≡ Some (n, rest)
    → (bytes ≡ eight_bytes n ++ rest) × IsBytes rest
unfolding eight_in eight_bytes
eight_some bytes n rest fits e =
    let a = into_some (from_be_bytes w64) (bytes_in 8) bytes n rest e in
    let b = bytes_some 8 bytes a.0 rest a.1 in
    let front_fits : IsBytes a.0 = rw b.2 (IsBytes-take 8 bytes fits) in
    let back : to_be_bytes w64 n ≡ a.0 = be_bytes_8 a.0 n b.1 front_fits (sym a.2) in
    (b.0 ∙ ap (λ (l : List ℕ). l ++ rest) (sym back), rw b.3 (IsBytes-drop 8 bytes fits))

-- ---- members of a range

day_again : (value : ℕ) (rest : List ℕ) → IsDay value → day_in (day_bytes value ++ rest) ≡ Some (value, rest)
unfolding day_in day_bytes
day_again value rest h = made_again (within first_day last_day) four_in (four_bytes value ++ rest) value
    value rest (four_again value rest (omega (arith, h.1))) (within_again first_day last_day value h.0 h.1)

day_sound : (bytes : List ℕ) (value : ℕ) (rest : List ℕ) → IsBytes bytes → day_in bytes ≡ Some (value, rest)
    → WasRead day bytes value rest
unfolding day_in day_bytes
day_sound bytes value rest fits e =
    let a = made_some (within first_day last_day) four_in bytes value rest e in
    let n = four_some bytes a.0 rest fits a.1 in
    let w = within_some first_day last_day a.0 value a.2 in
    record { spelled = rw (← w.0) n.spelled; allowed = (w.1, w.2); bytes_left = n.bytes_left }

pub day_exact : IsExact day
day_exact = record { again = day_again; sound = day_sound }

invoice_again : (value : ℕ) (rest : List ℕ) → IsInvoiceNo value
    → invoice_in (invoice_bytes value ++ rest) ≡ Some (value, rest)
unfolding invoice_in invoice_bytes
invoice_again value rest h = made_again (within 1 4294967295) four_in (four_bytes value ++ rest) value value
    rest (four_again value rest h.1) (within_again 1 4294967295 value h.0 (omega (arith, h.1)))

invoice_sound : (bytes : List ℕ) (value : ℕ) (rest : List ℕ) → IsBytes bytes
    → invoice_in bytes ≡ Some (value, rest) → WasRead invoice bytes value rest
unfolding invoice_in invoice_bytes
invoice_sound bytes value rest fits e =
    let a = made_some (within 1 4294967295) four_in bytes value rest e in
    let n = four_some bytes a.0 rest fits a.1 in
    let w = within_some 1 4294967295 a.0 value a.2 in
    record { spelled = rw (← w.0) n.spelled; allowed = (w.1, omega (arith, w.2)); bytes_left = n.bytes_left }

pub invoice_exact : IsExact invoice
invoice_exact = record { again = invoice_again; sound = invoice_sound }

amount_again : (value : ℕ) (rest : List ℕ) → IsAmount value
    → amount_in (amount_bytes value ++ rest) ≡ Some (value, rest)
unfolding amount_in amount_bytes
amount_again value rest h = made_again (within 1 MAX_AMOUNT) eight_in (eight_bytes value ++ rest) value
    value rest (eight_again value rest (omega (arith, h.1))) (within_again 1 MAX_AMOUNT value h.0 h.1)

amount_sound : (bytes : List ℕ) (value : ℕ) (rest : List ℕ) → IsBytes bytes
    → amount_in bytes ≡ Some (value, rest) → WasRead amount bytes value rest
unfolding amount_in amount_bytes
amount_sound bytes value rest fits e =
    let a = made_some (within 1 MAX_AMOUNT) eight_in bytes value rest e in
    let n = eight_some bytes a.0 rest fits a.1 in
    let w = within_some 1 MAX_AMOUNT a.0 value a.2 in
    record { spelled = rw (← w.0) n.0; allowed = (w.1, w.2); bytes_left = n.1 }

pub amount_exact : IsExact amount
amount_exact = record { again = amount_again; sound = amount_sound }

bcd_again : (value : ℕ) (rest : List ℕ) → IsBcd value → bcd_in (bcd_bytes value ++ rest) ≡ Some (value, rest)
unfolding bcd_in bcd_bytes
bcd_again value rest h = made_again (within 1 31) byte_in (value ∷ rest) value value rest refl
    (within_again 1 31 value h.0 h.1)

bcd_sound : (bytes : List ℕ) (value : ℕ) (rest : List ℕ) → IsBytes bytes → bcd_in bytes ≡ Some (value, rest)
    → WasRead bcd bytes value rest
unfolding bcd_in bcd_bytes
bcd_sound bytes value rest fits e =
    let a = made_some (within 1 31) byte_in bytes value rest e in
    let first = byte_some bytes a.0 rest a.1 in
    let w = within_some 1 31 a.0 value a.2 in
    record {
      spelled = rw (← w.0) first;
      allowed = (w.1, w.2);
      bytes_left =
          IsBytes-rest a.0 rest (subst IsBytes first fits);
    }

pub bcd_exact : IsExact bcd
bcd_exact = record { again = bcd_again; sound = bcd_sound }

-- ---- names and currencies

name_again : (value rest : List ℕ) → IsName value → name_in (name_bytes value ++ rest) ≡ Some (value, rest)
unfolding name_in name_bytes
name_again value rest h = made_again (passed is_name) (bytes_in (length value)) (value ++ rest) value value
    rest (bytes_again (length value) value rest refl) (passed_again is_name value h)

name_sound : (bytes value rest : List ℕ) → IsBytes bytes → name_in bytes ≡ Some (value, rest)
    → WasRead name bytes value rest
unfolding name_in name_bytes
name_sound bytes value rest fits e =
    let a = chained_some byte_in (λ count. made (passed is_name) (bytes_in count)) bytes value rest e in
    let first = byte_some bytes a.0 a.1 a.2 in
    let b = made_some (passed is_name) (bytes_in a.0) a.1 value rest a.3 in
    let c = bytes_some a.0 a.1 b.0 rest b.1 in
    let p = passed_some is_name b.0 value b.2 in
    let left : IsBytes a.1 = IsBytes-rest a.0 a.1 (subst IsBytes first fits) in
    let len : length value ≡ a.0 = ap (λ (v : List ℕ). length v) (sym p.0) ∙ c.1 in
    let behind : a.1 ≡ value ++ rest = c.0 ∙ ap (λ (v : List ℕ). v ++ rest) p.0 in
    record {
      spelled = first ∙ ap (λ (l : List ℕ). a.0 ∷ l) behind
          ∙ ap (λ (n : ℕ). n ∷ (value ++ rest)) (sym len);
      allowed = p.1;
      bytes_left =
          rw c.3 (IsBytes-drop a.0 a.1 left);
    }

pub name_exact : IsExact name
name_exact = record { again = name_again; sound = name_sound }

-- a currency has three letters
three_letters : (value : List ℕ) → IsCurrency value → length value ≡ 3
three_letters value h = eqb-true (length value) 3
    (both_true (eqb (length value) 3) (list_all is_capital value) h).0

currency_again : (value rest : List ℕ) → IsCurrency value
    → currency_in (currency_bytes value ++ rest) ≡ Some (value, rest)
unfolding currency_in currency_bytes
currency_again value rest h = made_again (passed is_currency) (bytes_in 3) (value ++ rest) value value rest
    (bytes_again 3 value rest (three_letters value h)) (passed_again is_currency value h)

currency_sound : (bytes value rest : List ℕ) → IsBytes bytes → currency_in bytes ≡ Some (value, rest)
    → WasRead currency bytes value rest
unfolding currency_in currency_bytes
currency_sound bytes value rest fits e =
    let b = made_some (passed is_currency) (bytes_in 3) bytes value rest e in
    let c = bytes_some 3 bytes b.0 rest b.1 in
    let p = passed_some is_currency b.0 value b.2 in
    record {
      spelled = c.0 ∙ ap (λ (v : List ℕ). v ++ rest) p.0;
      allowed = p.1;
      bytes_left =
          rw c.3 (IsBytes-drop 3 bytes fits);
    }

pub currency_exact : IsExact currency
currency_exact = record { again = currency_again; sound = currency_sound }

-- ---- members of one byte, from a table

-- the byte of each is its place
abbrev pub IsTable : {A : Type 0} → (A → ℕ) → List A → Type 0
IsTable byte table = Holds (λ n value. byte value ≡ n) 0 table

table_some : {A : Type 0} (byte : A → ℕ) (table : List A) (bytes : List ℕ) (value : A) (rest : List ℕ)
    → IsTable byte table → IsBytes bytes
    → made (slice_get table) byte_in bytes ≡ Some (value, rest) → (bytes ≡ byte value ∷ rest) × IsBytes rest
table_some byte table bytes value rest is fits e =
    let a = made_some (slice_get table) byte_in bytes value rest e in
    let first = byte_some bytes a.0 rest a.1 in
    let place = at_place (λ n v. byte v ≡ n) 0 table a.0 value is a.2 in
    let at : byte value ≡ a.0 = omega (arith, place) in
    (rw (first, at) refl, IsBytes-rest a.0 rest (subst IsBytes first fits))

truth_again : (value : Bool) (rest : List ℕ) → Unit {0}
    → truth_in (truth_bytes value ++ rest) ≡ Some (value, rest)
unfolding truth_in truth_bytes
truth_again true rest h = refl
truth_again false rest h = refl

truth_sound : (bytes : List ℕ) (value : Bool) (rest : List ℕ) → IsBytes bytes
    → truth_in bytes ≡ Some (value, rest) → WasRead truth bytes value rest
unfolding truth_in truth_bytes
truth_sound bytes value rest fits e = let t =
    table_some truth_byte truths bytes value rest (refl, (refl, tt)) fits e in record {
      spelled =
          t.0;
      allowed = tt;
      bytes_left = t.1;
    }

pub truth_exact : IsExact truth
truth_exact = record { again = truth_again; sound = truth_sound }

period_again : (value : Period) (rest : List ℕ) → Unit {0}
    → period_in (period_bytes value ++ rest) ≡ Some (value, rest)
unfolding period_in period_bytes
period_again periods.Daily rest h = refl
period_again periods.Weekly rest h = refl
period_again periods.Biweekly rest h = refl
period_again periods.ThirtyDays rest h = refl
period_again periods.Monthly rest h = refl
period_again periods.Quarterly rest h = refl
period_again periods.Biannual rest h = refl
period_again periods.Annual rest h = refl
period_again periods.Biennial rest h = refl
period_again periods.NoBillingPeriod rest h = refl

period_sound : (bytes : List ℕ) (value : Period) (rest : List ℕ) → IsBytes bytes
    → period_in bytes ≡ Some (value, rest) → WasRead period bytes value rest
unfolding period_in period_bytes
period_sound bytes value rest fits e =
    let t = table_some period_byte all_periods bytes value rest
    (refl, (refl, (refl, (refl, (refl, (refl, (refl, (refl, (refl, (refl, tt)))))))))) fits e in
    record { spelled = t.0; allowed = tt; bytes_left = t.1 }

pub period_exact : IsExact period
period_exact = record { again = period_again; sound = period_sound }

scope_again : (value : BlockScope) (rest : List ℕ) → Unit {0}
    → scope_in (scope_bytes value ++ rest) ≡ Some (value, rest)
unfolding scope_in scope_bytes
scope_again scopes.Account rest h = refl
scope_again scopes.Bundle rest h = refl
scope_again scopes.Subscription rest h = refl

scope_sound : (bytes : List ℕ) (value : BlockScope) (rest : List ℕ) → IsBytes bytes
    → scope_in bytes ≡ Some (value, rest) → WasRead scope bytes value rest
unfolding scope_in scope_bytes
scope_sound bytes value rest fits e = let t =
    table_some scope_byte all_scopes bytes value rest (refl, (refl, (refl, tt))) fits e in record
    { spelled = t.0; allowed = tt; bytes_left = t.1 }

pub scope_exact : IsExact scope
scope_exact = record { again = scope_again; sound = scope_sound }

status_again : (value : Status) (rest : List ℕ) → Unit {0}
    → status_in (status_bytes value ++ rest) ≡ Some (value, rest)
unfolding status_in status_bytes
status_again statuses.Unknown rest h = refl
status_again statuses.Pending rest h = refl
status_again statuses.Success rest h = refl
status_again statuses.PaymentFailure rest h = refl
status_again statuses.PluginFailure rest h = refl

status_sound : (bytes : List ℕ) (value : Status) (rest : List ℕ) → IsBytes bytes
    → status_in bytes ≡ Some (value, rest) → WasRead status bytes value rest
unfolding status_in status_bytes
status_sound bytes value rest fits e = let t =
    table_some status_byte all_statuses bytes value rest (refl, (refl, (refl, (refl, (refl, tt))))) fits
    e in record { spelled = t.0; allowed = tt; bytes_left = t.1 }

pub status_exact : IsExact status
status_exact = record { again = status_again; sound = status_sound }

-- ---- flags

flags_back : (change entitlement billing : Bool)
    → flags_of (flags_byte (record { change = change; entitlement = entitlement; billing = billing })) ≡
    Some (record { change = change; entitlement = entitlement; billing = billing })
flags_back true true true = refl
flags_back true true false = refl
flags_back true false true = refl
flags_back true false false = refl
flags_back false true true = refl
flags_back false true false = refl
flags_back false false true = refl
flags_back false false false = refl

flags_byte_of : (byte : ℕ) (value : Flags) → flags_of byte ≡ Some value → flags_byte value ≡ byte
flags_byte_of zero value e = ap flags_byte (sym (some_is _ value e))
flags_byte_of (suc zero) value e = ap flags_byte (sym (some_is _ value e))
flags_byte_of (suc (suc zero)) value e = ap flags_byte (sym (some_is _ value e))
flags_byte_of (suc (suc (suc zero))) value e = ap flags_byte (sym (some_is _ value e))
flags_byte_of (suc (suc (suc (suc zero)))) value e = ap flags_byte (sym (some_is _ value e))
flags_byte_of (suc (suc (suc (suc (suc zero))))) value e = ap flags_byte (sym (some_is _ value e))
flags_byte_of (suc (suc (suc (suc (suc (suc zero)))))) value e = ap flags_byte (sym (some_is _ value e))
flags_byte_of (suc (suc (suc (suc (suc (suc (suc zero))))))) value e = ap flags_byte (sym (some_is _ value e))
flags_byte_of (suc (suc (suc (suc (suc (suc (suc (suc byte)))))))) value e =
    let g = guard_passed (ltb (suc (suc (suc (suc (suc (suc (suc (suc byte)))))))) 8) _ value e in
    absurd (omega (arith, ltb-true _ _ g.0))

flags_again : (value : Flags) (rest : List ℕ) → Unit {0}
    → flags_in (flags_bytes value ++ rest) ≡ Some (value, rest)
unfolding flags_in flags_bytes
flags_again value rest h = made_again flags_of byte_in (flags_byte value ∷ rest) (flags_byte value) value
    rest refl (flags_back value.change value.entitlement value.billing)

flags_sound : (bytes : List ℕ) (value : Flags) (rest : List ℕ) → IsBytes bytes
    → flags_in bytes ≡ Some (value, rest) → WasRead flags bytes value rest
unfolding flags_in flags_bytes
flags_sound bytes value rest fits e =
    let a = made_some flags_of byte_in bytes value rest e in
    let first = byte_some bytes a.0 rest a.1 in
    record {
      spelled = rw (first, flags_byte_of a.0 value a.2) refl;
      allowed = tt;
      bytes_left =
          IsBytes-rest a.0 rest (subst IsBytes first fits);
    }

pub flags_exact : IsExact flags
flags_exact = record { again = flags_again; sound = flags_sound }

-- ---- members of members

optional_again : {A : Type 0} (m : Member A) (exact : IsExact m) (value : Option A) (rest : List ℕ)
    → IfSome value m.allowed → optional_in m.read (optional_bytes m.spell value ++ rest) ≡ Some (value, rest)
unfolding optional_in optional_bytes truth_in
optional_again m exact None rest h = refl
optional_again m exact (Some value) rest h =
    into_again (λ v. Some v) m.read (m.spell value ++ rest) value rest (exact.again value rest h)

optional_next : {A : Type 0} (m : Member A) (exact : IsExact m) (there : Bool) (bytes : List ℕ)
    (value : Option A) (rest : List ℕ) → IsBytes bytes
    → cond there (into (λ v. Some v) m.read) (λ left. Some (None, left)) bytes ≡ Some (value, rest)
    → (truth_byte there ∷ bytes ≡ optional_bytes m.spell value ++ rest) × IfSome value m.allowed
    × IsBytes rest
unfolding optional_bytes
optional_next {A} m exact true bytes value rest fits e =
    let a = into_some (λ v. Some v) m.read bytes value rest e in
    let s = exact.sound bytes a.0 rest fits a.1 in
    let front : 1 ∷ bytes ≡ (1 ∷ m.spell a.0) ++ rest = ap (λ (l : List ℕ). 1 ∷ l) s.spelled in
    subst (λ (v : Option A). (1 ∷ bytes ≡ optional_bytes m.spell v ++ rest) × IfSome v m.allowed
    × IsBytes rest) a.2 (front, s.allowed, s.bytes_left)
optional_next {A} m exact false bytes value rest fits e =
    let p = some_is (None, bytes) (value, rest) e in
    subst (λ (q : Option A × List ℕ). (0 ∷ bytes ≡ optional_bytes m.spell q.0 ++ q.1) × IfSome q.0 m.allowed
    × IsBytes q.1) p (refl, tt, fits)

optional_sound : {A : Type 0} (m : Member A) (exact : IsExact m) (bytes : List ℕ) (value : Option A)
    (rest : List ℕ) → IsBytes bytes → optional_in m.read bytes ≡ Some (value, rest)
    → WasRead (optional m) bytes value rest
unfolding optional_in truth_bytes
optional_sound m exact bytes value rest fits e =
    let a = chained_some truth_in (λ there. cond there (into (λ v. Some v) m.read)
    (λ left. Some (None, left))) bytes value rest e in
    let t = truth_sound bytes a.0 a.1 fits a.2 in
    let o = optional_next m exact a.0 a.1 value rest t.bytes_left a.3 in
    record { spelled = t.spelled ∙ o.0; allowed = o.1; bytes_left = o.2 }

pub optional_exact : {A : Type 0} (m : Member A) → IsExact m → IsExact (optional m)
optional_exact m exact = record { again = optional_again m exact; sound = optional_sound m exact }

pub both_exact : {A B : Type 0} (m : Member A) (n : Member B) → IsExact m → IsExact n → IsExact (both m n)
both_exact {A} {B} m n p q = record {
  again = λ value rest h. rw (append_assoc (m.spell value.0) (n.spell value.1) rest)
      (chained_again m.read (λ x. into (λ y. (x, y)) n.read) (m.spell value.0 ++ (n.spell value.1 ++ rest))
      value.0 (n.spell value.1 ++ rest) value rest (p.again value.0 (n.spell value.1 ++ rest) h.0)
      (into_again (λ y. (value.0, y)) n.read (n.spell value.1 ++ rest) value.1 rest
      (q.again value.1 rest h.1)));
  sound = λ bytes value rest fits e.
      let a = chained_some m.read (λ x. into (λ y. (x, y)) n.read) bytes value rest e in
      let f = p.sound bytes a.0 a.1 fits a.2 in
      let b = into_some (λ y. (a.0, y)) n.read a.1 value rest a.3 in
      let s = q.sound a.1 b.0 rest f.bytes_left b.1 in
      let parts : bytes ≡ (m.spell a.0 ++ n.spell b.0) ++ rest =
      rw (append_assoc (m.spell a.0) (n.spell b.0) rest, ← s.spelled) f.spelled in
      let fits_pair : (both m n).allowed (a.0, b.0) = (f.allowed, s.allowed) in
      record {
        spelled = subst (λ (v : A × B). bytes ≡ (m.spell v.0 ++ n.spell v.1) ++ rest) b.2 parts;
        allowed = subst (λ (v : A × B). (both m n).allowed v) b.2 fits_pair;
        bytes_left = s.bytes_left;
      };
}
