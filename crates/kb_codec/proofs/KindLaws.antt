-- The kinds of commands: how each is spelled by its members, and that these are exact.
use Rattle.std.proofs.Common.{ℕ, ◌≡◌, List, ◌∷◌, ◌++◌, Some, None, refl, ap, subst, append_assoc}
use Rattle.std.specs.Prelude.{slice_get}
use Rattle.std.specs.Option.{option_and_then}
use Rattle.kb_codec.specs.declared.command.Command.{Command}
use Rattle.kb_codec.specs.declared.command.Command.TheVariants as kinds
use Rattle.kb_codec.specs.declared.action.Action.{Action}
use Rattle.kb_codec.specs.declared.action.Action.TheVariants as actions
use Rattle.kb_days.specs.Names.{IsName}
use Rattle.kb_codec.specs.Members.{name_bytes}
use Rattle.kb_codec.specs.CommandBytes.{spelling, kind_of, members_of}
use Rattle.kb_codec.specs.Commands.{IsCommand, IsAction}
use Rattle.kb_codec.specs.Reading.{Reader, into, byte_in}
use Rattle.kb_codec.specs.Private.Parts as parts
use Rattle.kb_codec.specs.MemberKinds.{Member, both, optional, name, currency, bcd, day, invoice, amount}
use Rattle.kb_codec.specs.MemberKinds.{truth, period, scope, status, flags, catalog, overdue}
use Rattle.kb_codec.specs.Private.Parts.{readers, command_in, acting, acting_of, acts}
use Rattle.kb_codec.proofs.Readers.{IsBytes, into_some, into_again, chained_again, Holds}
use Rattle.kb_codec.proofs.MemberLaws.{IsExact, name_exact, currency_exact, bcd_exact, day_exact}
use Rattle.kb_codec.proofs.MemberLaws.{invoice_exact, amount_exact, truth_exact, period_exact, scope_exact}
use Rattle.kb_codec.proofs.MemberLaws.{status_exact, flags_exact, optional_exact, both_exact}
use Rattle.kb_codec.proofs.TextMemberLaws.{catalog_exact, overdue_exact}

-- the commands of a kind are spelled by their members
pub record IsKind {A : Type 0} (kind : ℕ) (m : Member A) (of : A → Command) : Type 0 where
  pub spelled : (p : A) → spelling (of p) ≡ kind ∷ m.spell p
  pub fits : (p : A) → m.allowed p → IsCommand (of p)
  pub exact : IsExact m

-- what is read of a kind
pub record IsRead (kind : ℕ) (bytes : List ℕ) (command : Command) (rest : List ℕ) : Type 0 where
  pub spelled : kind ∷ bytes ≡ spelling command ++ rest
  pub allowed : IsCommand command

-- what a reader reads was spelled so, behind a kind
abbrev pub IsSound : ℕ → Reader Command → Type 0
IsSound kind read = (bytes : List ℕ) (command : Command) (rest : List ℕ) → IsBytes bytes
    → read bytes ≡ Some (command, rest) → IsRead kind bytes command rest

kind_sound : {A : Type 0} (kind : ℕ) (m : Member A) (of : A → Command) → IsKind kind m of
    → IsSound kind (into of m.read)
kind_sound {A} kind m of is bytes command rest fits e =
    let a = into_some of m.read bytes command rest e in
    let was = is.exact.sound bytes a.0 rest fits a.1 in
    let spelled : kind ∷ bytes ≡ spelling (of a.0) ++ rest =
    rw (is.spelled a.0) (ap (λ (l : List ℕ). kind ∷ l) was.spelled) in
    record {
      spelled = subst (λ (c : Command). kind ∷ bytes ≡ spelling c ++ rest) a.2 spelled;
      allowed = subst IsCommand a.2 (is.fits a.0 was.allowed);
    }

-- a command is read as it is spelled, if its kind is among the readers
kind_again : {A : Type 0} (kind : ℕ) (m : Member A) (of : A → Command) → IsKind kind m of
    → slice_get readers kind ≡ Some (into of m.read) → (p : A) (rest : List ℕ) → m.allowed p
    → command_in (spelling (of p) ++ rest) ≡ Some (of p, rest)
unfolding command_in
kind_again kind m of is at p rest h =
    let read : into of m.read (m.spell p ++ rest) ≡ Some (of p, rest) =
    into_again of m.read (m.spell p ++ rest) p rest (is.exact.again p rest h) in
    rw (is.spelled p) (chained_again byte_in (λ k left. option_and_then (λ r. r left) (slice_get readers k))
    (kind ∷ (m.spell p ++ rest)) kind (m.spell p ++ rest) (of p) rest refl (rw (at, read) refl))

catalog_text_is : IsKind 1 parts.catalog_text parts.catalog_text_of
catalog_text_is = record {
  spelled = λ p. refl;
  fits = λ p h. (h.0, h.1);
  exact = both_exact name catalog name_exact catalog_exact;
}

overdue_rules_is : IsKind 2 parts.overdue_rules parts.overdue_rules_of
overdue_rules_is = record {
  spelled = λ p. refl;
  fits = λ p h. (h.0, h.1);
  exact = both_exact name overdue name_exact overdue_exact;
}

-- the actions of a kind are spelled by their members
pub record IsActing {A : Type 0} (kind : ℕ) (m : Member A) (of : A → Action) : Type 0 where
  pub kinded : (p : A) → kind_of (of p) ≡ kind
  pub spelled : (p : A) → members_of (of p) ≡ m.spell p
  pub fits : (p : A) → m.allowed p → IsAction (of p)
  pub exact : IsExact m

-- so are their commands
acting_is : {A : Type 0} (kind : ℕ) (m : Member A) (of : A → Action) → IsActing kind m of
    → IsKind kind (acting m) (acting_of of)
acting_is kind m of is = record {
  spelled = λ p. rw (is.kinded p.1.1, is.spelled p.1.1)
      (ap (λ (l : List ℕ). kind ∷ l) (append_assoc (name_bytes p.0) (name_bytes p.1.0) (m.spell p.1.1)));
  fits = λ p h. (h.0, h.1.0, is.fits p.1.1 h.1.1);
  exact = both_exact name (both name m) name_exact (both_exact name m name_exact is.exact);
}

acts_sound : {A : Type 0} (kind : ℕ) (m : Member A) (of : A → Action) → IsActing kind m of
    → IsSound kind (acts of m)
acts_sound kind m of is = kind_sound kind (acting m) (acting_of of) (acting_is kind m of is)

acts_again : {A : Type 0} (kind : ℕ) (m : Member A) (of : A → Action) → IsActing kind m of
    → slice_get readers kind ≡ Some (acts of m) → (account key : List ℕ) (p : A) (rest : List ℕ)
    → IsName account → IsName key → m.allowed p
    → command_in (spelling (kinds.Act account key (of p)) ++ rest)
    ≡ Some (kinds.Act account key (of p), rest)
acts_again kind m of is at account key p rest named keyed allowed =
    kind_again kind (acting m) (acting_of of) (acting_is kind m of is) at (account, (key, p)) rest
    (named, (keyed, allowed))

open_account_is : IsActing 3 parts.open_account parts.open_account_of
open_account_is = record {
  kinded = λ p. refl;
  spelled = λ p. simp append_assoc refl;
  fits = λ p h. (h.0, h.1.0);
  exact = both_exact currency (both bcd truth) currency_exact (both_exact bcd truth bcd_exact truth_exact);
}

create_is : IsActing 4 parts.create parts.create_of
create_is = record {
  kinded = λ p. refl;
  spelled = λ p. simp append_assoc refl;
  fits = λ p h. (h.0, h.1.0, h.1.1.0, h.1.1.1.1.0, h.1.1.1.1.1);
  exact =
      both_exact name (both name (both name (both period (both name (optional day))))) name_exact (both_exact
      name (both name (both period (both name (optional day)))) name_exact (both_exact name (both period
      (both name (optional day))) name_exact (both_exact period (both name (optional day)) period_exact
      (both_exact name (optional day) name_exact (optional_exact day day_exact)))));
}

change_is : IsActing 5 parts.change parts.change_of
change_is = record {
  kinded = λ p. refl;
  spelled = λ p. simp append_assoc refl;
  fits = λ p h. (h.0, h.1.0, h.1.1.1.0, h.1.1.1.1);
  exact =
      both_exact name (both name (both period (both name (optional day)))) name_exact (both_exact name (both
      period (both name (optional day))) name_exact (both_exact period (both name (optional day))
      period_exact (both_exact name (optional day) name_exact (optional_exact day day_exact))));
}

cancel_is : IsActing 6 parts.cancel parts.cancel_of
cancel_is = record {
  kinded = λ p. refl;
  spelled = λ p. refl;
  fits = λ p h. (h.0, h.1);
  exact = both_exact name (optional day) name_exact (optional_exact day day_exact);
}

uncancel_is : IsActing 7 parts.uncancel parts.uncancel_of
uncancel_is = record {
  kinded = λ p. refl;
  spelled = λ p. refl;
  fits = λ p h. h;
  exact = name_exact;
}

pause_is : IsActing 8 parts.pause parts.pause_of
pause_is = record {
  kinded = λ p. refl;
  spelled = λ p. refl;
  fits = λ p h. (h.0, h.1);
  exact = both_exact name (optional day) name_exact (optional_exact day day_exact);
}

resume_is : IsActing 9 parts.resume parts.resume_of
resume_is = record {
  kinded = λ p. refl;
  spelled = λ p. refl;
  fits = λ p h. (h.0, h.1);
  exact = both_exact name (optional day) name_exact (optional_exact day day_exact);
}

block_is : IsActing 10 parts.block parts.block_of
block_is = record {
  kinded = λ p. refl;
  spelled = λ p. simp append_assoc refl;
  fits = λ p h. (h.1.0, h.1.1.0, h.1.1.1.0, h.1.1.1.1.0);
  exact =
      both_exact scope (both name (both name (both name (both (optional day) flags)))) scope_exact
      (both_exact name (both name (both name (both (optional day) flags))) name_exact (both_exact name (both
      name (both (optional day) flags)) name_exact (both_exact name (both (optional day) flags) name_exact
      (both_exact (optional day) flags (optional_exact day day_exact) flags_exact))));
}

bill_is : IsActing 11 parts.bill parts.bill_of
bill_is = record {
  kinded = λ p. refl;
  spelled = λ p. refl;
  fits = λ p h. h;
  exact = optional_exact day day_exact;
}

charge_is : IsActing 12 parts.charge parts.charge_of
charge_is = record {
  kinded = λ p. refl;
  spelled = λ p. refl;
  fits = λ p h. h;
  exact = amount_exact;
}

credit_is : IsActing 13 parts.credit parts.credit_of
credit_is = record {
  kinded = λ p. refl;
  spelled = λ p. refl;
  fits = λ p h. h;
  exact = amount_exact;
}

pay_is : IsActing 14 parts.pay parts.pay_of
pay_is = record {
  kinded = λ p. refl;
  spelled = λ p. simp append_assoc refl;
  fits = λ p h. (h.0, h.1.0, h.1.1);
  exact =
      both_exact name (both invoice (optional amount)) name_exact (both_exact invoice (optional amount)
      invoice_exact (optional_exact amount amount_exact));
}

refund_is : IsActing 15 parts.refund parts.refund_of
refund_is = record {
  kinded = λ p. refl;
  spelled = λ p. simp append_assoc refl;
  fits = λ p h. (h.0, h.1.0, h.1.1);
  exact = both_exact name (both name amount) name_exact (both_exact name amount name_exact amount_exact);
}

chargeback_is : IsActing 16 parts.chargeback parts.chargeback_of
chargeback_is = record {
  kinded = λ p. refl;
  spelled = λ p. simp append_assoc refl;
  fits = λ p h. (h.0, h.1.0, h.1.1);
  exact = both_exact name (both name amount) name_exact (both_exact name amount name_exact amount_exact);
}

autopay_is : IsActing 17 parts.autopay parts.autopay_of
autopay_is = record {
  kinded = λ p. refl;
  spelled = λ p. refl;
  fits = λ p h. tt;
  exact = truth_exact;
}

auto_pay_is : IsKind 18 parts.auto_pay parts.auto_pay_of
auto_pay_is = record {
  spelled = λ p. refl;
  fits = λ p h. (h.0, h.1);
  exact = both_exact name invoice name_exact invoice_exact;
}

settle_is : IsKind 19 parts.settle parts.settle_of
settle_is = record {
  spelled = λ p. simp append_assoc refl;
  fits = λ p h. (h.0, h.1.0);
  exact = both_exact name (both name status) name_exact (both_exact name status name_exact status_exact);
}

overdue_state_is : IsKind 20 parts.overdue_state parts.overdue_state_of
overdue_state_is = record {
  spelled = λ p. refl;
  fits = λ p h. h;
  exact = name_exact;
}

-- of kind 0 nothing is read
none_sound : IsSound 0 (λ bytes. None)
none_sound bytes command rest fits e = absurd cc

-- each reader is sound, behind the kind that is its place
pub readers_sound : Holds IsSound 0 readers
readers_sound = (
  none_sound,
  (
    kind_sound 1 parts.catalog_text parts.catalog_text_of catalog_text_is,
    (
      kind_sound 2 parts.overdue_rules parts.overdue_rules_of overdue_rules_is,
      (
        acts_sound 3 parts.open_account parts.open_account_of open_account_is,
        (
          acts_sound 4 parts.create parts.create_of create_is,
          (
            acts_sound 5 parts.change parts.change_of change_is,
            (
              acts_sound 6 parts.cancel parts.cancel_of cancel_is,
              (
                acts_sound 7 parts.uncancel parts.uncancel_of uncancel_is,
                (
                  acts_sound 8 parts.pause parts.pause_of pause_is,
                  (
                    acts_sound 9 parts.resume parts.resume_of resume_is,
                    (
                      acts_sound 10 parts.block parts.block_of block_is,
                      (
                        acts_sound 11 parts.bill parts.bill_of bill_is,
                        (
                          acts_sound 12 parts.charge parts.charge_of charge_is,
                          (
                            acts_sound 13 parts.credit parts.credit_of credit_is,
                            (
                              acts_sound 14 parts.pay parts.pay_of pay_is,
                              (
                                acts_sound 15 parts.refund parts.refund_of refund_is,
                                (
                                  acts_sound 16 parts.chargeback parts.chargeback_of chargeback_is,
                                  (
                                    acts_sound 17 parts.autopay parts.autopay_of autopay_is,
                                    (
                                      kind_sound 18 parts.auto_pay parts.auto_pay_of auto_pay_is,
                                      (
                                        kind_sound 19 parts.settle parts.settle_of settle_is,
                                        (
                                          kind_sound 20 parts.overdue_state parts.overdue_state_of
                                              overdue_state_is,
                                          tt,
                                        ),
                                      ),
                                    ),
                                  ),
                                ),
                              ),
                            ),
                          ),
                        ),
                      ),
                    ),
                  ),
                ),
              ),
            ),
          ),
        ),
      ),
    ),
  ),
)

-- each command is read as it is spelled
pub command_again : (command : Command) (rest : List ℕ) → IsCommand command
    → command_in (spelling command ++ rest) ≡ Some (command, rest)
command_again (kinds.Catalog c) rest h =
    kind_again 1 parts.catalog_text parts.catalog_text_of catalog_text_is refl (c.key, c.text) rest (h.0, h.1)
command_again (kinds.OverdueRules c) rest h =
    kind_again 2 parts.overdue_rules parts.overdue_rules_of overdue_rules_is refl (c.key, c.text) rest
    (h.0, h.1)
command_again (kinds.Act account key (actions.OpenAccount c)) rest h =
    acts_again 3 parts.open_account parts.open_account_of open_account_is refl account key
    (c.currency, (c.bcd, c.autopay)) rest h.0 h.1
    (h.2.0, (h.2.1, tt))
command_again (kinds.Act account key (actions.Create c)) rest h =
    acts_again 4 parts.create parts.create_of create_is refl account key
    (c.bundle, (c.subscription, (c.product, (c.period, (c.list, c.day))))) rest h.0 h.1
    (h.2.0, (h.2.1, (h.2.2, (tt, (h.2.3, h.2.4)))))
command_again (kinds.Act account key (actions.Change c)) rest h =
    acts_again 5 parts.change parts.change_of change_is refl account key
    (c.subscription, (c.product, (c.period, (c.list, c.day)))) rest h.0 h.1
    (h.2.0, (h.2.1, (tt, (h.2.2, h.2.3))))
command_again (kinds.Act account key (actions.Cancel c)) rest h =
    acts_again 6 parts.cancel parts.cancel_of cancel_is refl account key
    (c.subscription, c.day) rest h.0 h.1
    (h.2.0, h.2.1)
command_again (kinds.Act account key (actions.Uncancel c)) rest h =
    acts_again 7 parts.uncancel parts.uncancel_of uncancel_is refl account key c.subscription rest h.0 h.1 h.2
command_again (kinds.Act account key (actions.Pause c)) rest h =
    acts_again 8 parts.pause parts.pause_of pause_is refl account key
    (c.bundle, c.day) rest h.0 h.1
    (h.2.0, h.2.1)
command_again (kinds.Act account key (actions.Resume c)) rest h =
    acts_again 9 parts.resume parts.resume_of resume_is refl account key
    (c.bundle, c.day) rest h.0 h.1
    (h.2.0, h.2.1)
command_again (kinds.Act account key (actions.Block c)) rest h =
    acts_again 10 parts.block parts.block_of block_is refl account key
    (c.scope, (c.target, (c.service, (c.state, (c.day, c.flags))))) rest h.0 h.1
    (tt, (h.2.0, (h.2.1, (h.2.2, (h.2.3, tt)))))
command_again (kinds.Act account key (actions.Bill c)) rest h =
    acts_again 11 parts.bill parts.bill_of bill_is refl account key c.day rest h.0 h.1 h.2
command_again (kinds.Act account key (actions.Charge c)) rest h =
    acts_again 12 parts.charge parts.charge_of charge_is refl account key c.amount rest h.0 h.1 h.2
command_again (kinds.Act account key (actions.Credit c)) rest h =
    acts_again 13 parts.credit parts.credit_of credit_is refl account key c.amount rest h.0 h.1 h.2
command_again (kinds.Act account key (actions.Pay c)) rest h =
    acts_again 14 parts.pay parts.pay_of pay_is refl account key
    (c.payment, (c.invoice, c.amount)) rest h.0 h.1
    (h.2.0, (h.2.1, h.2.2))
command_again (kinds.Act account key (actions.Refund c)) rest h =
    acts_again 15 parts.refund parts.refund_of refund_is refl account key
    (c.payment, (c.of, c.amount)) rest h.0 h.1
    (h.2.0, (h.2.1, h.2.2))
command_again (kinds.Act account key (actions.Chargeback c)) rest h =
    acts_again 16 parts.chargeback parts.chargeback_of chargeback_is refl account key
    (c.payment, (c.of, c.amount)) rest h.0 h.1
    (h.2.0, (h.2.1, h.2.2))
command_again (kinds.Act account key (actions.Autopay c)) rest h =
    acts_again 17 parts.autopay parts.autopay_of autopay_is refl account key c.on rest h.0 h.1 tt
command_again (kinds.Auto c) rest h =
    kind_again 18 parts.auto_pay parts.auto_pay_of auto_pay_is refl (c.account, c.invoice) rest (h.0, h.1)
command_again (kinds.Settle c) rest h =
    kind_again 19 parts.settle parts.settle_of settle_is refl (c.account, (c.payment, c.status)) rest
    (h.0, (h.1, tt))
command_again (kinds.Overdue c) rest h =
    kind_again 20 parts.overdue_state parts.overdue_state_of overdue_state_is refl c.account rest h
