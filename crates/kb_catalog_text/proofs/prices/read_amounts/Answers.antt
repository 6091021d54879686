use Rattle.std.proofs.Common.{◌≡◌, true, Ok, ◌++◌, append-nil, sym, ap, ◌∙◌, string_bytes}
use Rattle.toml.specs.View.{view, members_view}
use Rattle.kb_money.specs.Currency.{is_currency}
use Rattle.kb_catalog_text.specs.Reads.{and_then}
use Rattle.kb_catalog_text.specs.CatalogEntries.{amounts_in}
use Rattle.kb_catalog_text.proofs.PriceSteps.{none_failing, first_failing-none, none_before, amounts_in-more}
use Rattle.kb_catalog_text.proofs.PriceSteps.{amounts_in-fault}
use Rattle.kb_catalog_text.proofs.Told.{told}
use Rattle.kb_catalog_text.proofs.prices.read_amounts.Goals as goal

pub loop-key-init : goal.loop-key-init
loop-key-init c =
    let all : c.into_iter-key-iterator.result ≡ c.args.table.now.entries =
    c.into_iter-key-iterator.ensures.into_iter_gives ∙ c.iter-key-items.ensures.rest in
    record {
      read = rw (all, c.new-prices.ensures) (none_before _);
      known = rw all (none_failing is_currency _ c.requires.currencies);
    }

pub unreachable-requires : goal.unreachable-requires
unreachable-requires c =
    let left = rw c.in-Some.ensures.steps at c.loop-key.invariant.known in
    let known = first_failing-none is_currency (string_bytes c.in-Some.key.now) (view c.in-Some.value.now)
    (members_view c.next.new.self) left in
    let currency : is_currency c.as_bytes.result.now ≡ true = rw c.as_bytes.ensures.value known.0 in
    let there = c.in-None-new.ensures.accepted.1 currency in
    absurd (cc)

pub returns-in_err-amount : goal.returns-in_err-amount
returns-in_err-amount c =
    let l = c.loop-key in
    told _ _ _ c.from_residual.ensures (λ kept.
    let is = rw c.as_str.ensures.value at (c.in_err-amount.ensures kept) in
    sym (sym (amounts_in-fault (string_bytes c.in-Some.key.now) (view c.in-Some.value.now)
    (members_view c.next.new.self) l.prices _ is)
    ∙ ap (λ entries. and_then (amounts_in (members_view entries)) (λ rest. Ok (l.prices ++ rest)))
    (sym c.in-Some.ensures.steps)
    ∙ l.invariant.read))

pub loop-key-preserved : goal.loop-key-preserved
loop-key-preserved c =
    let l = c.loop-key in
    let is = rw c.as_str.ensures.value at c.in_ok-amount.ensures in
    let left = rw c.in-Some.ensures.steps at l.invariant.known in
    let known = first_failing-none is_currency (string_bytes c.in-Some.key.now) (view c.in-Some.value.now)
    (members_view c.next.new.self) left in
    record {
      read =
          rw (c.in_ok-push.ensures.ok, c.in-Some-new.ensures.value, c.as_bytes.ensures.value)
          (sym (amounts_in-more (string_bytes c.in-Some.key.now) (view c.in-Some.value.now)
          (members_view c.next.new.self) l.prices _ is)
          ∙ ap (λ entries. and_then (amounts_in (members_view entries)) (λ rest. Ok (l.prices ++ rest)))
          (sym c.in-Some.ensures.steps)
          ∙ l.invariant.read);
      known = known.1;
    }

pub returns : goal.returns
unfolding amounts_in
returns c = sym (rw c.in-None.ensures.steps.0 at c.loop-key.invariant.read) ∙ ap Ok
    (append-nil c.loop-key.prices)
