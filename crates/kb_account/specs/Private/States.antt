-- An account's parts as its book.
use Rattle.std.specs.Arc.{arc_value}
use Rattle.std.specs.FinMap.{entries}
use Rattle.kb_book.specs.Books.{BookValue}
use Rattle.kb_account.specs.declared.state.State.{State}

-- the book that is made of these parts
abbrev pub value_of : State → BookValue
value_of state = record {
  account = state.account;
  currency = state.currency;
  bcd = state.bcd;
  autopay = state.autopay;
  timeline = arc_value state.timeline;
  blocks = arc_value state.blocks;
  billed = state.billed;
  beside = state.beside;
  payments = arc_value state.payments;
  invoices = state.invoices;
  charges = (arc_value state.charges).items;
  overdue = state.overdue;
  transition = state.transition;
  commands = state.commands;
  kept = entries state.kept;
}
