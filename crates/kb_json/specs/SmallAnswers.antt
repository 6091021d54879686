-- Small answers, and their texts: one of each row of the format.
use Rattle.std.specs.Prelude.{◌≡◌, ⊤, pos, neg_ℤ, [], ◌∷◌, ◌++◌, codes, Some, None, refl}
use Rattle.std.specs.Fmt.{digits}
use Rattle.json.specs.Print.{print_from, escape_byte}
use Rattle.kb_days.specs.Calendar.{month_of, day_of_month, month_after, month_start, month_length}
use Rattle.kb_days.specs.Dates.{march}
use Rattle.kb_days.specs.DateText.{date_text, civil_text}
use Rattle.kb_catalog.specs.declared.words.PhaseType.TheVariants.{Evergreen}
use Rattle.kb_catalog_text.specs.declared.fault.TextFault.TheVariants as texts
use Rattle.kb_credit.specs.declared.line.Line.TheVariants as lines
use Rattle.kb_due.specs.declared.entitlement.Entitlement.TheVariants as states
use Rattle.kb_payment.specs.declared.attempt.Kind.TheVariants as kinds
use Rattle.kb_payment.specs.declared.attempt.Status.TheVariants as statuses
use Rattle.kb_book.specs.declared.refusal.Refusal.TheVariants as refusal
use Rattle.kb_book.specs.declared.reply.LaneReply.TheVariants as reply
use Rattle.kb_book.specs.declared.step.Step.TheVariants as step
use Rattle.kb_book.specs.declared.views.View.TheVariants as view
use Rattle.kb_json.specs.declared.fault.JsonFault.TheVariants as json
use Rattle.kb_json.specs.declared.fault.RequestFault.TheVariants as fault
use Rattle.kb_json.specs.declared.said.Said.TheVariants as said
use Rattle.kb_json.specs.declared.answer.TheConstants.{MEMORY_TEXT}
use Rattle.kb_json.specs.JsonTexts.{quoted}
use Rattle.kb_json.specs.Answers.{say}

-- what the examples unfold to compute
unfoldable on_answers : ⊤
unfolding print_from escape_byte digits date_text civil_text month_of day_of_month month_after month_start
    month_length
on_answers = tt

-- replies to commands
accepted_alone : say (said.Reply (reply.Accepted
    (record { command = 1; invoice = None; total = pos 0; credit = pos 0; unpaid = pos 0 })))
    ≡ quoted (codes "{'status':'ok','command':1,'invoice':null,'total':0,'credit':0,'unpaid':0}")
unfolding on_answers
accepted_alone = refl

accepted_with_invoice : say (said.Reply (reply.Accepted
    (record { command = 5; invoice = Some 2; total = neg_ℤ (pos 387); credit = pos 387; unpaid = pos 0 })))
    ≡ quoted (codes "{'status':'ok','command':5,'invoice':2,'total':-387,'credit':387,'unpaid':0}")
unfolding on_answers
accepted_with_invoice = refl

version : say (said.Reply (reply.Version 2))
    ≡ quoted (codes "{'status':'ok','version':2}")
unfolding on_answers
version = refl

overdue_states : say (said.Reply (reply.States 0))
    ≡ quoted (codes "{'status':'ok','states':0}")
unfolding on_answers
overdue_states = refl

key_reused : say (said.Reply (reply.Refused refusal.KeyReused))
    ≡ quoted (codes "{'status':'refused','number':16,'name':'KeyReused'}")
unfolding on_answers
key_reused = refl

limit_passed : say (said.Reply (reply.Refused (refusal.Limit 6 47481)))
    ≡ quoted (codes "{'status':'refused','number':23,'name':'Limit','which':6,'limit':47481}")
unfolding on_answers
limit_passed = refl

disk_fault : say (said.Reply reply.DiskFault)
    ≡ quoted (codes "{'status':'disk'}")
unfolding on_answers
disk_fault = refl

lane_stopped : say (said.Reply (reply.Stopped 7))
    ≡ quoted (codes "{'status':'stopped','count':7}")
unfolding on_answers
lane_stopped = refl

journal_full : say (said.Reply (reply.Full 3 99))
    ≡ quoted (codes "{'status':'full','commands':3,'size':99}")
unfolding on_answers
journal_full = refl

no_memory : say (said.Reply reply.NoMemory)
    ≡ quoted (codes "{'status':'memory'}")
unfolding on_answers
no_memory = refl

-- lines that are no request
bad_json : say (said.Fault (fault.Json json.Unknown))
    ≡ quoted (codes "{'status':'bad','fault':6}")
unfolding on_answers
bad_json = refl

bad_name : say (said.Fault fault.BadName)
    ≡ quoted (codes "{'status':'refused','number':1,'name':'BadName'}")
unfolding on_answers
bad_name = refl

bad_date : say (said.Fault fault.BadDate)
    ≡ quoted (codes "{'status':'refused','number':2,'name':'BadDate'}")
unfolding on_answers
bad_date = refl

text_fault : say (said.Fault (fault.Text (texts.TooLong 60001)))
    ≡ quoted (codes "{'status':'text','fault':7}")
unfolding on_answers
text_fault = refl

-- a query that is refused, and the janitor
no_account : say (said.Refused refusal.NoAccount)
    ≡ quoted (codes "{'status':'refused','number':3,'name':'NoAccount'}")
unfolding on_answers
no_account = refl

janitor_done : say (said.Janitor step.Done)
    ≡ quoted (codes "{'status':'ok'}")
unfolding on_answers
janitor_done = refl

janitor_stopped : say (said.Janitor (step.Stopped 7))
    ≡ quoted (codes "{'status':'stopped','count':7}")
unfolding on_answers
janitor_stopped = refl

-- what is shown
account_shown : say (said.View (view.Account (record {
  account = codes "a1";
  currency = codes "USD";
  billed = None;
  charged = pos 613;
  paid = pos 1000;
  credit = pos 387;
  unpaid = pos 0;
  overdue = None;
})))
    ≡ quoted (codes "{'status':'ok','account':'a1','currency':'USD','billed':null,'charged':613,'paid':1000,"
    ++ codes "'credit':387,'unpaid':0,'overdue':'CLEAR'}")
unfolding on_answers
account_shown = refl

invoice_shown : say (said.View (view.Invoice (record {
  invoice = 2;
  day = march 25;
  total = neg_ℤ (pos 387);
  balance = pos 0;
  items = record {
    item = 2;
    subscription = Some (codes "s1");
    line = lines.Repair 0 1 (march 20) (march 32) (neg_ℤ (pos 387));
  }
      ∷ record { item = 3; subscription = None; line = lines.Cba (pos 387) } ∷ [];
})))
    ≡ quoted (codes "{'status':'ok','invoice':2,'day':'2024-03-25','total':-387,'balance':0,"
    ++ codes "'items':[{'item':2,'kind':'REPAIR_ADJ','subscription':'s1','from':'2024-03-20',"
    ++ codes "'to':'2024-04-01','amount':-387,'repairs':1},{'item':3,'kind':'CBA_ADJ',"
    ++ codes "'subscription':null,'from':null,'to':null,'amount':387,'repairs':null}]}")
unfolding on_answers
invoice_shown = refl

payment_shown : say (said.View (view.Payment (record {
  payment = codes "p1";
  kind = kinds.Purchase;
  invoice = 1;
  amount = 1000;
  status = statuses.Success;
})))
    ≡ quoted (codes "{'status':'ok','payment':'p1','kind':'PURCHASE','invoice':1,'amount':1000,"
    ++ codes "'state':'SUCCESS'}")
unfolding on_answers
payment_shown = refl

subscription_shown : say (said.View (view.Subscription (record {
  subscription = codes "s1";
  bundle = codes "b1";
  day = march 31;
  state = states.Active;
  plan = Some (codes "pro-monthly");
  phase = Some Evergreen;
  charged_through = Some (march 32);
})))
    ≡ quoted (codes "{'status':'ok','subscription':'s1','bundle':'b1','day':'2024-03-31','state':'ACTIVE',"
    ++ codes "'plan':'pro-monthly','phase':'EVERGREEN','charged_through':'2024-04-01'}")
unfolding on_answers
subscription_shown = refl

-- the text of want of memory, of which no memory is taken
memory_text : MEMORY_TEXT.now ≡ say (said.Reply reply.NoMemory)
unfolding on_answers
memory_text = refl
