-- The members of requests: their names, and what each one's value is.
use Rattle.std.specs.Prelude.{ℕ, List, codes}
use Rattle.kb_json.specs.declared.member.Member.{Member}
use Rattle.kb_json.specs.declared.member.Member.TheVariants as member
use Rattle.kb_json.specs.declared.member.Sort.{Sort}
use Rattle.kb_json.specs.declared.member.Sort.TheVariants as sort

-- the name of a member
abbrev pub member_name : Member → List ℕ
member_name member.Today = codes "today"
member_name member.Account = codes "account"
member_name member.Key = codes "key"
member_name member.Text = codes "text"
member_name member.Currency = codes "currency"
member_name member.Bcd = codes "bcd"
member_name member.Autopay = codes "autopay"
member_name member.Bundle = codes "bundle"
member_name member.Subscription = codes "subscription"
member_name member.Product = codes "product"
member_name member.Period = codes "period"
member_name member.List = codes "list"
member_name member.Day = codes "day"
member_name member.Scope = codes "scope"
member_name member.Target = codes "target"
member_name member.Service = codes "service"
member_name member.State = codes "state"
member_name member.Change = codes "change"
member_name member.Entitlement = codes "entitlement"
member_name member.Billing = codes "billing"
member_name member.Amount = codes "amount"
member_name member.Payment = codes "payment"
member_name member.Invoice = codes "invoice"
member_name member.Of = codes "of"
member_name member.On = codes "on"

-- what a member's value is
abbrev pub sort_of : Member → Sort
sort_of member.Today = sort.Day
sort_of member.Account = sort.Name
sort_of member.Key = sort.Key
sort_of member.Text = sort.Text
sort_of member.Currency = sort.Currency
sort_of member.Bcd = sort.Bcd
sort_of member.Autopay = sort.Truth
sort_of member.Bundle = sort.Name
sort_of member.Subscription = sort.Name
sort_of member.Product = sort.Name
sort_of member.Period = sort.Period
sort_of member.List = sort.Name
sort_of member.Day = sort.Day
sort_of member.Scope = sort.Scope
sort_of member.Target = sort.Name
sort_of member.Service = sort.Name
sort_of member.State = sort.Name
sort_of member.Change = sort.Truth
sort_of member.Entitlement = sort.Truth
sort_of member.Billing = sort.Truth
sort_of member.Amount = sort.Amount
sort_of member.Payment = sort.Name
sort_of member.Invoice = sort.Invoice
sort_of member.Of = sort.Name
sort_of member.On = sort.Truth
