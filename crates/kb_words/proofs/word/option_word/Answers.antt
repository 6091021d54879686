use Rattle.std.proofs.Common.{◌≡◌, true, false, length, lit<}
use Rattle.std.specs.List.{list_any, position_or_len, before_first, after_first}
use Rattle.kb_words.specs.Options.{is_equals}
use Rattle.kb_words.proofs.Cuts.{list_any-missing, list_any-found}
use Rattle.kb_words.proofs.word.option_word.Goals as goal

pub returns-in-None : goal.returns-in-None
returns-in-None c =
    let none : position_or_len is_equals c.args.text.now ≡ length c.args.text.now = c.in-None.ensures.byte
    (lit< tt) (λ w o found. found) in
    let missing : list_any is_equals c.args.text.now
    ≡ false = list_any-missing is_equals c.args.text.now none in
    rw missing (cc)

pub returns-in-Some : goal.returns-in-Some
returns-in-Some c =
    let text = c.args.text.now in
    let parts = c.in-Some.ensures.byte (lit< tt) (λ w o found. found) in
    let name : c.in-Some.name.now ≡ before_first is_equals text = parts.0 in
    let value : c.in-Some.value.now ≡ after_first is_equals text = parts.1 in
    let found : list_any is_equals c.args.text.now
    ≡ true = list_any-found is_equals c.args.text.now parts.2 in
    rw found (cc (name, value))
