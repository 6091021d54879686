use Rattle.std.proofs.Common.{◌≡◌, ◌∙◌, drop, [], sym}
use Rattle.std.proofs.lemmas.List.{drop_all}
use Rattle.kb_words.proofs.Lines.{options_with-start, options_with-end, options_with-cut}
use Rattle.kb_words.proofs.options.options_of.Goals as goal

pub loop-word-init : goal.loop-word-init
loop-word-init c = rw c.new-options.ensures.items (options_with-start _)

pub returns-in-None-clause-read : goal.returns-in-None-clause-read
returns-in-None-clause-read c =
    let none_left : drop c.loop-word.word-index c.args.words.now ≡ [] = drop_all _ _ c.loop-word-test.false in
    let left = rw (none_left, c.in-None.is) at c.loop-word.invariant in
    sym left ∙ options_with-end _

pub returns-in-Some-clause-refused : goal.returns-in-Some-clause-refused
returns-in-Some-clause-refused c = λ _.
    let none_left : drop c.loop-word.word-index c.args.words.now ≡ [] = drop_all _ _ c.loop-word-test.false in
    let left = rw (none_left, c.in-Some.is) at c.loop-word.invariant in
    sym left ∙ options_with-cut _ _
