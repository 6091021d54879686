use Rattle.kb_words.proofs.Lines as line
use Rattle.kb_words.proofs.options.take_word.Goals as goal

pub returns-in_ok-add-in-Whole-clause-read : goal.returns-in_ok-add-in-Whole-clause-read
returns-in_ok-add-in-Whole-clause-read c =
    λ words. rw (c.in-None.is, c.in-Whole.is, c.in_ok-add-in-Whole.ensures)
    (line.options_with-whole _ _ _ words)

pub returns-in-Opening-clause-read : goal.returns-in-Opening-clause-read
returns-in-Opening-clause-read c =
    λ words. rw (c.in-None.is, c.in-Opening.is) (line.options_with-opening _ _ words)

pub returns-in-Value-clause-refused : goal.returns-in-Value-clause-refused
returns-in-Value-clause-refused c =
    λ _ words. rw (c.in-None.is, c.in-Value.is) (line.options_with-no_option _ _ words)

pub returns-in-Other-clause-refused : goal.returns-in-Other-clause-refused
returns-in-Other-clause-refused c =
    λ _ words. rw (c.in-None.is, c.in-Other.is) (line.options_with-other _ words)

pub returns-in-Whole-word-clause-refused : goal.returns-in-Whole-word-clause-refused
returns-in-Whole-word-clause-refused c = λ _ words. rw (c.in-Some.is, c.in-Whole-word.is)
    (line.options_with-no_value _ _ _ _ words)

pub returns-in-Opening-word-clause-refused : goal.returns-in-Opening-word-clause-refused
returns-in-Opening-word-clause-refused c = λ _ words. rw (c.in-Some.is, c.in-Opening-word.is)
    (line.options_with-two_options _ _ _ words)

pub returns-in_ok-add-in-Value-word-clause-read : goal.returns-in_ok-add-in-Value-word-clause-read
returns-in_ok-add-in-Value-word-clause-read c = λ words.
    rw (c.in-Some.is, c.in-Value-word.is, c.in_ok-add-in-Value-word.ensures)
    (line.options_with-value _ _ _ words)

pub returns-in-Other-word-clause-refused : goal.returns-in-Other-word-clause-refused
returns-in-Other-word-clause-refused c = λ _ words. rw (c.in-Some.is, c.in-Other-word.is)
    (line.options_with-other_value _ _ words)
