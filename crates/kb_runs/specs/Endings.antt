-- How a run of the program ends: the exit status, and the last output line.
use Rattle.std.specs.Prelude.{ℕ, ◌≡◌, ◌⊎◌, List, [], ◌∷◌, ◌++◌, codes, decimal, Result, Ok, Err, refl}
use Rattle.std.specs.Fmt.{digits}
use Rattle.std.specs.Io.KnownBytes.{Appends}
use Rattle.kb_base.specs.Lines.{line_feed}
use Rattle.kb_base.specs.Stream.{Writes}
use Rattle.kb_catalog_text.specs.declared.fault.TextFault.{TextFault}
use Rattle.kb_catalog_text.specs.declared.fault.TextFault.TheVariants as text
use Rattle.kb_runs.specs.declared.run_stop.RunStop.{RunStop}
use Rattle.kb_runs.specs.declared.run_stop.RunStop.TheVariants.{Input, Output, Memory, LineTooLong}
use Rattle.kb_runs.specs.declared.run_stop.RunStop.TheVariants.{InputTooLong}
use Rattle.kb_runs.specs.Reading.{Known}
use Rattle.kb_runs.specs.declared.stop.Stop.{Stop}
use Rattle.kb_runs.specs.declared.stop.Stop.TheVariants.{Words, Run, Disk, Journal, Text, Market}
use Rattle.kb_runs.specs.declared.stop.Stop.TheVariants.{NotEmpty, Full}

-- the status of a run over lines that was stopped
abbrev pub run_status : RunStop → ℕ
run_status Input = 3
run_status Output = 4
run_status Memory = 7
run_status LineTooLong = 12
run_status InputTooLong = 13

overlong_line : run_status LineTooLong ≡ 12
overlong_line = refl

-- the status of a text that is refused: that of a run out of memory, where memory ran out while it was read
abbrev pub text_status : TextFault → ℕ
text_status text.NotToml = 8
text_status (text.Missing key) = 8
text_status (text.WrongKind key) = 8
text_status (text.Unknown key) = 8
text_status (text.Rule rule place) = 8
text_status text.Memory = 7
text_status (text.TooLong count) = 8

no_memory_to_read_a_text : text_status text.Memory ≡ run_status Memory
no_memory_to_read_a_text = refl

-- the status of what stopped the program
abbrev pub stop_status : Stop → ℕ
stop_status Words = 2
stop_status (Run stop) = run_status stop
stop_status Disk = 5
stop_status (Journal lane at) = 6
stop_status (Text fault) = text_status fault
stop_status Market = 10
stop_status (NotEmpty lane) = 11
stop_status Full = 14

no_journal : stop_status (Journal 0 8) ≡ 6
no_journal = refl

-- a last output line: the name of the program, what stopped it, and a line feed
abbrev pub line : List ℕ → List ℕ
line words = codes "billd: " ++ words ++ line_feed ∷ []

of_full : line (codes "full") ≡ codes "billd: full" ++ 10 ∷ []
of_full = refl

-- the last output line of a run over lines that was stopped; none where the output failed
abbrev pub run_last_line : RunStop → List ℕ
run_last_line Input = line (codes "input")
run_last_line Output = []
run_last_line Memory = line (codes "memory")
run_last_line LineTooLong = line (codes "line too long")
run_last_line InputTooLong = line (codes "input too long")

no_line_after_an_output_fault : run_last_line Output ≡ []
no_line_after_an_output_fault = refl

-- What is said of a text: the number of its fault, and behind it the key, the rule and the place of its first
-- offender, or how many bytes the text has.
abbrev pub text_words : TextFault → List ℕ
text_words text.NotToml = codes "text 1"
text_words (text.Missing key) = codes "text 2 " ++ key
text_words (text.WrongKind key) = codes "text 3 " ++ key
text_words (text.Unknown key) = codes "text 4 " ++ key
text_words (text.Rule rule place) = codes "text 5 " ++ decimal rule ++ codes " " ++ decimal place
text_words text.Memory = codes "memory"
text_words (text.TooLong count) = codes "text 7 " ++ decimal count

missing_key : text_words (text.Missing (codes "effective")) ≡ codes "text 2 effective"
missing_key = refl

-- the last output line of what stopped the program
abbrev pub last_line : Stop → List ℕ
last_line Words = line (codes "words")
last_line (Run stop) = run_last_line stop
last_line Disk = line (codes "disk")
last_line (Journal lane at) = line (codes "journal " ++ decimal lane ++ codes " " ++ decimal at)
last_line (Text fault) = line (text_words fault)
last_line Market = line (codes "market")
last_line (NotEmpty lane) = line (codes "not empty " ++ decimal lane)
last_line Full = line (codes "full")

no_journal_at_8 : last_line (Journal 0 8) ≡ codes "billd: journal 0 8" ++ 10 ∷ []
unfolding digits
no_journal_at_8 = refl

rule_11_at_place_1 : last_line (Text (text.Rule 11 1)) ≡ codes "billd: text 5 11 1" ++ 10 ∷ []
unfolding digits
rule_11_at_place_1 = refl

without_its_effective_date : last_line (Text (text.Missing (codes "effective")))
    ≡ codes "billd: text 2 effective" ++ 10 ∷ []
without_its_effective_date = refl

one_byte_too_long : last_line (Text (text.TooLong 60001)) ≡ codes "billd: text 7 60001" ++ 10 ∷ []
unfolding digits
one_byte_too_long = refl

no_toml : last_line (Text text.NotToml) ≡ codes "billd: text 1" ++ 10 ∷ []
no_toml = refl

no_memory_for_a_text : last_line (Text text.Memory) ≡ last_line (Run Memory)
no_memory_for_a_text = refl

first_lane_not_empty : last_line (NotEmpty 0) ≡ codes "billd: not empty 0" ++ 10 ∷ []
unfolding digits
first_lane_not_empty = refl

-- a line with numbers or a key takes memory
abbrev pub NeedsMemory : Stop → Type 0
NeedsMemory Words = ⊥
NeedsMemory (Run stop) = ⊥
NeedsMemory Disk = ⊥
NeedsMemory (Journal lane at) = Unit {0}
NeedsMemory (Text fault) = Unit {0}
NeedsMemory Market = ⊥
NeedsMemory (NotEmpty lane) = Unit {0}
NeedsMemory Full = ⊥

-- This line was written, and the status is the line's own; or the output failed behind a first part of the
-- line, and the status is 4.
abbrev pub EndsBy : List ℕ → ℕ → ℕ → Known → Known → Type 0
EndsBy line own status written written_after =
    ((status ≡ own) × Appends written written_after line)
    ⊎ ((status ≡ run_status Output)
    × Writes written written_after (λ part. (rest : List ℕ) × (part ++ rest ≡ line)))

-- the program ended with this status as what stopped it has it, in its status and its last output line
abbrev pub EndsAs : Stop → ℕ → Known → Known → Type 0
EndsAs stop status written written_after = EndsBy (last_line stop) (stop_status stop) status
    written written_after

-- A run is closed with this status. One that wasn't stopped writes nothing more. One that was stopped ends
-- as what stopped it has it, or there was no memory to make its line, and it ends as any other that ran out
-- of memory.
abbrev pub Closes : Result (Unit {0}) Stop → ℕ → Known → Known → Type 0
Closes (Ok done) status written written_after = (status ≡ 0) × (written_after ≡ written)
Closes (Err stop) status written written_after =
    EndsAs stop status written written_after
    ⊎ (NeedsMemory stop × EndsAs (Run Memory) status written written_after)
