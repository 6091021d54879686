-- A settlement of an account that is there is new, with what its book makes of it.
use Rattle.std.proofs.Common.{◌≡◌, ℕ, List, Some, Ok, refl}
use Rattle.kb_codec.specs.declared.command.Command.{Command}
use Rattle.kb_book.specs.declared.answer.Answer.{Answer}
use Rattle.kb_book.specs.Books.{BookValue}
use Rattle.kb_book.specs.Steps.{step}
use Rattle.kb_account.specs.Issues.{IsSettlement}
use Rattle.kb_book.specs.declared.reply.LaneReply.TheVariants as replies
use Rattle.kb_machine.specs.Judged.{New}
use Rattle.kb_machine.specs.Machines.{MachineValue, judged, book_of, with_book}
use Rattle.kb_codec.specs.Senders.{account_of}

pub judged-settled : (machine : MachineValue) (today : ℕ) (command : Command) (account : List ℕ)
    (book after : BookValue) (answer : Answer) → IsSettlement command → account ≡ account_of command
    → book_of machine account ≡ Some book → step machine.texts.world book today command ≡ Ok (answer, after)
    → judged machine today command ≡ New (replies.Accepted answer) (with_book machine account after)
unfolding judged
judged-settled machine today command account book after answer settles named there stepped =
    let here = rw (named, settles.1) at there in
    let made = rw settles.1 at stepped in
    rw (named, settles.1, here, made) refl
