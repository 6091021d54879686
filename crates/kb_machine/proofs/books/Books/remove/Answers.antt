use Rattle.std.proofs.Common.{◌∙◌}
use Rattle.kb_machine.proofs.NamedBooks.{removed_book}
use Rattle.kb_machine.proofs.books.Books.remove.Goals as goal

pub returns : goal.returns
returns c = λ before book none was. removed_book c.args.account.now book c.self.inside.by_name.entries
    c.remove-book.new.self.entries before c.remove-book.ensures.entries none (c.self.view_is ∙ was)
