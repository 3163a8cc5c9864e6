use Rattle.std.proofs.Common.{rules, sym, ◌∙◌}
use Rattle.book_proposals.proofs.FoundBooks.{found, found_none}
use Rattle.book_proposals.proofs.books.book_of.Goals as goal

pub returns-in_default : goal.returns-in_default
returns-in_default c = found_none c.args.line.now (search rules)

pub returns : goal.returns
returns c = found c.args.line.now c.in-Some.reply (sym c.in_ok-reply.ensures.is ∙ c.in-Some.is) c.book_in.result c.book_in.ensures
