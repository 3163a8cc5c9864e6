use Rattle.reply_ranges.proofs.Books.{books_are_told}
use Rattle.reply_ranges.proofs.laws.books_are_told.Goals as goal

pub returns : goal.returns
returns c = books_are_told
