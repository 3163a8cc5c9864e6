-- What was found in a line.
use Rattle.std.specs.Prelude.{ℕ, ◌≡◌, List, Option, None, Some, option_map}
use Rattle.std.specs.Result.{result_ok}
use Rattle.form.specs.declared.orders.Batch.{Batch}
use Rattle.form.specs.Limits.{IsWithinLimits}
use Rattle.reply_print.specs.Within.{IsBatchWithin}
use Rattle.proposal_text.specs.declared.replies.ProposalReply.{ProposalReply}
use Rattle.proposal_text.specs.declared.replies.ProposalReply.TheVariants as told
use Rattle.proposal_text.specs.ReplyValues.{reply_reading}
use Rattle.book_proposals.specs.declared.books.Book.{Book}
use Rattle.book_proposals.specs.Answers.{IsBookOf, IsNoBook}

-- the reply about proposals that a line is read as
abbrev pub reply_in : List ℕ → Option ProposalReply
reply_in line = option_map (λ (read : ℕ × ProposalReply). read.1) (result_ok (reply_reading line))

-- the reply tells this book, or no orders that can be live
abbrev pub IsBookIn : ProposalReply → Option Book → Type 0
IsBookIn reply None = (market : ℕ) (batch : Batch) → reply ≡ told.Book market batch → ¬ (IsWithinLimits batch)
IsBookIn reply (Some book) = (reply ≡ told.Book book.market book.batch) × IsWithinLimits book.batch × IsBatchWithin book.batch

-- the line tells this book, or none
abbrev pub IsFound : List ℕ → Option Book → Type 0
IsFound line None = IsNoBook line
IsFound line (Some book) = IsBookOf line book.market book.batch
