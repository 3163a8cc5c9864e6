-- The book that a line tells.
use Rattle.std.proofs.Common.{◌≡◌, ℕ, List, Option, None, Some, Result, Ok, Err, option_map, refl, ap, sym, subst, ◌∙◌}
use Rattle.std.specs.Result.{result_ok}
use Rattle.std.proofs.lemmas.Option.{none-some, same_Some}
use Rattle.form.specs.declared.orders.Batch.{Batch}
use Rattle.reply_text.specs.declared.faults.LineFault.{LineFault}
use Rattle.proposal_text.specs.declared.replies.ProposalReply.{ProposalReply}
use Rattle.proposal_text.specs.declared.replies.ProposalReply.TheVariants as told
use Rattle.proposal_text.specs.ReplyValues.{IsProposalLineOf, reply_reading}
use Rattle.proposal_text.proofs.ReadExactly.{line_of, replies_read_exactly}
use Rattle.book_proposals.specs.declared.books.Book.{Book}
use Rattle.book_proposals.specs.Answers.{IsBookOf, IsNoBook}
use Rattle.book_proposals.specs.Found.{IsBookIn, IsFound, reply_in}

abbrev reply_read : Result (ℕ × ProposalReply) LineFault → Option ProposalReply
reply_read r = option_map (λ (read : ℕ × ProposalReply). read.1) (result_ok r)

-- what a line is read as is what it is the print of
pub reads : (line : List ℕ) (market : ℕ) (batch : Batch) → IsBookOf line market batch → reply_in line ≡ Some (told.Book market batch)
reads line market batch book = ap reply_read ((replies_read_exactly line book.number (told.Book market batch)).1 book.told)

by_reading : (line : List ℕ) (reply : ProposalReply) (r : Result (ℕ × ProposalReply) LineFault) → reply_reading line ≡ r → reply_read r ≡ Some reply
    → (number : ℕ) × IsProposalLineOf line number reply
by_reading line reply (Ok (number, read)) is e = (number, subst (IsProposalLineOf line number) (same_Some read reply e) (line_of line number read is))
by_reading line reply (Err fault) is e = absurd (none-some reply e)

pub told_by : (line : List ℕ) (reply : ProposalReply) → reply_in line ≡ Some reply → (number : ℕ) × IsProposalLineOf line number reply
told_by line reply e = by_reading line reply (reply_reading line) refl e

pub found_none : (line : List ℕ) → reply_in line ≡ None → IsNoBook line
found_none line none market batch book = none-some (told.Book market batch) (sym none ∙ reads line market batch book)

pub found : (line : List ℕ) (reply : ProposalReply) → reply_in line ≡ Some reply → (o : Option Book) → IsBookIn reply o → IsFound line o
found line reply is None h = λ market batch book. h market batch (same_Some reply (told.Book market batch) (sym is ∙ reads line market batch book)) book.within
found line reply is (Some book) h =
    let told_so = told_by line reply is in record { number = told_so.0; told = subst (IsProposalLineOf line told_so.0) h.0 told_so.1; within = h.1 }
