-- What is written where no proposals are taken: a line that reads or tries is told what it asks
-- for, and any other is answered as ever.
use Rattle.std.specs.Prelude.{ℕ, List, Result, Ok}
use Rattle.command_text.specs.declared.asked.Fault.{Fault}
use Rattle.command_text.specs.declared.requests.Request.{Request}
use Rattle.command_text.specs.declared.requests.Request.TheVariants as asks
use Rattle.command_text.specs.declared.words.TheConstants.{SERVED}
use Rattle.command_text.specs.Said.{said_in}
use Rattle.exchange_core.specs.ExchangeState.{ExchangeState}
use Rattle.proposal_text.specs.Pieces.{written_reply}
use Rattle.proposal_text.specs.declared.replies.ServedReply.{ServedReply}
use Rattle.proposal_lines.specs.AllKinds.{said_reply}
use Rattle.proposal_lines.specs.ProposingState.{ProposingState}
use Rattle.proposal_lines.specs.Reads.{book_reply, positions_reply}
use Rattle.proposal_lines.specs.Trials.{trial_reply}

abbrev pub reading_reply : ExchangeState → Result Request Fault → ServedReply × ExchangeState
reading_reply exchange (Ok (asks.Book market)) = (book_reply exchange market, exchange)
reading_reply exchange (Ok (asks.Positions account market)) = (positions_reply exchange account market, exchange)
reading_reply exchange (Ok (asks.Try request)) = (trial_reply exchange request, exchange)
reading_reply exchange said = said_reply exchange said

abbrev pub reading_said : ℕ → ExchangeState → Result Request Fault → List ℕ × ExchangeState
reading_said number exchange said = written_reply number (reading_reply exchange said)

abbrev pub reading_line : ℕ → ExchangeState → List ℕ → List ℕ × ExchangeState
reading_line number exchange line = reading_said number exchange (said_in SERVED line)

-- beside what is kept of proposals
abbrev pub reading_beside : ProposingState → Result Request Fault → ServedReply × ProposingState
reading_beside state said = let now = reading_reply state.exchange said in (now.0, record state { exchange = now.1 })
