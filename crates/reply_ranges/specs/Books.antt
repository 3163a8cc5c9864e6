-- What is told of a market's live orders where lines are served, and what becomes of what is
-- proposed for them.
use Rattle.std.specs.Prelude.{ℕ, ◌≡◌, Bool, List, [], ◌∷◌, ◌++◌, true, None, Ok}
use Rattle.command_text.specs.declared.requests.Request.TheVariants.{Book}
use Rattle.command_text.specs.declared.words.TheConstants.{SERVED}
use Rattle.command_text.specs.Said.{said_in}
use Rattle.exchange_core.specs.Step.{batch_in}
use Rattle.exchange_lines.specs.LineSteps.{InputLine, input_lines}
use Rattle.form.specs.declared.orders.Batch.{Batch}
use Rattle.lists.specs.Refusals.{first_of}
use Rattle.live_lines.specs.Open.{IsOneLine, line_text}
use Rattle.live_lines.specs.Serving.{IsInputWithin}
use Rattle.proposal_lines.specs.Laws.{IsRefused}
use Rattle.proposal_lines.specs.Reads.{book_refusals}
use Rattle.proposal_text.specs.Pieces.{served_line}
use Rattle.proposal_text.specs.declared.replies.ServedReply.{ServedReply}
use Rattle.secured_lines.specs.Output.{secured_line}
use Rattle.secured_lines.specs.Laws.{state_by_lines}
use Rattle.secured_lines.specs.SecuredState.{SecuredState, empty_secured, exchange_in}
use Rattle.book_proposals.specs.Answers.{IsAnswerTo, IsBookOf}
use Rattle.book_proposals.specs.Laws.{IsShortLine}

-- nothing refuses that the live orders of the market are told: it is there, and not settled
abbrev pub TellsLive : SecuredState → ℕ → Type 0
TellsLive state market = first_of (book_refusals (exchange_in state) market) ≡ None

-- nothing of the line is passed over where it is read: neither a mark at its start nor a carriage
-- return at its end
abbrev pub IsWholeText : List ℕ → Type 0
IsWholeText line = (skips : Bool) (number : ℕ) → line_text skips number line ≡ line

-- a line that `propose` takes, as it is written, as a book of these orders
abbrev pub IsReadAsBook : List ℕ → ℕ → Batch → Type 0
IsReadAsBook line market batch = IsOneLine line × IsWholeText line × IsBookOf line market batch

-- Whatever the lines of an input are, within the limits that a run keeps to which finishes: one
-- that asks for the live orders of a market is answered, where they are told, by a line that is
-- read as a book of just these
abbrev pub BooksAreTold : Type 0
BooksAreTold =
    (input : List ℕ) (before later : List InputLine) (line : InputLine) (market : ℕ) → IsInputWithin true input
    → input_lines input ≡ before ++ line ∷ later → said_in SERVED line.bytes ≡ Ok (Book market)
    → (let state = state_by_lines empty_secured before in
    TellsLive state market
    → (told : List ℕ) × ((secured_line line.number state line.bytes).0 ≡ told ++ 10 ∷ []) × IsReadAsBook told market (batch_in (exchange_in state) market))

-- wherever just these are the live orders of the market, and are told, the line is answered by no
-- refusal: what it proposes is taken
abbrev pub IsTakenFor : ℕ → Batch → List ℕ → Type 0
IsTakenFor market batch line =
    (number : ℕ) (state : SecuredState) → TellsLive state market → batch_in (exchange_in state) market ≡ batch
    → (reply : ServedReply) × ((secured_line number state line).0 ≡ served_line number reply ++ 10 ∷ []) × ¬ (IsRefused reply)

-- what is written for a book is one such line, as short as an exchange takes it
abbrev pub BooksAreProposedFor : Type 0
BooksAreProposedFor =
    (told text : List ℕ) (market : ℕ) (batch : Batch) → IsBookOf told market batch → IsAnswerTo told text
    → (line : List ℕ) × (text ≡ line ++ 10 ∷ []) × IsShortLine line × IsWholeText line × IsTakenFor market batch line
