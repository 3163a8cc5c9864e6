-- Live orders are told as a book that `propose` takes, and what it writes is taken.
use Rattle.std.proofs.Common.{◌≡◌, ℕ, ◌+◌, ◌==◌, List, [], ◌∷◌, ◌++◌, Ok, refl, sym, ap, ◌∙◌, subst, inl, inr, arith}
use Rattle.std.specs.Prelude.{IfOk}
use Rattle.std.specs.Option.{option_map_or}
use Rattle.std.proofs.lemmas.List.{same_from_push}
use Rattle.std.proofs.lemmas.List.Folds.{list_any_none}
use Rattle.std.proofs.lemmas.Option.{same_Some}
use Rattle.command_text.specs.declared.requests.Request.TheVariants as asks
use Rattle.command_text.specs.declared.words.TheConstants.{SERVED}
use Rattle.command_text.specs.Said.{said_in}
use Rattle.command_text.specs.Within.{RequestIsWithin}
use Rattle.command_text.proofs.ReadWithin.{said_is_within}
use Rattle.exchange_core.specs.Step.{batch_in}
use Rattle.exchange_lines.specs.LineSteps.{InputLine}
use Rattle.form.specs.declared.orders.Batch.{Batch}
use Rattle.limits.specs.declared.TheConstants.{MAX_LINES}
use Rattle.reply_print.specs.Within.{IsLine, IsMarket}
use Rattle.reply_print.proofs.Ascii.{piece_has_no_feed}
use Rattle.proposal_text.specs.Pieces.{proposal_line, proposal_piece, served_line}
use Rattle.proposal_text.specs.declared.replies.ProposalReply.TheVariants as told
use Rattle.proposal_text.specs.declared.replies.ServedReply.TheVariants.{Told}
use Rattle.proposal_text.specs.Within.{IsProposalLineWithin}
use Rattle.proposal_text.proofs.WrittenProposals.{reply_written}
use Rattle.proposal_check.specs.declared.covers.Proposal.{Proposal}
use Rattle.proposals.specs.Judged.{IsJudgedBound}
use Rattle.proposal_lines.specs.Laws.{IsRefused}
use Rattle.proposal_lines.specs.Proposed.{proposed_reply}
use Rattle.proposal_lines.specs.Reads.{refused_by}
use Rattle.proposal_lines.specs.declared.proposed.Proposed.{Proposed}
use Rattle.secured_lines.specs.Output.{secured_line, secured_said}
use Rattle.secured_lines.specs.Laws.{state_by_lines}
use Rattle.secured_lines.specs.SecuredState.{SecuredState, empty_secured, exchange_in}
use Rattle.book_proposals.specs.Answers.{IsAnswerTo, IsBookOf, IsProposed, proposing_text, submission_for}
use Rattle.book_proposals.specs.Laws.{IsReadAs}
use Rattle.book_proposals.proofs.FoundBooks.{reads as book_reads}
use Rattle.book_proposals.proofs.ReadAsHandedIn.{proposals_are_submissions}
use Rattle.book_proposals.proofs.TakenProposals.{proposals_are_taken}
use Rattle.reply_ranges.specs.Books.{BooksAreProposedFor, BooksAreTold, IsReadAsBook, IsTakenFor, IsWholeText, TellsLive}
use Rattle.reply_ranges.proofs.Lines.{AreNumbered, input_number, inputs_counted}
use Rattle.reply_ranges.proofs.ReadAsWritten.{book_is_whole, proposing_is_whole}
use Rattle.reply_ranges.proofs.ServedLines.{empty_stands, still}
use Rattle.reply_ranges.proofs.SecuredServed.{StandsSecured, secured_answers}
use Rattle.reply_ranges.proofs.States.{batch_is_within, live_ranged}

-- ---- before a line of an input
reached : (low : ℕ) (state : SecuredState) (before later : List InputLine) (line : InputLine) → StandsSecured (low + 1) state → AreNumbered input_number low MAX_LINES (before ++ line ∷ later)
    → StandsSecured line.number (state_by_lines state before) × IsLine line.number
reached low state [] later line stands counted = let above = counted.0 in (still (low + 1) line.number state.serving.proposing (omega (arith, above)) stands, (omega (arith, above), counted.1))
reached low state (first ∷ before) later line stands counted =
    let above = counted.0 in
    let here = still (low + 1) first.number state.serving.proposing (omega (arith, above)) stands in
    reached first.number (secured_line first.number state first.bytes).1 before later line (secured_answers first.number (omega (arith, above), counted.1) state here first.bytes).1 counted.2

-- ---- what is told
module _ (number : ℕ) (is_line : IsLine number) (state : SecuredState) (stands : StandsSecured number state) (market : ℕ) (tells : TellsLive state market) where
  abbrev live : Batch
  live = batch_in (exchange_in state) market

  as_book : IsMarket market → IsReadAsBook (proposal_line number (told.Book market live)) market live
  as_book listed =
      let batch = live_ranged number (exchange_in state) stands.exchange market tells in
      let reply = told.Book market live in
      let within : IsProposalLineWithin number reply = (is_line, (listed, batch_is_within live batch, batch.within.ids_rise)) in (
        list_any_none (λ b. b == 10) (proposal_line number reply) (piece_has_no_feed 6 (proposal_piece number reply) (reply_written number reply within)),
        book_is_whole number market live,
        record { number = number; told = (within, refl); within = batch.within },
      )

  tells_book : (line : List ℕ) → said_in SERVED line ≡ Ok (asks.Book market) → (secured_line number state line).0 ≡ proposal_line number (told.Book market live) ++ 10 ∷ []
  tells_book line is =
      ap (λ said. (secured_said number state line said).0) is
      ∙ ap (λ first. served_line number (option_map_or refused_by first (Told (told.Book market live))) ++ 10 ∷ []) tells

listed_in : (line : List ℕ) (market : ℕ) → said_in SERVED line ≡ Ok (asks.Book market) → IsMarket market
listed_in line market is = subst (λ said. IfOk said RequestIsWithin) is (said_is_within SERVED line)

pub books_are_told : BooksAreTold
books_are_told input before later line market within is asks tells =
    let state = state_by_lines empty_secured before in
    let now = reached 0 empty_secured before later line empty_stands (subst (AreNumbered input_number 0 MAX_LINES) is (inputs_counted input within)) in (
      proposal_line line.number (told.Book market (batch_in (exchange_in state) market)),
      tells_book line.number now.1 state now.0 market tells line.bytes asks,
      as_book line.number now.1 state now.0 market tells (listed_in line.bytes market asks),
    )

-- ---- what is proposed for it
same_reply : (line : List ℕ) (market other : ℕ) (batch another : Batch) → IsBookOf line market batch → IsBookOf line other another → told.Book market batch ≡ told.Book other another
same_reply line market other batch another book also =
    same_Some (told.Book market batch) (told.Book other another) (sym (book_reads line market batch book) ∙ book_reads line other another also)

is_proposed : (line text : List ℕ) (market : ℕ) (batch : Batch) → IsBookOf line market batch → IsAnswerTo line text → IsProposed market batch text
is_proposed line text market batch book (inl h) =
    let same = same_reply line h.0 market h.1 batch h.2 book in
    let markets : h.0 ≡ market = cc (same) in
    let batches : h.1 ≡ batch = cc (same) in
    subst (λ b. IsProposed market b text) batches (subst (λ m. IsProposed m h.1 text) markets h.3)
is_proposed line text market batch book (inr none) = absurd (none.0 market batch book)

-- a line that is read as handing in just this
taken : (line : List ℕ) (market : ℕ) (batch : Batch) (proposal : Proposal) → IsReadAs line market (submission_for batch proposal) → IsJudgedBound batch proposal
    → IsTakenFor market batch line
taken line market batch proposal is judged number state tells same = (
  (proposed_reply state.serving.proposing (Ok proposed)).0,
  ap (λ said. (secured_said number state line said).0) is.1 ∙ ap (λ said. served_line number (proposed_reply state.serving.proposing said).0 ++ 10 ∷ []) is.2,
  not_refused,
)
  where
    proposed : Proposed
    proposed = record { market = market; submission = submission_for batch proposal }

    not_refused : ¬ (IsRefused (proposed_reply state.serving.proposing (Ok proposed)).0)
    not_refused =
        subst (λ b. IsJudgedBound b proposal → ¬ (IsRefused (proposed_reply state.serving.proposing (Ok (record { market = market; submission = submission_for b proposal }))).0)) same
        (proposals_are_taken state.serving.proposing market proposal tells) judged

pub books_are_proposed_for : BooksAreProposedFor
books_are_proposed_for line text market batch book answer =
    let proposed = is_proposed line text market batch book answer in
    let h = proposals_are_submissions line text market batch book proposed in
    let handed = submission_for batch proposed.proposal in
    let same = (same_from_push (proposing_text market handed) h.0 10 10 (sym proposed.is ∙ h.2)).0 in
    (h.0, h.2, h.3, subst IsWholeText same (proposing_is_whole market handed), taken h.0 market batch h.1 h.4 h.5)
