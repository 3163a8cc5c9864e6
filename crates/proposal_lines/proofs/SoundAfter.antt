-- What a line is told leaves a state that an exchange which takes proposals may be in.
use Rattle.std.proofs.Common.{◌≡◌, ℕ, List, Ok, ap, sym, ◌∙◌, subst}
use Rattle.std.proofs.lemmas.Slice.Eq.{bytes_eq-Decides}
use Rattle.auction_phases.specs.Phases.{ended_by}
use Rattle.proposal_check.specs.Proposals.{proposal_bound}
use Rattle.command_text.specs.Commands.{body_of_line}
use Rattle.command_text.proofs.ReadWithin.{lines_are_within}
use Rattle.exchange_core.specs.ExchangeState.{ExchangeState}
use Rattle.exchange_core.specs.Kept.{IsKept}
use Rattle.exchange_core.specs.LineReplies.{reply_to}
use Rattle.exchange_core.specs.Step.{cleared_with}
use Rattle.exchange_core.proofs.FirstRefusal.{live_none}
use Rattle.exchange_core.proofs.Keeping.{clears_keep}
use Rattle.exchange_lines.specs.LineSteps.{InputLine}
use Rattle.exchange_lines.specs.Replies.{Answer}
use Rattle.exchange_lines.proofs.Answered.{answer_keeps}
use Rattle.form.specs.declared.orders.Batch.{Batch}
use Rattle.frac.specs.Range.{limit}
use Rattle.frac.specs.Value.{fraction_of}
use Rattle.order_book.specs.Book.{batch_of}
use Rattle.order_book.specs.Numbers.{numbers_of}
use Rattle.order_book.proofs.Accepting.{listing_live}
use Rattle.proposal_lines.specs.Answers.{BoundedAnswer, IsBesideFor, IsBoundedFor, IsRepliedFor, IsTakenFor, IsToldFor, ProposalAnswer, TakenAnswer, beside, bounded, replied, taken}
use Rattle.proposal_lines.specs.KeptByMarket.{KeptProposals, after_end, with_kept, without_kept}
use Rattle.proposal_lines.specs.Laws.{IsSound}
use Rattle.proposal_lines.specs.ProposingState.{ProposingState}
use Rattle.proposal_lines.specs.Proved.{AreProvedIn, IsProvedIn}
use Rattle.proposal_lines.proofs.Charging.{batch_keeps_others}
use Rattle.proposal_lines.proofs.Clearing.{batch_is, better_is}
use Rattle.proposal_lines.proofs.Kept.{ended_has, offered_proved, with_proved}
use Rattle.proposal_lines.proofs.Moving.{entries_moved, reply_proved}

module _ (state next : ProposingState) (line : InputLine) (sound : IsSound state) where
  -- by what the exchange becomes and what is kept after it
  becomes_sound : (exchange : ExchangeState) (kept : KeptProposals) → next.exchange ≡ exchange → next.kept ≡ kept → IsKept exchange → AreProvedIn exchange.book kept → IsSound next
  becomes_sound exchange kept same left is are = record {
    kept = subst IsKept (sym same) is;
    proved = subst (λ (e : ExchangeState). AreProvedIn e.book next.kept) (sym same) (subst (AreProvedIn exchange.book) (sym left) are);
  }

  pub replied_sound : (answer : Answer) → IsRepliedFor state line answer next → IsSound next
  replied_sound answer is =
      let said = body_of_line line.bytes in
      let after : ExchangeState = (reply_to state.exchange said).1 in
      let ended = ended_by answer.reply in
      becomes_sound after (after_end state.kept ended) is.exchange is.kept (answer_keeps state.exchange said sound.kept (lines_are_within line.bytes))
      (ended_has (IsProvedIn after.book) ended state.kept
      (entries_moved state.exchange.book after.book (λ market best proved. reply_proved state.exchange market best proved said) state.kept sound.proved))

  pub bounded_sound : (answer : BoundedAnswer) → IsBoundedFor state line answer next → IsSound next
  bounded_sound answer is =
      let market = answer.market in
      let fills = answer.better.proposal.fills in
      let better = better_is state market answer.budget sound is.accepted answer.better is.better in
      becomes_sound (cleared_with state.exchange market fills) (without_kept market state.kept) is.exchange is.kept
      (clears_keep state.exchange market fills sound.kept is.accepted better.proves.covered.covers.are_fills)
      (batch_keeps_others state.exchange.book market state.kept sound.proved)

  pub taken_sound : (answer : TakenAnswer) → IsTakenFor state line answer next → IsSound next
  taken_sound answer is =
      let market = answer.proposed.market in
      let orders = answer.proposed.submission.orders in
      let proposal = answer.proposed.submission.proposal in
      let book = state.exchange.book in
      let (m, found, unsettled) = listing_live book market (live_none book market is.accepted) in
      let own : answer.batch ≡ batch_of m = is.batch ∙ batch_is state market m found in
      let live : orders ≡ numbers_of m.live = is.orders ∙ ap (λ (b : Batch). numbers_of b.orders) own in
      let judged : proposal_bound limit (batch_of m) proposal ≡ Ok (fraction_of answer.bound) =
      subst (λ (b : Batch). proposal_bound limit b proposal ≡ Ok (fraction_of answer.bound)) own is.judged in
      let best = offered_proved book market m found sound.kept.orders.book orders ((bytes_eq-Decides orders (numbers_of m.live)).1 live) proposal answer.bound judged state.kept sound.proved in
      becomes_sound state.exchange (with_kept market answer.best state.kept) is.exchange is.kept sound.kept
      (with_proved book market answer.best (subst (IsProvedIn book market) (sym is.best) best) state.kept sound.proved)

  pub beside_sound : (number : ℕ) (text : List ℕ) → IsBesideFor state line number text next → IsSound next
  beside_sound number text is = becomes_sound state.exchange state.kept is.exchange is.kept sound.kept sound.proved

  pub told_sound : (answer : ProposalAnswer) → IsToldFor state line answer next → IsSound next
  told_sound (replied answer) is = replied_sound answer is
  told_sound (bounded answer) is = bounded_sound answer is
  told_sound (taken answer) is = taken_sound answer is
  told_sound (beside number text) is = beside_sound number text is
