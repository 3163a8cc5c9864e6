use Rattle.std.proofs.Common.{◌≡◌, ℕ, List, Some, None, sym, ap, ◌∙◌, subst}
use Rattle.cert_check.specs.declared.outcome.Outcome.{Outcome}
use Rattle.exchange_core.specs.ExchangeState.{ExchangeState}
use Rattle.exchange_core.specs.Step.{cleared_with}
use Rattle.order_book.specs.Numbers.{numbers_of}
use Rattle.reply_print.specs.declared.replies.Reply.TheVariants as reply
use Rattle.proposal_lines.specs.Clears.{better_than, charge_effect}
use Rattle.proposal_lines.specs.KeptByMarket.{bounded_in, without_kept}
use Rattle.proposal_lines.specs.ProposingState.{state_of}
use Rattle.proposal_lines.specs.Proved.{AreProvedIn}
use Rattle.proposal_text.specs.declared.replies.ServedReply.TheVariants.{Plain}
use Rattle.proposal_lines.proofs.Charging.{batch_keeps_others, better_fills, bounded_charged, reference_charged, taken_better, taken_none}
use Rattle.proposal_lines.proofs.Kept.{without_proved}
use Rattle.proposal_lines.proofs.clears.charge.Goals as goal

pub clear_as-requires-clause-fills : goal.clear_as-requires-clause-fills
clear_as-requires-clause-fills c =
    let market = c.args.market in
    let outcome = c.args.outcome in
    let kept = c.args.kept.now in
    let numbers : c.deref.result.now ≡ numbers_of c.args.batch.orders = c.deref.ensures.value ∙ c.in_ok-numbers.ensures ∙ ap numbers_of c.as_slice.ensures in
    better_fills c.args.exchange.now.book market c.args.batch c.requires.batch kept c.requires.proved outcome c.requires.fills c.in-Ok.better
    (ap (λ (n : List ℕ). bounded_in market n outcome kept) (sym numbers)
    ∙ taken_better (bounded_in market c.deref.result.now outcome kept) outcome c.in-Ok.better (sym c.take_bounded.ensures.bounded ∙ c.in-Ok.is))

pub returns-in_err-number-in-Ok-clause-proved : goal.returns-in_err-number-in-Ok-clause-proved
returns-in_err-number-in-Ok-clause-proved c =
    let market = c.args.market in
    let book = c.args.exchange.now.book in
    let kept = c.args.kept.now in
    subst (AreProvedIn c.clear_as.new.self.book) (sym c.take_bounded.ensures.left)
    (subst (λ (e : ExchangeState). AreProvedIn e.book (without_kept market kept)) (sym c.in_err-number-in-Ok.ensures.err) (without_proved book market kept c.requires.proved))

pub returns-in-Ok-clause-charged : goal.returns-in-Ok-clause-charged
returns-in-Ok-clause-charged c =
    let market = c.args.market in
    let outcome = c.args.outcome in
    let kept = c.args.kept.now in
    let better = c.in-Ok.better in
    let numbers : c.deref.result.now ≡ numbers_of c.args.batch.orders = c.deref.ensures.value ∙ c.in_ok-numbers.ensures ∙ ap numbers_of c.as_slice.ensures in
    let is : bounded_in market (numbers_of c.args.batch.orders) outcome kept ≡ Some better =
    ap (λ (n : List ℕ). bounded_in market n outcome kept) (sym numbers)
    ∙ taken_better (bounded_in market c.deref.result.now outcome kept) outcome better (sym c.take_bounded.ensures.bounded ∙ c.in-Ok.is) in
    bounded_charged (state_of c.args.exchange.now kept) market c.args.batch outcome c.requires.batch better (sym is)
    c.in_ok-number-in-Ok.number c.in_ok-number-in-Ok.ensures.number c.clear_as.new.self c.in_ok-number-in-Ok.ensures.cleared c.take_bounded.new.self c.take_bounded.ensures.left

pub returns-in-Ok-clause-proved : goal.returns-in-Ok-clause-proved
returns-in-Ok-clause-proved c =
    let market = c.args.market in
    let kept = c.args.kept.now in
    subst (AreProvedIn c.clear_as.new.self.book) (sym c.take_bounded.ensures.left)
    (subst (λ (e : ExchangeState). AreProvedIn e.book (without_kept market kept)) (sym c.in_ok-number-in-Ok.ensures.cleared)
    (batch_keeps_others c.args.exchange.now.book market kept c.requires.proved))

pub returns-in_err-number-in-Err-clause-proved : goal.returns-in_err-number-in-Err-clause-proved
returns-in_err-number-in-Err-clause-proved c =
    let market = c.args.market in
    let book = c.args.exchange.now.book in
    let kept = c.args.kept.now in
    subst (AreProvedIn c.clear_as-in-Err.new.self.book) (sym c.take_bounded.ensures.left)
    (subst (λ (e : ExchangeState). AreProvedIn e.book (without_kept market kept)) (sym c.in_err-number-in-Err.ensures.err) (without_proved book market kept c.requires.proved))

pub returns-clause-proved : goal.returns-clause-proved
returns-clause-proved c =
    let market = c.args.market in
    let kept = c.args.kept.now in
    subst (AreProvedIn c.clear_as-in-Err.new.self.book) (sym c.take_bounded.ensures.left)
    (subst (λ (e : ExchangeState). AreProvedIn e.book (without_kept market kept)) (sym c.in_ok-number-in-Err.ensures.cleared)
    (batch_keeps_others c.args.exchange.now.book market kept c.requires.proved))

pub returns-clause-charged : goal.returns-clause-charged
returns-clause-charged c =
    let market = c.args.market in
    let outcome = c.args.outcome in
    let kept = c.args.kept.now in
    let state = state_of c.args.exchange.now kept in
    let left = c.in-Err.outcome in
    let number = c.in_ok-number-in-Err.number in
    let after = state_of c.clear_as-in-Err.new.self c.take_bounded.new.self in
    let numbers : c.deref.result.now ≡ numbers_of c.args.batch.orders = c.deref.ensures.value ∙ c.in_ok-numbers.ensures ∙ ap numbers_of c.as_slice.ensures in
    let none = taken_none (bounded_in market c.deref.result.now outcome kept) outcome left (sym c.take_bounded.ensures.bounded ∙ c.in-Err.is) in
    let is : bounded_in market (numbers_of c.args.batch.orders) outcome kept ≡ None = ap (λ (n : List ℕ). bounded_in market n outcome kept) (sym numbers) ∙ none.0 in
    subst (λ (o : Outcome). (Plain (reply.Cleared number market c.args.batch o), after) ≡ charge_effect state market outcome (better_than state market outcome)) (sym none.1)
    (reference_charged state market c.args.batch outcome c.requires.batch (sym is) number c.in_ok-number-in-Err.ensures.number c.clear_as-in-Err.new.self
    (c.in_ok-number-in-Err.ensures.cleared ∙ ap (λ (o : Outcome). cleared_with c.args.exchange.now market o.fills) none.1) c.take_bounded.new.self c.take_bounded.ensures.left)
