-- The house's gain of a batch, worked by hand.
use Rattle.std.specs.Prelude.{List, [], ◌∷◌, pos, negsuc, ◌≡◌}
use Rattle.exchange_core.specs.RunSteps.{outcome_of}
use Rattle.cert_check.specs.declared.outcome.Outcome.{Outcome}
use Rattle.command_text.specs.declared.command.Command.{Command}
use Rattle.command_text.specs.declared.command.Command.TheVariants.{Open, Deposit, Market, Clear}
use Rattle.exact_num.specs.Fraction.{over}
use Rattle.exchange_core.specs.ExchangeState.{empty_exchange}
use Rattle.exchange_core.specs.Step.{batch_in, step}
use Rattle.exchange_core.specs.Worked.{after, at_price, butterfly, call_at}
use Rattle.form.specs.declared.orders.Batch.{Batch}
use Rattle.form.specs.declared.orders.Side.TheVariants.{Buy, Sell}
use Rattle.frac.specs.Value.{fraction_of}
use Rattle.settlement.specs.declared.position.PaidOut.{PaidOut}
use Rattle.settlement.specs.Positions.{payouts_of}
use Rattle.exchange_lines.specs.Gain.{house_gain, house_total, paid_to_traders, premium_gains}
use Rattle.exchange_lines.specs.GainRuns.{state_by}

-- the batch of the butterfly, its outcome, and what is paid out for it at 11
abbrev pub butterfly_batch : Batch
butterfly_batch = batch_in butterfly 1

abbrev pub butterfly_outcome : Outcome
butterfly_outcome = outcome_of butterfly_batch 100

abbrev pub butterfly_payouts : List PaidOut
butterfly_payouts = payouts_of 1 (11 ∷ []) (after butterfly (Clear 1 100)).positions

-- all commands, from the first account to the settlement
abbrev pub butterfly_commands : List Command
butterfly_commands =
    Open 1 ∷ Open 2 ∷ Open 3 ∷ Deposit 1 100 ∷ Market 1 1
    ∷ call_at Buy 1 10 6 ∷ call_at Sell 2 5 8 ∷ call_at Sell 3 12 4 ∷ Clear 1 100 ∷ at_price 11 ∷ []

-- the buyer pays 6 and each seller gets 2; then the buyer is paid 1 and a seller pays 2. So the
-- house has 3, and 6/7 was told
pub record ButterflyGains : Type 0 where
  pub surplus : fraction_of butterfly_outcome.claim.surplus ≡ over (pos 6) 7
  pub premiums : premium_gains butterfly_batch.orders butterfly_outcome.fills ≡ pos 2
  pub payoffs : paid_to_traders 1 butterfly_payouts ≡ negsuc 0
  pub gain : house_gain 1 butterfly_batch butterfly_outcome butterfly_payouts ≡ pos 3
  pub entered : house_total 1 (state_by step empty_exchange butterfly_commands).entries ≡ pos 3
