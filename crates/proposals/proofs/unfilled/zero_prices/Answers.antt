use Rattle.std.proofs.Common.{take, replicate, ap, ◌∙◌}
use Rattle.std.proofs.lemmas.List.{take-replicate}
use Rattle.proposals.proofs.NothingProposed.{point_at_zero}
use Rattle.proposals.proofs.unfilled.zero_prices.Goals as goal

pub returns : goal.returns
returns c =
    point_at_zero c.args.underlyings c.in_ok-vec.field-0.items (record { state = c.settlement_at.result; weight = c.one.result }) _ c.in_ok-vec.ensures.items c.settlement_at.ensures.vector
    (ap (λ k. take k (replicate 8 0)) c.from.ensures ∙ take-replicate c.args.underlyings 8 0 c.requires.1) c.one.ensures
