use Rattle.std.proofs.Common.{length, map, ap, ◌∙◌}
use Rattle.std.proofs.lemmas.Result.{IfOk-weaker}
use Rattle.frac.specs.Value.{fraction_of}
use Rattle.proposals.proofs.NothingProposed.{fills_of_one}
use Rattle.proposals.proofs.unfilled.no_fills.Goals as goal

pub returns : goal.returns
returns c =
    IfOk-weaker c.vec.result _ _ (λ v is. ap (map fraction_of) (is (λ y same. same)) ∙ fills_of_one (length c.args.orders.now) c.zero.result c.zero.ensures)
    c.vec.ensures.items_if_clones_equal
