use Rattle.std.proofs.Common.{◌+◌, ◌-◌, arith, [], Ok, sym, ap, ◌∙◌}
use Rattle.frac.specs.Range.{limit}
use Rattle.frac.specs.Value.{fraction_of}
use Rattle.sign_tree.specs.Verdict.{goes_on, is_nothing, tree_verdict}
use Rattle.sign_tree.specs.Left.{batch_legs}
use Rattle.sign_tree.proofs.Decided.{closed_over, enough_over, not_closed_over}
use Rattle.sign_tree.proofs.Ends.{ends_so, closes_is}
use Rattle.sign_tree.proofs.closing.closes.Goals as goal

pub returns : goal.returns
returns c =
    let batch = c.args.batch.now in
    let fills = c.args.fills.now in
    let L = c.args.liability.now in
    let tree = c.args.tree.now in
    let n = batch.underlyings + 1 - 1 in
    let walked = c.subtree.result in
    let ends = ends_so limit n (batch_legs fraction_of c.as_slice-3.result.now fills) (fraction_of L) walked in
    let closes = closes_is limit n batch.underlyings c.as_slice-3.result.now batch.orders fills (fraction_of L) c.as_slice.result.now tree.nodes c.as_slice-2.result.now tree.multipliers c.unsign.new.signs
    (goes_on (λ nodes ms. Ok (is_nothing nodes ms)) walked) (omega arith) c.as_slice-3.ensures c.as_slice.ensures c.as_slice-2.ensures c.requires.fills (omega arith) c.unsign.ensures (c.subtree.ensures.walks [] ∙ ends) in
    let is = c.verdict_of.ensures ∙ ap tree_verdict (sym closes) in
    let closed = closed_over batch fills L tree c.verdict_of.result c.requires.fills is in
    record {
      walked = is;
      closed = closed;
      enough = λ least is_closed. enough_over batch fills L tree (closed least is_closed);
      refuted = not_closed_over batch fills L tree c.verdict_of.result c.requires.fills is;
    }
