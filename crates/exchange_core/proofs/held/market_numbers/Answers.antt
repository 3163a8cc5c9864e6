use Rattle.std.proofs.Common.{ℕ, List, [], slice_index_or, ap, sym, ◌∙◌}
use Rattle.std.specs.BTreeSet.{insert_key}
use Rattle.std.specs.Ordering.{nat_cmp}
use Rattle.std.proofs.lemmas.List.Sums.{fold_more}
use Rattle.exchange_core.proofs.held.market_numbers.Goals as goal

pub loop-market-preserved : goal.loop-market-preserved
loop-market-preserved c =
    let l = c.loop-market in
    let listed = c.deref-market-items.result.now in
    c.in_ok-insert.ensures.keys ∙ ap (λ (keys : List ℕ). insert_key nat_cmp keys (slice_index_or listed l.market-index 0)) l.invariant
    ∙ sym (fold_more (insert_key nat_cmp) [] listed l.market-index 0 c.loop-market-test.true)
