use Rattle.std.proofs.Common.{◌≡◌, ◌+◌, ◌++◌, ◌<◌, ◌≤◌, List, map, length, get_or, None, arith, ap, sym, subst, ◌∙◌}
use Rattle.portfolio_margin.specs.Need.{Counted, first_demand_word, need_of as need_of_margins, demand_sum}
use Rattle.guarded_lines.specs.Needs.{IsDemandOf, demand_in, demands_in, need_as}
use Rattle.guarded_lines.proofs.DemandSums.{AreLeft, need_is, none_left, renamed_demands, still_left, still_none, word_is}
use Rattle.guarded_lines.proofs.needs.need_of.Goals as goal

pub loop-market-init : goal.loop-market-init
loop-market-init c =
    let state = c.args.exchange.now in
    let account = c.args.account in
    let empty = c.new-margins.ensures.items in
    record {
      left = ap (λ (ms : List Counted). renamed_demands ms ++ map (demand_in state account) c.deref-market-items.result.now) empty
          ∙ ap (map (demand_in state account)) (c.deref-market-items.ensures.value ∙ c.in_ok-markets.ensures.markets);
      none = ap (λ (ms : List Counted). first_demand_word (renamed_demands ms)) empty;
    }

pub loop-market-preserved : goal.loop-market-preserved
loop-market-preserved c =
    let state = c.args.exchange.now in
    let account = c.args.account in
    let l = c.loop-market in
    let within : l.market-index < length c.deref-market-items.result.now = omega arith in
    let counted = c.in-Ok.counted in
    let demands = subst (IsDemandOf state account (get_or c.deref-market-items.result.now l.market-index 0)) c.in-Ok.is c.in_ok-counted.ensures in
    let items = c.in_ok-push-in-Ok.ensures.items in
    record {
      left = subst (λ (ms : List Counted). AreLeft state account c.deref-market-items.result.now (demands_in state account) ms (l.market-index + 1)) (sym items)
          (still_left state account c.deref-market-items.result.now (demands_in state account) l.margins.items counted l.market-index within l.invariant.left demands.1 demands.2);
      none = subst (λ (ms : List Counted). first_demand_word (renamed_demands ms) ≡ None) (sym items) (still_none l.margins.items counted l.invariant.none demands.0);
    }

pub returns-in-Err : goal.returns-in-Err
returns-in-Err c =
    let state = c.args.exchange.now in
    let account = c.args.account in
    let l = c.loop-market in
    let within : l.market-index < length c.deref-market-items.result.now = omega arith in
    let word = c.in-Err.word in
    let demands = subst (IsDemandOf state account (get_or c.deref-market-items.result.now l.market-index 0)) c.in-Err.is c.in_ok-counted.ensures in
    word_is state account c.deref-market-items.result.now (demands_in state account) l.margins.items l.market-index word (need_as (demand_sum (demands_in state account))) within
    l.invariant.left l.invariant.none demands

pub returns : goal.returns
returns c =
    let state = c.args.exchange.now in
    let account = c.args.account in
    let l = c.loop-market in
    let past : length c.deref-market-items.result.now ≤ l.market-index = omega arith in
    c.need_as.ensures ∙ ap need_as (c.need.ensures.need ∙ ap need_of_margins c.deref.ensures.value)
    ∙ need_is l.margins.items (demands_in state account) (none_left state account c.deref-market-items.result.now (demands_in state account) l.margins.items l.market-index past l.invariant.left) l.invariant.none
