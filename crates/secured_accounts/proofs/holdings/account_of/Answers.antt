use Rattle.std.proofs.Common.{◌<◌, ◌≤◌, List, ℕ, filter, length, map, arith, ap, sym, ◌∙◌}
use Rattle.std.proofs.lemmas.List.{take_all}
use Rattle.account_need.specs.Given.{numbered, numbered_of}
use Rattle.secured_accounts.specs.Secured.{has_some, numbered_in, with_placed}
use Rattle.secured_accounts.proofs.PartsFound.{numbers_placed, part_added}
use Rattle.secured_accounts.proofs.holdings.account_of.Goals as goal

pub loop-number-preserved : goal.loop-number-preserved
loop-number-preserved c =
    let state = with_placed c.args.exchange.now c.args.placed.now in
    let numbers = c.deref-number-items.result.now in
    let l = c.loop-number in
    let market = c.in_ok-market.market in
    let within : l.number-index < length numbers = omega (arith, c.loop-number-test.true) in
    record {
      markets = part_added (numbered_in state c.args.account) numbers l.number-index 0 (numbered l.markets.items) (numbered c.add_part.new.markets.items) (numbered_of market)
          within c.in_ok-market.ensures.part l.invariant.markets c.in_ok-add_part.ensures.markets;
      within = c.in_ok-add_part.ensures.within l.invariant.within c.in_ok-market.ensures.within;
    }

pub returns-clause-markets : goal.returns-clause-markets
returns-clause-markets c =
    let state = with_placed c.args.exchange.now c.args.placed.now in
    let numbers = c.deref-number-items.result.now in
    let l = c.loop-number in
    let end : length numbers ≤ l.number-index = omega (arith, c.loop-number-test.false) in
    l.invariant.markets
    ∙ ap (λ (ns : List ℕ). filter has_some (map (numbered_in state c.args.account) ns))
    (take_all l.number-index numbers end ∙ c.deref-number-items.ensures.value ∙ c.in_ok-numbers.ensures ∙ sym (numbers_placed c.args.exchange.now c.args.account c.args.placed.now c.requires))
