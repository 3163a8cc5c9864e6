use Rattle.std.proofs.Common.{◌≡◌, ◌+◌, ◌<◌, ◌≤◌, Ok, Err, drop, arith, rules, ap, sym, ◌∙◌}
use Rattle.frac.specs.Range.{limit as largest}
use Rattle.account_need.specs.Account.{Numbered, need_from, portfolios}
use Rattle.account_need.specs.Given.{asked_in, numbered, numbered_of, portfolio_of}
use Rattle.account_need.proofs.Asked.{need_goes, need_passes, need_stops}
use Rattle.account_need.proofs.LineBounds.{drop_maps}
use Rattle.account_need.proofs.account.need_of.Goals as goal

pub returns-then-asked-total-clause-need : goal.returns-then-asked-total-clause-need
returns-then-asked-total-clause-need c =
    let ms = c.args.markets.now in
    let l = c.loop-market in
    let m = c.market-item.result in
    let rest = drop (l.market-index + 1) (portfolios (numbered ms)) in
    let here = drop_maps (λ (m : Numbered). m.1) numbered_of ms l.market-index m (search rules) (search rules) in
    let told : Ok (c.in-Ok.asked, c.in-Ok.later) ≡ asked_in l.spent (portfolio_of m) = search rules in
    let long : largest < l.total + c.in-Ok.asked = omega (arith, c.if-asked-total.true, l.invariant.fits) in
    sym (l.invariant.left ∙ ap (need_from l.total l.spent) here ∙ need_passes l.total l.spent (portfolio_of m) rest c.in-Ok.asked c.in-Ok.later told long)

pub returns-in-Err-clause-need : goal.returns-in-Err-clause-need
returns-in-Err-clause-need c =
    let ms = c.args.markets.now in
    let l = c.loop-market in
    let m = c.market-item.result in
    let rest = drop (l.market-index + 1) (portfolios (numbered ms)) in
    let here = drop_maps (λ (m : Numbered). m.1) numbered_of ms l.market-index m (search rules) (search rules) in
    let told : Err c.in-Err.word ≡ asked_in l.spent (portfolio_of m) = search rules in
    sym (l.invariant.left ∙ ap (need_from l.total l.spent) here ∙ need_stops l.total l.spent (portfolio_of m) rest c.in-Err.word told)

pub loop-market-preserved : goal.loop-market-preserved
loop-market-preserved c =
    let ms = c.args.markets.now in
    let l = c.loop-market in
    let m = c.market-item.result in
    let rest = drop (l.market-index + 1) (portfolios (numbered ms)) in
    let here = drop_maps (λ (m : Numbered). m.1) numbered_of ms l.market-index m (search rules) (search rules) in
    let told : Ok (c.in-Ok.asked, c.in-Ok.later) ≡ asked_in l.spent (portfolio_of m) = search rules in
    let fits : l.total + c.in-Ok.asked ≤ largest = omega (arith, c.if-asked-total.false, l.invariant.fits) in
    record {
      left = l.invariant.left ∙ ap (need_from l.total l.spent) here ∙ need_goes l.total l.spent (portfolio_of m) rest c.in-Ok.asked c.in-Ok.later told fits;
      fits = fits;
      few = search rules;
    }
