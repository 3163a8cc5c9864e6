use Rattle.std.proofs.Common.{◌≡◌, ◌<◌, ◌≤◌, ◌+◌, ℕ, All, List, Ok, Err, filter, length, rules, ap, sym, subst, ◌∙◌}
use Rattle.std.proofs.lemmas.Result.{IfOk-weaker}
use Rattle.form.specs.declared.limits.TheConstants.{MAX_ORDERS}
use Rattle.settlement.specs.Positions.{IsHeldPosition}
use Rattle.settlement.specs.declared.position.Position.{Position}
use Rattle.account_need.specs.Prices.{in_code}
use Rattle.account_need.specs.Several.{Bounded, and_then, is_by_itself, owing_in, run_over, with_own}
use Rattle.account_need.specs.Account.{bound_of}
use Rattle.account_need.proofs.Entered.{IsOn, entries_fit}
use Rattle.account_need.proofs.Runs.{bound_long, bound_run, not_large}
use Rattle.account_need.proofs.account.several_bound.Goals as goal

pub owing_in-requires-clause-sums : goal.owing_in-requires-clause-sums
owing_in-requires-clause-sums c = not_large c.args.sums.now (sym c.are_large.ensures ∙ c.if-are_large.false)

pub returns-then-len-gt-MAX_ORDERS-clause-bound : goal.returns-then-len-gt-MAX_ORDERS-clause-bound
returns-then-len-gt-MAX_ORDERS-clause-bound c = λ positions.
    let long : MAX_ORDERS < length (owing_in c.args.underlyings (in_code c.args.sums.now positions c.args.live.now)) =
    subst (λ (owed : List Position). MAX_ORDERS < length owed) (c.in_ok-owed.ensures positions) (search rules) in
    sym (bound_long c.args.underlyings c.args.spent positions c.args.sums.now c.args.live.now c.requires.several c.requires.few long)

pub run_over-requires-clause-forms : goal.run_over-requires-clause-forms
run_over-requires-clause-forms c =
    let small = not_large c.args.sums.now (sym c.are_large.ensures ∙ c.if-are_large.false) in
    let fit = entries_fit c.args.underlyings 0 c.args.sums.now c.args.live.now c.requires.underlyings.0 c.requires.underlyings.1 small c.requires.sums c.requires.orders in
    subst (All (IsOn (c.args.underlyings + 1))) (sym (c.deref.ensures.value ∙ c.in_ok-owed.ensures 0)) fit.1

pub run_over-requires-clause-held : goal.run_over-requires-clause-held
run_over-requires-clause-held c =
    let small = not_large c.args.sums.now (sym c.are_large.ensures ∙ c.if-are_large.false) in
    let fit = entries_fit c.args.underlyings 0 c.args.sums.now c.args.live.now c.requires.underlyings.0 c.requires.underlyings.1 small c.requires.sums c.requires.orders in
    subst (All IsHeldPosition) (sym (c.deref.ensures.value ∙ c.in_ok-owed.ensures 0)) fit.0

pub returns-in-Ok-clause-bound : goal.returns-in-Ok-clause-bound
returns-in-Ok-clause-bound c =
    let n = c.args.underlyings in
    let spent = c.args.spent in
    let sums = c.args.sums.now in
    let live = c.args.live.now in
    let rest = filter is_by_itself live in
    IfOk-weaker c.with_own.result (λ bound. bound ≡ with_own n rest c.in-Ok.first.0 c.in-Ok.first.1) (λ bound. (positions : ℕ) → bound ≡ bound_of n spent (in_code sums positions live))
    (λ bound e positions.
    let told : Ok c.in-Ok.first ≡ run_over n spent c.deref.result.now = search rules in
    let ran : Ok c.in-Ok.first ≡ run_over n spent (owing_in n (in_code sums positions live)) = told ∙ ap (run_over n spent) (c.deref.ensures.value ∙ c.in_ok-owed.ensures positions) in
    let short : length (owing_in n (in_code sums positions live)) ≤ MAX_ORDERS = subst (λ (owed : List Position). length owed ≤ MAX_ORDERS) (c.in_ok-owed.ensures positions) (search rules) in
    e ∙ ap (λ (b : Bounded). and_then b (with_own n rest)) ran ∙ sym (bound_run n spent positions sums live c.requires.several c.requires.few (sym c.are_large.ensures ∙ c.if-are_large.false) short)) c.with_own.ensures.bound

pub returns-clause-bound : goal.returns-clause-bound
returns-clause-bound c = λ positions.
    let n = c.args.underlyings in
    let spent = c.args.spent in
    let sums = c.args.sums.now in
    let live = c.args.live.now in
    let told : Err c.in-Err.word ≡ run_over n spent c.deref.result.now = search rules in
    let ran : Err c.in-Err.word ≡ run_over n spent (owing_in n (in_code sums positions live)) = told ∙ ap (run_over n spent) (c.deref.ensures.value ∙ c.in_ok-owed.ensures positions) in
    let short : length (owing_in n (in_code sums positions live)) ≤ MAX_ORDERS = subst (λ (owed : List Position). length owed ≤ MAX_ORDERS) (c.in_ok-owed.ensures positions) (search rules) in
    ap (λ (b : Bounded). and_then b (with_own n (filter is_by_itself live))) ran ∙ sym (bound_run n spent positions sums live c.requires.several c.requires.few (sym c.are_large.ensures ∙ c.if-are_large.false) short)
