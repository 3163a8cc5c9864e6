use Rattle.std.proofs.Common.{◌≡◌, ◌^◌, ◌≤◌, ℤ, map, unsigned_abs, ap, sym, subst, ◌∙◌}
use Rattle.std.specs.Int.{int_max}
use Rattle.std.proofs.lemmas.Int.{to_z-of_z}
use mir.Syntax.{w128}
use Rattle.account_need.specs.Line.{highest_state, lowest_state}
use Rattle.account_need.specs.Prices.{bound_at, in_code, option_sum, turning_live, turning_sums, with_bends}
use Rattle.account_need.proofs.LineBounds.{with_bends-append}
use Rattle.account_need.proofs.LineFits.{bound_fits, max_small}
use Rattle.account_need.proofs.Turning.{line_bound_turns}
use Rattle.account_need.proofs.line.line_bound.Goals as goal

pub returns-clause-bound : goal.returns-clause-bound
returns-clause-bound c = λ positions.
    let p = in_code c.args.sums.now positions c.args.live.now in
    let a = c.bound-lowest.result in
    let b = c.bound-highest.result in
    let s = c.with_sums.result in
    let l = c.with_live.result in
    let xs = turning_sums (map option_sum c.args.sums.now) in
    let ys = turning_live c.args.live.now in
    let ea = to_z-of_z w128 a (bound_fits a c.bound-lowest.ensures.small) in
    let eb = to_z-of_z w128 b (bound_fits b c.bound-highest.ensures.small) in
    let em : c.max.result ≡ int_max a b = rw (ea, eb) at c.max.ensures.value in
    let small : unsigned_abs c.max.result ≤ 2 ^ 126 = subst (λ (z : ℤ). unsigned_abs z ≤ 2 ^ 126) (sym em) (max_small a b c.bound-lowest.ensures.small c.bound-highest.ensures.small) in
    let fm = to_z-of_z w128 c.max.result (bound_fits c.max.result small) in
    let fs = to_z-of_z w128 s (bound_fits s c.with_sums.ensures.small) in
    let fl = to_z-of_z w128 l (bound_fits l c.with_live.ensures.small) in
    let es : s ≡ with_bends p c.max.result xs = rw (fm) at (c.with_sums.ensures.bound positions) in
    let el : l ≡ with_bends p s ys = rw (fs) at (c.with_live.ensures.bound positions) in
    let ends : int_max a b ≡ int_max (bound_at p lowest_state) (bound_at p highest_state) = (λ i. int_max (c.bound-lowest.ensures.bound positions i) (c.bound-highest.ensures.bound positions i)) in
    rw (fl)
    (el ∙ ap (λ (z : ℤ). with_bends p z ys) (es ∙ ap (λ (z : ℤ). with_bends p z xs) (em ∙ ends))
    ∙ sym (line_bound_turns p ∙ with_bends-append p (int_max (bound_at p lowest_state) (bound_at p highest_state)) xs ys))
