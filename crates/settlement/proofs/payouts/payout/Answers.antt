use Rattle.std.proofs.Common.{◌≡◌, ◌*◌, ◌-◌, ◌^◌, ◌≤◌, ℕ, ℤ, pos, negsuc, ◌-ℤ◌, unsigned_abs, FitsSigned, to_z, of_z, sym, ap, subst, ◌∙◌, arith}
use Rattle.std.proofs.lemmas.Int.{ints, to_z-of_z}
use mir.Syntax.{w128}
use Rattle.form.specs.Payoff.{count_sizes}
use Rattle.frac.specs.Value.{fraction_of}
use Rattle.limits.specs.declared.TheConstants.{MAX_PAYOFF}
use Rattle.settlement.proofs.Gains.{gain_fits}
use Rattle.settlement.proofs.payouts.payout.Goals as goal

small_fits : (z : ℤ) → unsigned_abs z ≤ 2 ^ 127 - 1 → FitsSigned w128 z
small_fits (pos n) le = record { sfits = omega arith }
small_fits (negsuc n) le = record { sfits = omega arith }

opposite_size : (w : ℤ) → unsigned_abs (pos 0 -ℤ w) ≡ unsigned_abs w
opposite_size w = omega (arith, ints)

pub floor_of_product-requires-clause-few : goal.floor_of_product-requires-clause-few
floor_of_product-requires-clause-few c =
    let fill = fraction_of c.args.fill.now in
    let worth = c.worth_at-worth.result in
    let same : to_z w128 (of_z w128 worth) ≡ worth = to_z-of_z w128 worth (small_fits worth c.worth_at-worth.ensures.fits) in
    let few = subst (λ (w : ℤ). unsigned_abs w ≤ count_sizes c.args.bundle.now * MAX_PAYOFF) (sym same) c.worth_at-worth.ensures.few in
    gain_fits fill.numerator fill.denominator (count_sizes c.args.bundle.now) _ c.requires.held.not_below_zero c.requires.held.counted few

pub floor_of_product-requires-in-Sell-clause-few : goal.floor_of_product-requires-in-Sell-clause-few
floor_of_product-requires-in-Sell-clause-few c =
    let fill = fraction_of c.args.fill.now in
    let worth = c.worth_at-worth.result in
    let bits = to_z w128 (of_z w128 worth) in
    let same : bits ≡ worth = to_z-of_z w128 worth (small_fits worth c.worth_at-worth.ensures.fits) in
    let size : unsigned_abs (pos 0 -ℤ bits) ≡ unsigned_abs worth = opposite_size bits ∙ ap unsigned_abs same in
    let fits = small_fits (pos 0 -ℤ bits) (subst (λ n. n ≤ 2 ^ 127 - 1) (sym size) c.worth_at-worth.ensures.fits) in
    let whole_size = ap unsigned_abs (to_z-of_z w128 (pos 0 -ℤ bits) fits) ∙ size in
    let few = subst (λ (n : ℕ). n ≤ count_sizes c.args.bundle.now * MAX_PAYOFF) (sym whole_size) c.worth_at-worth.ensures.few in
    gain_fits fill.numerator fill.denominator (count_sizes c.args.bundle.now) _ c.requires.held.not_below_zero c.requires.held.counted few
