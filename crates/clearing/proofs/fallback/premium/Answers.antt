use Rattle.std.proofs.Common.{FitsSigned, pos, ◌-ℤ◌, sym, ap₂, ◌∙◌, arith}
use Rattle.std.proofs.lemmas.Int.{ints, to_z_pos, to_z-of_z}
use Rattle.std.specs.List.{zip}
use mir.Syntax.{w128}
use Rattle.clearing.proofs.Surplus.{premium_is, difference_small}
use Rattle.clearing.proofs.fallback.premium.Goals as goal

pub returns : goal.returns
returns c =
    let paid = c.total_on-paid in
    let earned = c.total_on-earned in
    let is_paid = to_z_pos w128 paid.result (omega (arith, paid.ensures.small)) in
    let is_earned = to_z_pos w128 earned.result (omega (arith, earned.ensures.small)) in
    let fits : FitsSigned w128 (pos paid.result -ℤ pos earned.result) = omega (arith, ints, paid.ensures.small, earned.ensures.small) in
    rw (is_paid, is_earned, to_z-of_z w128 (pos paid.result -ℤ pos earned.result) fits) record {
      premium =
          ap₂ (λ a b. pos a -ℤ pos b) paid.ensures.total earned.ensures.total
          ∙ sym (premium_is (zip c.args.orders.now c.args.fills.now));
      small = difference_small paid.result earned.result paid.ensures.small earned.ensures.small;
    }
