use Rattle.std.proofs.Common.{rules, ◌≡◌, ◌∙◌, ◌/◌, sym, ap, unsigned_abs, pos, arith, ℕ, FitsSigned}
use Rattle.std.proofs.lemmas.Int.{to_z-of_z, to_z_pos}
use Rattle.std.proofs.Math.Nat.{div-le_self}
use mir.Syntax.{w128}
use Rattle.arithmetic.specs.Gcd.{gcd}
use Rattle.integer_tableau.proofs.Eliminating.{shared_above, shared_below, shared_with_one, undivided, undivided_signed, quotient_is}
use Rattle.integer_tableau.proofs.wide.without_common_wide.Goals as goal

pub returns-then-a-eq1-clause-a : goal.returns-then-a-eq1-clause-a
returns-then-a-eq1-clause-a c = ap pos (sym c.if-a-eq1.true ∙ undivided c.args.a _ (shared_with_one (unsigned_abs c.args.x) c.args.a c.if-a-eq1.true))

pub returns-then-a-eq1-clause-x : goal.returns-then-a-eq1-clause-x
returns-then-a-eq1-clause-x c = to_z-of_z w128 c.args.x c.ranges.x ∙ undivided_signed c.args.x _ (shared_with_one (unsigned_abs c.args.x) c.args.a c.if-a-eq1.true)

pub returns-then-shared-eq1-clause-a : goal.returns-then-shared-eq1-clause-a
returns-then-shared-eq1-clause-a c =
    let size : c.unsigned_abs.result ≡ unsigned_abs c.args.x = c.unsigned_abs.ensures.value ∙ ap unsigned_abs (to_z-of_z w128 c.args.x c.ranges.x) in
    let shared = c.common_of_wide-shared.ensures ∙ ap (λ (k : ℕ). gcd k c.args.a) size in
    let low = c.requires.below in
    to_z_pos w128 c.args.a (omega (arith, low)) ∙ ap pos (undivided c.args.a _ (sym shared ∙ c.if-shared-eq1.true))

pub returns-then-shared-eq1-clause-x : goal.returns-then-shared-eq1-clause-x
returns-then-shared-eq1-clause-x c =
    let size : c.unsigned_abs.result ≡ unsigned_abs c.args.x = c.unsigned_abs.ensures.value ∙ ap unsigned_abs (to_z-of_z w128 c.args.x c.ranges.x) in
    let shared = c.common_of_wide-shared.ensures ∙ ap (λ (k : ℕ). gcd k c.args.a) size in
    to_z-of_z w128 c.args.x c.ranges.x ∙ undivided_signed c.args.x _ (sym shared ∙ c.if-shared-eq1.true)

pub nonzero_div-result : goal.nonzero_div-result
nonzero_div-result c = shared_above _ c.args.a c.common_of_wide-shared.result c.requires.above c.common_of_wide-shared.ensures

pub wide_quotient-requires-clause-above : goal.wide_quotient-requires-clause-above
wide_quotient-requires-clause-above c = shared_above _ c.args.a c.common_of_wide-shared.result c.requires.above c.common_of_wide-shared.ensures

pub wide_quotient-requires-clause-below : goal.wide_quotient-requires-clause-below
wide_quotient-requires-clause-below c =
    let less = shared_below _ c.args.a c.common_of_wide-shared.result c.requires.above c.common_of_wide-shared.ensures in
    let low = c.requires.below in
    omega (arith, less, low)

pub returns-clause-a : goal.returns-clause-a
returns-clause-a c =
    let size : c.unsigned_abs.result ≡ unsigned_abs c.args.x = c.unsigned_abs.ensures.value ∙ ap unsigned_abs (to_z-of_z w128 c.args.x c.ranges.x) in
    let shared = c.common_of_wide-shared.ensures ∙ ap (λ (k : ℕ). gcd k c.args.a) size in
    let less = div-le_self c.args.a c.common_of_wide-shared.result in
    let low = c.requires.below in
    to_z_pos w128 (c.args.a / c.common_of_wide-shared.result) (omega (arith, less, low)) ∙ ap (λ (k : ℕ). pos (c.args.a / k)) shared

pub returns-clause-x : goal.returns-clause-x
returns-clause-x c =
    let size : c.unsigned_abs.result ≡ unsigned_abs c.args.x = c.unsigned_abs.ensures.value ∙ ap unsigned_abs (to_z-of_z w128 c.args.x c.ranges.x) in
    let fits : FitsSigned w128 c.wide_quotient.result = search rules in
    quotient_is w128 c.args.x c.wide_quotient.result c.common_of_wide-shared.result _ c.ranges.x fits c.wide_quotient.ensures (c.common_of_wide-shared.ensures ∙ ap (λ (k : ℕ). gcd k c.args.a) size)
