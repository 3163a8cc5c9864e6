use Rattle.std.proofs.Common.{rules, ◌≡◌, ◌∙◌, ◌*◌, ap, unsigned_abs, Fits, w64, arith}
use Rattle.std.proofs.lemmas.Int.{ints, to_z-of_z}
use mir.Syntax.{w128}
use Rattle.integer_tableau.proofs.Eliminating.{undivided_signed, exact_below}
use Rattle.integer_tableau.proofs.divisor.whole_quotient.Goals as goal

pub returns-then-divisor-eq1 : goal.returns-then-divisor-eq1
returns-then-divisor-eq1 c = rw (to_z-of_z w128 c.args.number c.ranges.number) (undivided_signed c.args.number c.args.divisor.number c.if-divisor-eq1.true)

pub returns-then-number-lt0 : goal.returns-then-number-lt0
returns-then-number-lt0 c =
    let is = to_z-of_z w128 c.args.number c.ranges.number in
    let size : c.in-Some.quotient * c.args.divisor.number ≡ unsigned_abs c.args.number = c.in-Some.ensures ∙ c.unsigned_abs.ensures.value ∙ ap unsigned_abs is in
    let below = rw is at c.if-number-lt0.true in
    let fits : Fits w64 c.in-Some.quotient = search rules in
    let whole = exact_below c.args.number c.in-Some.quotient c.args.divisor.number c.requires.above below size in
    omega (arith, ints, fits) ∙ whole
