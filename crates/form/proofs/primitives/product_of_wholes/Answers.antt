use Rattle.std.proofs.Common.{◌≡◌, to_z, of_z, unsigned_abs, ap, ◌∙◌}
use Rattle.std.proofs.lemmas.Int.{to_z-of_z}
use mir.Syntax.{w128}
use Rattle.exact_num.specs.Fraction.{Fraction, whole}
use Rattle.exact_num.specs.Fits.{mul_of}
use Rattle.exact_num.proofs.WholeNumbers.{whole_taken, whole_never_wide}
use Rattle.form.proofs.primitives.product_of_wholes.Goals as goal

pub returns-in_err-left : goal.returns-in_err-left
returns-in_err-left g c =
    let value = g.N.Exact.fraction in
    let limit = unsigned_abs g.N.Exact.LIMIT in
    let a : to_z w128 (of_z w128 c.args.a) ≡ c.args.a = to_z-of_z w128 c.args.a c.ranges.a in
    absurd (whole_never_wide value c.from_whole.result c.in_err-left.field-0.0 limit c.args.a c.requires.left (rw a at c.from_whole.ensures) c.in_err-left.was)

pub returns-in_err-right : goal.returns-in_err-right
returns-in_err-right g c =
    let value = g.N.Exact.fraction in
    let limit = unsigned_abs g.N.Exact.LIMIT in
    let b : to_z w128 (of_z w128 c.args.b) ≡ c.args.b = to_z-of_z w128 c.args.b c.ranges.b in
    absurd (whole_never_wide value c.from_whole-2.result c.in_err-right.field-0.0 limit c.args.b c.requires.right (rw b at c.from_whole-2.ensures) c.in_err-right.was)

pub returns : goal.returns
returns g c =
    let value = g.N.Exact.fraction in
    let limit = unsigned_abs g.N.Exact.LIMIT in
    let a : to_z w128 (of_z w128 c.args.a) ≡ c.args.a = to_z-of_z w128 c.args.a c.ranges.a in
    let b : to_z w128 (of_z w128 c.args.b) ≡ c.args.b = to_z-of_z w128 c.args.b c.ranges.b in
    let left = whole_taken value c.from_whole.result c.in_ok-left.left limit c.args.a c.requires.left (rw a at c.from_whole.ensures) c.in_ok-left.was in
    let right = whole_taken value c.from_whole-2.result c.in_ok-right.right limit c.args.b c.requires.right (rw b at c.from_whole-2.ensures) c.in_ok-right.was in
    c.mul.ensures ∙ ap (λ (x : Fraction). mul_of limit x (value c.in_ok-right.right)) left ∙ ap (mul_of limit (whole c.args.a)) right
