use Rattle.std.proofs.Common.{◌≡◌, ◌+◌, ◌<◌, length, get_or, pos, ap, sym, ◌∙◌, drop, ℕ, unsigned_abs, FitsSigned, rules, arith}
use mir.Syntax.{w128}
use Rattle.std.proofs.lemmas.Int.{to_z-of_z}
use Rattle.arithmetic.specs.Gcd.{gcd}
use Rattle.arithmetic.proofs.GcdLaws.{zero-gcd}
use Rattle.form.specs.Primitive.{common_divisor}
use Rattle.form.specs.States.{vector_of}
use Rattle.form.proofs.Divisors.{divisor_more, divisor_end}
use Rattle.form.proofs.DotSteps.{length-vector_of, get_or-vector_of}
use Rattle.form.proofs.primitives.divisor_of.Goals as goal

pub loop-i-init : goal.loop-i-init
loop-i-init c = zero-gcd (common_divisor (vector_of c.args.state.now))

pub loop-i-preserved : goal.loop-i-preserved
loop-i-preserved c =
    let state = c.args.state.now in
    let i = c.loop-i.i in
    let z = vector_of state in
    let within : i < length z = omega (arith, length-vector_of state, c.loop-i-test.true) in
    let fits : FitsSigned w128 (get_or state.entries i (pos 0)) = search rules in
    let entry : c.unsigned_abs.result ≡ get_or z i 0 = c.unsigned_abs.ensures.value ∙ ap unsigned_abs (to_z-of_z w128 (get_or state.entries i (pos 0)) fits ∙ sym (get_or-vector_of state i c.loop-i-test.true)) in
    ap (λ (g : ℕ). gcd g (common_divisor (drop (i + 1) z))) (c.gcd-divisor.ensures ∙ ap (gcd c.loop-i.divisor) entry)
    ∙ sym (divisor_more z i c.loop-i.divisor within) ∙ c.loop-i.invariant

pub returns : goal.returns
returns c =
    let z = vector_of c.args.state.now in
    sym (divisor_end z c.loop-i.i c.loop-i.divisor (omega (arith, length-vector_of c.args.state.now, c.loop-i-test.false))) ∙ c.loop-i.invariant
