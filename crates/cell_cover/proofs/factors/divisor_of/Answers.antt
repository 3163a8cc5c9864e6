use Rattle.std.proofs.Common.{◌≡◌, ◌+◌, ◌<◌, length, map, get_or, pos, ap, sym, ◌∙◌, drop, ℕ, FitsSigned, rules, arith}
use Rattle.std.specs.Prelude.{unsigned_abs}
use mir.Syntax.{w64}
use Rattle.std.proofs.lemmas.Int.{to_z-of_z}
use Rattle.arithmetic.specs.Gcd.{gcd}
use Rattle.arithmetic.proofs.GcdLaws.{zero-gcd}
use Rattle.form.specs.Payoff.{option_of}
use Rattle.form.specs.Primitive.{common_divisor}
use Rattle.form.proofs.Divisors.{divisor_more, divisor_end}
use Rattle.cell_cover.proofs.FormEntries.{sizes_long, size_at}
use Rattle.cell_cover.proofs.factors.divisor_of.Goals as goal

pub loop-i-init : goal.loop-i-init
loop-i-init c = zero-gcd (common_divisor (map unsigned_abs (option_of c.args.form.now)))

pub loop-i-preserved : goal.loop-i-preserved
loop-i-preserved c =
    let form = c.args.form.now in
    let i = c.loop-i.i in
    let z = map unsigned_abs (option_of form) in
    let within : i < length z = omega (arith, sizes_long form, c.loop-i-test.true) in
    let fits : FitsSigned w64 (get_or form.entries i (pos 0)) = search rules in
    let entry : c.unsigned_abs.result ≡ get_or z i 0 = c.unsigned_abs.ensures.value ∙ ap unsigned_abs (to_z-of_z w64 (get_or form.entries i (pos 0)) fits) ∙ sym (size_at form i c.loop-i-test.true) in
    ap (λ (g : ℕ). gcd g (common_divisor (drop (i + 1) z))) (c.gcd_of_short-divisor.ensures ∙ ap (gcd c.loop-i.divisor) entry)
    ∙ sym (divisor_more z i c.loop-i.divisor within) ∙ c.loop-i.invariant

pub returns : goal.returns
returns c =
    let z = map unsigned_abs (option_of c.args.form.now) in
    sym (divisor_end z c.loop-i.i c.loop-i.divisor (omega (arith, sizes_long c.args.form.now, c.loop-i-test.false))) ∙ c.loop-i.invariant
