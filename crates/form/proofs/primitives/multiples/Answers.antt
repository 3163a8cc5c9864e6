use Rattle.std.proofs.Common.{◌≡◌, ◌+◌, ◌≤ℤ◌, List, map, drop, pos, to_z, of_z, rules, unsigned_abs, FitsSigned, arith, subst, sym, ◌∙◌}
use Rattle.std.specs.List.{All}
use Rattle.std.proofs.lemmas.Int.{to_z-of_z}
use Rattle.std.proofs.lemmas.Result.{err_from_is_err_and}
use Rattle.std.proofs.lemmas.List.{length-map}
use Rattle.std.proofs.lemmas.List.Elements.{All-head, All-drop}
use mir.Syntax.{w128}
use Rattle.exact_num.specs.Fraction.{Fraction}
use Rattle.arithmetic.proofs.Lists.{drop_map}
use Rattle.form.proofs.Multiples.{product_signs, multiples_more, multiples_stop, state_above}
use Rattle.form.proofs.primitives.multiples.Goals as goal

pub returns-in_err-mul : goal.returns-in_err-mul
returns-in_err-mul g c =
    let p = err_from_is_err_and c.from_residual.result c.from_residual.ensures.1 in
    let value = g.N.Exact.fraction in
    let here = drop_map value c.args.entries.now c.loop-i.i c.index-entries-i.result c.loop-i-test.true c.index-entries-i.is in
    rw (p.1, p.2) (sym (multiples_stop _ _ _ _ _ _ c.in_err-mul.field-0.0 c.loop-i.invariant here (sym c.in_err-mul.ensures)))

pub loop-i-preserved : goal.loop-i-preserved
loop-i-preserved g c =
    let value = g.N.Exact.fraction in
    let limit = unsigned_abs g.N.Exact.LIMIT in
    let fs = map value c.args.entries.now in
    let i = c.loop-i.i in
    let f = value c.index-entries-i.result in
    let D = value c.args.multiple in
    let p = value c.in_ok-mul.field-0 in
    let fits : FitsSigned w128 c.parts.result.0 = search rules in
    let v : to_z w128 (of_z w128 c.parts.result.0) ≡ p.numerator = to_z-of_z w128 c.parts.result.0 fits ∙ c.parts.ensures.numerator in
    let here = drop_map value c.args.entries.now i c.index-entries-i.result c.loop-i-test.true c.index-entries-i.is in
    let P : Fraction → Type 0 = λ f. pos 0 ≤ℤ f.numerator in
    let not_below = All-head P f (drop (i + 1) fs) (subst (λ (l : List Fraction). All P l) here (All-drop P i fs c.requires.direction.not_below_zero)) in
    let signs = product_signs limit f D p (g.met.N.Exact.lowest c.index-entries-i.result) (g.met.N.Exact.lowest c.args.multiple) not_below c.requires.positive (sym c.in_ok-mul.ensures) in
    rw v (multiples_more limit D fs c.loop-i.numerators i f p c.loop-i.invariant here (omega (arith, c.loop-i-test.true, c.requires.direction.few, length-map c.args.entries.now value)) (sym c.in_ok-mul.ensures) signs.0)

pub invariant_of-result-clause-zero_past_count : goal.invariant_of-result-clause-zero_past_count
invariant_of-result-clause-zero_past_count g c = λ k past. c.loop-i.invariant.zeros k (omega (arith, c.loop-i.auto.i-end))

pub invariant_of-result-clause-not_below_zero : goal.invariant_of-result-clause-not_below_zero
invariant_of-result-clause-not_below_zero g c = c.loop-i.invariant.not_below

pub invariant_of-result-clause-not_all_zero : goal.invariant_of-result-clause-not_all_zero
invariant_of-result-clause-not_all_zero g c =
    let value = g.N.Exact.fraction in
    let entries = c.args.entries.now in
    state_above _ (value c.args.multiple) value entries c.loop-i.numerators c.loop-i.i g.met.N.Exact.lowest (g.met.N.Exact.lowest c.args.multiple) c.requires.positive
    c.requires.direction c.loop-i.invariant (omega (arith, c.loop-i-test.false, c.loop-i.auto.i-end))
