use Rattle.std.proofs.Common.{◌≡◌, ◌/◌, ◌^◌, ◌<◌, get_or, map, pos, rules, arith, ap, sym, ◌∙◌, subst, ℕ, to_z, unsigned_abs, FitsSigned}
use mir.Syntax.{w128}
use Rattle.std.proofs.lemmas.Int.{to_z_pos, to_z-of_z}
use Rattle.std.proofs.lemmas.List.{length-map}
use Rattle.arithmetic.specs.Sums.{positive_part}
use Rattle.form.specs.States.{vector_of}
use Rattle.form.proofs.Divisors.{quotient, quotient_at, size_is_part, divisor_above}
use Rattle.form.proofs.Entries.{written_more, written_all}
use Rattle.form.proofs.LowestStates.{lowest_vector, lowest_zeros, lowest_not_below, lowest_not_zero, part_fits}
use Rattle.form.proofs.primitives.lowest.Goals as goal

pub nonzero_div-entries : goal.nonzero_div-entries
nonzero_div-entries c =
    subst (λ (g : ℕ). 0 < g) (sym c.divisor_of-divisor.ensures) (divisor_above (vector_of c.args.state.now) c.args.state.now.not_all_zero)

pub loop-i-preserved : goal.loop-i-preserved
loop-i-preserved c =
    let state = c.args.state.now in
    let g = c.divisor_of-divisor.result in
    let i = c.loop-i.i in
    let x = get_or state.entries i (pos 0) in
    let fits : FitsSigned w128 (get_or state.entries i (pos 0)) = search rules in
    let size : c.unsigned_abs.result ≡ positive_part x = c.unsigned_abs.ensures.value ∙ ap unsigned_abs (to_z-of_z w128 x fits) ∙ size_is_part x (state.not_below_zero i) in
    let small : c.unsigned_abs.result / g < 2 ^ 127 = subst (λ (n : ℕ). n / g < 2 ^ 127) (sym size) (part_fits x g fits) in
    let is : to_z w128 (c.unsigned_abs.result / g) ≡ get_or (map (quotient g) state.entries) i (pos 0) =
    to_z_pos w128 (c.unsigned_abs.result / g) small ∙ ap (λ (n : ℕ). pos (n / g)) size ∙ sym (quotient_at g state.entries i) in
    written_more (map (quotient g) state.entries) _ i _ c.loop-i.invariant
    (omega (arith, length-map state.entries (quotient g), c.loop-i-test.true, state.nine_entries)) (omega (arith, length-map state.entries (quotient g), state.nine_entries)) is

pub invariant_of-result-clause-zero_past_count : goal.invariant_of-result-clause-zero_past_count
invariant_of-result-clause-zero_past_count c =
    let state = c.args.state.now in
    let g = c.divisor_of-divisor.result in
    lowest_zeros g state _ (written_all _ _ c.loop-i.i c.loop-i.invariant (omega (arith, c.loop-i-test.false, state.nine_entries)) (omega (arith, length-map state.entries (quotient g), state.nine_entries)))

pub invariant_of-result-clause-not_below_zero : goal.invariant_of-result-clause-not_below_zero
invariant_of-result-clause-not_below_zero c =
    let state = c.args.state.now in
    let g = c.divisor_of-divisor.result in
    lowest_not_below g state _ (written_all _ _ c.loop-i.i c.loop-i.invariant (omega (arith, c.loop-i-test.false, state.nine_entries)) (omega (arith, length-map state.entries (quotient g), state.nine_entries)))

pub invariant_of-result-clause-not_all_zero : goal.invariant_of-result-clause-not_all_zero
invariant_of-result-clause-not_all_zero c =
    let state = c.args.state.now in
    let g = c.divisor_of-divisor.result in
    lowest_not_zero g state _ (written_all _ _ c.loop-i.i c.loop-i.invariant (omega (arith, c.loop-i-test.false, state.nine_entries)) (omega (arith, length-map state.entries (quotient g), state.nine_entries))) c.divisor_of-divisor.ensures

pub returns : goal.returns
returns c =
    let state = c.args.state.now in
    let g = c.divisor_of-divisor.result in
    lowest_vector g state _ (written_all _ _ c.loop-i.i c.loop-i.invariant (omega (arith, c.loop-i-test.false, state.nine_entries)) (omega (arith, length-map state.entries (quotient g), state.nine_entries))) c.divisor_of-divisor.ensures
