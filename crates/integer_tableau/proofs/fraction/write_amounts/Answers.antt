use Rattle.std.proofs.Common.{◌<◌, ◌∙◌, sym, ap, arith, length, map, pos, FitsSigned, w64}
use Rattle.std.proofs.lemmas.Int.{to_z-of_z, fits_signed_from_abs}
use Rattle.std.proofs.lemmas.List.{length-set, length-map, get_or-map}
use Rattle.exact_num.specs.CommonDenominator.{amount_over, signed_amounts_over}
use Rattle.simplex_run.specs.Places.{fraction_zero}
use Rattle.fraction_tableau.proofs.EntrySteps.{at-map}
use Rattle.integer_tableau.proofs.Numbers.{written_more}
use Rattle.integer_tableau.proofs.Turned.{sizes_more}
use Rattle.run_equivalence.specs.IntegerRows.{widest}
use Rattle.integer_tableau.proofs.fraction.write_amounts.Goals as goal

pub loop-j-preserved : goal.loop-j-preserved
loop-j-preserved g c =
    let f = g.N.Exact.fraction in
    let j = c.loop-j.j in
    let d = c.args.denominator in
    let n = c.in-Some.number in
    let told = c.in-Some.ensures in
    let small = told.1 in
    let fn : FitsSigned w64 n = fits_signed_from_abs w64 n (omega (arith, small)) in
    let same = c.loop-j.invariant.width in
    let in_numbers : j < length c.loop-j.numbers = omega (arith, c.loop-j-test.true, c.loop-j.auto.numbers) in
    let in_entries : j < length c.args.entries.now = omega (arith, in_numbers, same) in
    let in_map : j < length (map f c.args.entries.now) = omega (arith, in_entries, length-map c.args.entries.now f) in
    let amounts = signed_amounts_over d (map f c.args.entries.now) in
    let in_amounts : j < length amounts = omega (arith, in_map, length-map (map f c.args.entries.now) (amount_over d)) in
    let here = at-map f c.args.entries.now j c.index-entries-j.result in_entries c.index-entries-j.is in
    let value = told.0 ∙ ap (amount_over d) (sym here) ∙ sym (get_or-map (amount_over d) (map f c.args.entries.now) j fraction_zero (pos 0) in_map) in
    rw (to_z-of_z w64 n fn) (record {
      width = length-set c.loop-j.numbers j n ∙ same;
      written = written_more amounts c.loop-j.numbers j n (pos 0) in_numbers in_amounts c.loop-j.invariant.written value;
      sizes = sizes_more widest j c.loop-j.numbers n in_numbers c.loop-j.invariant.sizes small;
    })
