use Rattle.std.proofs.Common.{◌≡◌, ◌<◌, ◌≤◌, ◌∙◌, sym, ap, arith, rules, pos, unsigned_abs, slice_index_or, FitsSigned}
use mir.Syntax.{w128}
use Rattle.std.proofs.lemmas.Int.{to_z-of_z}
use Rattle.std.proofs.lemmas.Bool.{le-leb, lt-leb}
use Rattle.run_equivalence.specs.IntegerRows.{widest}
use Rattle.integer_tableau.proofs.Numbers.{fits_empty, fits_more, fits_stop}
use Rattle.integer_tableau.proofs.wide.are_short.Goals as goal

pub loop-number-init : goal.loop-number-init
loop-number-init c = fits_empty widest

pub returns-then-unsigned_abs-gt-WIDEST : goal.returns-then-unsigned_abs-gt-WIDEST
returns-then-unsigned_abs-gt-WIDEST c =
    let i = c.loop-number.number-index in
    let number = slice_index_or c.args.numbers.now i (pos 0) in
    let fits : FitsSigned w128 number = search rules in
    let size : c.unsigned_abs.result ≡ unsigned_abs number = c.unsigned_abs.ensures.value ∙ ap unsigned_abs (to_z-of_z w128 number fits) in
    let high : widest < unsigned_abs number = omega (arith, size) in
    sym (fits_stop widest c.args.numbers.now i c.loop-number-test.true (lt-leb (unsigned_abs number) widest high))

pub loop-number-preserved : goal.loop-number-preserved
loop-number-preserved c =
    let i = c.loop-number.number-index in
    let number = slice_index_or c.args.numbers.now i (pos 0) in
    let fits : FitsSigned w128 number = search rules in
    let size : c.unsigned_abs.result ≡ unsigned_abs number = c.unsigned_abs.ensures.value ∙ ap unsigned_abs (to_z-of_z w128 number fits) in
    let low : unsigned_abs number ≤ widest = omega (arith, size) in
    fits_more widest c.args.numbers.now i c.loop-number-test.true c.loop-number.invariant (le-leb (unsigned_abs number) widest low)
