use Rattle.std.proofs.Common.{rules, ◌≡◌, unsigned_abs, FitsSigned, w64}
use Rattle.std.proofs.lemmas.Int.{to_z-of_z}
use Rattle.std.proofs.lemmas.Option.{IfSome_then}
use Rattle.run_equivalence.specs.IntegerRows.{integer_row, row_size}
use Rattle.integer_tableau.proofs.Eliminating.{steps_above}
use Rattle.integer_tableau.proofs.Numbers.{size_made}
use Rattle.integer_tableau.proofs.short_row.size_to_mix.Goals as goal

pub returns-in-Some-clause-mixed : goal.returns-in-Some-clause-mixed
returns-in-Some-clause-mixed c =
    let p : FitsSigned w64 c.args.factors.p = search rules in
    let f : FitsSigned w64 c.args.factors.f = search rules in
    let times : c.unsigned_abs-times.result ≡ unsigned_abs c.args.factors.p = rw (to_z-of_z w64 c.args.factors.p p) at c.unsigned_abs-times.ensures.value in
    let less : c.unsigned_abs-less.result ≡ unsigned_abs c.args.factors.f = rw (to_z-of_z w64 c.args.factors.f f) at c.unsigned_abs-less.ensures.value in
    steps_above (row_size (integer_row c.args.denominator c.args.numbers.now)) c.args.kept c.in-Some.size (unsigned_abs c.args.factors.p) (unsigned_abs c.args.factors.f) c.args.known.most c.requires.size (rw (times, less) at c.in-Some.ensures.0)

pub returns-in-None-clause-mixed : goal.returns-in-None-clause-mixed
returns-in-None-clause-mixed c =
    let p : FitsSigned w64 c.args.factors.p = search rules in
    let f : FitsSigned w64 c.args.factors.f = search rules in
    let times : c.unsigned_abs-times.result ≡ unsigned_abs c.args.factors.p = rw (to_z-of_z w64 c.args.factors.p p) at c.unsigned_abs-times.ensures.value in
    let less : c.unsigned_abs-less.result ≡ unsigned_abs c.args.factors.f = rw (to_z-of_z w64 c.args.factors.f f) at c.unsigned_abs-less.ensures.value in
    let anew = size_made c.size_of.result c.args.denominator c.args.numbers.now c.size_of.ensures in
    IfSome_then c.mixed_size-in-None.result c.mixed_size-in-None.ensures (λ size told.
    steps_above (row_size (integer_row c.args.denominator c.args.numbers.now)) _ size (unsigned_abs c.args.factors.p) (unsigned_abs c.args.factors.f) c.args.known.most anew (rw (times, less) at told.0))
