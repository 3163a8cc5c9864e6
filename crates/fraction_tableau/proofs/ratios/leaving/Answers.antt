use Rattle.std.proofs.Common.{◌≡◌, ◌+◌, ◌∙◌, sym, ap, arith, [], length, unsigned_abs, slice_index_or}
use Rattle.std.specs.Prelude.{Ok, Option}
use Rattle.std.specs.Option.{option_map}
use Rattle.std.proofs.lemmas.Result.{err_from_is_err_and}
use Rattle.std.proofs.lemmas.List.{length-map}
use Rattle.exact_num.specs.Fits.{meaning}
use Rattle.simplex_run.specs.Choice.{least, ratio_in}
use Rattle.fraction_tableau.specs.declared.candidate.Candidate.{Candidate}
use Rattle.fraction_tableau.specs.Candidates.{as_ratio, best_with, beside_basics}
use Rattle.fraction_tableau.specs.Lists.{front, fronts}
use Rattle.fraction_tableau.proofs.ArenaSteps.{at_fronts, fronts_lowest}
use Rattle.fraction_tableau.proofs.RatioLoop.{chooses_more, chooses_stop, chooses_end, front_beside, length-beside}
use Rattle.fraction_tableau.proofs.Leaves.{leaving_pivots}
use Rattle.fraction_tableau.proofs.ratios.leaving.Goals as goal

pub returns-in_err-ratio-clause-place : goal.returns-in_err-ratio-clause-place
returns-in_err-ratio-clause-place g c =
    let p = err_from_is_err_and c.from_residual.result c.from_residual.ensures.1 in
    let value = g.N.Exact.fraction in
    let rows = c.args.rows.now.rows in
    let basics = c.args.basics.now in
    let i = c.loop-i.i in
    let L = unsigned_abs g.N.Exact.LIMIT in
    let lists = fronts value (c.args.columns + 1) rows in
    let low = c.loop-i-test.true in
    let many : length lists ≡ length rows = length-map rows (front value (c.args.columns + 1)) in
    let next_row = front_beside basics lists i (omega (arith, low, c.len-i-end.ensures, c.requires.count)) (omega (arith, low, c.len-i-end.ensures, many)) in
    let row_is = at_fronts value (c.args.columns + 1) rows i ∙ ap (front value (c.args.columns + 1)) (sym c.row.ensures.row) in
    let stop = ap (ratio_in L c.args.columns c.args.c) row_is ∙ sym c.ratio.ensures ∙ ap (meaning (option_map value)) c.in_err-ratio.was in
    rw (p.1, p.2) (chooses_stop L c.args.columns c.args.c (beside_basics basics lists) i (slice_index_or basics i 0) (slice_index_or lists i []) _ _ next_row stop c.loop-i.invariant)

pub loop-i-preserved : goal.loop-i-preserved
loop-i-preserved g c =
    let value = g.N.Exact.fraction in
    let rows = c.args.rows.now.rows in
    let basics = c.args.basics.now in
    let i = c.loop-i.i in
    let L = unsigned_abs g.N.Exact.LIMIT in
    let lists = fronts value (c.args.columns + 1) rows in
    let low = c.loop-i-test.true in
    let many : length lists ≡ length rows = length-map rows (front value (c.args.columns + 1)) in
    let next_row = front_beside basics lists i (omega (arith, low, c.len-i-end.ensures, c.requires.count)) (omega (arith, low, c.len-i-end.ensures, many)) in
    let row_is = at_fronts value (c.args.columns + 1) rows i ∙ ap (front value (c.args.columns + 1)) (sym c.row.ensures.row) in
    let found = ap (ratio_in L c.args.columns c.args.c) row_is ∙ sym c.ratio.ensures ∙ ap (meaning (option_map value)) c.in_ok-ratio.was in
    let next = chooses_more L c.args.columns c.args.c (beside_basics basics lists) i (slice_index_or basics i 0) (slice_index_or lists i []) _ _ next_row found c.loop-i.invariant in
    rw c.with_ratio-best.ensures next

pub returns-in-None-clause-place : goal.returns-in-None-clause-place
returns-in-None-clause-place g c =
    let value = g.N.Exact.fraction in
    let rows = fronts value (c.args.columns + 1) c.args.rows.now.rows in
    let many : length (beside_basics c.args.basics.now rows) ≡ length c.args.rows.now.rows =
    length-beside c.args.basics.now rows (c.requires.count ∙ sym (length-map c.args.rows.now.rows (front value (c.args.columns + 1)))) ∙ length-map c.args.rows.now.rows (front value (c.args.columns + 1)) in
    ap (λ (b : Option (Candidate g.row.N.Denot)). Ok (best_with (option_map (as_ratio value) b) [])) (sym c.in-None.is)
    ∙ chooses_end _ _ _ (beside_basics c.args.basics.now rows) c.loop-i.i _ (omega (arith, many, c.loop-i-test.false)) c.loop-i.invariant

pub returns-in-Some-clause-place : goal.returns-in-Some-clause-place
unfolding least
returns-in-Some-clause-place g c =
    let value = g.N.Exact.fraction in
    let rows = fronts value (c.args.columns + 1) c.args.rows.now.rows in
    let many : length (beside_basics c.args.basics.now rows) ≡ length c.args.rows.now.rows =
    length-beside c.args.basics.now rows (c.requires.count ∙ sym (length-map c.args.rows.now.rows (front value (c.args.columns + 1)))) ∙ length-map c.args.rows.now.rows (front value (c.args.columns + 1)) in
    ap (λ (b : Option (Candidate g.row.N.Denot)). Ok (best_with (option_map (as_ratio value) b) [])) (sym c.in-Some.is)
    ∙ chooses_end _ _ _ (beside_basics c.args.basics.now rows) c.loop-i.i _ (omega (arith, many, c.loop-i-test.false)) c.loop-i.invariant

pub returns-in-Some-clause-pivot : goal.returns-in-Some-clause-pivot
returns-in-Some-clause-pivot g c r h =
    let value = g.N.Exact.fraction in
    let rows = fronts value (c.args.columns + 1) c.args.rows.now.rows in
    let same = c.requires.count ∙ sym (length-map c.args.rows.now.rows (front value (c.args.columns + 1))) in
    leaving_pivots _ _ c.args.c r c.args.basics.now rows same (λ k j. fronts_lowest value g.met.N.Exact.lowest (c.args.columns + 1) c.args.rows.now.rows k j) (sym (returns-in-Some-clause-place g c) ∙ h)
