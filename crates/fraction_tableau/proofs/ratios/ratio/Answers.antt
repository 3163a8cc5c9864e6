use Rattle.std.proofs.Common.{rules}
use Rattle.std.proofs.lemmas.Result.{err_from_is_err_and}
use mir.Val.{SFits}
use mir.Syntax.{w8}
use Rattle.fraction_tableau.proofs.EntrySteps.{at-map}
use Rattle.fraction_tableau.proofs.Signs.{sign_above}
use Rattle.fraction_tableau.proofs.RatioLoop.{ratio_none, ratio_found, ratio_stops}
use Rattle.fraction_tableau.proofs.ratios.ratio.Goals as goal

pub returns-else-sign-gt0 : goal.returns-else-sign-gt0
returns-else-sign-gt0 g c =
    let f : SFits w8 c.sign.result = search rules in
    let x = at-map g.N.Exact.fraction c.args.entries.now c.args.c c.index-entries-c.result c.requires.places.0 c.index-entries-c.is in
    ratio_none _ _ _ _ _ x (sign_above _ _ _ c.sign.ensures f c.if-sign-gt0.false)

pub returns-in_ok-ratio : goal.returns-in_ok-ratio
returns-in_ok-ratio g c =
    let f : SFits w8 c.sign.result = search rules in
    let x = at-map g.N.Exact.fraction c.args.entries.now c.args.c c.index-entries-c.result c.requires.places.0 c.index-entries-c.is in
    let y = at-map g.N.Exact.fraction c.args.entries.now c.args.columns c.index-entries-columns.result c.requires.places.1 c.index-entries-columns.is in
    ratio_found g.N.Exact.fraction _ _ _ _ _ _ c.in_ok-ratio.ratio c.quotient.result x y (sign_above _ _ _ c.sign.ensures f c.if-sign-gt0.true) c.quotient.ensures c.in_ok-ratio.was

pub returns-in_err-ratio : goal.returns-in_err-ratio
returns-in_err-ratio g c =
    let p = err_from_is_err_and c.from_residual.result c.from_residual.ensures.1 in
    let f : SFits w8 c.sign.result = search rules in
    let x = at-map g.N.Exact.fraction c.args.entries.now c.args.c c.index-entries-c.result c.requires.places.0 c.index-entries-c.is in
    let y = at-map g.N.Exact.fraction c.args.entries.now c.args.columns c.index-entries-columns.result c.requires.places.1 c.index-entries-columns.is in
    rw (p.1, p.2) (ratio_stops g.N.Exact.fraction _ _ _ _ _ _ _ c.quotient.result x y (sign_above _ _ _ c.sign.ensures f c.if-sign-gt0.true) c.quotient.ensures c.in_err-ratio.was)
