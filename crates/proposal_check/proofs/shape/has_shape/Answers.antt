use Rattle.std.proofs.Common.{Bool, ◌&&◌, ap, sym, ◌∙◌}
use Rattle.std.proofs.lemmas.Result.{IfOk-weaker}
use Rattle.proposal_check.specs.Covers.{fits_batch}
use Rattle.proposal_check.proofs.Shapes.{on_underlyings}
use Rattle.proposal_check.proofs.shape.has_shape.Goals as goal

pub fits_batch-requires-clause-forms : goal.fits_batch-requires-clause-forms
fits_batch-requires-clause-forms c =
    let is = on_underlyings c.args.batch.now c.args.proposal.now (sym c.is_on_underlyings.ensures ∙ c.if-not-is_on_underlyings.false) in
    record { some = c.requires.underlyings.0; few = c.requires.underlyings.1; forms = is.forms }

pub returns : goal.returns
returns c =
    let on = sym c.is_on_underlyings.ensures ∙ c.if-not-is_on_underlyings.false in
    let fits = fits_batch c.args.batch.now c.args.proposal.now.cover in
    IfOk-weaker c.fits_batch.result _ _ (λ has is. is ∙ ap (λ (t : Bool). t && fits) (sym on)) c.fits_batch.ensures
