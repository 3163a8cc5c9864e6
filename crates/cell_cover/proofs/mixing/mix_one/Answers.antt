use Rattle.std.proofs.Common.{ap, sym, ◌∙◌, Ok, Err}
use Rattle.std.proofs.lemmas.Result.{err_from_is_err_and}
use Rattle.exact_num.specs.Fits.{meaning}
use Rattle.frac.specs.Range.{limit}
use Rattle.cell_cover.specs.Read.{multiplier_of}
use Rattle.cell_cover.specs.Rows.{row_of, sign_as}
use Rattle.cell_cover.specs.Kinked.{classes_as, knowledge_as}
use Rattle.cell_cover.proofs.FoundClasses.{class_is, class_none, class_some}
use Rattle.cell_cover.proofs.Mixes.{mix_absent, mix_unfit, mix_fits}
use Rattle.cell_cover.proofs.mixing.mix_one.Goals as goal

pub returns-in_default : goal.returns-in_default
returns-in_default c =
    let kinked = c.args.kinked in
    mix_absent limit (classes_as kinked) (knowledge_as kinked.entries c.args.known.now) (row_of kinked.entries c.args.totals.now) (multiplier_of c.args.multiplier.now) (class_none kinked.entries kinked.classes.now c.args.multiplier.now.class c.in_default.ensures)

pub returns-in_default-mixing_sign : goal.returns-in_default-mixing_sign
returns-in_default-mixing_sign c =
    let kinked = c.args.kinked in
    mix_unfit limit (classes_as kinked) (knowledge_as kinked.entries c.args.known.now) (row_of kinked.entries c.args.totals.now) (multiplier_of c.args.multiplier.now) (c.in_default-mixing_sign.ensures kinked.entries)

pub returns-in_err-next : goal.returns-in_err-next
returns-in_err-next c =
    let p = err_from_is_err_and c.from_residual.result c.from_residual.ensures.1 in
    let kinked = c.args.kinked in
    let n = kinked.entries in
    let class = c.in-Some.class.now in
    let k = c.args.multiplier.now.class in
    let at = c.in-Some.ensures in
    let mixes = c.in-Some-mixing_sign.ensures n in
    rw (p.1, p.2) (mix_fits limit (classes_as kinked) (knowledge_as n c.args.known.now) (row_of n c.args.totals.now) (multiplier_of c.args.multiplier.now) (sign_as c.in-Some-mixing_sign.sign) (row_of n class.entries) (Err c.in_err-next.field-0.0)
    (class_some n kinked.classes.now k class at) mixes.may mixes.sign_is (ap (λ w. w.entries) (class_is n kinked.classes.now k class at)) (sym (ap (meaning (row_of n)) c.in_err-next.was) ∙ c.add_each.ensures))

pub returns : goal.returns
returns c =
    let kinked = c.args.kinked in
    let n = kinked.entries in
    let class = c.in-Some.class.now in
    let k = c.args.multiplier.now.class in
    let at = c.in-Some.ensures in
    let mixes = c.in-Some-mixing_sign.ensures n in
    mix_fits limit (classes_as kinked) (knowledge_as n c.args.known.now) (row_of n c.args.totals.now) (multiplier_of c.args.multiplier.now) (sign_as c.in-Some-mixing_sign.sign) (row_of n class.entries) (Ok (row_of n c.in_ok-next.next))
    (class_some n kinked.classes.now k class at) mixes.may mixes.sign_is (ap (λ w. w.entries) (class_is n kinked.classes.now k class at)) (sym (ap (meaning (row_of n)) c.in_ok-next.was) ∙ c.add_each.ensures)
