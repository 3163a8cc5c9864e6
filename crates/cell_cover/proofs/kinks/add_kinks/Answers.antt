use Rattle.std.proofs.Common.{◌≡◌, length, refl, ap, sym, ◌∙◌, subst, All}
use Rattle.exact_num.specs.Steps.{fold_steps}
use Rattle.form.proofs.Vectors.{length-option_of}
use Rattle.frac.specs.Range.{limit}
use Rattle.frac.specs.Value.{fraction_of}
use Rattle.sign_tree.specs.Legs.{FractionLeg}
use Rattle.sign_tree.specs.Left.{batch_legs, leg_as, legs_left}
use Rattle.sign_tree.proofs.LegLists.{at_start}
use Rattle.cell_cover.specs.Rowed.{kinked_so_far, kinks_in, row_step, rows_in}
use Rattle.cell_cover.proofs.Covered.{legs_have_entries}
use Rattle.cell_cover.proofs.Rowing.{fold_on}
use Rattle.std.proofs.lemmas.List.{length-map}
use Rattle.std.proofs.lemmas.List.Elements.{All-head, All-tail}
use Rattle.cell_cover.proofs.kinks.add_kinks.Goals as goal

pub loop-leg-init : goal.loop-leg-init
loop-leg-init c =
    let n = c.args.count in
    let classes = c.args.classes.now.items in
    let orders = c.args.orders.now in
    let fills = c.args.fills.now in
    record {
      rows = refl;
      at = record { fills = c.requires.fills; next = at_start orders };
      options = legs_have_entries n orders _ (length-map fills fraction_of ∙ c.requires.fills) c.requires.forms;
      steps = ap (λ slope. fold_steps (row_step limit (rows_in n classes)) (record { kinks = kinks_in classes; slope = slope }) (batch_legs fraction_of orders fills)) (sym (c.zero_row-slope.ensures n c.requires.few));
    }

pub add_leg-requires : goal.add_leg-requires
add_leg-requires c =
    let P : FractionLeg → Type 0 = λ leg. length leg.option ≡ c.args.count in
    let all = subst (All P) c.in-Some.ensures.0 c.loop-leg.invariant.options in
    sym (length-option_of c.in-Some.leg.form.now) ∙ All-head P (leg_as fraction_of c.in-Some.leg) (legs_left fraction_of c.in-Some.rest) all

pub loop-leg-preserved : goal.loop-leg-preserved
loop-leg-preserved c =
    let n = c.args.count in
    let P : FractionLeg → Type 0 = λ leg. length leg.option ≡ n in
    let all = subst (All P) c.in-Some.ensures.0 c.loop-leg.invariant.options in
    let leg = leg_as fraction_of c.in-Some.leg in
    let rest = legs_left fraction_of c.in-Some.rest in
    let rows = rows_in n c.args.classes.now.items in
    let so_far = kinked_so_far n c.loop-leg.classes.items c.loop-leg.slope in
    record {
      rows = c.add_leg.ensures.rows ∙ c.loop-leg.invariant.rows;
      at = c.in-Some.ensures.1;
      options = All-tail P leg rest all;
      steps = c.loop-leg.invariant.steps ∙ fold_on (row_step limit rows) so_far _ (legs_left fraction_of c.loop-leg.left) rest leg c.in-Some.ensures.0 (sym (c.in_ok-slope.ensures.step ∙ ap (λ rs. row_step limit rs so_far leg) c.loop-leg.invariant.rows));
    }
