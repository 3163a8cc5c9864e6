use Rattle.std.proofs.Common.{◌≡◌, ◌+◌, ◌-◌, [], map, refl, ap, ◌∙◌, arith, List, ℕ, replicate, pos}
use Rattle.std.proofs.lemmas.Result.{IfOk-weaker}
use Rattle.exact_num.specs.Fraction.{whole}
use Rattle.exact_num.specs.Steps.{fold_steps}
use Rattle.form.specs.declared.orders.Order.{Order}
use Rattle.frac.specs.Range.{limit}
use Rattle.frac.specs.Value.{fraction_of}
use Rattle.sign_tree.specs.Left.{batch_legs}
use Rattle.cell_cover.specs.Classes.{options_in}
use Rattle.cell_cover.specs.Kinked.{all_as}
use Rattle.cell_cover.specs.Read.{node_of}
use Rattle.cell_cover.specs.Rows.{row_of}
use Rattle.cell_cover.specs.Rowed.{kinks_in, row_step, rows_in, with_fresh}
use Rattle.cell_cover.specs.Verdicts.{cells_verdict, nodes_answer, verdict_of}
use Rattle.cell_cover.specs.Walk.{root_cell}
use Rattle.cell_cover.specs.declared.cover.CellVerdict.{CellVerdict}
use Rattle.cell_cover.specs.declared.vectors.Class.{Class}
use Rattle.cell_cover.proofs.Roots.{goes_from_root, stops_at_kinks}
use Rattle.cell_cover.proofs.Covered.{closed_by_cells, closed_by_none, enough_by_cells}
use Rattle.cell_cover.proofs.closing.closes.Goals as goal

pub returns-in-Ok : goal.returns-in-Ok
returns-in-Ok c =
    let batch = c.args.batch.now in
    let n = batch.underlyings in
    let orders = batch.orders in
    let fills = c.args.fills.now in
    let L = c.args.liability.now in
    let nodes = c.args.nodes.now in
    let start = c.in_ok-classes.classes.items in
    let end = c.add_kinks.new.classes.items in
    let slope = row_of (n + 1) c.in-Ok.slope in
    let written = map node_of nodes in
    let same : n + 1 - 1 ≡ n = omega arith in
    let begun = c.in_ok-classes.ensures ∙ ap (λ (os : List Order). with_fresh [] (options_in os)) c.as_slice-orders.ensures in
    let steps = c.in-Ok.ensures.steps ∙ ap (λ (os : List Order). fold_steps (row_step limit (rows_in (n + 1) start)) (record { kinks = kinks_in start; slope = replicate (n + 1) (whole (pos 0)) }) (batch_legs fraction_of os fills)) c.as_slice-orders.ensures in
    let wanted : CellVerdict → Type 0 = λ verdict. verdict ≡ cells_verdict n orders (map fraction_of fills) (fraction_of L) written in
    let walked = IfOk-weaker c.from_root.result _ wanted
    (λ verdict is.
    is
    ∙ ap (λ (ks : List Class). verdict_of (nodes_answer (n + 1 - 1) (all_as (n + 1) ks) (fraction_of L) written (root_cell limit (all_as (n + 1) ks) slope))) c.as_slice.ensures.value
    ∙ ap (λ (k : ℕ). verdict_of (nodes_answer k (all_as (n + 1) end) (fraction_of L) written (root_cell limit (all_as (n + 1) end) slope))) same
    ∙ ap verdict_of (goes_from_root n (n + 1) orders (map fraction_of fills) (fraction_of L) written start end c.in-Ok.slope refl c.requires.formed begun c.add_kinks.ensures.rows steps)) c.from_root.ensures in
    record {
      walked = walked;
      closed = IfOk-weaker c.from_root.result wanted _ (λ verdict is. closed_by_cells n orders fills L nodes verdict c.requires.fills c.requires.forms.forms c.requires.formed is) walked;
      enough = λ above. IfOk-weaker c.from_root.result wanted _
          (λ verdict is is_closed. enough_by_cells n orders fills L nodes c.requires.fills above (closed_by_cells n orders fills L nodes verdict c.requires.fills c.requires.forms.forms c.requires.formed is is_closed)) walked;
      refuted = IfOk-weaker c.from_root.result wanted _ (λ verdict is. closed_by_none n orders fills L nodes verdict c.requires.fills c.requires.forms.forms c.requires.formed is) walked;
    }

pub returns-clause-walked : goal.returns-clause-walked
returns-clause-walked c =
    let batch = c.args.batch.now in
    let n = batch.underlyings in
    let orders = batch.orders in
    let fills = c.args.fills.now in
    let L = c.args.liability.now in
    let start = c.in_ok-classes.classes.items in
    let begun = c.in_ok-classes.ensures ∙ ap (λ (os : List Order). with_fresh [] (options_in os)) c.as_slice-orders.ensures in
    let steps = c.in-Err.ensures.steps ∙ ap (λ (os : List Order). fold_steps (row_step limit (rows_in (n + 1) start)) (record { kinks = kinks_in start; slope = replicate (n + 1) (whole (pos 0)) }) (batch_legs fraction_of os fills)) c.as_slice-orders.ensures in
    ap verdict_of (stops_at_kinks n (n + 1) orders (map fraction_of fills) (fraction_of L) (map node_of c.args.nodes.now) start c.in-Err.wide refl c.requires.formed begun steps)
