use Rattle.std.proofs.Common.{◌∙◌, ap, length, sym, unsigned_abs, subst}
use Rattle.std.proofs.lemmas.Result.{err_from_is_err_and}
use Rattle.simplex_run.specs.Ending.{done}
use Rattle.master_program.specs.Reading.{Reading}
use Rattle.master_program.specs.Rounds.{rounds}
use Rattle.pricing_oracle.specs.Answers.{IsTreeAs}
use Rattle.search_laws.proofs.Rounds.{rounds_are_greatest}
use Rattle.cert_check.specs.Conditions.{IsCoverOn}
use Rattle.constraint_generation.specs.Answers.{IsCoverAs, limits_of, reading_in}
use Rattle.constraint_generation.specs.Readings.{reading_in_lists}
use Rattle.constraint_generation.specs.Run.{by_tree, on_tree}
use Rattle.constraint_generation.proofs.Certified.{on_several}
use Rattle.constraint_generation.proofs.Solve.{counted, on_states}
use Rattle.constraint_generation.proofs.Stops.{goes_on, joint_of_stop, stops_after, stops_as}
use Rattle.constraint_generation.proofs.rounds_solve.solve_rounds.Goals as goal

pub returns-in_err-read-clause-run : goal.returns-in_err-read-clause-run
returns-in_err-read-clause-run g c =
    let q = err_from_is_err_and c.from_residual.result c.from_residual.ensures.1 in
    let n = c.args.batch.now.underlyings in
    let orders = c.args.batch.now.orders in
    let limits = limits_of (unsigned_abs g.N.Exact.LIMIT) c.args.budget.now.limit in
    let before = c.args.budget.now.spent in
    let spent = c.close.new.budget.spent in
    let stop = c.in_err-read.field-0.0 in
    let whole = stops_as _ _ stop spent (on_several limits n orders before c.requires.room.several) (stops_after (rounds limits n orders before) on_tree stop spent c.in_err-read.ensures.run) in
    rw (q.1, q.2) (joint_of_stop g.N.Exact.fraction _ stop spent whole)

pub returns-clause-run : goal.returns-clause-run
returns-clause-run g c =
    let value = g.N.Exact.fraction in
    let n = c.args.batch.now.underlyings in
    let orders = c.args.batch.now.orders in
    let limits = limits_of (unsigned_abs g.N.Exact.LIMIT) c.args.budget.now.limit in
    let before = c.args.budget.now.spent in
    let spent = c.close.new.budget.spent in
    let r = reading_in_lists value c.close.new.room.fills.items c.close.new.room.points.items c.in_ok-read.read in
    let run = c.in_ok-read.ensures.run in
    let whole = goes_on _ (rounds limits n orders before) on_tree (r, run.0) spent (on_several limits n orders before c.requires.room.several) run.2
    ∙ ap (λ (r : Reading). done (r, by_tree run.0) spent) (sym c.take_joint.ensures.reading) in
    (by_tree run.0, subst (IsCoverAs (by_tree run.0)) (sym c.take_joint.ensures.cover) (subst (IsTreeAs run.0) (sym c.take_tree-tree.ensures.tree) run.1), whole)

pub returns-clause-joint : goal.returns-clause-joint
returns-clause-joint g c =
    let value = g.N.Exact.fraction in
    let forms = c.requires.limits.has_forms in
    let n = c.args.batch.now.underlyings in
    let orders = c.args.batch.now.orders in
    let limits = limits_of (unsigned_abs g.N.Exact.LIMIT) c.args.budget.now.limit in
    let before = c.args.budget.now.spent in
    let spent = c.close.new.budget.spent in
    let joint = c.take_joint.result in
    let run = c.in_ok-read.ensures.run in
    let whole = run.2 ∙ ap (λ (r : Reading). done (r, run.0) spent) (sym c.take_joint.ensures.reading) in
    let greatest = rounds_are_greatest limits n before spent orders (reading_in value joint) run.0 forms.some forms.few c.args.budget.now.within whole in
    record {
      fills = counted value joint.fills (length orders) greatest.certified.fills.0;
      cover = subst (IsCoverOn n) (sym c.take_joint.ensures.cover) c.requires.room.several;
      states = on_states n joint.measure.points greatest.certified.measure;
    }
