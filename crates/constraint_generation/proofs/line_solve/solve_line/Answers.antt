use Rattle.std.proofs.Common.{◌+◌, ◌-◌, ◌∷◌, length, map, ap, sym, arith, unsigned_abs, ◌∙◌, subst}
use Rattle.std.proofs.lemmas.Result.{err_from_is_err_and}
use Rattle.std.proofs.lemmas.List.{length-drop, length-map}
use Rattle.frac.specs.Range.{limit}
use Rattle.form.specs.States.{vector_of}
use Rattle.line_cover.specs.Breakpoints.{first_state, later_states}
use Rattle.simplex_run.specs.Ending.{done}
use Rattle.master_program.specs.Certified.{IsCertifiedAt}
use Rattle.master_program.specs.Master.{zero_prices}
use Rattle.master_program.specs.Reading.{Reading}
use Rattle.master_program.specs.Solve.{master_solve}
use Rattle.cert_check.specs.Conditions.{IsCoverOn}
use Rattle.constraint_generation.specs.Answers.{IsCoverAs, limits_of}
use Rattle.constraint_generation.specs.Readings.{reading_in_lists}
use Rattle.constraint_generation.specs.Run.{by_line, on_line}
use Rattle.constraint_generation.proofs.Certified.{on_one}
use Rattle.constraint_generation.proofs.Rooms.{fewer_states}
use Rattle.constraint_generation.proofs.Solve.{counted, later_are, on_states}
use Rattle.constraint_generation.proofs.Stops.{goes_on, joint_of_stop, stops_after, stops_as}
use Rattle.constraint_generation.proofs.line_solve.solve_line.Goals as goal

pub split_at-requires : goal.split_at-requires
split_at-requires g c = omega (arith, ap length c.requires.room.are, length-map c.args.states.now vector_of)

pub solve_over-requires-clause-few_states : goal.solve_over-requires-clause-few_states
solve_over-requires-clause-few_states g c = omega (arith, ap length c.split_at.ensures.back, length-drop 1 c.args.states.now, c.requires.room.few)

pub solve_over-requires-clause-room : goal.solve_over-requires-clause-room
solve_over-requires-clause-room g c =
    let some = ap length c.requires.room.are in
    fewer_states (length c.args.batch.now.orders) (length c.args.states.now) (length c.split_at.result.1.now + 1) c.args.solve.now
    (omega (arith, ap length c.split_at.ensures.back, length-drop 1 c.args.states.now, some, length-map c.args.states.now vector_of)) c.requires.room.solve_room

pub returns-in_err-read-clause-run : goal.returns-in_err-read-clause-run
returns-in_err-read-clause-run g c =
    let q = err_from_is_err_and c.from_residual.result c.from_residual.ensures.1 in
    let n = c.args.batch.now.underlyings in
    let orders = c.args.batch.now.orders in
    let limits = limits_of (unsigned_abs g.N.Exact.LIMIT) c.args.budget.now.limit in
    let before = c.args.budget.now.spent in
    let spent = c.solve_over.new.budget.spent in
    let stop = c.in_err-read.field-0.0 in
    let states = map vector_of c.split_at.result.1.now in
    let later = later_are c.args.states.now first_state (later_states orders) c.split_at.result.1.now c.requires.room.are c.split_at.ensures.back in
    let ending = master_solve limit limits.limit (limits.budget - before) before n orders states in
    let whole = stops_as _ _ stop spent (on_one limits n orders before states c.requires.room.one later) (stops_after ending on_line stop spent c.in_err-read.ensures.run) in
    rw (q.1, q.2) (joint_of_stop g.N.Exact.fraction _ stop spent whole)

pub returns-clause-run : goal.returns-clause-run
returns-clause-run g c =
    let value = g.N.Exact.fraction in
    let n = c.args.batch.now.underlyings in
    let orders = c.args.batch.now.orders in
    let limits = limits_of (unsigned_abs g.N.Exact.LIMIT) c.args.budget.now.limit in
    let before = c.args.budget.now.spent in
    let spent = c.solve_over.new.budget.spent in
    let states = map vector_of c.split_at.result.1.now in
    let later = later_are c.args.states.now first_state (later_states orders) c.split_at.result.1.now c.requires.room.are c.split_at.ensures.back in
    let ending = master_solve limit limits.limit (limits.budget - before) before n orders states in
    let r = reading_in_lists value c.solve_over.new.room.fills.items c.solve_over.new.room.points.items c.in_ok-read.read in
    let run = goes_on _ ending on_line r spent (on_one limits n orders before states c.requires.room.one later) c.in_ok-read.ensures.run
    ∙ ap (λ (r : Reading). done (r, by_line) spent) (sym c.take_joint.ensures.reading) in
    (by_line, subst (IsCoverAs by_line) (sym c.take_joint.ensures.cover) tt, run)

pub returns-clause-joint : goal.returns-clause-joint
returns-clause-joint g c =
    let value = g.N.Exact.fraction in
    let n = c.args.batch.now.underlyings in
    let orders = c.args.batch.now.orders in
    let joint = c.take_joint.result in
    let certified = subst (IsCertifiedAt n orders (zero_prices n ∷ map vector_of c.split_at.result.1.now)) (sym c.take_joint.ensures.reading) c.in_ok-read.ensures.certified in
    record {
      fills = counted value joint.fills (length orders) certified.fills.0;
      cover = subst (IsCoverOn n) (sym c.take_joint.ensures.cover) c.requires.room.one;
      states = on_states n joint.measure.points certified.measure;
    }
