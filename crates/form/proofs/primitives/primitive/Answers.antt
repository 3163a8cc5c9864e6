use Rattle.std.proofs.Common.{map, List, ℕ, Ok, unsigned_abs, ap, sym, ◌∙◌}
use Rattle.std.proofs.lemmas.Result.{err_from_is_err_and}
use Rattle.form.specs.States.{vector_of}
use Rattle.form.proofs.Multiples.{primitive_is, no_multiple, no_multiples, all_lowest}
use Rattle.form.proofs.Directions.{primitive_direction}
use Rattle.form.proofs.primitives.primitive.Goals as goal

pub returns-in_err-multiple-clause-steps : goal.returns-in_err-multiple-clause-steps
returns-in_err-multiple-clause-steps g c =
    let p = err_from_is_err_and c.from_residual.result c.from_residual.ensures.1 in
    rw (p.1, p.2) (sym (no_multiple (unsigned_abs g.N.Exact.LIMIT) (map g.N.Exact.fraction c.args.entries.now) c.in_err-multiple.field-0.0 c.in_err-multiple.ensures.multiple))

pub returns-in_err-state-clause-steps : goal.returns-in_err-state-clause-steps
returns-in_err-state-clause-steps g c =
    let p = err_from_is_err_and c.from_residual-in_err-state.result c.from_residual-in_err-state.ensures.1 in
    rw (p.1, p.2) (sym (no_multiples (unsigned_abs g.N.Exact.LIMIT) (map g.N.Exact.fraction c.args.entries.now) (g.N.Exact.fraction c.in_ok-multiple.multiple) c.in_err-state.field-0.0 c.in_ok-multiple.ensures.multiple c.in_err-state.ensures))

pub returns-clause-steps : goal.returns-clause-steps
returns-clause-steps g c =
    ap (λ (z : List ℕ). Ok z) c.lowest.ensures
    ∙ sym (primitive_is (unsigned_abs g.N.Exact.LIMIT) (map g.N.Exact.fraction c.args.entries.now) (g.N.Exact.fraction c.in_ok-multiple.multiple) (vector_of c.in_ok-state.state) c.in_ok-multiple.ensures.multiple c.in_ok-state.ensures)

pub returns-clause-direction : goal.returns-clause-direction
returns-clause-direction g c =
    primitive_direction (unsigned_abs g.N.Exact.LIMIT) (map g.N.Exact.fraction c.args.entries.now) _ (all_lowest g.N.Exact.fraction g.met.N.Exact.lowest c.args.entries.now) c.requires
    (sym (returns-clause-steps g c))
