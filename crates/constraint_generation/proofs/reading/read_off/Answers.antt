use Rattle.std.proofs.Common.{Ok, [], ◌∷◌, ◌++◌, List, drop, length, map, zip, unsigned_abs, sym, ap, ◌∙◌}
use Rattle.std.proofs.lemmas.Result.{err_from_is_err_and}
use Rattle.clearing_model.specs.Certificate.{Point}
use Rattle.form.specs.States.{vector_of}
use Rattle.cert_check.specs.Points.{point_of}
use Rattle.simplex.specs.Spaces.{x_of, y_of, reduced_of, value_of}
use Rattle.master_program.specs.Reading.{liability_of, points_with_weight, reading_with}
use Rattle.constraint_generation.proofs.ReadOff.{points_with_weight_more, read_is, read_stops}
use Rattle.constraint_generation.proofs.reading.read_off.Goals as goal

pub returns-in_err-liability-clause-read : goal.returns-in_err-liability-clause-read
returns-in_err-liability-clause-read g c =
    let q = err_from_is_err_and c.from_residual.result c.from_residual.ensures.1 in
    let value = g.N.Exact.fraction in
    let limit = unsigned_abs g.N.Exact.LIMIT in
    let now = c.args.space.now.contents in
    let orders = c.args.orders.now in
    let fills = c.write_values.new.row.items in
    let there = ap (map value) c.as_slice.ensures.value in
    rw (q.1, q.2)
    (read_stops limit (vector_of c.args.first.now) (map vector_of c.args.later.now) orders (x_of now) (y_of now) (reduced_of now) (map value fills) (value_of now) c.in_err-liability.field-0.0 c.write_values.ensures.written
    ((λ i. liability_of limit orders (sym there i) (sym c.x.ensures i)) ∙ sym c.in_err-liability.ensures))

pub returns-clause-read : goal.returns-clause-read
returns-clause-read g c =
    let value = g.N.Exact.fraction in
    let limit = unsigned_abs g.N.Exact.LIMIT in
    let now = c.args.space.now.contents in
    let orders = c.args.orders.now in
    let first = vector_of c.args.first.now in
    let later = map vector_of c.args.later.now in
    let fills = c.write_values.new.row.items in
    let there = ap (map value) c.as_slice.ensures.value in
    let w = value c.reduced.result in
    let rest : List Point = zip later (drop (length orders) (y_of now)) in
    let measure = map point_of c.add_points.new.points.items in
    let points =
    c.add_points.ensures.points
    ∙ ap (λ (ps : List Point). ps ++ points_with_weight rest) (c.add_point.ensures.points ∙ ap (λ (ps : List _). map point_of ps ++ points_with_weight ((first, w) ∷ [])) c.clear.ensures.items)
    ∙ sym (points_with_weight_more (first, w) rest) in
    let L = value c.in_ok-liability.liability in
    read_is limit first later orders (x_of now) (y_of now) (reduced_of now) (map value fills) (value_of now) w L measure c.write_values.ensures.written
    ((λ i. liability_of limit orders (sym there i) (sym c.x.ensures i)) ∙ sym c.in_ok-liability.ensures) c.reduced.ensures points
    ∙ ap (λ v. Ok (reading_with (map value fills) v measure L)) (sym c.value.ensures)
