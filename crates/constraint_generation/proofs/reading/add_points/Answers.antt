use Rattle.std.proofs.Common.{◌≡◌, ◌+◌, ◌≤◌, ◌<◌, ◌++◌, [], ◌∷◌, List, drop, get_or, length, map, zip, arith, sym, ap, ◌∙◌, append_assoc}
use Rattle.std.proofs.lemmas.List.{length-map, length-drop, append-nil}
use Rattle.clearing_model.specs.Certificate.{Point}
use Rattle.form.specs.States.{vector_of}
use Rattle.cert_check.specs.Points.{point_of}
use Rattle.simplex.specs.Spaces.{y_of}
use Rattle.master_program.specs.Reading.{points_with_weight}
use Rattle.arithmetic.proofs.Lists.{pair_first, pairs_end, item_of}
use Rattle.constraint_generation.proofs.ReadOff.{at_behind, points_with_weight_more}
use Rattle.constraint_generation.proofs.reading.add_points.Goals as goal

pub loop-i-preserved : goal.loop-i-preserved
loop-i-preserved g c =
    let l = c.loop-i in
    let value = g.N.Exact.fraction in
    let y = y_of c.args.space.now.contents in
    let k = c.args.orders in
    let states = map vector_of c.args.states.now in
    let weights = drop k y in
    let weight = value c.y.result in
    let point : Point = (vector_of c.index-states-i.result, weight) in
    let rest = drop (l.i + 1) (zip states weights) in
    let now = map point_of l.points.items in
    let count = length-map c.args.states.now vector_of in
    let lengths : length weights ≡ length states = omega (arith, length-drop k y, c.requires.count, count) in
    let low_state : l.i < length states = omega (arith, count, c.loop-i-test.true) in
    let is_weight : weight ≡ get_or weights l.i weight = c.y.ensures ∙ sym (at_behind y k l.i weight (omega (arith, c.requires.count, c.loop-i-test.true))) in
    let first = pair_first states weights l.i point.0 weight lengths low_state (item_of vector_of c.args.states.now l.i c.index-states-i.result c.loop-i-test.true c.index-states-i.is) is_weight in
    record {
      points =
          ap (λ (points : List Point). points ++ points_with_weight rest) c.add_point.ensures.points
          ∙ append_assoc now (points_with_weight (point ∷ [])) (points_with_weight rest)
          ∙ ap (λ (points : List Point). now ++ points) (sym (ap points_with_weight first ∙ points_with_weight_more point rest))
          ∙ l.invariant.points;
      len = omega (arith, l.invariant.len, c.add_point.ensures.len);
      room = omega (arith, l.invariant.room, c.add_point.ensures.capacity);
    }

pub returns-clause-points : goal.returns-clause-points
returns-clause-points g c =
    let l = c.loop-i in
    let states = map vector_of c.args.states.now in
    let weights = drop c.args.orders (y_of c.args.space.now.contents) in
    let high : length states ≤ l.i = omega (arith, length-map c.args.states.now vector_of, c.loop-i-test.false) in
    let now = map point_of l.points.items in
    sym (append-nil now) ∙ ap (λ (points : List Point). now ++ points_with_weight points) (sym (pairs_end states weights l.i high)) ∙ l.invariant.points
