use Rattle.std.proofs.Common.{◌≡◌, ◌+◌, ◌++◌, ◌∷◌, [], ◌∙◌, suc, arith, ap, sym, subst, length, drop, map}
use Rattle.std.proofs.lemmas.List.{length-append, length-map}
use Rattle.sign_tree.specs.Read.{placed_of, sign_of}
use Rattle.simplex.specs.Spaces.{y_of}
use Rattle.master_program.specs.Node.{covers_of, signed_of}
use Rattle.master_program.specs.Roles.{leg_multipliers, placed_from}
use Rattle.master_program.specs.Search.{leaf_of, multipliers_of}
use Rattle.master_program.specs.NodeSteps.{counted_node}
use Rattle.simplex_run.specs.Places.{fraction_zero}
use Rattle.pricing_oracle.specs.Nodes.{covering_of, legs_asked, node_leg, role_leg_as, roles_left}
use Rattle.pricing_oracle.proofs.ByRole.{cover_count_is, few_roles, node_is}
use Rattle.pricing_oracle.proofs.GivenRows.{few_rows}
use Rattle.pricing_oracle.proofs.MultiplierRows.{AreRowsLeft, adds_multiplier, has_row, multipliers_from, multipliers_left, rows_left}
use Rattle.pricing_oracle.proofs.reading.add_multipliers.Goals as goal

pub loop-leg-init : goal.loop-leg-init
loop-leg-init g c =
    let value = g.N.Exact.fraction in
    let n = c.args.asked.underlyings in
    let legs = legs_asked value c.args.asked in
    let signs = map sign_of c.args.signs.now in
    let node = counted_node legs signs in
    let y = y_of c.args.space.now.contents in
    let there = c.legs_of-left.ensures.legs in
    let node_there : node ≡ map node_leg (roles_left value c.legs_of-left.result) = node_is legs signs ∙ ap (map node_leg) (sym there) in
    let past : suc (length (covers_of node)) ≡ 1 + c.args.covers = omega (arith, c.requires.covers) in
    let covers = cover_count_is legs signs ∙ ap (λ ls. length (covering_of ls)) (sym there) in
    let signed = ap (λ nd. length (signed_of n nd)) node_there in
    let few = few_roles legs c.args.signs.now in
    let long = ap length there in
    let there_from : multipliers_of node y ≡ multipliers_from (roles_left value c.legs_of-left.result) (record { cover = 1; signed = 1 + c.args.covers }) y =
    λ i. leg_multipliers fraction_zero (node_there i) (drop 1 y) (drop (past i) y) in
    let all = ap (λ nd. length (signed_of n nd)) (node_is legs signs) in
    record {
      added = ap (λ ms. map placed_of c.args.multipliers.now.items ++ placed_from 1 ms) there_from;
      rows = record { cover = omega (arith, covers, c.requires.rows); signed = omega (arith, signed, c.requires.rows, c.requires.covers) };
      room = omega (arith, c.requires.room, ap (λ ms. length (placed_from 1 ms)) there_from);
      kept = omega arith;
      few = omega (arith, few, long);
      places = omega (arith, few, long);
      small = omega (arith, c.requires.rows, c.requires.covers, cover_count_is legs signs, all, few_rows n legs c.args.signs.now);
      at = c.legs_of-left.ensures.at_leg;
    }

pub loop-leg-preserved : goal.loop-leg-preserved
loop-leg-preserved g c =
    let value = g.N.Exact.fraction in
    let n = c.args.asked.underlyings in
    let l = c.loop-leg in
    let y = y_of c.args.space.now.contents in
    let left = roles_left value l.left in
    let rest = roles_left value c.in-Some.after in
    let leg = role_leg_as value c.in-Some.leg in
    let long = ap length c.in-Some.ensures.0 in
    let row = has_row n left leg rest l.rows (length y) c.in-Some.ensures.0 l.invariant.rows in
    let all = map placed_of c.args.multipliers.now.items ++ leaf_of (counted_node (legs_asked value c.args.asked) (map sign_of c.args.signs.now)) y in
    let new = map placed_of c.add_multiplier.new.multipliers.items in
    record {
      added =
          adds_multiplier all (map placed_of l.multipliers.items) new l.place left leg rest l.rows y (value c.multiplier.result) c.in-Some.ensures.0 row c.multiplier.ensures l.invariant.added c.add_multiplier.ensures.added
          ∙ ap (λ rows. new ++ placed_from (l.place + 1) (multipliers_from rest rows y)) (sym c.after_leg-rows.ensures);
      rows = subst (λ rows. AreRowsLeft n rest rows (length y)) (sym c.after_leg-rows.ensures) (rows_left n left leg rest l.rows (length y) c.in-Some.ensures.0 l.invariant.rows);
      room = omega (
        arith,
        l.invariant.room,
        ap length c.add_multiplier.ensures.added,
        length-append (map placed_of l.multipliers.items) (placed_from l.place (value c.multiplier.result ∷ [])),
        length-map l.multipliers.items placed_of,
        length-map c.add_multiplier.new.multipliers.items placed_of,
        l.multipliers.ok,
        c.add_multiplier.new.multipliers.ok,
        c.add_multiplier.ensures.capacity,
        multipliers_left l.place left leg rest l.rows y (value c.multiplier.result) c.in-Some.ensures.0 row c.multiplier.ensures,
        ap (λ rows. length (placed_from (l.place + 1) (multipliers_from rest rows y))) c.after_leg-rows.ensures,
      );
      kept = omega (arith, l.invariant.kept, c.add_multiplier.ensures.capacity);
      few = omega (arith, l.invariant.few, c.add_multiplier.ensures.one, long);
      places = omega (arith, l.invariant.places, long);
      small = l.invariant.small;
      at = c.in-Some.ensures.1;
    }

pub add_multiplier-requires-clause-room : goal.add_multiplier-requires-clause-room
add_multiplier-requires-clause-room g c =
    let value = g.N.Exact.fraction in
    let n = c.args.asked.underlyings in
    let l = c.loop-leg in
    let y = y_of c.args.space.now.contents in
    let left = roles_left value l.left in
    let rest = roles_left value c.in-Some.after in
    let leg = role_leg_as value c.in-Some.leg in
    let row = has_row n left leg rest l.rows (length y) c.in-Some.ensures.0 l.invariant.rows in
    omega (arith, l.invariant.room, multipliers_left l.place left leg rest l.rows y (value c.multiplier.result) c.in-Some.ensures.0 row c.multiplier.ensures)
