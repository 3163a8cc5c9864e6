use Rattle.std.proofs.Common.{◌≡◌, ◌+◌, ◌-◌, ◌<◌, ◌∙◌, arith, ap, sym, subst, refl, length, map, unsigned_abs}
use Rattle.std.proofs.lemmas.Result.{err_from_is_err_and}
use Rattle.std.proofs.lemmas.List.{length-map}
use Rattle.fraction_tableau.specs.Programs.{with_row}
use Rattle.form.specs.Payoff.{option_of}
use Rattle.sign_tree.specs.Left.{leg_as}
use Rattle.sign_tree.specs.Read.{sign_of}
use Rattle.simplex.specs.Spaces.{Workspace, given, program_given}
use Rattle.simplex_run.specs.Places.{fraction_zero}
use Rattle.pricing_oracle.specs.Nodes.{covering_of, legs_asked, role_leg_as, roles_left}
use Rattle.pricing_oracle.specs.Programs.{IsOpen, given_with}
use Rattle.pricing_oracle.proofs.ByRole.{cover_count_is, covering_first}
use Rattle.pricing_oracle.proofs.GivenRows.{cover_rows_end, cover_rows_from}
use Rattle.pricing_oracle.proofs.GivenSteps.{all_given, cover_row_fails, cover_row_on, cover_row_width, cover_rows_are, one_row_on}
use Rattle.pricing_oracle.proofs.giving.give_cover_rows.Goals as goal

pub loop-leg-init : goal.loop-leg-init
loop-leg-init g c =
    let value = g.N.Exact.fraction in
    let limit = unsigned_abs g.N.Exact.LIMIT in
    let n = c.args.asked.underlyings in
    let p = program_given c.args.space.now.contents in
    let legs = c.legs_of-left.ensures.legs in
    let count : c.args.covers ≡ length (covering_of (roles_left value c.legs_of-left.result)) =
    c.requires.covers ∙ cover_count_is (legs_asked value c.args.asked) (map sign_of c.args.signs.now) ∙ ap (λ ls. length (covering_of ls)) (sym legs) in
    record {
      rows = ap (λ ls. given_with p (length (covering_of ls)) (cover_rows_from limit n 0 (covering_of ls))) (sym legs);
      count = omega (arith, count);
      stands = subst (IsOpen c.args.space.now (n + 1 + c.args.covers)) count c.requires.program;
      size = (refl, refl);
      row = c.requires.row;
      kept = omega arith;
      at = c.legs_of-left.ensures.at_leg;
    }

pub returns-in_err-write_cover_row-clause-given : goal.returns-in_err-write_cover_row-clause-given
returns-in_err-write_cover_row-clause-given g c =
    let q = err_from_is_err_and c.from_residual.result c.from_residual.ensures.1 in
    let value = g.N.Exact.fraction in
    let limit = unsigned_abs g.N.Exact.LIMIT in
    let n = c.args.asked.underlyings in
    let l = c.loop-leg in
    let legs = legs_asked value c.args.asked in
    let signs = map sign_of c.args.signs.now in
    let rest = covering_of (roles_left value c.in-Some.after) in
    let first = covering_first (roles_left value l.left) (role_leg_as value c.in-Some.leg) (roles_left value c.in-Some.after) c.in-Some.ensures.0 (sym c.is_covering.ensures ∙ c.if-is_covering.true) in
    let behind : c.args.covers - l.place - 1 ≡ length rest = omega (arith, l.invariant.count, ap length first) in
    rw (q.1, q.2)
    (cover_row_fails limit n l.place (c.args.covers - l.place - 1) (covering_of (roles_left value l.left)) (leg_as value c.in-Some.leg.leg) rest (program_given l.space.contents) (map value c.write_cover_row.new.row.items)
    c.write_cover_row.result c.in_err-write_cover_row.field-0.0 _ l.space.contents first behind
    (cover_rows_are limit n c.args.covers (program_given c.args.space.now.contents) legs signs c.requires.covers ∙ l.invariant.rows) c.in_err-write_cover_row.was c.write_cover_row.ensures.written)

pub row-requires-clause-width : goal.row-requires-clause-width
row-requires-clause-width g c =
    let value = g.N.Exact.fraction in
    let l = c.loop-leg in
    let first = covering_first (roles_left value l.left) (role_leg_as value c.in-Some.leg) (roles_left value c.in-Some.after) c.in-Some.ensures.0 (sym c.is_covering.ensures ∙ c.if-is_covering.true) in
    let low : l.place < c.args.covers = omega (arith, l.invariant.count, ap length first) in
    let items = c.write_cover_row.new.row.items in
    let width = cover_row_width (unsigned_abs g.N.Exact.LIMIT) c.args.asked.underlyings (option_of c.in-Some.leg.leg.form.now) l.place c.args.covers (map value items) low c.in_ok-write_cover_row.ensures.written in
    omega (arith, ap length c.as_slice.ensures.value, length-map items value, width, l.invariant.stands.width)

pub loop-leg-preserved-in_ok-write_cover_row : goal.loop-leg-preserved-in_ok-write_cover_row
loop-leg-preserved-in_ok-write_cover_row g c =
    let value = g.N.Exact.fraction in
    let limit = unsigned_abs g.N.Exact.LIMIT in
    let n = c.args.asked.underlyings in
    let l = c.loop-leg in
    let p = program_given l.space.contents in
    let row = map value c.write_cover_row.new.row.items in
    let rest = covering_of (roles_left value c.in-Some.after) in
    let first = covering_first (roles_left value l.left) (role_leg_as value c.in-Some.leg) (roles_left value c.in-Some.after) c.in-Some.ensures.0 (sym c.is_covering.ensures ∙ c.if-is_covering.true) in
    let behind : c.args.covers - l.place - 1 ≡ length rest = omega (arith, l.invariant.count, ap length first) in
    let now : c.row.new.self ≡ record l.space { contents = given (with_row p row fraction_zero) } =
    c.row.ensures ∙ (λ i. record l.space { contents = given (with_row p (map value (c.as_slice.ensures.value i)) (c.zero.ensures i)) }) in
    record {
      rows =
          l.invariant.rows
          ∙ cover_row_on limit n l.place (c.args.covers - l.place - 1) (covering_of (roles_left value l.left)) (leg_as value c.in-Some.leg.leg) rest p row first behind c.in_ok-write_cover_row.ensures.written
          ∙ ap (λ (w : Workspace). given_with (program_given w.contents) (length rest) (cover_rows_from limit n (l.place + 1) rest)) (sym now);
      count = omega (arith, l.invariant.count, ap length first);
      stands = one_row_on l.space c.row.new.self (n + 1 + c.args.covers) (length rest) row fraction_zero now (subst (IsOpen l.space (n + 1 + c.args.covers)) (ap length first) l.invariant.stands);
      row = omega (arith, l.invariant.row, c.write_cover_row.ensures.capacity);
      kept = omega (arith, l.invariant.kept, c.write_cover_row.ensures.capacity);
      size = (ap (λ (w : Workspace). w.rows) now ∙ l.invariant.size.0, ap (λ (w : Workspace). w.columns) now ∙ l.invariant.size.1);
      at = c.in-Some.ensures.1;
    }

pub returns-clause-given : goal.returns-clause-given
returns-clause-given g c =
    let value = g.N.Exact.fraction in
    let limit = unsigned_abs g.N.Exact.LIMIT in
    let n = c.args.asked.underlyings in
    let l = c.loop-leg in
    let p = program_given l.space.contents in
    cover_rows_are limit n c.args.covers (program_given c.args.space.now.contents) (legs_asked value c.args.asked) (map sign_of c.args.signs.now) c.requires.covers
    ∙ l.invariant.rows
    ∙ ap (λ legs. given_with p (length (covering_of legs)) (cover_rows_from limit n l.place (covering_of legs))) c.in_default.ensures
    ∙ ap (given_with p 0) (cover_rows_end limit n l.place)
    ∙ all_given l.space.contents l.invariant.stands.given
