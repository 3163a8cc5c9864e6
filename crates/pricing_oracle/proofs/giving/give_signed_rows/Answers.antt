use Rattle.std.proofs.Common.{◌≡◌, ◌+◌, ◌∙◌, arith, ap, sym, subst, refl, length, map, replicate, unsigned_abs}
use Rattle.std.proofs.lemmas.Result.{err_from_is_err_and}
use Rattle.std.proofs.lemmas.List.{length-map}
use Rattle.fraction_tableau.specs.Programs.{with_row}
use Rattle.form.specs.Payoff.{option_of}
use Rattle.sign_tree.specs.Read.{sign_of}
use Rattle.simplex.specs.Spaces.{Workspace, given, program_given}
use Rattle.master_program.specs.Node.{signed_of}
use Rattle.simplex_run.specs.Places.{fraction_zero}
use Rattle.pricing_oracle.specs.Nodes.{legs_asked, role_as, role_leg_as, roles_left}
use Rattle.pricing_oracle.specs.Programs.{IsOpen, given_with}
use Rattle.pricing_oracle.proofs.ByRole.{node_is}
use Rattle.pricing_oracle.proofs.GivenRows.{not_signed, signed_count, signed_first_count, signed_rows_end, signed_rows_from}
use Rattle.pricing_oracle.proofs.GivenSteps.{all_given, one_row_on, signed_row_fails, signed_row_on, signed_row_width, signed_rows_are}
use Rattle.pricing_oracle.proofs.giving.give_signed_rows.Goals as goal

pub loop-leg-init : goal.loop-leg-init
loop-leg-init g c =
    let value = g.N.Exact.fraction in
    let limit = unsigned_abs g.N.Exact.LIMIT in
    let n = c.args.asked.underlyings in
    let tail = replicate c.args.covers fraction_zero in
    let p = program_given c.args.space.now.contents in
    let legs = c.legs_of-left.ensures.legs in
    let count = ap (λ node. length (signed_of n node)) (node_is (legs_asked value c.args.asked) (map sign_of c.args.signs.now)) ∙ ap (signed_count n) (sym legs) in
    record {
      rows = ap (λ ls. given_with p (signed_count n ls) (signed_rows_from limit n tail ls)) (sym legs);
      stands = subst (IsOpen c.args.space.now (n + 1 + c.args.covers)) count c.requires.program;
      size = (refl, refl);
      row = c.requires.row;
      kept = omega arith;
      at = c.legs_of-left.ensures.at_leg;
    }

pub returns-in_err-write_signed_row-clause-given : goal.returns-in_err-write_signed_row-clause-given
returns-in_err-write_signed_row-clause-given g c =
    let q = err_from_is_err_and c.from_residual.result c.from_residual.ensures.1 in
    let value = g.N.Exact.fraction in
    let limit = unsigned_abs g.N.Exact.LIMIT in
    let n = c.args.asked.underlyings in
    let tail = replicate c.args.covers fraction_zero in
    let l = c.loop-leg in
    rw (q.1, q.2)
    (signed_row_fails limit n tail (roles_left value l.left) (role_leg_as value c.in-Some.leg) (roles_left value c.in-Some.after) (program_given l.space.contents) (map value c.write_signed_row.new.row.items)
    c.write_signed_row.result c.in_err-write_signed_row.field-0.0 _ l.space.contents c.in-Some.ensures.0 (sym c.is_signed.ensures ∙ c.if-is_signed.true)
    (signed_rows_are limit n tail (program_given c.args.space.now.contents) (legs_asked value c.args.asked) (map sign_of c.args.signs.now) ∙ l.invariant.rows) c.in_err-write_signed_row.was c.write_signed_row.ensures.written)

pub row-requires-clause-width : goal.row-requires-clause-width
row-requires-clause-width g c =
    let value = g.N.Exact.fraction in
    let items = c.write_signed_row.new.row.items in
    let width = signed_row_width (unsigned_abs g.N.Exact.LIMIT) c.args.asked.underlyings (role_as c.in-Some.leg.role) (option_of c.in-Some.leg.leg.form.now) c.args.covers (map value items) c.in_ok-write_signed_row.ensures.written in
    omega (arith, ap length c.as_slice.ensures.value, length-map items value, width, c.loop-leg.invariant.stands.width)

pub loop-leg-preserved-in_ok-write_signed_row : goal.loop-leg-preserved-in_ok-write_signed_row
loop-leg-preserved-in_ok-write_signed_row g c =
    let value = g.N.Exact.fraction in
    let limit = unsigned_abs g.N.Exact.LIMIT in
    let n = c.args.asked.underlyings in
    let tail = replicate c.args.covers fraction_zero in
    let l = c.loop-leg in
    let p = program_given l.space.contents in
    let row = map value c.write_signed_row.new.row.items in
    let left = roles_left value l.left in
    let rest = roles_left value c.in-Some.after in
    let signed = sym c.is_signed.ensures ∙ c.if-is_signed.true in
    let count = signed_first_count n left (role_leg_as value c.in-Some.leg) rest c.in-Some.ensures.0 signed in
    let now : c.row.new.self ≡ record l.space { contents = given (with_row p row fraction_zero) } =
    c.row.ensures ∙ (λ i. record l.space { contents = given (with_row p (map value (c.as_slice.ensures.value i)) (c.zero.ensures i)) }) in
    record {
      rows =
          l.invariant.rows
          ∙ signed_row_on limit n tail left (role_leg_as value c.in-Some.leg) rest p row c.in-Some.ensures.0 signed c.in_ok-write_signed_row.ensures.written
          ∙ ap (λ (w : Workspace). given_with (program_given w.contents) (signed_count n rest) (signed_rows_from limit n tail rest)) (sym now);
      stands = one_row_on l.space c.row.new.self (n + 1 + c.args.covers) (signed_count n rest) row fraction_zero now (subst (IsOpen l.space (n + 1 + c.args.covers)) count l.invariant.stands);
      row = omega (arith, l.invariant.row, c.write_signed_row.ensures.capacity);
      kept = omega (arith, l.invariant.kept, c.write_signed_row.ensures.capacity);
      size = (ap (λ (w : Workspace). w.rows) now ∙ l.invariant.size.0, ap (λ (w : Workspace). w.columns) now ∙ l.invariant.size.1);
      at = c.in-Some.ensures.1;
    }

pub loop-leg-preserved : goal.loop-leg-preserved
loop-leg-preserved g c =
    let value = g.N.Exact.fraction in
    let limit = unsigned_abs g.N.Exact.LIMIT in
    let n = c.args.asked.underlyings in
    let tail = replicate c.args.covers fraction_zero in
    let l = c.loop-leg in
    let same = not_signed limit n tail (roles_left value l.left) (role_leg_as value c.in-Some.leg) (roles_left value c.in-Some.after) c.in-Some.ensures.0 (sym c.is_signed.ensures ∙ c.if-is_signed.false) in
    record {
      rows = l.invariant.rows ∙ (λ i. given_with (program_given l.space.contents) (same.1 i) (same.0 i));
      stands = subst (IsOpen l.space (n + 1 + c.args.covers)) same.1 l.invariant.stands;
      size = l.invariant.size;
      row = l.invariant.row;
      kept = l.invariant.kept;
      at = c.in-Some.ensures.1;
    }

pub returns-clause-given : goal.returns-clause-given
returns-clause-given g c =
    let value = g.N.Exact.fraction in
    let limit = unsigned_abs g.N.Exact.LIMIT in
    let n = c.args.asked.underlyings in
    let tail = replicate c.args.covers fraction_zero in
    let l = c.loop-leg in
    let p = program_given l.space.contents in
    signed_rows_are limit n tail (program_given c.args.space.now.contents) (legs_asked value c.args.asked) (map sign_of c.args.signs.now)
    ∙ l.invariant.rows
    ∙ ap (λ legs. given_with p (signed_count n legs) (signed_rows_from limit n tail legs)) c.in_default.ensures
    ∙ ap (given_with p 0) (signed_rows_end limit n tail)
    ∙ all_given l.space.contents l.invariant.stands.given
