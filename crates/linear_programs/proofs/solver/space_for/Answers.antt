use Rattle.std.proofs.Common.{◌≡◌, ◌+◌, ◌*◌, ◌<◌, ◌∙◌, sym, ap, subst, arith, length, map, take, drop, List, ℕ}
use Rattle.std.proofs.lemmas.List.{length-map, take-map, drop-map, drop-drop}
use Rattle.exact_num.specs.Fraction.{IsNotBelowZero}
use Rattle.fraction_tableau.specs.Programs.{empty_program, with_row}
use Rattle.fraction_tableau.proofs.EntrySteps.{at-map}
use Rattle.linear_programs.specs.Programs.{as_program}
use Rattle.simplex.specs.Spaces.{Workspace, Contents, given, program_given, IsProgramGiven}
use Rattle.linear_programs.proofs.SolveSteps.{no_row, one_row_more, all_rows}
use Rattle.linear_programs.proofs.solver.space_for.Goals as goal

pub loop-i-init : goal.loop-i-init
loop-i-init g c =
    let value = g.N.Exact.fraction in
    let p = c.args.program.now in
    let costs : length (map value p.c.items) ≡ p.n = omega (arith, length-map p.c.items value, c.requires.costs, p.c.ok) in
    let none : 0 * p.n ≡ 0 = omega arith in
    record {
      contents =
          ap (λ (w : Workspace). w.contents) c.start.ensures
          ∙ ap (λ (xs : List g.row.N.Denot). given (empty_program (map value xs))) c.as_slice.ensures.value
          ∙ ap given (no_row (as_program value p) costs);
      room = ap (λ (w : Workspace). w.rows) c.start.ensures ∙ c.in_ok-space.ensures.sizes.0;
      left = c.as_slice-left.ensures.value ∙ ap (λ (k : ℕ). drop k p.a.items) (sym none);
    }

pub row-requires-clause-given : goal.row-requires-clause-given
row-requires-clause-given g c = subst IsProgramGiven (sym c.loop-i.invariant.contents) tt

pub row-requires-clause-width : goal.row-requires-clause-width
row-requires-clause-width g c =
    c.split_at.ensures.front_len ∙ sym (ap (λ (d : Contents). (program_given d).variables) c.loop-i.invariant.contents)

pub row-requires-clause-right_side : goal.row-requires-clause-right_side
row-requires-clause-right_side g c =
    let p = c.args.program.now in
    let low : c.loop-i.i < length p.b.items = omega (arith, c.loop-i-test.true, c.requires.right_sides, p.b.ok) in
    subst (λ (z : g.row.N.Denot). IsNotBelowZero (g.N.Exact.fraction z)) (sym c.index.ensures) (c.requires.not_below_zero c.loop-i.i c.index.result.now low)

pub row-requires-clause-room : goal.row-requires-clause-room
row-requires-clause-room g c =
    omega (arith, ap (λ (d : Contents). (program_given d).rows) c.loop-i.invariant.contents, c.loop-i.invariant.room, c.loop-i-test.true)

pub loop-i-preserved : goal.loop-i-preserved
loop-i-preserved g c =
    let value = g.N.Exact.fraction in
    let p = c.args.program.now in
    let i = c.loop-i.i in
    let split = c.split_at.ensures in
    let a = map value c.split_at.result.0.now in
    let b = value c.index.result.now in
    let low : i < length p.b.items = omega (arith, c.loop-i-test.true, c.requires.right_sides, p.b.ok) in
    let low_side : i < length (map value p.b.items) = omega (arith, low, length-map p.b.items value) in
    let is_a = ap (map value) (split.front ∙ ap (take p.n) c.loop-i.invariant.left) ∙ sym (take-map value p.n (drop (i * p.n) p.a.items)) ∙ ap (take p.n) (sym (drop-map value (i * p.n) p.a.items)) in
    let is_b = sym (at-map value p.b.items i c.index.result.now low c.index.ensures) in
    let next : i * p.n + p.n ≡ (i + 1) * p.n = omega arith in
    record {
      contents =
          ap (λ (w : Workspace). w.contents) c.row.ensures
          ∙ ap (λ (d : Contents). given (with_row (program_given d) a b)) c.loop-i.invariant.contents
          ∙ ap given (one_row_more (as_program value p) i a b is_a is_b low_side);
      room = ap (λ (w : Workspace). w.rows) c.row.ensures ∙ c.loop-i.invariant.room;
      left = split.back ∙ ap (drop p.n) c.loop-i.invariant.left ∙ drop-drop p.n (i * p.n) p.a.items ∙ ap (λ (k : ℕ). drop k p.a.items) next;
    }

pub returns : goal.returns
returns g c =
    let value = g.N.Exact.fraction in
    let p = c.args.program.now in
    let last : c.loop-i.i ≡ p.m = omega (arith, c.loop-i-test.false, c.loop-i.auto.i-end) in
    let coefficients : length (map value p.a.items) ≡ p.m * p.n = omega (arith, length-map p.a.items value, c.requires.coefficients, p.a.ok) in
    let sides : length (map value p.b.items) ≡ p.m = omega (arith, length-map p.b.items value, c.requires.right_sides, p.b.ok) in
    c.loop-i.invariant.contents ∙ ap given (all_rows (as_program value p) c.loop-i.i last coefficients sides)
