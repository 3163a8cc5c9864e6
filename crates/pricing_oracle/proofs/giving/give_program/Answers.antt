use Rattle.std.specs.Prelude.{Ok}
use Rattle.exact_num.specs.Fits.{after}
use Rattle.std.proofs.Common.{◌≡◌, ◌+◌, ◌≤◌, ◌∙◌, arith, ap, sym, subst, length, map, replicate, pos, unsigned_abs}
use Rattle.std.proofs.lemmas.Result.{err_from_is_err_and}
use Rattle.std.proofs.lemmas.List.{length-map}
use Rattle.exact_num.specs.Fraction.{whole}
use Rattle.fraction_tableau.specs.Programs.{empty_program, with_row}
use Rattle.sign_tree.specs.Read.{sign_of}
use Rattle.simplex.specs.Spaces.{Contents, Workspace, IsProgramGiven, given, program_given}
use Rattle.master_program.specs.Node.{covers_of, minus_units, signed_of, size_row}
use Rattle.master_program.specs.NodeSteps.{counted_node, cover_rows_steps}
use Rattle.simplex_run.specs.Places.{fraction_zero}
use Rattle.pricing_oracle.specs.Nodes.{legs_asked}
use Rattle.pricing_oracle.specs.Programs.{IsOpen, costs_steps}
use Rattle.pricing_oracle.proofs.ByRole.{cover_count_is, node_is}
use Rattle.pricing_oracle.proofs.GivenRows.{few_rows}
use Rattle.pricing_oracle.proofs.WholeProgram.{after_costs, built_as, cover_rows_of, is_written, not_written, part_fails, program_from, program_is, rows_on, signed_rows_of, sized, written_width}
use Rattle.pricing_oracle.proofs.giving.give_program.Goals as goal

pub returns-in_err-write_costs-clause-given : goal.returns-in_err-write_costs-clause-given
returns-in_err-write_costs-clause-given g c =
    let q = err_from_is_err_and c.from_residual.result c.from_residual.ensures.1 in
    let value = g.N.Exact.fraction in
    let limit = unsigned_abs g.N.Exact.LIMIT in
    let n = c.args.asked.underlyings in
    let legs = legs_asked value c.args.asked in
    let L = value c.args.asked.liability.now in
    let signs = map sign_of c.args.signs.now in
    rw (q.1, q.2)
    (not_written (costs_steps limit n legs L signs) (after_costs limit n (counted_node legs signs)) c.write_costs.result c.in_err-write_costs.field-0.0 (map value c.write_costs.new.row.items) _ c.args.space.now.contents
    (program_is limit n legs L signs) c.in_err-write_costs.was c.write_costs.ensures.written)

pub begin-requires : goal.begin-requires
begin-requires g c =
    let value = g.N.Exact.fraction in
    let n = c.args.asked.underlyings in
    let legs = legs_asked value c.args.asked in
    let L = value c.args.asked.liability.now in
    let signs = map sign_of c.args.signs.now in
    let limit = unsigned_abs g.N.Exact.LIMIT in
    let items = c.write_costs.new.row.items in
    let width = written_width limit n legs L signs (map value items) (is_written (costs_steps limit n legs L signs) (map value items) c.in_ok-write_costs.ensures.written) in
    let long : length c.as_slice.result.now ≡ length items = ap length c.as_slice.ensures.value in
    (omega (arith, width, long, length-map items value), omega (arith, width, long, length-map items value, c.cover_count-covers.ensures.count, c.cover_count-covers.ensures.few, c.requires.columns))

pub give_size_row-requires-clause-program : goal.give_size_row-requires-clause-program
give_size_row-requires-clause-program g c =
    let value = g.N.Exact.fraction in
    let n = c.args.asked.underlyings in
    let legs = legs_asked value c.args.asked in
    let L = value c.args.asked.liability.now in
    let signs = map sign_of c.args.signs.now in
    let limit = unsigned_abs g.N.Exact.LIMIT in
    let items = c.write_costs.new.row.items in
    let width = written_width limit n legs L signs (map value items) (is_written (costs_steps limit n legs L signs) (map value items) c.in_ok-write_costs.ensures.written) in
    let long : length c.as_slice.result.now ≡ length items = ap length c.as_slice.ensures.value in
    subst (λ (w : Workspace). IsOpen w (n + 1 + c.cover_count-covers.result) 1) (sym c.begin.ensures)
    (record { given = tt; width = omega (arith, width, long, length-map c.as_slice.result.now value, length-map items value, c.cover_count-covers.ensures.count); room = omega (arith, c.requires.rows) })

pub give_cover_rows-requires-clause-program : goal.give_cover_rows-requires-clause-program
give_cover_rows-requires-clause-program g c =
    let value = g.N.Exact.fraction in
    let limit = unsigned_abs g.N.Exact.LIMIT in
    let n = c.args.asked.underlyings in
    let legs = legs_asked value c.args.asked in
    let L = value c.args.asked.liability.now in
    let signs = map sign_of c.args.signs.now in
    let node = counted_node legs signs in
    let covers = c.cover_count-covers.result in
    let items = c.write_costs.new.row.items in
    let costs = map value items in
    let written : costs_steps limit n legs L signs ≡ Ok costs = is_written (costs_steps limit n legs L signs) costs c.in_ok-write_costs.ensures.written in
    let begin : c.begin.new.self ≡ record c.args.space.now { contents = given (empty_program costs) } =
    c.begin.ensures ∙ (λ i. record c.args.space.now { contents = given (empty_program (map value (c.as_slice.ensures.value i))) }) in
    let size_given : c.give_size_row.new.space.contents ≡ given (sized n covers costs) =
    c.give_size_row.ensures.given ∙ ap (λ (w : Workspace). given (with_row (program_given w.contents) (map whole (size_row n covers)) (whole (pos 1)))) begin in
    let rows : c.give_size_row.new.space.rows ≡ c.args.space.now.rows = c.give_size_row.ensures.size.0 ∙ ap (λ (w : Workspace). w.rows) begin in
    let width = written_width limit n legs L signs costs written in
    record {
      given = subst IsProgramGiven (sym size_given) tt;
      width = omega (arith, ap (λ (d : Contents). (program_given d).variables) size_given, width, c.cover_count-covers.ensures.count);
      room = omega (arith, ap (λ (d : Contents). (program_given d).rows) size_given, rows, c.requires.rows, c.cover_count-covers.ensures.few);
    }

pub returns-in_err-give_cover_rows-clause-given : goal.returns-in_err-give_cover_rows-clause-given
returns-in_err-give_cover_rows-clause-given g c =
    let q = err_from_is_err_and c.from_residual-in_err-give_cover_rows.result c.from_residual-in_err-give_cover_rows.ensures.1 in
    let value = g.N.Exact.fraction in
    let limit = unsigned_abs g.N.Exact.LIMIT in
    let n = c.args.asked.underlyings in
    let legs = legs_asked value c.args.asked in
    let L = value c.args.asked.liability.now in
    let signs = map sign_of c.args.signs.now in
    let node = counted_node legs signs in
    let covers = c.cover_count-covers.result in
    let items = c.write_costs.new.row.items in
    let costs = map value items in
    let written : costs_steps limit n legs L signs ≡ Ok costs = is_written (costs_steps limit n legs L signs) costs c.in_ok-write_costs.ensures.written in
    let begin : c.begin.new.self ≡ record c.args.space.now { contents = given (empty_program costs) } =
    c.begin.ensures ∙ (λ i. record c.args.space.now { contents = given (empty_program (map value (c.as_slice.ensures.value i))) }) in
    let size_given : c.give_size_row.new.space.contents ≡ given (sized n covers costs) =
    c.give_size_row.ensures.given ∙ ap (λ (w : Workspace). given (with_row (program_given w.contents) (map whole (size_row n covers)) (whole (pos 1)))) begin in
    let rows : c.give_size_row.new.space.rows ≡ c.args.space.now.rows = c.give_size_row.ensures.size.0 ∙ ap (λ (w : Workspace). w.rows) begin in
    let width = written_width limit n legs L signs costs written in
    rw (q.1, q.2)
    (part_fails (cover_rows_of limit n covers node c.give_size_row.new.space.contents) (signed_rows_of limit n (replicate covers fraction_zero) node) c.give_cover_rows.result c.in_err-give_cover_rows.field-0.0 _ c.give_cover_rows.new.space.contents c.give_cover_rows.new.space.contents
    (program_from limit n covers legs L signs costs c.give_size_row.new.space.contents c.cover_count-covers.ensures.count written size_given) c.in_err-give_cover_rows.was c.give_cover_rows.ensures.given)

pub give_signed_rows-requires-clause-program : goal.give_signed_rows-requires-clause-program
give_signed_rows-requires-clause-program g c =
    let value = g.N.Exact.fraction in
    let limit = unsigned_abs g.N.Exact.LIMIT in
    let n = c.args.asked.underlyings in
    let legs = legs_asked value c.args.asked in
    let L = value c.args.asked.liability.now in
    let signs = map sign_of c.args.signs.now in
    let node = counted_node legs signs in
    let covers = c.cover_count-covers.result in
    let items = c.write_costs.new.row.items in
    let costs = map value items in
    let written : costs_steps limit n legs L signs ≡ Ok costs = is_written (costs_steps limit n legs L signs) costs c.in_ok-write_costs.ensures.written in
    let begin : c.begin.new.self ≡ record c.args.space.now { contents = given (empty_program costs) } =
    c.begin.ensures ∙ (λ i. record c.args.space.now { contents = given (empty_program (map value (c.as_slice.ensures.value i))) }) in
    let size_given : c.give_size_row.new.space.contents ≡ given (sized n covers costs) =
    c.give_size_row.ensures.given ∙ ap (λ (w : Workspace). given (with_row (program_given w.contents) (map whole (size_row n covers)) (whole (pos 1)))) begin in
    let rows : c.give_size_row.new.space.rows ≡ c.args.space.now.rows = c.give_size_row.ensures.size.0 ∙ ap (λ (w : Workspace). w.rows) begin in
    let width = written_width limit n legs L signs costs written in
    let p = program_given c.give_size_row.new.space.contents in
    let variables : p.variables ≡ n + 1 + covers = omega (arith, ap (λ (d : Contents). (program_given d).variables) size_given, width, c.cover_count-covers.ensures.count) in
    let signed = ap (λ nd. length (signed_of n nd)) (node_is legs signs) in
    let room : p.rows + covers + length (signed_of n node) ≤ c.give_cover_rows.new.space.rows =
    omega (arith, ap (λ (d : Contents). (program_given d).rows) size_given, rows, c.give_cover_rows.ensures.size.0, c.requires.rows, c.cover_count-covers.ensures.count, cover_count_is legs signs, signed, few_rows n legs c.args.signs.now) in
    rows_on p covers (n + 1 + covers) (length (signed_of n node)) (cover_rows_steps limit n (covers_of node) (minus_units covers)) c.give_cover_rows.new.space c.in_ok-give_cover_rows.ensures.given variables room

pub returns-clause-given : goal.returns-clause-given
returns-clause-given g c =
    let value = g.N.Exact.fraction in
    let limit = unsigned_abs g.N.Exact.LIMIT in
    let n = c.args.asked.underlyings in
    let legs = legs_asked value c.args.asked in
    let L = value c.args.asked.liability.now in
    let signs = map sign_of c.args.signs.now in
    let node = counted_node legs signs in
    let covers = c.cover_count-covers.result in
    let items = c.write_costs.new.row.items in
    let costs = map value items in
    let written : costs_steps limit n legs L signs ≡ Ok costs = is_written (costs_steps limit n legs L signs) costs c.in_ok-write_costs.ensures.written in
    let begin : c.begin.new.self ≡ record c.args.space.now { contents = given (empty_program costs) } =
    c.begin.ensures ∙ (λ i. record c.args.space.now { contents = given (empty_program (map value (c.as_slice.ensures.value i))) }) in
    let size_given : c.give_size_row.new.space.contents ≡ given (sized n covers costs) =
    c.give_size_row.ensures.given ∙ ap (λ (w : Workspace). given (with_row (program_given w.contents) (map whole (size_row n covers)) (whole (pos 1)))) begin in
    let rows : c.give_size_row.new.space.rows ≡ c.args.space.now.rows = c.give_size_row.ensures.size.0 ∙ ap (λ (w : Workspace). w.rows) begin in
    let width = written_width limit n legs L signs costs written in
    built_as c.give_signed_rows.new.space.contents _ (signed_rows_of limit n (replicate covers fraction_zero) node c.give_cover_rows.new.space.contents) c.give_signed_rows.result
    (program_from limit n covers legs L signs costs c.give_size_row.new.space.contents c.cover_count-covers.ensures.count written size_given ∙ ap (λ r. after r (signed_rows_of limit n (replicate covers fraction_zero) node)) c.in_ok-give_cover_rows.ensures.given)
    c.give_signed_rows.ensures.given
