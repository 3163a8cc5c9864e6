use Rattle.std.specs.Prelude.{nat_lt}
use Rattle.std.proofs.Common.{Ok, ◌≡◌, ◌+◌, ◌-◌, ◌∙◌, true, false, arith, refl, ap, sym, subst, length, map, unsigned_abs}
use Rattle.std.proofs.lemmas.Bool.{ltb-true}
use Rattle.std.proofs.lemmas.Result.{err_from_is_err_and}
use Rattle.std.proofs.lemmas.List.{length-map}
use Rattle.exact_num.specs.Tests.{is_above_zero}
use Rattle.sign_tree.specs.Read.{sign_of}
use Rattle.simplex.specs.Spaces.{program_given, reduced_of, value_of, x_of, y_of}
use Rattle.master_program.specs.Search.{legs_in, node_at, leaf_of, on_optimum, program_at}
use Rattle.simplex_run.specs.Ending.{no_unit_left}
use Rattle.simplex_run.specs.Optimum.{IsAsSaid, IsOptimum}
use Rattle.simplex_run.specs.Run.{run}
use Rattle.pricing_oracle.specs.Searches.{HasShown, asked_within, parts_of}
use Rattle.pricing_oracle.proofs.Answered.{is_asked}
use Rattle.pricing_oracle.proofs.NodeEnds.{above_zero, at_zero, built_there, first_are_direction, never_ends_so, never_rises, no_unit, optimum_there, program_stops, run_here, run_stops, steps_have_shape}
use Rattle.pricing_oracle.proofs.TreeSizes.{leaf_sized}
use Rattle.pricing_oracle.proofs.node.open_node.Goals as goal

pub returns-then-not-spend-clause-shown : goal.returns-then-not-spend-clause-shown
returns-then-not-spend-clause-shown g c =
    let value = g.N.Exact.fraction in
    let limit = unsigned_abs g.N.Exact.LIMIT in
    let q = asked_within value limit c.args.budget.now.limit c.args.asked in
    let signs = map sign_of c.args.signs.now in
    let before = c.args.budget.now.spent in
    let same : c.spend.new.self.spent ≡ before = c.spend.ensures.spent ∙ rw c.if-not-spend.true refl in
    no_unit q signs before (sym c.spend.ensures.answer ∙ c.if-not-spend.true) ∙ ap (λ u. no_unit_left u) (sym same)

pub returns-in-Err-clause-shown : goal.returns-in-Err-clause-shown
returns-in-Err-clause-shown g c =
    let value = g.N.Exact.fraction in
    let limit = unsigned_abs g.N.Exact.LIMIT in
    let q = asked_within value limit c.args.budget.now.limit c.args.asked in
    let signs = map sign_of c.args.signs.now in
    let before = c.args.budget.now.spent in
    let left : nat_lt before c.args.budget.now.limit ≡ true = sym c.spend.ensures.answer ∙ c.if-not-spend.false in
    let units : c.spend.new.self.spent ≡ before + 1 = c.spend.ensures.spent ∙ rw c.if-not-spend.false refl in
    let parts = parts_of c.args.room.now.tree in
    program_stops q signs before c.spend.new.self.spent parts parts c.in-Err.wide c.give_program.new.space.contents left units c.in-Err.ensures.given

pub returns-in_err-run-clause-shown : goal.returns-in_err-run-clause-shown
returns-in_err-run-clause-shown g c =
    let p = err_from_is_err_and c.from_residual.result c.from_residual.ensures.1 in
    let value = g.N.Exact.fraction in
    let limit = unsigned_abs g.N.Exact.LIMIT in
    let q = asked_within value limit c.args.budget.now.limit c.args.asked in
    let signs = map sign_of c.args.signs.now in
    let before = c.args.budget.now.spent in
    let left : nat_lt before c.args.budget.now.limit ≡ true = sym c.spend.ensures.answer ∙ c.if-not-spend.false in
    let units : c.spend.new.self.spent ≡ before + 1 = c.spend.ensures.spent ∙ rw c.if-not-spend.false refl in
    let contents = c.give_program.new.space.contents in
    let e = run limit (program_given contents) (c.spend.new.self.limit - c.spend.new.self.spent) c.spend.new.self.spent in
    let is = run_here q signs before contents c.spend.new.self.limit c.spend.new.self.spent left c.in_default.ensures.given c.spend.ensures.limit units in
    let parts = parts_of c.args.room.now.tree in
    rw (p.1, p.2) (run_stops e (on_optimum q (node_at q signs)) c.in_err-run.field-0.0 c.run.new.budget.spent parts parts _ is (sym c.run.ensures.run.answer ∙ c.in_err-run.was) c.run.ensures.run.units)

pub unreachable-requires : goal.unreachable-requires
unreachable-requires g c =
    let value = g.N.Exact.fraction in
    let limit = unsigned_abs g.N.Exact.LIMIT in
    let q = asked_within value limit c.args.budget.now.limit c.args.asked in
    let signs = map sign_of c.args.signs.now in
    let before = c.args.budget.now.spent in
    let left : nat_lt before c.args.budget.now.limit ≡ true = sym c.spend.ensures.answer ∙ c.if-not-spend.false in
    let units : c.spend.new.self.spent ≡ before + 1 = c.spend.ensures.spent ∙ rw c.if-not-spend.false refl in
    let contents = c.give_program.new.space.contents in
    let e = run limit (program_given contents) (c.spend.new.self.limit - c.spend.new.self.spent) c.spend.new.self.spent in
    let is = run_here q signs before contents c.spend.new.self.limit c.spend.new.self.spent left c.in_default.ensures.given c.spend.ensures.limit units in
    let asked = is_asked value limit c.args.budget.now.limit c.args.asked g.met.N.Exact.lowest c.requires.asked c.requires.not_below_zero in
    let count : length signs ≡ length (legs_in q) = length-map c.args.signs.now sign_of ∙ c.requires.count in
    never_rises q signs before e (on_optimum q (node_at q signs)) asked count is (sym c.run.ensures.run.answer ∙ c.in_ok-run.was ∙ ap Ok c.if-not-branch.true)

pub look_at_state-requires-clause-direction : goal.look_at_state-requires-clause-direction
look_at_state-requires-clause-direction g c =
    let value = g.N.Exact.fraction in
    let limit = unsigned_abs g.N.Exact.LIMIT in
    let q = asked_within value limit c.args.budget.now.limit c.args.asked in
    let signs = map sign_of c.args.signs.now in
    let before = c.args.budget.now.spent in
    let contents = c.give_program.new.space.contents in
    let e = run limit (program_given contents) (c.spend.new.self.limit - c.spend.new.self.spent) c.spend.new.self.spent in
    let asked = is_asked value limit c.args.budget.now.limit c.args.asked g.met.N.Exact.lowest c.requires.asked c.requires.not_below_zero in
    let count : length signs ≡ length (legs_in q) = length-map c.args.signs.now sign_of ∙ c.requires.count in
    let now = c.run.new.self.contents in
    let there = optimum_there e now c.run.new.budget.spent (sym c.run.ensures.run.answer ∙ c.in_ok-run.was ∙ ap Ok c.if-not-branch.false) c.run.ensures.run.contents c.run.ensures.run.units in
    let built : program_at q signs ≡ Ok (program_given contents) = built_there (program_at q signs) contents c.in_default.ensures.given in
    let optimal : IsOptimum (program_given contents) (x_of now) (y_of now) (reduced_of now) (value_of now) = subst (IsAsSaid (program_given contents)) there.0 c.run.ensures.holds in
    let above : is_above_zero (value_of now) ≡ true = ap is_above_zero (sym c.value.ensures) ∙ sym c.is_above_zero.ensures ∙ c.if-is_above_zero.true in
    first_are_direction q signs (program_given contents) (x_of now) (y_of now) (reduced_of now) (value_of now) asked built optimal above

pub look_at_state-requires-clause-count : goal.look_at_state-requires-clause-count
look_at_state-requires-clause-count g c =
    let value = g.N.Exact.fraction in
    let limit = unsigned_abs g.N.Exact.LIMIT in
    let q = asked_within value limit c.args.budget.now.limit c.args.asked in
    let signs = map sign_of c.args.signs.now in
    let before = c.args.budget.now.spent in
    let contents = c.give_program.new.space.contents in
    let e = run limit (program_given contents) (c.spend.new.self.limit - c.spend.new.self.spent) c.spend.new.self.spent in
    let now = c.run.new.self.contents in
    let there = optimum_there e now c.run.new.budget.spent (sym c.run.ensures.run.answer ∙ c.in_ok-run.was ∙ ap Ok c.if-not-branch.false) c.run.ensures.run.contents c.run.ensures.run.units in
    let built : program_at q signs ≡ Ok (program_given contents) = built_there (program_at q signs) contents c.in_default.ensures.given in
    let optimal : IsOptimum (program_given contents) (x_of now) (y_of now) (reduced_of now) (value_of now) = subst (IsAsSaid (program_given contents)) there.0 c.run.ensures.holds in
    let shape = steps_have_shape limit c.args.asked.underlyings (legs_in q) (value c.args.asked.liability.now) signs (program_given contents) built in
    omega (arith, optimal.x_sign.count, shape.variables)

pub look_at_state-requires-clause-bounded : goal.look_at_state-requires-clause-bounded
look_at_state-requires-clause-bounded g c d s h =
    let value = g.N.Exact.fraction in
    let limit = unsigned_abs g.N.Exact.LIMIT in
    let q = asked_within value limit c.args.budget.now.limit c.args.asked in
    let signs = map sign_of c.args.signs.now in
    let before = c.args.budget.now.spent in
    let left : nat_lt before c.args.budget.now.limit ≡ true = sym c.spend.ensures.answer ∙ c.if-not-spend.false in
    let units : c.spend.new.self.spent ≡ before + 1 = c.spend.ensures.spent ∙ rw c.if-not-spend.false refl in
    let contents = c.give_program.new.space.contents in
    let e = run limit (program_given contents) (c.spend.new.self.limit - c.spend.new.self.spent) c.spend.new.self.spent in
    let is = run_here q signs before contents c.spend.new.self.limit c.spend.new.self.spent left c.in_default.ensures.given c.spend.ensures.limit units in
    let asked = is_asked value limit c.args.budget.now.limit c.args.asked g.met.N.Exact.lowest c.requires.asked c.requires.not_below_zero in
    let count : length signs ≡ length (legs_in q) = length-map c.args.signs.now sign_of ∙ c.requires.count in
    let now = c.run.new.self.contents in
    let there = optimum_there e now c.run.new.budget.spent (sym c.run.ensures.run.answer ∙ c.in_ok-run.was ∙ ap Ok c.if-not-branch.false) c.run.ensures.run.contents c.run.ensures.run.units in
    let above : is_above_zero (value_of now) ≡ true = ap is_above_zero (sym c.value.ensures) ∙ sym c.is_above_zero.ensures ∙ c.if-is_above_zero.true in
    let ends = above_zero q signs before c.run.new.budget.spent e (x_of now) (y_of now) (reduced_of now) (value_of now) is there.0 above in
    never_ends_so q signs before d s asked count (ends ∙ h)

pub returns-then-is_above_zero-clause-shown : goal.returns-then-is_above_zero-clause-shown
returns-then-is_above_zero-clause-shown g c =
    let value = g.N.Exact.fraction in
    let limit = unsigned_abs g.N.Exact.LIMIT in
    let q = asked_within value limit c.args.budget.now.limit c.args.asked in
    let signs = map sign_of c.args.signs.now in
    let before = c.args.budget.now.spent in
    let left : nat_lt before c.args.budget.now.limit ≡ true = sym c.spend.ensures.answer ∙ c.if-not-spend.false in
    let units : c.spend.new.self.spent ≡ before + 1 = c.spend.ensures.spent ∙ rw c.if-not-spend.false refl in
    let contents = c.give_program.new.space.contents in
    let e = run limit (program_given contents) (c.spend.new.self.limit - c.spend.new.self.spent) c.spend.new.self.spent in
    let is = run_here q signs before contents c.spend.new.self.limit c.spend.new.self.spent left c.in_default.ensures.given c.spend.ensures.limit units in
    let now = c.run.new.self.contents in
    let there = optimum_there e now c.run.new.budget.spent (sym c.run.ensures.run.answer ∙ c.in_ok-run.was ∙ ap Ok c.if-not-branch.false) c.run.ensures.run.contents c.run.ensures.run.units in
    let above : is_above_zero (value_of now) ≡ true = ap is_above_zero (sym c.value.ensures) ∙ sym c.is_above_zero.ensures ∙ c.if-is_above_zero.true in
    let ends = above_zero q signs before c.run.new.budget.spent e (x_of now) (y_of now) (reduced_of now) (value_of now) is there.0 above in
    let parts = parts_of c.args.room.now.tree in
    subst (λ ending. HasShown parts parts ending c.look_at_state.result c.run.new.budget.spent) (sym ends) (c.look_at_state.ensures.shown parts)

pub add_leaf-requires-clause-rows : goal.add_leaf-requires-clause-rows
add_leaf-requires-clause-rows g c =
    let value = g.N.Exact.fraction in
    let limit = unsigned_abs g.N.Exact.LIMIT in
    let q = asked_within value limit c.args.budget.now.limit c.args.asked in
    let signs = map sign_of c.args.signs.now in
    let before = c.args.budget.now.spent in
    let contents = c.give_program.new.space.contents in
    let e = run limit (program_given contents) (c.spend.new.self.limit - c.spend.new.self.spent) c.spend.new.self.spent in
    let now = c.run.new.self.contents in
    let there = optimum_there e now c.run.new.budget.spent (sym c.run.ensures.run.answer ∙ c.in_ok-run.was ∙ ap Ok c.if-not-branch.false) c.run.ensures.run.contents c.run.ensures.run.units in
    let built : program_at q signs ≡ Ok (program_given contents) = built_there (program_at q signs) contents c.in_default.ensures.given in
    let optimal : IsOptimum (program_given contents) (x_of now) (y_of now) (reduced_of now) (value_of now) = subst (IsAsSaid (program_given contents)) there.0 c.run.ensures.holds in
    let shape = steps_have_shape limit c.args.asked.underlyings (legs_in q) (value c.args.asked.liability.now) signs (program_given contents) built in
    optimal.y_sign.count ∙ shape.rows

pub returns-clause-shown : goal.returns-clause-shown
returns-clause-shown g c =
    let value = g.N.Exact.fraction in
    let limit = unsigned_abs g.N.Exact.LIMIT in
    let q = asked_within value limit c.args.budget.now.limit c.args.asked in
    let signs = map sign_of c.args.signs.now in
    let before = c.args.budget.now.spent in
    let left : nat_lt before c.args.budget.now.limit ≡ true = sym c.spend.ensures.answer ∙ c.if-not-spend.false in
    let units : c.spend.new.self.spent ≡ before + 1 = c.spend.ensures.spent ∙ rw c.if-not-spend.false refl in
    let contents = c.give_program.new.space.contents in
    let e = run limit (program_given contents) (c.spend.new.self.limit - c.spend.new.self.spent) c.spend.new.self.spent in
    let is = run_here q signs before contents c.spend.new.self.limit c.spend.new.self.spent left c.in_default.ensures.given c.spend.ensures.limit units in
    let now = c.run.new.self.contents in
    let there = optimum_there e now c.run.new.budget.spent (sym c.run.ensures.run.answer ∙ c.in_ok-run.was ∙ ap Ok c.if-not-branch.false) c.run.ensures.run.contents c.run.ensures.run.units in
    let low : is_above_zero (value_of now) ≡ false = ap is_above_zero (sym c.value.ensures) ∙ sym c.is_above_zero.ensures ∙ c.if-is_above_zero.false in
    (leaf_of (node_at q signs) (y_of now), c.add_leaf.ensures.leaf, at_zero q signs before c.run.new.budget.spent e (x_of now) (y_of now) (reduced_of now) (value_of now) is there.0 low)

pub add_leaf-requires-clause-node : goal.add_leaf-requires-clause-node
add_leaf-requires-clause-node g c =
    let left = ltb-true c.args.budget.now.spent c.args.budget.now.limit (sym c.spend.ensures.answer ∙ c.if-not-spend.false) in
    omega (arith, c.requires.tree.nodes, c.requires.tree.room.nodes, left)

pub add_leaf-requires-clause-multipliers : goal.add_leaf-requires-clause-multipliers
add_leaf-requires-clause-multipliers g c =
    let value = g.N.Exact.fraction in
    let limit = unsigned_abs g.N.Exact.LIMIT in
    let q = asked_within value limit c.args.budget.now.limit c.args.asked in
    let signs = map sign_of c.args.signs.now in
    let before = c.args.budget.now.spent in
    let left : nat_lt before c.args.budget.now.limit ≡ true = sym c.spend.ensures.answer ∙ c.if-not-spend.false in
    let units : c.spend.new.self.spent ≡ before + 1 = c.spend.ensures.spent ∙ rw c.if-not-spend.false refl in
    let contents = c.give_program.new.space.contents in
    let e = run limit (program_given contents) (c.spend.new.self.limit - c.spend.new.self.spent) c.spend.new.self.spent in
    let is = run_here q signs before contents c.spend.new.self.limit c.spend.new.self.spent left c.in_default.ensures.given c.spend.ensures.limit units in
    let asked = is_asked value limit c.args.budget.now.limit c.args.asked g.met.N.Exact.lowest c.requires.asked c.requires.not_below_zero in
    let now = c.run.new.self.contents in
    let there = optimum_there e now c.run.new.budget.spent (sym c.run.ensures.run.answer ∙ c.in_ok-run.was ∙ ap Ok c.if-not-branch.false) c.run.ensures.run.contents c.run.ensures.run.units in
    let low : is_above_zero (value_of now) ≡ false = ap is_above_zero (sym c.value.ensures) ∙ sym c.is_above_zero.ensures ∙ c.if-is_above_zero.false in
    let ends = at_zero q signs before c.run.new.budget.spent e (x_of now) (y_of now) (reduced_of now) (value_of now) is there.0 low in
    let sized = leaf_sized q signs before c.run.new.budget.spent (leaf_of (node_at q signs) (y_of now)) asked ends in
    omega (arith, sized, c.run.new.budget.within, c.run.ensures.limit, c.spend.ensures.limit, c.requires.tree.multipliers, c.requires.tree.room.multipliers)
