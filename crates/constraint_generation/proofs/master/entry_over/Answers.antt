use Rattle.std.proofs.Common.{◌≡◌, ◌≤◌, ◌^◌, ◌-◌, ◌-ℤ◌, ◌*ℤ◌, rules, arith, pos, get_or, unsigned_abs, FitsSigned, sym}
use Rattle.std.proofs.lemmas.Int.{ints, to_z-of_z}
use mir.Syntax.{w128}
use Rattle.exact_num.proofs.WholeNumbers.{whole_taken, whole_never_wide}
use Rattle.form.specs.States.{vector_of}
use Rattle.constraint_generation.proofs.ShortEntry.{scale_is, short_entry_is}
use Rattle.constraint_generation.proofs.master.entry_over.Goals as goal

pub returns-in_err-entry : goal.returns-in_err-entry
returns-in_err-entry g c =
    let room : 2 ^ 63 - 1 ≤ unsigned_abs g.N.Exact.LIMIT = search (rules, ints, arith) in
    let fits : FitsSigned w128 c.short_difference.result = search rules in
    let taken = rw (to_z-of_z w128 c.short_difference.result fits) at c.from_whole.ensures in
    absurd (whole_never_wide g.N.Exact.fraction c.from_whole.result _ (unsigned_abs g.N.Exact.LIMIT) c.short_difference.result (omega (arith, c.short_difference.ensures.small)) taken c.in_err-entry.was)

pub returns : goal.returns
returns g c =
    let limit = unsigned_abs g.N.Exact.LIMIT in
    let z = vector_of c.args.state.now in
    let t = get_or c.args.state.now.entries 0 (pos 0) in
    let first_is = c.payoff_at_zero-first.ensures in
    let room : 2 ^ 63 - 1 ≤ limit = search (rules, ints, arith) in
    let owed : unsigned_abs c.args.owed ≤ 2 ^ 31 = search rules in
    let first : unsigned_abs c.payoff_at_zero-first.result ≤ 2 ^ 31 = search rules in
    let scale : unsigned_abs t ≤ 2 ^ 31 = search rules in
    let t_is = scale_is c.args.state.now in
    let value : c.short_difference.result ≡ c.args.owed -ℤ (t *ℤ c.payoff_at_zero-first.result) = search rules in
    let fits : FitsSigned w128 c.short_difference.result = search rules in
    let taken = rw (to_z-of_z w128 c.short_difference.result fits) at c.from_whole.ensures in
    let entry = whole_taken g.N.Exact.fraction c.from_whole.result c.in_ok-entry.entry limit c.short_difference.result (omega (arith, c.short_difference.ensures.small)) taken c.in_ok-entry.was in
    rw (c.for_side.ensures, entry, value, first_is, t_is) (sym (short_entry_is limit z c.args.order.now c.args.owed room owed (rw t_is at scale) (rw first_is at first)))
