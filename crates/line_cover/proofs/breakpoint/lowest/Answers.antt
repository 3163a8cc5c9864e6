use Rattle.std.proofs.Common.{◌<◌, ◌≤◌, ◌/◌, rules}
use Rattle.arithmetic.specs.Gcd.{gcd}
use Rattle.arithmetic.proofs.GcdLaws.{gcd_pos_left, gcd_dvd_left, pos_of_quotient}
use Rattle.arithmetic.proofs.BinaryGcd.{gcd-le_left}
use Rattle.line_cover.proofs.breakpoint.lowest.Goals as goal

pub overflow_cast-common : goal.overflow_cast-common
overflow_cast-common c =
    let le : gcd c.args.t c.args.s ≤ c.args.t = gcd-le_left c.args.t c.args.s c.requires in
    search (rules, le)

pub nonzero_div-result : goal.nonzero_div-result
nonzero_div-result c =
    rw (c.gcd-common.ensures, c.into.ensures, c.into-2.ensures) (gcd_pos_left c.args.t c.args.s c.requires)

pub nonzero_div-result-2 : goal.nonzero_div-result-2
nonzero_div-result-2 c =
    rw (c.gcd-common.ensures, c.into.ensures, c.into-2.ensures) (gcd_pos_left c.args.t c.args.s c.requires)

pub invariant_of-result : goal.invariant_of-result
invariant_of-result c =
    let above : 0 < c.args.t / gcd c.args.t c.args.s = pos_of_quotient c.args.t (gcd c.args.t c.args.s) c.requires (gcd_pos_left c.args.t c.args.s c.requires) (gcd_dvd_left c.args.t c.args.s) in
    record { scale = rw (c.gcd-common.ensures, c.into.ensures, c.into-2.ensures) above }
