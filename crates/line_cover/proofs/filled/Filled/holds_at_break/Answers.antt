use Rattle.std.proofs.Common.{map, zip, sym, ◌∙◌}
use Rattle.frac.specs.Range.{limit}
use Rattle.frac.specs.Value.{fraction_of}
use Rattle.form.specs.Payoff.{option_of}
use Rattle.line_cover.proofs.Earlier.{seen_holds}
use Rattle.line_cover.proofs.filled.Filled.holds_at_break.Goals as goal

pub returns-then-is_seen : goal.returns-then-is_seen
returns-then-is_seen c =
    sym (seen_holds limit (zip c.args.self.now.orders.now (map fraction_of c.args.self.now.fills.now)) (fraction_of c.args.self.now.liability.now) c.args.earlier.now (option_of c.args.form.now) c.requires.earlier (sym c.is_seen.ensures ∙ c.if-is_seen.true))
