use Rattle.std.proofs.Common.{map, Ok, ap, sym, ◌∙◌}
use Rattle.std.proofs.lemmas.List.{length-map}
use Rattle.frac.specs.Range.{limit}
use Rattle.frac.specs.Value.{fraction_of}
use Rattle.line_cover.proofs.Sound.{lines_that_hold_close, lines_that_fail_do_not_close}
use Rattle.frac.proofs.Lowest.{lowest_of}
use Rattle.line_cover.proofs.Enough.{enough_on_line}
use Rattle.line_cover.proofs.verdict.holds_on_line.Goals as goal

pub returns-in-Ok-true-clause-closes : goal.returns-in-Ok-true-clause-closes
returns-in-Ok-true-clause-closes c _ =
    let fs = c.args.fills.now in
    lines_that_hold_close limit c.args.batch.now.orders (map fraction_of fs) (fraction_of c.args.liability.now)
    (length-map fs fraction_of ∙ c.requires.fills) (lowest_of fs) c.args.liability.now.lowest
    (rw (← c.as_slice.ensures) (sym c.line_holds.ensures ∙ c.in-Ok-true.is ∙ ap (λ b. Ok b) c.in-Ok-true.field-0-test))

pub returns-in-Ok-true-clause-enough : goal.returns-in-Ok-true-clause-enough
returns-in-Ok-true-clause-enough c least is =
    let fs = map fraction_of c.args.fills.now in
    enough_on_line c.args.batch.now.orders fs (fraction_of c.args.liability.now) least (returns-in-Ok-true-clause-closes c is)

pub returns-in-Ok-false-clause-does_not_close : goal.returns-in-Ok-false-clause-does_not_close
returns-in-Ok-false-clause-does_not_close c _ =
    let fs = c.args.fills.now in
    lines_that_fail_do_not_close limit c.args.batch.now.orders (map fraction_of fs) (fraction_of c.args.liability.now)
    (length-map fs fraction_of ∙ c.requires.fills) (lowest_of fs) c.args.liability.now.lowest
    (rw (← c.as_slice.ensures) (sym c.line_holds.ensures ∙ c.in-Ok-false.is ∙ ap (λ b. Ok b) c.in-Ok-false.field-0-test))
