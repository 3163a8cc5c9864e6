use Rattle.std.proofs.Common.{false, unwrap_or, option_map, ap, ◌∙◌}
use Rattle.reply_print.proofs.look.has_at.Goals as goal

pub returns-in-Some : goal.returns-in-Some
returns-in-Some g c = λ test decides.
    decides c.in-Some.found c.passes.result c.passes.ensures.0 ∙ ap (λ o. unwrap_or (option_map test o) false) c.in-Some.ensures
