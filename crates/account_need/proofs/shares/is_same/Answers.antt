use Rattle.std.proofs.Common.{◌∙◌}
use Rattle.form.proofs.SameOption.{forms_equal}
use Rattle.account_need.proofs.shares.is_same.Goals as goal

pub returns-then-a-b : goal.returns-then-a-b
returns-then-a-b c = c.eq.ensures ∙ forms_equal c.args.a.now c.args.b.now
