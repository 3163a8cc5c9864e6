use Rattle.std.proofs.Common.{ap, ◌∙◌}
use Rattle.std.specs.List.{list_all}
use Rattle.serde_json.specs.View.{view}
use Rattle.reply_print.proofs.Items.{is_list-items}
use Rattle.reply_print.proofs.look.is_list.Goals as goal

pub returns-in-Some : goal.returns-in-Some
returns-in-Some g c = λ test decides.
    c.all_pass.ensures test decides ∙ ap (list_all (λ v. test (view v))) c.deref.ensures.value ∙ is_list-items test (view c.args.value.now) c.in-Some.items.now.items c.in-Some.ensures
