use Rattle.std.proofs.Common.{◌&&◌, sym, ap, ◌∙◌}
use Rattle.serde_json.specs.View.{view}
use Rattle.reply_print.specs.Look.{length_between}
use Rattle.reply_print.proofs.look.is_list_of.Goals as goal

pub returns-then-is_list : goal.returns-then-is_list
returns-then-is_list g c = λ test decides.
    c.has_length.ensures ∙ ap (λ b. b && length_between c.args.low c.args.high (view c.args.value.now)) (sym c.if-is_list.true ∙ c.is_list.ensures test decides)

pub returns-else-is_list : goal.returns-else-is_list
returns-else-is_list g c = λ test decides.
    c.if-is_list.false ∙ ap (λ b. b && length_between c.args.low c.args.high (view c.args.value.now)) (sym c.if-is_list.false ∙ c.is_list.ensures test decides)
