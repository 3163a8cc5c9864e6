use Rattle.std.proofs.Common.{Some, sym, ap, ◌∙◌}
use Rattle.command_text.proofs.FieldTexts.{no_list, texts_are_fields}
use Rattle.command_text.proofs.field_lists.line_fields.Goals as goal

pub returns-in_ok-first_texts : goal.returns-in_ok-first_texts
returns-in_ok-first_texts c = ap Some c.in_ok-first_texts.ensures ∙ texts_are_fields c.args.line.now (sym c.is_list.ensures ∙ c.if-is_list.true)

pub returns-else-is_list : goal.returns-else-is_list
returns-else-is_list c = no_list c.args.line.now (sym c.is_list.ensures ∙ c.if-is_list.false)
