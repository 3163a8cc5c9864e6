use Rattle.std.proofs.Common.{sym, ◌∙◌}
use Rattle.command_text.proofs.FieldTexts.{bare_list, list_by_test, not_to_read}
use Rattle.command_text.proofs.field_lists.is_list.Goals as goal

pub returns-then-is_bare : goal.returns-then-is_bare
returns-then-is_bare c = c.if-is_bare.true ∙ bare_list c.args.line.now (sym c.is_bare.ensures ∙ c.if-is_bare.true)

pub returns-then-is_plain : goal.returns-then-is_plain
returns-then-is_plain c = c.are_fields.ensures ∙ list_by_test c.args.line.now (sym c.is_plain.ensures ∙ c.if-is_plain.true)

pub returns-else-is_plain : goal.returns-else-is_plain
returns-else-is_plain c = c.if-is_plain.false ∙ not_to_read c.args.line.now (sym c.is_plain.ensures ∙ c.if-is_plain.false)
