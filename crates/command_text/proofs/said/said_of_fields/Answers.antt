use Rattle.std.proofs.Common.{map, option_map, sym, ap, ◌∙◌}
use Rattle.std.proofs.lemmas.Result.{IfOk-weaker}
use Rattle.command_text.specs.Fields.{fields_of_line}
use Rattle.command_text.specs.Said.{said_by_fields}
use Rattle.command_text.proofs.LongLines.{read_by_first, read_by_none}
use Rattle.command_text.proofs.said.said_of_fields.Goals as goal

pub returns-in-Some : goal.returns-in-Some
returns-in-Some c =
    let words = c.args.words.now in
    IfOk-weaker c.said_by_fields.result _ _
    (λ said is.
    read_by_first words said _ (fields_of_line c.args.line.now) (is ∙ ap (λ fields. said_by_fields words (map (λ f. f.now) fields)) c.deref.ensures.value)
    (sym (ap (option_map (λ v. map (λ f. f.now) v.items)) c.in-Some.is) ∙ c.in_ok-fields.ensures))
    c.said_by_fields.ensures

pub returns-in-None : goal.returns-in-None
returns-in-None c =
    read_by_none c.args.words.now (fields_of_line c.args.line.now) (sym (ap (option_map (λ v. map (λ f. f.now) v.items)) c.in-None.is) ∙ c.in_ok-fields.ensures)
