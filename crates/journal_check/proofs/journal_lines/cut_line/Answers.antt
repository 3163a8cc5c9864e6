use Rattle.std.proofs.Common.{◌+◌, ◌-◌, ◌∷◌, length, take, drop, take_all, sym, ap, ◌∙◌, arith, length-drop}
use Rattle.journal_check.specs.JournalLines.{lines_of}
use Rattle.journal_check.proofs.FirstLine.{line_before, one_line}
use Rattle.journal_check.proofs.journal_lines.cut_line.Goals as goal

pub returns-in-Some-clause-lines : goal.returns-in-Some-clause-lines
returns-in-Some-clause-lines c =
    let bytes = c.args.bytes.now in
    let end = c.in-Some.end in
    line_before bytes end c.in-Some.ensures
    ∙ ap (λ rest. take end bytes ∷ lines_of rest) (sym (take_all (length bytes - (end + 1)) (drop (end + 1) bytes) (omega (arith, length-drop (end + 1) bytes))))

pub returns-in-None-clause-lines : goal.returns-in-None-clause-lines
returns-in-None-clause-lines c = one_line c.args.bytes.now c.requires c.in-None.ensures
