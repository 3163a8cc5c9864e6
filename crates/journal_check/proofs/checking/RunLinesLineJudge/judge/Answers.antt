use Rattle.std.proofs.Common.{refl}
use Rattle.reply_text.specs.Reading.{reading}
use Rattle.journal_check.specs.Findings.{read_finding}
use Rattle.journal_check.proofs.Found.{by_read}
use Rattle.journal_check.proofs.checking.RunLinesLineJudge.judge.Goals as goal

pub returns-in-Err : goal.returns-in-Err
returns-in-Err c =
    by_read read_finding (λ fault. refl) (reading c.args.line.now) c.fault_finding.result c.in-Err.fault c.fault_finding.ensures.value c.fault_finding.ensures.no_memory c.in-Err.ensures.err
