use Rattle.reply_text.proofs.RoundTrip.{answers_line, answers_each_line}
use Rattle.reply_text.proofs.reading.read_line.Goals as goal

pub returns-clause-line : goal.returns-clause-line
returns-clause-line c = answers_line (λ p. p.0) (λ p. p.1) c.args.text.now c.read_either.result c.read_either.ensures.ok

pub returns-clause-each_line : goal.returns-clause-each_line
returns-clause-each_line c = answers_each_line (λ p. p.0) (λ p. p.1) c.args.text.now c.read_either.result c.read_either.ensures.ok c.read_either.ensures.err
