use Rattle.std.proofs.Common.{◌≡◌, rules, string_bytes, length, arith, ap}
use Rattle.demo_run.specs.Text.{made_text}
use Rattle.demo_run.proofs.Sizes.{made_text_size}
use Rattle.demo_run.proofs.text.demo_text.Goals as goal

pub returns-clause-text : goal.returns-clause-text
unfolding made_text
returns-clause-text c = search rules

pub returns-clause-size : goal.returns-clause-size
returns-clause-size c =
    let size = made_text_size c.args.seed c.args.count in
    let same : length (string_bytes c.push_str.new.self) ≡ length (made_text c.args.seed c.args.count) = ap length (returns-clause-text c) in
    omega (arith, c.requires.few)
