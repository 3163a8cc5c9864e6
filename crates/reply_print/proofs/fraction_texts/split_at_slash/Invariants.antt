use Rattle.std.proofs.Common.{◌≡◌, ◌++◌, take, drop}
use Rattle.reply_print.specs.NumberValues.{before_slash, behind_slash}
use Rattle.reply_print.proofs.fraction_texts.split_at_slash.Given as goal

abbrev pub invariant-loop-i : goal.invariant-loop-i
invariant-loop-i l = record {
  above : before_slash l.text ≡ take l.i l.text ++ before_slash (drop l.i l.text);
  below : behind_slash l.text ≡ behind_slash (drop l.i l.text);
}
