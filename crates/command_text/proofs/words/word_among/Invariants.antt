use Rattle.std.proofs.Common.{◌≡◌, drop}
use Rattle.command_text.specs.Words.{word_among}
use Rattle.command_text.proofs.words.word_among.Given as goal

abbrev pub invariant-loop-word : goal.invariant-loop-word
invariant-loop-word l = word_among (drop l.word-index l.words) l.text ≡ word_among l.words l.text
