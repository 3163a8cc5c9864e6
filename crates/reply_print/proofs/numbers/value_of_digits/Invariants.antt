use Rattle.std.proofs.Common.{◌≡◌, min, take}
use Rattle.form.specs.Naturals.{natural_value}
use Rattle.reply_print.specs.NumberValues.{largest_size}
use Rattle.reply_print.proofs.numbers.value_of_digits.Given as goal

abbrev pub invariant-loop-digit : goal.invariant-loop-digit
invariant-loop-digit l = l.value ≡ min (natural_value (take l.digit-index l.digits)) largest_size
