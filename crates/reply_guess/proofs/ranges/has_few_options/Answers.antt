use Rattle.std.proofs.Common.{arith}
use Rattle.std.proofs.lemmas.Nat.{mul-le}
use Rattle.reply_guess.proofs.ranges.has_few_options.Goals as goal

pub overflow_mul-result : goal.overflow_mul-result
overflow_mul-result c =
    let most = mul-le c.from.result c.sizes.result 4294967295 131072 (omega (arith, c.from.ensures, c.ranges.quantity.fits)) c.sizes.ensures.bound in
    record { fits = omega (arith, most) }
