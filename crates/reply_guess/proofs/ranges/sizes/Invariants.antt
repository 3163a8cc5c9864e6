use Rattle.std.proofs.Common.{◌≡◌, ◌+◌, ◌*◌, ◌≤◌, drop, map, unsigned_abs, sum}
use Rattle.form.specs.declared.legs.Leg.{Leg}
use Rattle.reply_guess.proofs.ranges.sizes.Given as goal

abbrev pub invariant-loop-leg : goal.invariant-loop-leg
invariant-loop-leg l = record {
  total : l.sum + sum (map (λ (leg : Leg). unsigned_abs leg.count) (drop l.leg-index l.legs)) ≡ sum (map (λ (leg : Leg). unsigned_abs leg.count) l.legs);
  small : l.sum ≤ l.leg-index * 32768;
}
