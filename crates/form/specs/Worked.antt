-- Payoffs and primitive vectors, worked by hand.
use Rattle.std.specs.Prelude.{◌≡◌, ◌^◌, [], ◌∷◌, pos, negsuc, Ok, Err}
use Rattle.exact_num.specs.declared.misfit.Operator.TheVariants.{Mul}
use Rattle.exact_num.specs.Fraction.{over, whole}
use Rattle.exact_num.specs.Limit.{limit}
use Rattle.exact_num.specs.Fits.{misfit}
use Rattle.form.specs.Steps.{payoff_of}
use Rattle.form.specs.Primitive.{primitive_of}

pub record StatesByHand : Type 0 where
  -- the call with strike 10 pays 2 at the price 12, and nothing at the price 15/2
  pub pays : payoff_of limit (negsuc 9 ∷ pos 1 ∷ []) (1 ∷ 12 ∷ []) ≡ Ok (whole (pos 2))
  pub pays_nothing : payoff_of limit (negsuc 9 ∷ pos 1 ∷ []) (2 ∷ 15 ∷ []) ≡ Ok (whole (pos 0))
  -- 2 * 2^126 is above the limit
  pub payoff_is_wide : payoff_of limit (negsuc 9 ∷ pos 2 ∷ []) (1 ∷ 2 ^ 126 ∷ []) ≡ Err (misfit Mul (whole (pos 2)) (whole (pos (2 ^ 126))))
  -- 3/2 and 9/4 are 6 and 9 over 4, which are 2 and 3 threefold
  pub primitive : primitive_of limit (over (pos 3) 2 ∷ over (pos 9) 4 ∷ []) ≡ Ok (2 ∷ 3 ∷ [])
  -- so is the least common multiple of 2^126 and 3
  pub multiple_is_wide : primitive_of limit (over (pos 1) (2 ^ 126) ∷ over (pos 1) 3 ∷ []) ≡ Err (misfit Mul (whole (pos (2 ^ 126))) (whole (pos 3)))
  -- and 4 * 2^126, for the entry 4
  pub entry_is_wide : primitive_of limit (over (pos 1) (2 ^ 126) ∷ whole (pos 4) ∷ []) ≡ Err (misfit Mul (whole (pos 4)) (whole (pos (2 ^ 126))))
