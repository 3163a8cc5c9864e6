-- Prices that are left out are prices of 0.
use Rattle.std.proofs.Common.{◌≡◌, ℕ, ◌+◌, ◌-◌, ◌≤◌, List, [], ◌∷◌, ◌++◌, length, replicate, ℤ, pos, ◌+ℤ◌, ◌*ℤ◌, refl, ap, ◌∙◌, arith}
use Rattle.std.proofs.lemmas.List.{length-append, length-replicate}
use Rattle.form.specs.Payoff.{BundleLeg, dot}
use Rattle.settlement.specs.Payout.{worth_at}
use Rattle.form.proofs.DotSteps.{zero_dot}

dot-with_zero_prices : (v : List ℤ) (z : List ℕ) (k : ℕ) → dot v (z ++ replicate k 0) ≡ dot v z
dot-with_zero_prices [] z k = refl
dot-with_zero_prices (a ∷ v) [] k = zero_dot (a ∷ v) k
dot-with_zero_prices (a ∷ v) (x ∷ z) k = ap (λ s. (a *ℤ pos x) +ℤ s) (dot-with_zero_prices v z k)

pub worth-with_zero_prices : (prices : List ℕ) (k : ℕ) (legs : List BundleLeg) → worth_at (prices ++ replicate k 0) legs ≡ worth_at prices legs
worth-with_zero_prices prices k [] = refl
worth-with_zero_prices prices k (leg ∷ legs) = rw (dot-with_zero_prices leg.option (1 ∷ prices) k, worth-with_zero_prices prices k legs) refl

-- as many prices as underlyings, at which each bundle is worth the same
pub with_zero_prices : (n : ℕ) (prices : List ℕ) → length prices ≤ n → (whole : List ℕ) × (length whole ≡ n) × ((legs : List BundleLeg) → worth_at whole legs ≡ worth_at prices legs)
with_zero_prices n prices few =
    let k : ℕ = n - length prices in
    let count = length-append prices (replicate k 0) ∙ ap (λ m. length prices + m) (length-replicate k 0) in
    (prices ++ replicate k 0, omega (arith, count, few), worth-with_zero_prices prices k)
