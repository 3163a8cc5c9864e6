-- How payoffs grow along a ray.
use Rattle.std.proofs.Common.{◌≡◌, ℕ, zero, suc, ◌+◌, ◌*◌, ◌≤◌, List, [], ◌∷◌, map, get_or, arith, refl, ℤ, pos, negsuc, nat_abs, neg_ℤ, ◌+ℤ◌, ◌-ℤ◌, ◌*ℤ◌, ap, ◌∙◌}
use Rattle.std.proofs.lemmas.Int.{ints}
use Rattle.form.specs.Vector.{call_of, put_of}
use Rattle.form.specs.Payoff.{dot, positive_part, payoff, BundleLeg, bundle_payoff}
use Rattle.arithmetic.proofs.Along.{along, along-zero}
use Rattle.arithmetic.proofs.Products.{products}
use Rattle.market_laws.specs.Laws.{CallsAndPutsPay}
use Rattle.arithmetic.proofs.Parts.{positive_part_above, positive_part_least}

pub dot-scale : (k : ℕ) (v : List ℤ) (s : List ℕ) → dot v (map (λ x. k * x) s) ≡ dot v s *ℤ pos k
dot-scale k [] s = omega (arith, ints)
dot-scale k (a ∷ v) [] = omega (arith, ints)
dot-scale k (a ∷ v) (x ∷ s) = omega (arith, ints, products, dot-scale k v s)

-- the size of a form's first entry
abbrev pub first_size : List ℤ → ℕ
first_size [] = 0
first_size (a ∷ v) = nat_abs a

-- between a ray, k times as far, and the settlement there, payoffs differ by at most the first
-- entry
payoff_far : (a x : ℤ) (k : ℕ) → (k * positive_part x ≤ positive_part (a +ℤ (x *ℤ pos k)) + nat_abs a) × (positive_part (a +ℤ (x *ℤ pos k)) ≤ k * positive_part x + nat_abs a)
payoff_far a (pos n) k = (
  omega (arith, ints, positive_part_above (a +ℤ pos (n * k))),
  positive_part_least (a +ℤ pos (n * k)) (k * n + nat_abs a) (omega (arith, ints)),
)
payoff_far a (negsuc n) k = (omega arith, positive_part_least (a +ℤ (negsuc n *ℤ pos k)) (k * 0 + nat_abs a) (omega (arith, ints)))

pub payoff_at_ray : (v : List ℤ) (s : List ℕ) (k : ℕ) → (k * payoff v (0 ∷ s) ≤ payoff v (1 ∷ map (λ x. k * x) s) + first_size v) × (payoff v (1 ∷ map (λ x. k * x) s) ≤ k * payoff v (0 ∷ s) + first_size v)
payoff_at_ray [] s k = omega arith
payoff_at_ray (a ∷ v) s k =
    let e : (a *ℤ pos 1) +ℤ dot v (map (λ x. k * x) s) ≡ a +ℤ (dot v s *ℤ pos k) = omega (arith, ints, dot-scale k v s) in
    let z : (a *ℤ pos 0) +ℤ dot v s ≡ dot v s = omega (arith, ints) in
    rw (e, z) (payoff_far a (dot v s) k)

pub dot-along : (v : List ℤ) (z : List ℕ) → dot v z ≡ along (λ i. get_or v i (pos 0)) z
dot-along [] z = omega (arith, ints, along-zero z)
dot-along (a ∷ v) [] = refl
dot-along (a ∷ v) (x ∷ z) = omega (arith, ints, dot-along v z)

pub part-scale : (a : ℤ) (k : ℕ) → positive_part (a *ℤ pos k) ≡ k * positive_part a
part-scale (pos a) k = omega arith
part-scale (negsuc a) k = omega (arith, none (suc a * k))
  where
    none : (n : ℕ) → positive_part (neg_ℤ (pos n)) ≡ 0
    none zero = refl
    none (suc n) = refl

dot-neg : (v : List ℤ) (s : List ℕ) → dot (map neg_ℤ v) s ≡ neg_ℤ (dot v s)
dot-neg [] s = refl
dot-neg (a ∷ v) [] = refl
dot-neg (a ∷ v) (x ∷ s) = omega (arith, ints, products, dot-neg v s)

-- what a bundle pays at a multiple of a state
pub bundle_payoff-scale : (k : ℕ) (bundle : List BundleLeg) (z : List ℕ) → bundle_payoff bundle (map (λ x. k * x) z) ≡ bundle_payoff bundle z *ℤ pos k
bundle_payoff-scale k [] z = omega (arith, ints)
bundle_payoff-scale k (leg ∷ legs) z =
    let pays : payoff leg.option (map (λ x. k * x) z) ≡ k * payoff leg.option z = ap positive_part (dot-scale k leg.option z) ∙ part-scale (dot leg.option z) k in
    rw pays (omega (arith, ints, products, bundle_payoff-scale k legs z))

pub calls_and_puts_pay : CallsAndPutsPay
calls_and_puts_pay K w t s =
    let call : dot (call_of K w) (t ∷ s) ≡ dot w s -ℤ K *ℤ pos t = omega (arith, ints, products) in
    let put : dot (put_of K w) (t ∷ s) ≡ K *ℤ pos t -ℤ dot w s = omega (arith, ints, products, dot-neg w s) in
    (ap positive_part call, ap positive_part put)
