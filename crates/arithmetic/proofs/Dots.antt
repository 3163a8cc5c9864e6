-- Sums of products of two lists of whole numbers.
use Rattle.std.proofs.Common.{◌≡◌, ℕ, List, [], ◌∷◌, ◌++◌, length, map, arith, ℤ, pos, ◌+ℤ◌, ◌*ℤ◌}
use Rattle.std.proofs.lemmas.Int.{ints}
use Rattle.arithmetic.specs.Sums.{dot_ℤ}
use Rattle.arithmetic.proofs.Products.{products}

pub dot-append : (cs bs xs ys : List ℤ) → length cs ≡ length xs → dot_ℤ (cs ++ bs) (xs ++ ys) ≡ dot_ℤ cs xs +ℤ dot_ℤ bs ys
dot-append [] bs [] ys h = omega (arith, ints)
dot-append [] bs (x ∷ xs) ys h = absurd (omega (arith, h))
dot-append (a ∷ cs) bs [] ys h = absurd (omega (arith, h))
dot-append (a ∷ cs) bs (x ∷ xs) ys h = omega (arith, ints, dot-append cs bs xs ys (omega (arith, h)))

pub dot-scale : (cs xs : List ℤ) (k : ℕ) → dot_ℤ cs (map (λ x. x *ℤ pos k) xs) ≡ dot_ℤ cs xs *ℤ pos k
dot-scale [] xs k = omega (arith, ints)
dot-scale (a ∷ cs) [] k = omega (arith, ints)
dot-scale (a ∷ cs) (x ∷ xs) k = omega (arith, ints, products, dot-scale cs xs k)
