-- The settlement at whole prices, as a loop writes it.
use Rattle.std.proofs.Common.{◌≡◌, ℕ, ◌+◌, ◌<◌, inl, inr, List, [], ◌∷◌, length, map, take, get_or, ℤ, pos, ◌≤ℤ◌, refl, sym, ap, ◌∙◌, arith}
use Rattle.std.specs.List.{sum}
use Rattle.std.proofs.lemmas.Bool.{cases_lt}
use Rattle.std.proofs.lemmas.Int.{ints}
use Rattle.std.proofs.lemmas.List.{get_or-map, get_or-take, length-map, take_all}
use Rattle.std.proofs.lemmas.List.Sums.{sum_by-cons}
use Rattle.form.proofs.Entries.{IsFilledTo}
use Rattle.form.specs.Vector.{positive_part}

parts_of : (z : List ℕ) → map positive_part (map pos z) ≡ z
parts_of [] = refl
parts_of (x ∷ z) = ap (λ (l : List ℕ). x ∷ l) (parts_of z)

module _ (prices : List ℕ) (entries : List ℤ) (i : ℕ) (all : i ≡ length prices) (filled : IsFilledTo (pos 1) (map pos prices) entries i) where
  front : take (length prices + 1) entries ≡ map pos (1 ∷ prices)
  front =
      ap (λ n. take (n + 1) entries) (sym all) ∙ filled.front
      ∙ ap (λ (l : List ℤ). pos 1 ∷ l) (take_all i (map pos prices) (omega (arith, length-map prices pos)))

  -- its vector
  pub vector : map positive_part (take (length prices + 1) entries) ≡ 1 ∷ prices
  vector = ap (map positive_part) front ∙ parts_of (1 ∷ prices)

  pub not_below_zero : (k : ℕ) → pos 0 ≤ℤ get_or entries k (pos 0)
  not_below_zero k = elim (cases_lt k (length prices + 1)) [
    | inl within ↦
        let e = sym (get_or-take (length prices + 1) entries k (pos 0) within) ∙ ap (λ l. get_or l k (pos 0)) front ∙ get_or-map pos (1 ∷ prices) k 0 (pos 0) (omega arith) in
        omega (arith, ints, e)
    | inr past ↦ omega (arith, ints, filled.zeros k (omega arith))
  ]

  pub not_all_zero : 0 < sum (map positive_part (take (length prices + 1) entries))
  not_all_zero = rw vector (omega (arith, sum_by-cons (λ (n : ℕ). n) 1 prices))
