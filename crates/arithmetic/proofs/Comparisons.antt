-- Comparisons of whole numbers.
use Rattle.std.proofs.Common.{◌≡◌, ℕ, ◌<◌, ℤ, pos, neg_ℤ, ◌+ℤ◌, ◌*ℤ◌, ◌<ℤ◌, ap, sym, ◌∙◌, ◌⊎◌, inl, inr, arith}
use Rattle.std.specs.declared.cmp.Ordering.TheVariants.{Less, Equal, Greater}
use Rattle.std.specs.Ordering.{int_cmp}
use Rattle.std.proofs.lemmas.Int.{ints, by_lt_z}
use Rattle.arithmetic.proofs.Integers.{*ℤ_mono_lt}

pub int_cmp_less : (p q : ℤ) → p <ℤ q → int_cmp p q ≡ Less
int_cmp_less p q h = grind (arith, ints)

pub int_cmp_greater : (p q : ℤ) → q <ℤ p → int_cmp p q ≡ Greater
int_cmp_greater p q h = grind (arith, ints)

pub int_cmp_equal : (p q : ℤ) → p ≡ q → int_cmp p q ≡ Equal
int_cmp_equal p q h = grind (arith, ints)

pub equal_int_cmp : (p q : ℤ) → int_cmp p q ≡ Equal → p ≡ q
equal_int_cmp p q h = grind (arith, ints)

cases_whole : (p q : ℤ) → (p ≡ q) ⊎ ((p <ℤ q) ⊎ (q <ℤ p))
cases_whole p q = by_lt_z p q (λ h. inr (inl h)) (λ h. by_lt_z q p (λ k. inr (inr k)) (λ k. inl (omega (arith, ints))))

-- a factor above 0 changes no order
pub int_cmp-mul : (p q : ℤ) (n : ℕ) → 0 < n → int_cmp (p *ℤ pos n) (q *ℤ pos n) ≡ int_cmp p q
int_cmp-mul p q n h =
    elim (cases_whole p q) [
      | inl e ↦ int_cmp_equal _ _ (ap (λ (z : ℤ). z *ℤ pos n) e) ∙ sym (int_cmp_equal p q e)
      | inr w ↦ elim w [
        | inl l ↦ int_cmp_less _ _ (*ℤ_mono_lt p q n l h) ∙ sym (int_cmp_less p q l)
        | inr g ↦ int_cmp_greater _ _ (*ℤ_mono_lt q p n g h) ∙ sym (int_cmp_greater p q g)
      ]
    ]

-- a difference has the sign of the comparison
pub int_cmp-sub : (p q : ℤ) → int_cmp (p +ℤ neg_ℤ q) (pos 0) ≡ int_cmp p q
int_cmp-sub p q =
    elim (cases_whole p q) [
      | inl e ↦ int_cmp_equal (p +ℤ neg_ℤ q) (pos 0) (omega (arith, ints, e)) ∙ sym (int_cmp_equal p q e)
      | inr w ↦ elim w [
        | inl l ↦ int_cmp_less (p +ℤ neg_ℤ q) (pos 0) (omega (arith, ints, l)) ∙ sym (int_cmp_less p q l)
        | inr g ↦ int_cmp_greater (p +ℤ neg_ℤ q) (pos 0) (omega (arith, ints, g)) ∙ sym (int_cmp_greater p q g)
      ]
    ]
