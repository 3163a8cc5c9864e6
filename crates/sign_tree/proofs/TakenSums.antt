-- A leaf whose entries are at most the liability is none that the walk finds open.
use Rattle.std.proofs.Common.{◌≡◌, ℕ, zero, suc, ◌+◌, ◌<◌, ◌≤◌, Bool, true, false, List, arith, ℤ, pos, neg_ℤ, ◌+ℤ◌, ◌≤ℤ◌, ◌<ℤ◌, All, Ok, refl}
use Rattle.std.specs.Prelude.{int_lt, if◌then◌else◌}
use Rattle.std.specs.Int.Signed.{lt_z_yes}
use Rattle.std.proofs.lemmas.Float.{T_from_true}
use Rattle.std.proofs.lemmas.Int.{ints}
use Rattle.arithmetic.proofs.Integers.{*ℤ_mono}
use Rattle.exact_num.specs.Fraction.{Fraction}
use Rattle.exact_num.specs.CommonDenominator.{amount_over}
use Rattle.exact_num.proofs.After.{after_value}
use Rattle.clearing_model.specs.Tree.{Sign, liability_at}
use Rattle.clearing_model.specs.Written.{PlacedMultiplier}
use Rattle.exact_num.proofs.LowestRatios.{IsLowestRatio}
use Rattle.sign_tree.specs.Walk.{FractionLeg, entry_sum, entries_close}
use Rattle.sign_tree.proofs.LeafSums.{LegHasAmount, MultiplierHasAmount, RiseFrom, entry_over, entry_stands}

-- a number that stands for one that is not above 0 is not
low_stands : (e : Fraction) (y : ℤ) (D : ℕ) → 1 ≤ D → IsLowestRatio e y D → y ≤ℤ pos 0 → int_lt (pos 0) e.numerator ≡ false
low_stands e y D one st low = by_test (int_lt (pos 0) e.numerator) refl
  where
    by_test : (t : Bool) → int_lt (pos 0) e.numerator ≡ t → int_lt (pos 0) e.numerator ≡ false
    by_test true h =
        let high : pos 0 <ℤ e.numerator = lt_z_yes {a = pos 0} {b = e.numerator} (T_from_true (int_lt (pos 0) e.numerator) h) in
        let least : pos 1 ≤ℤ e.numerator = omega (arith, ints) in
        absurd (omega (arith, ints, *ℤ_mono D (pos 1) e.numerator least, *ℤ_mono e.denominator y (pos 0) low, st.ratio))
    by_test false h = h

pub low_entries : (limit D : ℕ) (legs : List FractionLeg) (L : Fraction) (signs : List Sign) (ms : List PlacedMultiplier) (i left : ℕ)
    → 1 ≤ D → All (LegHasAmount D) legs → All (MultiplierHasAmount D) ms → RiseFrom 1 ms → IsLowestRatio L (amount_over D L) D
    → ((j : ℕ) → i ≤ j → j < i + left → entry_over D j 1 legs signs ms ≤ℤ liability_at (amount_over D L) j)
    → entries_close limit legs L signs ms i left ≡ Ok false → ⊥
low_entries limit D legs L signs ms i zero one legs_are ms_are rise sl low h = cc
low_entries limit D legs L signs ms i (suc left) one legs_are ms_are rise sl low h =
    let first = after_value (entry_sum limit legs L signs ms i) (λ sum. if int_lt (pos 0) sum.numerator then Ok false else entries_close limit legs L signs ms (i + 1) left) false h in
    let stands = entry_stands limit D i legs L signs ms first.value legs_are ms_are rise sl first.first in
    let here : entry_over D i 1 legs signs ms ≤ℤ liability_at (amount_over D L) i = low i (omega arith) (omega arith) in
    let test = low_stands first.value (entry_over D i 1 legs signs ms +ℤ neg_ℤ (liability_at (amount_over D L) i)) D one stands (omega (arith, ints, here)) in
    low_entries limit D legs L signs ms (i + 1) left one legs_are ms_are rise sl (λ j from below. low j (omega arith) (omega arith)) (rw test at first.rest)
