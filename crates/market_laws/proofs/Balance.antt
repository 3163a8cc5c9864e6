-- Fills that balance each bundle owe nothing: bundle by bundle, the amounts of its orders cancel.
use Rattle.std.proofs.Common.{◌≡◌, ℕ, zero, suc, ◌≤◌, Bool, true, false, List, [], ◌∷◌, length, get_or, filter, arith, ℤ, pos, ◌+ℤ◌, ◌*ℤ◌, All, refl, ap, sym, ◌∙◌}
use Rattle.std.proofs.lemmas.Int.{ints}
use Rattle.std.proofs.lemmas.List.Elements.{All-filter, All-head, All-tail}
use Rattle.std.proofs.lemmas.List.Filters.{length-filter_both}
use mathlib.Core.Bool.{not}
use Rattle.form.specs.Payoff.{BundleLeg, bundle_of, bundle_payoff}
use Rattle.clearing_model.specs.Clearing.{Filled, bought, sold, buys_less_sells}
pub use Rattle.form.proofs.SameOption.{same_bundle_is, bundle_is_same}
use Rattle.form.specs.Vector.{is_same_bundle}
use Rattle.clearing_model.specs.Balance.{one_if, balance_of, AreBalanced}
use Rattle.market_laws.specs.Laws.{BalancedOwesNothing}
use Rattle.arithmetic.proofs.Products.{products}

-- whether a fill is of another bundle
abbrev pub is_other : List BundleLeg → Filled → Bool
is_other bundle fill = not (is_same_bundle (bundle_of fill.0) bundle)

abbrev pub others : List BundleLeg → List Filled → List Filled
others bundle fills = filter (is_other bundle) fills

filter_shorter : {A : Type 0} (p : A → Bool) (xs : List A) → length (filter p xs) ≤ length xs
filter_shorter p xs = omega (arith, length-filter_both p (λ x. not (p x)) (λ x. refl) xs)

-- the sum is f of the bundle times its balance, and the sum over the others
set_apart : (f : List BundleLeg → ℤ) (bundle : List BundleLeg) (fills : List Filled)
    → buys_less_sells (λ o. f (bundle_of o)) fills ≡ (f bundle *ℤ balance_of bundle fills) +ℤ buys_less_sells (λ o. f (bundle_of o)) (others bundle fills)
set_apart f bundle [] = omega (arith, ints, products)
set_apart f bundle (fill ∷ fills) = by_test (is_same_bundle (bundle_of fill.0) bundle) refl (set_apart f bundle fills)
  where
    here : ℤ
    here = f (bundle_of fill.0)

    by_test : (t : Bool) → is_same_bundle (bundle_of fill.0) bundle ≡ t
        → buys_less_sells (λ o. f (bundle_of o)) fills ≡ (f bundle *ℤ balance_of bundle fills) +ℤ buys_less_sells (λ o. f (bundle_of o)) (others bundle fills)
        → buys_less_sells (λ o. f (bundle_of o)) (fill ∷ fills) ≡ (f bundle *ℤ balance_of bundle (fill ∷ fills)) +ℤ buys_less_sells (λ o. f (bundle_of o)) (others bundle (fill ∷ fills))
    by_test true e rest =
        let is : here ≡ f bundle = ap f (same_bundle_is (bundle_of fill.0) bundle e) in
        rw e (omega (arith, ints, products, rest, ap (λ (w : ℤ). w *ℤ pos (bought fill)) is, ap (λ (w : ℤ). w *ℤ pos (sold fill)) is))
    by_test false e rest = rw e (omega (arith, ints, products, rest))

owes_nothing : (k : ℕ) (fills : List Filled) → length fills ≤ k → AreBalanced fills → (f : List BundleLeg → ℤ) → buys_less_sells (λ o. f (bundle_of o)) fills ≡ pos 0
owes_nothing k [] few balanced f = refl
owes_nothing zero (fill ∷ fills) few balanced f = absurd (omega arith)
owes_nothing (suc k) (fill ∷ fills) few balanced f =
    let b = bundle_of fill.0 in
    let rest = others b fills in
    let P : Filled → Type 0 = λ g. balance_of (bundle_of g.0) (fill ∷ fills) ≡ pos 0 in
    let Q : Filled → Type 0 = λ g. balance_of (bundle_of g.0) rest ≡ pos 0 in
    let balance : balance_of b (fill ∷ fills) ≡ pos 0 = All-head P fill fills balanced in
    let left : others b (fill ∷ fills) ≡ rest = rw (bundle_is_same b) refl in
    let same : (g : List BundleLeg → ℤ) → buys_less_sells (λ o. g (bundle_of o)) (fill ∷ fills) ≡ buys_less_sells (λ o. g (bundle_of o)) rest =
    λ g. set_apart g b (fill ∷ fills) ∙ apart g left balance in
    let kept : All P rest = All-filter (is_other b) P fills (All-tail P fill fills balanced) in
    same f ∙ owes_nothing k rest (omega (arith, few, filter_shorter (is_other b) fills)) (λ i d lt. sym (same (λ x. one_if (is_same_bundle x (bundle_of (get_or rest i d).0)))) ∙ kept i d lt) f
  where
    apart : (g : List BundleLeg → ℤ) {rest : List Filled} → others (bundle_of fill.0) (fill ∷ fills) ≡ rest → balance_of (bundle_of fill.0) (fill ∷ fills) ≡ pos 0
        → (g (bundle_of fill.0) *ℤ balance_of (bundle_of fill.0) (fill ∷ fills)) +ℤ buys_less_sells (λ o. g (bundle_of o)) (others (bundle_of fill.0) (fill ∷ fills)) ≡ buys_less_sells (λ o. g (bundle_of o)) rest
    apart g left balance = rw (left, balance) (omega (arith, ints))

-- any sum that goes by the bundle alone is 0
pub balanced_sum_is_zero : (fills : List Filled) → AreBalanced fills → (f : List BundleLeg → ℤ) → buys_less_sells (λ o. f (bundle_of o)) fills ≡ pos 0
balanced_sum_is_zero fills balanced f = owes_nothing (length fills) fills (omega arith) balanced f

pub balanced_owes_nothing : BalancedOwesNothing
balanced_owes_nothing fills balanced z = balanced_sum_is_zero fills balanced (λ bundle. bundle_payoff bundle z)
