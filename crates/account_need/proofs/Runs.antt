-- Which bound a market has, by the tests of the code.
use Rattle.std.proofs.Common.{◌≡◌, ◌≢◌, ℕ, ◌+◌, ◌<◌, ◌≤◌, ◌||◌, nat_lt, Bool, true, false, List, [], ◌∷◌, length, map, All, Err, arith, refl, ap, ◌∙◌}
use Rattle.std.specs.List.{list_any}
use Rattle.std.proofs.lemmas.Bool.{le-ltb, lt-ltb, ltb-false, ne_eqb}
use Rattle.std.proofs.lemmas.List.{length-map}
use Rattle.std.proofs.lemmas.List.Elements.{All-cons, All-head, All-nil, All-tail}
use Rattle.std.proofs.Math.Bool.{or-true}
use Rattle.form.specs.declared.limits.TheConstants.{MAX_ORDERS}
use Rattle.form.specs.declared.orders.Order.{Order}
use Rattle.form.specs.Limits.{IsOrderWithin}
use Rattle.account_need.specs.declared.need.NoNeed.TheVariants.{Positions}
use Rattle.account_need.specs.declared.sums.FormSum.{FormSum}
use Rattle.account_need.specs.Account.{bound_of, is_large}
use Rattle.account_need.specs.Given.{IsBatched}
use Rattle.account_need.specs.Prices.{IsOrderOn, in_code, option_sum}
use Rattle.account_need.specs.Several.{owing_in, several_bound}
use Rattle.account_need.proofs.Bounded.{bound_by, by_tests}

pub not_large : (sums : List FormSum) → list_any is_large (map option_sum sums) ≡ false → All IsBatched sums
not_large [] e = All-nil IsBatched
not_large (s ∷ sums) e = by (is_large (option_sum s)) refl e (not_large sums)
  where
    by : (b : Bool) → is_large (option_sum s) ≡ b → (b || list_any is_large (map option_sum sums)) ≡ false
        → (list_any is_large (map option_sum sums) ≡ false → All IsBatched sums) → All IsBatched (s ∷ sums)
    by true h e rest = cc
    by false h e rest = All-cons IsBatched s sums (ltb-false _ _ h) (rest e)

module _ (n spent positions : ℕ) (sums : List FormSum) (live : List Order) where
  few_then : length sums + length live ≤ MAX_ORDERS → nat_lt MAX_ORDERS (length (map option_sum sums) + length live) ≡ false
  few_then few = le-ltb MAX_ORDERS _ (omega (arith, few, length-map sums option_sum))

  module _ (several : n ≢ 1) (few : length sums + length live ≤ MAX_ORDERS) where
    pub bound_large : list_any is_large (map option_sum sums) ≡ true → bound_of n spent (in_code sums positions live) ≡ Err Positions
    bound_large large =
        let p = in_code sums positions live in
        by_tests n spent p false false (nat_lt MAX_ORDERS (length (owing_in n p))) true (few_then few) (ne_eqb n 1 several) refl large
        ∙ ap (λ (b : Bool). bound_by b false n spent p) (or-true (nat_lt MAX_ORDERS (length (owing_in n p))))

    pub bound_long : MAX_ORDERS < length (owing_in n (in_code sums positions live)) → bound_of n spent (in_code sums positions live) ≡ Err Positions
    bound_long long =
        let p = in_code sums positions live in
        by_tests n spent p false false true (list_any is_large p.sums) (few_then few) (ne_eqb n 1 several) (lt-ltb MAX_ORDERS _ long) refl

    pub bound_run : list_any is_large (map option_sum sums) ≡ false → length (owing_in n (in_code sums positions live)) ≤ MAX_ORDERS
        → bound_of n spent (in_code sums positions live) ≡ several_bound n spent (in_code sums positions live)
    bound_run small short =
        let p = in_code sums positions live in
        by_tests n spent p false false false false (few_then few) (ne_eqb n 1 several) (le-ltb MAX_ORDERS _ short) small

pub orders_within : (count : ℕ) (live : List Order) → All (IsOrderOn count) live → All IsOrderWithin live
orders_within count [] on = All-nil IsOrderWithin
orders_within count (o ∷ live) on =
    All-cons IsOrderWithin o live (All-head (IsOrderOn count) o live on).within (orders_within count live (All-tail (IsOrderOn count) o live on))
