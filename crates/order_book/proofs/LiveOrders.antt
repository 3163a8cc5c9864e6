-- Orders found by their numbers, and how many have a number.
use Rattle.std.proofs.Common.{◌≡◌, ℕ, ◌+◌, ◌≤◌, Bool, true, false, cond, not, ◌||◌, List, [], ◌∷◌, ◌++◌, length, filter, Option, None, Some, IsSome, is_some, nat_eq, refl, ap, sym, subst, ◌∙◌, arith, if◌then◌else◌}
use Rattle.std.specs.List.{All, AllByRecursion, find, list_any}
use Rattle.std.specs.List.Sorted.{IsStrictlyIncreasing}
use Rattle.std.proofs.lemmas.Bool.Decides.{nat_tests}
use Rattle.std.proofs.lemmas.List.Elements.{All-head, All-tail}
use Rattle.std.proofs.lemmas.List.Kept.{IsStrictlyIncreasing-filter}
use Rattle.std.proofs.lemmas.Option.{same_Some}
use Rattle.form.specs.declared.orders.Order.{Order}
use Rattle.form.specs.Limits.{IsOrderWithin}
use Rattle.order_book.specs.Kept.{IsLive}
use Rattle.order_book.specs.Markets.{has_number, without}
use Rattle.order_book.specs.Numbers.{numbers_of, number_count}

pub any_found : (number : ℕ) (orders : List Order) → is_some (find (has_number number) orders) ≡ list_any (has_number number) orders
any_found number [] = refl
any_found number (o ∷ orders) = by (nat_eq number o.id) (any_found number orders)
  where
    by : (b : Bool) → is_some (find (has_number number) orders) ≡ list_any (has_number number) orders → is_some (cond b (Some o) (find (has_number number) orders)) ≡ (b || list_any (has_number number) orders)
    by true later = refl
    by false later = later

pub none_from_is_some : {X : Type 0} (r : Option X) → is_some r ≡ false → r ≡ None
none_from_is_some None e = refl
none_from_is_some (Some x) e = cc

pub find_none : (number : ℕ) (orders : List Order) → list_any (has_number number) orders ≡ false → find (has_number number) orders ≡ None
find_none number orders none = none_from_is_some (find (has_number number) orders) (any_found number orders ∙ none)

-- orders without the number stay
pub without_none : (number : ℕ) (orders : List Order) → list_any (has_number number) orders ≡ false → without number orders ≡ orders
without_none number [] none = refl
without_none number (o ∷ orders) none = by (nat_eq number o.id) none (without_none number orders)
  where
    by : (b : Bool) → (b || list_any (has_number number) orders) ≡ false → (list_any (has_number number) orders ≡ false → without number orders ≡ orders) → cond (not b) (o ∷ without number orders) (without number orders) ≡ o ∷ orders
    by true h later = cc
    by false h later = ap (λ l. o ∷ l) (later h)

pub length_without : (number : ℕ) (orders : List Order) → length (without number orders) ≤ length orders
length_without number [] = omega arith
length_without number (o ∷ orders) = by (nat_eq number o.id) (length_without number orders)
  where
    by : (b : Bool) → length (without number orders) ≤ length orders → length (cond (not b) (o ∷ without number orders) (without number orders)) ≤ length (o ∷ orders)
    by true later = omega arith
    by false later = omega arith

numbers_without : (number : ℕ) (orders : List Order) → numbers_of (without number orders) ≡ filter (λ k. not (nat_eq number k)) (numbers_of orders)
numbers_without number [] = refl
numbers_without number (o ∷ orders) = by (nat_eq number o.id) (numbers_without number orders)
  where
    by : (b : Bool) → numbers_of (without number orders) ≡ filter (λ k. not (nat_eq number k)) (numbers_of orders)
        → numbers_of (cond (not b) (o ∷ without number orders) (without number orders)) ≡ cond (not b) (o.id ∷ filter (λ k. not (nat_eq number k)) (numbers_of orders)) (filter (λ k. not (nat_eq number k)) (numbers_of orders))
    by true later = later
    by false later = ap (λ l. o.id ∷ l) later

pub rise_without : (number : ℕ) (orders : List Order) → IsStrictlyIncreasing (numbers_of orders) → IsStrictlyIncreasing (numbers_of (without number orders))
rise_without number orders rise = subst IsStrictlyIncreasing (sym (numbers_without number orders)) (IsStrictlyIncreasing-filter (λ k. not (nat_eq number k)) (numbers_of orders) rise)

pub none_has : (number : ℕ) (orders : List Order) → AllByRecursion (λ k. nat_eq number k ≡ false) (numbers_of orders) → list_any (has_number number) orders ≡ false
none_has number [] none = refl
none_has number (o ∷ orders) none = ap (λ b. b || list_any (has_number number) orders) none.0 ∙ none_has number orders none.1

no_order : (found : Order) → None ≡ Some found → IsOrderWithin found
no_order found same = cc

pub found_within : (number : ℕ) (orders : List Order) (found : Order) → All IsOrderWithin orders → find (has_number number) orders ≡ Some found → IsOrderWithin found
found_within number [] found _ same = no_order found same
found_within number (o ∷ orders) found all same = by (nat_eq number o.id) same (found_within number orders found (All-tail IsOrderWithin o orders all))
  where
    by : (b : Bool) → cond b (Some o) (find (has_number number) orders) ≡ Some found → (find (has_number number) orders ≡ Some found → IsOrderWithin found) → IsOrderWithin found
    by true h later = subst IsOrderWithin (same_Some o found h) (All-head IsOrderWithin o orders all)
    by false h later = later h

-- ---- how many have a number
pub number_count-append : (number : ℕ) (xs ys : List Order) → number_count number (xs ++ ys) ≡ number_count number xs + number_count number ys
number_count-append number [] ys = omega arith
number_count-append number (x ∷ xs) ys = omega (arith, number_count-append number xs ys)

pub number_count-without : (q number : ℕ) (orders : List Order) → number_count q (without number orders) ≤ number_count q orders
number_count-without q number [] = omega arith
number_count-without q number (o ∷ orders) = by (nat_eq number o.id) (number_count-without q number orders)
  where
    by : (b : Bool) → number_count q (without number orders) ≤ number_count q orders → number_count q (cond (not b) (o ∷ without number orders) (without number orders)) ≤ number_count q (o ∷ orders)
    by true later = omega arith
    by false later = omega arith

pub some_counted : (number : ℕ) (orders : List Order) → IsSome (find (has_number number) orders) → 1 ≤ number_count number orders
some_counted number [] there = cc
some_counted number (o ∷ orders) there = by (nat_eq number o.id) there (some_counted number orders)
  where
    by : (b : Bool) → IsSome (cond b (Some o) (find (has_number number) orders)) → (IsSome (find (has_number number) orders) → 1 ≤ number_count number orders) → 1 ≤ (if b then 1 else 0) + number_count number orders
    by true h later = omega arith
    by false h later = let more = later h in omega arith

pub none_counted : (number : ℕ) (orders : List Order) → number_count number orders ≡ 0 → list_any (has_number number) orders ≡ false
none_counted number [] none = refl
none_counted number (o ∷ orders) none = by (nat_eq number o.id) none (none_counted number orders)
  where
    by : (b : Bool) → (if b then 1 else 0) + number_count number orders ≡ 0 → (number_count number orders ≡ 0 → list_any (has_number number) orders ≡ false) → (b || list_any (has_number number) orders) ≡ false
    by true h later = absurd (omega arith)
    by false h later = later (omega arith)

next_apart : (accepted id : ℕ) → id ≤ accepted → nat_eq (accepted + 1) id ≡ false
next_apart accepted id bound = grind (arith, nat_tests)

-- no order has the number that comes next
pub fresh_counted : (underlyings accepted : ℕ) (orders : List Order) → All (IsLive underlyings accepted) orders → number_count (accepted + 1) orders ≡ 0
fresh_counted underlyings accepted [] all = refl
fresh_counted underlyings accepted (o ∷ orders) all =
    let other = next_apart accepted o.id (All-head (IsLive underlyings accepted) o orders all).number in
    let count : Bool → ℕ = λ b. if b then 1 else 0 in
    let none : count (nat_eq (accepted + 1) o.id) ≡ count false = ap count other in
    omega (arith, none, fresh_counted underlyings accepted orders (All-tail (IsLive underlyings accepted) o orders all))
