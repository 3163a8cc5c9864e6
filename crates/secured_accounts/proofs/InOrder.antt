-- Portfolios of numbers that are put in order.
use Rattle.std.proofs.Common.{◌≡◌, ℕ, Bool, true, false, cond, List, [], ◌∷◌, ◌++◌, map, fold, nat_eq, nat_lt, nat_cmp, Ordering, Less, Equal, Greater, append-nil, ℤ, refl, sym, subst}
use Rattle.std.specs.BTreeSet.{insert_key}
use Rattle.std.specs.List.{AllByRecursion, IsDistinct}
use Rattle.std.specs.Ordering.{match_ordering}
use Rattle.std.proofs.lemmas.Map.Keys.{IsDistinct-head, IsDistinct-tail}
use Rattle.arithmetic.proofs.Tests.{nat_eq-turned}
use Rattle.account_need.specs.Exposure.{IsSecured, Portfolio}
use Rattle.secured_accounts.proofs.Enough.{dropped, swapped, under}

-- a number is none of these
abbrev IsApart : ℕ → List ℕ → Type 0
IsApart n numbers = AllByRecursion (λ k. nat_eq n k ≡ false) numbers

-- two numbers that compare equal are one
not_equal : (n k : ℕ) → nat_cmp n k ≡ Equal → nat_eq n k ≡ false → ⊥
not_equal n k same other = by (nat_lt n k) (nat_eq n k) same other
  where
    by : (less is : Bool) → cond less Less (cond is Equal Greater) ≡ Equal → is ≡ false → ⊥
    by true is e h = cc
    by false true e h = cc
    by false false e h = cc

-- apart from all and from one more
apart_more : (n k : ℕ) (numbers : List ℕ) → nat_eq n k ≡ false → IsApart n numbers → IsApart n (insert_key nat_cmp numbers k)
apart_more n k [] other apart = (other, tt)
apart_more n k (x ∷ numbers) other apart = by (nat_cmp k x) (apart_more n k numbers other apart.1)
  where
    by : (r : Ordering) → IsApart n (insert_key nat_cmp numbers k) → IsApart n (match_ordering r (k ∷ x ∷ numbers) (x ∷ numbers) (x ∷ insert_key nat_cmp numbers k))
    by Less later = (other, apart)
    by Equal later = apart
    by Greater later = (apart.0, later)

-- each of the first is apart from the others
abbrev AreApart : List ℕ → List ℕ → Type 0
AreApart [] numbers = Unit {0}
AreApart (k ∷ keys) numbers = IsApart k numbers × AreApart keys numbers

are_apart_more : (k : ℕ) (keys numbers : List ℕ) → IsApart k keys → AreApart keys numbers → AreApart keys (insert_key nat_cmp numbers k)
are_apart_more k [] numbers apart all = tt
are_apart_more k (key ∷ keys) numbers apart all =
    (apart_more key k numbers (nat_eq-turned k key false apart.0) all.0, are_apart_more k keys numbers apart.1 all.1)

none_apart : (keys : List ℕ) → AreApart keys []
none_apart [] = tt
none_apart (k ∷ keys) = (tt, none_apart keys)

module _ (P : ℕ → Portfolio) where
  -- ---- one number put in its place
  put_in : (numbers : List ℕ) (k : ℕ) (balance : ℤ) → IsSecured (P k ∷ map P numbers) balance → IsSecured (map P (insert_key nat_cmp numbers k)) balance
  put_in [] k balance s = s
  put_in (x ∷ numbers) k balance s = by (nat_cmp k x) (λ b rest. put_in numbers k b rest)
    where
      by : (r : Ordering) → ((b : ℤ) → IsSecured (P k ∷ map P numbers) b → IsSecured (map P (insert_key nat_cmp numbers k)) b)
          → IsSecured (map P (match_ordering r (k ∷ x ∷ numbers) (x ∷ numbers) (x ∷ insert_key nat_cmp numbers k))) balance
      by Less later = s
      by Equal later = dropped (P k) (P x ∷ map P numbers) balance s
      by Greater later =
          under (P x) (P k ∷ map P numbers) (map P (insert_key nat_cmp numbers k)) later balance (swapped (P k) (P x) (map P numbers) balance s)

  taken_out : (numbers : List ℕ) (k : ℕ) (balance : ℤ) → IsApart k numbers → IsSecured (map P (insert_key nat_cmp numbers k)) balance → IsSecured (P k ∷ map P numbers) balance
  taken_out [] k balance apart s = s
  taken_out (x ∷ numbers) k balance apart s = by (nat_cmp k x) refl (λ b rest. taken_out numbers k b apart.1 rest) s
    where
      by : (r : Ordering) → nat_cmp k x ≡ r → ((b : ℤ) → IsSecured (map P (insert_key nat_cmp numbers k)) b → IsSecured (P k ∷ map P numbers) b)
          → IsSecured (map P (match_ordering r (k ∷ x ∷ numbers) (x ∷ numbers) (x ∷ insert_key nat_cmp numbers k))) balance → IsSecured (P k ∷ P x ∷ map P numbers) balance
      by Less is later h = h
      by Equal is later h = absurd (not_equal k x is apart.0)
      by Greater is later h =
          swapped (P x) (P k) (map P numbers) balance (under (P x) (map P (insert_key nat_cmp numbers k)) (P k ∷ map P numbers) later balance h)

  -- ---- behind others
  behind : (keys numbers others : List ℕ) → ((b : ℤ) → IsSecured (map P numbers) b → IsSecured (map P others) b) → (balance : ℤ)
      → IsSecured (map P (keys ++ numbers)) balance → IsSecured (map P (keys ++ others)) balance
  behind [] numbers others step balance s = step balance s
  behind (k ∷ keys) numbers others step balance s =
      under (P k) (map P (keys ++ numbers)) (map P (keys ++ others)) (λ b rest. behind keys numbers others step b rest) balance s

  to_front : (keys : List ℕ) (k : ℕ) (numbers : List ℕ) (balance : ℤ) → IsSecured (map P (keys ++ k ∷ numbers)) balance → IsSecured (P k ∷ map P (keys ++ numbers)) balance
  to_front [] k numbers balance s = s
  to_front (x ∷ keys) k numbers balance s =
      swapped (P x) (P k) (map P (keys ++ numbers)) balance
      (under (P x) (map P (keys ++ k ∷ numbers)) (P k ∷ map P (keys ++ numbers)) (λ b rest. to_front keys k numbers b rest) balance s)

  from_front : (keys : List ℕ) (k : ℕ) (numbers : List ℕ) (balance : ℤ) → IsSecured (P k ∷ map P (keys ++ numbers)) balance → IsSecured (map P (keys ++ k ∷ numbers)) balance
  from_front [] k numbers balance s = s
  from_front (x ∷ keys) k numbers balance s =
      under (P x) (P k ∷ map P (keys ++ numbers)) (map P (keys ++ k ∷ numbers)) (λ b rest. from_front keys k numbers b rest) balance
      (swapped (P k) (P x) (map P (keys ++ numbers)) balance s)

  -- ---- all numbers put in order
  sorted_behind : (keys numbers : List ℕ) (balance : ℤ) → IsSecured (map P (keys ++ numbers)) balance → IsSecured (map P (fold (insert_key nat_cmp) numbers keys)) balance
  sorted_behind [] numbers balance s = s
  sorted_behind (k ∷ keys) numbers balance s =
      sorted_behind keys (insert_key nat_cmp numbers k) balance
      (behind keys (k ∷ numbers) (insert_key nat_cmp numbers k) (λ b rest. put_in numbers k b rest) balance (from_front keys k numbers balance s))

  listed_behind : (keys numbers : List ℕ) (balance : ℤ) → IsDistinct nat_eq keys → AreApart keys numbers
      → IsSecured (map P (fold (insert_key nat_cmp) numbers keys)) balance → IsSecured (map P (keys ++ numbers)) balance
  listed_behind [] numbers balance distinct apart s = s
  listed_behind (k ∷ keys) numbers balance distinct apart s =
      let others = are_apart_more k keys numbers (IsDistinct-head nat_eq k keys distinct) apart.1 in
      let later = listed_behind keys (insert_key nat_cmp numbers k) balance (IsDistinct-tail nat_eq k keys distinct) others s in
      to_front keys k numbers balance
      (behind keys (insert_key nat_cmp numbers k) (k ∷ numbers) (λ b rest. taken_out numbers k b apart.0 rest) balance later)

  pub sorted : (keys : List ℕ) (balance : ℤ) → IsSecured (map P keys) balance → IsSecured (map P (fold (insert_key nat_cmp) [] keys)) balance
  sorted keys balance s = sorted_behind keys [] balance (subst (λ (l : List ℕ). IsSecured (map P l) balance) (sym (append-nil keys)) s)

  pub listed : (keys : List ℕ) (balance : ℤ) → IsDistinct nat_eq keys → IsSecured (map P (fold (insert_key nat_cmp) [] keys)) balance → IsSecured (map P keys) balance
  listed keys balance distinct s = subst (λ (l : List ℕ). IsSecured (map P l) balance) (append-nil keys) (listed_behind keys [] balance distinct (none_apart keys) s)
