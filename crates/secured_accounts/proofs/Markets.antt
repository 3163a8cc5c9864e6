-- The markets of a book by their numbers, as one of them is changed or listed.
use Rattle.std.proofs.Common.{◌≡◌, ℕ, Bool, true, false, cond, List, [], ◌∷◌, ◌++◌, Option, Some, None, if◌then◌else◌, nat_eq, refl, sym, ap, ◌∙◌, arith, ℤ, pos, ◌+ℤ◌, subst}
use Rattle.std.specs.List.{AllByRecursion, IsDistinct}
use Rattle.std.specs.Map.{keys_of, lookup}
use Rattle.std.specs.Option.{option_map, option_map_or}
use Rattle.std.proofs.lemmas.Int.{ints}
use Rattle.std.proofs.lemmas.Map.Keys.{IsDistinct-head, IsDistinct-tail}
use Rattle.std.proofs.lemmas.Bool.{eqb-true}
use Rattle.arithmetic.specs.Sums.{total}
use Rattle.arithmetic.proofs.Tests.{nat_eq-turned}
use Rattle.order_book.specs.Book.{info_of}
use Rattle.order_book.specs.declared.market.MarketInfo.{MarketInfo}
use Rattle.order_book.specs.Markets.{MarketState, Markets, changed_in, with_live, without, without_in_each}
use Rattle.order_book.proofs.MarketLists.{value_found}

-- the underlyings of a market that may be there
abbrev pub underlyings_of : Option MarketState → ℕ
underlyings_of found = option_map_or (λ (info : MarketInfo). info.underlyings) (option_map info_of found) 1

abbrev pub new_market : ℕ → MarketState
new_market underlyings = record { underlyings = underlyings; settled = false; live = [] }

module _ (market : ℕ) where
  -- one market changed, which stays on its underlyings
  pub underlyings-changed : (other : ℕ) (change : MarketState → MarketState) → ((m : MarketState) → (change m).underlyings ≡ m.underlyings) → (markets : Markets)
      → underlyings_of (lookup (nat_eq market) (changed_in change other markets)) ≡ underlyings_of (lookup (nat_eq market) markets)
  underlyings-changed other change same [] = refl
  underlyings-changed other change same (m ∷ markets) = by (nat_eq other m.0) (nat_eq market m.0) refl (underlyings-changed other change same markets)
    where
      by : (b c : Bool) → nat_eq market m.0 ≡ c
          → underlyings_of (lookup (nat_eq market) (changed_in change other markets)) ≡ underlyings_of (lookup (nat_eq market) markets)
          → underlyings_of (lookup (nat_eq market) (if b then (m.0, change m.1) ∷ markets else m ∷ changed_in change other markets))
          ≡ underlyings_of (cond c (Some m.1) (lookup (nat_eq market) markets))
      by true true at later = ap (λ c. underlyings_of (cond c (Some (change m.1)) (lookup (nat_eq market) markets))) at ∙ same m.1
      by true false at later = ap (λ c. underlyings_of (cond c (Some (change m.1)) (lookup (nat_eq market) markets))) at
      by false true at later = ap (λ c. underlyings_of (cond c (Some m.1) (lookup (nat_eq market) (changed_in change other markets)))) at
      by false false at later = ap (λ c. underlyings_of (cond c (Some m.1) (lookup (nat_eq market) (changed_in change other markets)))) at ∙ later

  pub underlyings-without : (number : ℕ) (markets : Markets) → underlyings_of (lookup (nat_eq market) (without_in_each number markets)) ≡ underlyings_of (lookup (nat_eq market) markets)
  underlyings-without number [] = refl
  underlyings-without number (m ∷ markets) =
      elim (nat_eq market m.0) as (λ c. underlyings_of (cond c (Some (with_live m.1 (without number m.1.live))) (lookup (nat_eq market) (without_in_each number markets)))
      ≡ underlyings_of (cond c (Some m.1) (lookup (nat_eq market) markets))) [ true ↦ refl | false ↦ underlyings-without number markets ]

  pub underlyings-listed : (other underlyings : ℕ) → nat_eq market other ≡ false → (markets : Markets)
      → underlyings_of (lookup (nat_eq market) (markets ++ (other, new_market underlyings) ∷ [])) ≡ underlyings_of (lookup (nat_eq market) markets)
  underlyings-listed other underlyings apart [] = ap (λ c. underlyings_of (cond c (Some (new_market underlyings)) None)) apart
  underlyings-listed other underlyings apart (m ∷ markets) =
      elim (nat_eq market m.0) as (λ c. underlyings_of (cond c (Some m.1) (lookup (nat_eq market) (markets ++ (other, new_market underlyings) ∷ [])))
      ≡ underlyings_of (cond c (Some m.1) (lookup (nat_eq market) markets))) [ true ↦ refl | false ↦ underlyings-listed other underlyings apart markets ]

  -- the one that is changed
  pub found_changed : (change : MarketState → MarketState) (markets : Markets) (m : MarketState) → lookup (nat_eq market) markets ≡ Some m
      → lookup (nat_eq market) (changed_in change market markets) ≡ Some (change m)
  found_changed change [] m found = cc
  found_changed change (e ∷ markets) m found = by (nat_eq market e.0) refl found (found_changed change markets m)
    where
      by : (b : Bool) → nat_eq market e.0 ≡ b → cond b (Some e.1) (lookup (nat_eq market) markets) ≡ Some m
          → (lookup (nat_eq market) markets ≡ Some m → lookup (nat_eq market) (changed_in change market markets) ≡ Some (change m))
          → lookup (nat_eq market) (if b then (e.0, change e.1) ∷ markets else e ∷ changed_in change market markets) ≡ Some (change m)
      by true at h later = ap (λ c. cond c (Some (change e.1)) (lookup (nat_eq market) markets)) at ∙ ap (λ s. Some (change s)) (value_found e m h)
      by false at h later = ap (λ c. cond c (Some e.1) (lookup (nat_eq market) (changed_in change market markets))) at ∙ later h

  -- ---- an amount of one market
  abbrev pub paid_in : ℤ → ℕ → ℤ
  paid_in amount n = if nat_eq n market then amount else pos 0

  paid_apart : (amount : ℤ) (keys : List ℕ) → AllByRecursion (λ k. nat_eq market k ≡ false) keys → total (paid_in amount) keys ≡ pos 0
  paid_apart amount [] apart = refl
  paid_apart amount (k ∷ keys) apart =
      let here : paid_in amount k ≡ pos 0 = ap (λ b. if b then amount else pos 0) (nat_eq-turned market k false apart.0) in
      omega (arith, ints, here, paid_apart amount keys apart.1)

  pub paid_once : (amount : ℤ) (markets : Markets) (m : MarketState) → IsDistinct nat_eq (keys_of markets) → lookup (nat_eq market) markets ≡ Some m → total (paid_in amount) (keys_of markets) ≡ amount
  paid_once amount [] m distinct found = cc
  paid_once amount (e ∷ markets) m distinct found =
      by (nat_eq market e.0) refl found (paid_once amount markets m (IsDistinct-tail nat_eq e.0 (keys_of markets) distinct))
    where
      here : (b : Bool) → nat_eq market e.0 ≡ b → paid_in amount e.0 ≡ (if b then amount else pos 0)
      here b at = ap (λ c. if c then amount else pos 0) (nat_eq-turned market e.0 b at)

      by : (b : Bool) → nat_eq market e.0 ≡ b → cond b (Some e.1) (lookup (nat_eq market) markets) ≡ Some m
          → (lookup (nat_eq market) markets ≡ Some m → total (paid_in amount) (keys_of markets) ≡ amount)
          → paid_in amount e.0 +ℤ total (paid_in amount) (keys_of markets) ≡ amount
      by true at h later =
          let own = eqb-true market e.0 at in
          let apart = subst (λ n. AllByRecursion (λ k. nat_eq n k ≡ false) (keys_of markets)) (sym own) (IsDistinct-head nat_eq e.0 (keys_of markets) distinct) in
          omega (arith, ints, here true at, paid_apart amount (keys_of markets) apart)
      by false at h later = omega (arith, ints, here false at, later h)

-- nothing is paid
pub none_paid : (keys : List ℕ) → total (λ (n : ℕ). pos 0) keys ≡ pos 0
none_paid [] = refl
none_paid (k ∷ keys) = omega (arith, ints, none_paid keys)
