-- How a market is listed: on how many underlyings, and whether it is settled.
use Rattle.std.proofs.Common.{◌≡◌, ℕ, [], ◌∷◌, ◌++◌, Bool, true, false, cond, if◌then◌else◌, nat_eq, Option, Some, refl, ap, ◌∙◌, arith}
use Rattle.std.specs.Map.{lookup}
use Rattle.std.specs.Option.{option_map}
use Rattle.std.proofs.lemmas.Bool.Decides.{nat_tests}
use Rattle.order_book.specs.Markets.{MarketState, Markets, changed_in, settled_market, with_live, without, without_in_each}

-- on how many underlyings a market is, and whether it is settled
abbrev pub listing : MarketState → ℕ × Bool
listing market = (market.underlyings, market.settled)

abbrev pub listed_in : Markets → ℕ → Option (ℕ × Bool)
listed_in markets market = option_map listing (lookup (nat_eq market) markets)

pub same_listing : (a b : ℕ × Bool) → Some a ≡ Some b → a ≡ b
same_listing a b h = cc

module _ (q : ℕ) where
  -- a market of which neither changes, where it is the one asked for
  pub listed-changed : (change : MarketState → MarketState) (market : ℕ) → ((m : MarketState) → nat_eq q market ≡ true → listing (change m) ≡ listing m)
      → (markets : Markets) → listed_in (changed_in change market markets) q ≡ listed_in markets q
  listed-changed change market same [] = refl
  listed-changed change market same (m ∷ markets) = by (nat_eq market m.0) refl (nat_eq q m.0) refl (listed-changed change market same markets)
    where
      own : nat_eq market m.0 ≡ true → nat_eq q m.0 ≡ true → nat_eq q market ≡ true
      own a b = grind (arith, nat_tests)

      by : (b : Bool) → nat_eq market m.0 ≡ b → (c : Bool) → nat_eq q m.0 ≡ c → listed_in (changed_in change market markets) q ≡ listed_in markets q
          → option_map listing (lookup (nat_eq q) (if b then (m.0, change m.1) ∷ markets else m ∷ changed_in change market markets))
          ≡ option_map listing (cond c (Some m.1) (lookup (nat_eq q) markets))
      by true is true at later =
          ap (λ c. option_map listing (cond c (Some (change m.1)) (lookup (nat_eq q) markets))) at ∙ ap Some (same m.1 (own is at))
      by true is false at later = ap (λ c. option_map listing (cond c (Some (change m.1)) (lookup (nat_eq q) markets))) at
      by false is true at later = ap (λ c. option_map listing (cond c (Some m.1) (lookup (nat_eq q) (changed_in change market markets)))) at
      by false is false at later = ap (λ c. option_map listing (cond c (Some m.1) (lookup (nat_eq q) (changed_in change market markets)))) at ∙ later

  pub listed-without : (number : ℕ) (markets : Markets) → listed_in (without_in_each number markets) q ≡ listed_in markets q
  listed-without number [] = refl
  listed-without number (m ∷ markets) =
      elim (nat_eq q m.0) as (λ c.
      option_map listing (cond c (Some (with_live m.1 (without number m.1.live))) (lookup (nat_eq q) (without_in_each number markets)))
      ≡ option_map listing (cond c (Some m.1) (lookup (nat_eq q) markets))) [ true ↦ refl | false ↦ listed-without number markets ]

  pub listed-more : (is : ℕ × Bool) (new : ℕ × MarketState) (markets : Markets) → listed_in markets q ≡ Some is → listed_in (markets ++ new ∷ []) q ≡ Some is
  listed-more is new [] there = cc
  listed-more is new (m ∷ markets) there =
      let Goal : Bool → Type 0 = λ c. option_map listing (cond c (Some m.1) (lookup (nat_eq q) markets)) ≡ Some is
      → option_map listing (cond c (Some m.1) (lookup (nat_eq q) (markets ++ new ∷ []))) ≡ Some is in
      (elim (nat_eq q m.0) as Goal [ true ↦ λ h. h | false ↦ λ h. listed-more is new markets h ]) there

  -- the market that is settled
  pub listed-closed : (n : ℕ) (s : Bool) (markets : Markets) → listed_in markets q ≡ Some (n, s) → listed_in (changed_in settled_market q markets) q ≡ Some (n, true)
  listed-closed n s [] there = cc
  listed-closed n s (m ∷ markets) there = by (nat_eq q m.0) refl there (listed-closed n s markets)
    where
      settled : (m : MarketState) → Some (listing m) ≡ Some (n, s) → Some (listing (settled_market m)) ≡ Some (n, true)
      settled m h = ap (λ (p : ℕ × Bool). Some (p.0, true)) (same_listing (listing m) (n, s) h)

      by : (b : Bool) → nat_eq q m.0 ≡ b → option_map listing (cond b (Some m.1) (lookup (nat_eq q) markets)) ≡ Some (n, s)
          → (listed_in markets q ≡ Some (n, s) → listed_in (changed_in settled_market q markets) q ≡ Some (n, true))
          → option_map listing (lookup (nat_eq q) (if b then (m.0, settled_market m.1) ∷ markets else m ∷ changed_in settled_market q markets)) ≡ Some (n, true)
      by true is h later = ap (λ c. option_map listing (cond c (Some (settled_market m.1)) (lookup (nat_eq q) markets))) is ∙ settled m.1 h
      by false is h later = ap (λ c. option_map listing (cond c (Some m.1) (lookup (nat_eq q) (changed_in settled_market q markets)))) is ∙ later h
