-- What an account has in all markets of the book, in the order in which they were listed: a balance
-- is enough for these just where it is for those that its need is told of.
use Rattle.std.proofs.Common.{◌≡◌, ℕ, Bool, true, false, ◌&&◌, List, [], ◌∷◌, map, filter, length, nat_eq, if◌then◌else◌, arith, ℤ, refl}
use Rattle.std.specs.List.{IsDistinct}
use Rattle.std.specs.Map.{keys_of}
use Rattle.std.proofs.lemmas.Bool.{and_parts, eqb-true, not-false}
use Rattle.exchange_core.specs.ExchangeState.{ExchangeState}
use Rattle.exchange_core.specs.Held.{market_numbers}
use Rattle.account_need.specs.Account.{Numbered, portfolios}
use Rattle.account_need.specs.Exposure.{IsSecured, Portfolio}
use Rattle.secured_accounts.specs.Secured.{account_of, has_some, numbered_in, part_in}
use Rattle.secured_accounts.proofs.Enough.{HasNothing, added, dropped, under}
use Rattle.secured_accounts.proofs.InOrder.{listed, sorted}

-- ---- markets in which there is nothing
no_items : {X : Type 0} (xs : List X) → nat_eq (length xs) 0 ≡ true → xs ≡ []
no_items [] e = refl
no_items (x ∷ xs) e = absurd (omega (arith, eqb-true (length (x ∷ xs)) 0 e))

has_nothing : (m : Numbered) → has_some m ≡ false → HasNothing m.1
has_nothing m none =
    let parts = and_parts (nat_eq (length m.1.positions) 0) (nat_eq (length m.1.live) 0) (not-false (nat_eq (length m.1.positions) 0 && nat_eq (length m.1.live) 0) none) in
    record { positions = no_items m.1.positions parts.0; live = no_items m.1.live parts.1 }

module _ (state : ExchangeState) (account : ℕ) where
  abbrev pub part : ℕ → Portfolio
  part market = part_in state account market

  abbrev some_of : List ℕ → List Portfolio
  some_of numbers = portfolios (filter has_some (map (numbered_in state account) numbers))

  abbrev if_some : Bool → ℕ → List ℕ → List Portfolio
  if_some some n numbers = portfolios (if some then numbered_in state account n ∷ filter has_some (map (numbered_in state account) numbers) else filter has_some (map (numbered_in state account) numbers))

  with_empty : (numbers : List ℕ) (balance : ℤ) → IsSecured (some_of numbers) balance → IsSecured (map part numbers) balance
  with_empty [] balance s = s
  with_empty (n ∷ numbers) balance s = by (has_some (numbered_in state account n)) refl s (λ b rest. with_empty numbers b rest)
    where
      by : (some : Bool) → has_some (numbered_in state account n) ≡ some → IsSecured (if_some some n numbers) balance
          → ((b : ℤ) → IsSecured (some_of numbers) b → IsSecured (map part numbers) b) → IsSecured (map part (n ∷ numbers)) balance
      by true is h later = under (part n) (some_of numbers) (map part numbers) later balance h
      by false is h later = added (part n) (map part numbers) balance (has_nothing (numbered_in state account n) is) (later balance h)

  without_empty : (numbers : List ℕ) (balance : ℤ) → IsSecured (map part numbers) balance → IsSecured (some_of numbers) balance
  without_empty [] balance s = s
  without_empty (n ∷ numbers) balance s = by (has_some (numbered_in state account n)) (λ b rest. without_empty numbers b rest)
    where
      by : (some : Bool) → ((b : ℤ) → IsSecured (map part numbers) b → IsSecured (some_of numbers) b) → IsSecured (if_some some n numbers) balance
      by true later = under (part n) (map part numbers) (some_of numbers) later balance s
      by false later = later balance (dropped (part n) (map part numbers) balance s)

  -- ---- all markets of the book
  abbrev pub IsEnoughForAll : ℤ → Type 0
  IsEnoughForAll balance = IsSecured (map part (keys_of state.book.markets)) balance

  pub for_all : (balance : ℤ) → IsDistinct nat_eq (keys_of state.book.markets) → IsSecured (portfolios (account_of state account)) balance → IsEnoughForAll balance
  for_all balance distinct s = listed part (keys_of state.book.markets) balance distinct (with_empty (market_numbers state.book) balance s)

  pub for_own : (balance : ℤ) → IsEnoughForAll balance → IsSecured (portfolios (account_of state account)) balance
  for_own balance s = without_empty (market_numbers state.book) balance (sorted part (keys_of state.book.markets) balance s)
