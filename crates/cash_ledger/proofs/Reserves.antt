-- What is reserved, as holdings change.
use Rattle.std.proofs.Common.{◌≡◌, ℕ, ℤ, List, true, false, cond, if◌then◌else◌, nat_eq, Option, None, Some, is_some, option_map, unwrap_or, refl, sym, ap, ◌∙◌, arith}
use Rattle.std.specs.Map.{lookup, keys_of}
use Rattle.std.proofs.lemmas.Map.Made.{lookup-map_values, is_some-lookup}
use Rattle.std.proofs.lemmas.Bool.Decides.{nat_tests}
use Rattle.cash_ledger.specs.Ledger.{if_open}
use Rattle.cash_ledger.specs.Kept.{reserve_or_zero, reserves_in}
use Rattle.cash_ledger.specs.declared.holding.Holding.{Holding}

-- what is reserved, by the holdings
abbrev pub reserved_by : List (ℕ × Holding) → ℕ → ℕ
reserved_by accounts q = unwrap_or (lookup (nat_eq q) (reserves_in accounts)) 0

pub reserved_by-lookup : (accounts : List (ℕ × Holding)) (q : ℕ) → reserved_by accounts q ≡ reserve_or_zero (lookup (nat_eq q) accounts)
reserved_by-lookup accounts q =
    ap (λ o. unwrap_or o 0) (lookup-map_values (λ (h : Holding). h.reserved) (nat_eq q) accounts)
    ∙ (elim (lookup (nat_eq q) accounts) as (λ o. unwrap_or (option_map (λ (h : Holding). h.reserved) o) 0 ≡ reserve_or_zero o) [ None ↦ refl | Some h ↦ refl ])

-- the holdings of one account changed
module _ (before after : List (ℕ × Holding)) (account : ℕ) (holding : Holding)
    (changed : (q : ℕ) → lookup (nat_eq q) after ≡ cond (nat_eq account q) (Some holding) (lookup (nat_eq q) before)) where
  pub reserved_by-set : (amount : ℕ) → holding.reserved ≡ amount → (q : ℕ) → reserved_by after q ≡ (if nat_eq account q then amount else reserved_by before q)
  reserved_by-set amount is q =
      reserved_by-lookup after q ∙ ap reserve_or_zero (changed q)
      ∙ (elim (nat_eq account q) as (λ b. reserve_or_zero (cond b (Some holding) (lookup (nat_eq q) before)) ≡ (if b then amount else reserved_by before q)) [
        | true ↦ is
        | false ↦ sym (reserved_by-lookup before q)
      ])

  pub reserved_by-same : reserved_by before account ≡ holding.reserved → (q : ℕ) → reserved_by after q ≡ reserved_by before q
  reserved_by-same same q = let s = reserved_by-set holding.reserved refl q in grind (arith, nat_tests)

-- an account that is open, and one that is not
pub reserved_by-there : (accounts : List (ℕ × Holding)) (account : ℕ) (holding : Holding) → lookup (nat_eq account) accounts ≡ Some holding → reserved_by accounts account ≡ holding.reserved
reserved_by-there accounts account holding there = reserved_by-lookup accounts account ∙ ap reserve_or_zero there

pub reserved_by-none : (accounts : List (ℕ × Holding)) (account : ℕ) → lookup (nat_eq account) accounts ≡ None → reserved_by accounts account ≡ 0
reserved_by-none accounts account none = reserved_by-lookup accounts account ∙ ap reserve_or_zero none

-- what is told of an account that is open
pub if_open-there : (accounts : List (ℕ × Holding)) (account : ℕ) (holding : Holding) (x : ℤ) → lookup (nat_eq account) accounts ≡ Some holding
    → Some x ≡ if_open (keys_of accounts) account x
if_open-there accounts account holding x there =
    ap (λ b. if b then Some x else None) (sym (ap is_some there) ∙ is_some-lookup (nat_eq account) accounts)

pub none_from_is_some : (o : Option Holding) → is_some o ≡ false → o ≡ None
none_from_is_some None is = refl
none_from_is_some (Some holding) is = cc
