-- What an account's balance is after a market is settled: it gains what its positions there gain.
use Rattle.std.proofs.Common.{◌≡◌, ℕ, ◌≤◌, List, [], ◌∷◌, ◌++◌, Bool, true, false, not, ◌&&◌, nat_eq, if◌then◌else◌, map, ℤ, pos, negsuc, neg_ℤ, ◌+ℤ◌, unsigned_abs, refl, ap, ◌∙◌, arith}
use Rattle.std.proofs.lemmas.Bool.Decides.{nat_tests}
use Rattle.std.proofs.lemmas.Int.{ints}
use Rattle.arithmetic.specs.Sums.{total}
use Rattle.arithmetic.proofs.Tests.{nat_eq-turned}
use Rattle.cash_ledger.specs.declared.entry.Cause.TheVariants.{Payoff}
use Rattle.cash_ledger.specs.Entries.{balance_of}
use Rattle.cash_ledger.proofs.Balances.{balance_of-append}
use Rattle.settlement.specs.declared.position.Position.{Position}
use Rattle.settlement.specs.Positions.{gain_at, held_in, outside, paid_out, paid_side, payouts_of}
use Rattle.exchange_core.specs.ExchangeState.{ExchangeState}
use Rattle.exchange_core.specs.Held.{is_held_by, positions_of}
use Rattle.exchange_core.specs.Payoffs.{payoff_entries, payoff_of, payoff_transfer}
use Rattle.exchange_core.specs.Step.{settle_effect}

module _ (account : ℕ) (some : 1 ≤ account) where
  not_house : nat_eq account 0 ≡ false
  not_house = grind (arith, nat_tests)

  -- ---- one payout
  -- an amount, where it is of the account
  abbrev if_own : ℕ → ℤ → ℤ
  if_own owner amount = if nat_eq account owner then amount else pos 0

  transferred : (owner : ℕ) (batch : ℕ) (gain : ℤ)
      → balance_of account (payoff_transfer (paid_side gain) owner (unsigned_abs gain) (Payoff batch)) ≡ if_own owner gain
  transferred owner batch (pos n) =
      elim (nat_eq account owner) as (λ b.
      (if nat_eq account 0 then neg_ℤ (pos n) else pos 0) +ℤ ((if b then pos n else pos 0) +ℤ pos 0) ≡ (if b then pos n else pos 0)) [
        | true ↦ rw not_house (omega (arith, ints))
        | false ↦ rw not_house (omega (arith, ints))
      ]
  transferred owner batch (negsuc n) =
      elim (nat_eq account owner) as (λ b.
      (if b then negsuc n else pos 0) +ℤ ((if nat_eq account 0 then pos (unsigned_abs (negsuc n)) else pos 0) +ℤ pos 0) ≡ (if b then negsuc n else pos 0)) [
        | true ↦ rw not_house (omega (arith, ints))
        | false ↦ rw not_house (omega (arith, ints))
      ]

  paid : (prices : List ℕ) (p : Position) → balance_of account (payoff_of (paid_out prices p)) ≡ if_own p.account (gain_at prices p)
  paid prices p = transferred p.account p.batch (gain_at prices p)

  -- ---- all of a market
  payoffs : (market : ℕ) (prices : List ℕ) (ps : List Position)
      → balance_of account (payoff_entries (payouts_of market prices ps)) ≡ total (gain_at prices) (positions_of account market ps)
  payoffs market prices [] = refl
  payoffs market prices (p ∷ ps) = by (nat_eq p.market market) (nat_eq p.account account) refl (payoffs market prices ps)
    where
      first : (own : Bool) → nat_eq p.account account ≡ own → balance_of account (payoff_of (paid_out prices p)) ≡ (if own then gain_at prices p else pos 0)
      first own e = paid prices p ∙ ap (λ b. if b then gain_at prices p else pos 0) (nat_eq-turned p.account account own e)

      both : (own : Bool) → nat_eq p.account account ≡ own → balance_of account (payoff_entries (payouts_of market prices ps)) ≡ total (gain_at prices) (positions_of account market ps)
          → balance_of account (payoff_of (paid_out prices p) ++ payoff_entries (payouts_of market prices ps))
          ≡ (if own then gain_at prices p else pos 0) +ℤ total (gain_at prices) (positions_of account market ps)
      both own e later = balance_of-append account (payoff_of (paid_out prices p)) (payoff_entries (payouts_of market prices ps)) ∙ (λ i. first own e i +ℤ later i)

      by : (here own : Bool) → nat_eq p.account account ≡ own → balance_of account (payoff_entries (payouts_of market prices ps)) ≡ total (gain_at prices) (positions_of account market ps)
          → balance_of account (payoff_entries (map (paid_out prices) (if here then p ∷ held_in market ps else held_in market ps)))
          ≡ total (gain_at prices) (if own && here then p ∷ positions_of account market ps else positions_of account market ps)
      by true true e later = both true e later
      by true false e later = both false e later ∙ omega (arith, ints)
      by false true e later = later
      by false false e later = later

  -- ---- the exchange after one market
  pub balance_settled : (state : ExchangeState) (market : ℕ) (prices : List ℕ)
      → balance_of account (settle_effect state market prices).1.entries ≡ balance_of account state.entries +ℤ total (gain_at prices) (positions_of account market state.positions)
  balance_settled state market prices =
      balance_of-append account state.entries (payoff_entries (payouts_of market prices state.positions))
      ∙ ap (λ (x : ℤ). balance_of account state.entries +ℤ x) (payoffs market prices state.positions)

  -- the positions in another market stay
  pub held_apart : (market other : ℕ) → nat_eq other market ≡ false → (ps : List Position) → positions_of account other (outside market ps) ≡ positions_of account other ps
  held_apart market other apart [] = refl
  held_apart market other apart (p ∷ ps) = by (nat_eq p.market market) refl (held_apart market other apart ps)
    where
      not_there : nat_eq p.market market ≡ true → nat_eq p.market other ≡ false
      not_there here = grind (arith, nat_tests)

      skipped : (own there : Bool) → there ≡ false → positions_of account other ps ≡ (if own && there then p ∷ positions_of account other ps else positions_of account other ps)
      skipped own true e = absurd (cc)
      skipped true false e = refl
      skipped false false e = refl

      by : (here : Bool) → nat_eq p.market market ≡ here → positions_of account other (outside market ps) ≡ positions_of account other ps
          → positions_of account other (if not here then p ∷ outside market ps else outside market ps) ≡ positions_of account other (p ∷ ps)
      by true here later = later ∙ skipped (nat_eq p.account account) (nat_eq p.market other) (not_there here)
      by false here later = ap (λ (l : List Position). if is_held_by account other p then p ∷ l else l) later
