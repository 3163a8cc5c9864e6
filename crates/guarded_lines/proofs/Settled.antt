-- What an account's balance is after several markets are settled: it gains what its positions in them
-- gain.
use Rattle.std.proofs.Common.{◌≡◌, ℕ, ◌≤◌, ◌<◌, List, [], ◌∷◌, ℤ, ◌+ℤ◌, refl, ◌∙◌, arith}
use Rattle.std.specs.List.{All}
use Rattle.std.proofs.lemmas.Bool.{ne_eqb}
use Rattle.std.proofs.lemmas.Int.{ints}
use Rattle.std.proofs.lemmas.List.Elements.{All-head, All-tail}
use Rattle.arithmetic.specs.Sums.{total}
use Rattle.cash_ledger.specs.Entries.{balance_of}
use Rattle.settlement.specs.Positions.{gain_at}
use Rattle.exchange_core.specs.ExchangeState.{ExchangeState}
use Rattle.exchange_core.specs.Step.{settle_effect}
use Rattle.exchange_core.proofs.SettledBalances.{balance_settled, held_apart}
use Rattle.guarded_lines.specs.Margins.{held_by}
use Rattle.guarded_lines.specs.Settlements.{after_settling}
use Rattle.guarded_lines.proofs.Rising.{AreRising}

module _ (account : ℕ) (some : 1 ≤ account) where
  -- what the positions in a market gain at its prices
  abbrev pub gain_of_market : (ℕ → List ℕ) → ExchangeState → ℕ → ℤ
  gain_of_market prices state market = total (gain_at (prices market)) (held_by state account market)

  gains_apart : (prices : ℕ → List ℕ) (state : ExchangeState) (market : ℕ) (markets : List ℕ) → All (λ (m : ℕ). market < m) markets
      → total (gain_of_market prices (settle_effect state market (prices market)).1) markets ≡ total (gain_of_market prices state) markets
  gains_apart prices state market [] above = refl
  gains_apart prices state market (m ∷ markets) above =
      let later_number = All-head (λ (m : ℕ). market < m) m markets above in
      let here = held_apart account some market m (ne_eqb m market (λ same. omega (arith, later_number, same))) state.positions in
      let later = gains_apart prices state market markets (All-tail (λ (m : ℕ). market < m) m markets above) in
      λ i. total (gain_at (prices m)) (here i) +ℤ later i

  added : (b g rest : ℤ) → (b +ℤ g) +ℤ rest ≡ b +ℤ (g +ℤ rest)
  added b g rest = omega (arith, ints)

  pub balance_after : (prices : ℕ → List ℕ) (markets : List ℕ) (state : ExchangeState) → AreRising markets
      → balance_of account (after_settling prices markets state).entries ≡ balance_of account state.entries +ℤ total (gain_of_market prices state) markets
  balance_after prices [] state rising = omega (arith, ints)
  balance_after prices (m ∷ markets) state (above, rising) =
      let next = (settle_effect state m (prices m)).1 in
      balance_after prices markets next rising
      ∙ (λ i. balance_settled account some state m (prices m) i +ℤ gains_apart prices state m markets above i)
      ∙ added (balance_of account state.entries) (gain_of_market prices state m) (total (gain_of_market prices state) markets)
