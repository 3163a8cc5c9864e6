-- The need of an account, market by market, as the code comes to it.
use Rattle.std.proofs.Common.{◌≡◌, ℕ, ◌+◌, ◌<◌, ◌≤◌, Bool, List, ◌∷◌, length, Ok, Err, ap, sym, ◌∙◌}
use Rattle.std.specs.Prelude.{if◌then◌else◌}
use Rattle.std.proofs.lemmas.Bool.{le-leb, lt-leb}
use Rattle.frac.specs.Range.{limit as largest}
use Rattle.account_need.specs.declared.need.NoNeed.{NoNeed}
use Rattle.account_need.specs.declared.need.NoNeed.TheVariants.{Sum}
use Rattle.account_need.specs.Account.{bound_of, need_from, on_amount, on_bound}
use Rattle.account_need.specs.Exposure.{Portfolio, asked_by, asked_for}
use Rattle.account_need.specs.Given.{Asked, asked_by_bound, asked_in}
use Rattle.account_need.specs.Rounded.{summed}
use Rattle.account_need.specs.Several.{Bounded}

abbrev amount_in : Asked → ℕ
amount_in (Ok found) = found.0
amount_in (Err word) = 0

abbrev units_in : Asked → ℕ
units_in (Ok found) = found.1
units_in (Err word) = 0

module _ (so_far spent : ℕ) (p : Portfolio) (rest : List Portfolio) where
  -- a market that asks so much
  goes : (asked later : ℕ) → Ok (asked, later) ≡ asked_in spent p → need_from so_far spent (p ∷ rest) ≡ on_amount (so_far + asked) (λ amount. need_from amount later rest)
  goes asked later e = by (bound_of p.underlyings spent (summed p)) e
    where
      by : (b : Bounded) → Ok (asked, later) ≡ asked_by_bound p b
          → on_bound b (λ S units. on_amount (so_far + asked_for p.live (length p.positions) S) (λ amount. need_from amount units rest)) ≡ on_amount (so_far + asked) (λ amount. need_from amount later rest)
      by (Ok (S, units)) e =
          let same : asked ≡ asked_by p S = ap amount_in e in
          let units_same : later ≡ units = ap units_in e in
          λ j. on_amount (so_far + sym same j) (λ amount. need_from amount (sym units_same j) rest)
      by (Err word) e = cc

  pub need_goes : (asked later : ℕ) → Ok (asked, later) ≡ asked_in spent p → so_far + asked ≤ largest → need_from so_far spent (p ∷ rest) ≡ need_from (so_far + asked) later rest
  need_goes asked later e fits =
      goes asked later e ∙ ap (λ (b : Bool). if b then need_from (so_far + asked) later rest else Err Sum) (le-leb (so_far + asked) largest fits)

  pub need_passes : (asked later : ℕ) → Ok (asked, later) ≡ asked_in spent p → largest < so_far + asked → need_from so_far spent (p ∷ rest) ≡ Err Sum
  need_passes asked later e long =
      goes asked later e ∙ ap (λ (b : Bool). if b then need_from (so_far + asked) later rest else Err Sum) (lt-leb (so_far + asked) largest long)

  -- one with a word
  pub need_stops : (word : NoNeed) → Err word ≡ asked_in spent p → need_from so_far spent (p ∷ rest) ≡ Err word
  need_stops word e = by (bound_of p.underlyings spent (summed p)) e
    where
      by : (b : Bounded) → Err word ≡ asked_by_bound p b → on_bound b (λ S units. on_amount (so_far + asked_for p.live (length p.positions) S) (λ amount. need_from amount units rest)) ≡ Err word
      by (Ok (S, units)) e = cc
      by (Err other) e = cc
