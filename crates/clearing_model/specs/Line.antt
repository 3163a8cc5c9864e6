-- The cover of a market with one underlying, by the places where a payoff bends. The amounts may be
-- of either sign.
use Rattle.std.specs.Prelude.{ℕ, List, [], ◌∷◌, get_or, nat_abs, ℤ, pos, ◌*ℤ◌, ◌≤ℤ◌, ◌<ℤ◌}
use Rattle.std.specs.List.{All}
use Rattle.form.specs.Payoff.{BundleLeg, bundle_of}
use Rattle.form.specs.Vector.{strike_entry}
use Rattle.clearing_model.specs.Clearing.{SignedFill, signed_net}

-- the weight of the only underlying
abbrev pub weight_entry : List ℤ → ℤ
weight_entry v = get_or v 1 (pos 0)

-- the net is at most the liability at the price s / t, or in the slope where t is 0
abbrev pub HoldsAtPrice : List SignedFill → ℤ → ℕ → ℕ → Type 0
HoldsAtPrice fills L t s = signed_net fills (t ∷ s ∷ []) ≤ℤ (L *ℤ pos t)

-- it holds at the price, if that is positive, where the option's payoff bends
abbrev pub HoldsAtBreak : List SignedFill → ℤ → List ℤ → Type 0
HoldsAtBreak fills L v =
    (strike_entry v *ℤ weight_entry v) <ℤ pos 0
    → HoldsAtPrice fills L (nat_abs (weight_entry v)) (nat_abs (strike_entry v))

-- it holds at the breakpoint of each leg of the order
abbrev pub HoldsAtBreaks : List SignedFill → ℤ → SignedFill → Type 0
HoldsAtBreaks fills L fill = All (λ (leg : BundleLeg). HoldsAtBreak fills L leg.option) (bundle_of fill.0)

-- it holds where the price is 0, in the slope at last, and at the breakpoints of each order
abbrev pub IsLineCover : List SignedFill → ℤ → Type 0
IsLineCover fills L =
    HoldsAtPrice fills L 1 0
    × HoldsAtPrice fills L 0 1
    × All (HoldsAtBreaks fills L) fills
