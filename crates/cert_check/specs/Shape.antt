-- The shape of a batch and its outcome, and its fills.
use Rattle.std.specs.Prelude.{ℕ, ◌+◌, ◌==◌, List, [], ◌∷◌, length, int_le, nat_lt, Bool, true, ◌&&◌, pos}
use Rattle.std.specs.List.{list_all}
use Rattle.exact_num.specs.Tests.{is_at_most}
use Rattle.exact_num.specs.Fraction.{Fraction, whole}
use Rattle.frac.specs.Value.{fraction_of}
use Rattle.frac.specs.declared.frac128.Frac128.{Frac128}
use Rattle.form.specs.declared.orders.Order.{Order}
use Rattle.form.specs.declared.orders.Batch.{Batch}
use Rattle.form.specs.Payoff.{is_on_count}
use Rattle.cert_check.specs.declared.measures.Weighted.{Weighted}
use Rattle.cert_check.specs.declared.measures.Measure.{Measure}
use Rattle.cert_check.specs.Points.{IsOnStates}
use Rattle.cert_check.specs.declared.outcome.Cover.{Cover}
use Rattle.cert_check.specs.declared.outcome.Cover.TheVariants.{Line, Tree}
use Rattle.cert_check.specs.declared.outcome.Mark.{Mark}
use Rattle.cert_check.specs.declared.outcome.Mark.TheVariants.{Optimal, Wide, Budget}
use Rattle.cert_check.specs.declared.outcome.Outcome.{Outcome}
use Rattle.cert_check.specs.Conditions.{IfOptimal, IsCoverOn}

-- whether each leg's form, or each state, has so many entries
abbrev pub forms_have : ℕ → List Order → Bool
forms_have entries orders = list_all (λ (order : Order). is_on_count entries order.bundle) orders

abbrev pub states_have : ℕ → List Weighted → Bool
states_have entries points = list_all (λ (point : Weighted). point.state.count == entries) points

-- a line is the cover of one underlying, and a tree of several
abbrev pub cover_fits : ℕ → Cover → Bool
cover_fits n Line = n == 1
cover_fits n (Tree tree) = nat_lt 1 n

-- the cover and the states of a certificate are those of n underlyings
abbrev pub certificate_fits : ℕ → Cover → Measure → Bool
certificate_fits n cover measure = cover_fits n cover && states_have (n + 1) measure.points

abbrev pub mark_fits : ℕ → Mark → Bool
mark_fits n (Optimal cover measure) = certificate_fits n cover measure
mark_fits n (Wide w) = true
mark_fits n Budget = true

-- the cover and the states of an optimal mark are those of n underlyings
abbrev pub IsMarkOn : ℕ → Mark → Type 0
IsMarkOn n mark =
    IfOptimal mark (λ cover measure. IsCoverOn n cover × IsOnStates n measure)

-- whether there are as many fills as orders, and the forms are those of the batch's underlyings
abbrev pub has_fills : Batch → List Frac128 → Bool
has_fills batch fills = length fills == length batch.orders && forms_have (batch.underlyings + 1) batch.orders

-- and states and cover too
abbrev pub has_shape : Batch → Outcome → Bool
has_shape batch outcome = has_fills batch outcome.fills && mark_fits batch.underlyings outcome.mark

-- whether a fill is from 0 to the order's quantity
abbrev pub is_fill : Order → Fraction → Bool
is_fill o f = int_le (pos 0) f.numerator && is_at_most f (whole (pos o.quantity))

abbrev pub are_fills : List Order → List Frac128 → Bool
are_fills [] fills = true
are_fills (o ∷ os) [] = true
are_fills (o ∷ os) (f ∷ fs) = is_fill o (fraction_of f) && are_fills os fs
