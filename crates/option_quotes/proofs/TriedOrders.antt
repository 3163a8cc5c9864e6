-- What a clear would tell of a further order is of the order behind those of the batch.
use Rattle.std.proofs.Common.{◌≡◌, ℕ, ◌≤◌, List, [], ◌∷◌, ◌++◌, length, map, zip, Some, arith, refl, ap, sym, subst, ◌∙◌}
use Rattle.std.specs.Prelude.{slice_get, unwrap_or}
use Rattle.std.proofs.lemmas.List.Elements.{All-head, All-tail}
use Rattle.frac.specs.Value.{fraction_of}
use Rattle.frac.specs.ValueOf.{zero_128}
use Rattle.frac.specs.declared.frac128.Frac128.{Frac128}
use Rattle.form.specs.declared.forms.Form.{Form}
use Rattle.form.specs.declared.orders.Side.{Side}
use Rattle.form.specs.declared.orders.Order.{Order}
use Rattle.form.specs.declared.orders.Batch.{Batch}
use Rattle.form.specs.declared.limits.TheConstants.{MAX_PRICE}
use Rattle.form.specs.Limits.{IsWithinLimits}
use Rattle.clearing_model.specs.Certificate.{AreFractionFills, IsFill}
use Rattle.cert_check.specs.declared.outcome.Outcome.{Outcome}
use Rattle.clearing.specs.Outcome.{outcome_of}
use Rattle.clearing.proofs.Outcomes.{outcomes_are_covered}
use Rattle.market_laws.specs.Limits.{at_price}
use Rattle.option_quotes.specs.declared.trying.Tried.{Tried}
use Rattle.option_quotes.specs.Implied.{asked}
use Rattle.option_quotes.specs.Probes.{with_order}
use Rattle.option_quotes.specs.Thresholds.{MayBeQuoted}
use Rattle.option_quotes.specs.Tried.{IsTried, fill_behind, tried_by, tried_of}
use Rattle.option_quotes.proofs.Raising.{asked_within, quantity_within, within_at}

-- fills of orders with one more at the end have that of this one behind the others'
behind : (orders : List Order) (o : Order) (fills : List Frac128) → AreFractionFills (orders ++ o ∷ []) (map fraction_of fills)
    → (fill : Frac128) × (slice_get fills (length orders) ≡ Some fill) × IsFill (o, fraction_of fill)
behind [] o [] are = absurd (omega (arith, are.0))
behind [] o (fill ∷ fills) are = (fill, refl, All-head IsFill (o, fraction_of fill) (zip [] (map fraction_of fills)) are.1)
behind (order ∷ orders) o [] are = absurd (omega (arith, are.0))
behind (order ∷ orders) o (fill ∷ fills) are =
    behind orders o fills (omega (arith, are.0), All-tail IsFill (order, fraction_of fill) (zip (orders ++ o ∷ []) (map fraction_of fills)) are.1)

-- an outcome of the batch with the order at its end
module _ (batch : Batch) (o : Order) (limit : ℕ) (within : IsWithinLimits (with_order batch o)) where
  outcome_tried : IsTried batch o (tried_by batch (outcome_of (with_order batch o) limit))
  outcome_tried =
      let outcome = outcome_of (with_order batch o) limit in
      let covered = outcomes_are_covered (with_order batch o) limit within in
      let found = behind batch.orders o outcome.fills covered.covers.are_fills in
      let own : fill_behind batch outcome ≡ found.0 = ap (λ fill. unwrap_or fill zero_128) found.1 in
      record {
        covered = covered;
        there = found.1 ∙ ap Some (sym own);
        fill = subst (λ (fill : Frac128). IsFill (o, fraction_of fill)) (sym own) found.2;
      }

pub is_tried : (batch : Batch) (form : Form) (side : Side) (quantity price limit : ℕ) → MayBeQuoted batch form → 1 ≤ quantity → quantity ≤ 1000000 → price ≤ MAX_PRICE
    → IsTried batch (at_price (asked form side quantity) price) (tried_of batch form side quantity price limit)
unfolding tried_of
is_tried batch form side quantity price limit may some few fits =
    let o = asked form side quantity in
    outcome_tried batch (at_price o price) limit
    (within_at batch o price fits (quantity_within batch form side quantity o refl some few (asked_within batch form side may)))

-- the outcome is of the order that was made, and the fill of this outcome
pub tried_as : (batch : Batch) (form : Form) (side : Side) (quantity price limit : ℕ) (order : Order) (outcome : Outcome) (fill : Frac128) → order ≡ asked form side quantity
    → outcome ≡ outcome_of (with_order batch (at_price order price)) limit → fill ≡ fill_behind batch outcome
    → record { fill = fill; outcome = outcome } ≡ tried_of batch form side quantity price limit
unfolding tried_of
tried_as batch form side quantity price limit order outcome fill made is filled =
    ap (λ (f : Frac128). told f outcome) filled ∙ ap (tried_by batch) (is ∙ ap (λ (o : Order). outcome_of (with_order batch (at_price o price)) limit) made)
  where
    told : Frac128 → Outcome → Tried
    told fill outcome = record { fill = fill; outcome = outcome }
