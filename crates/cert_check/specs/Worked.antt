-- Two batches worked by hand, one of each order at most. The butterfly by two sells: a call with
-- strike 10 is bought at 6, and calls with strikes 5 and 12 are sold at 8 and 4. The spread covered
-- by two options: one call 10 less one call 12 is bought at 2, a call 10 is sold at 6, and a call
-- 12 is bought at 5.
use Rattle.std.specs.Prelude.{ℕ, ◌≡◌, List, [], ◌∷◌, map, ℤ, pos, negsuc}
use Rattle.exact_num.specs.Fraction.{Fraction, over, whole}
use Rattle.frac.specs.Range.{limit}
use Rattle.frac.specs.ValueOf.{value_of}
use Rattle.form.specs.declared.orders.Side.TheVariants.{Buy, Sell}
use Rattle.form.specs.declared.orders.Batch.{Batch}
use Rattle.form.specs.StateOf.{state_of}
use Rattle.line_cover.specs.Worked.{order_for, call_on, covered_spread}
use Rattle.cert_check.specs.declared.measures.Measure.{Measure}
use Rattle.cert_check.specs.declared.measures.Weighted.{Weighted}
use Rattle.cert_check.specs.declared.outcome.Cover.TheVariants.{Line}
use Rattle.cert_check.specs.declared.outcome.Mark.{Mark}
use Rattle.cert_check.specs.declared.outcome.Mark.TheVariants.{Optimal, Budget}
use Rattle.cert_check.specs.declared.outcome.FailedCondition.TheVariants as no
use Rattle.cert_check.specs.declared.outcome.Outcome.{Outcome}
use Rattle.cert_check.specs.declared.outcome.Verdict.{Verdict}
use Rattle.cert_check.specs.declared.outcome.Verdict.TheVariants.{Yes, No}
use Rattle.cert_check.specs.Events.{verdict_of}

abbrev pub batch : Batch
batch = record {
  underlyings = 1;
  orders =
      order_for 1 Buy (call_on (pos 10) (pos 1)) 6
      ∷ order_for 2 Sell (call_on (pos 5) (pos 1)) 8
      ∷ order_for 3 Sell (call_on (pos 12) (pos 1)) 4
      ∷ [];
}

abbrev pub point : Fraction → ℕ → ℕ → Weighted
point weight t s = record { state = state_of (t ∷ s ∷ []); weight = value_of weight }

-- with these weights of the price 0, the price 12 and the slope beyond
abbrev pub weighted : Fraction → Fraction → Fraction → Measure
weighted a b slope = record { points = point a 1 0 ∷ point b 1 12 ∷ point slope 0 1 ∷ [] }

abbrev optimal : Fraction → Fraction → Fraction → Mark
optimal a b slope = Optimal Line (weighted a b slope)

abbrev pub sevenths : ℕ → Fraction
sevenths n = over (pos n) 7

-- the outcome of these fills, with liability 0, this surplus and this mark
abbrev outcome : List Fraction → Fraction → Mark → Outcome
outcome fills surplus mark = record {
  fills = map value_of fills;
  claim = record { liability = value_of (whole (pos 0)); surplus = value_of surplus };
  mark = mark;
  units = 0;
}

-- its judgement for the butterfly
abbrev pub judged : List Fraction → Fraction → Mark → Verdict
judged fills surplus mark = verdict_of limit batch (outcome fills surplus mark)

-- the judgement of all three orders of the spread filled, where the bundle has this count of the
-- call 12
abbrev pub judged_spread : ℤ → Mark → Verdict
judged_spread count mark =
    let one = whole (pos 1) in
    verdict_of limit (record { underlyings = 1; orders = covered_spread count }) (outcome (one ∷ one ∷ one ∷ []) one mark)

abbrev pub half : Fraction
half = over (pos 1) 2

abbrev pub fills : List Fraction
fills = whole (pos 1) ∷ sevenths 2 ∷ sevenths 5 ∷ []

abbrev certificate : Mark
certificate = optimal (sevenths 3) (sevenths 4) (whole (pos 4))

pub record VerdictsAsWorked : Type 0 where
  pub sound : judged fills (sevenths 6) certificate ≡ Yes
  pub last_fill_gone : judged (whole (pos 1) ∷ sevenths 2 ∷ []) (sevenths 6) certificate ≡ No no.BatchShape
  pub above_its_quantity : judged (whole (pos 2) ∷ sevenths 2 ∷ sevenths 5 ∷ []) (sevenths 6) certificate ≡ No no.Fill
  pub greater_surplus : judged fills (whole (pos 1)) certificate ≡ No no.Cover
  -- the net would rise by 5/7 with each further 1 of the price
  pub slope_not_covered : judged (whole (pos 1) ∷ sevenths 2 ∷ whole (pos 0) ∷ []) (sevenths 26) certificate ≡ No no.Cover
  pub too_little_mass : judged fills (sevenths 6) (optimal (sevenths 2) (sevenths 4) (whole (pos 4))) ≡ No no.Measure
  pub smaller_weight_on_the_ray : judged fills (sevenths 6) (optimal (sevenths 3) (sevenths 4) (whole (pos 3))) ≡ No no.Bound
  -- without the mark: the first order's bundle is bought and not sold
  pub after_the_budget : judged fills (sevenths 6) Budget ≡ No no.Cover
  pub spread_covered : judged_spread (negsuc 0) (optimal half half (whole (pos 5))) ≡ Yes
  -- with both calls bought the net rises by 2 with each further 1 of the price
  pub spread_of_another_count : judged_spread (pos 1) (optimal half half (whole (pos 5))) ≡ No no.Cover
  -- without the mark: the bundle is bought and not sold, however its options balance
  pub spread_after_the_budget : judged_spread (negsuc 0) Budget ≡ No no.Cover
