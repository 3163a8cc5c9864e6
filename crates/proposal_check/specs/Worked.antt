-- Proposals worked by hand. Each batch has one of each order at most.
use Rattle.std.specs.Prelude.{ℕ, ◌≡◌, List, [], ◌∷◌, ◌++◌, map, ℤ, pos, negsuc, Result, Ok, Err}
use Rattle.exact_num.specs.Fraction.{Fraction, over, whole}
use Rattle.frac.specs.Range.{limit}
use Rattle.frac.specs.ValueOf.{value_of}
use Rattle.form.specs.declared.orders.Side.{Side}
use Rattle.form.specs.declared.orders.Side.TheVariants.{Buy, Sell}
use Rattle.form.specs.declared.orders.Order.{Order}
use Rattle.form.specs.declared.orders.Batch.{Batch}
use Rattle.form.specs.BundleOf.{bundle_one}
use Rattle.form.specs.FormOf.{form_of}
use Rattle.form.specs.StateOf.{state_of}
use Rattle.line_cover.specs.Worked.{order_for, call_on}
use Rattle.cell_cover.specs.declared.cover.Multiplier.{Multiplier}
use Rattle.cell_cover.specs.declared.cover.Node.{Node}
use Rattle.cell_cover.specs.declared.cover.Node.TheVariants as cell
use Rattle.cert_check.specs.declared.measures.Measure.{Measure}
use Rattle.cert_check.specs.declared.outcome.Cover.TheVariants.{Line}
use Rattle.cert_check.specs.declared.outcome.FailedCondition.TheVariants as no
use Rattle.cert_check.specs.declared.outcome.Verdict.{Verdict}
use Rattle.cert_check.specs.declared.outcome.Verdict.TheVariants.{Yes, No}
use Rattle.cert_check.specs.Worked.{batch, point, weighted, sevenths, half, fills}
use Rattle.proposal_check.specs.declared.covers.Proposal.{Proposal}
use Rattle.proposal_check.specs.declared.covers.ProposalCover.{ProposalCover}
use Rattle.proposal_check.specs.declared.covers.ProposalCover.TheVariants.{Checked, Match, Cells}
use Rattle.proposal_check.specs.declared.covers.BoundFailure.{BoundFailure}
use Rattle.proposal_check.specs.declared.covers.BoundFailure.TheVariants as unproved
use Rattle.proposal_check.specs.Proposals.{proposal_bound, bounded_verdict_of}

abbrev one : Fraction
one = whole (pos 1)

-- these fills, with this liability, surplus, cover and measure
abbrev proposal : List Fraction → Fraction → Fraction → ProposalCover → Measure → Proposal
proposal fills liability surplus cover measure = record {
  fills = map value_of fills;
  claim = record { liability = value_of liability; surplus = value_of surplus };
  cover = cover;
  measure = measure;
}

-- ---- the butterfly by two sells, on its line
abbrev on_line : List Fraction → Fraction → Measure → Proposal
on_line fills surplus measure = proposal fills (whole (pos 0)) surplus (Checked Line) measure

-- the bound that a proposal for it proves
abbrev pub proposed : List Fraction → Fraction → Measure → Result Fraction BoundFailure
proposed fills surplus measure = proposal_bound limit batch (on_line fills surplus measure)

-- the judgement where the bound is told
abbrev pub told : Fraction → List Fraction → Fraction → Measure → Verdict
told bound fills surplus measure = bounded_verdict_of limit batch (on_line fills surplus measure) bound

-- half of the butterfly
abbrev halves : Fraction → List Fraction
halves first = first ∷ sevenths 1 ∷ over (pos 5) 14 ∷ []

abbrev best_measure : Measure
best_measure = weighted (sevenths 3) (sevenths 4) (whole (pos 4))

abbrev light_measure : Measure
light_measure = weighted (sevenths 2) (sevenths 4) (whole (pos 4))

pub record ProposalsAsWorked : Type 0 where
  pub sound : proposed (halves half) (sevenths 3) best_measure ≡ Ok (sevenths 6)
  pub price_zero_alone : proposed (halves half) (sevenths 3) (record { points = point one 1 0 ∷ [] }) ≡ Ok (whole (pos 6))
  pub greatest : proposed fills (sevenths 6) best_measure ≡ Ok (sevenths 6)
  pub above_its_quantity : proposed (halves (sevenths 8)) (sevenths 3) best_measure ≡ Err (unproved.No no.Fill)
  pub greater_surplus : proposed (halves half) (sevenths 4) best_measure ≡ Err (unproved.No no.Cover)
  pub too_little_mass : proposed (halves half) (sevenths 3) light_measure ≡ Err (unproved.No no.Measure)
  pub bound_told : told (sevenths 6) (halves half) (sevenths 3) best_measure ≡ Yes
  pub other_bound_told : told one (halves half) (sevenths 3) best_measure ≡ No no.Bound

-- ---- a call with strike 10 is bought at 6 and sold at 4; the measure prices it at 36/7
abbrev crossed : Batch
crossed = record {
  underlyings = 1;
  orders = order_for 1 Buy (call_on (pos 10) (pos 1)) 6 ∷ order_for 2 Sell (call_on (pos 10) (pos 1)) 4 ∷ [];
}

abbrev pub matched : ProposalCover → List Fraction → ℕ → ℕ → Measure → Result Fraction BoundFailure
matched cover fills liability surplus measure =
    proposal_bound limit crossed (proposal fills (whole (pos liability)) (whole (pos surplus)) cover measure)

abbrev both : List Fraction
both = one ∷ one ∷ []

abbrev half_sold : List Fraction
half_sold = one ∷ half ∷ []

pub record MatchesAsWorked : Type 0 where
  pub sound : matched Match both 0 2 best_measure ≡ Ok (whole (pos 2))
  pub on_its_line : matched (Checked Line) both 0 2 best_measure ≡ Ok (whole (pos 2))
  pub more_bought_than_sold : matched Match half_sold 0 4 best_measure ≡ Err (unproved.No no.Cover)
  -- a match owes nothing, and a line may
  pub liability_of_a_match : matched Match both 1 1 best_measure ≡ Err (unproved.No no.Cover)
  pub liability_of_a_line : matched (Checked Line) both 1 1 best_measure ≡ Ok (whole (pos 2))
  -- the cover is judged before the measure
  pub too_little_mass : matched Match both 0 2 light_measure ≡ Err (unproved.No no.Measure)
  pub cover_before_the_measure : matched Match half_sold 0 4 light_measure ≡ Err (unproved.No no.Cover)
  -- no two orders of the butterfly are for one option
  pub butterfly_is_no_match : proposal_bound limit batch (proposal fills (whole (pos 0)) (sevenths 6) Match best_measure) ≡ Err (unproved.No no.Cover)

-- ---- a call with strike 10 on the sum of two underlyings is bought at 3; a call with strike 10 on
-- the first, and the second underlying for 0, are sold at 1 each
abbrev option_for : ℕ → Side → List ℤ → ℕ → Order
option_for id side option price = order_for id side (bundle_one (form_of option)) price

abbrev basket : Batch
basket = record {
  underlyings = 2;
  orders =
      option_for 1 Buy (negsuc 9 ∷ pos 1 ∷ pos 1 ∷ []) 3
      ∷ option_for 2 Sell (negsuc 9 ∷ pos 1 ∷ pos 0 ∷ []) 1
      ∷ option_for 3 Sell (pos 0 ∷ pos 0 ∷ pos 1 ∷ []) 1
      ∷ [];
}

-- all of it filled, with these cells and so much weight at prices 0
abbrev pub covered : List Node → ℕ → Result Fraction BoundFailure
covered nodes weight =
    proposal_bound limit basket
    (proposal (one ∷ one ∷ one ∷ []) (whole (pos 0)) one (Cells nodes)
    (record { points = record { state = state_of (1 ∷ 0 ∷ 0 ∷ []); weight = value_of (whole (pos weight)) } ∷ [] }))

abbrev at : ℕ → ℕ → Multiplier
at class by = record { class = class; by = value_of (whole (pos by)) }

abbrev sold : ℕ → List Multiplier
sold first = at 2 first ∷ at 3 1 ∷ []

-- where the call on the sum is above 0 this leaf, and where it is below one without multipliers
abbrev split_first : Node → List Node
split_first plus = cell.Split 1 ∷ plus ∷ cell.Leaf [] [] ∷ []

pub record CellsAsProposed : Type 0 where
  pub closed : covered (split_first (cell.Leaf [] (sold 1))) 1 ≡ Ok (whole (pos 3))
  pub with_full : covered (split_first (cell.Leaf (2 ∷ 3 ∷ []) [])) 1 ≡ Ok (whole (pos 3))
  pub above_its_kink : covered (split_first (cell.Leaf [] (sold 2))) 1 ≡ Err (unproved.No no.Cover)
  pub without_the_split : covered (cell.Leaf [] (sold 1) ∷ []) 1 ≡ Err (unproved.No no.Cover)
  pub node_left_over : covered (split_first (cell.Leaf [] (sold 1)) ++ cell.Leaf [] [] ∷ []) 1 ≡ Err (unproved.No no.BatchShape)
  pub node_missing : covered (cell.Split 1 ∷ cell.Leaf [] (sold 1) ∷ []) 1 ≡ Err (unproved.No no.BatchShape)
  pub no_such_class : covered (cell.Split 4 ∷ cell.Leaf [] [] ∷ cell.Leaf [] [] ∷ []) 1 ≡ Err (unproved.No no.BatchShape)
  pub too_much_mass : covered (split_first (cell.Leaf [] (sold 1))) 2 ≡ Err (unproved.No no.Measure)
  pub cover_before_the_measure : covered (split_first (cell.Leaf [] (sold 2))) 2 ≡ Err (unproved.No no.Cover)
