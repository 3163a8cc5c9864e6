-- Proposals that are judged a bound, and those that propose nothing, which always are.
use Rattle.std.specs.Prelude.{ℕ, ◌≡◌, ◌≤◌, List, [], ◌∷◌, ◌⊎◌, length, map, replicate, pos, Option, Some, None, IsOk}
use Rattle.exact_num.specs.Fraction.{whole}
use Rattle.frac.specs.Range.{limit}
use Rattle.frac.specs.Value.{fraction_of}
use Rattle.form.specs.declared.orders.Batch.{Batch}
use Rattle.form.specs.Limits.{IsWithinLimits}
use Rattle.clearing_model.specs.Certificate.{Point}
use Rattle.cert_check.specs.Points.{points_of}
use Rattle.sign_tree.specs.declared.trees.Node.TheVariants.{Leaf}
use Rattle.cert_check.specs.declared.outcome.Cover.{Cover}
use Rattle.cert_check.specs.declared.outcome.Cover.TheVariants.{Line, Tree}
use Rattle.proposal_check.specs.declared.covers.Proposal.{Proposal}
use Rattle.proposal_check.specs.declared.covers.ProposalCover.{ProposalCover}
use Rattle.proposal_check.specs.declared.covers.ProposalCover.TheVariants.{Checked, Match, Cells}
use Rattle.proposal_check.specs.Proposals.{proposal_bound}

-- the judgement of the proposal is a bound
abbrev pub IsJudgedBound : Batch → Proposal → Type 0
IsJudgedBound batch proposal = IsOk (proposal_bound limit batch proposal)

-- the line on one underlying, and on several one leaf without multipliers
abbrev pub IsBareCover : ℕ → Cover → Type 0
IsBareCover n Line = n ≡ 1
IsBareCover n (Tree tree) = (2 ≤ n) × (tree.nodes ≡ Leaf 0 ∷ []) × (tree.multipliers ≡ [])

abbrev pub IsBare : ℕ → ProposalCover → Type 0
IsBare n (Checked cover) = IsBareCover n cover
IsBare n Match = ⊥
IsBare n (Cells nodes) = ⊥

-- the settlement at which all prices are 0, with all the weight
abbrev pub zero_prices : ℕ → List Point
zero_prices n = (1 ∷ replicate n 0, whole (pos 1)) ∷ []

-- no order is filled, nothing is owed and nothing earned, and the measure is that of prices 0
pub record ProposesNothing (batch : Batch) (proposal : Proposal) : Type 0 where
  pub fills : map fraction_of proposal.fills ≡ replicate (length batch.orders) (whole (pos 0))
  pub liability : fraction_of proposal.claim.liability ≡ whole (pos 0)
  pub surplus : fraction_of proposal.claim.surplus ≡ whole (pos 0)
  pub cover : IsBare batch.underlyings proposal.cover
  pub measure : points_of proposal.measure ≡ zero_prices batch.underlyings

-- what is handed out for what was found: that, where it is judged a bound, and else a proposal of
-- nothing
abbrev pub IsHandedOut : Batch → Option Proposal → Proposal → Type 0
IsHandedOut batch None proposal = ProposesNothing batch proposal
IsHandedOut batch (Some found) proposal =
    (IsJudgedBound batch found × (proposal ≡ found)) ⊎ (¬ (IsJudgedBound batch found) × ProposesNothing batch proposal)

-- a proposal of nothing is judged a bound, for each batch within the limits
abbrev pub NothingIsABound : Type 0
NothingIsABound =
    (batch : Batch) (proposal : Proposal) → IsWithinLimits batch → ProposesNothing batch proposal → IsJudgedBound batch proposal
