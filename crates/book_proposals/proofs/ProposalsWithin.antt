-- A proposal of nothing, and what is handed in, are within the ranges of their texts.
use Rattle.std.proofs.Common.{◌≡◌, ℕ, ◌≤◌, ◌≤ℤ◌, ◌<◌, ℤ, List, [], ◌∷◌, length, map, take, drop, get_or, replicate, pos, negsuc, arith, ap, sym, ◌∙◌, subst}
use Rattle.std.specs.List.{All, AllByRecursion}
use Rattle.std.proofs.lemmas.Int.{ints}
use Rattle.std.proofs.lemmas.List.{get_or-map, get_or-take, get_or_default, length-map, length-take}
use Rattle.std.proofs.lemmas.List.Elements.{All-cons, All-replicate, recursion_from_All}
use Rattle.form.specs.declared.states.State.{State}
use Rattle.form.specs.declared.orders.Batch.{Batch}
use Rattle.form.specs.declared.orders.Order.{Order}
use Rattle.form.specs.States.{vector_of}
use Rattle.form.specs.Vector.{positive_part}
use Rattle.clearing_model.specs.Certificate.{Point}
use Rattle.cert_check.specs.Points.{point_of}
use Rattle.cert_check.specs.declared.measures.Weighted.{Weighted}
use Rattle.sign_tree.specs.declared.trees.Multiplier.{Multiplier}
use Rattle.cert_check.specs.declared.outcome.Cover.{Cover}
use Rattle.cert_check.specs.declared.outcome.Cover.TheVariants.{Line, Tree}
use Rattle.proposal_check.specs.declared.covers.Proposal.{Proposal}
use Rattle.proposal_check.specs.declared.covers.ProposalCover.{ProposalCover}
use Rattle.proposal_check.specs.declared.covers.ProposalCover.TheVariants.{Checked, Match, Cells}
use Rattle.reply_print.specs.OutcomePieces.{state_entries}
use Rattle.proposals.specs.Judged.{IsBare, IsBareCover, ProposesNothing, zero_prices}
use Rattle.reply_print.specs.Within.{IsBatchWithin, IsCoverWithin, IsNodeWithin, IsOrderNumber, IsOrderWithin, IsPlace, IsPointWithin, IsSmall, leaves_of}
use Rattle.proposal_text.specs.Counts.{IsShortCover}
use Rattle.proposal_text.specs.Within.{IsProposalCoverWithin, IsProposalWithin, IsSubmissionWithin}
use Rattle.book_proposals.specs.Answers.{submission_for}

-- ---- a proposal of nothing
small_entry : (z : ℤ) → pos 0 ≤ℤ z → positive_part z ≤ 1 → IsSmall z
small_entry (pos n) low few = omega (arith, few)
small_entry (negsuc n) low few = absurd (omega (arith, ints, low))

small_state : (state : State) → All (λ x. x ≤ 1) (vector_of state) → AllByRecursion IsSmall (state_entries state)
small_state state few =
    let shown = take state.count state.entries in
    recursion_from_All IsSmall shown (λ k d lt.
    let inside : k < state.count = omega (arith, lt, length-take state.count state.entries) in
    let within : k < length state.entries = omega (arith, lt, length-take state.count state.entries) in
    let same = get_or-take state.count state.entries k d inside ∙ get_or_default state.entries k d (pos 0) within in
    let part = get_or-map positive_part shown k d 0 lt in
    small_entry (get_or shown k d) (subst (λ z. pos 0 ≤ℤ z) (sym same) (state.not_below_zero k))
    (subst (λ x. x ≤ 1) part (few k 0 (omega (arith, lt, length-map shown positive_part)))))

zeros_few : (n : ℕ) → All (λ x. x ≤ 1) (1 ∷ replicate n 0)
zeros_few n = All-cons (λ x. x ≤ 1) 1 (replicate n 0) (omega arith) (All-replicate (λ x. x ≤ 1) n 0 (omega arith))

none_left : (points : List Weighted) → map point_of points ≡ [] → AllByRecursion IsPointWithin points
none_left [] same = tt
none_left (point ∷ points) same = absurd (omega (arith, ap length same))

first_vector : List Point → List ℕ
first_vector [] = []
first_vector (point ∷ points) = point.0

zero_prices_within : (n : ℕ) (points : List Weighted) → map point_of points ≡ zero_prices n → AllByRecursion IsPointWithin points
unfolding first_vector
zero_prices_within n [] same = tt
zero_prices_within n (point ∷ points) same =
    (small_state point.state (subst (All (λ x. x ≤ 1)) (sym (ap first_vector same)) (zeros_few n)), none_left points (ap (drop 1) same))

bare_within : (n : ℕ) (cover : Cover) → IsBareCover n cover → IsCoverWithin cover
bare_within n Line bare = tt
bare_within n (Tree tree) bare = (
  subst (AllByRecursion IsNodeWithin) (sym bare.1) (tt, tt),
  subst (AllByRecursion (λ (m : Multiplier). IsPlace m.place)) (sym bare.2) tt,
  ap leaves_of bare.1 ∙ sym (ap length bare.2),
)

bare_short : (n : ℕ) (cover : Cover) → IsBareCover n cover → IsShortCover cover
bare_short n Line bare = tt
bare_short n (Tree tree) bare = omega (arith, ap length bare.1)

covered_within : (n : ℕ) (cover : ProposalCover) → IsBare n cover → IsProposalCoverWithin cover
covered_within n (Checked cover) bare = (bare_within n cover bare, bare_short n cover bare)
covered_within n Match bare = absurd bare
covered_within n (Cells nodes) bare = absurd bare

pub nothing_within : (batch : Batch) (proposal : Proposal) → ProposesNothing batch proposal → IsProposalWithin proposal
nothing_within batch proposal is =
    let points = proposal.measure.points in
    let few : length points ≤ 1024 = omega (arith, length-map points point_of, ap length is.measure) in
    (covered_within batch.underlyings proposal.cover is.cover, (few, zero_prices_within batch.underlyings points is.measure))

-- ---- what is handed in
numbers_within : (orders : List Order) → AllByRecursion IsOrderWithin orders → AllByRecursion IsOrderNumber (map (λ (order : Order). order.id) orders)
numbers_within [] within = tt
numbers_within (order ∷ orders) within = (within.0.0, numbers_within orders within.1)

pub submission_within : (batch : Batch) (proposal : Proposal) → IsBatchWithin batch → IsProposalWithin proposal → IsSubmissionWithin (submission_for batch proposal)
submission_within batch proposal ranges within =
    (within, omega (arith, ranges.1, length-map batch.orders (λ (order : Order). order.id)), numbers_within batch.orders ranges.2)
