-- The outcome of a batch: what the reference run clears, or where it stops, the match of each
-- bundle by itself.
use Rattle.std.specs.Prelude.{ℕ, ◌≡◌, ◌≤◌, List, [], ◌∷◌, map, pos, Bool, true, ◌&&◌, if◌then◌else◌}
use Rattle.exact_num.specs.Fraction.{Fraction, whole}
use Rattle.frac.specs.declared.frac128.Frac128.{Frac128}
use Rattle.frac.specs.Range.{limit as largest}
use Rattle.frac.specs.Value.{fraction_of}
use Rattle.frac.specs.ValueOf.{value_of, has_128_bits}
use Rattle.exact_num.specs.Tests.{is_lowest}
use Rattle.form.specs.declared.orders.Order.{Order}
use Rattle.form.specs.declared.orders.Batch.{Batch}
use Rattle.form.specs.StateOf.{state_of}
use Rattle.clearing_model.specs.Certificate.{Point, fraction_weight, fractions_of}
use Rattle.clearing_model.specs.Clearing.{premium}
use Rattle.clearing_model.specs.Written.{WrittenNode, SplitNode, LeafNode, PlacedMultiplier, WrittenTree, nodes_of, multipliers_of}
use Rattle.sign_tree.specs.declared.trees.Node.{Node}
use Rattle.sign_tree.specs.declared.trees.Node.TheVariants.{Split, Leaf}
use Rattle.sign_tree.specs.declared.trees.Multiplier.{Multiplier}
use Rattle.sign_tree.specs.declared.trees.SignTree.{SignTree}
use Rattle.cert_check.specs.declared.measures.Weighted.{Weighted}
use Rattle.cert_check.specs.declared.measures.Measure.{Measure}
use Rattle.cert_check.specs.declared.outcome.Cover.{Cover}
use Rattle.cert_check.specs.declared.outcome.Cover.TheVariants.{Line, Tree}
use Rattle.cert_check.specs.declared.outcome.Mark.{Mark}
use Rattle.cert_check.specs.declared.outcome.Mark.TheVariants.{Optimal, Wide, Budget}
use Rattle.cert_check.specs.declared.outcome.Outcome.{Outcome}
use Rattle.bundle_match.specs.Match.{match_by_bundle}
use Rattle.bundle_match.specs.Laws.{match_of}
use Rattle.master_program.specs.Reading.{Reading}
use Rattle.constraint_generation.specs.declared.solution.Solution.{Solution}
use Rattle.constraint_generation.specs.Answers.{IsCoverAs, claimed_in, limits_of, reading_in}
use Rattle.constraint_generation.specs.Laws.{choices_of}
use Rattle.constraint_generation.specs.Run.{WrittenCover, by_line, by_tree, CoveredReading, joint_run, sums_of}
use Rattle.simplex_run.specs.Ending.{Ending, done, wide_at, no_unit_left, unbounded, on_answer, where_fits}

-- a point of the model as one of the code
abbrev pub weighted_of : Point → Weighted
weighted_of point = record { state = state_of point.0; weight = value_of point.1 }

abbrev pub measure_of : List Point → Measure
measure_of points = record { points = map weighted_of points }

-- a tree of the model as one of the code
abbrev pub written_node : WrittenNode → Node
written_node (SplitNode place) = Split place
written_node (LeafNode count) = Leaf count

abbrev pub placed_value : PlacedMultiplier → Multiplier
placed_value m = record { place = m.place; by = value_of m.by }

abbrev pub tree_of : WrittenTree → SignTree
tree_of tree = record { nodes = map written_node (nodes_of tree); multipliers = map placed_value (multipliers_of tree) }

abbrev pub cover_of : WrittenCover → Cover
cover_of by_line = Line
cover_of (by_tree tree) = Tree (tree_of tree)

-- what a run clears, with its cover and the measure that proves it
unfoldable pub optimal_outcome : CoveredReading → ℕ → Outcome
optimal_outcome (r, cover) units =
    record {
      fills = map value_of r.fills;
      claim = record { liability = value_of r.liability; surplus = value_of r.surplus };
      mark = Optimal (cover_of cover) (measure_of r.measure);
      units = units;
    }

-- the outcome is what a joint solve of the code has found
abbrev pub IsOptimalOutcome : Solution Frac128 → ℕ → Outcome → Type 0
IsOptimalOutcome joint units outcome =
    (cover : WrittenCover) → IsCoverAs cover joint.cover → outcome ≡ optimal_outcome (reading_in fraction_of joint, cover) units

-- whole numbers of bundles as numbers of the code
abbrev pub whole_fills : List ℕ → List Frac128
whole_fills amounts = map (λ (amount : ℕ). value_of (whole (pos amount))) amounts

-- the match of each bundle by itself: it owes nothing, and leaves its premium
unfoldable pub fallback : List Order → Mark → ℕ → Outcome
fallback orders mark units =
    record {
      fills = whole_fills (match_by_bundle orders);
      claim = record { liability = value_of (whole (pos 0)); surplus = value_of (whole (premium (match_of orders))) };
      mark = mark;
      units = units;
    }

-- whether the numbers of a reading are numbers of the code
abbrev pub is_value : Fraction → Bool
is_value x = is_lowest x && has_128_bits x

abbrev pub are_values : List Fraction → Bool
are_values [] = true
are_values (x ∷ xs) = is_value x && are_values xs

abbrev pub multipliers_in : WrittenCover → List Fraction
multipliers_in by_line = []
multipliers_in (by_tree tree) = fractions_of tree

abbrev pub reading_has_values : Reading → Bool
reading_has_values r =
    (is_value r.liability && is_value r.surplus) && (are_values r.fills && are_values (map fraction_weight r.measure))

abbrev pub has_values : CoveredReading → Bool
has_values (r, cover) = reading_has_values r && are_values (multipliers_in cover)

-- the outcome at the end of a run with a limit on its units. An end without an optimum, and a
-- solution whose numbers are not all numbers of the code, have the match too: no answer of a clear
-- comes from them
abbrev pub outcome_at : List Order → ℕ → Ending CoveredReading → Outcome
outcome_at orders units (done s spent) = if has_values s then optimal_outcome s spent else fallback orders Budget units
outcome_at orders units (wide_at spent wide) = fallback orders (Wide wide) spent
outcome_at orders units (no_unit_left spent) = fallback orders Budget units
outcome_at orders units (unbounded d spent) = fallback orders Budget units

-- the end of a run of the batch after the sums of the verdict
abbrev pub judged : Batch → Ending CoveredReading → Ending CoveredReading
judged batch end = on_answer end (where_fits (sums_of largest batch.underlyings batch.orders))

-- the run of a batch with at most so many units
abbrev pub run_of : Batch → ℕ → Ending CoveredReading
run_of batch units = joint_run (limits_of largest units) batch.underlyings batch.orders 0

-- the outcome of a batch, with at most so many units
unfoldable pub outcome_of : Batch → ℕ → Outcome
outcome_of batch units = outcome_at batch.orders units (run_of batch units)

-- what an outcome with this measure claims, as fractions
abbrev pub claim_of : Outcome → Measure → Reading
claim_of outcome measure = claimed_in (map fraction_of outcome.fills) outcome.claim measure

-- the run cleared what an outcome with this cover and this measure claims
abbrev pub HasCleared : Ending CoveredReading → Outcome → Cover → Measure → Type 0
HasCleared end outcome cover measure =
    (written : WrittenCover) × IsCoverAs written cover × (end ≡ done (claim_of outcome measure, written) outcome.units)

-- the mark of an outcome and its units are those of the end of the run: what was cleared, the step
-- that did not fit, or a unit wanted beyond the limit
abbrev pub EndsAs : Ending CoveredReading → ℕ → Outcome → Mark → Type 0
EndsAs end units outcome (Optimal cover measure) = HasCleared end outcome cover measure
EndsAs end units outcome (Wide wide) = end ≡ wide_at outcome.units wide
EndsAs end units outcome Budget = ((spent : ℕ) × (end ≡ no_unit_left spent)) × (outcome.units ≡ units)

abbrev pub IsMarked : Batch → ℕ → Outcome → Type 0
IsMarked batch units outcome = EndsAs (run_of batch units) units outcome outcome.mark

-- on one underlying the mark is not for want of a unit, where there are as many as ways to choose
-- the basic variables of the batch's master program
abbrev pub HasEnoughUnits : Batch → ℕ → Outcome → Type 0
HasEnoughUnits batch units outcome = batch.underlyings ≡ 1 → choices_of batch.orders ≤ units → outcome.mark ≡ Budget → ⊥
