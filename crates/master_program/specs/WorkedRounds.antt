-- Worked batches on two underlyings: a call on the sum is bought, and a call on each price is sold.
-- Their numbers have 127 bits.
use Rattle.std.specs.Prelude.{◌≡◌, ℕ, List, [], ◌∷◌, ◌++◌, ℤ, pos, negsuc, Ok}
use Rattle.exact_num.specs.Limit.{limit as largest}
use Rattle.exact_num.specs.declared.misfit.Operator.TheVariants.{Whole}
use Rattle.exact_num.specs.Fraction.{Fraction, whole, over}
use Rattle.exact_num.specs.Fits.{misfit}
use Rattle.simplex_run.specs.Program.{LinearProgram}
use Rattle.simplex_run.specs.Worked.{Constraint, at_most, program_of, minus, wholes}
use Rattle.form.specs.declared.orders.Side.TheVariants.{Buy, Sell}
use Rattle.form.specs.declared.orders.Order.{Order}
use Rattle.clearing_model.specs.Legs.{Exposure, Long, Short}
use Rattle.clearing_model.specs.Tree.{Sign, Unsigned, Plus, Minus}
use Rattle.clearing_model.specs.Written.{PlacedMultiplier, WrittenTree, Ends, Parts}
use Rattle.form.specs.FormOf.{form_of}
use Rattle.master_program.specs.Worked.{order_for, bundle_order, basket}
use Rattle.master_program.specs.Rounds.{Cleared, rounds}
use Rattle.simplex_run.specs.Ending.{Ending, done, wide_at, no_unit_left}
use Rattle.sign_tree.specs.Legs.{FractionLeg}
use Rattle.master_program.specs.NodeSteps.{node_steps}

abbrev pub worked_rounds : ℕ → List Order → Ending Cleared
worked_rounds budget orders = rounds (record { payoff_limit = largest; limit = largest; budget = budget }) 2 orders 0

abbrev pub multiplier : ℕ → ℕ → PlacedMultiplier
multiplier place by = record { place = place; by = whole (pos by) }

abbrev pub half_of_third : PlacedMultiplier
half_of_third = record { place = 3; by = over (pos 1) 2 }

-- where the sum is above its strike, both sells cover it; else nothing is owed
abbrev pub sum_tree : WrittenTree
sum_tree = Parts 1 (Ends (multiplier 2 1 ∷ multiplier 3 1 ∷ [])) (Ends [])

-- buy call 10 on the sum at 6, sell call 4 on the first at 3 and call 6 on the second at 2: one
-- round, with three nodes
abbrev pub covered_sum : List Order
covered_sum =
    order_for Buy (minus 10 ∷ pos 1 ∷ pos 1 ∷ []) 6 1
    ∷ order_for Sell (minus 4 ∷ pos 1 ∷ pos 0 ∷ []) 3 1
    ∷ order_for Sell (minus 6 ∷ pos 0 ∷ pos 1 ∷ []) 2 1
    ∷ []

abbrev pub covered_sum_end : Ending Cleared
covered_sum_end =
    done (
      (record {
        fills = wholes (pos 1 ∷ pos 1 ∷ pos 1 ∷ []);
        liability = whole (pos 0);
        surplus = whole (pos 1);
        measure = (1 ∷ 0 ∷ 0 ∷ [], whole (pos 1)) ∷ (0 ∷ 1 ∷ 0 ∷ [], whole (pos 3)) ∷ (0 ∷ 0 ∷ 1 ∷ [], whole (pos 2)) ∷ [];
      }),
      sum_tree,
    ) 11

-- with the units that it spends, and with fewer: they end in the master program, at the first node
-- and at its plus side
pub record CoveredSum : Type 0 where
  pub clears : worked_rounds 20000 covered_sum ≡ covered_sum_end
  pub just_enough : worked_rounds 11 covered_sum ≡ covered_sum_end
  pub one_short : worked_rounds 10 covered_sum ≡ no_unit_left 10
  pub in_the_master : worked_rounds 1 covered_sum ≡ no_unit_left 1
  pub at_the_first_node : worked_rounds 3 covered_sum ≡ no_unit_left 3
  pub at_the_plus_side : worked_rounds 7 covered_sum ≡ no_unit_left 7

-- buy call 8 on the sum at 8, sell the same at 3 and 2: the first search finds the prices 4 and 6,
-- and the second round clears
abbrev pub two_rounds_end : Ending Cleared
two_rounds_end =
    done (
      (record {
        fills = wholes (pos 1 ∷ pos 1 ∷ pos 1 ∷ []);
        liability = whole (pos 2);
        surplus = whole (pos 1);
        measure = (0 ∷ 1 ∷ 0 ∷ [], whole (pos 3)) ∷ (0 ∷ 0 ∷ 1 ∷ [], whole (pos 2)) ∷ (1 ∷ 4 ∷ 6 ∷ [], whole (pos 1)) ∷ [];
      }),
      sum_tree,
    ) 19

abbrev pub TwoRounds : Type 0
TwoRounds = worked_rounds 20000 basket ≡ two_rounds_end

-- buy call 10 on the sum less call 4 on the first at 3, sell call 6 on the second at 2: places
-- count legs
abbrev pub covered_bundle : List Order
covered_bundle =
    bundle_order Buy
    ((record { count = pos 1; form = form_of (minus 10 ∷ pos 1 ∷ pos 1 ∷ []) }) ∷ (record { count = negsuc 0; form = form_of (minus 4 ∷ pos 1 ∷ pos 0 ∷ []) }) ∷ []) 3
    ∷ order_for Sell (minus 6 ∷ pos 0 ∷ pos 1 ∷ []) 2 1
    ∷ []

abbrev pub covered_bundle_end : Ending Cleared
covered_bundle_end =
    done (
      (record {
        fills = wholes (pos 1 ∷ pos 1 ∷ []);
        liability = whole (pos 0);
        surplus = whole (pos 1);
        measure = (1 ∷ 0 ∷ 0 ∷ [], whole (pos 1)) ∷ (0 ∷ 0 ∷ 1 ∷ [], whole (pos 2)) ∷ [];
      }),
      sum_tree,
    ) 10

abbrev pub CoveredBundle : Type 0
CoveredBundle = worked_rounds 20000 covered_bundle ≡ covered_bundle_end

-- ---- other batches, whose ends come from an implementation of its own
-- a put and a call bought, one option sold: a split below a split, and a multiplier of half an
-- option
abbrev pub DeeperTree : Type 0
DeeperTree =
    worked_rounds 20000
    (order_for Buy (pos 4 ∷ minus 2 ∷ pos 0 ∷ []) 6 3
    ∷ order_for Buy (minus 7 ∷ pos 0 ∷ pos 1 ∷ []) 9 1
    ∷ order_for Sell (minus 3 ∷ pos 1 ∷ pos 2 ∷ []) 0 1
    ∷ [])
    ≡ done (
      (record {
        fills = whole (pos 3) ∷ whole (pos 1) ∷ over (pos 1) 2 ∷ [];
        liability = whole (pos 12);
        surplus = whole (pos 15);
        measure = (1 ∷ 0 ∷ 0 ∷ [], whole (pos 1)) ∷ [];
      }),
      (Parts 1 (Parts 2 (Ends (half_of_third ∷ [])) (Ends [])) (Ends (half_of_third ∷ []))),
    ) 14

-- an order that is not filled has no leg in the search; the third round clears
abbrev pub ThreeRounds : Type 0
ThreeRounds =
    worked_rounds 20000
    (order_for Sell (minus 5 ∷ pos 2 ∷ pos 1 ∷ []) 2 1
    ∷ order_for Buy (minus 3 ∷ pos 2 ∷ pos 0 ∷ []) 1 1
    ∷ order_for Sell (minus 5 ∷ pos 0 ∷ minus 1 ∷ []) 6 3
    ∷ order_for Buy (minus 3 ∷ pos 0 ∷ pos 1 ∷ []) 8 3
    ∷ [])
    ≡ done (
      (record {
        fills = wholes (pos 1 ∷ pos 1 ∷ pos 0 ∷ pos 1 ∷ []);
        liability = whole (pos 2);
        surplus = whole (pos 5);
        measure = (0 ∷ 0 ∷ 1 ∷ [], whole (pos 7)) ∷ (2 ∷ 5 ∷ 0 ∷ [], over (pos 1) 4) ∷ (1 ∷ 0 ∷ 5 ∷ [], over (pos 1) 2) ∷ [];
      }),
      (Parts 2 (Ends (multiplier 1 1 ∷ [])) (Parts 4 (Ends (multiplier 1 1 ∷ [])) (Ends []))),
    ) 30

-- the market is owed nine at least, whatever the prices: the liability is below 0
abbrev pub LiabilityBelowZero : Type 0
LiabilityBelowZero =
    worked_rounds 20000
    (order_for Sell (minus 8 ∷ pos 0 ∷ pos 1 ∷ []) 9 1
    ∷ order_for Sell (minus 7 ∷ pos 1 ∷ minus 1 ∷ []) 5 3
    ∷ order_for Sell (minus 7 ∷ pos 0 ∷ minus 1 ∷ []) 6 1
    ∷ order_for Sell (pos 3 ∷ pos 1 ∷ pos 0 ∷ []) 7 1
    ∷ order_for Sell (pos 2 ∷ pos 0 ∷ pos 1 ∷ []) 4 1
    ∷ order_for Sell (pos 7 ∷ pos 0 ∷ minus 1 ∷ []) 2 3
    ∷ [])
    ≡ done (
      (record {
        fills = wholes (pos 0 ∷ pos 0 ∷ pos 0 ∷ pos 0 ∷ pos 1 ∷ pos 1 ∷ []);
        liability = whole (minus 9);
        surplus = whole (pos 3);
        measure = (1 ∷ 0 ∷ 0 ∷ [], over (pos 2) 7) ∷ (1 ∷ 0 ∷ 7 ∷ [], over (pos 5) 7) ∷ [];
      }),
      (Ends (multiplier 5 1 ∷ multiplier 6 1 ∷ [])),
    ) 9

-- three underlyings, with numbers of up to 7 in size: an entry of a node's row is the first that
-- does not fit
abbrev pub EntryTooWide : Type 0
EntryTooWide =
    rounds (record { payoff_limit = largest; limit = 7; budget = 20000 }) 3
    (order_for Sell (minus 8 ∷ pos 0 ∷ pos 1 ∷ pos 1 ∷ []) 1 1
    ∷ order_for Buy (minus 3 ∷ pos 2 ∷ pos 1 ∷ pos 1 ∷ []) 2 2
    ∷ order_for Sell (minus 9 ∷ minus 1 ∷ pos 1 ∷ pos 1 ∷ []) 3 3
    ∷ order_for Buy (minus 6 ∷ pos 0 ∷ pos 1 ∷ pos 0 ∷ []) 3 2
    ∷ []) 0
    ≡ wide_at 5 (misfit Whole (whole (minus 8)) (whole (pos 0)))

pub record OtherBatches : Type 0 where
  pub deeper_tree : DeeperTree
  pub three_rounds : ThreeRounds
  pub below_zero : LiabilityBelowZero
  pub too_wide : EntryTooWide

-- ---- legs of bundles
-- of an order that is half filled two calls on the sum are bought; of one that is filled by a third
-- three calls on the first and six on the second are sold; so one, one and two are filled
abbrev pub counted : Exposure → Fraction → ℕ → List ℤ → FractionLeg
counted exposure fill size option = record { exposure = exposure; fill = fill; size = size; option = option }

abbrev pub bundle_legs : List FractionLeg
bundle_legs =
    counted Long (over (pos 1) 2) 2 (minus 10 ∷ pos 1 ∷ pos 1 ∷ [])
    ∷ counted Short (over (pos 1) 3) 3 (minus 4 ∷ pos 1 ∷ pos 0 ∷ [])
    ∷ counted Short (over (pos 1) 3) 6 (minus 6 ∷ pos 0 ∷ pos 1 ∷ [])
    ∷ []

-- their node with the long leg's sign, and the liability 1/2
abbrev pub BundleNode : Sign → LinearProgram → Type 0
BundleNode sign program = node_steps largest 2 bundle_legs (over (pos 1) 2) (sign ∷ Unsigned ∷ Unsigned ∷ []) ≡ Ok program

abbrev pub with_costs : List Fraction → LinearProgram → LinearProgram
with_costs costs program = record { variables = program.variables; rows = program.rows; coefficients = program.coefficients; right_sides = program.right_sides; costs = costs }

abbrev pub covers : List Constraint
covers =
    at_most (pos 1 ∷ pos 1 ∷ pos 1 ∷ pos 0 ∷ pos 0 ∷ []) (pos 1)
    ∷ at_most (minus 4 ∷ pos 1 ∷ pos 0 ∷ minus 1 ∷ pos 0 ∷ []) (pos 0)
    ∷ at_most (minus 6 ∷ pos 0 ∷ pos 1 ∷ pos 0 ∷ minus 1 ∷ []) (pos 0)
    ∷ []

abbrev pub five : List ℤ
five = pos 0 ∷ pos 0 ∷ pos 0 ∷ pos 0 ∷ pos 0 ∷ []

pub record LegsOfBundles : Type 0 where
  -- the positive parts of the entries, less the liability
  pub unsigned : BundleNode Unsigned (with_costs (over (minus 1) 2 ∷ wholes (pos 1 ∷ pos 1 ∷ minus 1 ∷ minus 2 ∷ [])) (program_of five covers))
  -- all of the option, in a row that keeps its sign
  pub plus : BundleNode Plus (with_costs (over (minus 21) 2 ∷ wholes (pos 1 ∷ pos 1 ∷ minus 1 ∷ minus 2 ∷ [])) (program_of five (covers ++ at_most (pos 10 ∷ minus 1 ∷ minus 1 ∷ pos 0 ∷ pos 0 ∷ []) (pos 0) ∷ [])))
  -- nothing of it
  pub minus_sign : BundleNode Minus (with_costs (over (minus 1) 2 ∷ wholes (pos 0 ∷ pos 0 ∷ minus 1 ∷ minus 2 ∷ [])) (program_of five (covers ++ at_most (minus 10 ∷ pos 1 ∷ pos 1 ∷ pos 0 ∷ pos 0 ∷ []) (pos 0) ∷ [])))
