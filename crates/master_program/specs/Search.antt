-- The search for a state at which the net of fills is above the liability, with units of work: one
-- for each node that is opened, and one for each turn of its program.
use Rattle.std.specs.Prelude.{ℕ, ◌≤◌, ◌≡◌, zero, suc, ◌+◌, ◌-◌, List, [], length, take, drop, zip, replicate, slice_set, nat_lt, if◌then◌else◌, pos, Option, Some, None, Result, Ok}
use Rattle.exact_num.specs.declared.misfit.Wide.{Wide}
use Rattle.exact_num.specs.Fraction.{Fraction}
use Rattle.exact_num.specs.Fits.{whole_of, after}
use Rattle.simplex_run.specs.Places.{fraction_zero}
use Rattle.exact_num.specs.Tests.{is_above_zero}
use Rattle.simplex_run.specs.Program.{LinearProgram}
use Rattle.simplex_run.specs.Ending.{Ending, done, unbounded, no_unit_left, on_answer, on_steps, HasNoMisfit}
use Rattle.simplex_run.specs.Run.{Optimum, run, optimum}
use Rattle.form.specs.declared.orders.Order.{Order}
use Rattle.form.specs.Vector.{scale_of}
use Rattle.form.specs.Primitive.{primitive_of}
use Rattle.form.specs.Steps.{add_for_side}
use Rattle.exact_num.specs.Steps.{fold_steps, less_product}
use Rattle.master_program.specs.Master.{order_payoff}
use Rattle.clearing_model.specs.Tree.{Sign, Unsigned, Plus, Minus}
use Rattle.clearing_model.specs.Written.{PlacedMultiplier, WrittenTree, Ends, Parts}
use Rattle.master_program.specs.Roles.{NodeLeg, leg_multipliers, placed_from, split_place}
use Rattle.master_program.specs.Node.{covers_of}
use Rattle.sign_tree.specs.Legs.{FractionLeg, fraction_legs}
use Rattle.master_program.specs.NodeSteps.{counted_node, node_steps}

-- ---- what the fills owe at a state above the liability, each step within a limit
-- what a filled order owes; the payoff has a limit of its own
unfoldable pub add_owed : ℕ → ℕ → List ℕ → Fraction → Order × Fraction → Result Fraction Wide
add_owed payoff_limit limit z total fill =
    after (order_payoff payoff_limit fill.0 z)
    (λ payoff. after (whole_of limit payoff.numerator) (λ owed. add_for_side limit total fill.0.side fill.1 owed))

-- an order that is not filled owes nothing
abbrev pub add_filled : ℕ → ℕ → List ℕ → Fraction → Order × Fraction → Result Fraction Wide
add_filled payoff_limit limit z total fill = if is_above_zero fill.1 then add_owed payoff_limit limit z total fill else Ok total

-- order by order; the liability times t is subtracted last
unfoldable pub excess_of : ℕ → ℕ → List (Order × Fraction) → Fraction → List ℕ → Result Fraction Wide
excess_of payoff_limit limit fills L z =
    after (fold_steps (add_filled payoff_limit limit z) fraction_zero fills)
    (λ net. after (whole_of limit (pos (scale_of z))) (λ t. less_product limit net L t))

-- ---- one node
-- whether the liability is enough for the fills of the orders at each state, within these limits of
-- numbers and of units
pub record Question : Type 0 where
  pub payoff_limit : ℕ
  pub limit : ℕ
  pub budget : ℕ
  pub underlyings : ℕ
  pub orders : List Order
  pub fills : List Fraction
  pub liability : Fraction

abbrev pub legs_in : Question → List FractionLeg
legs_in q = fraction_legs q.orders q.fills

-- what a node shows: that it is a leaf, a state that violates, or a leg at which it splits
pub data NodeFound : Type 0 where
  leaf : (multipliers : List PlacedMultiplier) → NodeFound
  violated : (state : List ℕ) → NodeFound
  splits : (place : ℕ) → NodeFound

-- an end with none of these, in no direction
abbrev pub stuck : {A : Type 0} → ℕ → Ending A
stuck spent = unbounded [] spent

abbrev pub on_place : ℕ → Option ℕ → Ending NodeFound
on_place spent (Some place) = done (splits place) spent
on_place spent None = stuck spent

-- the multipliers are the dual values of the rows after the first
abbrev pub multipliers_of : List NodeLeg → List Fraction → List Fraction
multipliers_of node y = leg_multipliers fraction_zero node (drop 1 y) (drop (suc (length (covers_of node))) y)

abbrev pub leaf_of : List NodeLeg → List Fraction → List PlacedMultiplier
leaf_of node y = placed_from 1 (multipliers_of node y)

abbrev pub on_excess : Question → List NodeLeg → ℕ → List ℕ → Fraction → Ending NodeFound
on_excess q node spent z excess = if is_above_zero excess then done (violated z) spent else on_place spent (split_place q.underlyings node)

abbrev pub excess_at : Question → List ℕ → Result Fraction Wide
excess_at q z = excess_of q.payoff_limit q.limit (zip q.orders q.fills) q.liability z

abbrev pub on_state : Question → List NodeLeg → ℕ → List ℕ → Ending NodeFound
on_state q node spent z = on_steps spent (excess_at q z) (on_excess q node spent z)

-- the state is what the first variables are multiples of
abbrev pub state_of : Question → List Fraction → Result (List ℕ) Wide
state_of q x = primitive_of q.limit (take (suc q.underlyings) x)

abbrev pub on_optimum : Question → List NodeLeg → Optimum → ℕ → Ending NodeFound
on_optimum q node (optimum x y reduced value) spent =
    if is_above_zero value
    then on_steps spent (state_of q x) (on_state q node spent)
    else done (leaf (leaf_of node y)) spent

abbrev pub on_program : Question → List NodeLeg → ℕ → LinearProgram → Ending NodeFound
on_program q node spent program = on_answer (run q.limit program (q.budget - spent) spent) (on_optimum q node)

abbrev pub program_at : Question → List Sign → Result LinearProgram Wide
program_at q signs = node_steps q.limit q.underlyings (legs_in q) q.liability signs

abbrev pub node_at : Question → List Sign → List NodeLeg
node_at q signs = counted_node (legs_in q) signs

-- the node with these signs; to open it spends a unit
unfoldable pub node_end : Question → List Sign → ℕ → Ending NodeFound
node_end q signs spent =
    if nat_lt spent q.budget
    then on_steps (spent + 1) (program_at q signs) (on_program q (node_at q signs) (spent + 1))
    else no_unit_left spent

-- ---- the search
-- what it shows: a tree that is closed, or a state that violates
pub data Found : Type 0 where
  closed : (tree : WrittenTree) → Found
  found : (state : List ℕ) → Found

-- what follows what a node shows, where it splits
abbrev pub on_node : (ℕ → ℕ → Ending Found) → NodeFound → ℕ → Ending Found
on_node next (leaf multipliers) spent = done (closed (Ends multipliers)) spent
on_node next (violated z) spent = done (found z) spent
on_node next (splits place) spent = next place spent

-- what follows a side, where it is closed
abbrev pub on_side : (WrittenTree → ℕ → Ending Found) → Found → ℕ → Ending Found
on_side next (closed tree) spent = next tree spent
on_side next (found z) spent = done (found z) spent

-- depth first: the plus side whole, then the minus side. At most `depth` more legs are signed
unfoldable pub search_from : Question → ℕ → List Sign → ℕ → Ending Found
search_from q zero signs spent = on_answer (node_end q signs spent) (on_node (λ place units. stuck units))
search_from q (suc depth) signs spent =
    on_answer (node_end q signs spent) (on_node
    (λ place units. on_answer (search_from q depth (slice_set signs place Plus) units) (on_side
    (λ plus units. on_answer (search_from q depth (slice_set signs place Minus) units) (on_side
    (λ minus units. done (closed (Parts (place + 1) plus minus)) units))))))

-- it begins with no leg signed, and each leg is signed at most once
unfoldable pub search : Question → ℕ → Ending Found
search q spent = let k = length (legs_in q) in search_from q k (replicate k Unsigned) spent

-- ---- the limit
-- the same question within another limit of numbers
abbrev pub within : ℕ → Question → Question
within limit q =
    record { payoff_limit = q.payoff_limit; limit = limit; budget = q.budget; underlyings = q.underlyings; orders = q.orders; fills = q.fills; liability = q.liability }

-- a search without a misfit is the same with each greater limit
abbrev pub SearchesAreTheSame : Type 0
SearchesAreTheSame =
    (q : Question) (greater spent : ℕ) → q.limit ≤ greater → HasNoMisfit (search q spent) → search (within greater q) spent ≡ search q spent

-- opens these definitions, for a proof that computes with numerals
unfoldable pub search_steps : Unit {0}
unfolding primitive_of add_owed excess_of node_end search_from search
search_steps = tt
