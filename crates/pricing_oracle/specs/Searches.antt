-- What the code finds of a node and of a branch of the search.
use Rattle.std.specs.Prelude.{ℕ, zero, suc, slice_set, ◌≡◌, ◌+◌, List, [], ◌∷◌, ◌++◌, length, map, Option, Some, None, Result, Ok, Err}
use Rattle.exact_num.specs.Fraction.{Fraction}
use Rattle.frac.specs.Range.{limit as largest}
use Rattle.form.specs.declared.states.State.{State}
use Rattle.form.specs.States.{vector_of}
use Rattle.clearing_model.specs.Tree.{Sign, Unsigned, Plus, Minus}
use Rattle.clearing_model.specs.Written.{WrittenNode, PlacedMultiplier, WrittenTree, Ends, Parts, nodes_of, multipliers_of}
use Rattle.sign_tree.specs.Read.{node_of, placed_of}
use Rattle.sign_tree.specs.declared.trees.SignTree.{SignTree}
use Rattle.simplex.specs.declared.stop.RunStop.{RunStop}
use Rattle.simplex.specs.declared.stop.RunStop.TheVariants.{Wide, Budget}
use Rattle.simplex_run.specs.Ending.{Ending, done, wide_at, no_unit_left, on_answer, on_steps}
use Rattle.master_program.specs.Roles.{NodeLeg}
use Rattle.master_program.specs.Node.{covers_of, signed_of}
use Rattle.master_program.specs.NodeSteps.{counted_node}
use Rattle.master_program.specs.Search.{Question, NodeFound, leaf, violated, splits, Found, closed, found, node_at, on_side, on_state, search_from, state_of, stuck}
use Rattle.pricing_oracle.specs.declared.legs.SearchQuestion.{SearchQuestion}
use Rattle.pricing_oracle.specs.Nodes.{legs_asked}
use Rattle.pricing_oracle.specs.declared.node.Shown.{Shown}
use Rattle.pricing_oracle.specs.declared.node.Shown.TheVariants.{Leaf, Violated, Splits}
use Rattle.pricing_oracle.specs.declared.node.TreeParts.{TreeParts}

-- what is asked, in numbers within a limit and with a budget
abbrev pub asked_within : {A : Type 0} → (A → Fraction) → (limit budget : ℕ) → SearchQuestion A → Question
asked_within value limit budget asked =
    record { payoff_limit = largest; limit = limit; budget = budget; underlyings = asked.underlyings; orders = asked.orders.now; fills = map value asked.fills.now; liability = value asked.liability.now }

-- ---- a tree that grows
pub record WrittenParts : Type 0 where
  pub nodes : List WrittenNode
  pub multipliers : List PlacedMultiplier

abbrev pub parts_of : TreeParts → WrittenParts
parts_of tree = record { nodes = map node_of tree.nodes.items; multipliers = map placed_of tree.multipliers.items }

-- the tree of the code as it is written, and none
abbrev pub parts_in : SignTree → WrittenParts
parts_in tree = record { nodes = map node_of tree.nodes; multipliers = map placed_of tree.multipliers }

abbrev pub no_parts : WrittenParts
no_parts = record { nodes = []; multipliers = [] }

-- a tree behind what is written
abbrev pub with_tree : WrittenParts → WrittenTree → WrittenParts
with_tree parts tree = record { nodes = parts.nodes ++ nodes_of tree; multipliers = parts.multipliers ++ multipliers_of tree }

-- ---- ends
-- a node that is a leaf is written behind the tree
abbrev pub HasShown : WrittenParts → WrittenParts → Ending NodeFound → Result Shown RunStop → ℕ → Type 0
HasShown old new ending (Ok Leaf) spent = (ms : List PlacedMultiplier) × (new ≡ with_tree old (Ends ms)) × (ending ≡ done (leaf ms) spent)
HasShown old new ending (Ok (Violated z)) spent = ending ≡ done (violated (vector_of z)) spent
HasShown old new ending (Ok (Splits place)) spent = (new ≡ old) × (ending ≡ done (splits place) spent)
HasShown old new ending (Err (Wide unit wide)) spent = (ending ≡ wide_at unit wide) × (spent ≡ unit)
HasShown old new ending (Err Budget) spent = ending ≡ no_unit_left spent

-- and so is a branch that closes
abbrev pub HasSearched : WrittenParts → WrittenParts → Ending Found → Result (Option State) RunStop → ℕ → Type 0
HasSearched old new ending (Ok None) spent = (tree : WrittenTree) × (new ≡ with_tree old tree) × (ending ≡ done (closed tree) spent)
HasSearched old new ending (Ok (Some z)) spent = ending ≡ done (found (vector_of z)) spent
HasSearched old new ending (Err (Wide unit wide)) spent = (ending ≡ wide_at unit wide) × (spent ≡ unit)
HasSearched old new ending (Err Budget) spent = ending ≡ no_unit_left spent

-- ---- the legs that have no sign
abbrev pub one_if_unsigned : Sign → ℕ
one_if_unsigned Unsigned = 1
one_if_unsigned Plus = 0
one_if_unsigned Minus = 0

abbrev pub unsigned_in : List Sign → ℕ
unsigned_in [] = 0
unsigned_in (sign ∷ signs) = one_if_unsigned sign + unsigned_in signs

-- ---- a node of the code
abbrev pub node_of_asked : {A : Type 0} → (A → Fraction) → SearchQuestion A → List Sign → List NodeLeg
node_of_asked value asked signs = counted_node (legs_asked value asked) signs

-- the dual values of the first row, the covering legs' and the signed legs'
abbrev pub HasRows : ℕ → List NodeLeg → List Fraction → Type 0
HasRows n node y = length y ≡ suc (length (covers_of node) + length (signed_of n node))

-- how a node ends with an optimum above 0 at x
abbrev pub state_end : {A : Type 0} → (A → Fraction) → (limit : ℕ) → SearchQuestion A → List Sign → List Fraction → ℕ → Ending NodeFound
state_end value limit asked signs x unit =
    let q = asked_within value limit 0 asked in
    on_steps unit (state_of q x) (on_state q (node_at q signs) unit)

-- ---- the sides
-- what follows a split, where at most so many legs may be signed: the plus side whole, and then the
-- minus side
abbrev pub after_split : Question → ℕ → List Sign → ℕ → ℕ → Ending Found
after_split q zero signs place units = stuck units
after_split q (suc depth) signs place units =
    on_answer (search_from q depth (slice_set signs place Plus) units) (on_side
    (λ plus units. on_answer (search_from q depth (slice_set signs place Minus) units) (on_side
    (λ minus units. done (closed (Parts (place + 1) plus minus)) units))))
