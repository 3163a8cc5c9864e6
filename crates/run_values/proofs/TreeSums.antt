-- The sums of the walk over a tree, and the run on several underlyings.
use Rattle.std.proofs.Common.{ℕ, zero, suc, ◌+◌, ◌-◌, ◌≤◌, ◌==◌, List, [], ◌∷◌, length, take, drop, get_or, replicate, Bool, true, false, ℤ, pos, arith}
use Rattle.std.specs.Prelude.{nat_le, if◌then◌else◌, slice_set, Result, Ok}
use Rattle.std.specs.List.{All}
use Rattle.std.proofs.lemmas.Int.{ints}
use Rattle.std.proofs.lemmas.List.Elements.{All-nil, All-cons, All-head, All-tail, All-append, All-drop, All-take}
use Rattle.exact_num.specs.declared.misfit.Wide.{Wide}
use Rattle.exact_num.specs.Fraction.{Fraction, whole}
use Rattle.exact_num.specs.Steps.{all_of, and_then, fold_steps, plus_product}
use Rattle.exact_num.specs.Tests.{is_above_zero, is_at_most}
use Rattle.frac.specs.Range.{limit as largest}
use Rattle.form.specs.declared.limits.TheConstants.{MAX_ORDERS}
use Rattle.form.specs.declared.orders.Order.{Order}
use Rattle.form.specs.Limits.{IsOrderWithin}
use Rattle.form.specs.Vector.{positive_part}
use Rattle.clearing_model.specs.Legs.{Exposure, Long, Short}
use Rattle.clearing_model.specs.Tree.{Sign, Unsigned, Plus, Minus}
use Rattle.clearing_model.specs.Written.{PlacedMultiplier, WrittenNode, SplitNode, LeafNode, WrittenTree, Ends as EndsTree, Parts, multipliers_of, nodes_of}
use Rattle.sign_tree.specs.Legs.{FractionLeg, fraction_legs, leg_fill}
use Rattle.sign_tree.specs.Walk.{SignedLeg, add_leg, add_term, are_placed, closes_of, entries_close, entry_sum, first_at, is_within, is_within_at, keeps_within, leaf_closes, left_after, less_liability, may_split, plus_filled, signed_legs, walk}
use Rattle.master_program.specs.Rounds.{Cleared, rounds}
use Rattle.constraint_generation.specs.Answers.{limits_of}
use Rattle.constraint_generation.specs.Run.{tree_sums_hold as sums_hold, tree_run}
use Rattle.simplex_run.specs.Ending.{done, where_fits}
use Rattle.run_values.specs.Values.{Ends, IsPlacedOf, IsTreeOf, IsValue}
use Rattle.run_values.proofs.Nodes.{IsLegOf, entry_low, legs_are, less_has, read_entry}
use Rattle.run_values.proofs.Numbers.{Has, Nothing, after_has, all_has, answer_ends, fold_has, less_product_has, mul_has, plus_product_has, steps_end, then_has, whole_value, zero_value}
use Rattle.run_values.proofs.Payoffs.{IsEntry, all_listed, part_small}
use Rattle.run_values.proofs.Readings.{sums_have}
use Rattle.run_values.proofs.Searches.{IsClearedOf, rounds_end}

abbrev IsBy : PlacedMultiplier → Type 0
IsBy m = IsValue m.by

fill_value : (leg : FractionLeg) → IsLegOf leg → Has IsValue (leg_fill largest leg)
fill_value leg of = let few = of.size in mul_has leg.fill (whole (pos leg.size)) of.fill (whole_value (pos leg.size) (omega (arith, ints, few)))

-- ---- multipliers of short legs
within_one : (exposure : Exposure) (leg : FractionLeg) (by : Fraction) → IsLegOf leg → Has Nothing (is_within largest exposure leg by)
within_one Long leg by of = tt
within_one Short leg by of = after_has IsValue Nothing (leg_fill largest leg) (λ fill. Ok (is_at_most by fill)) (fill_value leg of) (λ fill f. tt)

within_at : (legs : List FractionLeg) (i : ℕ) (by : Fraction) → All IsLegOf legs → Has Nothing (is_within_at largest legs i by)
within_at [] i by of = tt
within_at (leg ∷ legs) zero by of = within_one leg.exposure leg by (All-head IsLegOf leg legs of)
within_at (leg ∷ legs) (suc i) by of = within_at legs i by (All-tail IsLegOf leg legs of)

-- ---- the sums of a leaf
record IsSigned (signed : SignedLeg) : Type 0 where
  leg : IsLegOf signed.leg
  by : IsValue signed.by

first_value : (place : ℕ) (ms : List PlacedMultiplier) → All IsBy ms → IsValue (first_at place ms)
first_value place [] are = zero_value
first_value place (m ∷ ms) are = elim (m.place == place) as (λ b. IsValue (if b then m.by else whole (pos 0))) [
  | true ↦ All-head IsBy m ms are
  | false ↦ zero_value
]

left_are : (place : ℕ) (ms : List PlacedMultiplier) → All IsBy ms → All IsBy (left_after place ms)
left_are place [] are = All-nil IsBy
left_are place (m ∷ ms) are = elim (m.place == place) as (λ b. All IsBy (if b then ms else m ∷ ms)) [
  | true ↦ All-tail IsBy m ms are
  | false ↦ are
]

signed_are : (place : ℕ) (legs : List FractionLeg) (signs : List Sign) (ms : List PlacedMultiplier) → All IsLegOf legs → All IsBy ms → All IsSigned (signed_legs place legs signs ms)
signed_are place [] signs ms of are = All-nil IsSigned
signed_are place (leg ∷ legs) [] ms of are = All-nil IsSigned
signed_are place (leg ∷ legs) (sign ∷ signs) ms of are =
    All-cons IsSigned (record { leg = leg; sign = sign; by = first_at place ms }) (signed_legs (place + 1) legs signs (left_after place ms))
    (record { leg = All-head IsLegOf leg legs of; by = first_value place ms are }) (signed_are (place + 1) legs signs (left_after place ms) (All-tail IsLegOf leg legs of) (left_are place ms are))

filled_has : (total : Fraction) (fill : Result Fraction Wide) (x : ℤ) → IsValue total → Has IsValue fill → IsEntry x → Has IsValue (plus_filled largest total fill x)
filled_has total fill x is h low = after_has IsValue IsValue fill (λ f. plus_product largest total f (whole x)) h (λ f v. plus_product_has total f (whole x) is v (whole_value x (entry_low x low)))

term_has : (total : Fraction) (exposure : Exposure) (sign : Sign) (fill : Result Fraction Wide) (by : Fraction) (x : ℤ) → IsValue total → Has IsValue fill → IsValue by → IsEntry x
    → Has IsValue (add_term largest total exposure sign fill by x)
term_has total Long Unsigned fill by x is h b low = filled_has total fill (pos (positive_part x)) is h (part_small 1000000000 x low)
term_has total Long Plus fill by x is h b low =
    after_has IsValue IsValue (plus_filled largest total fill x) (λ sum. plus_product largest sum by (whole x)) (filled_has total fill x is h low) (λ sum s. plus_product_has sum by (whole x) s b (whole_value x (entry_low x low)))
term_has total Long Minus fill by x is h b low = less_product_has total by (whole x) is b (whole_value x (entry_low x low))
term_has total Short sign fill by x is h b low = less_product_has total by (whole x) is b (whole_value x (entry_low x low))

entry_ends : (legs : List FractionLeg) (L : Fraction) (signs : List Sign) (ms : List PlacedMultiplier) (i : ℕ) → All IsLegOf legs → IsValue L → All IsBy ms → Has IsValue (entry_sum largest legs L signs ms i)
entry_ends legs L signs ms i of l are =
    after_has IsValue IsValue (fold_steps (add_leg largest i) (whole (pos 0)) (signed_legs 1 legs signs ms)) (less_liability largest L i)
    (fold_has IsValue IsSigned (add_leg largest i)
    (λ total signed is one. term_has total signed.leg.exposure signed.sign (leg_fill largest signed.leg) signed.by (get_or signed.leg.option i (pos 0)) is (fill_value signed.leg one.leg) one.by (read_entry signed.leg.option i one.leg.entries))
    (whole (pos 0)) (signed_legs 1 legs signs ms) zero_value (signed_are 1 legs signs ms of are))
    (λ sum s. less_has L i sum l s)

entries_have : (legs : List FractionLeg) (L : Fraction) (signs : List Sign) (ms : List PlacedMultiplier) (i left : ℕ) → All IsLegOf legs → IsValue L → All IsBy ms → Has Nothing (entries_close largest legs L signs ms i left)
entries_have legs L signs ms i zero of l are = tt
entries_have legs L signs ms i (suc left) of l are =
    after_has IsValue Nothing (entry_sum largest legs L signs ms i) (λ sum. if is_above_zero sum then Ok false else entries_close largest legs L signs ms (i + 1) left) (entry_ends legs L signs ms i of l are)
    (λ sum s. by sum (is_above_zero sum) (entries_have legs L signs ms (i + 1) left of l are))
  where
    by : (sum : Fraction) (b : Bool) → Has Nothing (entries_close largest legs L signs ms (i + 1) left) → Has Nothing (if b then Ok false else entries_close largest legs L signs ms (i + 1) left)
    by sum true later = tt
    by sum false later = later

leaf_has : (n : ℕ) (legs : List FractionLeg) (L : Fraction) (signs : List Sign) (ms : List PlacedMultiplier) → All IsLegOf legs → IsValue L → All IsBy ms → Has Nothing (leaf_closes largest n legs L signs ms)
leaf_has n legs L signs ms of l are = by (are_placed legs signs ms)
  where
    by : (b : Bool) → Has Nothing (if b then and_then (all_of (keeps_within largest legs) ms) (entries_close largest legs L signs ms 0 (n + 1)) else Ok false)
    by true =
        then_has (all_of (keeps_within largest legs) ms) (entries_close largest legs L signs ms 0 (n + 1))
        (all_has IsBy (keeps_within largest legs) (λ m b. within_at legs (m.place - 1) m.by of) ms are) (entries_have legs L signs ms 0 (n + 1) of l are)
    by false = tt

-- ---- the walk
walk_has : (n : ℕ) (legs : List FractionLeg) (L : Fraction) (nodes : List WrittenNode) (pending : List (List Sign)) (ms : List PlacedMultiplier) → All IsLegOf legs → IsValue L → All IsBy ms
    → Has Nothing (walk largest n legs L nodes pending ms)
walk_has n legs L [] [] [] of l are = tt
walk_has n legs L [] [] (m ∷ ms) of l are = tt
walk_has n legs L [] (signs ∷ pending) ms of l are = tt
walk_has n legs L (node ∷ nodes) [] ms of l are = tt
walk_has n legs L (SplitNode place ∷ nodes) (signs ∷ pending) ms of l are =
    let next = slice_set signs (place - 1) Plus ∷ slice_set signs (place - 1) Minus ∷ pending in
    elim (may_split legs signs place) as (λ b. Has Nothing (if b then walk largest n legs L nodes next ms else Ok false)) [
      | true ↦ walk_has n legs L nodes next ms of l are
      | false ↦ tt
    ]
walk_has n legs L (LeafNode count ∷ nodes) (signs ∷ pending) ms of l are =
    let first = leaf_closes largest n legs L signs (take count ms) in
    let rest = walk largest n legs L nodes pending (drop count ms) in
    elim (nat_le count (length ms)) as (λ b. Has Nothing (if b then and_then first rest else Ok false)) [
      | true ↦ then_has first rest (leaf_has n legs L signs (take count ms) of l (All-take IsBy count ms are)) (walk_has n legs L nodes pending (drop count ms) of l (All-drop IsBy count ms are))
      | false ↦ tt
    ]

pub placed : (k : ℕ) (tree : WrittenTree) → IsTreeOf k tree → All (IsPlacedOf k) (multipliers_of tree)
placed k (EndsTree ms) of = of
placed k (Parts place plus minus) of = All-append (IsPlacedOf k) (multipliers_of plus) (multipliers_of minus) (placed k plus of.1) (placed k minus of.2)

pub by_values : (k : ℕ) (tree : WrittenTree) → IsTreeOf k tree → All IsBy (multipliers_of tree)
by_values k tree of = λ i d inside. (placed k tree of i d inside).by

-- ---- the run
sums_are : (n : ℕ) (orders : List Order) (c : Cleared) → All IsOrderWithin orders → IsClearedOf c → Has Nothing (sums_hold largest n orders c)
sums_are n orders (r, tree) within of =
    let legs = fraction_legs orders r.fills in
    sums_have orders r (closes_of largest n legs r.liability (nodes_of tree) (multipliers_of tree)) within of.0
    (walk_has n legs r.liability (nodes_of tree) (replicate (length legs) Unsigned ∷ []) (multipliers_of tree) (legs_are orders r.fills (all_listed orders within) of.0.fills) of.0.liability (by_values 1024 tree of.1))

pub tree_run_ends : (budget n spent : ℕ) (orders : List Order) → length orders ≤ MAX_ORDERS → All IsOrderWithin orders → Ends IsClearedOf (tree_run (limits_of largest budget) n orders spent)
unfolding tree_run
tree_run_ends budget n spent orders few within =
    answer_ends IsClearedOf IsClearedOf (rounds (limits_of largest budget) n orders spent) (where_fits (sums_hold largest n orders)) (rounds_end budget n spent orders few within)
    (λ c units of. steps_end Nothing IsClearedOf units (sums_hold largest n orders c) (λ b. done c units) (sums_are n orders c within of) (λ b h. of))
