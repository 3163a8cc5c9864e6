-- The branches of a search: from a node and its sides to the branch.
use Rattle.std.proofs.Common.{◌≡◌, ℕ, zero, suc, ◌+◌, ◌<◌, ◌≤◌, List, [], ◌∷◌, ◌++◌, length, map, replicate, set, get_or, ℤ, pos, negsuc, arith, refl, ap, sym, subst, ◌∙◌, append_assoc, Some, None, Option}
use Rattle.std.specs.Prelude.{Result, Ok, Err, slice_set}
use Rattle.std.proofs.lemmas.List.{map-set}
use Rattle.form.specs.declared.states.State.{State}
use Rattle.clearing_model.specs.Legs.{FilledLeg}
use Rattle.clearing_model.specs.Tree.{Sign, Unsigned, Plus, Minus, IsUnsignedLong}
use Rattle.clearing_model.specs.Written.{WrittenTree, WrittenNode, SplitNode, PlacedMultiplier, Ends, Parts, nodes_of, multipliers_of}
use Rattle.sign_tree.specs.Read.{sign_of}
use Rattle.sign_tree.proofs.Sides.{minus_signs}
use Rattle.simplex.specs.declared.stop.RunStop.{RunStop}
use Rattle.simplex.specs.declared.stop.RunStop.TheVariants.{Wide, Budget}
use Rattle.simplex_run.specs.Ending.{Ending, done, on_answer}
use Rattle.master_program.specs.Search.{Question, splits, node_end, Found, on_node, on_side, search, search_from, legs_in}
use Rattle.master_program.specs.NodeSteps.{legs_over}
use Rattle.search_laws.specs.Search.{IsAsked}
use Rattle.search_laws.proofs.Nodes.{NodeShows, node_says, own, own_over}
use Rattle.search_laws.proofs.Trees.{split_is_long}
use Rattle.simplex_run.proofs.Endings.{EndsWith}
use Rattle.master_program.proofs.NodeWider.{joined, minus_side}
use Rattle.pricing_oracle.specs.declared.node.Shown.TheVariants.{Leaf, Violated, Splits}
use Rattle.pricing_oracle.specs.Searches.{WrittenParts, after_split, with_tree, HasShown, HasSearched, one_if_unsigned, unsigned_in}
use Rattle.search_laws.proofs.Searching.{unsigned_at_first}

-- ---- a node
pub search_is : (q : Question) (depth : ℕ) (signs : List Sign) (spent : ℕ) → search_from q depth signs spent ≡ on_answer (node_end q signs spent) (on_node (after_split q depth signs))
unfolding search_from
search_is q zero signs spent = refl
search_is q (suc depth) signs spent = refl

pub leaf_closes : (q : Question) (depth : ℕ) (signs : List Sign) (before spent : ℕ) (old new : WrittenParts) → HasShown old new (node_end q signs before) (Ok Leaf) spent
    → HasSearched old new (search_from q depth signs before) (Ok None) spent
leaf_closes q depth signs before spent old new (ms, parts, ends) =
    (Ends ms, parts, search_is q depth signs before ∙ ap (λ e. on_answer e (on_node (after_split q depth signs))) ends)

pub state_found : (q : Question) (depth : ℕ) (signs : List Sign) (before spent : ℕ) (old new : WrittenParts) (z : State) → HasShown old new (node_end q signs before) (Ok (Violated z)) spent
    → HasSearched old new (search_from q depth signs before) (Ok (Some z)) spent
state_found q depth signs before spent old new z ends = search_is q depth signs before ∙ ap (λ e. on_answer e (on_node (after_split q depth signs))) ends

pub node_stops : (q : Question) (depth : ℕ) (signs : List Sign) (before spent : ℕ) (old new : WrittenParts) (stop : RunStop) → HasShown old new (node_end q signs before) (Err stop) spent
    → HasSearched old new (search_from q depth signs before) (Err stop) spent
node_stops q depth signs before spent old new (Wide unit wide) (ends, units) = (search_is q depth signs before ∙ ap (λ e. on_answer e (on_node (after_split q depth signs))) ends, units)
node_stops q depth signs before spent old new Budget ends = search_is q depth signs before ∙ ap (λ e. on_answer e (on_node (after_split q depth signs))) ends

-- a node that splits, and what follows
pub split_on : (q q' : Question) (depth : ℕ) (signs : List Sign) (before mid spent : ℕ) (old start new : WrittenParts) (place : ℕ) (result : Result (Option State) RunStop)
    → HasShown old start (node_end q signs before) (Ok (Splits place)) mid → q' ≡ q → HasSearched start new (after_split q' depth signs place mid) result spent
    → HasSearched old new (search_from q depth signs before) result spent
split_on q q' depth signs before mid spent old start new place result (parts, ends) same h =
    let is : search_from q depth signs before ≡ after_split q' depth signs place mid =
    search_is q depth signs before ∙ ap (λ e. on_answer e (on_node (after_split q depth signs))) ends ∙ ap (λ q. after_split q depth signs place mid) (sym same) in
    subst (λ e. HasSearched old new e result spent) (sym is) (subst (λ parts. HasSearched parts new (after_split q' depth signs place mid) result spent) parts h)

-- ---- the sides
-- a side that ends the branch: with a state, or at a stop
abbrev pub IsEnd : Result (Option State) RunStop → Type 0
IsEnd (Ok None) = ⊥
IsEnd (Ok (Some z)) = Unit {0}
IsEnd (Err stop) = Unit {0}

side_ends : (next : WrittenTree → ℕ → Ending Found) (e : Ending Found) (old mid start new : WrittenParts) (result : Result (Option State) RunStop) (spent : ℕ) → IsEnd result → HasSearched start mid e result spent → HasSearched old new (on_answer e (on_side next)) result spent
side_ends next e old mid start new (Ok None) spent end h = absurd end
side_ends next e old mid start new (Ok (Some z)) spent end h = ap (λ x. on_answer x (on_side next)) h
side_ends next e old mid start new (Err (Wide unit wide)) spent end (h, units) = (ap (λ x. on_answer x (on_side next)) h, units)
side_ends next e old mid start new (Err Budget) spent end h = ap (λ x. on_answer x (on_side next)) h

-- the split and its two sides as one tree
split_written : (old start mid new : WrittenParts) (place : ℕ) (plus minus : WrittenTree)
    → start.nodes ≡ old.nodes ++ (SplitNode (place + 1) ∷ []) → start.multipliers ≡ old.multipliers → mid ≡ with_tree start plus → new ≡ with_tree mid minus
    → new ≡ with_tree old (Parts (place + 1) plus minus)
split_written old start mid new place plus minus nodes multipliers mid_is new_is =
    new_is ∙ ap (λ parts. with_tree parts minus) mid_is ∙ (λ i. record { nodes = all i; multipliers = others i })
  where
    all : (start.nodes ++ nodes_of plus) ++ nodes_of minus ≡ old.nodes ++ (SplitNode (place + 1) ∷ (nodes_of plus ++ nodes_of minus))
    all =
        ap (λ (ns : List WrittenNode). (ns ++ nodes_of plus) ++ nodes_of minus) nodes
        ∙ append_assoc (old.nodes ++ (SplitNode (place + 1) ∷ [])) (nodes_of plus) (nodes_of minus)
        ∙ append_assoc old.nodes (SplitNode (place + 1) ∷ []) (nodes_of plus ++ nodes_of minus)

    others : (start.multipliers ++ multipliers_of plus) ++ multipliers_of minus ≡ old.multipliers ++ (multipliers_of plus ++ multipliers_of minus)
    others = ap (λ (ms : List PlacedMultiplier). (ms ++ multipliers_of plus) ++ multipliers_of minus) multipliers ∙ append_assoc old.multipliers (multipliers_of plus) (multipliers_of minus)

-- ---- the legs that are left to be signed
pub signed_less : (ss : List ℤ) (i : ℕ) (x : ℤ) → one_if_unsigned (sign_of x) ≡ 0 → i < length ss → get_or ss i (pos 0) ≡ pos 0 → unsigned_in (map sign_of (set ss i x)) + 1 ≡ unsigned_in (map sign_of ss)
signed_less [] i x h lt is = absurd (omega arith)
signed_less (s ∷ ss) zero x h lt is = omega (arith, h, ap (λ (s : ℤ). one_if_unsigned (sign_of s)) is)
signed_less (s ∷ ss) (suc i) x h lt is = omega (arith, signed_less ss i x h (omega arith) is)

is_zero : (s : ℤ) → sign_of s ≡ Unsigned → s ≡ pos 0
is_zero (pos zero) h = refl
is_zero (pos (suc n)) h = cc
is_zero (negsuc n) h = cc

unsigned_at : (legs : List FilledLeg) (ss : List ℤ) (i : ℕ) → IsUnsignedLong legs (map sign_of ss) i → (i < length ss) × (get_or ss i (pos 0) ≡ pos 0)
unsigned_at [] ss i is = absurd is
unsigned_at (leg ∷ legs) [] i is = absurd is
unsigned_at (leg ∷ legs) (s ∷ ss) zero is = (omega arith, is_zero s is.1)
unsigned_at (leg ∷ legs) (s ∷ ss) (suc i) is =
    let there = unsigned_at legs ss i is in
    (omega (arith, there.0), there.1)

-- a leg at which a node splits has no sign
pub splits_unsigned : (q : Question) (ss : List ℤ) (spent units place : ℕ) → IsAsked q → length (map sign_of ss) ≡ length (legs_in q) → node_end q (map sign_of ss) spent ≡ done (splits place) units
    → (place < length ss) × (get_or ss place (pos 0) ≡ pos 0)
splits_unsigned q ss spent units place asked count h =
    let there = subst (EndsWith (NodeShows q (map sign_of ss))) h (node_says q (map sign_of ss) spent asked count) in
    unsigned_at (legs_over (own q) (legs_in q)) ss place (split_is_long q (map sign_of ss) place (own q) asked count (own_over q asked) there)

-- ---- a split, where the leg at the place has no sign
-- a branch under these signs, however many legs more it may sign
abbrev pub BranchSays : Question → List ℤ → ℕ → WrittenParts → WrittenParts → Result (Option State) RunStop → ℕ → Type 0
BranchSays q ss before old new result spent = (depth : ℕ) → unsigned_in (map sign_of ss) ≤ depth → HasSearched old new (search_from q depth (map sign_of ss) before) result spent

pub says_as : (q : Question) (ss : List ℤ) (before : ℕ) (old new : WrittenParts) (result answer : Result (Option State) RunStop) (spent : ℕ) → result ≡ answer → BranchSays q ss before old new result spent → BranchSays q ss before old new answer spent
says_as q ss before old new result answer spent e h = subst (λ r. BranchSays q ss before old new r spent) e h

under : (q : Question) (depth : ℕ) (ss : List ℤ) (place : ℕ) (x : ℤ) (sign : Sign) (before spent : ℕ) (old new : WrittenParts) (result : Result (Option State) RunStop) → sign_of x ≡ sign → one_if_unsigned (sign_of x) ≡ 0 → place < length ss → get_or ss place (pos 0) ≡ pos 0
    → unsigned_in (map sign_of ss) ≤ suc depth → BranchSays q (set ss place x) before old new result spent → HasSearched old new (search_from q depth (slice_set (map sign_of ss) place sign) before) result spent
under q depth ss place x sign before spent old new result is signed inside none few h =
    let same : map sign_of (set ss place x) ≡ slice_set (map sign_of ss) place sign = map-set sign_of ss place x ∙ ap (slice_set (map sign_of ss) place) is in
    subst (λ signs. HasSearched old new (search_from q depth signs before) result spent) same (h depth (omega (arith, few, signed_less ss place x signed inside none)))

pub plus_ends : (q : Question) (depth : ℕ) (ss : List ℤ) (place before spent : ℕ) (old start mid new : WrittenParts) (result : Result (Option State) RunStop) → IsEnd result → place < length ss → get_or ss place (pos 0) ≡ pos 0 → unsigned_in (map sign_of ss) ≤ depth
    → BranchSays q (set ss place (pos 1)) before start mid result spent → HasSearched old new (after_split q depth (map sign_of ss) place before) result spent
plus_ends q zero ss place before spent old start mid new result end inside none few h = absurd (omega (arith, few, signed_less ss place (pos 1) refl inside none))
plus_ends q (suc depth) ss place before spent old start mid new result end inside none few h =
    side_ends (minus_side q depth (map sign_of ss) place) (search_from q depth (slice_set (map sign_of ss) place Plus) before) old mid start new result spent end
    (under q depth ss place (pos 1) Plus before spent start mid result refl refl inside none few h)

pub minus_ends : (q q' : Question) (depth : ℕ) (ss now : List ℤ) (place before between spent : ℕ) (old start mid last new : WrittenParts) (result : Result (Option State) RunStop) → IsEnd result → place < length ss → get_or ss place (pos 0) ≡ pos 0 → unsigned_in (map sign_of ss) ≤ depth
    → BranchSays q (set ss place (pos 1)) before start mid (Ok None) between → q' ≡ q → now ≡ set ss place (pos 1) → BranchSays q' (set now place (negsuc 0)) between mid last result spent
    → HasSearched old new (after_split q depth (map sign_of ss) place before) result spent
minus_ends q q' zero ss now place before between spent old start mid last new result end inside none few plus same is minus = absurd (omega (arith, few, signed_less ss place (pos 1) refl inside none))
minus_ends q q' (suc depth) ss now place before between spent old start mid last new result end inside none few plus same is minus =
    let above = under q depth ss place (pos 1) Plus before between start mid (Ok None) refl refl inside none few plus in
    let below : BranchSays q (set ss place (negsuc 0)) between mid last result spent = subst (λ ss. BranchSays q ss between mid last result spent) (minus_signs ss now place is) (subst (λ q. BranchSays q (set now place (negsuc 0)) between mid last result spent) same minus) in
    subst (λ e. HasSearched old new e result spent) (sym (ap (λ e. on_answer e (on_side (minus_side q depth (map sign_of ss) place))) above.2))
    (side_ends (joined place above.0) (search_from q depth (slice_set (map sign_of ss) place Minus) between) old last mid new result spent end
    (under q depth ss place (negsuc 0) Minus between spent mid last result refl refl inside none few below))

pub both_close : (q q' : Question) (depth : ℕ) (ss now : List ℤ) (place before between spent : ℕ) (old start mid new : WrittenParts) → place < length ss → get_or ss place (pos 0) ≡ pos 0 → unsigned_in (map sign_of ss) ≤ depth
    → start.nodes ≡ old.nodes ++ (SplitNode (place + 1) ∷ []) → start.multipliers ≡ old.multipliers
    → BranchSays q (set ss place (pos 1)) before start mid (Ok None) between → q' ≡ q → now ≡ set ss place (pos 1) → BranchSays q' (set now place (negsuc 0)) between mid new (Ok None) spent
    → HasSearched old new (after_split q depth (map sign_of ss) place before) (Ok None) spent
both_close q q' zero ss now place before between spent old start mid new inside none few nodes multipliers plus same is minus = absurd (omega (arith, few, signed_less ss place (pos 1) refl inside none))
both_close q q' (suc depth) ss now place before between spent old start mid new inside none few nodes multipliers plus same is minus =
    let above = under q depth ss place (pos 1) Plus before between start mid (Ok None) refl refl inside none few plus in
    let below = under q depth ss place (negsuc 0) Minus between spent mid new (Ok None) refl refl inside none few
    (subst (λ ss. BranchSays q ss between mid new (Ok None) spent) (minus_signs ss now place is) (subst (λ q. BranchSays q (set now place (negsuc 0)) between mid new (Ok None) spent) same minus)) in (
      Parts (place + 1) above.0 below.0,
      split_written old start mid new place above.0 below.0 nodes multipliers above.1 below.1,
      ap (λ e. on_answer e (on_side (minus_side q depth (map sign_of ss) place))) above.2 ∙ ap (λ e. on_answer e (on_side (joined place above.0))) below.2,
    )

-- ---- the whole search
pub whole_search : (q : Question) (ss : List ℤ) (before spent : ℕ) (old new : WrittenParts) (result : Result (Option State) RunStop) → map sign_of ss ≡ replicate (length (legs_in q)) Unsigned → BranchSays q ss before old new result spent
    → HasSearched old new (search q before) result spent
unfolding search
whole_search q ss before spent old new result is h =
    let k = length (legs_in q) in
    subst (λ signs. HasSearched old new (search_from q k signs before) result spent) is (h k (omega (arith, ap unsigned_in is, unsigned_at_first k)))
