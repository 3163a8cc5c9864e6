-- Values of the code are those that the definitions make of their fractions.
use Rattle.std.proofs.Common.{◌≡◌, refl, Bool, true, false, List, [], ◌∷◌, map, ap, ap₂, sym, ◌∙◌, subst}
use Rattle.std.proofs.lemmas.Bool.{and_parts, lt-ltb}
use Rattle.exact_num.specs.Fraction.{Fraction}
use Rattle.frac.specs.declared.frac128.Frac128.{Frac128}
use Rattle.frac.specs.Value.{fraction_of}
use Rattle.frac.specs.ValueOf.{value_of, value_or_zero}
use Rattle.frac.proofs.ValueOf.{value-fraction_of}
use Rattle.form.proofs.StateOf.{state-vector_of}
use Rattle.clearing_model.specs.Written.{WrittenNode, SplitNode, LeafNode, PlacedMultiplier, WrittenTree, nodes_of, multipliers_of}
use Rattle.sign_tree.specs.declared.trees.Node.{Node}
use Rattle.sign_tree.specs.declared.trees.Node.TheVariants.{Split, Leaf}
use Rattle.sign_tree.specs.declared.trees.Multiplier.{Multiplier}
use Rattle.sign_tree.specs.declared.trees.SignTree.{SignTree}
use Rattle.sign_tree.specs.Read.{node_of, placed_of}
use Rattle.cert_check.specs.declared.outcome.Cover.{Cover}
use Rattle.cert_check.specs.declared.outcome.Cover.TheVariants.{Line, Tree}
use Rattle.constraint_generation.specs.Answers.{IsCoverAs, IsTreeAs}
use Rattle.constraint_generation.specs.Run.{WrittenCover, by_line, by_tree}
use Rattle.cert_check.specs.declared.measures.Weighted.{Weighted}
use Rattle.cert_check.specs.Points.{point_of}
use Rattle.clearing_model.specs.Certificate.{fraction_weight, by_of}
use Rattle.master_program.specs.Reading.{reading_with}
use Rattle.clearing.specs.Outcome.{weighted_of, written_node, placed_value, tree_of, cover_of, is_value, are_values, multipliers_in, reading_has_values, has_values}

pub value_is : (x : Frac128) (f : Fraction) → fraction_of x ≡ f → x ≡ value_of f
value_is x f e = sym (value-fraction_of x) ∙ ap value_of e

pub values_are : (xs : List Frac128) → xs ≡ map value_of (map fraction_of xs)
values_are [] = refl
values_are (x ∷ xs) = ap₂ (λ (y : Frac128) (ys : List Frac128). y ∷ ys) (sym (value-fraction_of x)) (values_are xs)

weighted_is : (w : Weighted) → w ≡ weighted_of (point_of w)
weighted_is w = λ i. record { state = sym (state-vector_of w.state) i; weight = sym (value-fraction_of w.weight) i }

pub points_are : (ws : List Weighted) → ws ≡ map weighted_of (map point_of ws)
points_are [] = refl
points_are (w ∷ ws) = ap₂ (λ (v : Weighted) (vs : List Weighted). v ∷ vs) (weighted_is w) (points_are ws)

-- ---- a cover
nodes_are : (ns : List Node) → ns ≡ map written_node (map node_of ns)
nodes_are [] = refl
nodes_are (Split place ∷ ns) = ap (λ (l : List Node). Split place ∷ l) (nodes_are ns)
nodes_are (Leaf count ∷ ns) = ap (λ (l : List Node). Leaf count ∷ l) (nodes_are ns)

multiplier_is : (m : Multiplier) → m ≡ placed_value (placed_of m)
multiplier_is m = λ i. record { place = m.place; by = sym (value-fraction_of m.by) i }

multipliers_are : (ms : List Multiplier) → ms ≡ map placed_value (map placed_of ms)
multipliers_are [] = refl
multipliers_are (m ∷ ms) = ap₂ (λ (n : Multiplier) (ns : List Multiplier). n ∷ ns) (multiplier_is m) (multipliers_are ms)

tree_is : (written : WrittenTree) (tree : SignTree) → IsTreeAs written tree → tree ≡ tree_of written
tree_is written tree is = λ i. record {
  nodes = (nodes_are tree.nodes ∙ ap (map written_node) is.0) i;
  multipliers = (multipliers_are tree.multipliers ∙ ap (map placed_value) is.1) i;
}

pub cover_is : (written : WrittenCover) (cover : Cover) → IsCoverAs written cover → cover ≡ cover_of written
cover_is by_line Line is = refl
cover_is by_line (Tree tree) is = absurd is
cover_is (by_tree written) Line is = absurd is
cover_is (by_tree written) (Tree tree) is = ap Tree (tree_is written tree is)

-- ---- the fraction of a value is a value's
is_value_of : (x : Frac128) → is_value (fraction_of x) ≡ true
is_value_of x = rw (lt-ltb _ _ x.lowest.positive, x.lowest.coprime, lt-ltb _ _ x.above_fits, lt-ltb _ _ x.below_fits) refl

are_values_of : (xs : List Frac128) → are_values (map fraction_of xs) ≡ true
are_values_of [] = refl
are_values_of (x ∷ xs) = rw (is_value_of x) (are_values_of xs)

are_weights_of : (ws : List Weighted) → are_values (map fraction_weight (map point_of ws)) ≡ true
are_weights_of [] = refl
are_weights_of (w ∷ ws) = rw (is_value_of w.weight) (are_weights_of ws)

reading_of_values : (fills : List Frac128) (L S : Frac128) (points : List Weighted) → reading_has_values (reading_with (map fraction_of fills) (fraction_of S) (map point_of points) (fraction_of L)) ≡ true
reading_of_values fills L S points = rw (is_value_of L, is_value_of S, are_values_of fills, are_weights_of points) refl

are_multipliers_of : (ms : List Multiplier) → are_values (map by_of (map placed_of ms)) ≡ true
are_multipliers_of [] = refl
are_multipliers_of (m ∷ ms) = rw (is_value_of m.by) (are_multipliers_of ms)

cover_of_values : (written : WrittenCover) (cover : Cover) → IsCoverAs written cover → are_values (multipliers_in written) ≡ true
cover_of_values by_line Line is = refl
cover_of_values by_line (Tree tree) is = absurd is
cover_of_values (by_tree written) Line is = absurd is
cover_of_values (by_tree written) (Tree tree) is = subst (λ ms. are_values (map by_of ms) ≡ true) is.1 (are_multipliers_of tree.multipliers)

pub joint_has_values : (fills : List Frac128) (L S : Frac128) (points : List Weighted) (written : WrittenCover) (cover : Cover) → IsCoverAs written cover
    → has_values (reading_with (map fraction_of fills) (fraction_of S) (map point_of points) (fraction_of L), written) ≡ true
joint_has_values fills L S points written cover is =
    let read = reading_of_values fills L S points in
    let covered = cover_of_values written cover is in
    rw (read, covered) refl

-- so a fraction that is a value's is that of the value
made_is : (x : Fraction) (b : Bool) (e : is_value x ≡ b) → b ≡ true → fraction_of (value_or_zero x b e) ≡ x
made_is x true e t = refl
made_is x false e t = cc

pub fraction_is : (x : Fraction) → is_value x ≡ true → fraction_of (value_of x) ≡ x
unfolding value_of
fraction_is x t = made_is x (is_value x) refl t

pub fractions_are : (xs : List Fraction) → are_values xs ≡ true → map fraction_of (map value_of xs) ≡ xs
fractions_are [] t = refl
fractions_are (x ∷ xs) t =
    let parts = and_parts (is_value x) (are_values xs) t in
    ap₂ (λ (y : Fraction) (ys : List Fraction). y ∷ ys) (fraction_is x parts.0) (fractions_are xs parts.1)

-- and a cover whose multipliers are values' is that of the code
nodes_back : (ns : List WrittenNode) → map node_of (map written_node ns) ≡ ns
nodes_back [] = refl
nodes_back (SplitNode place ∷ ns) = ap (λ (l : List WrittenNode). SplitNode place ∷ l) (nodes_back ns)
nodes_back (LeafNode count ∷ ns) = ap (λ (l : List WrittenNode). LeafNode count ∷ l) (nodes_back ns)

multipliers_back : (ms : List PlacedMultiplier) → are_values (map by_of ms) ≡ true → map placed_of (map placed_value ms) ≡ ms
multipliers_back [] t = refl
multipliers_back (m ∷ ms) t =
    let parts = and_parts (is_value m.by) (are_values (map by_of ms)) t in
    let first : ◌≡◌ {A = PlacedMultiplier} (placed_of (placed_value m)) m = λ i. record { place = m.place; by = fraction_is m.by parts.0 i } in
    ap₂ (λ (n : PlacedMultiplier) (ns : List PlacedMultiplier). n ∷ ns) first (multipliers_back ms parts.1)

pub is_cover_of : (written : WrittenCover) → are_values (multipliers_in written) ≡ true → IsCoverAs written (cover_of written)
is_cover_of by_line t = tt
is_cover_of (by_tree written) t = (nodes_back (nodes_of written), multipliers_back (multipliers_of written) t)
