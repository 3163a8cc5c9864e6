-- Cells that are formed for a batch have classes within their range.
use Rattle.std.proofs.Common.{◌≡◌, ℕ, ◌+◌, ◌*◌, ◌≤◌, ℤ, Bool, true, false, ◌&&◌, List, [], ◌∷◌, ◌++◌, length, map, refl, ap, sym, ◌∙◌, arith, length-append}
use Rattle.std.specs.Prelude.{if◌then◌else◌, nat_le, nat_lt}
use Rattle.std.specs.List.{AllByRecursion}
use Rattle.std.proofs.lemmas.Bool.{and_parts}
use Rattle.std.proofs.lemmas.Bool.Decides.{nat_tests}
use Rattle.std.proofs.lemmas.List.{length-map}
use Rattle.form.specs.declared.orders.Order.{Order}
use Rattle.form.specs.Between.{Between}
use Rattle.form.specs.Payoff.{bundle_of}
use Rattle.form.proofs.SameBundle.{length-bundle_legs}
use Rattle.cell_cover.specs.Cells.{class_in, classes_rise, is_class}
use Rattle.cell_cover.specs.Classes.{class_of, classes_of, is_among, option_in, options_in, with_classes}
use Rattle.cell_cover.specs.Formed.{are_formed, is_formed, is_some_left, left_behind, node_has_classes}
use Rattle.cell_cover.specs.Read.{multiplier_of, node_of}
use Rattle.cell_cover.specs.declared.cover.Multiplier.{Multiplier}
use Rattle.cell_cover.specs.declared.cover.Node.{Node}
use Rattle.cell_cover.specs.declared.cover.Node.TheVariants.{Split, Bound, Leaf}
use Rattle.cell_cover.proofs.FormedNodes.{formed_by_nodes}
use Rattle.proposal_text.specs.CellRanges.{AreClasses, IsCellWithin, classes_in}
use Rattle.proposal_text.specs.declared.cells.TheConstants.{MAX_CLASS}

-- ---- the classes of a batch are at most its legs
few_with : (classes vs : List (List ℤ)) → length (with_classes classes vs) ≤ length classes + length vs
few_with classes [] = omega arith
few_with classes (v ∷ vs) =
    by_test (is_among (class_of v) classes) (few_with classes vs) (few_with (classes ++ class_of v ∷ []) vs)
  where
    by_test : (b : Bool) → length (with_classes classes vs) ≤ length classes + length vs
        → length (with_classes (classes ++ class_of v ∷ []) vs) ≤ length (classes ++ class_of v ∷ []) + length vs
        → length (with_classes (if b then classes else classes ++ class_of v ∷ []) vs) ≤ length classes + length (v ∷ vs)
    by_test true known fresh = omega (arith, known)
    by_test false known fresh = omega (arith, fresh, length-append classes (class_of v ∷ []))

few_options : (orders : List Order) → length (options_in orders) ≤ 4 * length orders
unfolding bundle_of
few_options [] = omega arith
few_options (o ∷ orders) =
    let own = map option_in (bundle_of o) in
    let legs = length-map (bundle_of o) option_in in
    let size : o.bundle.size ≤ 4 = o.bundle.size_in_range.1 in
    omega (arith, length-append own (options_in orders), legs, length-bundle_legs o.bundle, size, few_options orders)

few_classes : (orders : List Order) → length orders ≤ 256 → length (classes_of orders) ≤ MAX_CLASS
few_classes orders few = omega (arith, few_with [] (options_in orders), few_options orders, few)

-- ---- classes that rise up to a number rise up to a greater one
still_in : (count most k : ℕ) → count ≤ most → nat_le k count ≡ true → nat_le k most ≡ true
still_in count most k more is = grind (arith, nat_tests)

rise_further : (count most last : ℕ) (ks : List ℕ) → count ≤ most → classes_rise count last ks ≡ true → classes_rise most last ks ≡ true
rise_further count most last [] more rise = refl
rise_further count most last (k ∷ ks) more rise =
    let parts = and_parts (nat_lt last k && nat_le k count) (classes_rise count k ks) rise in
    let first = and_parts (nat_lt last k) (nat_le k count) parts.0 in
    rw (first.0, still_in count most k more first.1, rise_further count most k ks more parts.1) refl

same_classes : (ms : List Multiplier) → map class_in (map multiplier_of ms) ≡ classes_in ms
same_classes [] = refl
same_classes (m ∷ ms) = ap (λ (ks : List ℕ). m.class ∷ ks) (same_classes ms)

are_classes : (count : ℕ) (ms : List Multiplier) → count ≤ MAX_CLASS → classes_rise count 0 (map class_in (map multiplier_of ms)) ≡ true → AreClasses (classes_in ms)
are_classes count ms few rise =
    rise_further count MAX_CLASS 0 (classes_in ms) few (ap (classes_rise count 0) (sym (same_classes ms)) ∙ rise)

class_between : (count k : ℕ) → count ≤ MAX_CLASS → is_class count k ≡ true → Between 1 MAX_CLASS k
class_between count k few is =
    let parts = and_parts (nat_le 1 k) (nat_le k count) is in
    (grind (arith, nat_tests, parts.0), grind (arith, nat_tests, parts.1))

-- ---- node by node
node_within : (count : ℕ) (node : Node) → count ≤ MAX_CLASS → node_has_classes count (node_of node) ≡ true → IsCellWithin node
node_within count (Split class) few has = class_between count class few has
node_within count (Bound class minus plus) few has =
    let less = classes_rise count 0 (map class_in (map multiplier_of minus)) in
    let more = classes_rise count 0 (map class_in (map multiplier_of plus)) in
    let parts = and_parts (is_class count class) (less && more) has in
    let lists = and_parts less more parts.1 in
    (class_between count class few parts.0, are_classes count minus few lists.0, are_classes count plus few lists.1)
node_within count (Leaf full ms) few has =
    let parts = and_parts (classes_rise count 0 full) (classes_rise count 0 (map class_in (map multiplier_of ms))) has in
    (rise_further count MAX_CLASS 0 full few parts.0, are_classes count ms few parts.1)

if_parts : (a b : Bool) → (if a then b else false) ≡ true → (a ≡ true) × (b ≡ true)
if_parts true b is = (refl, is)
if_parts false b is = cc

nodes_within : (count left : ℕ) (nodes : List Node) → count ≤ MAX_CLASS → are_formed count left (map node_of nodes) ≡ true → AllByRecursion IsCellWithin nodes
nodes_within count left [] few formed = tt
nodes_within count left (node ∷ nodes) few formed =
    let has = node_has_classes count (node_of node) in
    let next = left_behind left (node_of node) in
    let parts = if_parts (is_some_left left && has) (are_formed count next (map node_of nodes)) formed in
    (node_within count node few (and_parts (is_some_left left) has parts.0).1, nodes_within count next nodes few parts.1)

pub formed_within : (orders : List Order) (nodes : List Node) → length orders ≤ 256 → is_formed (length (classes_of orders)) (map node_of nodes) ≡ true
    → AllByRecursion IsCellWithin nodes
formed_within orders nodes few formed =
    let count = length (classes_of orders) in
    nodes_within count 1 nodes (few_classes orders few) (sym (formed_by_nodes count (map node_of nodes)) ∙ formed)
