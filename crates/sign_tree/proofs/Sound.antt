-- A walk that closes has walked closed trees.
use Rattle.std.proofs.Common.{◌≡◌, ℕ, ◌+◌, ◌-◌, ◌≤◌, true, List, [], ◌∷◌, ◌++◌, length, map, take, drop, replicate, arith, All, Ok, refl, ap, sym, subst, ◌∙◌, append_assoc}
use Rattle.std.specs.Prelude.{nat_le, slice_set}
use Rattle.std.proofs.lemmas.Bool.{leb-true, and_parts}
use Rattle.std.proofs.lemmas.List.{append-nil, take-append-drop, length-take-le}
use Rattle.std.proofs.lemmas.List.Elements.{All-take, All-drop}
use Rattle.exact_num.specs.Fraction.{Fraction}
use Rattle.exact_num.specs.CommonDenominator.{common_denominator, amount_over}
use Rattle.exact_num.specs.Steps.{and_then, all_of}
use Rattle.exact_num.proofs.Loops.{both}
use Rattle.form.specs.declared.orders.Order.{Order}
use Rattle.clearing_model.specs.Legs.{FilledLeg, legs_of}
use Rattle.clearing_model.specs.Tree.{Sign, Unsigned, Plus, Minus, IsClosed, IsClosedUnder}
use Rattle.clearing_model.specs.Written.{WrittenNode, SplitNode, LeafNode, PlacedMultiplier, WrittenTree, Ends, Parts, nodes_of, multipliers_of, tree_over, IsWritten, IsFormed}
use Rattle.clearing_model.specs.Certificate.{filled_over, by_of, ClosesAsWritten}
use Rattle.exact_num.proofs.LowestRatios.{IsLowestRatio}
use Rattle.sign_tree.specs.Walk.{FractionLeg, fraction_legs, is_unsigned, passes_at, may_split, are_placed, keeps_within, entries_close, leaf_closes, walk}
use Rattle.sign_tree.specs.Laws.{WalksCloseTrees}
use Rattle.sign_tree.proofs.LeafSums.{legs_over, LegHasAmount, then_holds, entries_within}
use Rattle.sign_tree.proofs.OverCommon.{legs_are_same, length_of_legs, HasPart, with_amounts, stand_over}
use Rattle.sign_tree.proofs.LeafForms.{taken, are_placed_over, pairs_rise, are_allowed, unsigned_long}

-- a tree that is well formed under these signs, and closed over D
pub record IsSound (n D E : ℕ) (legs : List FractionLeg) (L : Fraction) (signs : List Sign) (tree : WrittenTree) : Type 0 where
  pub formed : IsFormed (legs_over E legs) signs tree
  pub closes : IsClosedUnder n (legs_over D legs) (amount_over D L) signs (tree_over D (legs_over D legs) tree)

leaf_is_sound : (limit n D E : ℕ) (legs : List FractionLeg) (L : Fraction) (signs : List Sign) (ms : List PlacedMultiplier) → 1 ≤ D → All (LegHasAmount D) legs → IsLowestRatio L (amount_over D L) D → All (HasPart D) ms
    → leaf_closes limit n legs L signs ms ≡ Ok true → IsSound n D E legs L signs (Ends ms)
leaf_is_sound limit n D E legs L signs ms one legs_are sl parts h =
    let sums = entries_close limit legs L signs ms 0 (n + 1) in
    let tests = then_holds (are_placed legs signs ms) (and_then (all_of (keeps_within limit legs) ms) sums) h in
    let steps = both (all_of (keeps_within limit legs) ms) sums tests.1 in
    let are = taken legs signs ms tests.0 in
    let ms_are = with_amounts D ms parts (λ k d lt. (are.each k d lt).least) in
    record {
      formed = (pairs_rise 1 ms are.rise, are_placed_over E legs signs ms are.each);
      closes = (are_allowed limit D legs ms one legs_are ms_are steps.0, λ i le. entries_within limit D legs L signs ms 0 (n + 1) legs_are ms_are are.rise sl steps.1 i (omega arith) (omega arith));
    }

-- trees, one for each of the signs, are written one after another
abbrev pub AreWritten : (List Sign → WrittenTree → Type 0) → List (List Sign) → List WrittenNode → List PlacedMultiplier → Type 0
AreWritten P [] nodes ms = (nodes ≡ []) × (ms ≡ [])
AreWritten P (signs ∷ pending) nodes ms =
    (tree : WrittenTree) × (rest : List WrittenNode) × (left : List PlacedMultiplier)
    × (nodes ≡ nodes_of tree ++ rest) × (ms ≡ multipliers_of tree ++ left) × P signs tree × AreWritten P pending rest left

-- both sides of a split make one tree
joined : (n D E : ℕ) (legs : List FractionLeg) (L : Fraction) (nodes : List WrittenNode) (signs : List Sign) (pending : List (List Sign)) (ms : List PlacedMultiplier) (place : ℕ)
    → may_split legs signs place ≡ true
    → AreWritten (IsSound n D E legs L) (slice_set signs (place - 1) Plus ∷ slice_set signs (place - 1) Minus ∷ pending) nodes ms
    → AreWritten (IsSound n D E legs L) (signs ∷ pending) (SplitNode place ∷ nodes) ms
joined n D E legs L nodes signs pending ms place splits p =
    let m = p.6 in
    let tests = and_parts (nat_le 1 place) (passes_at is_unsigned legs signs (place - 1)) splits in
    let all : nodes ≡ (nodes_of p.0 ++ nodes_of m.0) ++ m.1 = p.3 ∙ ap (λ (x : List WrittenNode). nodes_of p.0 ++ x) m.3 ∙ sym (append_assoc (nodes_of p.0) (nodes_of m.0) m.1) in
    let both : ms ≡ (multipliers_of p.0 ++ multipliers_of m.0) ++ m.2 = p.4 ∙ ap (λ (x : List PlacedMultiplier). multipliers_of p.0 ++ x) m.4 ∙ sym (append_assoc (multipliers_of p.0) (multipliers_of m.0) m.2) in
    let first : 1 ≤ place = leb-true 1 place tests.0 in
    let sound : IsSound n D E legs L signs (Parts place p.0 m.0) = record {
      formed = (first, p.5.formed, m.5.formed);
      closes = (unsigned_long D legs signs (place - 1) tests.1, p.5.closes, m.5.closes);
    } in
    (Parts place p.0 m.0, m.1, m.2, ap (λ (x : List WrittenNode). SplitNode place ∷ x) all, both, sound, m.6)

walked : (limit n D E : ℕ) (legs : List FractionLeg) (L : Fraction) (nodes : List WrittenNode) (pending : List (List Sign)) (ms : List PlacedMultiplier)
    → 1 ≤ D → All (LegHasAmount D) legs → IsLowestRatio L (amount_over D L) D → All (HasPart D) ms
    → walk limit n legs L nodes pending ms ≡ Ok true → AreWritten (IsSound n D E legs L) pending nodes ms
walked limit n D E legs L [] [] [] one legs_are sl parts h = (refl, refl)
walked limit n D E legs L [] [] (m ∷ ms) one legs_are sl parts h = cc
walked limit n D E legs L [] (signs ∷ pending) ms one legs_are sl parts h = cc
walked limit n D E legs L (node ∷ nodes) [] ms one legs_are sl parts h = cc
walked limit n D E legs L (SplitNode place ∷ nodes) (signs ∷ pending) ms one legs_are sl parts h =
    let plus_signs = slice_set signs (place - 1) Plus in
    let minus_signs = slice_set signs (place - 1) Minus in
    let tests = then_holds (may_split legs signs place) (walk limit n legs L nodes (plus_signs ∷ minus_signs ∷ pending) ms) h in
    joined n D E legs L nodes signs pending ms place tests.0 (walked limit n D E legs L nodes (plus_signs ∷ minus_signs ∷ pending) ms one legs_are sl parts tests.1)
walked limit n D E legs L (LeafNode count ∷ nodes) (signs ∷ pending) ms one legs_are sl parts h =
    let rest = walk limit n legs L nodes pending (drop count ms) in
    let outer = then_holds (nat_le count (length ms)) (and_then (leaf_closes limit n legs L signs (take count ms)) rest) h in
    let steps = both (leaf_closes limit n legs L signs (take count ms)) rest outer.1 in
    let len : length (take count ms) ≡ count = length-take-le count ms (leb-true count (length ms) outer.0) in (
      Ends (take count ms),
      nodes,
      drop count ms,
      ap (λ (k : ℕ). LeafNode k ∷ nodes) (sym len),
      sym (take-append-drop count ms),
      leaf_is_sound limit n D E legs L signs (take count ms) one legs_are sl (All-take (HasPart D) count ms parts) steps.0,
      walked limit n D E legs L nodes pending (drop count ms) one legs_are sl (All-drop (HasPart D) count ms parts) steps.1,
    )

-- a tree alone is the whole of what is written
only_one : (P : List Sign → WrittenTree → Type 0) (signs : List Sign) (nodes : List WrittenNode) (ms : List PlacedMultiplier) → AreWritten P (signs ∷ []) nodes ms
    → (tree : WrittenTree) × IsWritten tree nodes ms × P signs tree
only_one P signs nodes ms w =
    let none : w.1 ≡ [] = w.6.0 in
    let nothing : w.2 ≡ [] = w.6.1 in
    let ns : nodes ≡ nodes_of w.0 = w.3 ∙ ap (λ (x : List WrittenNode). nodes_of w.0 ++ x) none ∙ append-nil (nodes_of w.0) in
    let same : ms ≡ multipliers_of w.0 = w.4 ∙ ap (λ (x : List PlacedMultiplier). multipliers_of w.0 ++ x) nothing ∙ append-nil (multipliers_of w.0) in
    (w.0, (ns, same), w.5)

as_written : (n : ℕ) (os : List Order) (fs : List Fraction) (L : Fraction) (nodes : List WrittenNode) (ms : List PlacedMultiplier) (tree : WrittenTree) → IsWritten tree nodes ms
    → (let legs = fraction_legs os fs in IsSound n (common_denominator (L ∷ (fs ++ map by_of ms))) (common_denominator fs) legs L (replicate (length legs) Unsigned) tree)
    → ClosesAsWritten n os fs L nodes ms
as_written n os fs L nodes ms tree written sound =
    let D = common_denominator (L ∷ (fs ++ map by_of ms)) in
    let E = common_denominator fs in
    let legs = fraction_legs os fs in
    let F : List FilledLeg → Type 0 = λ xs. IsFormed xs (replicate (length xs) Unsigned) tree in
    let C : ℕ → List FilledLeg → Type 0 = λ d xs. IsClosed n xs (amount_over d L) (tree_over d xs tree) in
    let formed : F (legs_over E legs) = subst (λ k. IsFormed (legs_over E legs) (replicate k Unsigned) tree) (sym (length_of_legs E legs)) sound.formed in
    let closes : C D (legs_over D legs) =
    subst (λ k. IsClosedUnder n (legs_over D legs) (amount_over D L) (replicate k Unsigned) (tree_over D (legs_over D legs) tree)) (sym (length_of_legs D legs)) sound.closes in
    let there : C D (legs_of (filled_over D os fs)) = subst (C D) (sym (legs_are_same D os fs)) closes in
    let Q : List PlacedMultiplier → Type 0 = λ xs. let d = common_denominator (L ∷ (fs ++ map by_of xs)) in C d (legs_of (filled_over d os fs)) in
    record {
      tree = tree;
      written = written;
      formed = subst F (sym (legs_are_same E os fs)) formed;
      closes = subst Q written.1 there;
    }

pub walks_close_trees : WalksCloseTrees
walks_close_trees limit n os fs L nodes ms len low least lowest_L ms_low h =
    let D = common_denominator (L ∷ (fs ++ map by_of ms)) in
    let E = common_denominator fs in
    let legs = fraction_legs os fs in
    let stand = stand_over os fs L ms low least lowest_L ms_low in
    let w = walked limit n D E legs L nodes (replicate (length legs) Unsigned ∷ []) ms stand.one stand.legs_are stand.liability stand.parts h in
    let alone = only_one (IsSound n D E legs L) (replicate (length legs) Unsigned) nodes ms w in
    as_written n os fs L nodes ms alone.0 alone.1 alone.2
