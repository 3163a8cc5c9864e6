-- A walk that is open has walked no tree that is well formed and closes.
use Rattle.std.proofs.Common.{◌≡◌, ℕ, ◌+◌, ◌-◌, true, false, List, [], ◌∷◌, ◌++◌, length, map, replicate, arith, All, Ok, inl, inr, sym, subst, ◌∙◌, append_assoc}
use Rattle.std.specs.Prelude.{nat_le, slice_set}
use Rattle.std.proofs.lemmas.Bool.{le-leb}
use Rattle.std.proofs.lemmas.List.{append-nil, length-append}
use Rattle.std.proofs.Math.Seq.{take-append_seam, drop-append_seam}
use Rattle.exact_num.specs.Fraction.{Fraction, IsLowest}
use Rattle.exact_num.specs.CommonDenominator.{common_denominator, amount_over}
use Rattle.exact_num.specs.Steps.{and_then, all_of}
use Rattle.exact_num.proofs.Loops.{not_both}
use Rattle.form.specs.declared.orders.Order.{Order}
use Rattle.clearing_model.specs.Legs.{FilledLeg}
use Rattle.clearing_model.specs.Tree.{Sign, Unsigned, Plus, Minus, IsClosed, IsClosedUnder}
use Rattle.clearing_model.specs.Written.{WrittenNode, PlacedMultiplier, WrittenTree, Ends, Parts, nodes_of, multipliers_of, tree_over, IsFormed}
use Rattle.clearing_model.specs.Certificate.{by_of, ClosesAsWritten}
use Rattle.sign_tree.specs.Walk.{FractionLeg, fraction_legs, may_split, are_placed, keeps_within, entries_close, leaf_closes, walk}
use Rattle.sign_tree.specs.Laws.{OpenWalksCloseNoTree}
use Rattle.sign_tree.proofs.LeafSums.{legs_over}
use Rattle.sign_tree.proofs.OverCommon.{legs_are_same, length_of_legs, HasPart, with_amounts, StandsOver, first_part, second_part, stand_over}
use Rattle.sign_tree.proofs.Sound.{IsSound}
use Rattle.sign_tree.proofs.TakenForms.{rise_from, formed_are_placed, allowed_keep_within, formed_may_split}
use Rattle.sign_tree.proofs.TakenSums.{low_entries}

leaf_is_not_open : (limit n D E : ℕ) (legs : List FractionLeg) (L : Fraction) (signs : List Sign) (ms : List PlacedMultiplier) → StandsOver D legs L ms → IsSound n D E legs L signs (Ends ms)
    → leaf_closes limit n legs L signs ms ≡ Ok false → ⊥
leaf_is_not_open limit n D E legs L signs ms over sound h =
    let placed = sound.formed.1 in
    let ms_are = with_amounts D ms over.parts (λ k d lt. (placed k d lt).2) in
    let rise = rise_from 1 ms (λ k d lt. (placed k d lt).0) sound.formed.0 in
    let test : are_placed legs signs ms ≡ true = formed_are_placed E legs signs ms rise placed in
    let sums = entries_close limit legs L signs ms 0 (n + 1) in
    let steps : and_then (all_of (keeps_within limit legs) ms) sums ≡ Ok false = rw test at h in
    elim (not_both (all_of (keeps_within limit legs) ms) sums steps) [
      | inl above ↦ allowed_keep_within limit D legs ms over.one over.legs_are ms_are rise sound.closes.0 above
      | inr rest ↦ low_entries limit D legs L signs ms 0 (n + 1) over.one over.legs_are ms_are rise over.liability (λ j from below. sound.closes.1 j (omega arith)) rest.1
    ]

-- a walk that is open over a sound tree is open over what follows it
past_tree : (limit n D E : ℕ) (legs : List FractionLeg) (L : Fraction) (tree : WrittenTree) (signs : List Sign) (pending : List (List Sign)) (rest : List WrittenNode) (left : List PlacedMultiplier)
    → StandsOver D legs L (multipliers_of tree) → IsSound n D E legs L signs tree
    → walk limit n legs L (nodes_of tree ++ rest) (signs ∷ pending) (multipliers_of tree ++ left) ≡ Ok false → walk limit n legs L rest pending left ≡ Ok false
past_tree limit n D E legs L (Ends ms) signs pending rest left over sound h =
    let fits : nat_le (length ms) (length (ms ++ left)) ≡ true = le-leb (length ms) (length (ms ++ left)) (omega (arith, length-append ms left)) in
    let leaf = leaf_closes limit n legs L signs ms in
    let next = walk limit n legs L rest pending left in
    let step : and_then leaf next ≡ Ok false = rw (fits, take-append_seam ms left, drop-append_seam ms left) at h in
    elim (not_both leaf next step) [
      | inl opened ↦ absurd (leaf_is_not_open limit n D E legs L signs ms over sound opened)
      | inr rest ↦ rest.1
    ]
past_tree limit n D E legs L (Parts place plus minus) signs pending rest left over sound h =
    let plus_signs = slice_set signs (place - 1) Plus in
    let minus_signs = slice_set signs (place - 1) Minus in
    let splits : may_split legs signs place ≡ true = formed_may_split D legs signs place sound.formed.0 sound.closes.0 in
    let both : walk limit n legs L (nodes_of plus ++ (nodes_of minus ++ rest)) (plus_signs ∷ minus_signs ∷ pending) (multipliers_of plus ++ (multipliers_of minus ++ left)) ≡ Ok false =
    rw (splits, append_assoc (nodes_of plus) (nodes_of minus) rest, append_assoc (multipliers_of plus) (multipliers_of minus) left) at h in
    let over_plus : StandsOver D legs L (multipliers_of plus) = record {
      one = over.one;
      legs_are = over.legs_are;
      liability = over.liability;
      parts = first_part (HasPart D) (multipliers_of plus) (multipliers_of minus) over.parts;
    } in
    let over_minus : StandsOver D legs L (multipliers_of minus) = record {
      one = over.one;
      legs_are = over.legs_are;
      liability = over.liability;
      parts = second_part (HasPart D) (multipliers_of plus) (multipliers_of minus) over.parts;
    } in
    let sound_plus : IsSound n D E legs L plus_signs plus = record { formed = sound.formed.1; closes = sound.closes.1 } in
    let sound_minus : IsSound n D E legs L minus_signs minus = record { formed = sound.formed.2; closes = sound.closes.2 } in
    past_tree limit n D E legs L minus minus_signs pending rest left over_minus sound_minus
    (past_tree limit n D E legs L plus plus_signs (minus_signs ∷ pending) (nodes_of minus ++ rest) (multipliers_of minus ++ left) over_plus sound_plus both)

-- a tree that closes as it is written is sound for the walk
is_sound : (n : ℕ) (os : List Order) (fs : List Fraction) (L : Fraction) (nodes : List WrittenNode) (ms : List PlacedMultiplier) (c : ClosesAsWritten n os fs L nodes ms)
    → (let legs = fraction_legs os fs in IsSound n (common_denominator (L ∷ (fs ++ map by_of (multipliers_of c.tree)))) (common_denominator fs) legs L (replicate (length legs) Unsigned) c.tree)
is_sound n os fs L nodes ms c =
    let D = common_denominator (L ∷ (fs ++ map by_of (multipliers_of c.tree))) in
    let E = common_denominator fs in
    let legs = fraction_legs os fs in
    let F : List FilledLeg → Type 0 = λ xs. IsFormed xs (replicate (length xs) Unsigned) c.tree in
    let C : List FilledLeg → Type 0 = λ xs. IsClosed n xs (amount_over D L) (tree_over D xs c.tree) in
    let formed : F (legs_over E legs) = subst F (legs_are_same E os fs) c.formed in
    let closes : C (legs_over D legs) = subst C (legs_are_same D os fs) c.closes in
    record {
      formed = subst (λ k. IsFormed (legs_over E legs) (replicate k Unsigned) c.tree) (length_of_legs E legs) formed;
      closes = subst (λ k. IsClosedUnder n (legs_over D legs) (amount_over D L) (replicate k Unsigned) (tree_over D (legs_over D legs) c.tree)) (length_of_legs D legs) closes;
    }

pub open_walks_close_no_tree : OpenWalksCloseNoTree
open_walks_close_no_tree limit n os fs L nodes ms len low least lowest_L ms_low h c =
    let legs = fraction_legs os fs in
    let signs = replicate (length legs) Unsigned in
    let tree_low = subst (λ (xs : List PlacedMultiplier). All IsLowest (map by_of xs)) c.written.1 ms_low in
    let over = stand_over os fs L (multipliers_of c.tree) low least lowest_L tree_low in
    let ns : nodes ≡ nodes_of c.tree ++ [] = c.written.0 ∙ sym (append-nil (nodes_of c.tree)) in
    let same : ms ≡ multipliers_of c.tree ++ [] = c.written.1 ∙ sym (append-nil (multipliers_of c.tree)) in
    let there : walk limit n legs L (nodes_of c.tree ++ []) (signs ∷ []) (multipliers_of c.tree ++ []) ≡ Ok false = rw (ns, same) at h in
    let past = past_tree limit n _ (common_denominator fs) legs L c.tree signs [] [] [] over (is_sound n os fs L nodes ms c) there in
    cc
