-- A written tree is read in one way.
use Rattle.std.proofs.Common.{◌≡◌, ◌+◌, List, [], ◌∷◌, ◌++◌, length, arith, append_assoc, refl, ap, sym, ◌∙◌}
use Rattle.clearing_model.specs.Written.{Ends, Parts, nodes_of, multipliers_of}
use Rattle.market_laws.specs.Laws.{TreesReadOneWay}

-- lists of one length at the head of two equal lists are equal
same_head : {A : Type 0} (a b xs ys : List A) → length a ≡ length b → a ++ xs ≡ b ++ ys → (a ≡ b) × (xs ≡ ys)
same_head [] [] xs ys n e = (refl, e)
same_head [] (y ∷ b) xs ys n e = absurd (omega arith)
same_head (x ∷ a) [] xs ys n e = absurd (omega arith)
same_head (x ∷ a) (y ∷ b) xs ys n e =
    let h : x ≡ y = cc in
    let t : a ++ xs ≡ b ++ ys = cc in
    let r = same_head a b xs ys (omega arith) t in
    let l : a ≡ b = r.0 in
    (cc, r.1)

pub trees_read_one_way : TreesReadOneWay
trees_read_one_way (Ends p) (Ends q) xs ys ms ns e f =
    let n : length p ≡ length q = cc in
    let t : xs ≡ ys = cc in
    let r = same_head p q ms ns n f in
    (ap Ends r.0, t, r.1)
trees_read_one_way (Ends p) (Parts k c d) xs ys ms ns e f = cc
trees_read_one_way (Parts k c d) (Ends q) xs ys ms ns e f = cc
trees_read_one_way (Parts k a a') (Parts j b b') xs ys ms ns e f =
    let p : k ≡ j = cc in
    let q : (nodes_of a ++ nodes_of a') ++ xs ≡ (nodes_of b ++ nodes_of b') ++ ys = cc in
    let first = trees_read_one_way a b (nodes_of a' ++ xs) (nodes_of b' ++ ys) (multipliers_of a' ++ ms) (multipliers_of b' ++ ns)
    (sym (append_assoc (nodes_of a) (nodes_of a') xs) ∙ q ∙ append_assoc (nodes_of b) (nodes_of b') ys)
    (sym (append_assoc (multipliers_of a) (multipliers_of a') ms) ∙ f ∙ append_assoc (multipliers_of b) (multipliers_of b') ns) in
    let second = trees_read_one_way a' b' xs ys ms ns first.1 first.2 in
    let l : a ≡ b = first.0 in
    let r : a' ≡ b' = second.0 in
    (cc, second.1, second.2)
