-- The leg at which a node splits, one leg after another; and the signs of an option's entries.
use Rattle.std.proofs.Common.{◌≡◌, ℕ, suc, ◌+◌, ◌<◌, ◌≤◌, List, [], ◌∷◌, map, drop, get_or, true, false, ℤ, pos, Some, refl, ap, sym, ◌∙◌, arith}
use Rattle.std.specs.Prelude.{int_lt}
use Rattle.std.proofs.lemmas.List.{drop_all}
use Rattle.arithmetic.proofs.Lists.{item_first}
use Rattle.master_program.specs.Roles.{can_split, entries, has_above, has_below, split_from}
use Rattle.pricing_oracle.specs.Nodes.{RoleLeg, node_leg}
use Rattle.pricing_oracle.proofs.ByRole.{value_at}
use Rattle.master_program.proofs.NodeShape.{length-values}

pub splits_here : (n i : ℕ) (all : List RoleLeg) (l : RoleLeg) (legs : List RoleLeg) → all ≡ l ∷ legs → can_split n (node_leg l) ≡ true → split_from n i (map node_leg all) ≡ Some i
splits_here n i all l legs is h = ap (λ ls. split_from n i (map node_leg ls)) is ∙ rw h refl

-- the entry at i, and those after it
pub entry_first : (n : ℕ) (v : List ℤ) (i : ℕ) (x : ℤ) → i < suc n → x ≡ get_or v i (pos 0) → drop i (entries n v) ≡ x ∷ drop (i + 1) (entries n v)
entry_first n v i x low is =
    let entry_at : ℕ → ℤ = λ i. get_or v i (pos 0) in
    item_first (entries n v) i x (omega (arith, low, length-values entry_at (suc n))) (is ∙ sym (value_at entry_at (suc n) i x low))

none_left : (n : ℕ) (v : List ℤ) (i : ℕ) → suc n ≤ i → drop i (entries n v) ≡ []
none_left n v i high =
    let entry_at : ℕ → ℤ = λ i. get_or v i (pos 0) in
    drop_all i (entries n v) (omega (arith, high, length-values entry_at (suc n)))

pub above_here : (n : ℕ) (v : List ℤ) (i : ℕ) (x : ℤ) → i < suc n → x ≡ get_or v i (pos 0) → int_lt (pos 0) x ≡ true → has_above (drop i (entries n v)) ≡ true
above_here n v i x low is h = ap has_above (entry_first n v i x low is) ∙ rw h refl

pub above_later : (n : ℕ) (v : List ℤ) (i : ℕ) (x : ℤ) → i < suc n → x ≡ get_or v i (pos 0) → int_lt (pos 0) x ≡ false → has_above (drop i (entries n v)) ≡ has_above (drop (i + 1) (entries n v))
above_later n v i x low is h = ap has_above (entry_first n v i x low is) ∙ rw h refl

pub below_here : (n : ℕ) (v : List ℤ) (i : ℕ) (x : ℤ) → i < suc n → x ≡ get_or v i (pos 0) → int_lt x (pos 0) ≡ true → has_below (drop i (entries n v)) ≡ true
below_here n v i x low is h = ap has_below (entry_first n v i x low is) ∙ rw h refl

pub below_later : (n : ℕ) (v : List ℤ) (i : ℕ) (x : ℤ) → i < suc n → x ≡ get_or v i (pos 0) → int_lt x (pos 0) ≡ false → has_below (drop i (entries n v)) ≡ has_below (drop (i + 1) (entries n v))
below_later n v i x low is h = ap has_below (entry_first n v i x low is) ∙ rw h refl

pub above_end : (n : ℕ) (v : List ℤ) (i : ℕ) → suc n ≤ i → has_above (drop i (entries n v)) ≡ false
above_end n v i high = ap has_above (none_left n v i high)

pub below_end : (n : ℕ) (v : List ℤ) (i : ℕ) → suc n ≤ i → has_below (drop i (entries n v)) ≡ false
below_end n v i high = ap has_below (none_left n v i high)
