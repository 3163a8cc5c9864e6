-- A price at its place among rising ones.
use Rattle.std.proofs.Common.{◌≡◌, ℕ, zero, suc, ◌+◌, ◌*◌, ◌<◌, ◌≤◌, Bool, true, false, List, [], ◌∷◌, ◌++◌, length, map, get_or, take, drop, arith, Option, Some, None, refl, ap, sym, ◌∙◌}
use Rattle.std.specs.Prelude.{nat_lt, unwrap_or}
use mathlib.Core.Bool.{not, cond}
use Rattle.std.specs.List.{position, position_or_len}
use Rattle.std.proofs.lemmas.Bool.Decides.{nat_tests}
use Rattle.std.proofs.lemmas.List.{length-take}
use Rattle.std.proofs.lemmas.List.Folds.{length-prefix_len}
use Rattle.form.specs.Vector.{scale_of}
use Rattle.line_cover.specs.declared.price.Price.{Price}
use Rattle.line_cover.specs.Breakpoints.{price_entry, is_below, insert}
use Rattle.line_cover.specs.Prices.{price_vector}

below_one_way : (y z : List ℕ) → is_below y z ≡ true → is_below z y ≡ false
below_one_way y z h = one_way (price_entry y * scale_of z) (price_entry z * scale_of y) h
  where
    one_way : (a b : ℕ) → nat_lt a b ≡ true → nat_lt b a ≡ false
    one_way a b h = grind (arith, nat_tests)

abbrev pub below : Price → Price → Bool
below y z = is_below (price_vector y) (price_vector z)

abbrev pub place : List Price → Price → ℕ
place ys z = position_or_len (λ y. not (below y z)) ys

-- the first price is below z where the place is behind it, and only there
behind_first : (b : Bool) (n i : ℕ) → suc i ≡ cond (not (not b)) (1 + n) 0 → (b ≡ true) × (i ≡ n)
behind_first true n i e = (refl, omega (arith, e))
behind_first false n i e = absurd (omega (arith, e))

at_first : (b : Bool) (n : ℕ) → 0 ≡ cond (not (not b)) (1 + n) 0 → b ≡ false
at_first true n e = absurd (omega (arith, e))
at_first false n e = refl

-- a price that is below the one at its place, if there is one, goes there
pub inserted : (ys : List Price) (z : Price) (i : ℕ) → i ≡ place ys z → (i < length ys → below z (get_or ys i z) ≡ true)
    → map price_vector (take i ys ++ z ∷ drop i ys) ≡ insert (map price_vector ys) (price_vector z)
unfolding insert
inserted [] z zero is before = refl
inserted [] z (suc i) is before = absurd (omega (arith, is))
inserted (y ∷ ys) z zero is before = rw (before (omega arith)) refl
inserted (y ∷ ys) z (suc i) is before =
    let first = behind_first (below y z) (place ys z) i is in
    let back = below_one_way (price_vector y) (price_vector z) first.0 in
    rw (back, first.0) (ap (λ zs. price_vector y ∷ zs) (inserted ys z i first.1 (λ lt. before (omega arith))))

-- and one that is not is there already
pub stays : (ys : List Price) (z : Price) (i : ℕ) → i ≡ place ys z → i < length ys → below z (get_or ys i z) ≡ false
    → map price_vector ys ≡ insert (map price_vector ys) (price_vector z)
unfolding insert
stays [] z i is lt at = absurd (omega arith)
stays (y ∷ ys) z zero is lt at = let first = at_first (below y z) (place ys z) is in rw (at, first) refl
stays (y ∷ ys) z (suc i) is lt at =
    let first = behind_first (below y z) (place ys z) i is in
    let back = below_one_way (price_vector y) (price_vector z) first.0 in
    rw (back, first.0) (ap (λ zs. price_vector y ∷ zs) (stays ys z i first.1 (omega arith) at))

at_most : (ys : List Price) (z : Price) → place ys z ≤ length ys
at_most ys z = omega (arith, length-prefix_len (λ y. not (not (below y z))) ys, length-take (place ys z) ys)

-- the place that `position` finds in a copy, or the end
pub place_is : (ys : List Price) (z : Price) {xs : List Price} {found : Option ℕ} {m n i : ℕ}
    → xs ≡ ys → found ≡ position (λ y. not (below y z)) xs → length xs ≡ m → n ≡ m → i ≡ unwrap_or found n → i ≡ place ys z
place_is ys z {xs} {found} {m} {n} {i} same is len end at =
    at ∙ ap (λ r. unwrap_or r n) (is ∙ ap (position (λ y. not (below y z))) same) ∙ by_test (nat_lt (place ys z) (length ys)) refl
  where
    by_test : (b : Bool) → nat_lt (place ys z) (length ys) ≡ b → unwrap_or (cond b (Some (place ys z)) None) n ≡ place ys z
    by_test true e = refl
    by_test false e = let all : length ys ≡ n = ap length (sym same) ∙ len ∙ sym end in grind (arith, nat_tests, e, all, at_most ys z)

pub place_within : (ys : List Price) (z : Price) (i : ℕ) → i ≡ place ys z → i ≤ length ys
place_within ys z i is = omega (arith, is, at_most ys z)
