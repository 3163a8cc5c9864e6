-- The items of a list, one after another, and tests of them.
use Rattle.std.proofs.Common.{◌≡◌, ℕ, ◌+◌, ◌<◌, Bool, true, false, List, [], ◌∷◌, ap, ◌∙◌, length, get_or, map, drop, refl, arith}
use Rattle.std.specs.List.{list_all}
use Rattle.std.specs.Prelude.{◌&&◌, nat_le, nat_lt}
use Rattle.std.proofs.lemmas.List.{length-map}
use Rattle.arithmetic.proofs.Lists.{drop_map, item_of}
use Rattle.cell_cover.specs.declared.cover.Multiplier.{Multiplier}
use Rattle.cell_cover.specs.Cells.{class_in, classes_rise}
use Rattle.cell_cover.specs.Read.{multiplier_of}

-- x stands at j
pub record IsNext {A : Type 0} (xs : List A) (j : ℕ) (x : A) : Type 0 where
  pub within : j < length xs
  pub is : x ≡ get_or xs j x

pub all_ends : {A B : Type 0} (f : A → B) (test : B → Bool) (xs : List A) (j : ℕ) (x : A) → IsNext xs j x → test (f x) ≡ false → list_all test (drop j (map f xs)) ≡ false
all_ends f test xs j x at fails = rw (drop_map f xs j x at.within at.is, fails) refl

pub all_on : {A B : Type 0} (f : A → B) (test : B → Bool) (xs : List A) (j : ℕ) (x : A) → IsNext xs j x → test (f x) ≡ true → list_all test (drop j (map f xs)) ≡ list_all test (drop (j + 1) (map f xs))
all_on f test xs j x at holds = rw (drop_map f xs j x at.within at.is, holds) refl

-- the class of the next multiplier, and how far classes rise
pub class_next : (ms : List Multiplier) (i : ℕ) (m : Multiplier) → IsNext ms i m → drop i (map class_in (map multiplier_of ms)) ≡ m.class ∷ drop (i + 1) (map class_in (map multiplier_of ms))
class_next ms i m at = drop_map class_in (map multiplier_of ms) i (multiplier_of m) (omega (arith, length-map ms multiplier_of, at.within)) (item_of multiplier_of ms i m at.within at.is)

pub rise_stops : (count last k : ℕ) (left rest : List ℕ) → left ≡ k ∷ rest → (nat_lt last k && nat_le k count) ≡ false → classes_rise count last left ≡ false
rise_stops count last k left rest first is_false = ap (classes_rise count last) first ∙ ap (λ b. b && classes_rise count k rest) is_false

pub rise_goes : (count last k : ℕ) (left rest : List ℕ) → left ≡ k ∷ rest → (nat_lt last k && nat_le k count) ≡ true → classes_rise count last left ≡ classes_rise count k rest
rise_goes count last k left rest first is_true = ap (classes_rise count last) first ∙ ap (λ b. b && classes_rise count k rest) is_true
