-- A bundle is its list of legs.
use Rattle.std.proofs.Common.{◌≡◌, ℕ, ◌≤◌, ◌++◌, List, [], ◌∷◌, length, map, take, drop, get_or, refl, sym, ap, ◌∙◌, arith}
use Rattle.std.specs.Prelude.{All}
use Rattle.std.proofs.Math.Path.{to_path_p}
use Rattle.std.proofs.Props.{props}
use Rattle.std.proofs.lemmas.List.{length-drop, length-map, length-take-le, take-append-drop}
use Rattle.std.proofs.lemmas.List.Elements.{All-head, All-tail}
use Rattle.form.specs.declared.legs.Leg.{Leg}
use Rattle.form.specs.declared.bundles.Bundle.{Bundle}
use Rattle.form.specs.Bundles.{leg_of, legs_in, bundle_legs, IsCounted, IsFiller, BundlesAreLegs}
use Rattle.form.proofs.SameForm.{form_is_option}

leg_is : (a b : Leg) → leg_of a ≡ leg_of b → a ≡ b
leg_is a b e =
    let forms : a.form ≡ b.form = form_is_option a.form b.form (λ i. (e i).option) in
    λ i. record { count = (e i).count; form = forms i }

pub legs_are : (xs ys : List Leg) → map leg_of xs ≡ map leg_of ys → xs ≡ ys
legs_are [] [] e = refl
legs_are [] (y ∷ ys) e = let size = ap length e in absurd (omega (arith, size))
legs_are (x ∷ xs) [] e = let size = ap length e in absurd (omega (arith, size))
legs_are (x ∷ xs) (y ∷ ys) e =
    let first : x ≡ y = leg_is x y (ap (λ legs. get_or legs 0 (leg_of x)) e) in
    let rest : xs ≡ ys = legs_are xs ys (ap (drop 1) e) in
    λ i. first i ∷ rest i

filler_is : (a b : Leg) → IsFiller a → IsFiller b → a ≡ b
filler_is a b p q =
    let count : a.count ≡ b.count = p.0 ∙ sym q.0 in
    let counts : a.form.count ≡ b.form.count = p.1 ∙ sym q.1 in
    let entries : a.form.entries ≡ b.form.entries = p.2 ∙ sym q.2 in
    let forms : a.form ≡ b.form = form_is_option a.form b.form (λ i. take (counts i) (entries i)) in
    λ i. record { count = count i; form = forms i }

fillers_are : (xs ys : List Leg) → All IsFiller xs → All IsFiller ys → length xs ≡ length ys → xs ≡ ys
fillers_are [] [] h k e = refl
fillers_are [] (y ∷ ys) h k e = absurd (omega arith)
fillers_are (x ∷ xs) [] h k e = absurd (omega arith)
fillers_are (x ∷ xs) (y ∷ ys) h k e =
    let first = filler_is x y (All-head IsFiller x xs h) (All-head IsFiller y ys k) in
    let rest = fillers_are xs ys (All-tail IsFiller x xs h) (All-tail IsFiller y ys k) (omega arith) in
    λ i. first i ∷ rest i

pub length-legs_in : (b : Bundle) → length (legs_in b) ≡ b.size
length-legs_in b = length-take-le b.size b.legs (omega (arith, b.four_legs, b.size_in_range.1))

pub length-bundle_legs : (b : Bundle) → length (bundle_legs b) ≡ b.size
length-bundle_legs b = length-map (legs_in b) leg_of ∙ length-legs_in b

pub bundles_are_legs : BundlesAreLegs
bundles_are_legs a b e =
    let legs : legs_in a ≡ legs_in b = legs_are (legs_in a) (legs_in b) e in
    let sizes : a.size ≡ b.size = sym (length-legs_in a) ∙ ap length legs ∙ length-legs_in b in
    let rests : length (drop a.size a.legs) ≡ length (drop b.size b.legs)
    = omega (arith, sizes, length-drop a.size a.legs, length-drop b.size b.legs, a.four_legs, b.four_legs) in
    let rest = fillers_are (drop a.size a.legs) (drop b.size b.legs) a.filled_up b.filled_up rests in (
      sizes,
      sym (take-append-drop a.size a.legs) ∙ (λ i. legs i ++ rest i) ∙ take-append-drop b.size b.legs,
    )

size_prop : (n : ℕ) → IsProp ((1 ≤ n) × (n ≤ 4))
size_prop n = hlevel props

four_prop : (legs : List Leg) → IsProp (length legs ≡ 4)
four_prop legs = hlevel props

counted_prop : (legs : List Leg) → IsProp (All IsCounted legs)
counted_prop legs = hlevel props

filled_prop : (legs : List Leg) → IsProp (All IsFiller legs)
filled_prop legs = hlevel props

pub bundle_is_legs : (a b : Bundle) → bundle_legs a ≡ bundle_legs b → a ≡ b
bundle_is_legs a b e =
    let same = bundles_are_legs a b e in
    let sizes : a.size ≡ b.size = same.0 in
    let legs : a.legs ≡ b.legs = same.1 in
    λ i. record {
      size = sizes i;
      legs = legs i;
      size_in_range = to_path_p (λ i. (1 ≤ sizes i) × (sizes i ≤ 4)) {a = a.size_in_range} {b = b.size_in_range} (size_prop b.size _ _) i;
      four_legs = to_path_p (λ i. length (legs i) ≡ 4) {a = a.four_legs} {b = b.four_legs} (four_prop b.legs _ _) i;
      counted = to_path_p (λ i. All IsCounted (take (sizes i) (legs i))) {a = a.counted} {b = b.counted} (counted_prop (take b.size b.legs) _ _) i;
      filled_up = to_path_p (λ i. All IsFiller (drop (sizes i) (legs i))) {a = a.filled_up} {b = b.filled_up} (filled_prop (drop b.size b.legs) _ _) i;
    }
