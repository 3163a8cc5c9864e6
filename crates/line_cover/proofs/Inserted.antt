-- States in rising price: what holds of each of them, and of each that was put in.
use Rattle.std.proofs.Common.{◌≡◌, ℕ, ◌*◌, ◌<◌, ◌≤◌, true, false, List, [], ◌∷◌, ◌++◌, inl, inr, arith, pos, All, refl, ap, subst, ◌∙◌}
use Rattle.std.specs.Prelude.{nat_lt, if◌then◌else◌}
use Rattle.std.specs.List.{fold}
use Rattle.std.proofs.lemmas.Bool.Decides.{nat_tests}
use Rattle.std.proofs.lemmas.Bool.{cases_lt, lt-ltb, ltb-true}
use Rattle.std.proofs.lemmas.List.Elements.{All-nil, All-cons, All-head, All-tail, All-push, All-weaker}
use native.Mathlib.Nat.{mul-le-mul_left}
use Rattle.exact_num.specs.Fraction.{Fraction, over}
use Rattle.exact_num.proofs.Order.{lowest_is_unique}
use Rattle.form.specs.Vector.{scale_of}
use Rattle.line_cover.specs.Breakpoints.{price_entry, is_below, insert, in_rising_price, first_state, last_state, IsPriced, Rise}

-- what holds of a state and of others holds with it among them
pub insert_all : (P : List ℕ → Type 0) (ys : List (List ℕ)) (z : List ℕ) → All P ys → P z → All P (insert ys z)
unfolding insert
insert_all P [] z h k = All-cons P z [] k (All-nil P)
insert_all P (y ∷ ys) z h k =
    let here = All-head P y ys h in
    let later = insert_all P ys z (All-tail P y ys h) k in
    elim (is_below z y) as (λ b. All P (if b then z ∷ y ∷ ys else if is_below y z then y ∷ insert ys z else y ∷ ys)) [
      | true ↦ All-cons P z (y ∷ ys) k h
      | false ↦
          elim (is_below y z) as (λ b. All P (if b then y ∷ insert ys z else y ∷ ys)) [
            | true ↦ All-cons P y (insert ys z) here later
            | false ↦ h
          ]
    ]

equal_price : (a b : ℕ) → nat_lt a b ≡ false → nat_lt b a ≡ false → a ≡ b
equal_price a b h k = grind (arith, nat_tests)

-- two states of one price in lowest terms are one
same_price : (y z : List ℕ) → IsPriced y → IsPriced z → price_entry y * scale_of z ≡ price_entry z * scale_of y → y ≡ z
same_price [] z hy hz e = absurd (omega (arith, hy.entries))
same_price (t ∷ []) z hy hz e = absurd (omega (arith, hy.entries))
same_price (t ∷ s ∷ u ∷ y) z hy hz e = absurd (omega (arith, hy.entries))
same_price (t ∷ s ∷ []) [] hy hz e = absurd (omega (arith, hz.entries))
same_price (t ∷ s ∷ []) (t' ∷ []) hy hz e = absurd (omega (arith, hz.entries))
same_price (t ∷ s ∷ []) (t' ∷ s' ∷ u ∷ z) hy hz e = absurd (omega (arith, hz.entries))
same_price (t ∷ s ∷ []) (t' ∷ s' ∷ []) hy hz e =
    let same : over (pos s) t ≡ over (pos s') t' = lowest_is_unique (over (pos s) t) (over (pos s') t') hy.lowest hz.lowest (ap pos e) in
    let scales : t ≡ t' = ap (λ (f : Fraction). f.denominator) same in
    let prices : s ≡ s' = cc (ap (λ (f : Fraction). f.numerator) same) in
    ap (λ w. w ∷ s ∷ []) scales ∙ ap (λ w. t' ∷ w ∷ []) prices

-- and back
pub insert_had : (P : List ℕ → Type 0) (ys : List (List ℕ)) (z : List ℕ) → All IsPriced ys → IsPriced z → All P (insert ys z) → All P ys × P z
unfolding insert
insert_had P [] z priced is h = (All-nil P, All-head P z [] h)
insert_had P (y ∷ ys) z priced is h = (
    elim (is_below z y) as (λ b. is_below z y ≡ b → All P (if b then z ∷ y ∷ ys else if is_below y z then y ∷ insert ys z else y ∷ ys) → All P (y ∷ ys) × P z) [
      | true ↦ λ e k. (All-tail P z (y ∷ ys) k, All-head P z (y ∷ ys) k)
      | false ↦ λ e.
          (elim (is_below y z) as (λ b. is_below y z ≡ b → All P (if b then y ∷ insert ys z else y ∷ ys) → All P (y ∷ ys) × P z) [
            | true ↦ λ f k.
                let rest = insert_had P ys z (All-tail IsPriced y ys priced) is (All-tail P y (insert ys z) k) in
                (All-cons P y ys (All-head P y (insert ys z) k) rest.0, rest.1)
            | false ↦ λ f k.
                let same = same_price y z (All-head IsPriced y ys priced) is (equal_price (price_entry y * scale_of z) (price_entry z * scale_of y) f e) in
                (k, subst P same (All-head P y ys k))
          ]) refl
    ]
    ) refl h

fold_all : (P : List ℕ → Type 0) (ys zs : List (List ℕ)) → All P ys → All P zs → All P (fold insert ys zs)
fold_all P ys [] h k = h
fold_all P ys (z ∷ zs) h k = fold_all P (insert ys z) zs (insert_all P ys z h (All-head P z zs k)) (All-tail P z zs k)

fold_had : (P : List ℕ → Type 0) (ys zs : List (List ℕ)) → All IsPriced ys → All IsPriced zs → All P (fold insert ys zs) → All P ys × All P zs
fold_had P ys [] priced is h = (h, All-nil P)
fold_had P ys (z ∷ zs) priced is h =
    let here = All-head IsPriced z zs is in
    let rest = fold_had P (insert ys z) zs (insert_all IsPriced ys z priced here) (All-tail IsPriced z zs is) h in
    let parts = insert_had P ys z priced here rest.0 in
    (parts.0, All-cons P z zs parts.1 rest.1)

pub rising_all : (P : List ℕ → Type 0) (zs : List (List ℕ)) → All P zs → All P (in_rising_price zs)
unfolding in_rising_price
rising_all P zs h = fold_all P [] zs (All-nil P) h

pub rising_had : (P : List ℕ → Type 0) (zs : List (List ℕ)) → All IsPriced zs → All P (in_rising_price zs) → All P zs
unfolding in_rising_price
rising_had P zs is h = (fold_had P [] zs (All-nil IsPriced) is h).1

-- ---- their order
abbrev Below : List ℕ → List ℕ → Type 0
Below y z = is_below y z ≡ true

less_trans : (a b c p q r : ℕ) → 1 ≤ p → a * q < b * p → b * r < c * q → a * r < c * p
less_trans a b c p q r one h k = elim (cases_lt (a * r) (c * p)) [
  | inl lt ↦ lt
  | inr le ↦ absurd (omega (arith, mul-le-mul_left q le, mul-le-mul_left r h, mul-le-mul_left p k))
]

below_trans : (y z w : List ℕ) → 1 ≤ scale_of y → Below y z → Below z w → Below y w
below_trans y z w one h k =
    lt-ltb (price_entry y * scale_of w) (price_entry w * scale_of y)
    (less_trans (price_entry y) (price_entry z) (price_entry w) (scale_of y) (scale_of z) (scale_of w) one
    (ltb-true (price_entry y * scale_of z) (price_entry z * scale_of y) h)
    (ltb-true (price_entry z * scale_of w) (price_entry w * scale_of z) k))

insert_rise : (ys : List (List ℕ)) (z : List ℕ) → IsPriced z → Rise ys → Rise (insert ys z)
unfolding insert
insert_rise [] z is h = (All-nil (Below z), tt)
insert_rise (y ∷ ys) z is h =
    let later : Below y z → Rise (y ∷ insert ys z) = λ f. (insert_all (Below y) ys z h.0 f, insert_rise ys z is h.1) in
    (elim (is_below z y) as (λ b. is_below z y ≡ b → Rise (if b then z ∷ y ∷ ys else if is_below y z then y ∷ insert ys z else y ∷ ys)) [
      | true ↦ λ e. (All-cons (Below z) y ys e (All-weaker (Below y) (Below z) (λ w. below_trans z y w is.lowest.positive e) ys h.0), h)
      | false ↦ λ e.
          (elim (is_below y z) as (λ b. is_below y z ≡ b → Rise (if b then y ∷ insert ys z else y ∷ ys)) [
            | true ↦ later
            | false ↦ λ f. h
          ]) refl
    ]) refl

fold_rise : (ys zs : List (List ℕ)) → All IsPriced zs → Rise ys → Rise (fold insert ys zs)
fold_rise ys [] is h = h
fold_rise ys (z ∷ zs) is h = fold_rise (insert ys z) zs (All-tail IsPriced z zs is) (insert_rise ys z (All-head IsPriced z zs is) h)

rise_last : (ys : List (List ℕ)) (z : List ℕ) → All (λ y. Below y z) ys → Rise ys → Rise (ys ++ (z ∷ []))
rise_last [] z below h = (All-nil (Below z), tt)
rise_last (y ∷ ys) z below h = (
  All-push (Below y) ys z h.0 (All-head (λ y. Below y z) y ys below),
  rise_last ys z (All-tail (λ y. Below y z) y ys below) h.1,
)

-- between the price 0 and the slope they rise
pub rising_rise : (zs : List (List ℕ)) → All IsPriced zs → Rise (first_state ∷ (in_rising_price zs ++ (last_state ∷ [])))
unfolding in_rising_price
rising_rise zs is =
    let rising = rising_all IsPriced zs is in
    let ys = in_rising_price zs in
    let first : (z : List ℕ) → IsPriced z → Below first_state z = λ z h. lt-ltb (0 * scale_of z) (price_entry z * 1) (omega (arith, h.above_zero)) in
    let last : (z : List ℕ) → IsPriced z → Below z last_state = λ z h. lt-ltb (price_entry z * 0) (1 * scale_of z) (omega (arith, h.lowest.positive)) in
    (All-push (Below first_state) ys last_state (All-weaker IsPriced (Below first_state) first ys rising) refl, rise_last ys last_state (All-weaker IsPriced (λ z. Below z last_state) last ys rising) (fold_rise [] zs is tt))
