-- Weighted sums over lists.
use Rattle.std.proofs.Common.{◌≡◌, ℕ, ◌+◌, ◌*◌, ◌≤◌, List, [], ◌∷◌, arith, refl, All, ◌++◌, ap, map, zip, ℤ, pos, ◌+ℤ◌, ◌*ℤ◌}
use Rattle.std.proofs.lemmas.Int.{ints}
use Rattle.std.proofs.lemmas.List.Elements.{All-cons, All-head, All-nil, All-tail}
use native.Mathlib.Nat.{mul-le-mul_left}
use Rattle.arithmetic.specs.Sums.{weigh, weigh_ℤ, total}
use Rattle.arithmetic.proofs.Products.{products}

-- a factor and a sum come out
pub weigh-linear : {A : Type 0} (c f g : A → ℕ) (k : ℕ) (xs : List A) → weigh c (λ x. k * f x + g x) xs ≡ k * weigh c f xs + weigh c g xs
weigh-linear c f g k [] = omega arith
weigh-linear c f g k (x ∷ xs) = omega (arith, weigh-linear c f g k xs)

pub weigh-zero : {A : Type 0} (c : A → ℕ) (xs : List A) → weigh c (λ _. 0) xs ≡ 0
weigh-zero c [] = refl
weigh-zero c (x ∷ xs) = omega (arith, weigh-zero c xs)

-- two sums change their places
pub weigh_swap : {A B : Type 0} (c : A → ℕ) (d : B → ℕ) (f : A → B → ℕ) (xs : List A) (ys : List B) → weigh c (λ x. weigh d (f x) ys) xs ≡ weigh d (λ y. weigh c (λ x. f x y) xs) ys
weigh_swap c d f [] ys = omega (arith, weigh-zero d ys)
weigh_swap c d f (x ∷ xs) ys = omega (arith, weigh_swap c d f xs ys, weigh-linear d (f x) (λ y. weigh c (λ w. f w y) xs) (c x) ys)

-- what holds item by item holds of the sums
pub weigh-le : {A : Type 0} (c f g : A → ℕ) (k l : ℕ) (m : A → ℕ) → ((x : A) → k * f x ≤ l * g x + m x) → (xs : List A) → k * weigh c f xs ≤ l * weigh c g xs + weigh c m xs
weigh-le c f g k l m h [] = omega arith
weigh-le c f g k l m h (x ∷ xs) = omega (arith, mul-le-mul_left (c x) (h x), weigh-le c f g k l m h xs)

pub weigh-append : {A : Type 0} (c f : A → ℕ) (xs ys : List A) → weigh c f (xs ++ ys) ≡ weigh c f xs + weigh c f ys
weigh-append c f [] ys = omega arith
weigh-append c f (x ∷ xs) ys = omega (arith, weigh-append c f xs ys)

pub weigh_same : {A : Type 0} (c f g : A → ℕ) → ((x : A) → f x ≡ g x) → (xs : List A) → weigh c f xs ≡ weigh c g xs
weigh_same c f g h [] = refl
weigh_same c f g h (x ∷ xs) = omega (arith, ap (λ n. c x * n) (h x), weigh_same c f g h xs)

-- a sum of numbers that are not below 0
pub weigh_pos : {A : Type 0} (c f : A → ℕ) (xs : List A) → weigh_ℤ c (λ x. pos (f x)) xs ≡ pos (weigh c f xs)
weigh_pos c f [] = refl
weigh_pos c f (x ∷ xs) = omega (arith, ints, weigh_pos c f xs)

-- amounts k times as large
pub weigh_ℤ-scale : {A : Type 0} (c : A × ℕ → ℕ) (f : A → ℤ) (k : ℕ) → ((x : A) (a : ℕ) → c (x, k * a) ≡ k * c (x, a)) → (xs : List A) (g : List ℕ)
    → weigh_ℤ c (λ (p : A × ℕ). f p.0) (zip xs (map (λ a. k * a) g)) ≡ weigh_ℤ c (λ (p : A × ℕ). f p.0) (zip xs g) *ℤ pos k
weigh_ℤ-scale c f k h [] g = omega (arith, ints)
weigh_ℤ-scale c f k h (x ∷ xs) [] = omega (arith, ints)
weigh_ℤ-scale c f k h (x ∷ xs) (a ∷ g) = omega (arith, ints, products, ap (λ n. f x *ℤ pos n) (h x a), weigh_ℤ-scale c f k h xs g)

-- ---- plain sums
pub total-map : {A B : Type 0} (v : B → ℤ) (f : A → B) (xs : List A) → total v (map f xs) ≡ total (λ x. v (f x)) xs
total-map v f [] = refl
total-map v f (x ∷ xs) = ap (λ s. v (f x) +ℤ s) (total-map v f xs)

pub total-append : {A : Type 0} (v : A → ℤ) (xs ys : List A) → total v (xs ++ ys) ≡ total v xs +ℤ total v ys
total-append v [] ys = omega (arith, ints)
total-append v (x ∷ xs) ys = omega (arith, ints, total-append v xs ys)

pub total_same : {A : Type 0} (v w : A → ℤ) → ((x : A) → v x ≡ w x) → (xs : List A) → total v xs ≡ total w xs
total_same v w h [] = refl
total_same v w h (x ∷ xs) = rw (h x) (ap (λ s. w x +ℤ s) (total_same v w h xs))

pub total_weighs : {A : Type 0} (c f : A → ℕ) (xs : List A) → total (λ x. pos (c x * f x)) xs ≡ pos (weigh c f xs)
total_weighs c f [] = refl
total_weighs c f (x ∷ xs) = omega (arith, ints, total_weighs c f xs)

-- what holds of what f makes of each item
pub All-of_map : {A B : Type 0} (P : B → Type 0) (f : A → B) (xs : List A) → All P (map f xs) → All (λ x. P (f x)) xs
All-of_map P f [] h = All-nil (λ x. P (f x))
All-of_map P f (x ∷ xs) h = All-cons (λ x. P (f x)) x xs (All-head P (f x) (map f xs) h) (All-of_map P f xs (All-tail P (f x) (map f xs) h))

pub All-to_map : {A B : Type 0} (P : B → Type 0) (f : A → B) (xs : List A) → All (λ x. P (f x)) xs → All P (map f xs)
All-to_map P f [] h = All-nil P
All-to_map P f (x ∷ xs) h = All-cons P (f x) (map f xs) (All-head (λ y. P (f y)) x xs h) (All-to_map P f xs (All-tail (λ y. P (f y)) x xs h))
