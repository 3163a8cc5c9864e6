-- Lists of f at i, i + 1 and so on.
use Rattle.std.proofs.Common.{◌≡◌, ℕ, zero, suc, ◌+◌, ◌<◌, ◌∷◌, length, arith, refl, ◌∙◌, ap}
use Rattle.std.specs.Prelude.{slice_index_or}
use Rattle.std.specs.List.{All}
use Rattle.std.proofs.lemmas.List.Elements.{All-nil, All-cons}
use Rattle.exact_num.specs.Fraction.{Fraction}
use Rattle.simplex_run.specs.Places.{at, fraction_zero, values_at}
use Rattle.simplex_run.specs.Table.{Row, entries_at, basic_at}

pub listed_count : {A : Type 0} (f : ℕ → A) (i n : ℕ) → length (values_at f i n) ≡ n
unfolding values_at
listed_count f i zero = refl
listed_count f i (suc n) = ap suc (listed_count f (i + 1) n)

pub listed_all : {A : Type 0} (P : A → Type 0) (f : ℕ → A) → ((j : ℕ) → P (f j)) → (i n : ℕ) → All P (values_at f i n)
unfolding values_at
listed_all P f h i zero = All-nil P
listed_all P f h i (suc n) = All-cons P (f i) (values_at f (i + 1) n) (h i) (listed_all P f h (i + 1) n)

-- two that agree place by place
pub listed_same : {A : Type 0} (f g : ℕ → A) (k l m : ℕ) → ((i : ℕ) → i < m → f (k + i) ≡ g (l + i)) → values_at f k m ≡ values_at g l m
unfolding values_at
listed_same f g k l zero h = refl
listed_same f g k l (suc m) h =
    let a : k + 0 ≡ k = omega arith in
    let b : l + 0 ≡ l = omega arith in
    let here : f k ≡ g l = rw (a, b) at (h 0 (omega arith)) in
    let later : (i : ℕ) → i < m → f (k + 1 + i) ≡ g (l + 1 + i) = λ i low.
    let c : k + suc i ≡ k + 1 + i = omega arith in
    let d : l + suc i ≡ l + 1 + i = omega arith in
    rw (c, d) at (h (suc i) (omega (arith, low))) in
    λ t. here t ∷ listed_same f g (k + 1) (l + 1) m later t

pub listed_alike : {A : Type 0} (f g : ℕ → A) (i n : ℕ) → ((j : ℕ) → f j ≡ g j) → values_at f i n ≡ values_at g i n
listed_alike f g i n h = listed_same f g i i n (λ j low. h (i + j))

-- ---- by place
pub by_first : (P : ℕ → Type 0) → P zero → ((j : ℕ) → P (suc j)) → (j : ℕ) → P j
by_first P z s zero = z
by_first P z s (suc j) = s j

pub listed_item : {A : Type 0} (d : A) (f : ℕ → A) (i n j : ℕ) → j < n → slice_index_or (values_at f i n) j d ≡ f (i + j)
unfolding values_at
listed_item d f i zero j h = absurd (omega (arith, h))
listed_item d f i (suc n) zero h = ap f (omega arith)
listed_item d f i (suc n) (suc j) h = listed_item d f (i + 1) n j (omega (arith, h)) ∙ ap f (omega arith)

pub listed_from : (f : ℕ → Fraction) (i n j : ℕ) → j < n → at (values_at f i n) j ≡ f (i + j)
listed_from f i n j h = listed_item fraction_zero f i n j h

pub listed_at : (f : ℕ → Fraction) (n j : ℕ) → j < n → at (values_at f 0 n) j ≡ f j
listed_at f n j h = listed_from f 0 n j h ∙ ap f (omega arith)

pub listed_entries : (f : ℕ → Row) (i n j : ℕ) → j < n → entries_at (values_at f i n) j ≡ (f (i + j)).entries
unfolding values_at
listed_entries f i zero j h = absurd (omega (arith, h))
listed_entries f i (suc n) zero h = ap (λ k. (f k).entries) (omega arith)
listed_entries f i (suc n) (suc j) h = listed_entries f (i + 1) n j (omega (arith, h)) ∙ ap (λ k. (f k).entries) (omega arith)

pub listed_basic : (f : ℕ → Row) (i n j : ℕ) → j < n → basic_at (values_at f i n) j ≡ (f (i + j)).basic
unfolding values_at
listed_basic f i zero j h = absurd (omega (arith, h))
listed_basic f i (suc n) zero h = ap (λ k. (f k).basic) (omega arith)
listed_basic f i (suc n) (suc j) h = listed_basic f (i + 1) n j (omega (arith, h)) ∙ ap (λ k. (f k).basic) (omega arith)
