-- Sets of m numbers below n are at most as many as the ways to choose m of n.
use Rattle.std.proofs.Common.{◌≡◌, ℕ, zero, suc, ◌+◌, ◌-◌, ◌<◌, ◌≤◌, arith, refl, sym, ◌∙◌, ap, subst, Bool, true, false, nat_eq, ◌⊎◌, inl, inr}
use Rattle.std.specs.Prelude.{if◌then◌else◌}
use Rattle.std.proofs.Math.Decide.{ℕ_discrete}
use Rattle.std.proofs.lemmas.Bool.Decides.{nat_tests}
use Rattle.std.proofs.lemmas.Bool.{eq-eqb, false_from_ne_true, ne_eqb}
use Rattle.simplex_run.specs.Choose.{choose}

abbrev pub one_if : Bool → ℕ
one_if true = 1
one_if false = 0

-- how many of the numbers below n are in the set
pub count : ℕ → (ℕ → Bool) → ℕ
count zero s = 0
count (suc n) s = one_if (s n) + count n s

-- ---- a number for each set
abbrev pub ranked : Bool → ℕ → ℕ → ℕ → ℕ
ranked true c with_it without = c + with_it
ranked false c with_it without = without

pub rank : ℕ → (ℕ → Bool) → ℕ → ℕ
rank zero s m = 0
rank (suc n) s m = ranked (s n) (choose n m) (rank n s (m - 1)) (rank n s m)

choose_more : (n m : ℕ) → choose n m ≤ choose (suc n) m
unfolding choose
choose_more n zero = omega arith
choose_more zero (suc m) = omega arith
choose_more (suc n) (suc m) = omega arith

pub choose_both : (n m : ℕ) → choose (suc n) (suc m) ≡ choose n (suc m) + choose n m
unfolding choose
choose_both n m = refl

pub choose_none : (n : ℕ) → choose n 0 ≡ 1
unfolding choose
choose_none n = refl

pub rank_below : (n : ℕ) (s : ℕ → Bool) (m : ℕ) → count n s ≡ m → rank n s m < choose n m
unfolding count rank
rank_below zero s m h = let e : 0 ≡ m = h in subst (λ w. 0 < choose 0 w) e (omega (arith, choose_none 0))
rank_below (suc n) s m h = step (s n) m h (rank_below n s)
  where
    step : (b : Bool) (m : ℕ) → one_if b + count n s ≡ m → ((k : ℕ) → count n s ≡ k → rank n s k < choose n k) → ranked b (choose n m) (rank n s (m - 1)) (rank n s m) < choose (suc n) m
    step true zero e below = absurd (omega (arith, e))
    step true (suc m) e below =
        let less : rank n s m < choose n m = below m (omega (arith, e)) in
        let one : suc m - 1 ≡ m = omega arith in
        rw one (omega (arith, less, choose_both n m))
    step false m e below = let less : rank n s m < choose n m = below m (omega (arith, e)) in omega (arith, less, choose_more n m)

pub rank_tells : (n : ℕ) (s t : ℕ → Bool) (m : ℕ) → count n s ≡ m → count n t ≡ m → rank n s m ≡ rank n t m → (j : ℕ) → j < n → s j ≡ t j
unfolding count rank
rank_tells zero s t m h k e j low = absurd (omega (arith, low))
rank_tells (suc n) s t m h k e j low = step (s n) (t n) refl refl m h k e (rank_tells n s t)
  where
    at_last : s n ≡ t n → ((i : ℕ) → i < n → s i ≡ t i) → s j ≡ t j
    at_last last before = elim (ℕ_discrete j n) [ yes is_n ↦ ap s is_n ∙ last ∙ ap t (sym is_n) | no ne ↦ before j (omega (arith, low, ne)) ]

    step : (a b : Bool) → s n ≡ a → t n ≡ b → (m : ℕ) → one_if a + count n s ≡ m → one_if b + count n t ≡ m → ranked a (choose n m) (rank n s (m - 1)) (rank n s m) ≡ ranked b (choose n m) (rank n t (m - 1)) (rank n t m)
        → ((k : ℕ) → count n s ≡ k → count n t ≡ k → rank n s k ≡ rank n t k → (i : ℕ) → i < n → s i ≡ t i) → s j ≡ t j
    step true true p q m x y e before = at_last (p ∙ sym q) (before (m - 1) (omega (arith, x)) (omega (arith, y)) (omega (arith, e)))
    step false false p q m x y e before = at_last (p ∙ sym q) (before m (omega (arith, x)) (omega (arith, y)) e)
    step true false p q m x y e before = let below : rank n t m < choose n m = rank_below n t m (omega (arith, y)) in absurd (omega (arith, e, below))
    step false true p q m x y e before = let below : rank n s m < choose n m = rank_below n s m (omega (arith, x)) in absurd (omega (arith, e, below))

-- ---- the set of the first m values of a function
pub among : ℕ → (ℕ → ℕ) → ℕ → Bool
among zero f j = false
among (suc m) f j = if nat_eq (f m) j then true else among m f j

pub among_is : (m : ℕ) (f : ℕ → ℕ) (i : ℕ) → i < m → among m f (f i) ≡ true
unfolding among
among_is zero f i h = absurd (omega (arith, h))
among_is (suc m) f i h =
    elim (ℕ_discrete i m) [
      | yes e ↦ let t : nat_eq (f m) (f i) ≡ true = eq-eqb (f m) (f i) (ap f (sym e)) in rw t refl
      | no ne ↦ let before = among_is m f i (omega (arith, h, ne)) in or_so (nat_eq (f m) (f i)) (among m f (f i)) before
    ]
  where
    or_so : (b c : Bool) → c ≡ true → (if b then true else c) ≡ true
    or_so true c e = refl
    or_so false c e = e

pub among_out : (m : ℕ) (f : ℕ → ℕ) (j : ℕ) → among m f j ≡ true → (i : ℕ) × (i < m) × (f i ≡ j)
unfolding among
among_out zero f j h = cc
among_out (suc m) f j h = step (nat_eq (f m) j) refl h (among_out m f j)
  where
    step : (b : Bool) → nat_eq (f m) j ≡ b → (if b then true else among m f j) ≡ true → (among m f j ≡ true → (i : ℕ) × (i < m) × (f i ≡ j)) → (i : ℕ) × (i < suc m) × (f i ≡ j)
    step true t k before = let e : f m ≡ j = grind (arith, nat_tests) in (m, omega arith, e)
    step false t k before = let w = before k in (w.0, omega (arith, w.1), w.2)

count-ext : (n : ℕ) (s t : ℕ → Bool) → ((j : ℕ) → j < n → s j ≡ t j) → count n s ≡ count n t
unfolding count
count-ext zero s t h = refl
count-ext (suc n) s t h = ap (λ w. one_if w + count n s) (h n (omega arith)) ∙ ap (λ w. one_if (t n) + w) (count-ext n s t (λ j p. h j (omega (arith, p))))

count-none : (n : ℕ) (s : ℕ → Bool) → ((j : ℕ) → j < n → s j ≡ false) → count n s ≡ 0
unfolding count
count-none zero s h = refl
count-none (suc n) s h = let rest : count n s ≡ 0 = count-none n s (λ j p. h j (omega (arith, p))) in ap (λ w. one_if w + count n s) (h n (omega arith)) ∙ omega (arith, rest)

-- one more number in the set
count-more : (n b : ℕ) (s : ℕ → Bool) → b < n → s b ≡ false → count n (λ j. if nat_eq b j then true else s j) ≡ suc (count n s)
unfolding count
count-more zero b s h k = absurd (omega (arith, h))
count-more (suc n) b s h k =
    elim (ℕ_discrete b n) [
      | yes e ↦
          let t : nat_eq b n ≡ true = eq-eqb b n e in
          let none : s n ≡ false = ap s (sym e) ∙ k in
          ap (λ w. one_if (if w then true else s n) + count n (λ j. if nat_eq b j then true else s j)) t
          ∙ ap (λ w. 1 + w) (count-ext n _ s (λ j p. ap (λ w. if w then true else s j) (ne_eqb b j (λ q. omega (arith, q, e, p)))))
          ∙ plain (count n s)
          ∙ ap (λ w. suc (one_if w + count n s)) (sym none)
      | no ne ↦
          ap (λ w. one_if (if w then true else s n) + count n (λ j. if nat_eq b j then true else s j)) (ne_eqb b n ne)
          ∙ ap (λ w. one_if (s n) + w) (count-more n b s (omega (arith, h, ne)) k) ∙ omega arith
    ]
  where
    plain : (k : ℕ) → 1 + k ≡ suc (0 + k)
    plain k = omega arith

pub count_among : (n m : ℕ) (f : ℕ → ℕ) → ((i : ℕ) → i < m → f i < n) → ((i k : ℕ) → i < m → k < m → f i ≡ f k → i ≡ k) → count n (among m f) ≡ m
unfolding among
count_among n zero f low apart = count-none n _ (λ j p. refl)
count_among n (suc m) f low apart =
    count-more n (f m) (among m f) (low m (omega arith)) (false_from_ne_true (among m f (f m)) (λ h. let w = among_out m f (f m) h in let e : w.0 ≡ m = apart w.0 m (omega (arith, w.1)) (omega arith) w.2 in omega (arith, e, w.1)))
    ∙ ap suc (count_among n m f (λ i p. low i (omega (arith, p))) (λ i k p q e. apart i k (omega (arith, p)) (omega (arith, q)) e))

-- ---- different numbers below c are at most c
find : (f : ℕ → ℕ) (c L : ℕ) → ((i : ℕ) × (i < L) × (f i ≡ c)) ⊎ ((i : ℕ) → i < L → f i ≡ c → ⊥)
find f c zero = inr (λ i p e. omega (arith, p))
find f c (suc L) =
    elim (ℕ_discrete (f L) c) [
      | yes e ↦ inl (L, omega arith, e)
      | no ne ↦ elim (find f c L) [
        | inl w ↦ inl (w.0, omega (arith, w.1), w.2)
        | inr none ↦ inr (λ i p e. elim (ℕ_discrete i L) [ yes same ↦ ne (ap f (sym same) ∙ e) | no other ↦ none i (omega (arith, p, other)) e ])
      ]
    ]

abbrev swapped : (ℕ → ℕ) → ℕ → ℕ → ℕ → ℕ
swapped f i L k = if nat_eq k i then f L else f k

swapped_is : (f : ℕ → ℕ) (i L k : ℕ) → ((k ≡ i) × (swapped f i L k ≡ f L)) ⊎ ((k ≡ i → ⊥) × (swapped f i L k ≡ f k))
swapped_is f i L k = step (nat_eq k i) refl
  where
    step : (b : Bool) → nat_eq k i ≡ b → ((k ≡ i) × ((if b then f L else f k) ≡ f L)) ⊎ ((k ≡ i → ⊥) × ((if b then f L else f k) ≡ f k))
    step true t = let e : k ≡ i = grind (arith, nat_tests) in inl (e, refl)
    step false t = let ne : k ≡ i → ⊥ = λ e. grind (arith, nat_tests) in inr (ne, refl)

pub pigeons : (c L : ℕ) (f : ℕ → ℕ) → ((i : ℕ) → i < L → f i < c) → ((i k : ℕ) → i < L → k < L → f i ≡ f k → i ≡ k) → L ≤ c
pigeons zero zero f low apart = omega arith
pigeons zero (suc L) f low apart = let p : f 0 < 0 = low 0 (omega arith) in absurd (omega (arith, p))
pigeons (suc c) zero f low apart = omega arith
pigeons (suc c) (suc L) f low apart =
    elim (find f c (suc L)) [
      | inr none ↦
          let rest : L ≤ c = pigeons c L f (λ i p. let q : f i < suc c = low i (omega (arith, p)) in let ne = none i (omega (arith, p)) in omega (arith, q, ne)) (λ i k p q e. apart i k (omega (arith, p)) (omega (arith, q)) e) in
          omega (arith, rest)
      | inl w ↦
          let g : ℕ → ℕ = swapped f w.0 L in
          let below : (k : ℕ) → k < L → g k < c = λ k p. elim (swapped_is f w.0 L k) [
            | inl v ↦
                let q : f L < suc c = low L (omega arith) in
                let ne : f L ≡ c → ⊥ = λ e. let s : L ≡ w.0 = apart L w.0 (omega arith) w.1 (e ∙ sym w.2) in omega (arith, s, v.0, p) in
                let r : f L < c = omega (arith, q, ne) in subst (λ z. z < c) (sym v.1) r
            | inr v ↦
                let q : f k < suc c = low k (omega (arith, p)) in
                let ne : f k ≡ c → ⊥ = λ e. v.0 (apart k w.0 (omega (arith, p)) w.1 (e ∙ sym w.2)) in
                let r : f k < c = omega (arith, q, ne) in subst (λ z. z < c) (sym v.1) r
          ] in
          let differ : (i k : ℕ) → i < L → k < L → g i ≡ g k → i ≡ k = λ i k p q e. elim (swapped_is f w.0 L i) [
            | inl u ↦ elim (swapped_is f w.0 L k) [
              | inl v ↦ u.0 ∙ sym v.0
              | inr v ↦ absurd (let s : L ≡ k = apart L k (omega arith) (omega (arith, q)) (sym u.1 ∙ e ∙ v.1) in omega (arith, s, q))
            ]
            | inr u ↦ elim (swapped_is f w.0 L k) [
              | inl v ↦ absurd (let s : i ≡ L = apart i L (omega (arith, p)) (omega arith) (sym u.1 ∙ e ∙ v.1) in omega (arith, s, p))
              | inr v ↦ apart i k (omega (arith, p)) (omega (arith, q)) (sym u.1 ∙ e ∙ v.1)
            ]
          ] in
          let rest : L ≤ c = pigeons c L g below differ in
          omega (arith, rest)
    ]
