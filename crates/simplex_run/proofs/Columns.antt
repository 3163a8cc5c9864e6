-- The column of a variable, and a column that changes its variable.
use Rattle.std.proofs.Common.{◌≡◌, ℕ, zero, suc, ◌+◌, ◌<◌, List, [], ◌∷◌, length, set, ◌⊎◌, inl, inr, arith, refl, sym, ◌∙◌, ap, Bool, true, false, nat_eq}
use Rattle.std.specs.Prelude.{if◌then◌else◌, slice_index_or}
use Rattle.std.proofs.lemmas.Bool.{eqb-true, eq-eqb}
use Rattle.std.proofs.lemmas.List.{length-set, length-append, set-append_left, get_or_append_left, get_or-append-add, get_or-set_same, get_or-set_other}
use Rattle.std.proofs.Math.Decide.{ℕ_discrete}
use Rattle.simplex_run.specs.Table.{label_at, with_right, entry_for}

pub record HasColumn (ls : List ℕ) (j : ℕ) : Type 0 where
  pub place : ℕ
  pub inside : place < length ls
  pub labelled : label_at ls place ≡ j

abbrev pub HasNone : List ℕ → ℕ → Type 0
HasNone ls j = (k : ℕ) → k < length ls → label_at ls k ≡ j → ⊥

pub find : (ls : List ℕ) (j : ℕ) → HasColumn ls j ⊎ HasNone ls j
find [] j = inr (λ k h e. omega (arith, h))
find (v ∷ vs) j =
    elim (ℕ_discrete v j) [
      | yes e ↦ inl (record { place = 0; inside = omega arith; labelled = e })
      | no ne ↦ elim (find vs j) [
        | inl c ↦ inl (record { place = suc c.place; inside = omega (arith, c.inside); labelled = c.labelled })
        | inr h ↦ inr (none v vs j ne h)
      ]
    ]
  where
    none : (v : ℕ) (vs : List ℕ) (j : ℕ) → (v ≡ j → ⊥) → HasNone vs j → HasNone (v ∷ vs) j
    none v vs j ne h zero l e = ne e
    none v vs j ne h (suc k) l e = h k (omega (arith, l)) e

abbrev pub Distinct : List ℕ → Type 0
Distinct ls = (k l : ℕ) → k < length ls → l < length ls → label_at ls k ≡ label_at ls l → k ≡ l

distinct_tail : (v : ℕ) (vs : List ℕ) → Distinct (v ∷ vs) → Distinct vs
distinct_tail v vs h k l p q e = let s : suc k ≡ suc l = h (suc k) (suc l) (omega (arith, p)) (omega (arith, q)) e in omega (arith, s)

-- ---- the entry of a variable
pub entry_none : {A : Type 0} (own : ℕ → A) (ls : List ℕ) (xs : List A) (j : ℕ) → HasNone ls j → entry_for own ls xs j ≡ own j
unfolding entry_for
entry_none own [] xs j h = refl
entry_none own (v ∷ vs) [] j h = refl
entry_none own (v ∷ vs) (x ∷ xs) j h = step (nat_eq v j) refl (entry_none own vs xs j (λ k l e. h (suc k) (omega (arith, l)) e))
  where
    step : (b : Bool) → nat_eq v j ≡ b → entry_for own vs xs j ≡ own j → (if b then x else entry_for own vs xs j) ≡ own j
    step true t later = absurd (h 0 (omega arith) (eqb-true v j t))
    step false t later = later

entry_at : {A : Type 0} (d : A) (own : ℕ → A) (ls : List ℕ) (xs : List A) (k : ℕ) → Distinct ls → length xs ≡ length ls → k < length ls → entry_for own ls xs (label_at ls k) ≡ slice_index_or xs k d
unfolding entry_for
entry_at d own [] xs k u w h = absurd (omega (arith, h))
entry_at d own (v ∷ vs) [] k u w h = absurd (omega (arith, w))
entry_at d own (v ∷ vs) (x ∷ xs) zero u w h = let t = eq-eqb v v refl in rw t refl
entry_at d own (v ∷ vs) (x ∷ xs) (suc k) u w h = step (nat_eq v (label_at vs k)) refl (entry_at d own vs xs k (distinct_tail v vs u) (omega (arith, w)) (omega (arith, h)))
  where
    step : (b : Bool) → nat_eq v (label_at vs k) ≡ b → entry_for own vs xs (label_at vs k) ≡ slice_index_or xs k d → (if b then x else entry_for own vs xs (label_at vs k)) ≡ slice_index_or xs k d
    step true t later = absurd (let s : 0 ≡ suc k = u 0 (suc k) (omega arith) (omega (arith, h)) (eqb-true v (label_at vs k) t) in omega (arith, s))
    step false t later = later

pub entry_where : {A : Type 0} (d : A) (own : ℕ → A) (ls : List ℕ) (xs : List A) (j k : ℕ) → Distinct ls → length xs ≡ length ls → k < length ls → label_at ls k ≡ j → entry_for own ls xs j ≡ slice_index_or xs k d
entry_where d own ls xs j k u w h e = ap (entry_for own ls xs) (sym e) ∙ entry_at d own ls xs k u w h

-- ---- column c changes its variable from e to v
pub record IsSwap (ls : List ℕ) (c e v : ℕ) : Type 0 where
  pub inside : c < length ls
  pub entering : label_at ls c ≡ e
  pub distinct : Distinct ls
  pub fresh : HasNone ls v

pub label_other : (ls : List ℕ) (c v k : ℕ) → (k ≡ c → ⊥) → label_at (set ls c v) k ≡ label_at ls k
label_other ls c v k ne = get_or-set_other ls c k v 0 ne

pub label_own : (ls : List ℕ) (c v : ℕ) → c < length ls → label_at (set ls c v) c ≡ v
label_own ls c v h = get_or-set_same ls c v 0 h

pub distinct_after : (ls : List ℕ) (c e v : ℕ) → IsSwap ls c e v → Distinct (set ls c v)
distinct_after ls c e v s k l p q h =
    let p' : k < length ls = omega (arith, p, length-set ls c v) in
    let q' : l < length ls = omega (arith, q, length-set ls c v) in
    elim (ℕ_discrete k c) [
      | yes is_c ↦ elim (ℕ_discrete l c) [
        | yes also ↦ is_c ∙ sym also
        | no ne ↦ absurd (s.fresh l q' (sym (label_other ls c v l ne) ∙ sym h ∙ ap (label_at (set ls c v)) is_c ∙ label_own ls c v s.inside))
      ]
      | no ne ↦ elim (ℕ_discrete l c) [
        | yes is_c ↦ absurd (s.fresh k p' (sym (label_other ls c v k ne) ∙ h ∙ ap (label_at (set ls c v)) is_c ∙ label_own ls c v s.inside))
        | no ne' ↦ s.distinct k l p' q' (sym (label_other ls c v k ne) ∙ h ∙ label_other ls c v l ne')
      ]
    ]

-- a variable that has no column afterwards entered, or had none before
pub none_before : (ls : List ℕ) (c e v j : ℕ) → IsSwap ls c e v → HasNone (set ls c v) j → (e ≡ j → ⊥) → (v ≡ j → ⊥) × HasNone ls j
none_before ls c e v j s h ne = (
  λ is_v. h c (let p = s.inside in omega (arith, p, length-set ls c v)) (label_own ls c v s.inside ∙ is_v),
  λ k p is_j. elim (ℕ_discrete k c) [
    | yes is_c ↦ ne (sym s.entering ∙ ap (label_at ls) (sym is_c) ∙ is_j)
    | no apart ↦ h k (omega (arith, p, length-set ls c v)) (label_other ls c v k apart ∙ is_j)
  ],
)

-- ---- with the right side
pub right_count : (N : ℕ) (labels : List ℕ) → length (with_right N labels) ≡ suc (length labels)
right_count N labels = length-append labels (N ∷ []) ∙ omega arith

pub right_label : (N : ℕ) (labels : List ℕ) (k : ℕ) → k < length labels → label_at (with_right N labels) k ≡ label_at labels k
right_label N labels k h = get_or_append_left labels (N ∷ []) 0 k h

pub right_own : (N : ℕ) (labels : List ℕ) → label_at (with_right N labels) (length labels) ≡ N
right_own N labels = let e : length labels ≡ length labels + 0 = omega arith in ap (label_at (with_right N labels)) e ∙ get_or-append-add labels (N ∷ []) 0 0

pub right_set : (N : ℕ) (labels : List ℕ) (c v : ℕ) → c < length labels → with_right N (set labels c v) ≡ set (with_right N labels) c v
right_set N labels c v h = sym (set-append_left labels (N ∷ []) c v h)
