-- States with one entry 1, and the axis rays.
use Rattle.std.proofs.Common.{◌≡◌, ℕ, zero, suc, ◌+◌, ◌≤◌, ◌<◌, List, [], ◌∷◌, ◌++◌, length, get_or, map, take, drop, set, replicate, ℤ, pos, ◌≤ℤ◌, arith, refl, sym, ap, ◌∙◌, append_assoc}
use Rattle.std.specs.List.{sum}
use Rattle.std.proofs.lemmas.List.{take-replicate, map-set, drop-map, drop_all, length-map, map-append, append-nil}
use Rattle.std.proofs.lemmas.List.Sums.{sum_by-cons}
use Rattle.std.proofs.Math.Seq.{take-set-lt}
use Rattle.form.specs.declared.states.State.{State}
use Rattle.form.specs.States.{vector_of}
use Rattle.form.specs.Vector.{positive_part}
use Rattle.master_program.specs.Rounds.{axes, axis_rays}
use Rattle.search_laws.proofs.FewStates.{length-axes}

map_zeros : (n : ℕ) → map positive_part (replicate n (pos 0)) ≡ replicate n 0
map_zeros zero = refl
map_zeros (suc n) = ap (λ (xs : List ℕ). 0 ∷ xs) (map_zeros n)

-- nine entries that are 0 but for one
abbrev pub one_of_nine : ℕ → List ℤ
one_of_nine place = set (replicate 9 (pos 0)) place (pos 1)

length-unit : (n place : ℕ) → length (set (replicate n (pos 0)) place (pos 1)) ≡ n
length-unit zero place = refl
length-unit (suc n) zero = ap suc (length-zeros n)
  where
    length-zeros : (n : ℕ) → length (replicate n (pos 0)) ≡ n
    length-zeros zero = refl
    length-zeros (suc n) = ap suc (length-zeros n)
length-unit (suc n) (suc place) = ap suc (length-unit n place)

pub nine_long : (place : ℕ) → length (one_of_nine place) ≡ 9
nine_long place = length-unit 9 place

pub unit_vector : (count place : ℕ) → count ≤ 9 → place < count → map positive_part (take count (one_of_nine place)) ≡ set (replicate count 0) place 1
unit_vector count place few lt =
    ap (map positive_part) (take-set-lt count (replicate 9 (pos 0)) place (pos 1) lt ∙ ap (λ (xs : List ℤ). set xs place (pos 1)) (take-replicate count 9 (pos 0) few))
    ∙ map-set positive_part (replicate count (pos 0)) place (pos 1)
    ∙ ap (λ (xs : List ℕ). set xs place 1) (map_zeros count)

pub some_unit : (n place : ℕ) → place < n → 0 < sum (set (replicate n 0) place 1)
some_unit zero place lt = absurd (omega (arith, lt))
some_unit (suc n) zero lt = omega (arith, sum_by-cons (λ (k : ℕ). k) 1 (replicate n 0))
some_unit (suc n) (suc place) lt = omega (arith, sum_by-cons (λ (k : ℕ). k) 0 (set (replicate n 0) place 1), some_unit n place (omega (arith, lt)))

zeros_not_below : (n i : ℕ) → pos 0 ≤ℤ get_or (replicate n (pos 0)) i (pos 0)
zeros_not_below zero i = search arith
zeros_not_below (suc n) zero = search arith
zeros_not_below (suc n) (suc i) = zeros_not_below n i

pub unit_not_below : (n place i : ℕ) → pos 0 ≤ℤ get_or (set (replicate n (pos 0)) place (pos 1)) i (pos 0)
unit_not_below zero place i = search arith
unit_not_below (suc n) zero zero = search arith
unit_not_below (suc n) zero (suc i) = zeros_not_below n i
unit_not_below (suc n) (suc place) zero = search arith
unit_not_below (suc n) (suc place) (suc i) = unit_not_below n place i

zeros_are : (n i : ℕ) → get_or (replicate n (pos 0)) i (pos 0) ≡ pos 0
zeros_are zero i = refl
zeros_are (suc n) zero = refl
zeros_are (suc n) (suc i) = zeros_are n i

pub zero_elsewhere : (n place i : ℕ) → place < i → get_or (set (replicate n (pos 0)) place (pos 1)) i (pos 0) ≡ pos 0
zero_elsewhere zero place i lt = refl
zero_elsewhere (suc n) zero zero lt = absurd (omega (arith, lt))
zero_elsewhere (suc n) zero (suc i) lt = zeros_are n i
zero_elsewhere (suc n) (suc place) zero lt = absurd (omega (arith, lt))
zero_elsewhere (suc n) (suc place) (suc i) lt = zero_elsewhere n place i (omega (arith, lt))

-- ---- the axis rays
abbrev behind_zero : List ℕ → List ℕ
behind_zero s = 0 ∷ s

axis_first : (n i : ℕ) → i < n → drop i (axes n) ≡ set (replicate n 0) i 1 ∷ drop (suc i) (axes n)
axis_first zero i lt = absurd (omega (arith, lt))
axis_first (suc n) zero lt = refl
axis_first (suc n) (suc i) lt =
    drop-map behind_zero i (axes n) ∙ ap (map behind_zero) (axis_first n i (omega (arith, lt))) ∙ ap (λ (rays : List (List ℕ)). (0 ∷ set (replicate n 0) i 1) ∷ rays) (sym (drop-map behind_zero (suc i) (axes n)))

ray_first : (n i : ℕ) → i < n → drop i (axis_rays n) ≡ set (replicate (n + 1) 0) (i + 1) 1 ∷ drop (i + 1) (axis_rays n)
ray_first n i lt =
    let more : n + 1 ≡ suc n = omega arith in
    let next : i + 1 ≡ suc i = omega arith in
    rw (more, next) (drop-map behind_zero i (axes n) ∙ ap (map behind_zero) (axis_first n i lt) ∙ ap (λ (rays : List (List ℕ)). (0 ∷ set (replicate n 0) i 1) ∷ rays) (sym (drop-map behind_zero (suc i) (axes n))))

-- one more ray behind those that are there
pub ray_added : (n i : ℕ) (rays new : List State) (ray : State) → i < n → new ≡ rays ++ (ray ∷ []) → vector_of ray ≡ set (replicate (n + 1) 0) (i + 1) 1
    → map vector_of rays ++ drop i (axis_rays n) ≡ axis_rays n → map vector_of new ++ drop (i + 1) (axis_rays n) ≡ axis_rays n
ray_added n i rays new ray lt pushed is all =
    let rest = drop (i + 1) (axis_rays n) in
    ap (λ (states : List State). map vector_of states ++ rest) pushed
    ∙ ap (λ (zs : List (List ℕ)). zs ++ rest) (map-append vector_of rays (ray ∷ []))
    ∙ append_assoc (map vector_of rays) (vector_of ray ∷ []) rest
    ∙ ap (λ (z : List ℕ). map vector_of rays ++ (z ∷ rest)) is
    ∙ ap (λ (zs : List (List ℕ)). map vector_of rays ++ zs) (sym (ray_first n i lt))
    ∙ all

pub rays_end : (n i : ℕ) (rays : List State) → n ≤ i → map vector_of rays ++ drop i (axis_rays n) ≡ axis_rays n → map vector_of rays ≡ axis_rays n
rays_end n i rays high all =
    let none = drop_all i (axis_rays n) (omega (arith, length-map (axes n) behind_zero, length-axes n, high)) in
    sym (append-nil (map vector_of rays)) ∙ ap (λ (zs : List (List ℕ)). map vector_of rays ++ zs) (sym none) ∙ all
