-- The rows of a node: how many, and how long.
use Rattle.std.proofs.Common.{◌≡◌, ℕ, zero, suc, ◌+◌, List, [], ◌∷◌, length, map, replicate, get_or, arith, ℤ, pos, neg_ℤ, refl, ap, sym, ◌∙◌}
use Rattle.std.proofs.lemmas.List.{length-map, length-append, length-replicate}
use Rattle.master_program.proofs.Matrix.{AreLong}
use Rattle.master_program.specs.Roles.{Role, Idle, Covering, Free, Above, Below, NodeLeg, values, entries}
use Rattle.master_program.specs.Node.{covers_of, with_sign, signed_of, after_zero, with_zeros, minus_units, beside, later_rows, rows_of}
use Rattle.master_program.proofs.Sums.{long-append}

pub length-values : {A : Type 0} (f : ℕ → A) (m : ℕ) → length (values f m) ≡ m
length-values f zero = refl
length-values f (suc m) = ap suc (length-values (λ i. f (suc i)) m)

pub entries_long : (n : ℕ) (v : List ℤ) → length (entries n v) ≡ suc n
entries_long n v = length-values (λ i. get_or v i (pos 0)) (suc n)

pub options_long : (n : ℕ) (vs : List (List ℤ)) → AreLong (suc n) (map (entries n) vs)
options_long n [] = tt
options_long n (v ∷ vs) = (entries_long n v, options_long n vs)

with_sign_long : (m : ℕ) (role : Role) (v : List ℤ) (rows : List (List ℤ)) → length v ≡ m → AreLong m rows → AreLong m (with_sign role v rows)
with_sign_long m Above v rows h k = (length-map v neg_ℤ ∙ h, k)
with_sign_long m Below v rows h k = (h, k)
with_sign_long m Idle v rows h k = k
with_sign_long m Covering v rows h k = k
with_sign_long m Free v rows h k = k

pub signed_long : (n : ℕ) (legs : List NodeLeg) → AreLong (suc n) (signed_of n legs)
signed_long n [] = tt
signed_long n (leg ∷ legs) = with_sign_long (suc n) leg.role (entries n leg.option) (signed_of n legs) (entries_long n leg.option) (signed_long n legs)

shift_long : (k : ℕ) (rows : List (List ℤ)) → AreLong k rows → AreLong (suc k) (map after_zero rows)
shift_long k [] h = tt
shift_long k (r ∷ rows) h = (ap suc h.0, shift_long k rows h.1)

pub units_long : (k : ℕ) → AreLong k (minus_units k)
units_long zero = tt
units_long (suc k) = (ap suc (length-replicate k (pos 0)), shift_long k (minus_units k) (units_long k))

pub units_count : (k : ℕ) → length (minus_units k) ≡ k
units_count zero = refl
units_count (suc k) = ap suc (length-map (minus_units k) after_zero ∙ units_count k)

beside_long : (m k : ℕ) (left right : List (List ℤ)) → AreLong m left → AreLong k right → AreLong (m + k) (beside left right)
beside_long m k [] right h l = tt
beside_long m k (a ∷ left) [] h l = tt
beside_long m k (a ∷ left) (b ∷ right) h l = (omega (arith, length-append a b, h.0, l.0), beside_long m k left right h.1 l.1)

pub beside_count : (left right : List (List ℤ)) → length left ≡ length right → length (beside left right) ≡ length left
beside_count [] right h = refl
beside_count (a ∷ left) [] h = absurd (omega (arith, h))
beside_count (a ∷ left) (b ∷ right) h = ap suc (beside_count left right (omega (arith, h)))

zeros_long : (m k : ℕ) (rows : List (List ℤ)) → AreLong m rows → AreLong (m + k) (map (with_zeros k) rows)
zeros_long m k [] h = tt
zeros_long m k (r ∷ rows) h = (omega (arith, length-append r (replicate k (pos 0)), h.0, length-replicate k (pos 0)), zeros_long m k rows h.1)

-- the rows of the covering legs
abbrev pub cover_rows : ℕ → List (List ℤ) → List (List ℤ)
cover_rows n vs = beside (map (entries n) vs) (minus_units (length vs))

pub sides_count : (n : ℕ) (vs : List (List ℤ)) → length (map (entries n) vs) ≡ length (minus_units (length vs))
sides_count n vs = length-map vs (entries n) ∙ sym (units_count (length vs))

pub cover_rows_count : (n : ℕ) (vs : List (List ℤ)) → length (cover_rows n vs) ≡ length vs
cover_rows_count n vs = beside_count (map (entries n) vs) (minus_units (length vs)) (sides_count n vs) ∙ length-map vs (entries n)

pub later_count : (n : ℕ) (legs : List NodeLeg) → length (later_rows n legs) ≡ length (covers_of legs) + length (signed_of n legs)
later_count n legs =
    let vs = covers_of legs in
    let k = length vs in
    length-append (cover_rows n vs) (map (with_zeros k) (signed_of n legs))
    ∙ ap (λ (a : ℕ). a + length (map (with_zeros k) (signed_of n legs))) (cover_rows_count n vs)
    ∙ ap (λ (a : ℕ). k + a) (length-map (signed_of n legs) (with_zeros k))

pub rows_long : (n : ℕ) (legs : List NodeLeg) → AreLong (suc n + length (covers_of legs)) (rows_of n legs)
rows_long n legs =
    let vs = covers_of legs in
    let k = length vs in (
      omega (arith, length-append (replicate (suc n) (pos 1)) (replicate k (pos 0)), length-replicate (suc n) (pos 1), length-replicate k (pos 0)),
      long-append (suc n + k) (cover_rows n vs) (map (with_zeros k) (signed_of n legs)) (beside_long (suc n) k (map (entries n) vs) (minus_units k) (options_long n vs) (units_long k)) (zeros_long (suc n) k (signed_of n legs) (signed_long n legs)),
    )
