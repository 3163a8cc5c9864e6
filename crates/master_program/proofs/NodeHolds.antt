-- What the rows of a node say of a state and of the variables of the covering legs.
use Rattle.std.proofs.Common.{◌≡◌, ℕ, suc, List, [], ◌∷◌, ◌++◌, length, map, replicate, arith, ℤ, pos, negsuc, ◌+ℤ◌, ◌*ℤ◌, ◌≤ℤ◌, sym, ◌∙◌}
use Rattle.std.proofs.lemmas.Int.{ints}
use Rattle.std.proofs.lemmas.List.{length-replicate}
use Rattle.arithmetic.specs.Sums.{dot_ℤ}
use Rattle.arithmetic.proofs.Dots.{dot-append}
use Rattle.master_program.proofs.Matrix.{AreLong, RowsHold}
use Rattle.master_program.proofs.Sums.{dot-replicate}
use Rattle.master_program.specs.Roles.{NodeLeg, entries}
use Rattle.master_program.specs.Node.{covers_of, signed_of, after_zero, with_zeros, minus_units, beside, later_rows, rows_of}
use Rattle.master_program.proofs.NodeShape.{entries_long, options_long, signed_long, cover_rows}

-- no row's sum is above 0
abbrev pub NoneAbove : List (List ℤ) → List ℤ → Type 0
NoneAbove [] X = Unit {0}
NoneAbove (r ∷ rows) X = (dot_ℤ r X ≤ℤ pos 0) × NoneAbove rows X

zero_sides : (F : ℕ) (rows : List (List ℤ)) (X : List ℤ) → RowsHold F rows (replicate (length rows) (pos 0)) X → NoneAbove rows X
zero_sides F [] X h = tt
zero_sides F (r ∷ rows) X h = (omega (arith, ints, h.0), zero_sides F rows X h.1)

none_above_split : (rs ss : List (List ℤ)) (X : List ℤ) → NoneAbove (rs ++ ss) X → NoneAbove rs X × NoneAbove ss X
none_above_split [] ss X h = (tt, h)
none_above_split (r ∷ rs) ss X h = let k = none_above_split rs ss X h.1 in ((h.0, k.0), k.1)

-- ---- the signed rows
without_tail : (k m : ℕ) (rows : List (List ℤ)) (Z U : List ℤ) → AreLong m rows → length Z ≡ m → NoneAbove (map (with_zeros k) rows) (Z ++ U) → NoneAbove rows Z
without_tail k m [] Z U long len h = tt
without_tail k m (r ∷ rows) Z U long len h = (
  omega (arith, ints, h.0, dot-append r (replicate k (pos 0)) Z U (long.0 ∙ sym len), dot-replicate k U),
  without_tail k m rows Z U long.1 len h.1,
)

-- ---- the rows of the covering legs
-- each variable is at least what its option pays, before that is cut off at 0
abbrev pub CoversHold : ℕ → List (List ℤ) → List ℤ → List ℤ → Type 0
CoversHold n [] Z U = Unit {0}
CoversHold n (v ∷ vs) Z [] = ⊥
CoversHold n (v ∷ vs) Z (u ∷ U) = (dot_ℤ (entries n v) Z ≤ℤ u) × CoversHold n vs Z U

-- rows with a 0 there say nothing of the first variable
beside_shift : (m : ℕ) (left right : List (List ℤ)) (Z U : List ℤ) (u : ℤ) → AreLong m left → length Z ≡ m → NoneAbove (beside left (map after_zero right)) (Z ++ (u ∷ U)) → NoneAbove (beside left right) (Z ++ U)
beside_shift m [] right Z U u long len h = tt
beside_shift m (a ∷ left) [] Z U u long len h = tt
beside_shift m (a ∷ left) (b ∷ right) Z U u long len h = (
  omega (arith, ints, h.0, dot-append a (pos 0 ∷ b) Z (u ∷ U) (long.0 ∙ sym len), dot-append a b Z U (long.0 ∙ sym len)),
  beside_shift m left right Z U u long.1 len h.1,
)

own_row : (d r u v : ℤ) → r ≡ d +ℤ ((negsuc 0 *ℤ u) +ℤ v) → v ≡ pos 0 → r ≤ℤ pos 0 → d ≤ℤ u
own_row d r u v e z h = omega (arith, ints, e, z, h)

covers_hold : (n : ℕ) (vs : List (List ℤ)) (Z U : List ℤ) → length Z ≡ suc n → length U ≡ length vs → NoneAbove (cover_rows n vs) (Z ++ U) → CoversHold n vs Z U
covers_hold n [] Z U len count h = tt
covers_hold n (v ∷ vs) Z [] len count h = absurd (omega (arith, count))
covers_hold n (v ∷ vs) Z (u ∷ U) len count h =
    let k = length vs in
    let tail : List ℤ = negsuc 0 ∷ replicate k (pos 0) in (
      own_row (dot_ℤ (entries n v) Z) (dot_ℤ (entries n v ++ tail) (Z ++ (u ∷ U))) u (dot_ℤ (replicate k (pos 0)) U)
          (dot-append (entries n v) tail Z (u ∷ U) (entries_long n v ∙ sym len)) (dot-replicate k U) h.0,
      covers_hold n vs Z U len (omega (arith, count)) (beside_shift (suc n) (map (entries n) vs) (minus_units k) Z U u (options_long n vs) len h.1),
    )

-- ---- all rows
-- the state's entries sum to at most b times F, each variable is at least what its leg pays, and
-- each sign is kept
pub record HoldsAt (n F : ℕ) (node : List NodeLeg) (b : ℤ) (Z U : List ℤ) : Type 0 where
  pub size : dot_ℤ (replicate (suc n) (pos 1)) Z ≤ℤ (b *ℤ pos F)
  pub covers : CoversHold n (covers_of node) Z U
  pub signs : NoneAbove (signed_of n node) Z

pub holds_at : (n F : ℕ) (node : List NodeLeg) (b : ℤ) (Z U : List ℤ) → length Z ≡ suc n → length U ≡ length (covers_of node)
    → RowsHold F (rows_of n node) (b ∷ replicate (length (later_rows n node)) (pos 0)) (Z ++ U) → HoldsAt n F node b Z U
holds_at n F node b Z U len count h =
    let vs = covers_of node in
    let k = length vs in
    let later = none_above_split (cover_rows n vs) (map (with_zeros k) (signed_of n node)) (Z ++ U) (zero_sides F (later_rows n node) (Z ++ U) h.1) in
    let ones : List ℤ = replicate (suc n) (pos 1) in
    record {
      size = omega (arith, ints, h.0, dot-append ones (replicate k (pos 0)) Z U (length-replicate (suc n) (pos 1) ∙ sym len), dot-replicate k U);
      covers = covers_hold n vs Z U len count later.0;
      signs = without_tail k (suc n) (signed_of n node) Z U (signed_long n node) len later.1;
    }
