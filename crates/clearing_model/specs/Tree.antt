-- Closed trees of signs: a certificate that the net is at most L * t at every state.
use Rattle.std.specs.Prelude.{ℕ, suc, zero, ◌+◌, ◌≡◌, ◌≤◌, List, [], ◌∷◌, length, replicate, slice_set, ℤ, pos, neg_ℤ, ◌+ℤ◌, ◌*ℤ◌, ◌≤ℤ◌, get_or}
use Rattle.form.specs.Payoff.{positive_part}
use Rattle.clearing_model.specs.Legs.{Exposure, Long, Short, FilledLeg}

pub data Sign : Type 0 where
  Unsigned : Sign
  Plus : Sign
  Minus : Sign

-- a leaf has a multiplier for each leg, and a split names a long leg and has a side for each sign
-- of it
pub data Tree : Type 0 where
  Leaf : List ℕ → Tree
  Split : ℕ → Tree → Tree → Tree

-- what a leg with the fill f, the multiplier m and the entry x adds to a leaf's entry
abbrev pub term : Exposure → Sign → ℕ → ℕ → ℤ → ℤ
term Long Plus f m x = x *ℤ pos (f + m)
term Long Minus f m x = neg_ℤ (x *ℤ pos m)
term Long Unsigned f m x = pos (positive_part x) *ℤ pos f
term Short sign f m x = neg_ℤ (x *ℤ pos m)

-- the entry i of a leaf, before the liability
abbrev pub entry_of : ℕ → List FilledLeg → List Sign → List ℕ → ℤ
entry_of i [] signs ms = pos 0
entry_of i (leg ∷ legs) [] ms = pos 0
entry_of i (leg ∷ legs) (sign ∷ signs) [] = pos 0
entry_of i (leg ∷ legs) (sign ∷ signs) (m ∷ ms) = term leg.exposure sign leg.amount m (get_or leg.option i (pos 0)) +ℤ entry_of i legs signs ms

-- the liability stands in entry 0
abbrev pub liability_at : ℤ → ℕ → ℤ
liability_at L zero = L
liability_at L (suc i) = pos 0

-- a short leg's multiplier is at most its fill
abbrev pub IsAllowed : Exposure → ℕ → ℕ → Type 0
IsAllowed Long f m = Unit {0}
IsAllowed Short f m = m ≤ f

abbrev pub AreAllowed : List FilledLeg → List ℕ → Type 0
AreAllowed [] ms = ms ≡ []
AreAllowed (leg ∷ legs) [] = ⊥
AreAllowed (leg ∷ legs) (m ∷ ms) = IsAllowed leg.exposure leg.amount m × AreAllowed legs ms

abbrev pub IsUnsignedLong : List FilledLeg → List Sign → ℕ → Type 0
IsUnsignedLong [] signs place = ⊥
IsUnsignedLong (leg ∷ legs) [] place = ⊥
IsUnsignedLong (leg ∷ legs) (sign ∷ signs) zero = (leg.exposure ≡ Long) × (sign ≡ Unsigned)
IsUnsignedLong (leg ∷ legs) (sign ∷ signs) (suc place) = IsUnsignedLong legs signs place

-- the tree is closed where the long legs have these signs
abbrev pub IsClosedUnder : ℕ → List FilledLeg → ℤ → List Sign → Tree → Type 0
IsClosedUnder n legs L signs (Leaf ms) = AreAllowed legs ms × ((i : ℕ) → i ≤ n → entry_of i legs signs ms ≤ℤ liability_at L i)
IsClosedUnder n legs L signs (Split place plus minus) =
    IsUnsignedLong legs signs place
    × IsClosedUnder n legs L (slice_set signs place Plus) plus
    × IsClosedUnder n legs L (slice_set signs place Minus) minus

-- the tree is closed with no leg signed
abbrev pub IsClosed : ℕ → List FilledLeg → ℤ → Tree → Type 0
IsClosed n legs L tree = IsClosedUnder n legs L (replicate (length legs) Unsigned) tree
