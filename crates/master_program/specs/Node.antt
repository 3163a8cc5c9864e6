-- The program of a node of the search for a state at which the net is above the liability. Its
-- states have entries that sum to at most 1; each covering leg has a variable that is at least what
-- it pays there, and each signed leg a row that keeps its sign.
use Rattle.std.specs.Prelude.{ℕ, zero, suc, ◌+◌, List, [], ◌∷◌, ◌++◌, length, map, replicate, get_or, ℤ, pos, negsuc, neg_ℤ, ◌+ℤ◌, ◌-ℤ◌, ◌*ℤ◌}
use Rattle.std.specs.List.{flat_map}
use Rattle.exact_num.specs.Fraction.{whole, reduced}
use Rattle.simplex_run.specs.Program.{LinearProgram}
use Rattle.form.specs.Vector.{positive_part}
use Rattle.clearing_model.specs.Legs.{FilledLeg}
use Rattle.clearing_model.specs.Tree.{Sign, liability_at}
use Rattle.master_program.specs.Roles.{Role, Idle, Covering, Free, Above, Below, NodeLeg, role_in, node_legs, values, entries}

-- ---- rows
abbrev pub if_covering : {A : Type 0} → Role → A → List A → List A
if_covering Covering x xs = x ∷ xs
if_covering Idle x xs = xs
if_covering Free x xs = xs
if_covering Above x xs = xs
if_covering Below x xs = xs

-- the options of the covering legs
abbrev pub covers_of : List NodeLeg → List (List ℤ)
covers_of [] = []
covers_of (leg ∷ legs) = if_covering leg.role leg.option (covers_of legs)

-- the state's part of the row of a signed leg: what it pays with a minus is at most 0 above, and
-- what it pays is below
abbrev pub with_sign : Role → List ℤ → List (List ℤ) → List (List ℤ)
with_sign Above v rows = map neg_ℤ v ∷ rows
with_sign Below v rows = v ∷ rows
with_sign Idle v rows = rows
with_sign Covering v rows = rows
with_sign Free v rows = rows

abbrev pub signed_of : ℕ → List NodeLeg → List (List ℤ)
signed_of n [] = []
signed_of n (leg ∷ legs) = with_sign leg.role (entries n leg.option) (signed_of n legs)

abbrev pub after_zero : List ℤ → List ℤ
after_zero r = pos 0 ∷ r

abbrev pub with_zeros : ℕ → List ℤ → List ℤ
with_zeros k r = r ++ replicate k (pos 0)

-- k rows of k entries: -1 at the row's own place, and else 0
abbrev pub minus_units : ℕ → List (List ℤ)
minus_units zero = []
minus_units (suc k) = (negsuc 0 ∷ replicate k (pos 0)) ∷ map after_zero (minus_units k)

-- the rows of two lists, one beside the other
abbrev pub beside : List (List ℤ) → List (List ℤ) → List (List ℤ)
beside [] bs = []
beside (a ∷ rows) [] = []
beside (a ∷ rows) (b ∷ bs) = (a ++ b) ∷ beside rows bs

-- the state's entries sum to at most 1
abbrev pub size_row : ℕ → ℕ → List ℤ
size_row n k = replicate (suc n) (pos 1) ++ replicate k (pos 0)

-- the rows of the covering legs, and then those of the signed ones
abbrev pub later_rows : ℕ → List NodeLeg → List (List ℤ)
later_rows n legs =
    let k = length (covers_of legs) in
    beside (map (entries n) (covers_of legs)) (minus_units k) ++ map (with_zeros k) (signed_of n legs)

abbrev pub rows_of : ℕ → List NodeLeg → List (List ℤ)
rows_of n legs = size_row n (length (covers_of legs)) ∷ later_rows n legs

abbrev pub right_sides_of : ℕ → List NodeLeg → List ℤ
right_sides_of n legs = pos 1 ∷ replicate (length (later_rows n legs)) (pos 0)

-- ---- costs
-- what a leg with the amount f and the entry x earns
abbrev pub earning : Role → ℕ → ℤ → ℤ
earning Free f x = pos (positive_part x) *ℤ pos f
earning Above f x = x *ℤ pos f
earning Below f x = pos 0
earning Covering f x = pos 0
earning Idle f x = pos 0

-- the sum over the legs at entry i
abbrev pub earned_at : ℕ → List FilledLeg → List Sign → ℤ
earned_at i [] signs = pos 0
earned_at i (leg ∷ legs) [] = pos 0
earned_at i (leg ∷ legs) (sign ∷ signs) = earning (role_in leg sign) leg.amount (get_or leg.option i (pos 0)) +ℤ earned_at i legs signs

-- the liability is taken from entry 0
abbrev pub state_cost : List FilledLeg → ℤ → List Sign → ℕ → ℤ
state_cost legs L signs i = earned_at i legs signs -ℤ liability_at L i

-- the amounts of the covering legs
abbrev pub cover_amounts : List FilledLeg → List Sign → List ℕ
cover_amounts [] signs = []
cover_amounts (leg ∷ legs) [] = []
cover_amounts (leg ∷ legs) (sign ∷ signs) = if_covering (role_in leg sign) leg.amount (cover_amounts legs signs)

abbrev pub minus_amount : ℕ → ℤ
minus_amount a = neg_ℤ (pos a)

-- the variable of a covering leg costs its amount
abbrev pub costs_of : ℕ → List FilledLeg → ℤ → List Sign → List ℤ
costs_of n legs L signs = values (state_cost legs L signs) (suc n) ++ map minus_amount (cover_amounts legs signs)

-- ---- the program in whole numbers, amounts and liability standing over D
abbrev pub node_program : ℕ → ℕ → List FilledLeg → ℤ → List Sign → LinearProgram
node_program n D legs L signs =
    let node = node_legs legs signs in
    record {
      variables = suc n + length (covers_of node);
      rows = length (rows_of n node);
      coefficients = flat_map (map whole) (rows_of n node);
      right_sides = map whole (right_sides_of n node);
      costs = map (λ c. reduced c D) (costs_of n legs L signs);
    }
