-- A row that the pivot's column is eliminated from, in code.
use Rattle.std.proofs.Common.{◌≡◌, ℕ, zero, suc, negsuc, ◌-ℤ◌, ◌+◌, ◌*◌, ◌/◌, ◌%◌, ◌<◌, ◌≤◌, List, arith, refl, sym, ◌∙◌, ap, subst, ℤ, pos, int_div, unsigned_abs, length, true, false, not, FitsSigned, set, to_z, of_z, w64, nat_eq}
use Rattle.std.specs.Prelude.{int_lt}
use Rattle.std.proofs.lemmas.Int.{ints, to_z-of_z, to_z_pos}
use Rattle.std.proofs.lemmas.Bool.{eq-eqb, eqb-true, ne_eqb, not-false}
use Rattle.std.proofs.lemmas.Nat.Gcd.{le_of_dvd}
use Rattle.std.proofs.Math.Nat.{div-le_self, div-one, div_self, mul-div_cancel, mul-le-mul}
use Rattle.arithmetic.specs.Gcd.{gcd}
use Rattle.arithmetic.proofs.GcdLaws.{gcd_comm, gcd_pos_right, gcd_dvd_right, gcd-one, gcd-zero, gcd-mul, pos_of_quotient}
use Rattle.arithmetic.proofs.Products.{products}
use Rattle.arithmetic.proofs.Quotients.{int_div-one, unsigned_abs-int_div}
use Rattle.arithmetic.proofs.Integers.{zero_of_size}
use Rattle.run_equivalence.specs.IntegerRows.{AreSizes, IsIntegerRow, IntegerRow, integer_row, row_size, number_at, widest}
use Rattle.run_equivalence.specs.WholePivoting.{row_eliminated, cross_difference, cut_where_wide, step_size}
use Rattle.run_equivalence.proofs.IntegerRowSteps.{eliminated_rows_fit, set_sizes, size_at_most, sizes_bound}
use Rattle.integer_tableau.specs.Eliminating.{IsEliminatedBy, IsLeft, IsMade, IsPivotRow, IsShort}
use Rattle.integer_tableau.specs.Rows.{IsEliminated, row_in}
use Rattle.integer_tableau.specs.Within.{AreMixedSizes, HasRoom}
use Rattle.integer_tableau.specs.declared.mix.PivotRow.{PivotRow}
use Rattle.integer_tableau.specs.declared.outcome.Eliminated.{Eliminated}
use Rattle.integer_tableau.specs.declared.outcome.Eliminated.TheVariants.{Short, Wide, Misfit}
use Rattle.integer_tableau.proofs.Numbers.{gcd_of_multiple, gcd_of_rest}
use Rattle.integer_tableau.proofs.Words.{mixed_of_sizes, mixed_room, room_within}
use mir.Syntax.{Width}

-- ---- what the pivot and the number have in common
pub shared_above : (x a g : ℕ) → 0 < a → g ≡ gcd x a → 0 < g
shared_above x a g p e = subst (λ w. 0 < w) (sym e) (gcd_pos_right x a p)

pub shared_below : (x a g : ℕ) → 0 < a → g ≡ gcd x a → g ≤ a
shared_below x a g p e = subst (λ w. w ≤ a) (sym e) (le_of_dvd p (gcd_dvd_right x a))

-- one of them is 1, or nothing else is in common
pub shared_with_one : (x a : ℕ) → a ≡ 1 → gcd x a ≡ 1
shared_with_one x a e = ap (gcd x) e ∙ gcd-one x

pub undivided : (a g : ℕ) → g ≡ 1 → a ≡ a / g
undivided a g e = sym (ap (λ (k : ℕ). a / k) e ∙ div-one a)

pub undivided_signed : (x : ℤ) (g : ℕ) → g ≡ 1 → x ≡ int_div x (pos g)
undivided_signed x g e = sym (ap (λ (k : ℕ). int_div x (pos k)) e ∙ int_div-one x)

-- what is shared by the rest, where u is the size in code
pub shared_by_rest : (u x a g : ℕ) → u ≡ x → g ≡ gcd (u % a) a → g ≡ gcd x a
shared_by_rest u x a g e h = h ∙ gcd_of_rest u a ∙ ap (λ (k : ℕ). gcd k a) e

-- a is what is shared where it divides the size
pub shared_whole : (u x a : ℕ) → u ≡ x → u % a ≡ 0 → gcd x a ≡ a
shared_whole u x a e h = gcd_of_multiple x a (ap (λ (k : ℕ). k % a) (sym e) ∙ h)

pub divided_by_itself : (a g : ℕ) → 0 < a → g ≡ a → 1 ≡ a / g
divided_by_itself a g p e = sym (ap (λ (k : ℕ). a / k) e ∙ div_self p)

pub shared_is : (g : ℕ) → g ≤ widest → to_z w64 g ≡ pos g
shared_is g h = to_z_pos w64 g (omega (arith, h))

-- a quotient of code by what is shared
pub quotient_is : (w : Width) (x v : ℤ) (g d : ℕ) → FitsSigned w x → FitsSigned w v → v ≡ int_div (to_z w (of_z w x)) (pos g) → g ≡ d → to_z w (of_z w v) ≡ int_div x (pos d)
quotient_is w x v g d fx fv h e = to_z-of_z w v fv ∙ h ∙ (λ i. int_div (to_z-of_z w x fx i) (pos (e i)))

-- ---- quotients that are guessed: q times the divisor d is the size
pub exact_shared : (q d n : ℕ) → q * d ≡ n → d ≡ gcd n d
exact_shared q zero n h = omega (arith, h) ∙ sym (gcd-zero n)
exact_shared q (suc d) n h =
    let size : suc d * q ≡ n = omega (arith, products, h) in
    let one : suc d * 1 ≡ suc d = omega arith in
    sym ((λ i. gcd (sym size i) (sym one i)) ∙ gcd-mul (suc d) q 1 (omega arith) ∙ ap (λ (k : ℕ). suc d * k) (gcd-one q) ∙ one)

pub exact_below : (z : ℤ) (q d : ℕ) → 0 < d → int_lt z (pos 0) ≡ true → q * d ≡ unsigned_abs z → pos 0 -ℤ pos q ≡ int_div z (pos d)
exact_below (pos n) q d p h e = absurd (omega (arith, ints, h))
exact_below (negsuc n) q d p h e =
    let is : suc n / d ≡ q = ap (λ (k : ℕ). k / d) (sym e) ∙ mul-div_cancel q p in
    rw is (omega (arith, ints))

-- a number that is tested to be 0
pub zero_from_test : (z : ℤ) → FitsSigned w64 z → not (nat_eq (of_z w64 z) 0) ≡ false → z ≡ pos 0
zero_from_test z fits h = sym (to_z-of_z w64 z fits) ∙ ap (to_z w64) (eqb-true _ _ (not-false _ h)) ∙ to_z_pos w64 0 (omega arith)

-- ---- the size that no step is above, by the factors of a mix
pub steps_of_factors : (size a most limit : ℕ) (x p f : ℤ) → p ≡ pos (a / gcd (unsigned_abs x) a) → f ≡ int_div x (pos (gcd (unsigned_abs x) a)) → size * unsigned_abs p + unsigned_abs f * most ≤ limit → step_size size (unsigned_abs x) a most ≤ limit
steps_of_factors size a most limit x p f is_p is_f room =
    let g = gcd (unsigned_abs x) a in
    let size_f : unsigned_abs f ≡ unsigned_abs x / g = ap unsigned_abs is_f ∙ unsigned_abs-int_div x g in
    subst (λ (k : ℕ). size * (a / g) + k * most ≤ limit) size_f (subst (λ (z : ℤ). size * unsigned_abs z + unsigned_abs f * most ≤ limit) is_p room)

-- with 0 in the column there is none
pub steps_of_none : (size a most limit : ℕ) (x : ℤ) → x ≡ pos 0 → 0 < a → size ≤ limit → step_size size (unsigned_abs x) a most ≤ limit
steps_of_none size a most limit x none above low =
    let shared : gcd 0 a ≡ a = gcd_comm 0 a ∙ gcd-zero a in
    let one : a / a ≡ 1 = div_self above in
    let nothing : 0 / a ≡ 0 = (let less = div-le_self 0 a in omega (arith, less)) in
    let all : size * (a / a) + 0 / a * most ≤ limit = rw (one, nothing) (omega (arith, low)) in
    subst (λ (z : ℤ). step_size size (unsigned_abs z) a most ≤ limit) (sym none) (subst (λ (g : ℕ). size * (a / g) + 0 / g * most ≤ limit) (sym shared) all)

-- a smaller pivot row makes no greater steps
pub steps_less : (size x a low most : ℕ) → low ≤ most → step_size size x a low ≤ step_size size x a most
steps_less size x a low most h = let less : x / gcd x a * low ≤ x / gcd x a * most = mul-le-mul (omega arith) h in omega (arith, less)

-- a size that is above the row's makes one that is above its steps
pub steps_above : (low size made p f most : ℕ) → low ≤ size → made ≡ size * p + f * most → low * p + f * most ≤ made
steps_above low size made p f most h is = let less : low * p ≤ size * p = mul-le-mul h (omega arith) in omega (arith, less, is)

-- the new denominator is at most the size that is made
pub denominator_below : (d size p other made : ℕ) → d ≤ size → size * p + other ≤ made → d * p ≤ made
denominator_below d size p other made h is = let less : d * p ≤ size * p = mul-le-mul h (omega arith) in omega (arith, less, is)

-- ---- a row with 0 in the column stays
pub cleared_none : (d c a : ℕ) (zs pivot : List ℤ) → number_at zs c ≡ pos 0 → integer_row d zs ≡ row_eliminated c a pivot (integer_row d zs)
cleared_none d c a zs pivot none =
    let zero : nat_eq (unsigned_abs (number_at zs c)) 0 ≡ true = eq-eqb _ 0 (ap unsigned_abs none) in
    rw zero refl

-- any other is mixed by its factors
pub cleared_by_factors : (d c a : ℕ) (zs pivot : List ℤ) (p f : ℤ) → (number_at zs c ≡ pos 0 → ⊥) → p ≡ pos (a / gcd (unsigned_abs (number_at zs c)) a) → f ≡ int_div (number_at zs c) (pos (gcd (unsigned_abs (number_at zs c)) a))
    → cut_where_wide (integer_row (d * unsigned_abs p) (cross_difference (unsigned_abs p) f (set zs c (pos 0)) pivot)) ≡ row_eliminated c a pivot (integer_row d zs)
cleared_by_factors d c a zs pivot p f some is_p is_f =
    let other : nat_eq (unsigned_abs (number_at zs c)) 0 ≡ false = ne_eqb _ 0 (λ e. some (zero_of_size (number_at zs c) e)) in
    rw other (λ i. cut_where_wide (integer_row (d * unsigned_abs (is_p i)) (cross_difference (unsigned_abs (is_p i)) (is_f i) (set zs c (pos 0)) pivot)))

pub factor_above : (x a : ℕ) (p : ℤ) → 0 < a → p ≡ pos (a / gcd x a) → 0 < unsigned_abs p
factor_above x a p pa e = subst (λ w. 0 < unsigned_abs w) (sym e) (pos_of_quotient a (gcd x a) pa (gcd_pos_right x a pa) (gcd_dvd_right x a))

-- ---- the factors of a row whose number in the column is x
pub record AreFactors (x : ℤ) (a : ℕ) (p f : ℤ) : Type 0 where
  pub times : p ≡ pos (a / gcd (unsigned_abs x) a)
  pub less : f ≡ int_div x (pos (gcd (unsigned_abs x) a))

pub factors_in : (w : Width) (x : ℤ) (a : ℕ) (p f : ℤ) → FitsSigned w x → p ≡ pos (a / gcd (unsigned_abs (to_z w (of_z w x))) a) → f ≡ int_div (to_z w (of_z w x)) (pos (gcd (unsigned_abs (to_z w (of_z w x))) a)) → AreFactors x a p f
factors_in w x a p f fits is_p is_f =
    let same = to_z-of_z w x fits in
    record { times = is_p ∙ ap (λ (z : ℤ). pos (a / gcd (unsigned_abs z) a)) same; less = is_f ∙ ap (λ (z : ℤ). int_div z (pos (gcd (unsigned_abs z) a))) same }

-- the row as it is mixed by them
abbrev pub mixed_row : ℕ → ℕ → ℤ → ℤ → List ℤ → List ℤ → IntegerRow
mixed_row c d p f zs pivot = integer_row (d * unsigned_abs p) (cross_difference (unsigned_abs p) f (set zs c (pos 0)) pivot)

-- a size that is above the steps of a mix leaves room for them, and is above the row that is made
pub record IsMix (made c d : ℕ) (p f : ℤ) (zs pivot : List ℤ) : Type 0 where
  pub room : (held : ℕ) → made ≤ held → HasRoom held (unsigned_abs p) (unsigned_abs f) (set zs c (pos 0)) pivot
  pub below : d * unsigned_abs p ≤ made
  pub size : row_size (mixed_row c d p f zs pivot) ≤ made

pub mix_of : (made c most d : ℕ) (p f : ℤ) (zs pivot : List ℤ) → 0 < d → AreSizes most pivot → row_size (integer_row d zs) * unsigned_abs p + unsigned_abs f * most ≤ made → IsMix made c d p f zs pivot
mix_of made c most d p f zs pivot above sizes all =
    record { room = room; below = below; size = size_at_most made (d * unsigned_abs p) _ below (room_within made (unsigned_abs p) f (set zs c (pos 0)) pivot (room made (omega arith))) }
  where
    own : IsIntegerRow (row_size (integer_row d zs)) (length zs) (integer_row d zs)
    own = sizes_bound (length zs) (integer_row d zs) (record { positive = above; count = refl })

    numbers : AreSizes (row_size (integer_row d zs)) (set zs c (pos 0))
    numbers = set_sizes (row_size (integer_row d zs)) zs c (pos 0) own.sizes (omega arith)

    mixed : AreMixedSizes made (unsigned_abs p) (unsigned_abs f) most (set zs c (pos 0))
    mixed = mixed_of_sizes made (row_size (integer_row d zs)) most (unsigned_abs p) (unsigned_abs f) (set zs c (pos 0)) numbers all

    room : (held : ℕ) → made ≤ held → HasRoom held (unsigned_abs p) (unsigned_abs f) (set zs c (pos 0)) pivot
    room held low = mixed_room held made (unsigned_abs p) (unsigned_abs f) most (set zs c (pos 0)) pivot mixed sizes low

    below : d * unsigned_abs p ≤ made
    below = denominator_below d (row_size (integer_row d zs)) (unsigned_abs p) (unsigned_abs f * most) made own.below all

-- ---- the pivot's column is eliminated
pub eliminated_none : (limit c a most : ℕ) (pivot : List ℤ) (l : IntegerRow) → number_at l.numbers c ≡ pos 0 → 0 < a → row_size l ≤ limit → IsEliminated limit c a most pivot l l
eliminated_none limit c a most pivot l none above low =
    record { fits = steps_of_none (row_size l) a most limit (number_at l.numbers c) none above low; is = cleared_none l.denominator c a l.numbers pivot none }

pub eliminated_mixed : (limit made c a most d : ℕ) (p f : ℤ) (zs pivot : List ℤ) → (number_at zs c ≡ pos 0 → ⊥) → AreFactors (number_at zs c) a p f → row_size (integer_row d zs) * unsigned_abs p + unsigned_abs f * most ≤ made → made ≤ limit
    → IsEliminated limit c a most pivot (integer_row d zs) (cut_where_wide (mixed_row c d p f zs pivot))
eliminated_mixed limit made c a most d p f zs pivot some g all low =
    record {
      fits = steps_of_factors (row_size (integer_row d zs)) a most limit (number_at zs c) p f g.times g.less (omega (arith, all, low));
      is = cleared_by_factors d c a zs pivot p f some g.times g.less;
    }

-- what is left, of a row that is made so
pub left_of : (r : Eliminated) (k : PivotRow) (pivot : List ℤ) (l made : IntegerRow) (numbers : List ℤ) (size : ℕ) (room : List ℤ) → IsEliminatedBy k pivot l made → IsMade r made numbers size room → IsLeft r k pivot l numbers size room
left_of (Short d) k pivot l made numbers size room g h = (subst (IsEliminatedBy k pivot l) (sym h.0) g, subst (IsShort size) (sym h.0) h.1)
left_of (Wide d) k pivot l made numbers size room g h = subst (IsEliminatedBy k pivot l) (sym h) g
left_of Misfit k pivot l made numbers size room g h = tt

-- a row within the limit is so afterwards
pub left_row : (limit most w c a : ℕ) (pivot : List ℤ) (old new : IntegerRow) → AreSizes most pivot → length pivot ≡ w → 0 < a → IsIntegerRow limit w old → IsEliminated limit c a most pivot old new → IsIntegerRow limit w new
left_row limit most w c a pivot old new sizes count above line e =
    subst (IsIntegerRow limit w) (sym e.is) (eliminated_rows_fit (row_size old) most limit w c a pivot old e.fits (sizes_bound w old (record { positive = line.positive; count = line.count })) sizes count above)

pub left_within : (k : PivotRow) (w : ℕ) (pivot : List ℤ) (old new : IntegerRow) → IsPivotRow k w pivot → IsIntegerRow k.step.limit w old → IsEliminatedBy k pivot old new → IsIntegerRow k.step.limit w new
left_within k w pivot old new g line e = left_row k.step.limit k.most w k.step.c k.a pivot old new g.sizes g.count g.above line e

-- by a pivot row that is no greater
pub eliminated_by_less : (limit c a low most : ℕ) (pivot : List ℤ) (old new : IntegerRow) → low ≤ most → IsEliminated limit c a most pivot old new → IsEliminated limit c a low pivot old new
eliminated_by_less limit c a low most pivot old new less e =
    record { fits = (let steps = steps_less (row_size old) (unsigned_abs (number_at old.numbers c)) a low most less in let fits = e.fits in omega (arith, steps, fits)); is = e.is }

-- of a pivot row and of rows that are the same
pub eliminated_at : (k : PivotRow) (w : ℕ) (p q : List ℤ) (l m x y : IntegerRow) → p ≡ q → l ≡ m → x ≡ y → IsEliminatedBy k (row_in w p).numbers l x → IsEliminatedBy k (row_in w q).numbers m y
eliminated_at k w p q l m x y pivot old new e =
    subst (λ (z : List ℤ). IsEliminatedBy k (row_in w z).numbers m y) pivot (subst (λ (n : IntegerRow). IsEliminatedBy k (row_in w p).numbers n y) old (subst (λ (n : IntegerRow). IsEliminatedBy k (row_in w p).numbers l n) new e))
