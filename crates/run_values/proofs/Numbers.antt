-- Steps over numbers of the code: each gives a number of the code, or does not fit over two such
-- numbers.
use Rattle.std.proofs.Common.{◌≡◌, ◌≢◌, ℕ, ◌≤◌, List, [], ◌∷◌, Bool, true, false, ℤ, pos, unsigned_abs, refl, arith}
use Rattle.std.specs.Prelude.{Result, Ok, Err, if◌then◌else◌}
use Rattle.std.specs.List.{All}
use Rattle.std.proofs.lemmas.Bool.{le-leb}
use Rattle.std.proofs.lemmas.List.Elements.{All-nil, All-cons, All-head, All-tail}
use Rattle.exact_num.specs.declared.misfit.Operator.{Operator}
use Rattle.exact_num.specs.declared.misfit.Operator.TheVariants as operator
use Rattle.exact_num.specs.declared.misfit.Wide.{Wide}
use Rattle.exact_num.specs.Fraction.{Fraction, negated, whole}
use Rattle.exact_num.specs.Fits.{add_of, after, div_of, inverse, misfit, mul_of, product_fits, product_value, sub_of, sum_fits, sum_value, whole_of}
use Rattle.exact_num.specs.Steps.{all_of, and_then, fold_steps, less_product, plus_product}
use Rattle.exact_num.proofs.Exactness.{product_within, sum_within}
use Rattle.exact_num.proofs.ProductValues.{inverse_is_lowest, product_is_lowest}
use Rattle.exact_num.proofs.Values.{negated_is_lowest, sum_is_lowest, whole_is_lowest}
use Rattle.exact_num.proofs.WithinLimits.{negated_within, whole_within}
use Rattle.frac.specs.Range.{limit as largest}
use Rattle.form.specs.declared.orders.Side.{Side}
use Rattle.form.specs.declared.orders.Side.TheVariants.{Buy, Sell}
use Rattle.form.specs.Steps.{add_for_side}
use Rattle.master_program.specs.Master.{map_steps, signed_for}
use Rattle.simplex_run.specs.Ending.{Ending, on_answer, on_steps}
use Rattle.simplex_run.proofs.Endings.{on_answer-by}
use Rattle.run_values.specs.Values.{IsValue, AreOperands, Ends}

-- a fact of what steps give; and where one does not fit, its operands are numbers of the code
abbrev pub Has : {A : Type 0} → (A → Type 0) → Result A Wide → Type 0
Has P (Ok a) = P a
Has P (Err w) = AreOperands w

-- nothing is said of an answer
abbrev pub Nothing : {A : Type 0} → A → Type 0
Nothing a = Unit {0}

-- ---- one after another
pub after_has : {A B : Type 0} (P : A → Type 0) (Q : B → Type 0) (r : Result A Wide) (next : A → Result B Wide) → Has P r → ((a : A) → P a → Has Q (next a)) → Has Q (after r next)
after_has P Q (Ok a) next h f = f a h
after_has P Q (Err w) next h f = h

pub answer_ends : {A B : Type 0} (P : A → Type 0) (Q : B → Type 0) (e : Ending A) (next : A → ℕ → Ending B) → Ends P e → ((a : A) (spent : ℕ) → P a → Ends Q (next a spent)) → Ends Q (on_answer e next)
answer_ends P Q e next h f = on_answer-by (λ a spent. P a) (λ b spent. Q b) (Unit {0}) (λ w spent. AreOperands w) e next h f

pub steps_end : {A B : Type 0} (P : A → Type 0) (Q : B → Type 0) (spent : ℕ) (r : Result A Wide) (next : A → Ending B) → Has P r → ((a : A) → P a → Ends Q (next a)) → Ends Q (on_steps spent r next)
steps_end P Q spent (Ok a) next h f = f a h
steps_end P Q spent (Err w) next h f = h

pub fold_has : {A T : Type 0} (Q : T → Type 0) (P : A → Type 0) (step : T → A → Result T Wide) → ((t : T) (a : A) → Q t → P a → Has Q (step t a))
    → (total : T) (xs : List A) → Q total → All P xs → Has Q (fold_steps step total xs)
fold_has Q P step each total [] is all = is
fold_has Q P step each total (x ∷ xs) is all =
    after_has Q Q (step total x) (λ next. fold_steps step next xs) (each total x is (All-head P x xs all)) (λ next h. fold_has Q P step each next xs h (All-tail P x xs all))

pub map_has : {A B : Type 0} (P : A → Type 0) (Q : B → Type 0) (f : A → Result B Wide) → ((a : A) → P a → Has Q (f a)) → (xs : List A) → All P xs → Has (All Q) (map_steps f xs)
unfolding map_steps
map_has P Q f each [] all = All-nil Q
map_has P Q f each (x ∷ xs) all =
    after_has Q (All Q) (f x) _ (each x (All-head P x xs all))
    (λ y h. after_has (All Q) (All Q) (map_steps f xs) (λ ys. Ok (y ∷ ys)) (map_has P Q f each xs (All-tail P x xs all)) (λ ys hs. All-cons Q y ys h hs))

pub then_has : (first second : Result Bool Wide) → Has Nothing first → Has Nothing second → Has Nothing (and_then first second)
then_has (Ok true) second h k = k
then_has (Ok false) second h k = tt
then_has (Err w) second h k = h

pub all_has : {A : Type 0} (P : A → Type 0) (test : A → Result Bool Wide) → ((a : A) → P a → Has Nothing (test a)) → (xs : List A) → All P xs → Has Nothing (all_of test xs)
all_has P test each [] all = tt
all_has P test each (x ∷ xs) all = then_has (test x) (all_of test xs) (each x (All-head P x xs all)) (all_has P test each xs (All-tail P x xs all))

-- ---- single steps
pub whole_value : (v : ℤ) → unsigned_abs v ≤ largest → IsValue (whole v)
whole_value v low = record { lowest = whole_is_lowest v; small = whole_within largest v (omega arith) low }

pub zero_value : IsValue (whole (pos 0))
zero_value = whole_value (pos 0) (omega arith)

pub negated_value : (x : Fraction) → IsValue x → IsValue (negated x)
negated_value x is = record { lowest = negated_is_lowest x is.lowest; small = negated_within largest x is.small }

pub signed_value : (side : Side) (x : Fraction) → IsValue x → IsValue (signed_for side x)
signed_value Buy x is = is
signed_value Sell x is = negated_value x is

pub misfit_has : (operator : Operator) (x y : Fraction) → IsValue x → IsValue y → AreOperands (misfit operator x y)
misfit_has operator x y is are = record { left = x; right = y; left_is = refl; right_is = refl; left_value = is; right_value = are }

pub add_has : (x y : Fraction) → IsValue x → IsValue y → Has IsValue (add_of largest x y)
unfolding add_of
add_has x y is are = by (sum_fits largest x y) refl
  where
    by : (b : Bool) → sum_fits largest x y ≡ b → Has IsValue (if b then Ok (sum_value x y) else Err (misfit operator.Add x y))
    by true passed = record { lowest = sum_is_lowest x y is.lowest are.lowest; small = sum_within largest x y passed }
    by false failed = misfit_has operator.Add x y is are

pub sub_has : (x y : Fraction) → IsValue x → IsValue y → Has IsValue (sub_of largest x y)
sub_has x y is are = add_has x (negated y) is (negated_value y are)

pub mul_has : (x y : Fraction) → IsValue x → IsValue y → Has IsValue (mul_of largest x y)
unfolding mul_of
mul_has x y is are = by (product_fits largest x y) refl
  where
    by : (b : Bool) → product_fits largest x y ≡ b → Has IsValue (if b then Ok (product_value x y) else Err (misfit operator.Mul x y))
    by true passed = record { lowest = product_is_lowest x y is.lowest are.lowest; small = product_within largest x y passed }
    by false failed = misfit_has operator.Mul x y is are

pub div_has : (x y : Fraction) → IsValue x → IsValue y → y.numerator ≢ pos 0 → Has IsValue (div_of largest x y)
unfolding div_of
div_has x y is are some = by (product_fits largest x (inverse y)) refl
  where
    by : (b : Bool) → product_fits largest x (inverse y) ≡ b → Has IsValue (if b then Ok (product_value x (inverse y)) else Err (misfit operator.Div x y))
    by true passed = record { lowest = product_is_lowest x (inverse y) is.lowest (inverse_is_lowest y are.lowest some); small = product_within largest x (inverse y) passed }
    by false failed = misfit_has operator.Div x y is are

-- a whole number within the limit always fits
pub whole_has : (v : ℤ) → unsigned_abs v ≤ largest → Has IsValue (whole_of largest v)
unfolding whole_of
whole_has v low = rw (le-leb (unsigned_abs v) largest low) (whole_value v low)

pub plus_product_has : (total a b : Fraction) → IsValue total → IsValue a → IsValue b → Has IsValue (plus_product largest total a b)
plus_product_has total a b t x y = after_has IsValue IsValue (mul_of largest a b) (λ p. add_of largest total p) (mul_has a b x y) (λ p h. add_has total p t h)

pub less_product_has : (total a b : Fraction) → IsValue total → IsValue a → IsValue b → Has IsValue (less_product largest total a b)
less_product_has total a b t x y = after_has IsValue IsValue (mul_of largest a b) (λ p. sub_of largest total p) (mul_has a b x y) (λ p h. sub_has total p t h)

pub for_side_has : (total : Fraction) (side : Side) (a b : Fraction) → IsValue total → IsValue a → IsValue b → Has IsValue (add_for_side largest total side a b)
for_side_has total Buy a b t x y = plus_product_has total a b t x y
for_side_has total Sell a b t x y = less_product_has total a b t x y
