-- A greater limit changes nothing where each step fits.
use Rattle.std.proofs.Common.{ℕ, ◌≤◌, List, [], ◌∷◌, ◌++◌, length, zip, take, pos}
use Rattle.std.specs.Prelude.{Result, Ok}
use Rattle.exact_num.specs.declared.misfit.Wide.{Wide}
use Rattle.exact_num.specs.Fraction.{Fraction, negated}
use Rattle.exact_num.specs.Fits.{after}
use Rattle.exact_num.proofs.GreaterLimits.{Agree, same, both, whole_agrees, add_agrees, mul_agrees}
use Rattle.simplex_run.specs.Places.{at, fraction_zero}
use Rattle.form.specs.declared.orders.Order.{Order}
use Rattle.form.specs.Vector.{scale_of}
use Rattle.exact_num.specs.Steps.{fold_steps, plus_product, less_product}
use Rattle.master_program.specs.Master.{map_steps, signed_for, payoff_at_zero, order_payoff, cost_steps, entry_steps, row_steps, rows_steps, quantity_steps, master}
use Rattle.master_program.specs.Reading.{add_owed, liability_of}
use Rattle.master_program.specs.Laws.{SameWithGreaterLimit}

pub all_more : {A B : Type 0} (f f' : A → Result B Wide) → ((x : A) → Agree (f x) (f' x)) → (xs : List A) → Agree (map_steps f xs) (map_steps f' xs)
unfolding map_steps
all_more f f' h [] = same (Ok [])
all_more f f' h (x ∷ xs) =
    both (f x) (f' x) (λ y. after (map_steps f xs) (λ ys. Ok (y ∷ ys))) (λ y. after (map_steps f' xs) (λ ys. Ok (y ∷ ys))) (h x)
    (λ y. both (map_steps f xs) (map_steps f' xs) (λ ys. Ok (y ∷ ys)) (λ ys. Ok (y ∷ ys)) (all_more f f' h xs) (λ ys. same (Ok (y ∷ ys))))

pub folds_agree : {A T : Type 0} (step step' : T → A → Result T Wide) → ((total : T) (x : A) → Agree (step total x) (step' total x)) → (total : T) (xs : List A) → Agree (fold_steps step total xs) (fold_steps step' total xs)
folds_agree step step' h total [] = same (Ok total)
folds_agree step step' h total (x ∷ xs) = both _ _ _ _ (h total x) (λ next. folds_agree step step' h next xs)

-- the total and a product, or less a product
pub plus_agrees : (l l' : ℕ) → l ≤ l' → (total a b : Fraction) → Agree (plus_product l total a b) (plus_product l' total a b)
plus_agrees l l' le total a b = both _ _ _ _ (mul_agrees l l' le a b) (λ p. add_agrees l l' le total p)

pub less_agrees : (l l' : ℕ) → l ≤ l' → (total a b : Fraction) → Agree (less_product l total a b) (less_product l' total a b)
less_agrees l l' le total a b = both _ _ _ _ (mul_agrees l l' le a b) (λ p. add_agrees l l' le total (negated p))

-- ---- the program
cost_agrees : (l l' : ℕ) → l ≤ l' → (o : Order) → Agree (cost_steps l o) (cost_steps l' o)
unfolding cost_steps
cost_agrees l l' le o =
    both _ _ _ _ (whole_agrees l l' le (pos o.price))
    (λ price. both _ _ _ _ (whole_agrees l l' le (payoff_at_zero o))
    (λ first. both _ _ _ _ (add_agrees l l' le price (negated first)) (λ cost. same (Ok (signed_for o.side cost)))))

entry_agrees : (payoff_limit l l' : ℕ) → l ≤ l' → (z : List ℕ) (o : Order) → Agree (entry_steps payoff_limit l z o) (entry_steps payoff_limit l' z o)
unfolding entry_steps
entry_agrees payoff_limit l l' le z o =
    both _ _ _ _ (same (order_payoff payoff_limit o z))
    (λ payoff. both _ _ _ _ (whole_agrees l l' le (pos (scale_of z)))
    (λ t. both _ _ _ _ (whole_agrees l l' le (payoff_at_zero o))
    (λ first. both _ _ _ _ (mul_agrees l l' le t first)
    (λ aside. both _ _ _ _ (whole_agrees l l' le payoff.numerator)
    (λ owed. both _ _ _ _ (add_agrees l l' le owed (negated aside)) (λ entry. same (Ok (signed_for o.side entry))))))))

row_agrees : (payoff_limit l l' : ℕ) → l ≤ l' → (orders : List Order) (z : List ℕ) → Agree (row_steps payoff_limit l orders z) (row_steps payoff_limit l' orders z)
unfolding row_steps
row_agrees payoff_limit l l' le orders z =
    both _ _ _ _ (all_more (entry_steps payoff_limit l z) (entry_steps payoff_limit l' z) (entry_agrees payoff_limit l l' le z) orders)
    (λ entries. both _ _ _ _ (whole_agrees l l' le (pos (scale_of z))) (λ t. same (Ok (entries ++ (negated t ∷ [])))))

rows_agree : (payoff_limit l l' : ℕ) → l ≤ l' → (orders : List Order) (states : List (List ℕ)) → Agree (rows_steps payoff_limit l orders states) (rows_steps payoff_limit l' orders states)
unfolding rows_steps
rows_agree payoff_limit l l' le orders [] = same (Ok [])
rows_agree payoff_limit l l' le orders (z ∷ states) =
    both _ _ _ _ (row_agrees payoff_limit l l' le orders z)
    (λ row. both _ _ _ _ (rows_agree payoff_limit l l' le orders states) (λ rows. same (Ok (row ++ rows))))

master_agrees : (payoff_limit l l' : ℕ) → l ≤ l' → (orders : List Order) (states : List (List ℕ)) → Agree (master payoff_limit l orders states) (master payoff_limit l' orders states)
unfolding master
master_agrees payoff_limit l l' le orders states =
    both _ _ _ _ (all_more (cost_steps l) (cost_steps l') (cost_agrees l l' le) orders)
    (λ costs. both _ _ _ _ (all_more (quantity_steps l) (quantity_steps l') (λ (o : Order). whole_agrees l l' le (pos o.quantity)) orders)
    (λ quantities. both _ _ _ _ (rows_agree payoff_limit l l' le orders states) (λ rows. same _)))

-- ---- the reading
owed_agrees : (l l' : ℕ) → l ≤ l' → (total : Fraction) (fill : Order × Fraction) → Agree (add_owed l total fill) (add_owed l' total fill)
unfolding add_owed
owed_agrees l l' le total fill =
    both _ _ _ _ (whole_agrees l l' le (payoff_at_zero fill.0))
    (λ first. plus_agrees l l' le total fill.1 (signed_for fill.0.side first))

liability_agrees : (l l' : ℕ) → l ≤ l' → (orders : List Order) (fills : List Fraction) (slack : Fraction) → Agree (liability_of l orders fills slack) (liability_of l' orders fills slack)
unfolding liability_of
liability_agrees l l' le orders fills slack = both _ _ _ _ (folds_agree (add_owed l) (add_owed l') (owed_agrees l l' le) fraction_zero (zip orders fills)) (λ owed. add_agrees l l' le owed slack)

pub same_with_greater_limit : SameWithGreaterLimit
same_with_greater_limit payoff_limit l l' first orders states le =
    record {
      program = master_agrees payoff_limit l l' le orders states;
      reading = λ x y reduced value. both _ _ _ _ (liability_agrees l l' le orders (take (length orders) x) (at x (length orders))) (λ liability. same _);
    }
