-- Where each step fits, the steps give the master program of whole numbers.
use Rattle.std.proofs.Common.{◌≡◌, ℕ, zero, suc, ◌+◌, List, [], ◌∷◌, ◌++◌, length, map, replicate, arith, Bool, true, false, ℤ, pos, negsuc, neg_ℤ, ◌-ℤ◌, ◌*ℤ◌, refl, ap, sym, ◌∙◌}
use Rattle.std.specs.Prelude.{Result, Ok, Err, if◌then◌else◌}
use Rattle.std.proofs.lemmas.Int.{ints}
use Rattle.std.proofs.lemmas.List.{map-append}
use Rattle.std.proofs.lemmas.Simd.{map-map}
use Rattle.std.proofs.lemmas.Grind.{flat_map-append}
use Rattle.arithmetic.specs.Sums.{positive_part}
use Rattle.exact_num.specs.declared.misfit.Wide.{Wide}
use Rattle.exact_num.specs.Fraction.{Fraction, whole, negated}
use Rattle.exact_num.specs.Fits.{sub_of, mul_of, whole_of, after, size_fits}
use Rattle.exact_num.proofs.WholeNumbers.{mul_whole_is, add_whole_is}
use Rattle.simplex_run.specs.Places.{fraction_zero}
use Rattle.simplex_run.specs.Program.{LinearProgram}
use Rattle.form.specs.declared.orders.Side.{Side}
use Rattle.form.specs.declared.orders.Side.TheVariants.{Buy, Sell}
use Rattle.form.specs.declared.orders.Order.{Order}
use Rattle.form.specs.Vector.{scale_of, dot, strike_entry, over_legs}
use Rattle.form.specs.Payoff.{bundle_of}
use Rattle.clearing_model.specs.Clearing.{for_side}
use Rattle.form.proofs.DotSteps.{zero_dot}
use Rattle.form.proofs.LegSteps.{bundle_payoffs_are_exact}
use Rattle.master_program.specs.Master.{zero_prices, pays, order_cost, order_entry, costs_of, quantity_rows, state_row, rows_of, right_sides_of, plain_master, map_steps, signed_for, payoff_at_zero, order_payoff, cost_steps, entry_steps, row_steps, rows_steps, quantity_steps, master}
use Rattle.master_program.specs.Laws.{StepsGiveMaster}
use Rattle.master_program.proofs.Matrix.{flat}
use Rattle.arithmetic.proofs.Integers.{plus_negative}

-- the only value that r can have is a
abbrev pub Gives : {A : Type 0} → Result A Wide → A → Type 0
Gives {A} r a = (s : A) → r ≡ Ok s → s ≡ a

pub gives_ok : {A : Type 0} (a b : A) → a ≡ b → Gives (Ok a) b
gives_ok a b e s h = cc

pub gives_after : {A B : Type 0} (r : Result A Wide) (f : A → Result B Wide) (a : A) (b : B) → Gives r a → Gives (f a) b → Gives (after r f) b
gives_after (Ok x) f a b h k s e = k s (sym (ap f (h x refl)) ∙ e)
gives_after (Err w) f a b h k s e = cc

-- ---- whole numbers
whole_if : (b : Bool) (v : ℤ) (w : Wide) (s : Fraction) → (if b then Ok (whole v) else Err w) ≡ Ok s → s ≡ whole v
whole_if true v w s h = cc
whole_if false v w s h = cc

pub whole_gives : (limit : ℕ) (v : ℤ) → Gives (whole_of limit v) (whole v)
unfolding whole_of
whole_gives limit v s h = whole_if (size_fits limit v) v _ s h

sub_gives : (limit : ℕ) (a b : ℤ) → Gives (sub_of limit (whole a) (whole b)) (whole (a -ℤ b))
sub_gives limit a b s h = add_whole_is limit a (neg_ℤ b) s h ∙ ap whole (plus_negative a b)

pub all_give : {A B : Type 0} (f : A → Result B Wide) (g : A → B) (xs : List A) → ((x : A) → Gives (f x) (g x)) → Gives (map_steps f xs) (map g xs)
unfolding map_steps
all_give f g [] h = gives_ok [] [] refl
all_give f g (x ∷ xs) h =
    let goal = g x ∷ map g xs in
    gives_after (f x) (λ y. after (map_steps f xs) (λ ys. Ok (y ∷ ys))) (g x) goal (h x)
    (gives_after (map_steps f xs) (λ ys. Ok (g x ∷ ys)) (map g xs) goal (all_give f g xs h) (gives_ok goal goal refl))

-- ---- payoffs
first_dot : (v : List ℤ) (n : ℕ) → strike_entry v ≡ dot v (zero_prices n)
first_dot [] n = refl
first_dot (a ∷ v) n = omega (arith, ints, zero_dot v n)

pub first_is : (o : Order) (n : ℕ) → payoff_at_zero o ≡ pays o (zero_prices n)
unfolding payoff_at_zero
first_is o n = λ j. over_legs (λ v. positive_part (first_dot v n j)) (bundle_of o)

pub payoff_gives : (limit : ℕ) (o : Order) (z : List ℕ) → Gives (order_payoff limit o z) (whole (pays o z))
unfolding order_payoff
payoff_gives limit o z s h = bundle_payoffs_are_exact limit (bundle_of o) z s h

pub side_is : (side : Side) (d e : ℤ) → d ≡ e → signed_for side (whole d) ≡ whole (for_side side e)
side_is Buy d e h = ap whole h
side_is Sell d e h = ap (λ x. whole (neg_ℤ x)) h

-- ---- costs, entries, rows
cost_gives : (limit n : ℕ) (o : Order) → Gives (cost_steps limit o) (whole (order_cost (zero_prices n) o))
unfolding cost_steps
cost_gives limit n o =
    let p : ℤ = pos o.price in
    let f : ℤ = payoff_at_zero o in
    let goal : Fraction = whole (order_cost (zero_prices n) o) in
    let costed : Fraction → Fraction → Result Fraction Wide = λ price first. after (sub_of limit price first) (λ cost. Ok (signed_for o.side cost)) in
    gives_after (whole_of limit p) (λ price. after (whole_of limit f) (costed price)) (whole p) goal (whole_gives limit p)
    (gives_after (whole_of limit f) (costed (whole p)) (whole f) goal (whole_gives limit f)
    (gives_after (sub_of limit (whole p) (whole f)) (λ cost. Ok (signed_for o.side cost)) (whole (p -ℤ f)) goal (sub_gives limit p f)
    (gives_ok (signed_for o.side (whole (p -ℤ f))) goal (side_is o.side (p -ℤ f) (p -ℤ pays o (zero_prices n)) (ap (λ x. p -ℤ x) (first_is o n))))))

entry_gives : (payoff_limit limit n : ℕ) (z : List ℕ) (o : Order) → Gives (entry_steps payoff_limit limit z o) (whole (order_entry (zero_prices n) z o))
unfolding entry_steps
entry_gives payoff_limit limit n z o =
    let h : ℤ = pays o z in
    let t : ℤ = pos (scale_of z) in
    let f : ℤ = payoff_at_zero o in
    let goal : Fraction = whole (order_entry (zero_prices n) z o) in
    let signed : Fraction → Result Fraction Wide = λ entry. Ok (signed_for o.side entry) in
    let less : Fraction → Fraction → Result Fraction Wide = λ payoff aside. after (whole_of limit payoff.numerator) (λ owed. after (sub_of limit owed aside) signed) in
    let times : Fraction → Fraction → Fraction → Result Fraction Wide = λ payoff t first. after (mul_of limit t first) (less payoff) in
    gives_after (order_payoff payoff_limit o z) (λ payoff. after (whole_of limit t) (λ t. after (whole_of limit f) (times payoff t))) (whole h) goal (payoff_gives payoff_limit o z)
    (gives_after (whole_of limit t) (λ t. after (whole_of limit f) (times (whole h) t)) (whole t) goal (whole_gives limit t)
    (gives_after (whole_of limit f) (times (whole h) (whole t)) (whole f) goal (whole_gives limit f)
    (gives_after (mul_of limit (whole t) (whole f)) (less (whole h)) (whole (t *ℤ f)) goal (mul_whole_is limit t f)
    (gives_after (whole_of limit h) (λ owed. after (sub_of limit owed (whole (t *ℤ f))) signed) (whole h) goal (whole_gives limit h)
    (gives_after (sub_of limit (whole h) (whole (t *ℤ f))) signed (whole (h -ℤ (t *ℤ f))) goal (sub_gives limit h (t *ℤ f))
    (gives_ok (signed_for o.side (whole (h -ℤ (t *ℤ f)))) goal (side_is o.side (h -ℤ (t *ℤ f)) (h -ℤ (t *ℤ pays o (zero_prices n))) (ap (λ x. h -ℤ (t *ℤ x)) (first_is o n)))))))))

-- numbers of orders and one at the end, as fractions
with_last : (f : Order → ℤ) (x : ℤ) (orders : List Order) → map (λ o. whole (f o)) orders ++ (whole x ∷ []) ≡ map whole (map f orders ++ (x ∷ []))
with_last f x orders = ap (λ v. v ++ (whole x ∷ [])) (sym (map-map whole f orders)) ∙ sym (map-append whole (map f orders) (x ∷ []))

row_gives : (payoff_limit limit n : ℕ) (orders : List Order) (z : List ℕ) → Gives (row_steps payoff_limit limit orders z) (map whole (state_row (zero_prices n) orders z))
unfolding row_steps
row_gives payoff_limit limit n orders z =
    let entries : List Fraction = map (λ o. whole (order_entry (zero_prices n) z o)) orders in
    let t : ℤ = pos (scale_of z) in
    let goal : List Fraction = map whole (state_row (zero_prices n) orders z) in
    gives_after (map_steps (entry_steps payoff_limit limit z) orders) (λ es. after (whole_of limit t) (λ t. Ok (es ++ (negated t ∷ [])))) entries goal
    (all_give (entry_steps payoff_limit limit z) (λ o. whole (order_entry (zero_prices n) z o)) orders (entry_gives payoff_limit limit n z))
    (gives_after (whole_of limit t) (λ t. Ok (entries ++ (negated t ∷ []))) (whole t) goal (whole_gives limit t)
    (gives_ok (entries ++ (whole (neg_ℤ t) ∷ [])) goal (with_last (order_entry (zero_prices n) z) (neg_ℤ t) orders)))

rows_give : (payoff_limit limit n : ℕ) (orders : List Order) (states : List (List ℕ)) → Gives (rows_steps payoff_limit limit orders states) (flat (map (state_row (zero_prices n) orders) states))
unfolding rows_steps
rows_give payoff_limit limit n orders [] = gives_ok [] [] refl
rows_give payoff_limit limit n orders (z ∷ states) =
    let row : List Fraction = map whole (state_row (zero_prices n) orders z) in
    let later : List Fraction = flat (map (state_row (zero_prices n) orders) states) in
    gives_after (row_steps payoff_limit limit orders z) (λ row. after (rows_steps payoff_limit limit orders states) (λ rows. Ok (row ++ rows))) row (row ++ later) (row_gives payoff_limit limit n orders z)
    (gives_after (rows_steps payoff_limit limit orders states) (λ rows. Ok (row ++ rows)) later (row ++ later) (rows_give payoff_limit limit n orders states) (gives_ok (row ++ later) (row ++ later) refl))

-- ---- the program
pub zeros_are : (n : ℕ) → replicate n fraction_zero ≡ map whole (replicate n (pos 0))
zeros_are zero = refl
zeros_are (suc n) = ap (λ v. fraction_zero ∷ v) (zeros_are n)

abbrev pub program_of : ℕ → ℕ → List Fraction → List Fraction → List Fraction → LinearProgram
program_of n m a b c = record { variables = n; rows = m; coefficients = a; right_sides = b; costs = c }

same_program : (n m : ℕ) (a a' b b' c c' : List Fraction) → a ≡ a' → b ≡ b' → c ≡ c' → program_of n m a b c ≡ program_of n m a' b' c'
same_program n m a a' b b' c c' e f g = ap (λ v. program_of n m v b c) e ∙ ap (λ v. program_of n m a' v c) f ∙ ap (λ v. program_of n m a' b' v) g

pub steps_give_master : StepsGiveMaster
unfolding master
steps_give_master payoff_limit limit n orders states p h =
    let first = zero_prices n in
    let k = length orders in
    let m = k + length states in
    let costs : List Fraction = map (λ o. whole (order_cost first o)) orders in
    let quantities : List Fraction = map (λ (o : Order). whole (pos o.quantity)) orders in
    let rows : List Fraction = flat (map (state_row first orders) states) in
    let heads : List Fraction = flat (quantity_rows k) in
    let zeros : List Fraction = replicate (length states) fraction_zero in
    let last : List Fraction = whole (negsuc 0) ∷ [] in
    let goal : LinearProgram = plain_master first orders states in
    let built : List Fraction → List Fraction → List Fraction → Result LinearProgram Wide = λ costs quantities rows. Ok (program_of (k + 1) m (heads ++ rows) (quantities ++ zeros) (costs ++ last)) in
    let same = same_program (k + 1) m (heads ++ rows) (flat (rows_of first orders states)) (quantities ++ zeros) (map whole (right_sides_of orders states)) (costs ++ last) (map whole (costs_of first orders))
    (sym (flat_map-append (map whole) (quantity_rows k) (map (state_row first orders) states)))
    (ap (λ v. v ++ zeros) (sym (map-map whole (λ (o : Order). pos o.quantity) orders)) ∙ ap (λ v. map whole (map (λ (o : Order). pos o.quantity) orders) ++ v) (zeros_are (length states)) ∙ sym (map-append whole (map (λ (o : Order). pos o.quantity) orders) (replicate (length states) (pos 0))))
    (with_last (order_cost first) (negsuc 0) orders) in
    gives_after (map_steps (cost_steps limit) orders) (λ costs. after (map_steps (quantity_steps limit) orders) (λ quantities. after (rows_steps payoff_limit limit orders states) (built costs quantities))) costs goal
    (all_give (cost_steps limit) (λ o. whole (order_cost first o)) orders (cost_gives limit n))
    (gives_after (map_steps (quantity_steps limit) orders) (λ quantities. after (rows_steps payoff_limit limit orders states) (built costs quantities)) quantities goal
    (all_give (quantity_steps limit) (λ (o : Order). whole (pos o.quantity)) orders (λ o. whole_gives limit (pos o.quantity)))
    (gives_after (rows_steps payoff_limit limit orders states) (built costs quantities) rows goal (rows_give payoff_limit limit n orders states)
    (gives_ok (program_of (k + 1) m (heads ++ rows) (quantities ++ zeros) (costs ++ last)) goal same))) p h
