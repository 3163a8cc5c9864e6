-- What the dual of an optimum of the master program says of the measure and its bound.
use Rattle.std.proofs.Common.{◌≡◌, ℕ, zero, suc, ◌+◌, ◌*◌, ◌≤◌, ◌<◌, List, [], ◌∷◌, ◌++◌, length, map, replicate, zip, get_or, arith, ℤ, pos, negsuc, neg_ℤ, ◌+ℤ◌, ◌-ℤ◌, ◌*ℤ◌, ◌≤ℤ◌, All, refl, ap, sym, ◌∙◌, subst}
use Rattle.std.proofs.lemmas.Int.{ints}
use Rattle.std.proofs.lemmas.List.{length-map, map-append}
use Rattle.std.proofs.lemmas.List.Elements.{All-cons, All-head, All-tail}
use Rattle.std.proofs.Math.Nat.{mul-pos}
use Rattle.arithmetic.specs.Sums.{dot_ℤ, positive_part}
use Rattle.arithmetic.proofs.Integers.{*ℤ_mono, *ℤ_mono_left, *ℤ_cancel, *ℤ_cancel_le}
use Rattle.arithmetic.proofs.Products.{products}
use Rattle.arithmetic.proofs.Dots.{dot-append, dot-scale}
use Rattle.exact_num.specs.Fraction.{Fraction, IsDefined, IsLowest, whole, negated, plain_sum, plain_dot, IsNotBelowZero}
use Rattle.exact_num.specs.CommonDenominator.{common_denominator, amount_over, signed_amounts_over, IsPart, AreParts}
use Rattle.exact_num.proofs.Fractions.{divides, common_positive}
use Rattle.exact_num.proofs.Ratios.{dot_part, sum_part, neg_part, whole_part, same_part, one_part, sign_part, more_parts, append_parts}
use Rattle.exact_num.proofs.Tested.{lowest_are_defined}
use Rattle.simplex_run.specs.Places.{at, values_at}
use Rattle.simplex_run.specs.Program.{column}
use Rattle.form.specs.declared.orders.Side.{Side}
use Rattle.form.specs.declared.orders.Side.TheVariants.{Buy, Sell}
use Rattle.form.specs.declared.orders.Order.{Order}
use Rattle.form.specs.Payoff.{bundle_of}
use Rattle.clearing_model.specs.Clearing.{for_side}
use Rattle.clearing_model.specs.Measure.{mass_of, price_of, gain, gain_of, bound_of}
use Rattle.master_program.specs.Master.{pays, order_cost, order_entry, quantity_rows, state_row, rows_of, right_sides_of, costs_of, plain_master}
use Rattle.master_program.proofs.Matrix.{entry, flat, at_whole, column_is}
use Rattle.master_program.proofs.Sums.{dot-replicate, quantity_rows_count, rows_count, rows_long, unit_column, slack_column, entry_of_order, last_entry, order_column, last_column, mass_sum, column_sum}
use Rattle.master_program.specs.Certified.{IsSolved}
use Rattle.master_program.proofs.Primal.{all_first, all_later, amounts_are_parts}

abbrev pub times : ℕ → List ℤ → List ℤ
times k xs = map (λ (x : ℤ). x *ℤ pos k) xs

pub at_last : (fs : List Fraction) (w : Fraction) (k : ℕ) → length fs ≡ k → at (fs ++ (w ∷ [])) k ≡ w
at_last [] w zero h = refl
at_last [] w (suc k) h = absurd (omega (arith, h))
at_last (f ∷ fs) w zero h = absurd (omega (arith, h))
at_last (f ∷ fs) w (suc k) h = at_last fs w k (omega (arith, h))

-- parts of fractions that are not below 0
part_signs : (F : ℕ) (fs : List Fraction) (X : List ℤ) → AreParts F fs X → All IsNotBelowZero fs → (j : ℕ) → pos 0 ≤ℤ entry j X
part_signs F [] [] h s j = omega (arith, ints)
part_signs F [] (x ∷ X) h s j = absurd h
part_signs F (f ∷ fs) [] h s j = absurd h
part_signs F (f ∷ fs) (x ∷ X) h s zero = sign_part F f x h.0 (All-head IsNotBelowZero f fs s)
part_signs F (f ∷ fs) (x ∷ X) h s (suc j) = part_signs F fs X h.1 (All-tail IsNotBelowZero f fs s) j

-- ---- a column's sum over F
abbrev column_total : List ℕ → List Order → List (List ℕ) → ℕ → List ℤ → List ℤ → ℤ
column_total first orders states j Y Z = dot_ℤ (map (entry j) (quantity_rows (length orders))) Y +ℤ dot_ℤ (map (entry j) (map (state_row first orders) states)) Z

column_part : (first : List ℕ) (orders : List Order) (states : List (List ℕ)) (F j : ℕ) (y : List Fraction) (Y Z : List ℤ) → j < length orders + 1 → length Y ≡ length orders → AreParts F y (Y ++ Z)
    → IsPart F (plain_dot (column (plain_master first orders states) j) y) (column_total first orders states j Y Z)
column_part first orders states F j y Y Z h len parts =
    let k = length orders in
    let rows = rows_of first orders states in
    let heads : List ℤ = map (entry j) (quantity_rows k) in
    let tails : List ℤ = map (entry j) (map (state_row first orders) states) in
    let total : ℤ = dot_ℤ heads Y +ℤ dot_ℤ tails Z in
    let c : column (plain_master first orders states) j ≡ map whole (map (entry j) rows) =
    ap (λ m. values_at (λ i. at (flat rows) (i * (k + 1) + j)) 0 m) (sym (rows_count first orders states)) ∙ column_is (k + 1) j rows (rows_long first orders states) h in
    let split : dot_ℤ (map (entry j) rows) (Y ++ Z) ≡ total =
    ap (λ v. dot_ℤ v (Y ++ Z)) (map-append (entry j) (quantity_rows k) (map (state_row first orders) states))
    ∙ dot-append heads tails Y Z (length-map (quantity_rows k) (entry j) ∙ quantity_rows_count k ∙ sym len) in
    subst (λ v. IsPart F (plain_dot v y) total) (sym c)
    (subst (λ v. IsPart F (plain_dot (map whole (map (entry j) rows)) y) v) split (dot_part F (map (entry j) rows) y (Y ++ Z) parts))

-- ---- the gains
-- each dual value is at least that of its order, and not below 0
abbrev AreDuals : (Order → ℤ) → List Order → List ℤ → Type 0
AreDuals G [] Y = Unit {0}
AreDuals G (o ∷ os) [] = ⊥
AreDuals G (o ∷ os) (y ∷ Y) = (G o ≤ℤ y) × (pos 0 ≤ℤ y) × AreDuals G os Y

duals_of : (G : Order → ℤ) (orders : List Order) (Y : List ℤ) → length Y ≡ length orders → ((j : ℕ) (d : Order) → j < length orders → G (get_or orders j d) ≤ℤ entry j Y) → ((j : ℕ) → pos 0 ≤ℤ entry j Y) → AreDuals G orders Y
duals_of G [] Y len h s = tt
duals_of G (o ∷ os) [] len h s = absurd (omega (arith, len))
duals_of G (o ∷ os) (y ∷ Y) len h s = (h 0 o (omega arith), s 0, duals_of G os Y (omega (arith, len)) (λ j d p. h (suc j) d (omega (arith, p))) (λ j. s (suc j)))

part_times : (v y : ℤ) (k : ℕ) → pos 0 ≤ℤ y → (v *ℤ pos k) ≤ℤ y → (pos (positive_part v) *ℤ pos k) ≤ℤ y
part_times (pos n) y k s h = h
part_times (negsuc n) y k s h = omega (arith, ints, s)

buy_cross : (g P w M y : ℤ) (p W k : ℕ) → w +ℤ M ≡ pos W → (((pos p -ℤ g) *ℤ pos (W * k)) -ℤ ((P -ℤ (g *ℤ M)) *ℤ pos k)) ≤ℤ y → ((pos (p * W) -ℤ ((w *ℤ g) +ℤ P)) *ℤ pos k) ≤ℤ y
buy_cross g P w M y p W k e h = omega (arith, ints, products, h, ap (λ v. (g *ℤ v) *ℤ pos k) e)

sell_cross : (g P w M y : ℤ) (p W k : ℕ) → w +ℤ M ≡ pos W → ((neg_ℤ (pos p -ℤ g) *ℤ pos (W * k)) -ℤ (neg_ℤ (P -ℤ (g *ℤ M)) *ℤ pos k)) ≤ℤ y → ((((w *ℤ g) +ℤ P) -ℤ pos (p * W)) *ℤ pos k) ≤ℤ y
sell_cross g P w M y p W k e h = omega (arith, ints, products, h, ap (λ v. (g *ℤ v) *ℤ pos k) e)

gain_le : (side : Side) (g P w M y : ℤ) (p W k : ℕ) → w +ℤ M ≡ pos W → pos 0 ≤ℤ y
    → ((for_side side (pos p -ℤ g) *ℤ pos (W * k)) -ℤ (for_side side (P -ℤ (g *ℤ M)) *ℤ pos k)) ≤ℤ y
    → (pos (gain side (pos (p * W)) ((w *ℤ g) +ℤ P)) *ℤ pos k) ≤ℤ y
gain_le Buy g P w M y p W k e s h = part_times (pos (p * W) -ℤ ((w *ℤ g) +ℤ P)) y k s (buy_cross g P w M y p W k e h)
gain_le Sell g P w M y p W k e s h = part_times (((w *ℤ g) +ℤ P) -ℤ pos (p * W)) y k s (sell_cross g P w M y p W k e h)

-- what the dual value of an order is at least, over W times k
abbrev least_dual : List ℕ → List (List ℕ) → List ℤ → ℤ → ℕ → ℕ → Order → ℤ
least_dual first states ws M W k o = (order_cost first o *ℤ pos (W * k)) -ℤ (for_side o.side (price_of (bundle_of o) (zip states ws) -ℤ (pays o first *ℤ M)) *ℤ pos k)

abbrev quantities : List Order → List ℤ
quantities orders = map (λ (o : Order). pos o.quantity) orders

bound_step : (q g k rest : ℕ) (y owed : ℤ) → (pos g *ℤ pos k) ≤ℤ y → pos (k * rest) ≤ℤ owed → pos (k * (q * g + rest)) ≤ℤ ((pos q *ℤ y) +ℤ owed)
bound_step q g k rest y owed h l = omega (arith, ints, products, *ℤ_mono_left q (pos g *ℤ pos k) y h, l)

bound_le : (first : List ℕ) (states : List (List ℕ)) (ws : List ℤ) (w M : ℤ) (W k : ℕ) → w +ℤ M ≡ pos W → (orders : List Order) (Y : List ℤ) → AreDuals (least_dual first states ws M W k) orders Y
    → pos (k * bound_of orders ((first, w) ∷ zip states ws) W) ≤ℤ dot_ℤ (quantities orders) Y
bound_le first states ws w M W k e [] Y h = omega (arith, ints)
bound_le first states ws w M W k e (o ∷ os) [] h = absurd h
bound_le first states ws w M W k e (o ∷ os) (y ∷ Y) h =
    bound_step o.quantity (gain_of ((first, w) ∷ zip states ws) W o) k (bound_of os ((first, w) ∷ zip states ws) W) y (dot_ℤ (quantities os) Y)
    (gain_le o.side (pays o first) (price_of (bundle_of o) (zip states ws)) w M y o.price W k e h.1 h.0)
    (bound_le first states ws w M W k e os Y h.2)

-- ---- over the denominator of the weights
slack_cross : (w M v c : ℤ) (W k : ℕ) → 1 ≤ k → v ≡ (c +ℤ (neg_ℤ M *ℤ pos k)) +ℤ neg_ℤ (negsuc 0 *ℤ pos (W * k)) → c ≡ pos 0 → v ≡ w *ℤ pos k → w +ℤ M ≡ pos W
slack_cross w M v c W k one e z h =
    let m : (w +ℤ M) *ℤ pos k ≡ pos W *ℤ pos k = omega (arith, ints, products, e, z, h) in
    *ℤ_cancel k (w +ℤ M) (pos W) one m

dual_cross : (c Z y u v : ℤ) (F k : ℕ) → u ≡ y → v ≡ Z *ℤ pos k → pos 0 ≤ℤ ((u +ℤ v) +ℤ neg_ℤ (c *ℤ pos F)) → ((c *ℤ pos F) -ℤ (Z *ℤ pos k)) ≤ℤ y
dual_cross c Z y u v F k e f h = omega (arith, ints, e, f, h)

end_cross : (bound W k d : ℕ) (n owed : ℤ) → 1 ≤ k → pos (k * bound) ≤ℤ owed → n *ℤ pos (W * k) ≡ owed *ℤ pos d → pos (bound * d) ≤ℤ (n *ℤ pos W)
end_cross bound W k d n owed one h e =
    *ℤ_cancel_le k (pos (bound * d)) (n *ℤ pos W) one (omega (arith, ints, products, *ℤ_mono d (pos (k * bound)) owed h, e))

sign_cross : (bound F d : ℕ) (n owed : ℤ) → 1 ≤ F → pos bound ≤ℤ owed → n *ℤ pos F ≡ owed *ℤ pos d → pos 0 ≤ℤ n
sign_cross bound F d n owed one h e = *ℤ_cancel_le F (pos 0) n one (omega (arith, ints, products, *ℤ_mono d (pos bound) owed h, e))

pub record IsDual (first : List ℕ) (orders : List Order) (states : List (List ℕ)) (S : Fraction) (weights : List Fraction) (w : Fraction) : Type 0 where
  pub defined : All IsDefined (w ∷ weights)
  pub signs : All IsNotBelowZero (w ∷ weights)
  pub mass_is : (let W = common_denominator (w ∷ weights) in amount_over W w +ℤ mass_of (zip states (signed_amounts_over W weights)) ≡ pos W)
  pub bound_below : (let W = common_denominator (w ∷ weights) in pos (bound_of orders ((first, amount_over W w) ∷ zip states (signed_amounts_over W weights)) W * S.denominator) ≤ℤ (S.numerator *ℤ pos W))
  pub surplus_sign : pos 0 ≤ℤ S.numerator

pub dual : (first : List ℕ) (orders : List Order) (states : List (List ℕ)) (fills : List Fraction) (slack L S : Fraction) (duals weights reduced : List Fraction) (w : Fraction)
    → IsSolved first orders states fills slack L S duals weights reduced w
    → IsDual first orders states S weights w
dual first orders states fills slack L S duals weights reduced w h =
    let k : ℕ = length orders in
    let p = plain_master first orders states in
    let y : List Fraction = duals ++ weights in
    let r : List Fraction = reduced ++ (w ∷ []) in
    let dual_lows : All IsLowest duals = all_first IsLowest duals weights h.optimum.y_sign.lowest in
    let dual_signs : All IsNotBelowZero duals = all_first IsNotBelowZero duals weights h.optimum.y_sign.sign in
    let defined : All IsDefined (w ∷ weights) =
    lowest_are_defined (w ∷ weights) (All-cons IsLowest w weights (All-head IsLowest w [] (all_later IsLowest reduced (w ∷ []) h.optimum.reduced_sign.lowest)) (all_later IsLowest duals weights h.optimum.y_sign.lowest)) in
    let signs : All IsNotBelowZero (w ∷ weights) =
    All-cons IsNotBelowZero w weights (All-head IsNotBelowZero w [] (all_later IsNotBelowZero reduced (w ∷ []) h.optimum.reduced_sign.sign)) (all_later IsNotBelowZero duals weights h.optimum.y_sign.sign) in
    let W : ℕ = common_denominator (w ∷ weights) in
    let C : ℕ = common_denominator duals in
    let F : ℕ = W * C in
    let C1 : 1 ≤ C = common_positive duals (lowest_are_defined duals dual_lows) in
    let F1 : 1 ≤ F = mul-pos (common_positive (w ∷ weights) defined) C1 in
    let w' : ℤ = amount_over W w in
    let ws : List ℤ = signed_amounts_over W weights in
    let ys : List ℤ = signed_amounts_over C duals in
    let M : ℤ = mass_of (zip states ws) in
    let Y : List ℤ = times W ys in
    let Z : List ℤ = times C ws in
    let swap : C * W ≡ F = omega arith in
    let weight_parts : AreParts F (w ∷ weights) (times C (w' ∷ ws)) =
    subst (λ (v : ℕ). AreParts v (w ∷ weights) (times C (w' ∷ ws))) swap (more_parts W C (w ∷ weights) (w' ∷ ws) (amounts_are_parts W (w ∷ weights) defined (divides (w ∷ weights)))) in
    let dual_parts : AreParts F duals Y = more_parts C W duals ys (amounts_are_parts C duals (lowest_are_defined duals dual_lows) (divides duals)) in
    let parts : AreParts F y (Y ++ Z) = append_parts F duals weights Y Z dual_parts weight_parts.1 in
    let len : length Y ≡ k = length-map ys (λ (x : ℤ). x *ℤ pos W) ∙ length-map duals (amount_over C) ∙ h.duals_count in
    let cost_at : ℕ → ℤ = λ j. entry j (costs_of first orders) in
    let reduced_part : (j : ℕ) → j < k + 1 → IsPart F (at r j) (column_total first orders states j Y Z +ℤ neg_ℤ (cost_at j *ℤ pos F)) = λ j q.
    let c : Fraction = at (map whole (costs_of first orders)) j in
    let cost : IsPart F c (cost_at j *ℤ pos F) = subst (λ v. IsPart F v (cost_at j *ℤ pos F)) (sym (at_whole (costs_of first orders) j)) (whole_part F (cost_at j)) in
    same_part F (at r j) (plain_sum (plain_dot (column p j) y) (negated c)) _ (h.optimum.reduced_sign.lowest j).positive (h.optimum.reduced_is j q)
    (sum_part F (plain_dot (column p j) y) (negated c) _ _ (column_part first orders states F j y Y Z q len parts) (neg_part F c _ cost)) in
    let heads : ℤ = dot_ℤ (map (entry k) (quantity_rows k)) Y in
    let slack_sum : dot_ℤ (map (entry k) (map (state_row first orders) states)) Z ≡ neg_ℤ M *ℤ pos C =
    ap (λ v. dot_ℤ v Z) (last_column first orders states) ∙ dot-scale _ ws C ∙ ap (λ v. v *ℤ pos C) (mass_sum states ws) in
    let slack_value = one_part F w _ (w' *ℤ pos C) (subst (λ v. IsPart F v (column_total first orders states k Y Z +ℤ neg_ℤ (cost_at k *ℤ pos F))) (at_last reduced w k h.reduced_count) (reduced_part k (omega arith))) weight_parts.0 in
    let mass : w' +ℤ M ≡ pos W =
    slack_cross w' M (column_total first orders states k Y Z +ℤ neg_ℤ (cost_at k *ℤ pos F)) heads W C C1
    (ap (λ v. (heads +ℤ v) +ℤ neg_ℤ (cost_at k *ℤ pos F)) slack_sum ∙ ap (λ v. (heads +ℤ (neg_ℤ M *ℤ pos C)) +ℤ neg_ℤ (v *ℤ pos F)) (last_entry (order_cost first) (negsuc 0) orders))
    (slack_column k Y) slack_value in
    let each : (j : ℕ) (d : Order) → j < k → least_dual first states ws M W C (get_or orders j d) ≤ℤ entry j Y = λ j d q.
    let o = get_or orders j d in
    let owed : ℤ = for_side o.side (price_of (bundle_of o) (zip states ws) -ℤ (pays o first *ℤ M)) in
    let column_value : dot_ℤ (map (entry j) (map (state_row first orders) states)) Z ≡ owed *ℤ pos C =
    ap (λ v. dot_ℤ v Z) (order_column first orders j d states q) ∙ dot-scale (map (λ z. order_entry first z o) states) ws C ∙ ap (λ v. v *ℤ pos C) (column_sum first o states ws) in
    let above = sign_part F (at r j) _ (reduced_part j (omega (arith, q))) (h.optimum.reduced_sign.sign j) in
    dual_cross (order_cost first o) owed (entry j Y) (dot_ℤ (map (entry j) (quantity_rows k)) Y) (dot_ℤ (map (entry j) (map (state_row first orders) states)) Z) F C (unit_column k j Y q len) column_value
    (subst (λ v. pos 0 ≤ℤ (column_total first orders states j Y Z +ℤ neg_ℤ (v *ℤ pos F))) (entry_of_order (order_cost first) (negsuc 0) orders j d q) above) in
    let all_duals : AreDuals (least_dual first states ws M W C) orders Y = duals_of (least_dual first states ws M W C) orders Y len each (part_signs F duals Y dual_parts dual_signs) in
    let below = bound_le first states ws w' M W C mass orders Y all_duals in
    let owed : ℤ = dot_ℤ (quantities orders) Y in
    let right_sum : dot_ℤ (right_sides_of orders states) (Y ++ Z) ≡ owed =
    dot-append (quantities orders) (replicate (length states) (pos 0)) Y Z (length-map orders (λ (o : Order). pos o.quantity) ∙ sym len) ∙ ap (λ v. owed +ℤ v) (dot-replicate (length states) Z) ∙ plus_zero owed in
    let owes : S.numerator *ℤ pos F ≡ owed *ℤ pos S.denominator =
    (same_part F S (plain_dot (map whole (right_sides_of orders states)) y) _ h.optimum.value_lowest.positive (sym h.optimum.owes) (dot_part F (right_sides_of orders states) y (Y ++ Z) parts)).1 ∙ ap (λ v. v *ℤ pos S.denominator) right_sum in
    let bound : ℕ = bound_of orders ((first, w') ∷ zip states ws) W in
    record {
      defined = defined;
      signs = signs;
      mass_is = mass;
      bound_below = end_cross bound W C S.denominator S.numerator owed C1 below owes;
      surplus_sign = sign_cross (C * bound) F S.denominator S.numerator owed F1 below owes;
    }
  where
    plus_zero : (v : ℤ) → v +ℤ pos 0 ≡ v
    plus_zero v = omega (arith, ints)
