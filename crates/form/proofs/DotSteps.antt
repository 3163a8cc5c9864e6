-- One step of a payoff.
use Rattle.std.proofs.Common.{◌≡◌, ℕ, zero, suc, replicate, refl, negsuc, ◌+◌, ◌<◌, ◌≤◌, List, [], ◌∷◌, length, get_or, take, drop, zip, arith, ℤ, pos, ◌+ℤ◌, ◌*ℤ◌, Ok, ap, sym, ◌∙◌}
use Rattle.std.proofs.lemmas.List.{get_or-take, get_or-map, length-map, length-take-le}
use Rattle.arithmetic.proofs.Parts.{part_above}
use Rattle.exact_num.specs.Fraction.{Fraction, whole}
use Rattle.std.proofs.lemmas.Int.{ints, int_max_is}
use Rattle.std.specs.Int.{int_max}
use Rattle.exact_num.specs.Fits.{add_of, mul_of}
use Rattle.form.specs.declared.forms.Form.{Form}
use Rattle.form.specs.declared.states.State.{State}
use Rattle.form.specs.Vector.{dot, positive_part}
use Rattle.form.specs.Payoff.{option_of}
use Rattle.form.specs.States.{vector_of}
use Rattle.form.specs.Steps.{add_entry, or_zero, payoff_of, PayoffsAreExact}
use Rattle.exact_num.specs.Steps.{fold_steps, plus_product}
use Rattle.exact_num.proofs.WholeNumbers.{mul_whole_is, add_whole_is}
use Rattle.exact_num.proofs.After.{after_value}
use Rattle.arithmetic.proofs.Lists.{pair_at, pairs_end}
use Rattle.form.proofs.Vectors.{length-option_of}

pub zero_dot : (v : List ℤ) (n : ℕ) → dot v (replicate n 0) ≡ pos 0
zero_dot [] n = refl
zero_dot (a ∷ v) zero = refl
zero_dot (a ∷ v) (suc n) = omega (arith, ints, zero_dot v n)

pub length-vector_of : (state : State) → length (vector_of state) ≡ state.count
length-vector_of state =
    length-map (take state.count state.entries) positive_part ∙ length-take-le state.count state.entries (omega (arith, state.nine_entries, state.count_in_range.1))

pub get_or-option_of : (form : Form) (i : ℕ) → i < form.count → get_or (option_of form) i (pos 0) ≡ get_or form.entries i (pos 0)
get_or-option_of form i lt = get_or-take form.count form.entries i (pos 0) lt

pub get_or-vector_of : (state : State) (i : ℕ) → i < state.count → pos (get_or (vector_of state) i 0) ≡ get_or state.entries i (pos 0)
get_or-vector_of state i lt =
    let taken = take state.count state.entries in
    let len : length taken ≡ state.count = length-take-le state.count state.entries (omega (arith, state.nine_entries, state.count_in_range.1)) in
    ap pos (get_or-map positive_part taken i (pos 0) 0 (omega arith) ∙ ap positive_part (get_or-take state.count state.entries i (pos 0) lt))
    ∙ part_above (get_or state.entries i (pos 0)) (state.not_below_zero i)

-- the entries at i come first, and then those after them
pub entries_first : (form : Form) (state : State) (i : ℕ) → form.count ≡ state.count → i < form.count
    → drop i (zip (option_of form) (vector_of state)) ≡ (get_or (option_of form) i (pos 0), get_or (vector_of state) i 0) ∷ drop (i + 1) (zip (option_of form) (vector_of state))
entries_first form state i counts lt =
    pair_at (option_of form) (vector_of state) i (pos 0) 0 (omega (arith, length-option_of form, length-vector_of state)) (omega (arith, length-option_of form))

-- their step is that of the entries as they are written
pub entry_step : (limit : ℕ) (form : Form) (state : State) (i : ℕ) (t a x : ℤ) → form.count ≡ state.count → i < form.count → a ≡ get_or form.entries i (pos 0) → x ≡ get_or state.entries i (pos 0)
    → plus_product limit (whole t) (whole a) (whole x) ≡ add_entry limit (whole t) (get_or (option_of form) i (pos 0), get_or (vector_of state) i 0)
entry_step limit form state i t a x counts lt is_a is_x =
    let e : a ≡ get_or (option_of form) i (pos 0) = is_a ∙ sym (get_or-option_of form i lt) in
    let k : x ≡ pos (get_or (vector_of state) i 0) = is_x ∙ sym (get_or-vector_of state i (omega arith)) in
    λ j. plus_product limit (whole t) (whole (e j)) (whole (k j))

pub no_entry_left : (form : Form) (state : State) (i : ℕ) → form.count ≤ i → drop i (zip (option_of form) (vector_of state)) ≡ []
no_entry_left form state i le = pairs_end (option_of form) (vector_of state) i (omega (arith, length-option_of form))

pub or_zero_is : (t : ℤ) → or_zero (whole t) ≡ whole (int_max t (pos 0))
or_zero_is t = ap whole (positive_is t)
  where
    positive_is : (t : ℤ) → pos (positive_part t) ≡ int_max t (pos 0)
    positive_is (pos n) = omega (arith, ints, int_max_is (pos n) (pos 0))
    positive_is (negsuc n) = omega (arith, ints, int_max_is (negsuc n) (pos 0))

pub plus_whole_is : (limit : ℕ) (t a b : ℤ) (s : Fraction) → plus_product limit (whole t) (whole a) (whole b) ≡ Ok s → s ≡ whole (t +ℤ (a *ℤ b))
plus_whole_is limit t a b s h =
    let f = after_value (mul_of limit (whole a) (whole b)) (λ p. add_of limit (whole t) p) s h in
    let p : f.value ≡ whole (a *ℤ b) = mul_whole_is limit a b f.value f.first in
    add_whole_is limit t (a *ℤ b) s (rw (← p) f.rest)

-- where each step fits, the sum is the scalar product
dot_is : (limit : ℕ) (t : ℤ) (v : List ℤ) (z : List ℕ) (s : Fraction) → fold_steps (add_entry limit) (whole t) (zip v z) ≡ Ok s → s ≡ whole (t +ℤ dot v z)
dot_is limit t [] z s h =
    let e : whole t ≡ s = cc in
    sym e ∙ ap whole (omega (arith, ints))
dot_is limit t (a ∷ v) [] s h =
    let e : whole t ≡ s = cc in
    sym e ∙ ap whole (omega (arith, ints))
dot_is limit t (a ∷ v) (x ∷ z) s h =
    let f = after_value (plus_product limit (whole t) (whole a) (whole (pos x))) (λ sum. fold_steps (add_entry limit) sum (zip v z)) s h in
    let here : f.value ≡ whole (t +ℤ (a *ℤ pos x)) = plus_whole_is limit t a (pos x) f.value f.first in
    dot_is limit (t +ℤ (a *ℤ pos x)) v z s (rw (← here) f.rest) ∙ ap whole (omega (arith, ints))

pub payoffs_are_exact : PayoffsAreExact
unfolding payoff_of
payoffs_are_exact limit v z h is =
    let f = after_value (fold_steps (add_entry limit) (whole (pos 0)) (zip v z)) (λ sum. Ok (or_zero sum)) h is in
    let sum : f.value ≡ whole (pos 0 +ℤ dot v z) = dot_is limit (pos 0) v z f.value f.first in
    let e : or_zero f.value ≡ h = cc in
    let zero : pos 0 +ℤ dot v z ≡ dot v z = omega (arith, ints) in
    sym e ∙ ap or_zero sum ∙ ap (λ (d : ℤ). whole (pos (positive_part d))) zero
