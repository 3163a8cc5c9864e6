-- Forms and states from their entries.
use Rattle.std.proofs.Common.{◌≡◌, ℕ, zero, suc, ◌≤◌, ℤ, pos, negsuc, int_le, true, false, not, ◌&&◌, nat_le, nat_lt, List, [], ◌∷◌, length, map, take, Some, refl, sym, ap, ◌∙◌, arith}
use Rattle.std.specs.List.{list_all, sum}
use Rattle.std.proofs.lemmas.Bool.{and_from, le-leb, lt-leb, lt-ltb}
use Rattle.std.proofs.lemmas.List.{length-map, take_all}
use Rattle.std.proofs.lemmas.List.Sums.{sum_by-cons}
use Rattle.arithmetic.specs.Sums.{positive_part}
use Rattle.form.specs.declared.forms.Form.{Form}
use Rattle.form.specs.declared.states.State.{State}
use Rattle.form.specs.FormOf.{form_from}
use Rattle.form.specs.Payoff.{option_of}
use Rattle.form.specs.StateOf.{state_from, state_of}
use Rattle.form.specs.States.{vector_of}
use Rattle.form.proofs.Entries.{IsWrittenTo}
use Rattle.form.proofs.SameForm.{form_is_form_of}
use Rattle.form.proofs.StateOf.{state-vector_of}

-- the entries that were written
pub front_written : (v entries : List ℤ) (i : ℕ) → IsWrittenTo v entries i → length v ≤ i → i ≤ length v → take (length v) entries ≡ v
front_written v entries i h all few =
    let e : i ≡ length v = omega arith in
    ap (λ n. take n entries) (sym e) ∙ h.front ∙ take_all i v all

pub form_made : (v : List ℤ) (form : Form) → 2 ≤ length v → length v ≤ 9 → option_of form ≡ v → Some form ≡ form_from v
form_made v form some few e = sym (rw (le-leb 2 (length v) some, le-leb (length v) 9 few) (ap Some (sym (form_is_form_of form v e))))

-- no entry is above 0 exactly where the sum of the positive parts is 0
pub none_above : (v : List ℤ) → nat_lt 0 (sum (map positive_part v)) ≡ not (list_all (λ z. int_le z (pos 0)) v)
none_above [] = refl
none_above (pos zero ∷ v) =
    let e : sum (0 ∷ map positive_part v) ≡ sum (map positive_part v) = omega (arith, sum_by-cons (λ (n : ℕ). n) 0 (map positive_part v)) in
    ap (nat_lt 0) e ∙ none_above v
none_above (pos (suc n) ∷ v) =
    let over : int_le (pos (suc n)) (pos 0) ≡ false = lt-leb (suc n) 0 (omega arith) in
    lt-ltb 0 _ (omega (arith, sum_by-cons (λ (n : ℕ). n) (suc n) (map positive_part v))) ∙ ap (λ b. not (b && list_all (λ z. int_le z (pos 0)) v)) (sym over)
none_above (negsuc n ∷ v) =
    let e : sum (0 ∷ map positive_part v) ≡ sum (map positive_part v) = omega (arith, sum_by-cons (λ (n : ℕ). n) 0 (map positive_part v)) in
    ap (nat_lt 0) e ∙ none_above v

pub state_made : (v : List ℤ) (state : State) → 2 ≤ length v → length v ≤ 9 → list_all (int_le (pos 0)) v ≡ true → nat_lt 0 (sum (map positive_part v)) ≡ true → take state.count state.entries ≡ v
    → Some state ≡ state_from v
state_made v state some few signs above e =
    let z = map positive_part v in
    let size : length z ≡ length v = length-map v positive_part in
    let sizes = and_from (nat_le 2 (length z)) _ (le-leb 2 (length z) (omega arith)) (le-leb (length z) 9 (omega arith)) in
    let vector : vector_of state ≡ z = ap (map positive_part) e in
    sym (rw (signs, and_from (nat_le 2 (length z) && nat_le (length z) 9) _ sizes above) (ap Some (ap state_of (sym vector) ∙ state-vector_of state)))
