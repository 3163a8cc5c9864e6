-- The state of a state's vector is the state.
use Rattle.std.proofs.Common.{◌≡◌, refl, ℕ, ◌-◌, ◌<◌, ◌≤◌, ◌++◌, Bool, true, false, nat_le, nat_lt, List, length, map, take, replicate, get_or, ℤ, pos, ◌≤ℤ◌, ap, sym, ◌∙◌, arith, inl, inr}
use Rattle.std.specs.List.{sum}
use Rattle.std.proofs.Math.Path.{to_path_p}
use Rattle.std.proofs.Props.{props}
use Rattle.std.proofs.lemmas.Bool.{cases_lt, le-leb, lt-ltb}
use Rattle.std.proofs.lemmas.List.{ext_get_or, get_or_append_left}
use Rattle.std.proofs.Math.ListN.{get_or-map}
use Rattle.form.specs.declared.states.State.{State}
use Rattle.form.specs.Vector.{positive_part}
use Rattle.form.specs.States.{vector_of}
use Rattle.form.specs.StateOf.{state_of, state_or_first, is_state, to_nine, nine_length, nine_zeros}
use Rattle.form.proofs.SameForm.{range_prop, nine_prop, past_prop}
use Rattle.form.proofs.DotSteps.{length-vector_of, get_or-vector_of}

sign_prop : (entries : List ℤ) → IsProp ((k : ℕ) → pos 0 ≤ℤ get_or entries k (pos 0))
sign_prop entries = hlevel props

some_prop : (n : ℕ) (entries : List ℤ) → IsProp (0 < sum (map positive_part (take n entries)))
some_prop n entries = hlevel props

-- states of equal counts and entries are equal
pub same_state : (a b : State) → a.count ≡ b.count → a.entries ≡ b.entries → a ≡ b
same_state a b counts entries = λ i. record {
  count = counts i;
  entries = entries i;
  count_in_range = to_path_p (λ i. (2 ≤ counts i) × (counts i ≤ 9)) {a = a.count_in_range} {b = b.count_in_range} (range_prop b.count _ _) i;
  nine_entries = to_path_p (λ i. length (entries i) ≡ 9) {a = a.nine_entries} {b = b.nine_entries} (nine_prop b.entries _ _) i;
  zero_past_count = to_path_p (λ i. (k : ℕ) → counts i ≤ k → get_or (entries i) k (pos 0) ≡ pos 0) {a = a.zero_past_count} {b = b.zero_past_count} (past_prop b.count b.entries _ _) i;
  not_below_zero = to_path_p (λ i. (k : ℕ) → pos 0 ≤ℤ get_or (entries i) k (pos 0)) {a = a.not_below_zero} {b = b.not_below_zero} (sign_prop b.entries _ _) i;
  not_all_zero = to_path_p (λ i. 0 < sum (map positive_part (take (counts i) (entries i)))) {a = a.not_all_zero} {b = b.not_all_zero} (some_prop b.count b.entries _ _) i;
}

entries_are : (s : State) → to_nine (vector_of s) ≡ s.entries
entries_are s =
    let z = vector_of s in
    let few : length z ≤ 9 = omega (arith, length-vector_of s, s.count_in_range.1) in
    ext_get_or (pos 0) (to_nine z) s.entries (nine_length z few ∙ sym s.nine_entries)
    (λ i lt. elim (cases_lt i s.count) [
      | inl within ↦
          get_or-map pos (z ++ replicate (9 - length z) 0) i 0
          ∙ ap pos (get_or_append_left z (replicate (9 - length z) 0) 0 i (omega (arith, length-vector_of s)))
          ∙ get_or-vector_of s i within
      | inr past ↦ nine_zeros z i (omega (arith, length-vector_of s)) ∙ sym (s.zero_past_count i past)
    ])

made_is : (s : State) (b : Bool) (e : is_state (vector_of s) ≡ b) → b ≡ true → state_or_first (vector_of s) b e ≡ s
made_is s true e t = same_state _ s (length-vector_of s) (entries_are s)
made_is s false e t = cc

pub state-vector_of : (s : State) → state_of (vector_of s) ≡ s
unfolding state_of
state-vector_of s =
    let z = vector_of s in
    let len = length-vector_of s in
    let some : nat_le 2 (length z) ≡ true = le-leb 2 (length z) (omega (arith, len, s.count_in_range.0)) in
    let few : nat_le (length z) 9 ≡ true = le-leb (length z) 9 (omega (arith, len, s.count_in_range.1)) in
    let above : nat_lt 0 (sum z) ≡ true = lt-ltb 0 (sum z) s.not_all_zero in
    made_is s _ refl (rw (some, few, above) refl)
