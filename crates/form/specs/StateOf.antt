-- The state of a vector, for definitions that make states.
use Rattle.std.proofs.Common.{◌≡◌, refl, ℕ, ◌-◌, ◌≤◌, ◌++◌, [], ◌∷◌, ◌&&◌, Bool, true, false, nat_le, nat_lt, int_le, Option, Some, None, List, length, map, take, replicate, get_or, ℤ, pos, ◌≤ℤ◌, ap, ◌∙◌, arith, length-append, inl, inr}
use Rattle.std.specs.Prelude.{if◌then◌else◌}
use Rattle.std.specs.List.{list_all, sum}
use Rattle.std.proofs.lemmas.Bool.{and_parts, cases_lt, leb-true, ltb-true}
use Rattle.std.proofs.lemmas.Int.{ints}
use Rattle.std.proofs.lemmas.List.{get_or-replicate, get_or_past, length-map, length-replicate, take-map, take_at}
use Rattle.std.proofs.Math.ListN.{get_or-map}
use Rattle.std.proofs.Math.Seq.{get_or-append_right}
use Rattle.form.specs.declared.states.State.{State}
use Rattle.form.specs.Vector.{positive_part}

-- whether a vector is the state of a market on 1 to 8 underlyings: 2 to 9 entries, not all 0
abbrev pub is_state : List ℕ → Bool
is_state z = (nat_le 2 (length z) && nat_le (length z) 9) && nat_lt 0 (sum z)

-- the entries, and zeros to the ninth
abbrev pub to_nine : List ℕ → List ℤ
to_nine z = map pos (z ++ replicate (9 - length z) 0)

pub nine_length : (z : List ℕ) → length z ≤ 9 → length (to_nine z) ≡ 9
nine_length z few =
    let zeros = replicate (9 - length z) 0 in
    length-map (z ++ zeros) pos ∙ omega (arith, length-append z zeros, length-replicate {A = ℕ} (9 - length z) 0)

zero_at : (k i : ℕ) → get_or {A = ℕ} (replicate k 0) i 0 ≡ 0
zero_at k i = elim (cases_lt i k) [
  | inl within ↦ get_or-replicate k i 0 0 within
  | inr past ↦ get_or_past (replicate k 0) i 0 (omega (arith, length-replicate {A = ℕ} k 0))
]

pub nine_zeros : (z : List ℕ) (i : ℕ) → length z ≤ i → get_or (to_nine z) i (pos 0) ≡ pos 0
nine_zeros z i past =
    let zeros = replicate (9 - length z) 0 in
    get_or-map pos (z ++ zeros) i 0 ∙ ap pos (get_or-append_right z zeros i 0 past ∙ zero_at (9 - length z) (i - length z))

pub nine_signs : (z : List ℕ) (i : ℕ) → pos 0 ≤ℤ get_or (to_nine z) i (pos 0)
nine_signs z i = omega (arith, ints, get_or-map pos (z ++ replicate (9 - length z) 0) i 0)

parts_of : (z : List ℕ) → map positive_part (map pos z) ≡ z
parts_of [] = refl
parts_of (x ∷ z) = ap (λ (l : List ℕ). x ∷ l) (parts_of z)

pub nine_vector : (z : List ℕ) → map positive_part (take (length z) (to_nine z)) ≡ z
nine_vector z =
    let zeros = replicate (9 - length z) 0 in
    ap (map positive_part) (take-map pos (length z) (z ++ zeros) ∙ ap (map pos) (take_at z zeros (length z) refl)) ∙ parts_of z

-- the state, where it is one
abbrev pub proper_state : (z : List ℕ) → is_state z ≡ true → State
proper_state z e =
    let parts = and_parts (nat_le 2 (length z) && nat_le (length z) 9) (nat_lt 0 (sum z)) e in
    let counts = and_parts (nat_le 2 (length z)) (nat_le (length z) 9) parts.0 in
    let few = leb-true (length z) 9 counts.1 in
    record {
      count = length z;
      entries = to_nine z;
      count_in_range = (leb-true 2 (length z) counts.0, few);
      nine_entries = nine_length z few;
      zero_past_count = nine_zeros z;
      not_below_zero = nine_signs z;
      not_all_zero = rw (nine_vector z) (ltb-true 0 (sum z) parts.1);
    }

abbrev pub state_or_first : (z : List ℕ) (b : Bool) → is_state z ≡ b → State
state_or_first z true e = proper_state z e
state_or_first z false e = proper_state (1 ∷ 0 ∷ []) refl

-- the state of a vector, and the price 0 for a vector that is none
unfoldable pub state_of : List ℕ → State
state_of z = state_or_first z (is_state z) refl

-- the state whose vector is v, where v is one: 2 to 9 entries, none below 0 and some above
abbrev pub state_from : List ℤ → Option State
state_from v = if list_all (int_le (pos 0)) v && is_state (map positive_part v) then Some (state_of (map positive_part v)) else None
