-- The bundle of legs, for definitions that make orders.
use Rattle.std.proofs.Common.{◌≡◌, ◌-◌, ◌++◌, ◌≤◌, List, [], ◌∷◌, Bool, true, false, ◌&&◌, nat_le, not, length, take, drop, get_or, replicate, pos, unsigned_abs, refl, sym, ap, subst, length-append, arith}
use Rattle.std.specs.List.{All, list_all}
use Rattle.std.specs.Ordering.{int_eq}
use Rattle.std.proofs.lemmas.List.{drop_at, length-replicate, take_at}
use Rattle.std.proofs.lemmas.List.Elements.{All-cons, All-nil, All-replicate}
use Rattle.std.proofs.lemmas.List.Sums.{AllPass-from_list_all}
use Rattle.std.proofs.lemmas.Bool.{and_parts, leb-true}
use Rattle.std.proofs.lemmas.Bool.Decides.{Decides-int_eq}
use Rattle.form.specs.declared.forms.Form.{Form}
use Rattle.form.specs.declared.legs.Leg.{Leg}
use Rattle.form.specs.declared.bundles.Bundle.{Bundle}
use Rattle.form.specs.FormOf.{form_of}
use Rattle.form.specs.Bundles.{IsCounted, AreLegs, IsFiller}
use Rattle.form.specs.declared.limits.TheConstants.{MAX_COUNT, MAX_LEGS}

-- what stands past the last leg
abbrev pub no_leg : Leg
no_leg = record { count = pos 0; form = form_of (pos 0 ∷ pos 0 ∷ []) }

pub no_leg-fills : IsFiller no_leg
unfolding form_of
no_leg-fills = (refl, refl, refl)

-- the legs, filled up to four
abbrev pub four_legs : List Leg → List Leg
four_legs legs = legs ++ replicate (4 - length legs) no_leg

pub four_length : (legs : List Leg) → length legs ≤ 4 → length (four_legs legs) ≡ 4
four_length legs few =
    let rest = 4 - length legs in
    omega (arith, length-append legs (replicate rest no_leg), length-replicate {A = Leg} rest no_leg)

pub four_front : (legs : List Leg) → take (length legs) (four_legs legs) ≡ legs
four_front legs = take_at legs (replicate (4 - length legs) no_leg) (length legs) refl

pub four_rest : (legs : List Leg) → All IsFiller (drop (length legs) (four_legs legs))
four_rest legs =
    let rest = replicate (4 - length legs) no_leg in
    let is : drop (length legs) (four_legs legs) ≡ rest = drop_at legs rest (length legs) refl in
    subst (All IsFiller) (sym is) (All-replicate IsFiller (4 - length legs) no_leg no_leg-fills)

-- the bundle of one to four legs
abbrev pub bundle_with : (legs : List Leg) → AreLegs legs → Bundle
bundle_with legs are = record {
  size = length legs;
  legs = four_legs legs;
  size_in_range = (are.some, are.few);
  four_legs = four_length legs are.few;
  counted = subst (All IsCounted) (sym (four_front legs)) are.counted;
  filled_up = four_rest legs;
}

abbrev pub one_leg : Form → List Leg
one_leg form = record { count = pos 1; form = form } ∷ []

pub one_leg-are : (form : Form) → AreLegs (one_leg form)
one_leg-are form = record {
  some = omega arith;
  few = omega arith;
  counted = All-cons IsCounted (record { count = pos 1; form = form }) [] (λ e. let size = ap unsigned_abs e in omega (arith, size), omega arith) (All-nil IsCounted);
}

-- the bundle of one option that counts once
unfoldable pub bundle_one : Form → Bundle
bundle_one form = bundle_with (one_leg form) (one_leg-are form)

-- whether these are the legs of a bundle
abbrev pub is_counted : Leg → Bool
is_counted leg = not (int_eq leg.count (pos 0)) && nat_le (unsigned_abs leg.count) MAX_COUNT

abbrev pub are_legs : List Leg → Bool
are_legs legs = (nat_le 1 (length legs) && nat_le (length legs) MAX_LEGS) && list_all is_counted legs

counted_from : (leg : Leg) → is_counted leg ≡ true → IsCounted leg
counted_from leg h =
    let parts = and_parts (not (int_eq leg.count (pos 0))) (nat_le (unsigned_abs leg.count) MAX_COUNT) h in
    (λ e. let zero : int_eq leg.count (pos 0) ≡ true = (Decides-int_eq leg.count (pos 0)).1 e in cc, leb-true (unsigned_abs leg.count) MAX_COUNT parts.1)

pub legs_from : (legs : List Leg) → are_legs legs ≡ true → AreLegs legs
legs_from legs h =
    let size = nat_le 1 (length legs) && nat_le (length legs) MAX_LEGS in
    let parts = and_parts size (list_all is_counted legs) h in
    let sizes = and_parts (nat_le 1 (length legs)) (nat_le (length legs) MAX_LEGS) parts.0 in
    let counted = AllPass-from_list_all is_counted legs parts.1 in
    record {
      some = leb-true 1 (length legs) sizes.0;
      few = leb-true (length legs) MAX_LEGS sizes.1;
      counted = λ k d lt. counted_from (get_or legs k d) (counted k d lt);
    }

abbrev pub made_or_one : (legs : List Leg) (b : Bool) → are_legs legs ≡ b → Bundle
made_or_one legs true e = bundle_with legs (legs_from legs e)
made_or_one legs false e = bundle_one no_leg.form

-- the bundle of these legs, and one worthless option for legs of no bundle
unfoldable pub bundle_made : List Leg → Bundle
bundle_made legs = made_or_one legs (are_legs legs) refl
