-- What a value behind a test says of the test.
use Rattle.std.proofs.Common.{◌≡◌, Bool, true, false, refl, sym, ◌∙◌, ℕ, ◌≤◌, ℤ, unsigned_abs}
use Rattle.std.proofs.lemmas.Bool.{leb-true}
use Rattle.exact_num.specs.Fraction.{Fraction, over}
use Rattle.exact_num.specs.Fits.{size_fits}
use Rattle.frac.specs.Range.{within}
use Rattle.std.specs.Prelude.{Option, Some, None, if◌then◌else◌}

pub chosen_none : {A : Type 0} (b : Bool) (v : A) (r : Option A) → r ≡ (if b then Some v else None) → r ≡ None → b ≡ false
chosen_none true v r e n = cc
chosen_none false v r e n = refl

pub chosen_some : {A : Type 0} (b : Bool) (v w : A) (r : Option A) → r ≡ (if b then Some v else None) → r ≡ Some w → (b ≡ true) × (w ≡ v)
chosen_some true v w r e n = (refl, cc)
chosen_some false v w r e n = cc

-- ---- a whole number within the limit, or none
pub whole_stops : (limit : ℕ) (z : ℤ) (r : Option ℤ) (f : Option Fraction) → f ≡ (if size_fits limit z then Some (over z 1) else None) → r ≡ within limit z → r ≡ None → None ≡ f
whole_stops limit z r f e h n =
    let off : size_fits limit z ≡ false = chosen_none _ _ r h n in
    sym (e ∙ rw off refl)

pub whole_is : (limit : ℕ) (z w : ℤ) (r : Option ℤ) (f : Option Fraction) → f ≡ (if size_fits limit z then Some (over z 1) else None) → r ≡ within limit z → r ≡ Some w → (Some (over w 1) ≡ f) × (unsigned_abs w ≤ limit)
whole_is limit z w r f e h s =
    let c = chosen_some _ _ w r h s in
    let on : size_fits limit z ≡ true = c.0 in
    (sym (e ∙ rw (on, sym c.1) refl), rw c.1 (leb-true _ _ on))
