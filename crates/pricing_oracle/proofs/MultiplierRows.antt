-- The multipliers of a leaf, one leg after another.
use Rattle.std.proofs.Common.{◌≡◌, ℕ, zero, suc, ◌+◌, ◌<◌, ◌≤◌, List, [], ◌∷◌, ◌++◌, length, map, drop, Bool, true, false, arith, refl, ap, sym, subst, ◌∙◌, append_assoc}
use Rattle.std.specs.Prelude.{if◌then◌else◌}
use Rattle.std.proofs.lemmas.List.{length-append}
use Rattle.exact_num.specs.Fraction.{Fraction}
use Rattle.exact_num.specs.Tests.{is_above_zero}
use Rattle.simplex_run.specs.Places.{at, fraction_zero}
use Rattle.clearing_model.specs.Written.{PlacedMultiplier}
use Rattle.master_program.specs.Roles.{Role, Idle, Covering, Free, Above, Below, entries, leg_multipliers, placed_from, with_multiplier}
use Rattle.master_program.specs.Node.{if_covering, signed_of, with_sign}
use Rattle.pricing_oracle.specs.declared.reading.NextRows.{NextRows}
use Rattle.pricing_oracle.specs.Nodes.{RoleLeg, covering_of, node_leg}
use Rattle.pricing_oracle.specs.Multipliers.{HasRow, multiplier_in, rows_after}
use Rattle.pricing_oracle.proofs.GivenRows.{signed_count}

drop_at : (y : List Fraction) (i : ℕ) → i < length y → drop i y ≡ at y i ∷ drop (i + 1) y
drop_at [] i lt = absurd (omega arith)
drop_at (x ∷ y) zero lt = refl
drop_at (x ∷ y) (suc i) lt =
    let e : suc i + 1 ≡ suc (i + 1) = omega arith in
    rw e (drop_at y i (omega arith))

-- the multipliers of these legs, whose rows come next
abbrev pub multipliers_from : List RoleLeg → NextRows → List Fraction → List Fraction
multipliers_from legs rows y = leg_multipliers fraction_zero (map node_leg legs) (drop rows.cover y) (drop rows.signed y)

pub multipliers_first : (legs : List RoleLeg) (l : RoleLeg) (rest : List RoleLeg) (rows : NextRows) (y : List Fraction) → legs ≡ l ∷ rest → HasRow l.role rows (length y)
    → multipliers_from legs rows y ≡ multiplier_in l.role rows y ∷ multipliers_from rest (rows_after l.role rows) y
multipliers_first legs l rest rows y is h = ap (λ ls. multipliers_from ls rows y) is ∙ go l.role h
  where
    next : List Fraction → List Fraction → List Fraction
    next ss ps = leg_multipliers fraction_zero (map node_leg rest) ss ps

    go : (role : Role) → HasRow role rows (length y)
        → with_multiplier fraction_zero role (drop rows.cover y) (drop rows.signed y) (λ ss ps. leg_multipliers fraction_zero (map node_leg rest) ss ps)
        ≡ multiplier_in role rows y ∷ multipliers_from rest (rows_after role rows) y
    go Covering h = ap (λ ss. with_multiplier fraction_zero Covering ss (drop rows.signed y) next) (drop_at y rows.cover h)
    go Above h = ap (λ ps. with_multiplier fraction_zero Above (drop rows.cover y) ps next) (drop_at y rows.signed h)
    go Below h = ap (λ ps. with_multiplier fraction_zero Below (drop rows.cover y) ps next) (drop_at y rows.signed h)
    go Idle h = refl
    go Free h = refl

placed_first : (place : ℕ) (m : Fraction) (ms : List Fraction) → placed_from place (m ∷ ms) ≡ placed_from place (m ∷ []) ++ placed_from (place + 1) ms
placed_first place m ms = go (is_above_zero m) (record { place = place; by = m }) (placed_from (place + 1) ms)
  where
    go : (b : Bool) (p : PlacedMultiplier) (later : List PlacedMultiplier) → (if b then p ∷ later else later) ≡ (if b then p ∷ [] else []) ++ later
    go true p later = refl
    go false p later = refl

-- what was added, and then the multipliers of the legs that are left
pub adds_multiplier : (all now new : List PlacedMultiplier) (place : ℕ) (legs : List RoleLeg) (l : RoleLeg) (rest : List RoleLeg) (rows : NextRows) (y : List Fraction) (by : Fraction)
    → legs ≡ l ∷ rest → HasRow l.role rows (length y) → by ≡ multiplier_in l.role rows y
    → all ≡ now ++ placed_from place (multipliers_from legs rows y) → new ≡ now ++ placed_from place (by ∷ [])
    → all ≡ new ++ placed_from (place + 1) (multipliers_from rest (rows_after l.role rows) y)
adds_multiplier all now new place legs l rest rows y by is h by_is all_is new_is =
    let later = multipliers_from rest (rows_after l.role rows) y in
    all_is
    ∙ ap (λ ms. now ++ placed_from place ms) (multipliers_first legs l rest rows y is h ∙ ap (λ m. m ∷ later) (sym by_is))
    ∙ ap (λ ms. now ++ ms) (placed_first place by later)
    ∙ sym (append_assoc now (placed_from place (by ∷ [])) (placed_from (place + 1) later))
    ∙ ap (λ (ms : List PlacedMultiplier). ms ++ placed_from (place + 1) later) (sym new_is)

-- as many are left, of whom the leg's are the first
pub multipliers_left : (place : ℕ) (legs : List RoleLeg) (l : RoleLeg) (rest : List RoleLeg) (rows : NextRows) (y : List Fraction) (by : Fraction)
    → legs ≡ l ∷ rest → HasRow l.role rows (length y) → by ≡ multiplier_in l.role rows y
    → length (placed_from place (multipliers_from legs rows y)) ≡ length (placed_from place (by ∷ [])) + length (placed_from (place + 1) (multipliers_from rest (rows_after l.role rows) y))
multipliers_left place legs l rest rows y by is h by_is =
    let later = multipliers_from rest (rows_after l.role rows) y in
    ap (λ ms. length (placed_from place ms)) (multipliers_first legs l rest rows y is h ∙ ap (λ m. m ∷ later) (sym by_is))
    ∙ ap length (placed_first place by later)
    ∙ length-append (placed_from place (by ∷ [])) (placed_from (place + 1) later)

-- ---- the rows that are left are enough
pub record AreRowsLeft (n : ℕ) (legs : List RoleLeg) (rows : NextRows) (count : ℕ) : Type 0 where
  pub cover : rows.cover + length (covering_of legs) ≤ count
  pub signed : rows.signed + signed_count n legs ≤ count

pub has_row : (n : ℕ) (legs : List RoleLeg) (l : RoleLeg) (rest : List RoleLeg) (rows : NextRows) (count : ℕ) → legs ≡ l ∷ rest → AreRowsLeft n legs rows count → HasRow l.role rows count
has_row n legs l rest rows count is h = go l.role (subst (λ ls. AreRowsLeft n ls rows count) is h).cover (subst (λ ls. AreRowsLeft n ls rows count) is h).signed
  where
    go : (role : Role) → rows.cover + length (if_covering role l.leg (covering_of rest)) ≤ count → rows.signed + length (with_sign role (entries n l.leg.option) (signed_of n (map node_leg rest))) ≤ count → HasRow role rows count
    go Covering c s = omega (arith, c)
    go Above c s = omega (arith, s)
    go Below c s = omega (arith, s)
    go Idle c s = tt
    go Free c s = tt

pub rows_left : (n : ℕ) (legs : List RoleLeg) (l : RoleLeg) (rest : List RoleLeg) (rows : NextRows) (count : ℕ) → legs ≡ l ∷ rest → AreRowsLeft n legs rows count → AreRowsLeft n rest (rows_after l.role rows) count
rows_left n legs l rest rows count is h = go l.role (subst (λ ls. AreRowsLeft n ls rows count) is h).cover (subst (λ ls. AreRowsLeft n ls rows count) is h).signed
  where
    go : (role : Role) → rows.cover + length (if_covering role l.leg (covering_of rest)) ≤ count → rows.signed + length (with_sign role (entries n l.leg.option) (signed_of n (map node_leg rest))) ≤ count
        → AreRowsLeft n rest (rows_after role rows) count
    go Covering c s = record { cover = omega (arith, c); signed = s }
    go Above c s = record { cover = c; signed = omega (arith, s) }
    go Below c s = record { cover = c; signed = omega (arith, s) }
    go Idle c s = record { cover = c; signed = s }
    go Free c s = record { cover = c; signed = s }
