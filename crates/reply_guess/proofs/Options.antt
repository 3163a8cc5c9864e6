-- An option that passes its test is one that a market may list.
use Rattle.std.proofs.Common.{◌≡◌, ◌≢◌, zero, suc, ◌≤◌, ℤ, pos, unsigned_abs, List, [], ◌∷◌, Bool, true, false, not, ◌&&◌, nat_le, refl, sym, ap, ◌∙◌, arith, true≢false}
use Rattle.std.specs.List.{All, Any, list_all}
use Rattle.std.proofs.lemmas.Bool.{and_parts, leb-true}
use Rattle.form.specs.Limits.{IsListed}
use Rattle.form.specs.Vector.{strike_entry, weights_of}
use Rattle.reply_guess.specs.Options.{is_zero, has_limits}

all_below : (ws : List ℤ) → list_all (λ w. nat_le (unsigned_abs w) 1000) ws ≡ true → All (λ w. unsigned_abs w ≤ 1000) ws
all_below [] e k d lt = absurd (omega arith)
all_below (w ∷ ws) e zero d lt = leb-true (unsigned_abs w) 1000 (and_parts (nat_le (unsigned_abs w) 1000) _ e).0
all_below (w ∷ ws) e (suc k) d lt = all_below ws (and_parts (nat_le (unsigned_abs w) 1000) _ e).1 k d (omega arith)

not_zero : (w : ℤ) → is_zero w ≡ false → w ≢ pos 0
not_zero w e z = true≢false (sym (ap is_zero z) ∙ e)

module _ (w : ℤ) (ws : List ℤ) where
  first_or_later : (b : Bool) → is_zero w ≡ b → (not (list_all is_zero ws) ≡ true → Any (λ x. x ≢ pos 0) ws) → not (b && list_all is_zero ws) ≡ true → Any (λ x. x ≢ pos 0) (w ∷ ws)
  first_or_later false e later h = (0, w, omega arith, refl, not_zero w e)
  first_or_later true e later h = let found = later h in (suc found.0, found.1, omega (arith, found.2), found.3, found.4)

some_above : (ws : List ℤ) → not (list_all is_zero ws) ≡ true → Any (λ x. x ≢ pos 0) ws
some_above [] e = absurd (cc)
some_above (w ∷ ws) e = first_or_later w ws (is_zero w) refl (some_above ws) e

pub listed-from : (v : List ℤ) → has_limits v ≡ true → IsListed v
listed-from v e =
    let outer = and_parts (nat_le (unsigned_abs (strike_entry v)) 1000000000) _ e in
    let inner = and_parts (list_all (λ w. nat_le (unsigned_abs w) 1000) (weights_of v)) _ outer.1 in
    record { strike = leb-true _ 1000000000 outer.0; weights = all_below (weights_of v) inner.0; some_weight = some_above (weights_of v) inner.1 }
