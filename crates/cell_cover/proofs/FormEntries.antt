-- The entries of a form, one after another.
use Rattle.std.proofs.Common.{◌≡◌, ℕ, zero, suc, ◌+◌, ◌<◌, List, ◌∷◌, length, map, drop, get_or, Bool, ℤ, pos, negsuc, refl, ap, ◌∙◌, arith, add-one, drop-cons}
use Rattle.std.specs.Prelude.{unsigned_abs, int_div, int_lt}
use Rattle.std.proofs.lemmas.Bool.Decides.{nat_tests}
use Rattle.exact_num.specs.Fraction.{whole}
use Rattle.std.proofs.lemmas.List.{get_or-map, get_or-take, length-map}
use Rattle.form.specs.declared.forms.Form.{Form}
use Rattle.form.specs.Payoff.{option_of}
use Rattle.form.proofs.Vectors.{length-option_of}
use Rattle.cell_cover.specs.Classes.{begins_below, turned}

pub sizes_long : (form : Form) → length (map unsigned_abs (option_of form)) ≡ form.count
sizes_long form = length-map (option_of form) unsigned_abs ∙ length-option_of form

pub size_at : (form : Form) (i : ℕ) → i < form.count → get_or (map unsigned_abs (option_of form)) i 0 ≡ unsigned_abs (get_or form.entries i (pos 0))
size_at form i lt =
    get_or-map unsigned_abs (option_of form) i (pos 0) 0 (omega (arith, length-option_of form))
    ∙ ap unsigned_abs (get_or-take form.count form.entries i (pos 0) lt)

pub entry_first : (form : Form) (i : ℕ) → i < form.count → drop i (option_of form) ≡ get_or form.entries i (pos 0) ∷ drop (i + 1) (option_of form)
entry_first form i lt =
    rw add-one (drop-cons (option_of form) i (pos 0) (omega (arith, length-option_of form)) ∙ ap (λ (x : ℤ). x ∷ drop (suc i) (option_of form)) (get_or-take form.count form.entries i (pos 0) lt))

-- ---- the first weight that is not 0
pub begins_so : (x : ℤ) (xs : List ℤ) → (x ≡ pos 0 → ⊥) → begins_below (x ∷ xs) ≡ int_lt x (pos 0)
begins_so (pos zero) xs is_false = absurd (is_false refl)
begins_so (pos (suc n)) xs is_false = grind (arith, nat_tests)
begins_so (negsuc n) xs is_false = refl

pub entry_is : (t s : Bool) (d e : ℕ) (x y : ℤ) → t ≡ s → d ≡ e → x ≡ y → whole (turned t (int_div x (pos d))) ≡ whole (turned s (int_div y (pos e)))
entry_is t s d e x y first second third = ap (λ b. whole (turned b (int_div x (pos d)))) first ∙ ap (λ (k : ℕ). whole (turned s (int_div x (pos k)))) second ∙ ap (λ (z : ℤ). whole (turned s (int_div z (pos e)))) third
