-- A form is its option, and each option of 2 to 9 entries has a form.
use Rattle.std.proofs.Common.{◌≡◌, ℕ, zero, suc, ◌≤◌, [], ◌∷◌, ◌++◌, min, max, List, length, take, replicate, get_or, ℤ, pos, refl, sym, ap, ◌∙◌, arith}
use Rattle.std.proofs.Math.Path.{to_path_p}
use Rattle.std.proofs.Props.{props}
use Rattle.form.specs.declared.forms.Form.{Form}
use Rattle.std.proofs.lemmas.List.{take_at}
use Rattle.form.specs.FormOf.{form_of}
use Rattle.form.specs.Payoff.{option_of}
use Rattle.form.proofs.Vectors.{forms_are_options, length-option_of}

pub range_prop : (n : ℕ) → IsProp ((2 ≤ n) × (n ≤ 9))
range_prop n = hlevel props

pub nine_prop : (entries : List ℤ) → IsProp (length entries ≡ 9)
nine_prop entries = hlevel props

pub past_prop : (n : ℕ) (entries : List ℤ) → IsProp ((k : ℕ) → n ≤ k → get_or entries k (pos 0) ≡ pos 0)
past_prop n entries = hlevel props

pub form_is_option : (a b : Form) → option_of a ≡ option_of b → a ≡ b
form_is_option a b e =
    let same = forms_are_options a b e in
    let counts : a.count ≡ b.count = same.0 in
    let entries : a.entries ≡ b.entries = same.1 in
    λ i. record {
      count = counts i;
      entries = entries i;
      count_in_range = to_path_p (λ i. (2 ≤ counts i) × (counts i ≤ 9)) {a = a.count_in_range} {b = b.count_in_range} (range_prop b.count _ _) i;
      nine_entries = to_path_p (λ i. length (entries i) ≡ 9) {a = a.nine_entries} {b = b.nine_entries} (nine_prop b.entries _ _) i;
      zero_past_count = to_path_p (λ i. (k : ℕ) → counts i ≤ k → get_or (entries i) k (pos 0) ≡ pos 0) {a = a.zero_past_count} {b = b.zero_past_count} (past_prop b.count b.entries _ _) i;
    }

shorter : (n m : ℕ) (xs : List ℤ) → n ≤ m → take n (take m xs) ≡ take n xs
shorter zero m xs le = refl
shorter (suc n) zero xs le = absurd (omega arith)
shorter (suc n) (suc m) [] le = refl
shorter (suc n) (suc m) (x ∷ xs) le = ap (λ (l : List ℤ). x ∷ l) (shorter n m xs (omega arith))

-- the form of an option has that option
pub option-form_of : (v : List ℤ) → 2 ≤ length v → length v ≤ 9 → option_of (form_of v) ≡ v
unfolding form_of
option-form_of v some few =
    let count : max 2 (min 9 (length v)) ≡ length v = omega arith in
    let entries = v ++ replicate 9 (pos 0) in
    ap (λ n. take n (take 9 entries)) count ∙ shorter (length v) 9 entries few ∙ take_at v (replicate 9 (pos 0)) (length v) refl

pub form_is_form_of : (form : Form) (v : List ℤ) → option_of form ≡ v → form ≡ form_of v
form_is_form_of form v e =
    let size : length v ≡ form.count = ap length (sym e) ∙ length-option_of form in
    form_is_option form (form_of v) (e ∙ sym (option-form_of v (omega (arith, size, form.count_in_range.0)) (omega (arith, size, form.count_in_range.1))))
