-- A form and its option.
use Rattle.std.proofs.Common.{◌≡◌, ℕ, List, inl, inr, length, get_or, arith, ℤ, pos, ap, sym, ◌∙◌}
use Rattle.std.proofs.lemmas.Bool.{cases_lt}
use Rattle.std.proofs.lemmas.Int.{ints}
use Rattle.std.proofs.lemmas.List.{ext_get_or, get_or-take, get_or_past, length-take-le}
use Rattle.form.specs.declared.forms.Form.{Form}
use Rattle.form.specs.Payoff.{option_of, one, payoff, bundle_payoff, FormsAreOptions}

-- the option has as many entries as the form counts
pub length-option_of : (form : Form) → length (option_of form) ≡ form.count
length-option_of form = length-take-le form.count form.entries (omega (arith, form.nine_entries, form.count_in_range.1))

pub forms_are_options : FormsAreOptions
forms_are_options a b e =
    let counts : a.count ≡ b.count = sym (length-option_of a) ∙ ap length e ∙ length-option_of b in (
      counts,
      ext_get_or (pos 0) a.entries b.entries (a.nine_entries ∙ sym b.nine_entries)
          (λ i lt. elim (cases_lt i a.count) [
            | inl within ↦
                sym (get_or-take a.count a.entries i (pos 0) within)
                ∙ ap (λ v. get_or v i (pos 0)) e
                ∙ get_or-take b.count b.entries i (pos 0) (omega arith)
            | inr past ↦ a.zero_past_count i past ∙ sym (b.zero_past_count i (omega arith))
          ]),
    )

-- past the entries that are counted there are only zeros
pub entry_of_option : (form : Form) (i : ℕ) → get_or (option_of form) i (pos 0) ≡ get_or form.entries i (pos 0)
entry_of_option form i = elim (cases_lt i form.count) [
  | inl within ↦ get_or-take form.count form.entries i (pos 0) within
  | inr past ↦ get_or_past (option_of form) i (pos 0) (omega (arith, length-option_of form)) ∙ sym (form.zero_past_count i past)
]

-- the bundle of one option pays what it pays
pub one_pays : (v : List ℤ) (z : List ℕ) → bundle_payoff (one v) z ≡ pos (payoff v z)
one_pays v z = omega (arith, ints)
