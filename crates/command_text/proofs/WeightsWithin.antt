-- Eight weights and eight prices: within their limits, and 0 past those of the line.
use Rattle.std.proofs.Common.{◌≡◌, ℕ, suc, ◌+◌, ◌-◌, ◌≤◌, ◌≢◌, List, [], ◌∷◌, Bool, true, false, if◌then◌else◌, length, take, All, Any, unsigned_abs, ℤ, pos, neg_ℤ, negsuc, Some, None, refl, sym, ap, ◌∙◌, true≢false, arith, zero, ◌<◌, get_or, inl, inr}
use Rattle.std.proofs.lemmas.Bool.{cases_Bool, leb-true}
use Rattle.std.proofs.lemmas.Bool.Decides.{nat_tests}
use Rattle.std.proofs.lemmas.List.{get_or_past, get_or-take, length-take-le}
use Rattle.command_text.specs.Numbers.{number_in}
use Rattle.std.proofs.lemmas.List.Elements.{All-nil, All-cons}
use Rattle.std.proofs.lemmas.List.Folds.{Any-from_list_any}
use Rattle.std.specs.Prelude.{slice_index_or, nat_le, not}
use Rattle.std.specs.Ordering.{int_eq}
use Rattle.form.specs.declared.limits.TheConstants.{MAX_WEIGHT}
use Rattle.command_text.specs.declared.asked.Asked.{Asked}
use Rattle.command_text.specs.declared.asked.Fault.TheVariants.{Range}
use Rattle.limits.specs.declared.TheConstants.{MAX_SETTLEMENT_PRICE}
use Rattle.command_text.specs.Asked.{text_of, value_in, value_or_zero}
use Rattle.command_text.specs.Trades.{weight_in, weights_in, weightless, is_weighted, price_in, prices_in}
use Rattle.command_text.proofs.Bounds.{around_zero, natural_between, size_within}

-- what holds of eight
pub all_eight : {X : Type 0} (P : X → Type 0) (a b c d e f g h : X) → P a → P b → P c → P d → P e → P f → P g → P h → All P (a ∷ b ∷ c ∷ d ∷ e ∷ f ∷ g ∷ h ∷ [])
all_eight P a b c d e f g h ha hb hc hd he hf hg hh = All-cons P a (b ∷ c ∷ d ∷ e ∷ f ∷ g ∷ h ∷ []) ha (All-cons P b (c ∷ d ∷ e ∷ f ∷ g ∷ h ∷ []) hb (All-cons P c (d ∷ e ∷ f ∷ g ∷ h ∷ []) hc (All-cons P d (e ∷ f ∷ g ∷ h ∷ []) hd (All-cons P e (f ∷ g ∷ h ∷ []) he (All-cons P f (g ∷ h ∷ []) hf (All-cons P g (h ∷ []) hg (All-cons P h ([]) hh (All-nil P))))))))

-- ---- prices and weights

pub price_small : (fields : List (List ℕ)) (place : ℕ) → price_in fields place ≤ MAX_SETTLEMENT_PRICE
price_small fields place =
    let asked : Asked = record { place = place; low = pos 0; high = pos MAX_SETTLEMENT_PRICE; zero = true } in
    (natural_between 0 1000000000 (value_in fields asked) (around_zero fields asked (record { le = tt }) (record { le = tt }))).1

pub prices_small : (fields : List (List ℕ)) → All (λ p. p ≤ MAX_SETTLEMENT_PRICE) (prices_in fields)
prices_small fields =
    let P : ℕ → Type 0 = λ p. p ≤ MAX_SETTLEMENT_PRICE in
    all_eight P (price_in fields 3) (price_in fields 4) (price_in fields 5) (price_in fields 6) (price_in fields 7) (price_in fields 8) (price_in fields 9) (price_in fields 10) (price_small fields 3) (price_small fields 4) (price_small fields 5) (price_small fields 6) (price_small fields 7) (price_small fields 8) (price_small fields 9) (price_small fields 10)

pub weight_small : (fields : List (List ℕ)) (place : ℕ) → unsigned_abs (weight_in fields place) ≤ MAX_WEIGHT
weight_small fields place =
    let asked : Asked = record { place = place; low = neg_ℤ (pos MAX_WEIGHT); high = pos MAX_WEIGHT; zero = true } in
    size_within 1000 (negsuc 999) (value_in fields asked) refl (around_zero fields asked (record { le = tt }) (record { le = tt }))

pub weights_small : (fields : List (List ℕ)) (first : ℕ) → All (λ w. unsigned_abs w ≤ MAX_WEIGHT) (weights_in fields first)
weights_small fields first =
    let P : ℤ → Type 0 = λ w. unsigned_abs w ≤ MAX_WEIGHT in
    all_eight P (weight_in fields first) (weight_in fields (first + 1)) (weight_in fields (first + 2)) (weight_in fields (first + 3)) (weight_in fields (first + 4)) (weight_in fields (first + 5)) (weight_in fields (first + 6)) (weight_in fields (first + 7)) (weight_small fields first) (weight_small fields (first + 1)) (weight_small fields (first + 2)) (weight_small fields (first + 3)) (weight_small fields (first + 4)) (weight_small fields (first + 5)) (weight_small fields (first + 6)) (weight_small fields (first + 7))

pub some_weight : (place : ℕ) (weights : List ℤ) → weightless place weights ≡ None → Any (λ w. w ≢ pos 0) weights
some_weight place weights e =
    let P : Bool → Type 0 = λ b. is_weighted weights ≡ b → (if b then None else Some (Range place)) ≡ None → Any (λ w. w ≢ pos 0) weights in
    (elim (is_weighted weights) as P [
      | true ↦ λ is none.
          let found = Any-from_list_any (λ (w : ℤ). not (int_eq w (pos 0))) weights is in
          (found.0, found.1, found.2, found.3, λ zero. absurd (true≢false (sym found.4 ∙ ap (λ w. not (int_eq w (pos 0))) zero)))
      | false ↦ λ is none. absurd (cc)
    ]) refl e

-- ---- entries past the fields of the line

no_text : (fields : List (List ℕ)) (n : ℕ) → length fields ≤ n → slice_index_or fields n [] ≡ []
no_text [] n past = refl
no_text (f ∷ fields) zero past = absurd (omega arith)
no_text (f ∷ fields) (suc n) past = no_text fields n (omega arith)

no_field : (fields : List (List ℕ)) (place : ℕ) → length fields < place → text_of fields place ≡ []
no_field fields place past = no_text fields (place - 1) (omega arith)

no_value : (fields : List (List ℕ)) (asked : Asked) → length fields < asked.place → value_in fields asked ≡ pos 0
no_value fields asked past = ap (λ t. value_or_zero (number_in asked.low asked.high t)) (no_field fields asked.place past)

weight_at : (fields : List (List ℕ)) (first k : ℕ) → k < 8 → get_or (weights_in fields first) k (pos 0) ≡ weight_in fields (first + k)
weight_at fields first zero lt = let same : first ≡ first + 0 = omega arith in ap (weight_in fields) same
weight_at fields first (suc zero) lt = refl
weight_at fields first (suc (suc zero)) lt = refl
weight_at fields first (suc (suc (suc zero))) lt = refl
weight_at fields first (suc (suc (suc (suc zero)))) lt = refl
weight_at fields first (suc (suc (suc (suc (suc zero))))) lt = refl
weight_at fields first (suc (suc (suc (suc (suc (suc zero)))))) lt = refl
weight_at fields first (suc (suc (suc (suc (suc (suc (suc zero))))))) lt = refl
weight_at fields first (suc (suc (suc (suc (suc (suc (suc (suc k)))))))) lt = absurd (omega arith)

-- past the weights of a line the entries are 0
pub no_weight : (fields : List (List ℕ)) (first k : ℕ) → length fields < first + k → get_or (weights_in fields first) k (pos 0) ≡ pos 0
no_weight fields first k past = elim (cases_Bool (nat_le 8 k)) [
  | inl large ↦ get_or_past (weights_in fields first) k (pos 0) (leb-true 8 k large)
  | inr small ↦
      let lt : k < 8 = grind (arith, nat_tests) in
      weight_at fields first k lt ∙ no_value fields (record { place = first + k; low = neg_ℤ (pos MAX_WEIGHT); high = pos MAX_WEIGHT; zero = true }) past
]

price_at : (fields : List (List ℕ)) (k : ℕ) → k < 8 → get_or (prices_in fields) k 0 ≡ price_in fields (3 + k)
price_at fields zero lt = refl
price_at fields (suc zero) lt = refl
price_at fields (suc (suc zero)) lt = refl
price_at fields (suc (suc (suc zero))) lt = refl
price_at fields (suc (suc (suc (suc zero)))) lt = refl
price_at fields (suc (suc (suc (suc (suc zero))))) lt = refl
price_at fields (suc (suc (suc (suc (suc (suc zero)))))) lt = refl
price_at fields (suc (suc (suc (suc (suc (suc (suc zero))))))) lt = refl
price_at fields (suc (suc (suc (suc (suc (suc (suc (suc k)))))))) lt = absurd (omega arith)

pub no_price : (fields : List (List ℕ)) (k : ℕ) → length fields < 3 + k → get_or (prices_in fields) k 0 ≡ 0
no_price fields k past = elim (cases_Bool (nat_le 8 k)) [
  | inl large ↦ get_or_past (prices_in fields) k 0 (leb-true 8 k large)
  | inr small ↦
      let lt : k < 8 = grind (arith, nat_tests) in
      price_at fields k lt ∙ ap unsigned_abs (no_value fields (record { place = 3 + k; low = pos 0; high = pos MAX_SETTLEMENT_PRICE; zero = true }) past)
]

same_default : (xs : List ℤ) (k : ℕ) (d e : ℤ) → k < length xs → get_or xs k d ≡ get_or xs k e
same_default [] k d e lt = absurd (omega arith)
same_default (x ∷ xs) zero d e lt = refl
same_default (x ∷ xs) (suc k) d e lt = same_default xs k d e (omega arith)

-- a weight that is not 0 is one of the line's
pub some_front : (weights : List ℤ) (count : ℕ) → count ≤ length weights → ((k : ℕ) → count ≤ k → get_or weights k (pos 0) ≡ pos 0) → Any (λ w. w ≢ pos 0) weights → Any (λ w. w ≢ pos 0) (take count weights)
some_front weights count size zeros found =
    let k = found.0 in
    elim (cases_Bool (nat_le count k)) [
      | inl past ↦ absurd (found.4 (sym found.3 ∙ same_default weights k found.1 (pos 0) found.2 ∙ zeros k (leb-true count k past)))
      | inr front ↦
          let lt : k < count = grind (arith, nat_tests) in
          (k, found.1, omega (arith, lt, length-take-le count weights size), get_or-take count weights k found.1 lt ∙ found.3, found.4)
    ]
