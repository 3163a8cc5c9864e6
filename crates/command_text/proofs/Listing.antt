-- The option of a trade within the limits is one that may be listed.
use Rattle.std.proofs.Common.{◌≡◌, ◌≢◌, ◌≤◌, ℤ, pos, neg_ℤ, List, map, unsigned_abs, length, ◌+◌, ◌<◌, sym, ap, ◌∙◌, arith, subst}
use Rattle.std.specs.List.{All, Any}
use Rattle.std.proofs.lemmas.Int.{ints}
use Rattle.std.proofs.lemmas.List.{length-map, get_or-map}
use Rattle.std.proofs.lemmas.List.Elements.{All-map, All-weaker}
use Rattle.arithmetic.proofs.Integers.{unsigned_abs-neg}
use Rattle.form.specs.declared.limits.TheConstants.{MAX_STRIKE, MAX_UNDERLYINGS, MAX_WEIGHT}
use Rattle.form.specs.FormOf.{form_of}
use Rattle.form.specs.Limits.{IsListed}
use Rattle.form.specs.Payoff.{option_of}
use Rattle.form.proofs.SameForm.{option-form_of}
use Rattle.form.proofs.Vectors.{length-option_of}
use Rattle.command_text.specs.declared.command.Kind.{Kind}
use Rattle.command_text.specs.declared.command.Kind.TheVariants.{Call, Put}
use Rattle.command_text.specs.Options.{option_by}

-- a weight is within its limit, and it is not 0
abbrev pub IsSmall : ℤ → Type 0
IsSmall w = unsigned_abs w ≤ MAX_WEIGHT

abbrev pub IsOther : ℤ → Type 0
IsOther w = w ≢ pos 0

negated_some : (weights : List ℤ) → Any IsOther weights → Any IsOther (map neg_ℤ weights)
negated_some weights (k, w, inside, at, some) =
    (k, neg_ℤ w, subst (λ n. k < n) (sym (length-map weights neg_ℤ)) inside, get_or-map neg_ℤ weights k w (neg_ℤ w) inside ∙ ap neg_ℤ at, λ (none : neg_ℤ w ≡ pos 0). some (omega (arith, ints)))

negated_within : (weights : List ℤ) → All IsSmall weights → All IsSmall (map neg_ℤ weights)
negated_within weights within =
    All-map IsSmall neg_ℤ weights
    (All-weaker IsSmall (λ w. IsSmall (neg_ℤ w)) (λ w small. subst (λ n. n ≤ MAX_WEIGHT) (sym (unsigned_abs-neg w)) small) weights within)

listed : (kind : Kind) (strike : ℤ) (weights : List ℤ) → unsigned_abs strike ≤ MAX_STRIKE → All IsSmall weights → Any IsOther weights → IsListed (option_by kind strike weights)
listed Call strike weights small within some = record {
  strike = subst (λ n. n ≤ MAX_STRIKE) (sym (unsigned_abs-neg strike)) small;
  weights = within;
  some_weight = some;
}
listed Put strike weights small within some = record {
  strike = small;
  weights = negated_within weights within;
  some_weight = negated_some weights some;
}

length-option_by : (kind : Kind) (strike : ℤ) (weights : List ℤ) → length (option_by kind strike weights) ≡ length weights + 1
length-option_by Call strike weights = omega arith
length-option_by Put strike weights = let same = length-map weights neg_ℤ in omega arith

-- the form of an option has one entry more than weights
pub entries_of : (kind : Kind) (strike : ℤ) (weights : List ℤ) → 1 ≤ length weights → length weights ≤ MAX_UNDERLYINGS → (form_of (option_by kind strike weights)).count ≡ length weights + 1
entries_of kind strike weights some few =
    let v = option_by kind strike weights in
    let long = length-option_by kind strike weights in
    sym (length-option_of (form_of v)) ∙ ap length (option-form_of v (omega (arith, long)) (omega (arith, long))) ∙ long

-- and its option may be listed
pub form_listed : (kind : Kind) (strike : ℤ) (weights : List ℤ) → length weights ≤ MAX_UNDERLYINGS → unsigned_abs strike ≤ MAX_STRIKE → All IsSmall weights → Any IsOther weights
    → IsListed (option_of (form_of (option_by kind strike weights)))
form_listed kind strike weights few small within some =
    let (k, w, inside, at, other) = some in
    let long = length-option_by kind strike weights in
    subst IsListed (sym (option-form_of (option_by kind strike weights) (omega (arith, long, inside)) (omega (arith, long)))) (listed kind strike weights small within some)
