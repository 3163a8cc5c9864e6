-- A line cover of fills that are not below 0 shows that the liability is enough at every state.
use Rattle.std.proofs.Common.{◌≡◌, ℕ, ◌/◌, List, [], ◌∷◌, arith, ℤ, pos, All, refl, ap, sym, subst, ◌∙◌}
use Rattle.std.proofs.lemmas.Int.{ints}
use Rattle.std.proofs.lemmas.List.Elements.{All-head, All-tail}
use Rattle.arithmetic.specs.Sums.{positive_part}
use Rattle.arithmetic.proofs.Integers.{*ℤ_mono}
use Rattle.arithmetic.proofs.Parts.{part_above}
use Rattle.exact_num.specs.Fraction.{Fraction, IsNotBelowZero}
use Rattle.exact_num.specs.CommonDenominator.{common_denominator, amount_over}
use Rattle.form.specs.declared.orders.Order.{Order}
use Rattle.clearing_model.specs.Clearing.{SignedFill, as_signed}
use Rattle.clearing_model.specs.Line.{IsLineCover}
use Rattle.clearing_model.specs.Certificate.{filled_over, signed_over, LineCloses}
use Rattle.market_laws.proofs.Line.{line_covers_hold}
use Rattle.line_cover.specs.Laws.{IsEnoughOnLine}

-- amounts that are not below 0 are those of fills
signed_are_filled : (D : ℕ) (os : List Order) (fs : List Fraction) → All IsNotBelowZero fs → signed_over D os fs ≡ as_signed (filled_over D os fs)
signed_are_filled D [] fs least = refl
signed_are_filled D (o ∷ os) [] least = refl
signed_are_filled D (o ∷ os) (f ∷ fs) least =
    let a = amount_over D f in
    let here = part_above a (omega (arith, ints, *ℤ_mono (D / f.denominator) (pos 0) f.numerator (All-head IsNotBelowZero f fs least))) in
    let rest = signed_are_filled D os fs (All-tail IsNotBelowZero f fs least) in
    ap (λ (x : ℤ). (o, x) ∷ signed_over D os fs) (sym here) ∙ ap (λ (fills : List SignedFill). (o, pos (positive_part a)) ∷ fills) rest

pub enough_on_line : (orders : List Order) (fills : List Fraction) (L : Fraction) → All IsNotBelowZero fills → LineCloses orders fills L → IsEnoughOnLine orders fills L
enough_on_line orders fills L least closes =
    let D = common_denominator (L ∷ fills) in
    let P : List SignedFill → Type 0 = λ zs. IsLineCover zs (amount_over D L) in
    line_covers_hold (filled_over D orders fills) (amount_over D L) (subst P (signed_are_filled D orders fills least) closes)
