use Rattle.std.proofs.Common.{rules, ◌≡◌, ◌≤ℤ◌, ◌*◌, ◌∙◌, ap, sym, subst, arith, pos, length, unsigned_abs, ◌^◌, ◌-◌, FitsSigned, w64, ℕ, ℤ, List}
use Rattle.std.specs.Prelude.{nat_le}
use Rattle.std.proofs.lemmas.Bool.{and_parts, leb-true}
use Rattle.std.proofs.lemmas.Int.{to_z-of_z}
use Rattle.std.proofs.Math.Nat.{mul-pos}
use Rattle.run_equivalence.specs.IntegerRows.{AreSizes, integer_row, numbers_fit, widest}
use Rattle.run_equivalence.specs.WholePivoting.{cross_difference, cut_where_wide}
use Rattle.run_equivalence.proofs.IntegerRowSteps.{sizes_of_fit, size_at_most}
use Rattle.integer_tableau.specs.Eliminating.{IsShort}
use Rattle.integer_tableau.proofs.Numbers.{size_made}
use Rattle.integer_tableau.proofs.Words.{mixed_all, places_of_words, room_of_words}
use Rattle.integer_tableau.proofs.short_row.mix_in_room.Goals as goal

pub mix-requires-clause-width : goal.mix-requires-clause-width
mix-requires-clause-width c = ap length c.widen.ensures ∙ c.requires.width

pub mix-requires-clause-places : goal.mix-requires-clause-places
mix-requires-clause-places c = places_of_words c.args.pivot.known.places.now c.args.pivot.numbers.now c.requires.places

pub mix-requires-clause-positive : goal.mix-requires-clause-positive
mix-requires-clause-positive c = subst (λ (z : ℤ). pos 0 ≤ℤ z) (sym c.widened.ensures.p) c.requires.factor.0

pub mix-requires-clause-room : goal.mix-requires-clause-room
mix-requires-clause-room c =
    let zs = c.widen.ensures in
    let p = c.widened.ensures.p in
    let f = c.widened.ensures.f in
    rw (zs, p, f) (room_of_words (2 ^ 127 - 1) (unsigned_abs c.args.factors.p) (unsigned_abs c.args.factors.f) c.args.numbers.now c.args.pivot.numbers.now c.requires.steps)

pub cut_where_not_short-below-requires-clause-above : goal.cut_where_not_short-below-requires-clause-above
cut_where_not_short-below-requires-clause-above c =
    let fits : FitsSigned w64 c.args.factors.p = search rules in
    let times : c.unsigned_abs.result ≡ unsigned_abs c.args.factors.p = rw (to_z-of_z w64 c.args.factors.p fits) at c.unsigned_abs.ensures.value in
    let is = c.size_product.ensures in
    rw (is, times) (mul-pos c.requires.above c.requires.factor.1)

pub cut_where_not_short-below-requires-clause-below : goal.cut_where_not_short-below-requires-clause-below
cut_where_not_short-below-requires-clause-below c =
    let fits : FitsSigned w64 c.args.factors.p = search rules in
    let times : c.unsigned_abs.result ≡ unsigned_abs c.args.factors.p = rw (to_z-of_z w64 c.args.factors.p fits) at c.unsigned_abs.ensures.value in
    let is = c.size_product.ensures in
    let low = c.requires.below in
    rw (is, times) (omega (arith, low))

pub narrow-requires-clause-width : goal.narrow-requires-clause-width
narrow-requires-clause-width c =
    let room = c.cut_where_not_short-below.auto.numbers ∙ c.mix.auto.numbers ∙ c.widen.auto.out in
    let width = c.requires.room in
    omega (arith, room, width)

pub narrow-requires-clause-short : goal.narrow-requires-clause-short
narrow-requires-clause-short c = (and_parts (nat_le c.cut_where_not_short-below.result widest) (numbers_fit widest c.cut_where_not_short-below.new.numbers) (sym c.is_short.ensures ∙ c.if-not-is_short.false)).1

pub overflow_cast-denominator : goal.overflow_cast-denominator
overflow_cast-denominator c =
    let low = leb-true _ _ (and_parts (nat_le c.cut_where_not_short-below.result widest) (numbers_fit widest c.cut_where_not_short-below.new.numbers) (sym c.is_short.ensures ∙ c.if-not-is_short.false)).0 in
    omega (arith, low)

-- the row, cut where it is wide, as the room has it
pub returns-then-not-is_short : goal.returns-then-not-is_short
returns-then-not-is_short c =
    let fits : FitsSigned w64 c.args.factors.p = search rules in
    let p = c.widened.ensures.p in
    let f = c.widened.ensures.f in
    let zs = c.widen.ensures in
    let times : c.unsigned_abs.result ≡ unsigned_abs c.args.factors.p = rw (to_z-of_z w64 c.args.factors.p fits) at c.unsigned_abs.ensures.value in
    let below : c.size_product.result ≡ c.args.denominator * unsigned_abs c.args.factors.p = c.size_product.ensures ∙ ap (λ (k : ℕ). c.args.denominator * k) times in
    let mixed : c.mix.new.numbers ≡ cross_difference (unsigned_abs c.args.factors.p) c.args.factors.f c.args.numbers.now c.args.pivot.numbers.now =
    mixed_all _ _ c.widen.new.out c.args.pivot.numbers.now c.mix.new.numbers c.mix.ensures ∙ (λ i. cross_difference (unsigned_abs (p i)) (f i) (zs i) c.args.pivot.numbers.now) in
    c.cut_where_not_short-below.ensures ∙ (λ i. cut_where_wide (integer_row (below i) (mixed i)))

pub returns : goal.returns
returns c =
    let fits : FitsSigned w64 c.args.factors.p = search rules in
    let p = c.widened.ensures.p in
    let f = c.widened.ensures.f in
    let zs = c.widen.ensures in
    let times : c.unsigned_abs.result ≡ unsigned_abs c.args.factors.p = rw (to_z-of_z w64 c.args.factors.p fits) at c.unsigned_abs.ensures.value in
    let below : c.size_product.result ≡ c.args.denominator * unsigned_abs c.args.factors.p = c.size_product.ensures ∙ ap (λ (k : ℕ). c.args.denominator * k) times in
    let mixed : c.mix.new.numbers ≡ cross_difference (unsigned_abs c.args.factors.p) c.args.factors.f c.args.numbers.now c.args.pivot.numbers.now =
    mixed_all _ _ c.widen.new.out c.args.pivot.numbers.now c.mix.new.numbers c.mix.ensures ∙ (λ i. cross_difference (unsigned_abs (p i)) (f i) (zs i) c.args.pivot.numbers.now) in
    let d = c.cut_where_not_short-below.result in
    let room = c.cut_where_not_short-below.new.numbers in
    let ns = c.narrow.new.out in
    let parts = and_parts (nat_le d widest) (numbers_fit widest room) (sym c.is_short.ensures ∙ c.if-not-is_short.false) in
    let line : integer_row d ns ≡ cut_where_wide (integer_row (c.args.denominator * unsigned_abs c.args.factors.p) (cross_difference (unsigned_abs c.args.factors.p) c.args.factors.f c.args.numbers.now c.args.pivot.numbers.now)) =
    ap (integer_row d) c.narrow.ensures ∙ c.cut_where_not_short-below.ensures ∙ (λ i. cut_where_wide (integer_row (below i) (mixed i))) in
    let sizes : AreSizes widest ns = subst (λ (ws : List ℤ). AreSizes widest ws) (sym c.narrow.ensures) (sizes_of_fit widest room parts.1) in
    let here : IsShort _ (integer_row d ns) = record { size = size_made c.size_of.result d ns c.size_of.ensures; short = size_at_most widest d ns (leb-true _ _ parts.0) sizes } in
    (line, subst (IsShort _) line here)
