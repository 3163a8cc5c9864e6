use Rattle.std.proofs.Common.{◌≡◌, ◌∙◌, ◌≤◌, ◌*◌, ◌^◌, ◌-◌, rules, sym, subst, arith, slice_index_or, pos, unsigned_abs, FitsSigned, w64}
use Rattle.std.proofs.lemmas.Int.{to_z-of_z}
use Rattle.run_equivalence.specs.IntegerRows.{integer_row, row_size, widest}
use Rattle.integer_tableau.specs.Eliminating.{IsEliminatedBy, IsShort}
use Rattle.integer_tableau.proofs.Cut.{size_stays}
use Rattle.integer_tableau.proofs.Eliminating.{eliminated_mixed, eliminated_none, factor_above, factors_in, left_of, mix_of, mixed_row}
use Rattle.integer_tableau.proofs.Turned.{size_below}
use Rattle.integer_tableau.proofs.Words.{mixed_all, places_of_words, room_of_words}
use Rattle.integer_tableau.proofs.short_row.eliminate_short.Goals as goal

-- ---- a row with 0 in the column stays
pub returns-then-x-eq0 : goal.returns-then-x-eq0
returns-then-x-eq0 c =
    let k = c.args.pivot.known in
    let l = integer_row c.args.denominator c.args.numbers.now in
    let none : slice_index_or c.args.numbers.now k.step.c (pos 0) ≡ pos 0 = search rules in
    let low = size_below widest _ l c.requires.line.line in
    let high = c.requires.pivot.limit.0 in
    (eliminated_none k.step.limit k.step.c k.a k.most c.args.pivot.numbers.now l none c.requires.pivot.above (omega (arith, low, high)), record { size = c.requires.line.size; short = low })

-- ---- any other is mixed: what the steps are at most
pub mix_in_room-requires-clause-factor : goal.mix_in_room-requires-clause-factor
mix_in_room-requires-clause-factor c = (search rules, factor_above _ c.args.pivot.known.a c.without_common-factors.result.p c.requires.pivot.above c.without_common-factors.ensures.a)

pub mix_in_room-requires-clause-steps : goal.mix_in_room-requires-clause-steps
mix_in_room-requires-clause-steps c =
    let k = c.args.pivot.known in
    let g = mix_of c.in-Some.made k.step.c k.most c.args.denominator c.without_common-factors.result.p c.without_common-factors.result.f c.args.numbers.now c.args.pivot.numbers.now c.requires.line.line.positive c.requires.pivot.sizes c.in-Some.ensures.mixed in
    g.room (2 ^ 127 - 1) (omega (arith, c.in-Some.ensures.within, c.requires.pivot.limit.1))

pub mix_in_room-requires-clause-below : goal.mix_in_room-requires-clause-below
mix_in_room-requires-clause-below c =
    let k = c.args.pivot.known in
    let g = mix_of c.in-Some.made k.step.c k.most c.args.denominator c.without_common-factors.result.p c.without_common-factors.result.f c.args.numbers.now c.args.pivot.numbers.now c.requires.line.line.positive c.requires.pivot.sizes c.in-Some.ensures.mixed in
    let low = g.below in
    omega (arith, low, c.in-Some.ensures.within, c.requires.pivot.limit.1)

pub returns-then-made-gt-WIDEST : goal.returns-then-made-gt-WIDEST
returns-then-made-gt-WIDEST c =
    let k = c.args.pivot.known in
    let x = slice_index_or c.args.numbers.now k.step.c (pos 0) in
    let some : x ≡ pos 0 → ⊥ = search rules in
    let factors = factors_in w64 x k.a c.without_common-factors.result.p c.without_common-factors.result.f (search rules) c.without_common-factors.ensures.a c.without_common-factors.ensures.x in
    left_of c.mix_in_room.result k c.args.pivot.numbers.now (integer_row c.args.denominator c.args.numbers.now) _ _ _ _
    (eliminated_mixed k.step.limit c.in-Some.made k.step.c k.a k.most c.args.denominator c.without_common-factors.result.p c.without_common-factors.result.f c.args.numbers.now c.args.pivot.numbers.now some factors c.in-Some.ensures.mixed c.in-Some.ensures.within) c.mix_in_room.ensures

-- ---- in place
pub mix-requires-clause-places : goal.mix-requires-clause-places
mix-requires-clause-places c = places_of_words c.args.pivot.known.places.now c.args.pivot.numbers.now c.requires.pivot.places

pub mix-requires-clause-room : goal.mix-requires-clause-room
mix-requires-clause-room c =
    let k = c.args.pivot.known in
    let g = mix_of c.in-Some.made k.step.c k.most c.args.denominator c.without_common-factors.result.p c.without_common-factors.result.f c.args.numbers.now c.args.pivot.numbers.now c.requires.line.line.positive c.requires.pivot.sizes c.in-Some.ensures.mixed in
    room_of_words widest (unsigned_abs c.without_common-factors.result.p) (unsigned_abs c.without_common-factors.result.f) _ c.args.pivot.numbers.now (g.room widest (omega (arith, c.if-made-gt-WIDEST.false)))

pub overflow_mul-result : goal.overflow_mul-result
overflow_mul-result c =
    let k = c.args.pivot.known in
    let p = c.without_common-factors.result.p in
    let signed : FitsSigned w64 p = search rules in
    let times : c.unsigned_abs.result ≡ unsigned_abs p = rw (to_z-of_z w64 p signed) at c.unsigned_abs.ensures.value in
    let g = mix_of c.in-Some.made k.step.c k.most c.args.denominator c.without_common-factors.result.p c.without_common-factors.result.f c.args.numbers.now c.args.pivot.numbers.now c.requires.line.line.positive c.requires.pivot.sizes c.in-Some.ensures.mixed in
    let low = g.below in
    rw times (omega (arith, low, c.if-made-gt-WIDEST.false))

pub returns : goal.returns
returns c =
    let k = c.args.pivot.known in
    let d = c.args.denominator in
    let zs = c.args.numbers.now in
    let pivot = c.args.pivot.numbers.now in
    let x = slice_index_or zs k.step.c (pos 0) in
    let some : x ≡ pos 0 → ⊥ = search rules in
    let p = c.without_common-factors.result.p in
    let f = c.without_common-factors.result.f in
    let b = c.in-Some.made in
    let signed : FitsSigned w64 p = search rules in
    let times : c.unsigned_abs.result ≡ unsigned_abs p = rw (to_z-of_z w64 p signed) at c.unsigned_abs.ensures.value in
    let factors = factors_in w64 x k.a p f (search rules) c.without_common-factors.ensures.a c.without_common-factors.ensures.x in
    let made = mixed_row k.step.c d p f zs pivot in
    let size = (mix_of b k.step.c k.most d p f zs pivot c.requires.line.line.positive c.requires.pivot.sizes c.in-Some.ensures.mixed).size in
    let short : row_size made ≤ widest = omega (arith, size, c.if-made-gt-WIDEST.false) in
    let written = mixed_all (unsigned_abs p) f _ pivot c.mix.new.numbers c.mix.ensures in
    let is : made ≡ integer_row (d * c.unsigned_abs.result) c.mix.new.numbers = sym (λ i. integer_row (d * times i) (written i)) in
    let left = eliminated_mixed k.step.limit b k.step.c k.a k.most d p f zs pivot some factors c.in-Some.ensures.mixed c.in-Some.ensures.within in
    (subst (IsEliminatedBy k pivot (integer_row d zs)) (sym (size_stays made short) ∙ is) left, subst (IsShort b) is (record { size = size; short = short }))
