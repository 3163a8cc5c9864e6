use Rattle.std.proofs.Common.{◌≡◌, ◌≤◌, ◌-◌, ◌*◌, ◌^◌, ◌∙◌, rules, sym, subst, arith, map, slice_index_or, pos, unsigned_abs, FitsSigned}
use Rattle.std.proofs.lemmas.Int.{to_z-of_z}
use Rattle.std.proofs.Math.Nat.{mul-pos}
use mir.Syntax.{w128}
use Rattle.run_equivalence.specs.IntegerRows.{IntegerRow, integer_row, row_size}
use Rattle.run_equivalence.specs.WholePivoting.{cut_where_wide}
use Rattle.integer_tableau.specs.Eliminating.{IsEliminatedBy}
use Rattle.integer_tableau.proofs.Eliminating.{eliminated_mixed, eliminated_none, factor_above, factors_in, mix_of}
use Rattle.integer_tableau.proofs.Turned.{size_below}
use Rattle.integer_tableau.proofs.Words.{mixed_words, room_in_words}
use Rattle.integer_tableau.proofs.wide.eliminate_wide.Goals as goal

pub returns-then-x-eq0-clause-eliminated : goal.returns-then-x-eq0-clause-eliminated
returns-then-x-eq0-clause-eliminated g c =
    let k = c.args.pivot.known in
    let l = integer_row c.args.denominator c.args.numbers.now in
    let none : slice_index_or c.args.numbers.now k.step.c (pos 0) ≡ pos 0 = search rules in
    eliminated_none k.step.limit k.step.c k.a k.most (map g.P.Word.value c.args.pivot.numbers.now) l none c.requires.pivot.above (size_below k.step.limit _ l c.requires.line.line)

pub without_common_wide-factors-requires-clause-x : goal.without_common_wide-factors-requires-clause-x
without_common_wide-factors-requires-clause-x g c =
    let fits : FitsSigned w128 (slice_index_or c.args.numbers.now c.args.pivot.known.step.c (pos 0)) = search rules in
    let small = c.requires.line.line.sizes c.args.pivot.known.step.c in
    rw (to_z-of_z w128 _ fits) (omega (arith, small, c.requires.pivot.limit.1))

pub mix-requires-clause-room : goal.mix-requires-clause-room
mix-requires-clause-room g c =
    let k = c.args.pivot.known in
    let mix = mix_of c.in-Some.mixed k.step.c k.most c.args.denominator c.without_common_wide-factors.result.p c.without_common_wide-factors.result.f c.args.numbers.now (map g.P.Word.value c.args.pivot.numbers.now) c.requires.line.line.positive c.requires.pivot.sizes c.in-Some.ensures.mixed in
    room_in_words (2 ^ 127 - 1) (unsigned_abs c.without_common_wide-factors.result.p) (unsigned_abs c.without_common_wide-factors.result.f) _ (map g.P.Word.value c.args.pivot.numbers.now) (mix.room (2 ^ 127 - 1) (omega (arith, c.in-Some.ensures.within, c.requires.pivot.limit.1)))

pub overflow_mul-below : goal.overflow_mul-below
overflow_mul-below g c =
    let k = c.args.pivot.known in
    let p = c.without_common_wide-factors.result.p in
    let times : c.unsigned_abs.result ≡ unsigned_abs p = rw (to_z-of_z w128 p (search rules)) at c.unsigned_abs.ensures.value in
    let low = (mix_of c.in-Some.mixed k.step.c k.most c.args.denominator c.without_common_wide-factors.result.p c.without_common_wide-factors.result.f c.args.numbers.now (map g.P.Word.value c.args.pivot.numbers.now) c.requires.line.line.positive c.requires.pivot.sizes c.in-Some.ensures.mixed).below in
    record { fits = rw times (omega (arith, low, c.in-Some.ensures.within, c.requires.pivot.limit.1)) }

pub cut_in_place-requires-clause-above : goal.cut_in_place-requires-clause-above
cut_in_place-requires-clause-above g c =
    let p = c.without_common_wide-factors.result.p in
    let times : c.unsigned_abs.result ≡ unsigned_abs p = rw (to_z-of_z w128 p (search rules)) at c.unsigned_abs.ensures.value in
    rw times (mul-pos c.requires.line.line.positive (factor_above _ c.args.pivot.known.a p c.requires.pivot.above c.without_common_wide-factors.ensures.a))

pub cut_in_place-requires-clause-below : goal.cut_in_place-requires-clause-below
cut_in_place-requires-clause-below g c =
    let k = c.args.pivot.known in
    let p = c.without_common_wide-factors.result.p in
    let times : c.unsigned_abs.result ≡ unsigned_abs p = rw (to_z-of_z w128 p (search rules)) at c.unsigned_abs.ensures.value in
    let low = (mix_of c.in-Some.mixed k.step.c k.most c.args.denominator c.without_common_wide-factors.result.p c.without_common_wide-factors.result.f c.args.numbers.now (map g.P.Word.value c.args.pivot.numbers.now) c.requires.line.line.positive c.requires.pivot.sizes c.in-Some.ensures.mixed).below in
    rw times (omega (arith, low, c.in-Some.ensures.within, c.requires.pivot.limit.1))

pub cut_in_place-requires-clause-size : goal.cut_in_place-requires-clause-size
cut_in_place-requires-clause-size g c =
    let k = c.args.pivot.known in
    let p = c.without_common_wide-factors.result.p in
    let f = c.without_common_wide-factors.result.f in
    let pivot = map g.P.Word.value c.args.pivot.numbers.now in
    let times : c.unsigned_abs.result ≡ unsigned_abs p = rw (to_z-of_z w128 p (search rules)) at c.unsigned_abs.ensures.value in
    let size = (mix_of c.in-Some.mixed k.step.c k.most c.args.denominator p f c.args.numbers.now pivot c.requires.line.line.positive c.requires.pivot.sizes c.in-Some.ensures.mixed).size in
    let written = mixed_words (unsigned_abs p) f _ pivot c.mix.new.numbers c.mix.ensures in
    subst (λ (l : IntegerRow). row_size l ≤ c.in-Some.mixed) (sym (λ i. integer_row (c.args.denominator * times i) (written i))) size

pub returns-clause-eliminated : goal.returns-clause-eliminated
returns-clause-eliminated g c =
    let k = c.args.pivot.known in
    let d = c.args.denominator in
    let zs = c.args.numbers.now in
    let pivot = map g.P.Word.value c.args.pivot.numbers.now in
    let x = slice_index_or zs k.step.c (pos 0) in
    let some : x ≡ pos 0 → ⊥ = search rules in
    let p = c.without_common_wide-factors.result.p in
    let f = c.without_common_wide-factors.result.f in
    let times : c.unsigned_abs.result ≡ unsigned_abs p = rw (to_z-of_z w128 p (search rules)) at c.unsigned_abs.ensures.value in
    let factors = factors_in w128 x k.a p f (search rules) c.without_common_wide-factors.ensures.a c.without_common_wide-factors.ensures.x in
    let written = mixed_words (unsigned_abs p) f _ pivot c.mix.new.numbers c.mix.ensures in
    let is = c.cut_in_place.ensures.line ∙ (λ i. cut_where_wide (integer_row (d * times i) (written i))) in
    subst (IsEliminatedBy k pivot (integer_row d zs)) (sym is) (eliminated_mixed k.step.limit c.in-Some.mixed k.step.c k.a k.most d p f zs pivot some factors c.in-Some.ensures.mixed c.in-Some.ensures.within)
