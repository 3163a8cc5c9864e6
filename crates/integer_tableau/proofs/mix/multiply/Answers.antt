use Rattle.std.proofs.Common.{◌∙◌, ap, sym, subst, arith, length, map, pos, unsigned_abs, ◌*ℤ◌, ◌*◌, ◌≤◌, ◌<◌, ℤ}
use Rattle.std.proofs.lemmas.List.{length-map, length-set, map-set, get_or-set_other}
use Rattle.integer_tableau.proofs.Numbers.{written_more, written_all, at_map, times_one}
use Rattle.integer_tableau.proofs.Words.{at_word}
use Rattle.integer_tableau.proofs.mix.multiply.Goals as goal

pub returns-then-is_one : goal.returns-then-is_one
returns-then-is_one g c = times_one (g.W.Word.value c.args.p) (map g.W.Word.value c.args.numbers.now) (c.is_one.ensures c.if-is_one.true)

pub product-number-requires : goal.product-number-requires
product-number-requires g c =
    let value = g.W.Word.value in
    let i = c.loop-i.i in
    let z_is = at_word value c.loop-i.numbers i c.index-numbers-i.result (omega arith) c.index-numbers-i.is in
    subst (λ (z : ℤ). unsigned_abs z * unsigned_abs (value c.args.p) ≤ g.W.Word.held) (sym (c.loop-i.invariant.left i (omega arith)) ∙ z_is) (c.requires i)

pub loop-i-preserved : goal.loop-i-preserved
loop-i-preserved g c =
    let value = g.W.Word.value in
    let times : ℤ → ℤ = λ y. y *ℤ value c.args.p in
    let i = c.loop-i.i in
    let old = map value c.args.numbers.now in
    let zs = map value c.loop-i.numbers in
    let v = c.product-number.result in
    let inv = c.loop-i.invariant in
    let low : i < length c.loop-i.numbers = omega arith in
    let same = inv.width in
    let in_zs : i < length zs = omega (arith, low, length-map c.loop-i.numbers value) in
    let in_old : i < length old = omega (arith, low, same, length-map c.args.numbers.now value) in
    let in_all : i < length (map times old) = omega (arith, in_old, length-map old times) in
    let z_is = at_word value c.loop-i.numbers i c.index-numbers-i.result low c.index-numbers-i.is in
    let is_v = c.product-number.ensures ∙ ap times (sym z_is ∙ inv.left i (omega arith)) ∙ at_map times old i in_old in
    rw (map-set value c.loop-i.numbers i v) (record {
      width = length-set c.loop-i.numbers i v ∙ inv.width;
      written = written_more (map times old) zs i (value v) (pos 0) in_zs in_all inv.written is_v;
      left = λ j q. get_or-set_other zs i j (value v) (pos 0) (λ e. omega (arith, q, e)) ∙ inv.left j (omega (arith, q));
    })

pub returns : goal.returns
returns g c =
    let value = g.W.Word.value in
    let times : ℤ → ℤ = λ y. y *ℤ value c.args.p in
    let old = map value c.args.numbers.now in
    let over : length c.loop-i.numbers ≤ c.loop-i.i = omega arith in
    let same = c.loop-i.invariant.width in
    let zs_over : length (map value c.loop-i.numbers) ≤ c.loop-i.i = omega (arith, over, length-map c.loop-i.numbers value) in
    let all_over : length (map times old) ≤ c.loop-i.i = omega (arith, over, same, length-map c.args.numbers.now value, length-map old times) in
    written_all (map times old) (map value c.loop-i.numbers) c.loop-i.i zs_over all_over c.loop-i.invariant.written
