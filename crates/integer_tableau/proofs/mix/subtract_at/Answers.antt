use Rattle.std.proofs.Common.{◌∙◌, ◌≡◌, ◌≤◌, ◌+◌, ◌*◌, ◌-ℤ◌, ◌*ℤ◌, ap, sym, subst, map, set, ℤ, unsigned_abs}
use Rattle.std.proofs.lemmas.List.{map-set}
use Rattle.run_equivalence.specs.IntegerRows.{number_at}
use Rattle.integer_tableau.proofs.Words.{at_word}
use Rattle.integer_tableau.proofs.mix.subtract_at.Goals as goal

pub less_product-number-requires : goal.less_product-number-requires
less_product-number-requires g c =
    let value = g.W.Word.value in
    let j = c.args.j in
    let q = number_at (map g.P.Word.value c.args.pivot.now) j in
    let z_is = at_word value c.args.numbers.now j c.index-numbers-j.result c.requires.inside.0 c.index-numbers-j.is in
    let q_is : value c.widen.result ≡ q = c.widen.ensures ∙ sym (at_word g.P.Word.value c.args.pivot.now j c.index-pivot-j.result c.requires.inside.1 c.index-pivot-j.is) in
    subst (λ (y : ℤ). unsigned_abs (value c.index-numbers-j.result) + unsigned_abs (value c.args.f) * unsigned_abs y ≤ g.W.Word.held) (sym q_is)
    (subst (λ (y : ℤ). unsigned_abs y + unsigned_abs (value c.args.f) * unsigned_abs q ≤ g.W.Word.held) z_is c.requires.room)

pub returns : goal.returns
returns g c =
    let value = g.W.Word.value in
    let j = c.args.j in
    let zs = map value c.args.numbers.now in
    let q = number_at (map g.P.Word.value c.args.pivot.now) j in
    let z_is = at_word value c.args.numbers.now j c.index-numbers-j.result c.requires.inside.0 c.index-numbers-j.is in
    let q_is : value c.widen.result ≡ q = c.widen.ensures ∙ sym (at_word g.P.Word.value c.args.pivot.now j c.index-pivot-j.result c.requires.inside.1 c.index-pivot-j.is) in
    map-set value c.args.numbers.now j c.less_product-number.result
    ∙ ap (set zs j) (c.less_product-number.ensures ∙ (λ i. sym z_is i -ℤ (value c.args.f *ℤ q_is i)))
