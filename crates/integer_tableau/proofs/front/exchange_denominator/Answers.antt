use Rattle.std.proofs.Common.{◌≡◌, ◌∙◌, ◌+◌, sym, ap, arith, map, set, pos, unsigned_abs, ℤ, List}
use Rattle.std.proofs.lemmas.List.{map-set}
use Rattle.run_equivalence.specs.IntegerRows.{number_at}
use Rattle.integer_tableau.proofs.Words.{at_word}
use Rattle.integer_tableau.proofs.front.exchange_denominator.Goals as goal

pub returns : goal.returns
returns g c =
    let value = g.W.Word.value in
    let row = c.args.row.now in
    let next = c.args.c + 1 in
    let below = at_word value row 0 c.index-row-0.result (omega (arith, c.requires.column)) c.index-row-0.is in
    let entry = at_word value row next c.index-row-c.result c.requires.column c.index-row-c.is in
    let size : value c.size-below.result ≡ pos (unsigned_abs (number_at (map value row) 0)) = c.size-below.ensures ∙ ap (λ (z : ℤ). pos (unsigned_abs z)) (sym below) in
    map-set value (set row 0 c.index-row-c.result) next c.size-below.result
    ∙ ap (λ (zs : List ℤ). set zs next (value c.size-below.result)) (map-set value row 0 c.index-row-c.result)
    ∙ (λ i. set (set (map value row) 0 (sym entry i)) next (size i))
