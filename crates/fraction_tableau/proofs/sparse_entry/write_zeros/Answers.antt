use Rattle.std.proofs.Common.{◌≡◌, ◌<◌, ◌≤◌, [], ◌∷◌, ◌++◌, ◌∙◌, sym, ap, arith, length, map, replicate, List}
use Rattle.std.proofs.lemmas.List.{length-map, length-set, take_all, replicate-append-replicate}
use Rattle.exact_num.specs.Fraction.{Fraction}
use Rattle.simplex_run.specs.Places.{fraction_zero}
use Rattle.fraction_tableau.proofs.EntrySteps.{done_more}
use Rattle.fraction_tableau.proofs.sparse_entry.write_zeros.Goals as goal

pub loop-j-preserved : goal.loop-j-preserved
loop-j-preserved g c =
    let value = g.N.Exact.fraction in
    let j = c.loop-j.j in
    let row = c.loop-j.row in
    let z = c.zero.result in
    let low : j < length row = omega (arith, c.loop-j-test.true, c.loop-j.auto.row) in
    record {
      zeros =
          done_more value row j z low
          ∙ ap (λ (l : List Fraction). l ++ value z ∷ []) c.loop-j.invariant.zeros
          ∙ ap (λ (v : Fraction). replicate j fraction_zero ++ v ∷ []) c.zero.ensures
          ∙ replicate-append-replicate j 1 fraction_zero;
      width = length-set row j z ∙ c.loop-j.invariant.width;
    }

pub returns : goal.returns
returns g c =
    let value = g.N.Exact.fraction in
    let row = c.loop-j.row in
    let high : length (map value row) ≤ c.loop-j.j = omega (arith, length-map row value, c.loop-j-test.false, c.loop-j.auto.row) in
    let all : c.loop-j.j ≡ length c.args.row.now = omega (arith, c.loop-j-test.false, c.loop-j.auto.row, c.loop-j.auto.j-end, c.loop-j.invariant.width) in
    sym (take_all c.loop-j.j (map value row) high) ∙ c.loop-j.invariant.zeros ∙ ap (λ n. replicate n fraction_zero) all
