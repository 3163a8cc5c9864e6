use Rattle.std.proofs.Common.{◌≡◌, ◌∙◌, ap, arith, ℕ, ◌+◌, List, map, ◌++◌, drop, take, pos, slice_index_or, rules, FitsSigned, w64}
use Rattle.std.proofs.lemmas.Int.{to_z-of_z}
use Rattle.std.proofs.lemmas.List.{get_or_default}
use Rattle.exact_num.specs.Fraction.{whole}
use Rattle.fraction_tableau.specs.Nonzero.{nonzero_from}
use Rattle.fraction_tableau.proofs.Nonzero.{all_taken}
use Rattle.integer_tableau.proofs.Sparse.{place_more}
use Rattle.integer_tableau.proofs.short_row.list_nonzero.Goals as goal

pub loop-j-preserved : goal.loop-j-preserved
loop-j-preserved c =
    let xs = c.args.numbers.now in
    let j = c.loop-j.j in
    let z = slice_index_or xs j (pos 0) in
    let at_z : z ≡ slice_index_or xs j z = get_or_default xs j (pos 0) z c.loop-j-test.true in
    let inv = c.loop-j.invariant in
    let fits : FitsSigned w64 z = search rules in
    let listed = simp to_z-of_z at c.list_place-count.ensures.places in
    record {
      places = ap (λ (l : List ℕ). l ++ nonzero_from (j + 1) (drop (j + 1) (map whole xs))) listed ∙ place_more xs j z (take c.loop-j.count c.loop-j.places) _ c.loop-j-test.true at_z inv.places;
      few = omega (arith, c.list_place-count.ensures.more, inv.few);
      room = c.list_place-count.auto.places ∙ inv.room;
    }

pub returns-clause-places : goal.returns-clause-places
returns-clause-places c = all_taken whole c.args.numbers.now c.loop-j.j (take c.loop-j.count c.loop-j.places) _ (omega (arith, c.loop-j-test.false)) c.loop-j.invariant.places
