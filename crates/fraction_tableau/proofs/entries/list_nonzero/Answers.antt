use Rattle.std.proofs.Common.{◌≡◌, ◌∙◌, sym, ap, arith, true, false, ℕ, ◌+◌, List, map, ◌++◌, drop, vec_len, vec_capacity, Vec, Global}
use Rattle.fraction_tableau.specs.Nonzero.{is_zero}
use Rattle.fraction_tableau.specs.Nonzero.{nonzero_from}
use Rattle.fraction_tableau.proofs.Nonzero.{passes_zero, takes_nonzero, all_taken}
use Rattle.fraction_tableau.proofs.entries.list_nonzero.Goals.{then-not-is_zero, else-not-is_zero}
use Rattle.fraction_tableau.proofs.entries.list_nonzero.Goals as goal

pub loop-j-preserved : goal.loop-j-preserved
loop-j-preserved g c =
    let value = g.N.Exact.fraction in
    let xs = c.args.row.now in
    let j = c.loop-j.j in
    let rest = nonzero_from (j + 1) (drop (j + 1) (map value xs)) in
    elim c.if-not-is_zero.branch [
      | then-not-is_zero w ↦
          (let test : is_zero (value c.index-row-j.result) ≡ false = sym c.is_zero.ensures ∙ w.if-not-is_zero.true in
          let more = takes_nonzero value xs j c.index-row-j.result c.loop-j.places.items _ c.loop-j-test.true c.index-row-j.is test c.loop-j.invariant.places in
          record {
            places = ap (λ (v : Vec ℕ Global). v.items ++ rest) w.places-is ∙ ap (λ (l : List ℕ). l ++ rest) w.push_within.ensures.items ∙ more;
            few = omega (arith, ap (λ (v : Vec ℕ Global). vec_len v) w.places-is, w.push_within.ensures.len, c.loop-j.invariant.few);
            room = omega (arith, ap (λ (v : Vec ℕ Global). vec_capacity v) w.places-is, w.push_within.ensures.capacity, c.loop-j.invariant.room);
          })
      | else-not-is_zero w ↦
          (let test : is_zero (value c.index-row-j.result) ≡ true = sym c.is_zero.ensures ∙ w.if-not-is_zero.false in
          let more = passes_zero value xs j c.index-row-j.result c.loop-j.places.items _ c.loop-j-test.true c.index-row-j.is test c.loop-j.invariant.places in
          record {
            places = ap (λ (v : Vec ℕ Global). v.items ++ rest) w.places-is ∙ more;
            few = omega (arith, ap (λ (v : Vec ℕ Global). vec_len v) w.places-is, c.loop-j.invariant.few);
            room = omega (arith, ap (λ (v : Vec ℕ Global). vec_capacity v) w.places-is, c.loop-j.invariant.room);
          })
    ]

pub returns-clause-places : goal.returns-clause-places
returns-clause-places g c = all_taken g.N.Exact.fraction c.args.row.now c.loop-j.j c.loop-j.places.items _ (omega (arith, c.loop-j-test.false)) c.loop-j.invariant.places
