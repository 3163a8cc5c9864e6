use Rattle.std.proofs.Common.{◌≡◌, ◌+◌, ◌∙◌, refl, sym, ap, subst, arith, true, take, vec_len, vec_capacity, Vec, Global}
use Rattle.fraction_tableau.specs.Nonzero.{is_zero}
use Rattle.fraction_tableau.proofs.Skips.{is_zero_true}
use Rattle.fraction_tableau.specs.declared.sparse_entry.Entry.{Entry}
use Rattle.fraction_tableau.specs.SparseEntries.{HasAdded}
use Rattle.fraction_tableau.proofs.Written.{added_none, added_zero, added_number}
use Rattle.fraction_tableau.proofs.sparse_entry.push_nonzero.Goals.{then-not-is_zero, else-not-is_zero}
use Rattle.fraction_tableau.proofs.sparse_entry.push_nonzero.Goals as goal

pub loop-place-init : goal.loop-place-init
loop-place-init g c = record { added = added_none g.N.Exact.fraction c.args.entries.now.items; few = omega arith; room = omega arith }

pub loop-place-preserved : goal.loop-place-preserved
loop-place-preserved g c =
    let value = g.N.Exact.fraction in
    let xs = c.args.numbers.now in
    let i = c.loop-place.place in
    let x = c.index-numbers-place.result in
    let old = c.args.entries.now.items in
    let inv = c.loop-place.invariant in
    let few = inv.few in
    let room = inv.room in
    elim c.if-not-is_zero.branch [
      | then-not-is_zero w ↦
          record {
            added = subst (λ (v : Vec (Entry g.row.N.Denot) Global). HasAdded value (take (i + 1) xs) old v.items) (sym w.entries-is)
                (added_number value xs x i _ old c.loop-place.entries.items w.push_within.new.items.items c.loop-place-test.true c.index-numbers-place.is w.push_within.ensures.items refl refl inv.added);
            few = omega (arith, ap (λ (v : Vec (Entry g.row.N.Denot) Global). vec_len v) w.entries-is, w.push_within.ensures.len, few);
            room = omega (arith, ap (λ (v : Vec (Entry g.row.N.Denot) Global). vec_capacity v) w.entries-is, w.push_within.ensures.capacity, room);
          }
      | else-not-is_zero w ↦
          (let test : is_zero (value x) ≡ true = sym c.is_zero.ensures ∙ w.if-not-is_zero.false in
          record {
            added = subst (λ (v : Vec (Entry g.row.N.Denot) Global). HasAdded value (take (i + 1) xs) old v.items) (sym w.entries-is)
                (added_zero value xs x i old c.loop-place.entries.items c.loop-place-test.true c.index-numbers-place.is (is_zero_true (value x) (g.met.N.Exact.lowest x) test) inv.added);
            few = omega (arith, ap (λ (v : Vec (Entry g.row.N.Denot) Global). vec_len v) w.entries-is, few);
            room = omega (arith, ap (λ (v : Vec (Entry g.row.N.Denot) Global). vec_capacity v) w.entries-is, room);
          })
    ]
