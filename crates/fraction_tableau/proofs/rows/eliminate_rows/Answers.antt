use Rattle.std.proofs.Common.{◌≡◌, ◌<◌, ◌+◌, [], length, slice_index_or, unsigned_abs, length-set, refl, sym, ◌∙◌, ap, arith, set}
use Rattle.std.specs.Prelude.{Ok}
use Rattle.std.proofs.lemmas.Result.{err_from_is_err_and}
use Rattle.simplex_run.specs.Pivot.{eliminated}
use Rattle.simplex_run.specs.Table.{with_right}
use Rattle.fraction_tableau.specs.Lists.{front}
use Rattle.lists.proofs.Lists.{refit_is}
use Rattle.fraction_tableau.proofs.ArenaSteps.{cleared_more, cleared_stop, cleared_end, at_pivot, at_other, set_here, any_default, at_set_other}
use Rattle.fraction_tableau.proofs.rows.eliminate_rows.Goals.{then-i-r+in_ok-eliminate_front, else-i-r}
use Rattle.fraction_tableau.proofs.rows.eliminate_rows.Goals as goal

pub returns-in_err-eliminate_front-clause-rows : goal.returns-in_err-eliminate_front-clause-rows
returns-in_err-eliminate_front-clause-rows g c =
    let p = err_from_is_err_and c.from_residual.result c.from_residual.ensures.1 in
    let value = front g.N.Exact.fraction (length c.args.labels.now + 1) in
    let L = unsigned_abs g.N.Exact.LIMIT in
    let e = c.args.c in
    let labels = with_right c.args.columns c.args.labels.now in
    let r = c.args.r in
    let i = c.loop-i.i in
    let rows = c.loop-i.rows.rows in
    let old = c.args.rows.now.rows in
    let x = slice_index_or rows i [] in
    let pivot = slice_index_or old r [] in
    let low : i < length rows = omega (arith, c.loop-i.invariant.count) in
    let parts = c.pair-row.ensures.parts in
    let from_pivot = ap (λ ps. eliminated L e labels (value ps) (value x)) (parts.0 ∙ c.loop-i.invariant.pivot) in
    let from_row = ap (λ xs. eliminated L e labels (value c.pair-row.result.0.now) (value xs)) parts.1 in
    let stop = at_other value L e labels r (value pivot) i (value x) c.if-i-r.true ∙ sym (c.in_err-eliminate_front.ensures ∙ from_row ∙ from_pivot) in
    rw (p.1, p.2) (cleared_stop value L e labels r (value pivot) old rows i x _ low (any_default rows i [] x low) stop c.loop-i.invariant.eliminated)

pub returns-in_err-eliminate_front-clause-pivot : goal.returns-in_err-eliminate_front-clause-pivot
returns-in_err-eliminate_front-clause-pivot g c = at_set_other c.loop-i.rows.rows c.loop-i.i c.args.r _ [] (λ q. c.if-i-r.true (sym q)) ∙ c.loop-i.invariant.pivot

pub returns-in_err-eliminate_front-clause-width : goal.returns-in_err-eliminate_front-clause-width
returns-in_err-eliminate_front-clause-width g c = c.loop-i.invariant.width

pub returns-in_err-eliminate_front-clause-count : goal.returns-in_err-eliminate_front-clause-count
returns-in_err-eliminate_front-clause-count g c = length-set c.loop-i.rows.rows c.loop-i.i _ ∙ c.loop-i.invariant.count

pub loop-i-preserved : goal.loop-i-preserved
loop-i-preserved g c =
    let value = front g.N.Exact.fraction (length c.args.labels.now + 1) in
    let L = unsigned_abs g.N.Exact.LIMIT in
    let e = c.args.c in
    let labels = with_right c.args.columns c.args.labels.now in
    let r = c.args.r in
    let i = c.loop-i.i in
    let rows = c.loop-i.rows.rows in
    let old = c.args.rows.now.rows in
    let x = slice_index_or rows i [] in
    let pivot = slice_index_or old r [] in
    let low : i < length rows = omega (arith, c.loop-i.invariant.count) in
    elim c.if-i-r.branch [
      | then-i-r+in_ok-eliminate_front w ↦
          (let parts = w.pair-row.ensures.parts in
          let ys = w.eliminate_front.new.row in
          let full : length ys ≡ c.loop-i.rows.width = omega (arith, w.pair-row.ensures.widths) in
          let from_pivot = ap (λ ps. eliminated L e labels (value ps) (value x)) (parts.0 ∙ c.loop-i.invariant.pivot) in
          let from_row = ap (λ xs. eliminated L e labels (value w.pair-row.result.0.now) (value xs)) parts.1 in
          let fits = at_other value L e labels r (value pivot) i (value x) w.if-i-r.true ∙ sym (w.in_ok-eliminate_front.ensures ∙ from_row ∙ from_pivot) in
          let new : c.if-i-r.rows.rows ≡ set rows i ys = ap (λ s. s.rows) w.rows-is ∙ ap (set rows i) (refit_is c.loop-i.rows.width x ys full) in
          let more = cleared_more value L e labels r (value pivot) old rows i x ys low (any_default rows i [] x low) fits c.loop-i.invariant.eliminated in
          let as_many = ap length new ∙ length-set rows i ys ∙ c.loop-i.invariant.count in
          let as_wide = ap (λ s. s.width) w.rows-is ∙ c.loop-i.invariant.width in
          let as_before = ap (λ s. slice_index_or s r []) new ∙ at_set_other rows i r ys [] (λ q. w.if-i-r.true (sym q)) ∙ c.loop-i.invariant.pivot in
          record { count = as_many; width = as_wide; spare = ap (λ s. s.spare) w.rows-is ∙ c.loop-i.invariant.spare; pivot = as_before; eliminated = rw new more })
      | else-i-r w ↦
          (let here : i ≡ r = omega (arith, w.if-i-r.false) in
          let same : c.if-i-r.rows.rows ≡ rows = ap (λ s. s.rows) w.rows-is in
          let is_pivot : Ok (value pivot) ≡ Ok (value x) = ap (λ xs. Ok (value xs)) (sym c.loop-i.invariant.pivot ∙ ap (λ j. slice_index_or rows j []) (sym here)) in
          let fits = at_pivot value L e labels r (value pivot) i (value x) here ∙ is_pivot in
          let more = cleared_more value L e labels r (value pivot) old rows i x x low (any_default rows i [] x low) fits c.loop-i.invariant.eliminated in
          let kept = same ∙ sym (set_here rows i x [] low refl) in
          record {
            count = ap length same ∙ c.loop-i.invariant.count;
            width = ap (λ s. s.width) w.rows-is ∙ c.loop-i.invariant.width;
            spare = ap (λ s. s.spare) w.rows-is ∙ c.loop-i.invariant.spare;
            pivot = ap (λ s. slice_index_or s r []) same ∙ c.loop-i.invariant.pivot;
            eliminated = rw kept more;
          })
    ]

pub returns-clause-rows : goal.returns-clause-rows
returns-clause-rows g c =
    let value = front g.N.Exact.fraction (length c.args.labels.now + 1) in
    let old = c.args.rows.now.rows in
    cleared_end value (unsigned_abs g.N.Exact.LIMIT) c.args.c (with_right c.args.columns c.args.labels.now) c.args.r (value (slice_index_or old c.args.r [])) old c.loop-i.rows.rows c.loop-i.i (omega (arith, c.loop-i.invariant.count, c.loop-i-test.false)) c.loop-i.invariant.eliminated

pub returns-clause-pivot : goal.returns-clause-pivot
returns-clause-pivot g c = c.loop-i.invariant.pivot

pub returns-clause-width : goal.returns-clause-width
returns-clause-width g c = c.loop-i.invariant.width

pub returns-clause-count : goal.returns-clause-count
returns-clause-count g c = c.loop-i.invariant.count
