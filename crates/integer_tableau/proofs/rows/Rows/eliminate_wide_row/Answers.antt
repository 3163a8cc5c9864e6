use Rattle.std.proofs.Common.{◌<◌, ◌≤◌, ◌∙◌, sym, ap, subst, arith, List, ℤ, length}
use Rattle.run_equivalence.specs.IntegerRows.{IsIntegerRow, row_size}
use Rattle.integer_tableau.specs.Rows.{row_in}
use Rattle.integer_tableau.specs.Stored.{size_at}
use Rattle.integer_tableau.proofs.Changed.{changed_counts, written_after}
use Rattle.integer_tableau.proofs.Eliminating.{eliminated_at, left_within}
use Rattle.integer_tableau.proofs.Standing.{row_standing_wide}
use Rattle.integer_tableau.proofs.Written.{known_after, other_row, written_then}
use Rattle.integer_tableau.proofs.rows.Rows.eliminate_wide_row.Goals as goal

pub mix_wide_row-requires : goal.mix_wide_row-requires
mix_wide_row-requires c =
    let w = c.args.width in
    let i = c.args.i in
    let s = c.widen_row.new.self in
    let wide = c.widen_row.ensures in
    let low : i < length s.short.rows = omega (arith, c.requires.rows.0, wide.written.count.count) in
    let there = row_standing_wide s i low wide.wide in
    record {
      rows = (low, c.requires.rows.1);
      width = omega (arith, c.requires.width, wide.written.count.width);
      line = record {
        line = subst (IsIntegerRow c.args.known.step.limit w) (sym wide.line ∙ ap (row_in w) there) c.requires.line;
        size = subst (λ (z : List ℤ). row_size (row_in w z) ≤ size_at s i) there wide.written.stored.size;
      };
      pivot = known_after c.args.known w i c.args.self.now s c.requires.pivot wide.written (λ e. c.requires.rows.1 (sym e));
      wide = wide.wide;
    }

pub settle-requires : goal.settle-requires
settle-requires c =
    let w = c.args.width in
    let i = c.args.i in
    let s = c.widen_row.new.self in
    let wide = c.widen_row.ensures in
    let told = c.mix_wide_row.ensures in
    let k = c.args.known in
    let passed = c.if-not-mix_wide_row.false in
    let counts = changed_counts i s c.mix_wide_row.new.self told.changed in
    let low : i < length s.short.rows = omega (arith, c.requires.rows.0, wide.written.count.count) in
    let known = known_after k w i c.args.self.now s c.requires.pivot wide.written (λ e. c.requires.rows.1 (sym e)) in
    let line = subst (IsIntegerRow k.step.limit w) (sym wide.line ∙ ap (row_in w) (row_standing_wide s i low wide.wide)) c.requires.line in
    record {
      row = omega (arith, low, counts.count);
      width = omega (arith, c.requires.width, wide.written.count.width, counts.width);
      wide = told.wide;
      line = (k.step.limit, left_within k w _ _ _ known.line line (told.eliminated passed));
      size = told.size passed;
    }

pub returns : goal.returns
returns c =
    let w = c.args.width in
    let i = c.args.i in
    let first = c.args.self.now in
    let s = c.widen_row.new.self in
    let mixed = c.mix_wide_row.new.self in
    let settled = c.settle.new.self in
    let wide = c.widen_row.ensures in
    let told = c.mix_wide_row.ensures in
    let counts = changed_counts i s mixed told.changed in
    let low : i < length s.short.rows = omega (arith, c.requires.rows.0, wide.written.count.count) in
    let still : i < length mixed.short.rows = omega (arith, low, counts.count) in
    let pivot = other_row w i c.args.known.step.r first s wide.written (λ e. c.requires.rows.1 (sym e)) in
    let old = sym (ap (row_in w) (row_standing_wide s i low wide.wide)) ∙ wide.line in
    let new = sym (c.settle.ensures.line ∙ ap (row_in w) (row_standing_wide mixed i still told.wide)) in
    let written = written_then w i first s settled wide.written (written_after w i s mixed settled c.settle.ensures.written told.changed) in
    record {
      eliminated = λ done. record { eliminated = eliminated_at c.args.known w _ _ _ _ _ _ pivot old new (told.eliminated c.if-not-mix_wide_row.false); written = written };
      count = written.count;
    }
