use Rattle.std.proofs.Common.{◌≡◌, ◌+◌, [], ◌∷◌, ◌++◌, ◌∙◌, sym, ap, subst, arith, length, take, map, List, ℕ}
use Rattle.std.specs.List.{All}
use Rattle.std.proofs.lemmas.List.{length-append}
use Rattle.std.proofs.lemmas.List.Elements.{All-push}
use Rattle.simplex_run.specs.Places.{numbers}
use Rattle.fraction_tableau.proofs.Filling.{numbers_last, slice_written}
use Rattle.fraction_tableau.proofs.Starts.{row_given}
use Rattle.fraction_tableau.proofs.table.Table.row.Goals as goal

pub returns-clause-program : goal.returns-clause-program
returns-clause-program g c =
    let t = c.args.self.now in
    let n = length t.labels.items in
    let width : length c.args.a.now ≡ n = omega (arith, c.requires.width, t.labels.ok) in
    let was = ap length c.as_mut_slice.ensures.value in
    let written = slice_written c.write_front.new.line t.line.items _ (sym c.as_mut_slice.ensures.len ∙ was) (omega (arith, c.write_front.auto.line, was)) in
    let line = ap (take (length c.args.a.now + 1)) (c.as_slice.ensures.value ∙ written) ∙ c.write_front.ensures in
    row_given g.N.Exact.fraction n t.rows.rows _ c.as_slice.result.now c.args.a.now c.args.b (take n (map g.N.Exact.fraction t.objective.items)) c.append.ensures.rows line width

pub returns-clause-given : goal.returns-clause-given
returns-clause-given g c =
    let t = c.args.self.now in
    let n = length t.labels.items in
    let m = length t.rows.rows in
    let line = c.as_slice.result.now in
    let new = c.append.new.self.rows in
    let as_many : length new ≡ m + 1 = ap length c.append.ensures.rows ∙ length-append t.rows.rows (line ∷ []) in
    let last : length c.args.a.now + c.len.result ≡ n + m = omega (arith, c.requires.width, t.labels.ok, c.len.ensures) in
    let has_width : List g.row.N.Denot → Type 0 = λ row. length row ≡ t.rows.width in
    let line_width : length line ≡ t.rows.width = omega (arith, c.as_slice.ensures.len, t.line_room) in
    let widths : All has_width new = subst (All has_width) (sym c.append.ensures.rows) (All-push has_width t.rows.rows line c.requires.given.widths line_width) in
    record {
      labels = c.requires.given.labels;
      basics =
          c.push_within.ensures.items
          ∙ ap (λ (bs : List ℕ). bs ++ (length c.args.a.now + c.len.result) ∷ []) c.requires.given.basics
          ∙ ap (λ (v : ℕ). numbers n m ++ v ∷ []) last
          ∙ sym (numbers_last n m) ∙ ap (numbers n) (sym as_many);
      widths = subst (λ (w : ℕ). All (λ (row : List g.row.N.Denot). length row ≡ w) new) (sym c.append.ensures.width) widths;
      objective = c.requires.given.objective;
    }
