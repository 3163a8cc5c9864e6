use Rattle.std.proofs.Common.{◌∙◌, refl, ap, arith, ℤ, List, [], ◌∷◌}
use Rattle.std.proofs.lemmas.List.{get_or_append_left}
use Rattle.integer_tableau.specs.Rows.{row_at}
use Rattle.integer_tableau.specs.Stored.{rows_of}
use Rattle.integer_tableau.proofs.Standing.{all_stored}
use Rattle.integer_tableau.proofs.Stored.{room_unread}
use Rattle.integer_tableau.proofs.rows.Rows.make_wide_room.Goals as goal

pub returns-then-len-clause-rows : goal.returns-then-len-clause-rows
returns-then-len-clause-rows c =
    let t = c.args.self.now in
    ap (rows_of t.is_wide.items t.short.rows) c.append.ensures.rows ∙ room_unread t.is_wide.items t.short.rows t.wide.rows c.as_slice.result.now t.wide_count

pub returns-then-len-clause-stored : goal.returns-then-len-clause-stored
returns-then-len-clause-stored c limit w s =
    let t = c.args.self.now in
    let same = returns-then-len-clause-rows c in
    all_stored limit w t _ same refl
    (λ j low. record {
      row = ap (λ (rows : List (List ℤ)). row_at rows j) same;
      size = refl;
      flag = refl;
      short = refl;
      wide = ap (λ (rows : List (List ℤ)). row_at rows j) c.append.ensures.rows ∙ get_or_append_left t.wide.rows (c.as_slice.result.now ∷ []) [] j (omega (arith, low, t.wide_count));
    }) s
