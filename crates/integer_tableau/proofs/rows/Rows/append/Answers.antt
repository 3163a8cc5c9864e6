use Rattle.std.proofs.Common.{◌≡◌, ◌∙◌, refl, sym, ap, arith, false, ℕ, ℤ, List, [], ◌∷◌, ◌++◌, length, set, get_or}
use Rattle.run_equivalence.specs.IntegerRows.{widest}
use Rattle.integer_tableau.specs.Stored.{rows_in, rows_of}
use Rattle.integer_tableau.proofs.Changed.{appended, flag_unset}
use Rattle.integer_tableau.proofs.Stored.{flag_unread, rows_more}
use Rattle.integer_tableau.proofs.rows.Rows.append.Goals as goal

pub returns-clause-rows : goal.returns-clause-rows
returns-clause-rows c =
    let t = c.make_wide_room.new.self in
    let row = c.args.row.now in
    let flags = set t.is_wide.items c.len-i.result false in
    let unset : get_or flags (length t.short.rows) false ≡ false = ap (λ (n : ℕ). get_or (set t.is_wide.items n false) (length t.short.rows) false) c.len-i.ensures ∙ flag_unset t.is_wide.items (length t.short.rows) in
    let unread : rows_of flags t.short.rows t.wide.rows ≡ rows_in t = ap (λ (n : ℕ). rows_of (set t.is_wide.items n false) t.short.rows t.wide.rows) c.len-i.ensures ∙ flag_unread t.is_wide.items t.short.rows t.wide.rows false in
    ap (λ (rows : List (List ℤ)). rows_of flags rows t.wide.rows) c.append.ensures.rows ∙ rows_more flags t.short.rows t.wide.rows row unset ∙ ap (λ (rows : List (List ℤ)). rows ++ row ∷ []) (unread ∙ c.make_wide_room.ensures.rows)

pub returns-clause-stored : goal.returns-clause-stored
returns-clause-stored c =
    let t = c.make_wide_room.new.self in
    let row = c.args.row.now in
    λ limit w s wider line.
    appended limit w t _ row
    (record {
      rows = returns-clause-rows c ∙ ap (λ (rows : List (List ℤ)). rows ++ row ∷ []) (sym c.make_wide_room.ensures.rows);
      short = c.append.ensures.rows;
      wide = refl;
      flags = ap (λ (n : ℕ). set t.is_wide.items n false) c.len-i.ensures;
      sizes = ap (λ (n : ℕ). set t.sizes.items n widest) c.len-i.ensures;
      room = omega arith;
    }) (c.make_wide_room.ensures.stored limit w s) line wider
