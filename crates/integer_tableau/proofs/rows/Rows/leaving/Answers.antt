use Rattle.std.proofs.Common.{◌≡◌, ◌<◌, ◌+◌, ◌∙◌, true, false, unsigned_abs, sym, ap, subst, arith, refl, rules, [], length, get_or, slice_index_or, pos, ℕ, ℤ, List, FitsSigned, w64}
use Rattle.std.proofs.lemmas.Int.{to_z-of_z}
use Rattle.std.specs.Prelude.{Option, None, Some, IfSome, int_lt}
use Rattle.std.specs.Option.{option_map}
use Rattle.std.proofs.lemmas.List.{length-map}
use Rattle.simplex_run.specs.Choice.{Ratio, least, ratio_of}
use Rattle.exact_num.specs.Fraction.{over}
use Rattle.fraction_tableau.specs.Candidates.{best_with, better_of}
use Rattle.run_equivalence.specs.IntegerRows.{IntegerRow, no_integer_row, number_at}
use Rattle.run_equivalence.proofs.PivotSteps.{size_above}
use Rattle.integer_tableau.specs.declared.ratios.Candidate.{Candidate}
use Rattle.integer_tableau.specs.Choices.{as_ratio, entry_of, right_side_of}
use Rattle.integer_tableau.specs.Rows.{beside_basics, row_in, integer_rows_in, row_at}
use Rattle.integer_tableau.specs.Stored.{rows_in}
use Rattle.integer_tableau.proofs.Choosing.{Chooses, chooses_taken, chooses_passed, chooses_on, chooses_end, front_beside, length-beside, row_place, in_row}
use Rattle.integer_tableau.proofs.Listed.{first_gap, later_gap, next_row, no_row, row_inside, row_is}
use Rattle.integer_tableau.proofs.Stored.{above_by_sign, rows_count}
use Rattle.integer_tableau.proofs.Written.{sign_there}
use Rattle.integer_tableau.proofs.rows.Rows.leaving.Goals.{then-sign-gt0, else-sign-gt0}
use Rattle.integer_tableau.proofs.rows.Rows.leaving.Goals as goal

pub loop-place-init : goal.loop-place-init
loop-place-init c =
    let t = c.args.self.now in
    let rows = rows_in t in
    let count = c.requires.count ∙ sym (rows_count t.is_wide.items t.short.rows t.wide.rows) in
    record {
      above = tt;
      chooses = chooses_on c.args.columns c.args.c c.args.basics.now rows 0 _ None c.requires.columns.0 count (first_gap c.args.c rows c.args.places.now c.requires.places) refl;
    }

pub row-requires : goal.row-requires
row-requires c =
    let t = c.args.self.now in
    let low = row_inside c.args.c (rows_in t) c.args.places.now c.requires.places c.loop-place.place-index c.loop-place-test.true in
    omega (arith, low, rows_count t.is_wide.items t.short.rows t.wide.rows)

pub ratio-requires-clause-row : goal.ratio-requires-clause-row
ratio-requires-clause-row c =
    let t = c.args.self.now in
    let low = row_inside c.args.c (rows_in t) c.args.places.now c.requires.places c.loop-place.place-index c.loop-place-test.true in
    omega (arith, low, rows_count t.is_wide.items t.short.rows t.wide.rows)

pub better-requires-clause-next : goal.better-requires-clause-next
better-requires-clause-next c =
    let t = c.args.self.now in
    let k = c.args.columns in
    let rows = rows_in t in
    let i = slice_index_or c.args.places.now c.loop-place.place-index 0 in
    let sign = slice_index_or c.row.result.now (c.args.c + 1) (pos 0) in
    let fits : FitsSigned w64 sign = search rules in
    let low = row_inside c.args.c rows c.args.places.now c.requires.places c.loop-place.place-index c.loop-place-test.true in
    let count = rows_count t.is_wide.items t.short.rows t.wide.rows in
    let inside : i < length t.short.rows = omega (arith, low, count) in
    let alike = above_by_sign _ _ (sign_there (k + 1) c.args.c i t (omega (arith, c.requires.columns.0)) inside (omega (arith, inside, t.wide_count)) (c.requires.stored.1.rows i inside)) in
    let above : int_lt (pos 0) sign ≡ true = simp to_z-of_z at c.if-sign-gt0.true in
    let here = sym alike ∙ ap (λ (x : List ℤ). int_lt (pos 0) (number_at x (c.args.c + 1))) (sym c.row.ensures.row) ∙ above in
    subst (λ (n : ℕ). 0 < n) (sym c.ratio.ensures.entry) (size_above (number_at (row_at rows i) (c.args.c + 1)) here).1

pub loop-place-preserved : goal.loop-place-preserved
loop-place-preserved c =
    let self = c.args.self.now in
    let k = c.args.columns in
    let w = k + 1 in
    let rows = rows_in self in
    let basics = c.args.basics.now in
    let places = c.args.places.now in
    let t = c.loop-place.place-index in
    let i = slice_index_or places t 0 in
    let x = row_at rows i in
    let lines = integer_rows_in w rows in
    let all = beside_basics basics lines in
    let count = length-map rows (row_in w) in
    let many = rows_count self.is_wide.items self.short.rows self.wide.rows in
    let same = c.requires.count ∙ sym many in
    let low : i < length rows = row_inside c.args.c rows places c.requires.places t c.loop-place-test.true in
    let inside : i < length self.short.rows = omega (arith, low, many) in
    let in_basics : i < length basics = omega (arith, low, same) in
    let in_rows : i < length lines = omega (arith, low, count) in
    let b = slice_index_or basics i 0 in
    let l = get_or lines i no_integer_row in
    let is_integer_row = row_place w rows i no_integer_row low in
    let sign = slice_index_or c.row.result.now (c.args.c + 1) (pos 0) in
    let fits : FitsSigned w64 sign = search rules in
    let alike = above_by_sign _ _ (sign_there w c.args.c i self (omega (arith, c.requires.columns.0)) inside (omega (arith, inside, self.wide_count)) (c.requires.stored.1.rows i inside)) in
    let is_sign = sym alike ∙ ap (λ (z : List ℤ). int_lt (pos 0) (number_at z (c.args.c + 1))) (sym c.row.ensures.row) in
    let is_side = ap (λ (m : IntegerRow). number_at m.numbers k) is_integer_row ∙ in_row w x k (omega arith) in
    let is_entry = ap (λ (m : IntegerRow). number_at m.numbers c.args.c) is_integer_row ∙ in_row w x c.args.c (omega (arith, c.requires.columns.0)) in
    let front = front_beside basics lines i no_integer_row in_basics in_rows in
    let here : Chooses k c.args.c all i (option_map as_ratio c.loop-place.best) = subst (λ (n : ℕ). Chooses k c.args.c all n (option_map as_ratio c.loop-place.best)) (row_is c.args.c rows places c.requires.places t c.loop-place-test.true) c.loop-place.invariant.chooses in
    let on : (best : Option Ratio) → Chooses k c.args.c all (i + 1) best → Chooses k c.args.c all (next_row places (t + 1) rows) best = λ best g. chooses_on k c.args.c basics rows (i + 1) _ best c.requires.columns.0 same (later_gap c.args.c rows places c.requires.places t c.loop-place-test.true) g in
    elim c.if-sign-gt0.branch [
      | then-sign-gt0 u ↦
          (let above : int_lt (pos 0) sign ≡ true = simp to_z-of_z at u.if-sign-gt0.true in
          let more = chooses_taken k c.args.c all i b l (option_map as_ratio c.loop-place.best) front (ap (int_lt (pos 0)) is_entry ∙ is_sign ∙ above) here in
          let q = u.ratio.ensures in
          let next : ratio_of i b (over (right_side_of u.ratio.result) (entry_of u.ratio.result)) ≡ ratio_of i b (over (number_at l.numbers k) (unsigned_abs (number_at l.numbers c.args.c))) = λ j. ratio_of i b (over ((q.right_side ∙ sym is_side) j) ((q.entry ∙ ap unsigned_abs (sym is_entry)) j)) in
          let told = u.better.ensures.ratio ∙ ap (better_of (option_map as_ratio c.loop-place.best)) next in
          record {
            above = subst (λ (o : Option Candidate). IfSome o (λ p. 0 < entry_of p.ratio)) (sym u.best-is) u.better.ensures.above;
            chooses = on _ (subst (λ (o : Option Ratio). Chooses k c.args.c all (i + 1) o) (sym (ap (option_map as_ratio) u.best-is ∙ ap Some told)) more);
          })
      | else-sign-gt0 u ↦
          (let below : int_lt (pos 0) sign ≡ false = simp to_z-of_z at u.if-sign-gt0.false in
          let more = chooses_passed k c.args.c all i b l (option_map as_ratio c.loop-place.best) front (ap (int_lt (pos 0)) is_entry ∙ is_sign ∙ below) here in
          record {
            above = subst (λ (o : Option Candidate). IfSome o (λ p. 0 < entry_of p.ratio)) (sym u.best-is) c.loop-place.invariant.above;
            chooses = on _ (subst (λ (o : Option Ratio). Chooses k c.args.c all (i + 1) o) (sym (ap (option_map as_ratio) u.best-is)) more);
          })
    ]

pub returns-in-None : goal.returns-in-None
returns-in-None c =
    let self = c.args.self.now in
    let rows = rows_in self in
    let lines = integer_rows_in (c.args.columns + 1) rows in
    let same = c.requires.count ∙ sym (rows_count self.is_wide.items self.short.rows self.wide.rows) in
    let count = length-map rows (row_in (c.args.columns + 1)) in
    let many = length-beside c.args.basics.now lines (same ∙ sym count) in
    let end = no_row c.args.c rows c.args.places.now c.requires.places c.loop-place.place-index (omega (arith, c.loop-place-test.false)) in
    ap (λ (b : Option Candidate). best_with (option_map as_ratio b) []) (sym c.in-None.is) ∙ chooses_end _ _ (beside_basics c.args.basics.now lines) _ _ (omega (arith, many, count, end)) c.loop-place.invariant.chooses

pub returns-in-Some : goal.returns-in-Some
unfolding least
returns-in-Some c =
    let self = c.args.self.now in
    let rows = rows_in self in
    let lines = integer_rows_in (c.args.columns + 1) rows in
    let same = c.requires.count ∙ sym (rows_count self.is_wide.items self.short.rows self.wide.rows) in
    let count = length-map rows (row_in (c.args.columns + 1)) in
    let many = length-beside c.args.basics.now lines (same ∙ sym count) in
    let end = no_row c.args.c rows c.args.places.now c.requires.places c.loop-place.place-index (omega (arith, c.loop-place-test.false)) in
    ap (λ (b : Option Candidate). best_with (option_map as_ratio b) []) (sym c.in-Some.is) ∙ chooses_end _ _ (beside_basics c.args.basics.now lines) _ _ (omega (arith, many, count, end)) c.loop-place.invariant.chooses
