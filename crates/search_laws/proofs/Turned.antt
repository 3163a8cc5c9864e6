-- Each pivoted makes at most one more slack a variable that is not basic, and only those have a dual
-- value above 0.
use Rattle.std.proofs.Common.{◌≡◌, ℕ, zero, suc, ◌+◌, ◌-◌, ◌≤◌, ◌<◌, List, [], ◌∷◌, length, take, arith, refl, sym, ◌∙◌, ap, subst, pos, Bool, true, false, nat_eq}
use Rattle.std.specs.Prelude.{Option, Some, None, if◌then◌else◌}
use Rattle.std.proofs.lemmas.Bool.Decides.{nat_tests}
use Rattle.std.proofs.lemmas.List.{take_all}
use Rattle.arithmetic.proofs.Tests.{int_lt-yes}
use Rattle.exact_num.specs.Fraction.{Fraction, IsLowest}
use Rattle.exact_num.specs.Rationals.{0Q, value}
use Rattle.exact_num.specs.Tests.{is_above_zero}
use Rattle.exact_num.proofs.Rationals.{zero_has, value_of_lowest, value_zero}
use Rattle.exact_num.proofs.Values.{whole_is_lowest}
use Rattle.simplex_run.specs.Places.{at, fraction_zero}
use Rattle.simplex_run.specs.Program.{LinearProgram}
use Rattle.simplex_run.specs.Table.{Table, with_right, basic_at, no_entry, first_table, right_side}
use Rattle.simplex_run.specs.Choice.{Column, entering, least}
use Rattle.simplex_run.specs.Ending.{unbounded, wide_at, no_unit_left}
use Rattle.simplex_run.specs.Run.{PivotEnd, moved, unlimited, stopped, pivoted, on_pivot, on_entering, reduced_cost_of, dual, direction, read_off, run_from, run}
use Rattle.simplex_run.specs.Optimum.{IsProgram}
use Rattle.simplex_run.specs.Tableau.{tableau_of}
use Rattle.simplex_run.proofs.Bland.{IsIn}
use Rattle.simplex_run.proofs.Choices.{moved_out, bland_pivot}
use Rattle.simplex_run.proofs.Entries.{entry_has}
use Rattle.simplex_run.proofs.FirstTable.{basic_first, first_value}
use Rattle.simplex_run.proofs.Listed.{listed_count, listed_from}
use Rattle.simplex_run.proofs.Optima.{Keeps, keeps_first, keeps_pivot, above_apart}
use Rattle.search_laws.specs.Sizes.{one_if, count_above, IsTurned, RunsAreTurned}

-- ---- sets of numbers, by their tests
-- how many of the numbers below n are in the set
marked : ℕ → (ℕ → Bool) → ℕ
marked zero s = 0
marked (suc n) s = one_if (s 0) + marked n (λ i. s (suc i))

one_within : (a b : Bool) → (a ≡ true → b ≡ true) → one_if a ≤ one_if b
one_within false b h = omega arith
one_within true b h = rw (h refl) (omega arith)

marked_within : (n : ℕ) (s t : ℕ → Bool) → ((i : ℕ) → s i ≡ true → t i ≡ true) → marked n s ≤ marked n t
unfolding marked
marked_within zero s t h = omega arith
marked_within (suc n) s t h = omega (arith, one_within (s 0) (t 0) (h 0), marked_within n (λ i. s (suc i)) (λ i. t (suc i)) (λ i. h (suc i)))

-- a set with at most one number more
marked_more : (n k : ℕ) (s t : ℕ → Bool) → ((i : ℕ) → s i ≡ true → (i ≡ k → ⊥) → t i ≡ true) → marked n s ≤ marked n t + 1
unfolding marked
marked_more zero k s t h = omega arith
marked_more (suc n) zero s t h =
    let rest = marked_within n (λ i. s (suc i)) (λ i. t (suc i)) (λ i is. h (suc i) is (λ e. omega (arith, e))) in
    let first : one_if (s 0) ≤ 1 = at_most_one (s 0) in
    omega (arith, first, rest)
  where
    at_most_one : (b : Bool) → one_if b ≤ 1
    at_most_one true = omega arith
    at_most_one false = omega arith
marked_more (suc n) (suc k) s t h =
    let rest = marked_more n k (λ i. s (suc i)) (λ i. t (suc i)) (λ i is ne. h (suc i) is (λ e. ne (omega (arith, e)))) in
    omega (arith, rest, one_within (s 0) (t 0) (λ is. h 0 is (λ e. omega (arith, e))))

marked_none : (n : ℕ) → marked n (λ i. false) ≡ 0
unfolding marked
marked_none zero = refl
marked_none (suc n) = omega (arith, marked_none n)

-- the entries above 0 of a list are marked
above_marked : (n : ℕ) (fs : List Fraction) (s : ℕ → Bool) → ((i : ℕ) → i < n → is_above_zero (at fs i) ≡ true → s i ≡ true) → count_above (take n fs) ≤ marked n s
unfolding marked
above_marked zero fs s h = omega arith
above_marked (suc n) [] s h = omega arith
above_marked (suc n) (f ∷ fs) s h =
    omega (arith, one_within (is_above_zero f) (s 0) (h 0 (omega arith)), above_marked n fs (λ i. s (suc i)) (λ i lt. h (suc i) (omega (arith, lt))))

-- ---- a value 0
zero_is_not_above : (x : Fraction) → IsLowest x → value x ≡ 0Q → is_above_zero x ≡ true → ⊥
zero_is_not_above x low e above = above_apart x.numerator (int_lt-yes (pos 0) x.numerator above) (subst (λ (f : Fraction). f.numerator ≡ pos 0) (value_of_lowest x low) (zero_has (value x) e))

-- ---- what each pivoted keeps
-- after so many units: a set with at most as many slacks as turns; every other slack is basic
record Turned (p : LinearProgram) (start units : ℕ) (t : Table) : Type 0 where
  keeps : Keeps p t
  marks : ℕ → Bool
  few : start + marked p.rows marks ≤ units
  basic : (i : ℕ) → i < p.rows → marks i ≡ false → IsIn p.rows (tableau_of t) (p.variables + i)
  risen : is_above_zero (right_side (length t.labels) t.objective) ≡ true → start < units

first_turned : (p : LinearProgram) (start : ℕ) → IsProgram p → Turned p start start (first_table p)
first_turned p start g =
    let k = keeps_first p g in
    record {
      keeps = k;
      marks = λ i. false;
      few = omega (arith, marked_none p.rows);
      basic = λ i lt none. (i, lt, basic_first p i lt);
      risen = λ above. absurd (zero_is_not_above fraction_zero (whole_is_lowest (pos 0)) value_zero (ap is_above_zero (sym (ap (at (first_table p).objective) k.table.labels ∙ first_value p g)) ∙ above));
    }

-- the variable that leaves is one more
abbrev with_mark : ℕ → ℕ → (ℕ → Bool) → ℕ → Bool
with_mark n leaves marks i = if nat_eq (n + i) leaves then true else marks i

mark_in : (n leaves i : ℕ) (marks : ℕ → Bool) → with_mark n leaves marks i ≡ true → (i ≡ leaves - n → ⊥) → marks i ≡ true
mark_in n leaves i marks h ne = by (nat_eq (n + i) leaves) refl h
  where
    by : (b : Bool) → nat_eq (n + i) leaves ≡ b → (if b then true else marks i) ≡ true → marks i ≡ true
    by true e h = let same : n + i ≡ leaves = grind (arith, nat_tests) in absurd (ne (omega (arith, same)))
    by false e h = h

mark_out : (n leaves i : ℕ) (marks : ℕ → Bool) → with_mark n leaves marks i ≡ false → (marks i ≡ false) × (leaves ≡ n + i → ⊥)
mark_out n leaves i marks h = by (nat_eq (n + i) leaves) refl h
  where
    by : (b : Bool) → nat_eq (n + i) leaves ≡ b → (if b then true else marks i) ≡ false → (marks i ≡ false) × (leaves ≡ n + i → ⊥)
    by true e h = cc
    by false e h = (h, λ same. grind (arith, nat_tests))

next_turned : (limit : ℕ) (p : LinearProgram) (start units : ℕ) (t u : Table) (c : Column) → Turned p start units t → entering t ≡ Some c → pivoted limit c.place t ≡ moved u → Turned p start (units + 1) u
next_turned limit p start units t u c h enters turns =
    let m = p.rows in
    let k = h.keeps in
    let w = moved_out limit c.place t u turns in
    let r = (least w.0 w.1).place in
    let after = (bland_pivot limit p.variables m t u c w.0 w.1 k.table enters w.2 w.3).1.pivoted in
    let leaves = basic_at t.rows r in
    let marks = with_mark p.variables leaves h.marks in
    let more : marked m marks ≤ marked m h.marks + 1 = marked_more m (leaves - p.variables) marks h.marks (λ i is ne. mark_in p.variables leaves i h.marks is ne) in
    record {
      keeps = keeps_pivot p limit t u c k enters turns;
      marks = marks;
      few = omega (arith, h.few, more);
      basic = λ i lt none.
          let out = mark_out p.variables leaves i h.marks none in
          let is = h.basic i lt out.0 in
          (is.0, is.1, after.stays is.0 is.1 (λ same. out.1 (ap (basic_at t.rows) (sym same) ∙ is.2)) ∙ is.2);
      risen = λ above. omega (arith, h.few);
    }

-- ---- the end
dual_few : (p : LinearProgram) (start units : ℕ) (t : Table) → Turned p start units t → start + count_above (dual p.variables p.rows t) ≤ units
dual_few p start units t h =
    let slacks : List Fraction = dual p.variables p.rows t in
    let all : take p.rows slacks ≡ slacks = take_all p.rows slacks (omega (arith, listed_count (reduced_cost_of t) p.variables p.rows)) in
    subst (λ (fs : List Fraction). start + count_above fs ≤ units) all (omega (arith, h.few, above_marked p.rows slacks h.marks (λ i lt above. by i lt above (h.marks i) refl)))
  where
    by : (i : ℕ) → i < p.rows → is_above_zero (at (dual p.variables p.rows t) i) ≡ true → (b : Bool) → h.marks i ≡ b → h.marks i ≡ true
    by i lt above true e = e
    by i lt above false e =
        let is = h.basic i lt e in
        let x = reduced_cost_of t (p.variables + i) in
        let zero : value x ≡ 0Q = ap (tableau_of t).price (sym is.2) ∙ h.keeps.good.priced is.0 is.1 in
        let low = entry_has IsLowest no_entry (with_right t.columns t.labels) t.objective (p.variables + i) (whole_is_lowest (pos 0)) h.keeps.table.lowest_price in
        absurd (zero_is_not_above x low zero (subst (λ (f : Fraction). is_above_zero f ≡ true) (listed_from (reduced_cost_of t) p.variables p.rows i lt) above))

read_turned : (p : LinearProgram) (start units : ℕ) (t : Table) → Turned p start units t → IsTurned start (read_off p.variables p.rows t units)
unfolding read_off
read_turned p start units t h = (dual_few p start units t h, h.risen)

from_turned : (limit : ℕ) (p : LinearProgram) (start left units : ℕ) (t : Table) → Turned p start units t → IsTurned start (run_from limit p.variables p.rows left units t)
unfolding run_from
from_turned limit p start zero units t h = step (entering t)
  where
    step : (o : Option Column) → IsTurned start (on_entering o (read_off p.variables p.rows t units) (λ c. no_unit_left units))
    step None = read_turned p start units t h
    step (Some c) = tt
from_turned limit p start (suc left) units t h = step (entering t) refl (λ u k. from_turned limit p start left (units + 1) u k)
  where
    n : ℕ
    n = p.variables

    m : ℕ
    m = p.rows

    act : (c : Column) → entering t ≡ Some c → ((u : Table) → Turned p start (units + 1) u → IsTurned start (run_from limit n m left (units + 1) u)) → (w : PivotEnd) → pivoted limit c.place t ≡ w
        → IsTurned start (on_pivot w (λ next. run_from limit n m left (units + 1) next) (unbounded (direction n c t) (units + 1)) (λ w. wide_at (units + 1) w))
    act c enters later (moved u) turns = later u (next_turned limit p start units t u c h enters turns)
    act c enters later unlimited turns = tt
    act c enters later (stopped w) turns = tt

    step : (o : Option Column) → entering t ≡ o → ((u : Table) → Turned p start (units + 1) u → IsTurned start (run_from limit n m left (units + 1) u))
        → IsTurned start (on_entering o (read_off n m t units) (λ c. on_pivot (pivoted limit c.place t) (λ next. run_from limit n m left (units + 1) next) (unbounded (direction n c t) (units + 1)) (λ w. wide_at (units + 1) w)))
    step None enters later = read_turned p start units t h
    step (Some c) enters later = act c enters later (pivoted limit c.place t) refl

pub runs_are_turned : RunsAreTurned
unfolding run
runs_are_turned limit p left spent g = from_turned limit p spent left spent (first_table p) (first_turned p spent g)
