-- A program that is given to a space, and what its run tells.
use Rattle.std.proofs.Common.{◌≡◌, ℕ, ◌+◌, ◌*◌, ◌<◌, ◌≤◌, List, [], ◌∷◌, length, map, take, pos, refl, sym, ◌∙◌, ap, subst, arith}
use Rattle.std.specs.Prelude.{Result, Err, slice_index_or}
use Rattle.std.proofs.lemmas.Int.{ints}
use Rattle.std.proofs.lemmas.List.{length-map, length-append, take-map, take_more}
use Rattle.std.proofs.lemmas.Nat.{mul-le}
use Rattle.exact_num.specs.declared.misfit.Wide.{Wide}
use Rattle.exact_num.specs.Fraction.{Fraction, IsLowest, IsNotBelowZero}
use Rattle.exact_num.proofs.Values.{whole_is_lowest}
use Rattle.simplex_run.specs.Places.{at, fraction_zero}
use Rattle.simplex_run.specs.Program.{LinearProgram}
use Rattle.simplex_run.specs.Ending.{Ending, done, unbounded, wide_at, no_unit_left}
use Rattle.simplex_run.specs.Optimum.{IsProgram}
use Rattle.simplex_run.specs.Choose.{bases_of}
use Rattle.simplex_run.specs.Units.{units_of}
use Rattle.simplex_run.proofs.FirstTable.{append_has, one_has}
use Rattle.simplex_run.proofs.Suffice.{units_suffice}
use Rattle.simplex_run.specs.Table.{Table as TableOf, first_table}
use Rattle.simplex_run.specs.Run.{Optimum, read_off, run, run_from}
use Rattle.fraction_tableau.specs.Programs.{empty_program, program_of, with_row}
use Rattle.fraction_tableau.proofs.ArenaSteps.{lowest_all}
use Rattle.fraction_tableau.proofs.EntrySteps.{at-map}
use Rattle.fraction_tableau.proofs.Starts.{program_more}
use Rattle.fraction_tableau.specs.declared.sparse.SparseProgram.{SparseProgram}
use Rattle.fraction_tableau.specs.SparseRows.{lists_of, HasRoom, KeepsRoom}
use Rattle.fraction_tableau.proofs.Parts.{length-rows}
use Rattle.simplex.specs.declared.run.End.{End}
use Rattle.simplex.specs.declared.stop.RunStop.{RunStop}
use Rattle.simplex.specs.declared.stop.RunStop.TheVariants.{Wide as RunWide, Budget as RunBudget}
use Rattle.simplex.specs.Ends.{ending_of}
use Rattle.fraction_tableau.specs.declared.table.Table.{Table}
use Rattle.fraction_tableau.specs.Lists.{front}
use Rattle.fraction_tableau.specs.Tables.{as_table, program_in, SameShape}
use Rattle.simplex.specs.declared.stage.Stage.{Stage}
use Rattle.simplex.specs.declared.stage.Stage.TheVariants.{Empty, Given, Optimal, Unbounded, WholeOptimal, WholeUnbounded, Stopped}
use Rattle.integer_tableau.specs.declared.table.WholeTable.{WholeTable}
use Rattle.fraction_tableau.specs.declared.columns.Entering.{Entering}
use Rattle.integer_tableau.specs.Tables.{as_whole}
use Rattle.simplex.specs.Spaces.{Contents, found, stopped, answer_of, contents_after, optimum_in, whole_optimum_in, contents_of, program_given, IsProgramGiven, IsFound, IsAt, direction_of}

-- ---- numbers of the code
none_at : (P : Fraction → Type 0) → P fraction_zero → (j : ℕ) → P (at [] j)
none_at P z j = z

zero_not_below : IsNotBelowZero fraction_zero
zero_not_below = omega (arith, ints)

-- ---- the program that is being given
pub empty_is_program : {A : Type 0} (value : A → Fraction) (costs : List A) → ((a : A) → IsLowest (value a)) → IsProgram (empty_program (map value costs))
empty_is_program value costs low =
    record {
      coefficients = record { count = omega arith; lowest = none_at IsLowest (whole_is_lowest (pos 0)) };
      right_sides = record { count = refl; lowest = none_at IsLowest (whole_is_lowest (pos 0)); sign = none_at IsNotBelowZero zero_not_below };
      costs = record { count = refl; lowest = lowest_all value low costs };
    }

pub row_is_program : {A : Type 0} (value : A → Fraction) (p : LinearProgram) (a : List A) (b : A) → ((a : A) → IsLowest (value a)) → IsProgram p → length a ≡ p.variables → IsNotBelowZero (value b) → IsProgram (with_row p (map value a) (value b))
row_is_program value p a b low g width sign =
    record {
      coefficients = record {
        count = omega (arith, length-append p.coefficients (map value a), length-map a value, g.coefficients.count, width);
        lowest = append_has IsLowest p.coefficients (map value a) g.coefficients.lowest (lowest_all value low a);
      };
      right_sides = record {
        count = omega (arith, length-append p.right_sides (value b ∷ []), g.right_sides.count);
        lowest = append_has IsLowest p.right_sides (value b ∷ []) g.right_sides.lowest (one_has IsLowest (value b) (whole_is_lowest (pos 0)) (low b));
        sign = append_has IsNotBelowZero p.right_sides (value b ∷ []) g.right_sides.sign (one_has IsNotBelowZero (value b) zero_not_below sign);
      };
      costs = g.costs;
    }

-- ---- the run over the first table is that of the program
pub run_is : (limit left spent after n m : ℕ) (p : LinearProgram) (first last : TableOf) (result : Result End RunStop) → n ≡ p.variables → m ≡ p.rows → first ≡ first_table p
    → ending_of n m result after last ≡ run_from limit n m left spent first → ending_of n m result after last ≡ run limit p left spent
unfolding run
run_is limit left spent after n m p first last result is_n is_m is_first h =
    h
    ∙ ap (λ k. run_from limit k m left spent first) is_n
    ∙ ap (λ k. run_from limit p.variables k left spent first) is_m
    ∙ ap (run_from limit p.variables p.rows left spent) is_first

pub found_is : (n m spent : ℕ) (c : TableOf) → read_off n m c spent ≡ done (optimum_in n m c) spent
unfolding read_off
found_is n m spent c = refl

-- want of a unit
pub out_of_units : (limit left spent after : ℕ) (p : LinearProgram) → IsProgram p → run limit p left spent ≡ no_unit_left after → left < bases_of p
out_of_units limit left spent after p g h = units_suffice limit p left spent after g h

-- a stop, by what the run over the table answered
pub stop_answer : (n m spent : ℕ) (c : TableOf) (result : Result End RunStop) (stop : RunStop) (E : Ending Optimum) → result ≡ Err stop → ending_of n m result spent c ≡ E → ((unit : ℕ) (wide : Wide) → result ≡ Err (RunWide unit wide) → spent ≡ unit)
    → (Err stop ≡ answer_of E) × (stopped ≡ contents_after E) × (spent ≡ units_of E)
stop_answer n m spent c result (RunWide unit wide) E is_err h units =
    let e : wide_at spent wide ≡ E = ap (λ r. ending_of n m r spent c) (sym is_err) ∙ h in
    let same = units unit wide is_err in
    (ap (λ k. Err (RunWide k wide)) (sym same) ∙ ap answer_of e, ap contents_after e, ap units_of e)
stop_answer n m spent c result RunBudget E is_err h units =
    let e : no_unit_left spent ≡ E = ap (λ r. ending_of n m r spent c) (sym is_err) ∙ h in
    (ap answer_of e, ap contents_after e, ap units_of e)

pub stop_enough : (limit left before : ℕ) (p : LinearProgram) (E : Ending Optimum) → IsProgram p → run limit p left before ≡ E → Err RunBudget ≡ answer_of E → left < bases_of p
stop_enough limit left before p (done answer spent) g h e = absurd cc
stop_enough limit left before p (unbounded d spent) g h e = absurd cc
stop_enough limit left before p (wide_at spent wide) g h e = absurd cc
stop_enough limit left before p (no_unit_left spent) g h e = out_of_units limit left before spent p g h

-- ---- what the contents say of the fields
pub program_is_given : {A : Type 0} (value : A → Fraction) (limit : ℕ) (stage : Stage) (p : LinearProgram) (t : Table A) (w : WholeTable) (c : Contents) → contents_of value stage p t w ≡ c → IsProgramGiven c → IsAt limit stage p t w
    → (stage ≡ Given) × (program_given c ≡ p) × IsProgram p
program_is_given value limit Empty p t w c e h at_stage = absurd (subst IsProgramGiven (sym e) h)
program_is_given value limit Given p t w c e h at_stage = (refl, ap program_given (sym e), at_stage)
program_is_given value limit Optimal p t w c e h at_stage = absurd (subst IsProgramGiven (sym e) h)
program_is_given value limit (Unbounded k) p t w c e h at_stage = absurd (subst IsProgramGiven (sym e) h)
program_is_given value limit WholeOptimal p t w c e h at_stage = absurd (subst IsProgramGiven (sym e) h)
program_is_given value limit (WholeUnbounded k) p t w c e h at_stage = absurd (subst IsProgramGiven (sym e) h)
program_is_given value limit Stopped p t w c e h at_stage = absurd (subst IsProgramGiven (sym e) h)

-- an optimum of rows of whole numbers
pub whole_is_there : {A : Type 0} (value : A → Fraction) (stage : Stage) (p : LinearProgram) (t : Table A) (w : WholeTable) (c : Contents) → contents_of value stage p t w ≡ c → stage ≡ WholeOptimal
    → c ≡ found (whole_optimum_in (length w.labels.items) (length w.basics.items) (as_whole w))
whole_is_there value stage p t w c e is = sym e ∙ ap (λ (st : Stage). contents_of value st p t w) is

-- or else one of fractions
pub optimum_is_there : {A : Type 0} (value : A → Fraction) (stage : Stage) (p : LinearProgram) (t : Table A) (w : WholeTable) (c : Contents) → contents_of value stage p t w ≡ c → IsFound c → (stage ≡ WholeOptimal → ⊥)
    → c ≡ found (optimum_in (length t.labels.items) (length t.rows.rows) (as_table value t))
optimum_is_there value Empty p t w c e h other = absurd (subst IsFound (sym e) h)
optimum_is_there value Given p t w c e h other = absurd (subst IsFound (sym e) h)
optimum_is_there value Optimal p t w c e h other = sym e
optimum_is_there value (Unbounded k) p t w c e h other = absurd (subst IsFound (sym e) h)
optimum_is_there value WholeOptimal p t w c e h other = absurd (other refl)
optimum_is_there value (WholeUnbounded k) p t w c e h other = absurd (subst IsFound (sym e) h)
optimum_is_there value Stopped p t w c e h other = absurd (subst IsFound (sym e) h)

no_direction : (j : ℕ) (c d : Contents) → d ≡ c → length (direction_of d) ≡ 0 → j < length (direction_of c) → ⊥
no_direction j c d e none low = let q = ap (λ (x : Contents). length (direction_of x)) e in omega (arith, q, none, low)

-- a direction is one of fractions or of rows of whole numbers
pub direction_is_there : {A : Type 0} (value : A → Fraction) (stage : Stage) (p : LinearProgram) (t : Table A) (w : WholeTable) (c : Contents) (j : ℕ) → contents_of value stage p t w ≡ c → j < length (direction_of c)
    → ((h : Entering) → stage ≡ Unbounded h → ⊥) → ((k : Entering) → stage ≡ WholeUnbounded k → ⊥) → ⊥
direction_is_there value Empty p t w c j e low not_plain not_whole = no_direction j c _ e refl low
direction_is_there value Given p t w c j e low not_plain not_whole = no_direction j c _ e refl low
direction_is_there value Optimal p t w c j e low not_plain not_whole = no_direction j c _ e refl low
direction_is_there value (Unbounded h) p t w c j e low not_plain not_whole = not_plain h refl
direction_is_there value WholeOptimal p t w c j e low not_plain not_whole = no_direction j c _ e refl low
direction_is_there value (WholeUnbounded k) p t w c j e low not_plain not_whole = not_whole k refl
direction_is_there value Stopped p t w c j e low not_plain not_whole = no_direction j c _ e refl low

-- ---- the run in a space
pub ending_is : {A : Type 0} (value : A → Fraction) (limit left spent after : ℕ) (t t1 t2 : Table A) (result : Result End RunStop)
    → as_table value t1 ≡ first_table (program_in value t) → SameShape t t1 → SameShape t1 t2
    → ((n m : ℕ) → ending_of n m result after (as_table value t2) ≡ run_from limit n m left spent (as_table value t1))
    → ending_of (length t2.labels.items) (length t2.rows.rows) result after (as_table value t2) ≡ run limit (program_in value t) left spent
ending_is value limit left spent after t t1 t2 result first s1 s2 h =
    let p = program_in value t in
    let n : length t2.labels.items ≡ p.variables = s2.columns ∙ s1.columns in
    let m : length t2.rows.rows ≡ p.rows = s2.rows ∙ s1.rows ∙ sym (length-map t.rows.rows (front value (length t.labels.items + 1))) in
    run_is limit left spent after (length t2.labels.items) (length t2.rows.rows) p (as_table value t1) (as_table value t2) result n m first (h (length t2.labels.items) (length t2.rows.rows))

pub program_stands : (limit : ℕ) (p : LinearProgram) (c : Contents) → IsProgram p → program_given c ≡ p → IsProgram (program_given c)
program_stands limit p c g same = subst IsProgram (sym same) g

-- ---- the program, given to a table

-- one row more, of those that are listed
pub one_given : {A : Type 0} (value : A → Fraction) (n : ℕ) (lists : List (List Fraction)) (costs : List Fraction) (p new : LinearProgram) (line a : List A) (b : A) (i : ℕ) → p ≡ program_of n (take i lists) costs → new ≡ with_row p (map value a) (value b)
    → i < length lists → map value line ≡ slice_index_or lists i [] → a ≡ take n line → n < length line → b ≡ slice_index_or line n b → new ≡ program_of n (take (i + 1) lists) costs
one_given value n lists costs p new line a b i is more low row front wide last =
    let first : map value a ≡ take n (slice_index_or lists i []) = ap (map value) front ∙ sym (take-map value n line) ∙ ap (take n) row in
    let side : value b ≡ at (slice_index_or lists i []) n = sym (at-map value line n b wide last) ∙ ap (λ l. at l n) row in
    more
    ∙ (λ k. with_row (is k) (first k) (side k))
    ∙ sym (program_more n (take i lists) (slice_index_or lists i []) costs)
    ∙ ap (λ l. program_of n l costs) (sym (take_more lists i [] low))

-- ---- its room
pub room_kept : {A : Type 0} (rows columns : ℕ) (old new : SparseProgram A) → HasRoom rows columns old → KeepsRoom old new → HasRoom rows columns new
room_kept rows columns old new h k =
    let costs = h.costs in
    let ends = h.ends in
    let entries = h.entries in
    record { costs = omega (arith, costs, k.costs); ends = omega (arith, ends, k.ends); entries = omega (arith, entries, k.entries) }

pub room_for_row : (rows columns ends costs room : ℕ) → ends < rows → costs ≤ columns → rows * (columns + 1) ≤ room → (ends + 1) * (costs + 1) ≤ room
room_for_row rows columns ends costs room low few h =
    let product = mul-le (ends + 1) (costs + 1) rows (columns + 1) (omega (arith, low)) (omega (arith, few)) in
    omega (arith, product, h)

pub rows_listed : {A : Type 0} (value : A → Fraction) (p : SparseProgram A) → length (lists_of value p) ≡ length p.ends.items
rows_listed value p = length-rows value (length p.costs.items + 1) p.entries.items 0 p.ends.items

pub empty_is_not_given : Empty ≡ Given → ⊥
empty_is_not_given e = cc
