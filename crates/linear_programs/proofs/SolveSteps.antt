-- From the run in a space to what the call answers.
use Rattle.std.proofs.Common.{◌≡◌, ℕ, zero, suc, ◌+◌, ◌*◌, ◌<◌, List, [], ◌∷◌, ◌++◌, length, map, take, drop, true, false, refl, sym, ◌∙◌, ap, subst, arith}
use Rattle.std.specs.Prelude.{Result, Ok, Err}
use Rattle.std.proofs.lemmas.List.{take_more, take_all}
use Rattle.exact_num.specs.Fraction.{Fraction}
use Rattle.simplex_run.specs.Places.{at, fraction_zero}
use Rattle.simplex_run.specs.Program.{LinearProgram}
use Rattle.simplex_run.specs.Ending.{Ending, done, unbounded, wide_at, no_unit_left}
use Rattle.simplex_run.specs.Run.{Optimum, optimum}
use Rattle.simplex_run.specs.Optimum.{IsAsSaid}
use Rattle.simplex_run.specs.Units.{units_of}
use Rattle.fraction_tableau.specs.Programs.{empty_program, with_row}
use Rattle.simplex.specs.declared.stop.RunStop.{RunStop}
use Rattle.simplex.specs.declared.stop.RunStop.TheVariants.{Wide as RunWide, Budget as RunBudget}
use Rattle.linear_programs.specs.declared.solved.Solved.{Solved}
use Rattle.linear_programs.specs.declared.solved.Solved.TheVariants.{Optimal, Unbounded}
use Rattle.simplex.specs.declared.stop.SolveStop.TheVariants.{Budget as OutOfBudget}
use Rattle.simplex.specs.Stops.{stop_of}
use Rattle.simplex.specs.Spaces.{Contents, nothing, given, found, rising, stopped, IsFound, IsRising, x_of, y_of, reduced_of, direction_of, value_of, answer_of, contents_after}
use Rattle.linear_programs.specs.Answers.{solved_ending, solved_contents, IsAnswer, HoldsOf}

-- ---- what the run tells
pub solved_is : {A : Type 0} (value : A → Fraction) (E : Ending Optimum) (solved : Solved A) (spent : ℕ) → solved_contents value solved ≡ contents_after E → spent ≡ units_of E → E ≡ solved_ending value solved spent
solved_is value (done answer units) (Optimal x y reduced v) spent c u =
    let same : answer ≡ optimum (map value x.items) (map value y.items) (map value reduced.items) (value v) = cc in
    λ i. done (same i) (sym u i)
solved_is value (done answer units) (Unbounded d) spent c u = cc
solved_is value (unbounded direction units) (Optimal x y reduced v) spent c u = cc
solved_is value (unbounded direction units) (Unbounded d) spent c u = let same : direction ≡ map value d.items = cc in λ i. unbounded (same i) (sym u i)
solved_is value (wide_at units w) (Optimal x y reduced v) spent c u = cc
solved_is value (wide_at units w) (Unbounded d) spent c u = cc
solved_is value (no_unit_left units) (Optimal x y reduced v) spent c u = cc
solved_is value (no_unit_left units) (Unbounded d) spent c u = cc

pub stop_is : {A : Type 0} (value : A → Fraction) (E : Ending Optimum) (stop : RunStop) (spent : ℕ) → Err stop ≡ answer_of E → spent ≡ units_of E → IsAnswer value E (Err (stop_of stop)) spent
stop_is value (done answer units) stop spent a u = cc
stop_is value (unbounded direction units) stop spent a u = cc
stop_is value (wide_at units w) (RunWide unit wide) spent a u =
    let same : unit ≡ units = cc in
    let same_wide : wide ≡ w = cc in
    ((λ i. wide_at (sym same i) (sym same_wide i)), u ∙ sym same)
stop_is value (wide_at units w) RunBudget spent a u = cc
stop_is value (no_unit_left units) (RunWide unit wide) spent a u = cc
stop_is value (no_unit_left units) RunBudget spent a u = ap no_unit_left (sym u)

pub budget_is : (stop : RunStop) → stop_of stop ≡ OutOfBudget → stop ≡ RunBudget
budget_is (RunWide unit wide) e = cc
budget_is RunBudget e = refl

solved_holds : {A : Type 0} (value : A → Fraction) (p : LinearProgram) (solved : Solved A) (spent : ℕ) → IsAsSaid p (solved_ending value solved spent) → HoldsOf value p (Ok solved)
solved_holds value p (Optimal x y reduced v) spent h = h
solved_holds value p (Unbounded d) spent h = h

pub holds : {A : Type 0} (value : A → Fraction) (p : LinearProgram) (E : Ending Optimum) (solved : Solved A) (spent : ℕ) → IsAsSaid p E → E ≡ solved_ending value solved spent → HoldsOf value p (Ok solved)
holds value p E solved spent said e = solved_holds value p solved spent (subst (IsAsSaid p) e said)

pub err_same : {A E : Type 0} (result : Result A E) (a b : E) → result ≡ Err a → result ≡ Err b → a ≡ b
err_same result a b h k = cc

-- ---- the optimum and the direction that stand there
pub record HasOptimum (p : LinearProgram) (c : Contents) : Type 0 where
  pub is_found : IsFound c
  pub x : length (x_of c) ≡ p.variables
  pub y : length (y_of c) ≡ p.rows
  pub reduced : length (reduced_of c) ≡ p.variables

pub has_optimum : (p : LinearProgram) (E : Ending Optimum) (c : Contents) → IsAsSaid p E → Ok true ≡ answer_of E → c ≡ contents_after E → HasOptimum p c
has_optimum p (done (optimum x y reduced value) units) c said a e =
    subst (HasOptimum p) (sym e) (record { is_found = tt; x = said.x_sign.count; y = said.y_sign.count; reduced = said.reduced_sign.count })
has_optimum p (unbounded d units) c said a e = cc
has_optimum p (wide_at units w) c said a e = cc
has_optimum p (no_unit_left units) c said a e = cc

pub record HasDirection (p : LinearProgram) (c : Contents) : Type 0 where
  pub is_rising : IsRising c
  pub direction : length (direction_of c) ≡ p.variables

pub has_direction : (p : LinearProgram) (E : Ending Optimum) (c : Contents) → IsAsSaid p E → Ok false ≡ answer_of E → c ≡ contents_after E → HasDirection p c
has_direction p (done answer units) c said a e = cc
has_direction p (unbounded d units) c said a e = subst (HasDirection p) (sym e) (record { is_rising = tt; direction = said.sign.count })
has_direction p (wide_at units w) c said a e = cc
has_direction p (no_unit_left units) c said a e = cc

pub found_as : (c : Contents) (x y reduced : List Fraction) (v : Fraction) → IsFound c → x ≡ x_of c → y ≡ y_of c → reduced ≡ reduced_of c → v ≡ value_of c → found (optimum x y reduced v) ≡ c
found_as nothing x y reduced v f a b r e = absurd f
found_as (given p) x y reduced v f a b r e = absurd f
found_as (found (optimum x' y' reduced' v')) x y reduced v f a b r e = λ i. found (optimum (a i) (b i) (r i) (e i))
found_as (rising d) x y reduced v f a b r e = absurd f
found_as stopped x y reduced v f a b r e = absurd f

pub rising_as : (c : Contents) (d : List Fraction) → IsRising c → d ≡ direction_of c → rising d ≡ c
rising_as nothing d f e = absurd f
rising_as (given p) d f e = absurd f
rising_as (found o) d f e = absurd f
rising_as (rising d') d f e = ap rising e
rising_as stopped d f e = absurd f

-- ---- the program row by row: its first i rows
abbrev pub front_of_program : LinearProgram → ℕ → LinearProgram
front_of_program p i = record p { rows = i; coefficients = take (i * p.variables) p.coefficients; right_sides = take i p.right_sides }

pub no_row : (p : LinearProgram) → length p.costs ≡ p.variables → empty_program p.costs ≡ front_of_program p 0
no_row p e = let none : 0 * p.variables ≡ 0 = omega arith in rw none (ap (λ n. record { variables = n; rows = 0; coefficients = []; right_sides = []; costs = p.costs }) e)

taken_more : {A : Type 0} (i n : ℕ) (xs : List A) → take i xs ++ take n (drop i xs) ≡ take (i + n) xs
taken_more zero n xs = let none : 0 + n ≡ n = omega arith in rw none refl
taken_more (suc i) zero [] = let some : suc i + 0 ≡ suc i = omega arith in rw some refl
taken_more (suc i) (suc n) [] = let some : suc i + suc n ≡ suc (i + suc n) = omega arith in rw some refl
taken_more (suc i) n (x ∷ xs) = let some : suc i + n ≡ suc (i + n) = omega arith in rw some (ap (λ l. x ∷ l) (taken_more i n xs))

pub one_row_more : (p : LinearProgram) (i : ℕ) (a : List Fraction) (b : Fraction) → a ≡ take p.variables (drop (i * p.variables) p.coefficients) → b ≡ at p.right_sides i → i < length p.right_sides → with_row (front_of_program p i) a b ≡ front_of_program p (i + 1)
one_row_more p i a b is_a is_b low =
    let more : i * p.variables + p.variables ≡ (i + 1) * p.variables = omega arith in
    let coefficients = ap (λ l. take (i * p.variables) p.coefficients ++ l) is_a ∙ taken_more (i * p.variables) p.variables p.coefficients ∙ ap (λ k. take k p.coefficients) more in
    let sides = ap (λ z. take i p.right_sides ++ z ∷ []) is_b ∙ sym (take_more p.right_sides i fraction_zero low) in
    λ j. record p { rows = i + 1; coefficients = coefficients j; right_sides = sides j }

pub all_rows : (p : LinearProgram) (i : ℕ) → i ≡ p.rows → length p.coefficients ≡ p.rows * p.variables → length p.right_sides ≡ p.rows → front_of_program p i ≡ p
all_rows p i e c r =
    let coefficients = ap (λ k. take (k * p.variables) p.coefficients) e ∙ take_all (p.rows * p.variables) p.coefficients (omega (arith, c)) in
    let sides = ap (λ k. take k p.right_sides) e ∙ take_all p.rows p.right_sides (omega (arith, r)) in
    λ j. record p { rows = e j; coefficients = coefficients j; right_sides = sides j }

-- what stands there after the run
pub found_after : (E : Ending Optimum) → Ok true ≡ answer_of E → IsFound (contents_after E)
found_after (done answer spent) e = tt
found_after (unbounded d spent) e = absurd cc
found_after (wide_at spent wide) e = absurd cc
found_after (no_unit_left spent) e = absurd cc

pub rising_after : (E : Ending Optimum) → Ok false ≡ answer_of E → IsRising (contents_after E)
rising_after (done answer spent) e = absurd cc
rising_after (unbounded d spent) e = tt
rising_after (wide_at spent wide) e = absurd cc
rising_after (no_unit_left spent) e = absurd cc
