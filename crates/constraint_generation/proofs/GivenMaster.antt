-- The master program as it is given to a space row by row.
use Rattle.std.proofs.Common.{◌≡◌, ℕ, suc, ◌+◌, ◌<◌, ◌≤◌, List, [], ◌∷◌, ◌++◌, drop, get_or, length, map, replicate, pos, negsuc, arith, refl, sym, ap, subst, ◌∙◌, append_assoc}
use Rattle.std.specs.Prelude.{Result, Ok, Err, IfOk}
use Rattle.std.specs.List.{flat_map}
use Rattle.std.proofs.lemmas.Int.{ints}
use Rattle.std.proofs.lemmas.List.{append-nil, drop_all, length-append}
use Rattle.arithmetic.proofs.Lists.{item_first}
use Rattle.exact_num.specs.declared.misfit.Wide.{Wide as Misfit}
use Rattle.exact_num.specs.Fraction.{Fraction, IsNotBelowZero, whole, negated}
use Rattle.exact_num.specs.Fits.{after, meaning, whole_of}
use Rattle.simplex_run.specs.Places.{fraction_zero, unit_row}
use Rattle.simplex_run.specs.Program.{LinearProgram}
use Rattle.fraction_tableau.specs.Programs.{empty_program, with_row}
use Rattle.form.specs.declared.orders.Order.{Order}
use Rattle.form.specs.Vector.{scale_of}
use Rattle.simplex.specs.Spaces.{Contents, Workspace, IsProgramGiven, given, program_given}
use Rattle.master_program.specs.Laws.{unit_rows}
use Rattle.master_program.specs.Master.{map_steps, cost_steps, quantity_steps, entry_steps, quantity_rows, row_steps, rows_steps, master}
use Rattle.master_program.proofs.Steps.{whole_gives}
use Rattle.master_program.proofs.UnitRows.{quantity_rows_are_unit_rows}
use Rattle.pricing_oracle.specs.Built.{list_then}
use Rattle.pricing_oracle.specs.Programs.{IsOpen, given_with, with_rows}
use Rattle.pricing_oracle.proofs.GivenRows.{one_more, rows_end}
use Rattle.pricing_oracle.proofs.GivenSteps.{length-steps}
use Rattle.pricing_oracle.proofs.WholeProgram.{is_written}
use Rattle.constraint_generation.specs.Parts.{costs_steps, units_given, with_units}

-- ---- rows that begin with steps
first_stops : (old : List Fraction) (steps : Result (List Fraction) Misfit) (w : Misfit) → list_then old steps ≡ Err w → steps ≡ Err w
first_stops old (Ok xs) w h = cc
first_stops old (Err v) w h = h

first_there : (old mid : List Fraction) (steps : Result (List Fraction) Misfit) → old ≡ [] → list_then old steps ≡ Ok mid → steps ≡ Ok mid
first_there old mid steps none h = is_written steps mid (ap (λ (xs : List Fraction). list_then xs steps) (sym none) ∙ h)

-- ---- the costs
pub costs_written : (limit : ℕ) (orders : List Order) (old mid new : List Fraction) → old ≡ [] → list_then old (map_steps (cost_steps limit) orders) ≡ Ok mid → new ≡ mid ++ (whole (negsuc 0) ∷ []) → costs_steps limit orders ≡ Ok new
costs_written limit orders old mid new none h is =
    ap (λ r. after r (λ costs. Ok (costs ++ (whole (negsuc 0) ∷ [])))) (first_there old mid (map_steps (cost_steps limit) orders) none h) ∙ ap (λ (l : List Fraction). Ok l) (sym is)

pub costs_stop : (limit : ℕ) (orders : List Order) (old : List Fraction) (w : Misfit) → list_then old (map_steps (cost_steps limit) orders) ≡ Err w → costs_steps limit orders ≡ Err w
costs_stop limit orders old w h = ap (λ r. after r (λ costs. Ok (costs ++ (whole (negsuc 0) ∷ [])))) (first_stops old (map_steps (cost_steps limit) orders) w h)

pub costs_width : (limit : ℕ) (orders : List Order) (row : List Fraction) → costs_steps limit orders ≡ Ok row → length row ≡ length orders + 1
costs_width limit orders row h = go (map_steps (cost_steps limit) orders) refl h
  where
    go : (steps : Result (List Fraction) Misfit) → map_steps (cost_steps limit) orders ≡ steps → after steps (λ costs. Ok (costs ++ (whole (negsuc 0) ∷ []))) ≡ Ok row → length row ≡ length orders + 1
    go (Ok xs) is h =
        let same : xs ++ (whole (negsuc 0) ∷ []) ≡ row = cc in
        omega (arith, ap length same, length-append xs (whole (negsuc 0) ∷ []), length-steps (cost_steps limit) orders xs is)
    go (Err w) is h = cc

-- ---- the row of a state
pub row_there : (payoff_limit limit : ℕ) (orders : List Order) (z : List ℕ) (old mid new : List Fraction) (t : Fraction) → old ≡ [] → list_then old (map_steps (entry_steps payoff_limit limit z) orders) ≡ Ok mid
    → whole_of limit (pos (scale_of z)) ≡ Ok t → new ≡ mid ++ (negated t ∷ []) → row_steps payoff_limit limit orders z ≡ Ok new
unfolding row_steps
row_there payoff_limit limit orders z old mid new t none h t_is is =
    let scale = whole_of limit (pos (scale_of z)) in
    ap (λ r. after r (λ entries. after scale (λ t. Ok (entries ++ (negated t ∷ []))))) (first_there old mid (map_steps (entry_steps payoff_limit limit z) orders) none h)
    ∙ ap (λ r. after r (λ t. Ok (mid ++ (negated t ∷ [])))) t_is
    ∙ ap (λ (l : List Fraction). Ok l) (sym is)

pub entries_stop : (payoff_limit limit : ℕ) (orders : List Order) (z : List ℕ) (old : List Fraction) (w : Misfit) → list_then old (map_steps (entry_steps payoff_limit limit z) orders) ≡ Err w → row_steps payoff_limit limit orders z ≡ Err w
unfolding row_steps
entries_stop payoff_limit limit orders z old w h =
    let scale = whole_of limit (pos (scale_of z)) in
    ap (λ r. after r (λ entries. after scale (λ t. Ok (entries ++ (negated t ∷ []))))) (first_stops old (map_steps (entry_steps payoff_limit limit z) orders) w h)

pub slack_stops : (payoff_limit limit : ℕ) (orders : List Order) (z : List ℕ) (old mid : List Fraction) (w : Misfit) → old ≡ [] → list_then old (map_steps (entry_steps payoff_limit limit z) orders) ≡ Ok mid
    → whole_of limit (pos (scale_of z)) ≡ Err w → row_steps payoff_limit limit orders z ≡ Err w
unfolding row_steps
slack_stops payoff_limit limit orders z old mid w none h t_is =
    let scale = whole_of limit (pos (scale_of z)) in
    ap (λ r. after r (λ entries. after scale (λ t. Ok (entries ++ (negated t ∷ []))))) (first_there old mid (map_steps (entry_steps payoff_limit limit z) orders) none h)
    ∙ ap (λ r. after r (λ t. Ok (mid ++ (negated t ∷ [])))) t_is

pub row_width : (payoff_limit limit : ℕ) (orders : List Order) (z : List ℕ) (row : List Fraction) → row_steps payoff_limit limit orders z ≡ Ok row → length row ≡ length orders + 1
unfolding row_steps
row_width payoff_limit limit orders z row h = go (map_steps (entry_steps payoff_limit limit z) orders) (whole_of limit (pos (scale_of z))) refl h
  where
    go : (steps : Result (List Fraction) Misfit) (scale : Result Fraction Misfit) → map_steps (entry_steps payoff_limit limit z) orders ≡ steps → after steps (λ entries. after scale (λ t. Ok (entries ++ (negated t ∷ [])))) ≡ Ok row → length row ≡ length orders + 1
    go (Ok xs) (Ok t) is h =
        let same : xs ++ (negated t ∷ []) ≡ row = cc in
        omega (arith, ap length same, length-append xs (negated t ∷ []), length-steps (entry_steps payoff_limit limit z) orders xs is)
    go (Ok xs) (Err w) is h = cc
    go (Err w) scale is h = cc

-- ---- a quantity is not below 0
pub quantity_sign : {A : Type 0} (value : A → Fraction) (limit quantity : ℕ) (r : Result A Misfit) → meaning value r ≡ whole_of limit (pos quantity) → IfOk r (λ a. IsNotBelowZero (value a))
quantity_sign value limit quantity (Ok a) h = subst IsNotBelowZero (sym (whole_gives limit (pos quantity) (value a) (sym h))) (omega (arith, ints))
quantity_sign value limit quantity (Err w) h = tt

-- ---- the rows of the quantities
one_unit : (n i : ℕ) (p : LinearProgram) (y : Fraction) (ys : List Fraction) → with_units n i p (y ∷ ys) ≡ with_units n (i + 1) (with_row p (unit_row n i) y) ys
unfolding unit_rows
one_unit n i p y ys =
    let count : p.rows + suc (length ys) ≡ p.rows + 1 + length ys = omega arith in
    λ k. record p {
      rows = count k;
      coefficients = sym (append_assoc p.coefficients (unit_row n i) (unit_rows n (i + 1) (length ys))) k;
      right_sides = sym (append_assoc p.right_sides (y ∷ []) ys) k;
    }

no_units : (n i : ℕ) (p : LinearProgram) → with_units n i p [] ≡ p
unfolding unit_rows
no_units n i p =
    let count : p.rows + 0 ≡ p.rows = omega arith in
    λ k. record p { rows = count k; coefficients = append-nil p.coefficients k; right_sides = append-nil p.right_sides k }

units_first : (n i : ℕ) (p : LinearProgram) (f : Order → Result Fraction Misfit) (orders : List Order) (o : Order) → i < length orders → o ≡ get_or orders i o
    → units_given n i p (map_steps f (drop i orders)) ≡ units_given n i p (after (f o) (λ y. after (map_steps f (drop (i + 1) orders)) (λ ys. Ok (y ∷ ys))))
unfolding map_steps
units_first n i p f orders o low is = ap (λ os. units_given n i p (map_steps f os)) (item_first orders i o low is)

pub unit_on : (n i : ℕ) (p : LinearProgram) (f : Order → Result Fraction Misfit) (orders : List Order) (o : Order) (y : Fraction) → i < length orders → o ≡ get_or orders i o → f o ≡ Ok y
    → units_given n i p (map_steps f (drop i orders)) ≡ units_given n (i + 1) (with_row p (unit_row n i) y) (map_steps f (drop (i + 1) orders))
unit_on n i p f orders o y low is ok =
    units_first n i p f orders o low is
    ∙ ap (λ r. units_given n i p (after r (λ y. after (map_steps f (drop (i + 1) orders)) (λ ys. Ok (y ∷ ys))))) ok
    ∙ go (map_steps f (drop (i + 1) orders))
  where
    go : (rest : Result (List Fraction) Misfit) → units_given n i p (after rest (λ ys. Ok (y ∷ ys))) ≡ units_given n (i + 1) (with_row p (unit_row n i) y) rest
    go (Ok ys) = ap (λ q. Ok (given q)) (one_unit n i p y ys)
    go (Err w) = refl

pub unit_stops : (n i : ℕ) (p : LinearProgram) (f : Order → Result Fraction Misfit) (orders : List Order) (o : Order) (w : Misfit) → i < length orders → o ≡ get_or orders i o → f o ≡ Err w
    → units_given n i p (map_steps f (drop i orders)) ≡ Err w
unit_stops n i p f orders o w low is err =
    units_first n i p f orders o low is
    ∙ ap (λ r. units_given n i p (after r (λ y. after (map_steps f (drop (i + 1) orders)) (λ ys. Ok (y ∷ ys))))) err

pub units_end : (n i : ℕ) (p : LinearProgram) (f : Order → Result Fraction Misfit) (orders : List Order) → length orders ≤ i → units_given n i p (map_steps f (drop i orders)) ≡ Ok (given p)
unfolding map_steps
units_end n i p f orders high = ap (λ os. units_given n i p (map_steps f os)) (drop_all i orders high) ∙ ap (λ q. Ok (given q)) (no_units n i p)

-- a space to which they were given
pub units_open : (n v more : ℕ) (p : LinearProgram) (f : Order → Result Fraction Misfit) (orders : List Order) (space : Workspace) → units_given n 0 p (map_steps f orders) ≡ Ok space.contents
    → p.variables ≡ v → p.rows + length orders + more ≤ space.rows → IsOpen space v more
units_open n v more p f orders space h width room = go (map_steps f orders) refl h
  where
    go : (steps : Result (List Fraction) Misfit) → map_steps f orders ≡ steps → units_given n 0 p steps ≡ Ok space.contents → IsOpen space v more
    go (Ok qs) is h =
        let same : given (with_units n 0 p qs) ≡ space.contents = cc in
        record {
          given = subst IsProgramGiven same tt;
          width = ap (λ c. (program_given c).variables) (sym same) ∙ width;
          room = omega (arith, ap (λ c. (program_given c).rows) same, length-steps f orders qs is, room);
        }
    go (Err w) is h = cc

-- ---- the rows of the states
pub state_on : (payoff_limit limit : ℕ) (orders : List Order) (p : LinearProgram) (left : List (List ℕ)) (z : List ℕ) (rest : List (List ℕ)) (row : List Fraction) → left ≡ z ∷ rest → row_steps payoff_limit limit orders z ≡ Ok row
    → given_with p (length left) (rows_steps payoff_limit limit orders left) ≡ given_with (with_row p row fraction_zero) (length rest) (rows_steps payoff_limit limit orders rest)
unfolding rows_steps
state_on payoff_limit limit orders p left z rest row is ok =
    ap (λ zs. given_with p (length zs) (rows_steps payoff_limit limit orders zs)) is
    ∙ ap (λ r. given_with p (suc (length rest)) (after r (λ row. after (rows_steps payoff_limit limit orders rest) (λ rows. Ok (row ++ rows))))) ok
    ∙ go (rows_steps payoff_limit limit orders rest)
  where
    go : (later : Result (List Fraction) Misfit) → given_with p (suc (length rest)) (after later (λ rows. Ok (row ++ rows))) ≡ given_with (with_row p row fraction_zero) (length rest) later
    go (Ok rows) = ap (λ q. Ok (given q)) (one_more p (length rest) row rows)
    go (Err w) = refl

pub state_stops : (payoff_limit limit : ℕ) (orders : List Order) (p : LinearProgram) (left : List (List ℕ)) (z : List ℕ) (rest : List (List ℕ)) (w : Misfit) → left ≡ z ∷ rest → row_steps payoff_limit limit orders z ≡ Err w
    → given_with p (length left) (rows_steps payoff_limit limit orders left) ≡ Err w
unfolding rows_steps
state_stops payoff_limit limit orders p left z rest w is err =
    ap (λ zs. given_with p (length zs) (rows_steps payoff_limit limit orders zs)) is
    ∙ ap (λ r. given_with p (suc (length rest)) (after r (λ row. after (rows_steps payoff_limit limit orders rest) (λ rows. Ok (row ++ rows))))) err

pub states_end : (payoff_limit limit : ℕ) (orders : List Order) (p : LinearProgram) → given_with p 0 (rows_steps payoff_limit limit orders []) ≡ Ok (given p)
unfolding rows_steps
states_end payoff_limit limit orders p = rows_end p

-- ---- the whole program
program_there : (orders : List Order) (states : List (List ℕ)) (cs qs rows : List Fraction) → length cs ≡ length orders → length qs ≡ length orders
    → record {
      variables = length orders + 1;
      rows = length orders + length states;
      coefficients = flat_map (map whole) (quantity_rows (length orders)) ++ rows;
      right_sides = qs ++ replicate (length states) fraction_zero;
      costs = cs ++ (whole (negsuc 0) ∷ []);
    } ≡ with_rows (with_units (length orders + 1) 0 (empty_program (cs ++ (whole (negsuc 0) ∷ []))) qs) (length states) rows
program_there orders states cs qs rows c_count q_count =
    let variables : length orders + 1 ≡ length (cs ++ (whole (negsuc 0) ∷ [])) = omega (arith, length-append cs (whole (negsuc 0) ∷ []), c_count) in
    let count : length orders + length states ≡ 0 + length qs + length states = omega (arith, q_count) in
    let units : flat_map (map whole) (quantity_rows (length orders)) ≡ unit_rows (length orders + 1) 0 (length qs) =
    quantity_rows_are_unit_rows (length orders) ∙ ap (unit_rows (length orders + 1) 0) (sym q_count) in
    λ i. record {
      variables = variables i;
      rows = count i;
      coefficients = units i ++ rows;
      right_sides = qs ++ replicate (length states) fraction_zero;
      costs = cs ++ (whole (negsuc 0) ∷ []);
    }

-- what follows the costs, and the quantities
abbrev pub after_units : ℕ → ℕ → List Order → List (List ℕ) → Contents → Result Contents Misfit
after_units payoff_limit limit orders states c = given_with (program_given c) (length states) (rows_steps payoff_limit limit orders states)

abbrev pub after_costs : ℕ → ℕ → List Order → List (List ℕ) → List Fraction → Result Contents Misfit
after_costs payoff_limit limit orders states costs =
    after (units_given (length orders + 1) 0 (empty_program costs) (map_steps (quantity_steps limit) orders)) (after_units payoff_limit limit orders states)

pub master_given : (payoff_limit limit : ℕ) (orders : List Order) (states : List (List ℕ))
    → after (master payoff_limit limit orders states) (λ p. Ok (given p)) ≡ after (costs_steps limit orders) (after_costs payoff_limit limit orders states)
unfolding master
master_given payoff_limit limit orders states =
    go (map_steps (cost_steps limit) orders) (map_steps (quantity_steps limit) orders) (rows_steps payoff_limit limit orders states) refl refl
  where
    go : (costs quantities rows : Result (List Fraction) Misfit) → map_steps (cost_steps limit) orders ≡ costs → map_steps (quantity_steps limit) orders ≡ quantities
        → after (after costs (λ costs. after quantities (λ quantities. after rows (λ rows. Ok (record {
          variables = length orders + 1;
          rows = length orders + length states;
          coefficients = flat_map (map whole) (quantity_rows (length orders)) ++ rows;
          right_sides = quantities ++ replicate (length states) fraction_zero;
          costs = costs ++ (whole (negsuc 0) ∷ []);
        }))))) (λ p. Ok (given p))
        ≡ after (after costs (λ costs. Ok (costs ++ (whole (negsuc 0) ∷ []))))
        (λ costs. after (units_given (length orders + 1) 0 (empty_program costs) quantities) (λ c. given_with (program_given c) (length states) rows))
    go (Ok cs) (Ok qs) (Ok rows) a b = ap (λ p. Ok (given p)) (program_there orders states cs qs rows (length-steps (cost_steps limit) orders cs a) (length-steps (quantity_steps limit) orders qs b))
    go (Ok cs) (Ok qs) (Err w) a b = refl
    go (Ok cs) (Err w) rows a b = refl
    go (Err w) quantities rows a b = refl
