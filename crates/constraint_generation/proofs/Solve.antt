-- From the master program that was built to its solution.
use Rattle.std.proofs.Common.{◌≡◌, ℕ, ◌*◌, ◌+◌, ◌≤◌, List, [], ◌∷◌, length, map, drop, get_or, All, ap, sym, ◌∙◌, arith, vec_len, Vec, Global}
use Rattle.std.specs.Prelude.{Result, Ok, Err}
use Rattle.std.proofs.lemmas.List.{length-map, length-append}
use Rattle.arithmetic.proofs.Sums.{All-of_map, All-to_map}
use Rattle.exact_num.specs.Fraction.{Fraction}
use Rattle.exact_num.specs.Fits.{after}
use Rattle.exact_num.specs.declared.misfit.Wide.{Wide as Misfit}
use Rattle.simplex_run.specs.Ending.{on_answer, on_steps, wide_at}
use Rattle.simplex_run.specs.Program.{LinearProgram}
use Rattle.simplex_run.specs.Run.{run}
use Rattle.form.specs.declared.orders.Order.{Order}
use Rattle.form.specs.declared.states.State.{State}
use Rattle.form.specs.Vector.{IsState}
use Rattle.form.specs.Payoff.{IsOnCount, bundle_of}
use Rattle.form.specs.States.{vector_of}
use Rattle.form.proofs.BundleLegs.{bundle_of-legs}
use Rattle.form.proofs.DotSteps.{length-vector_of}
use Rattle.form.proofs.SameBundle.{length-bundle_legs}
use Rattle.clearing_model.specs.Certificate.{IsFractionMeasure, Point}
use Rattle.cert_check.specs.declared.measures.Weighted.{Weighted}
use Rattle.cert_check.specs.Points.{point_of}
use Rattle.simplex.specs.Spaces.{Contents, given, program_given}
use Rattle.line_cover.specs.Line.{legs_of_orders}
use Rattle.master_program.specs.Master.{zero_prices, plain_master, master}
use Rattle.master_program.specs.Solve.{on_optimum, master_run, master_solve}
use Rattle.master_program.proofs.Steps.{steps_give_master}
use Rattle.pricing_oracle.proofs.NodeEnds.{built_there}

-- ---- a solve is a run that is read off
pub solve_is : (payoff_limit limit left spent n : ℕ) (orders those : List Order) (states : List (List ℕ)) → those ≡ orders
    → master_solve payoff_limit limit left spent n orders states ≡ on_answer (master_run payoff_limit limit left spent those states) (on_optimum limit (zero_prices n) those states)
unfolding master_solve
solve_is payoff_limit limit left spent n orders those states is =
    ap (λ (os : List Order). on_answer (master_run payoff_limit limit left spent os states) (on_optimum limit (zero_prices n) os states)) (sym is)

-- ---- the program that was given is the master program, and its run that of the solve
pub run_there : (payoff_limit limit left spent : ℕ) (orders : List Order) (states : List (List ℕ)) (c : Contents) → after (master payoff_limit limit orders states) (λ p. Ok (given p)) ≡ Ok c
    → master_run payoff_limit limit left spent orders states ≡ run limit (program_given c) left spent
run_there payoff_limit limit left spent orders states c h = ap (λ r. on_steps spent r (λ program. run limit program left spent)) (built_there (master payoff_limit limit orders states) c h)

pub run_misfits : (payoff_limit limit left spent : ℕ) (orders : List Order) (states : List (List ℕ)) (w : Misfit) → after (master payoff_limit limit orders states) (λ p. Ok (given p)) ≡ Err w
    → master_run payoff_limit limit left spent orders states ≡ wide_at spent w
run_misfits payoff_limit limit left spent orders states w h = ap (λ r. on_steps spent r (λ program. run limit program left spent)) (misfit (master payoff_limit limit orders states) h)
  where
    misfit : (r : Result LinearProgram Misfit) → after r (λ p. Ok (given p)) ≡ Err w → r ≡ Err w
    misfit (Ok p) h = cc
    misfit (Err v) h =
        let same : v ≡ w = cc in
        ap (λ (w : Misfit). Err w) same

pub is_master : (payoff_limit limit : ℕ) (orders : List Order) (states : List (List ℕ)) (c : Contents) → after (master payoff_limit limit orders states) (λ p. Ok (given p)) ≡ Ok c → program_given c ≡ plain_master (zero_prices 1) orders states
is_master payoff_limit limit orders states c h = steps_give_master payoff_limit limit 1 orders states (program_given c) (built_there (master payoff_limit limit orders states) c h)

pub counted : {A : Type 0} (value : A → Fraction) (xs : Vec A Global) (n : ℕ) → length (map value xs.items) ≡ n → vec_len xs ≡ n
counted value xs n h = omega (arith, h, length-map xs.items value, xs.ok)

-- ---- a bundle has at most four legs
pub legs_few : (orders : List Order) → length (legs_of_orders orders) ≤ length orders * 4
legs_few [] = omega arith
legs_few (o ∷ os) =
    let legs = ap length (bundle_of-legs o) ∙ length-bundle_legs o.bundle in
    omega (arith, length-append (bundle_of o) (legs_of_orders os), legs, o.bundle.size_in_range.1, legs_few os)

-- ---- the states after the first
pub later_are : (states : List State) (first : List ℕ) (later : List (List ℕ)) (back : List State) → map vector_of states ≡ first ∷ later → back ≡ drop 1 states → map vector_of back ≡ later
later_are [] first later back e is = cc
later_are (s ∷ states) first later back e is =
    let tail : map vector_of states ≡ later = cc in
    ap (map vector_of) is ∙ tail

-- ---- states with as many entries as the forms
pub on_forms : (n : ℕ) (orders : List Order) (states : List State) → All (λ (o : Order). IsOnCount (n + 1) o.bundle) orders → All (λ (s : State). s.count ≡ n + 1) states
    → All (λ (s : State). All (λ (o : Order). IsOnCount s.count o.bundle) orders) states
on_forms n orders states forms counts k d low i o low_o j leg low_leg = forms i o low_o j leg low_leg ∙ sym (counts k d low)

pub are_states : (n : ℕ) (states : List State) → All (λ (s : State). s.count ≡ n + 1) states → All (IsState n) (map vector_of states)
are_states n states counts = All-to_map (IsState n) vector_of states (λ k d low. (length-vector_of (get_or states k d) ∙ counts k d low, (get_or states k d).not_all_zero))

-- ---- what is read off may be asked about and judged
pub on_states : (n : ℕ) (points : List Weighted) → IsFractionMeasure n (map point_of points) → All (λ (p : Weighted). p.state.count ≡ n + 1) points
on_states n points m k d low = sym (length-vector_of (get_or points k d).state) ∙ (All-of_map (λ (point : Point). IsState n point.0) point_of points m.states k d low).0
