-- There are few probes: one for each halving of the gap, and three before.
use Rattle.std.proofs.Common.{ℕ, suc, zero, ◌≤◌, Bool, true, false, nat_le, List, [], ◌∷◌, length, arith, if◌then◌else◌, subst, sym}
use Rattle.std.proofs.lemmas.List.{length-map}
use Rattle.form.specs.declared.orders.Side.{Side}
use Rattle.cert_check.specs.declared.outcome.Outcome.{Outcome}
use Rattle.clearing.specs.Outcome.{outcome_of}
use Rattle.option_quotes.specs.Laws.{ProbesAreFew}
use Rattle.option_quotes.specs.Probes.{Probe, best_price, worst_price, is_raised, probe_outcome, gap, middle, middles, most_halvings, probe_at, probes_between, probes_from_best, probes_from_worst}

either_few : {A : Type 0} (n : ℕ) (test : Bool) (xs ys : List A) → length xs ≤ n → length ys ≤ n → length (if test then xs else ys) ≤ n
either_few n true xs ys h k = h
either_few n false xs ys h k = k

few_middles : (h : ℕ) (raises : ℕ → Bool) (a b : ℕ) → length (middles h raises a b) ≤ h
unfolding middles
few_middles zero raises a b = omega arith
few_middles (suc h) raises a b =
    let m = middle a b in
    let rest : List ℕ = if raises m then middles h raises m b else middles h raises a m in
    let few : length rest ≤ h = either_few h (raises m) (middles h raises m b) (middles h raises a m) (few_middles h raises m b) (few_middles h raises a m) in
    either_few (suc h) (nat_le (gap a b) 1) [] (m ∷ rest) (omega arith) (omega (arith, few))

few_between : (f : ℕ → Outcome) (base : Outcome) (a b : ℕ) → length (probes_between f base most_halvings a b) ≤ 40
unfolding most_halvings
few_between f base a b =
    let prices : List ℕ = middles most_halvings (λ price. is_raised base (f price)) a b in
    subst (λ n. n ≤ 40) (sym (length-map prices (probe_at f))) (few_middles most_halvings (λ price. is_raised base (f price)) a b)

few_from_worst : (f : ℕ → Outcome) (base : Outcome) (side : Side) → length (probes_from_worst f base side) ≤ 41
few_from_worst f base side =
    let between : List Probe = probes_between f base most_halvings (best_price side) (worst_price side) in
    let few = either_few 40 (is_raised base (f (worst_price side))) [] between (omega arith) (few_between f base (best_price side) (worst_price side)) in
    omega (arith, few)

few_from_best : (f : ℕ → Outcome) (base : Outcome) (side : Side) → length (probes_from_best f base side) ≤ 42
few_from_best f base side =
    let few = either_few 41 (is_raised base (f (best_price side))) (probes_from_worst f base side) [] (few_from_worst f base side) (omega arith) in
    omega (arith, few)

pub probes_are_few : ProbesAreFew
probes_are_few batch order limit =
    let few = few_from_best (probe_outcome batch order limit) (outcome_of batch limit) order.side in
    omega (arith, few)
