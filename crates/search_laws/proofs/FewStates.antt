-- A round that finds a state spends two units, so that the rounds of a budget have few states.
use Rattle.std.proofs.Common.{◌≡◌, ℕ, zero, suc, ◌+◌, ◌-◌, ◌/◌, ◌≤◌, List, [], ◌∷◌, ◌++◌, length, arith, All, refl, ap, sym, ◌∙◌, subst, length-append, le-div_iff_mul-le}
use Rattle.std.specs.Prelude.{Option, Some, None}
use Rattle.std.proofs.lemmas.List.{length-map}
use Rattle.std.proofs.lemmas.List.Elements.{All-nil, All-cons, All-append}
use Rattle.std.proofs.lemmas.Option.{same_Some}
use Rattle.simplex_run.specs.Ending.{Ending, done, unbounded, wide_at, no_unit_left, on_answer}
use Rattle.simplex_run.proofs.Endings.{on_answer-done}
use Rattle.form.specs.declared.orders.Order.{Order}
use Rattle.form.specs.Vector.{IsState}
use Rattle.master_program.specs.Master.{zero_prices}
use Rattle.master_program.specs.Reading.{Reading}
use Rattle.master_program.proofs.Solves.{solves_are_certified}
use Rattle.master_program.proofs.Lowest.{solves_are_lowest}
use Rattle.master_program.specs.Search.{Found, closed, found, search}
use Rattle.master_program.specs.Rounds.{axes, axis_rays, Limits, Cleared, question_of, on_search, rounds_from, rounds}
use Rattle.master_program.proofs.NodeWider.{next_round, next_search, solve_at}
use Rattle.search_laws.specs.Search.{IsAsked, IsCounted}
use Rattle.search_laws.specs.Sizes.{IsPaid, size_of, one_round, RoundStart, with_found, next_start, round_start, AreFewStates, BeginsWith, RoundsHaveFewStates, IsTreePaid, RoundsArePaid, TreesAreSmall}
use Rattle.search_laws.proofs.Searching.{search_finds}
use Rattle.search_laws.proofs.Units.{search_is_counted}
use Rattle.search_laws.specs.Rounds.{AreCounted}
use Rattle.search_laws.proofs.Rounds.{SolveIsCounted, solve_counted, asked_of, rays_are_states, rounds_are_counted}
use Rattle.search_laws.proofs.Sizes.{search_is_paid}

-- ---- what is read off may be asked about
read_asked : (limits : Limits) (n spent units : ℕ) (orders : List Order) (states : List (List ℕ)) (r : Reading) → 1 ≤ n → n ≤ 8 → All (IsState n) states
    → solve_at limits n orders states spent ≡ done r units → IsAsked (question_of limits n orders r)
read_asked limits n spent units orders states r some few are e =
    asked_of limits n orders (zero_prices n ∷ states) r some few
    (solves_are_certified limits.payoff_limit limits.limit (limits.budget - spent) spent n units orders states r are e)
    (solves_are_lowest limits.payoff_limit limits.limit (limits.budget - spent) spent n units orders states r e)

solve_spends : (limits : Limits) (n spent units : ℕ) (orders : List Order) (states : List (List ℕ)) (r : Reading) → solve_at limits n orders states spent ≡ done r units → (spent ≤ units) × (units ≤ spent + (limits.budget - spent))
solve_spends limits n spent units orders states r e =
    subst (SolveIsCounted spent (spent + (limits.budget - spent))) e (solve_counted limits.payoff_limit limits.limit n (limits.budget - spent) spent orders states)

-- ---- one round
-- the solve and the search of a round that finds a state
pub record FindsState (limits : Limits) (n : ℕ) (orders : List Order) (states : List (List ℕ)) (spent : ℕ) (r : Reading) (z : List ℕ) (units : ℕ) : Type 0 where
  pub middle : ℕ
  pub solved : solve_at limits n orders states spent ≡ done r middle
  pub searched : search (question_of limits n orders r) middle ≡ done (found z) units

abbrev pair : Reading → Found → Reading × Found
pair r f = (r, f)

same_end : (r s : Reading) (f g : Found) (m k : ℕ) → done (pair r f) m ≡ done (pair s g) k → (r ≡ s) × (f ≡ g) × (m ≡ k)
same_end r s f g m k h =
    let same : pair r f ≡ pair s g = cc in
    (ap (λ (p : Reading × Found). p.0) same, ap (λ (p : Reading × Found). p.1) same, cc)

pub round_finds : (limits : Limits) (n : ℕ) (orders : List Order) (states : List (List ℕ)) (spent : ℕ) (r : Reading) (z : List ℕ) (units : ℕ)
    → one_round limits n orders states spent ≡ done (r, found z) units → FindsState limits n orders states spent r z units
round_finds limits n orders states spent r z units h =
    let end : Reading × Found = (r, found z) in
    let solved = on_answer-done (solve_at limits n orders states spent) (λ r units. on_answer (search (question_of limits n orders r) units) (λ f units. done (r, f) units)) end units h in
    let searched = on_answer-done (search (question_of limits n orders solved.answer) solved.spent) (λ f units. done (solved.answer, f) units) end units solved.rest in
    let same = same_end solved.answer r searched.answer (found z) searched.spent units searched.rest in
    record {
      middle = solved.spent;
      solved = solved.first ∙ ap (λ (r : Reading). done r solved.spent) same.0;
      searched = ap (λ (r : Reading). search (question_of limits n orders r) solved.spent) (sym same.0) ∙ searched.first ∙ ap (λ (f : Found). done f searched.spent) same.1 ∙ ap (λ (u : ℕ). done (found z) u) same.2;
    }

-- ---- few states
pub length-axes : (n : ℕ) → length (axes n) ≡ n
length-axes zero = refl
length-axes (suc n) = ap suc (length-map (axes n) _ ∙ length-axes n)

pub few_at_first : (n budget spent : ℕ) → spent ≤ budget → AreFewStates n budget spent (axis_rays n) spent
few_at_first n budget spent le =
    let count : length (axis_rays n) ≡ n = length-map (axes n) _ ∙ length-axes n in
    record { are = rays_are_states n; few = omega (arith, count); begun = omega arith; within = le }

-- one round later
pub few_after : (limits : Limits) (n start spent : ℕ) (orders : List Order) (states : List (List ℕ)) (r : Reading) (z : List ℕ) (units : ℕ) → 1 ≤ n → n ≤ 8
    → AreFewStates n limits.budget start states spent → one_round limits n orders states spent ≡ done (r, found z) units
    → AreFewStates n limits.budget start (states ++ (z ∷ [])) units × (spent + 2 ≤ units)
few_after limits n start spent orders states r z units some few h e =
    let q = question_of limits n orders r in
    let finds = round_finds limits n orders states spent r z units e in
    let asked = read_asked limits n spent finds.middle orders states r some few h.are finds.solved in
    let first = solve_spends limits n spent finds.middle orders states r finds.solved in
    let paid : finds.middle + 2 ≤ units = subst (IsPaid finds.middle) finds.searched (search_is_paid q finds.middle asked) in
    let counted = subst (IsCounted finds.middle limits.budget) finds.searched (search_is_counted q finds.middle (omega (arith, first.1, h.within))) in
    let is : IsState n z = (search_finds q finds.middle units z asked finds.searched).state in (
      record {
        are = All-append (IsState n) states (z ∷ []) h.are (All-cons (IsState n) z [] is (All-nil (IsState n)));
        few = omega (arith, h.few, paid, first.0, length-append states (z ∷ []));
        begun = omega (arith, h.begun, paid, first.0);
        within = counted.1;
      },
      omega (arith, paid, first.0),
    )

pub few_are : (n budget start spent : ℕ) (states : List (List ℕ)) → AreFewStates n budget start states spent → length states ≤ n + budget / 2
few_are n budget start spent states h =
    let more : length states - n ≤ budget / 2 = (le-div_iff_mul-le {k = 2} {x = length states - n} {y = budget} (omega arith)).1 (omega (arith, h.few, h.within)) in
    omega (arith, more)

-- ---- the rounds of a run
-- a round that finds a state, and those after it
go_on : (limits : Limits) (n left spent : ℕ) (orders : List Order) (states : List (List ℕ)) (r : Reading) (z : List ℕ) (units : ℕ) → one_round limits n orders states spent ≡ done (r, found z) units
    → rounds_from limits n orders (suc left) states spent ≡ rounds_from limits n orders left (states ++ (z ∷ [])) units
unfolding rounds_from
go_on limits n left spent orders states r z units e =
    let finds = round_finds limits n orders states spent r z units e in
    ap (λ (e : Ending Reading). on_answer e (next_search limits n orders left states)) finds.solved
    ∙ ap (λ (e : Ending Found). on_answer e (on_search r (next_round limits n orders left states))) finds.searched

-- the end of a round with which another one begins
record WasFound (states : List (List ℕ)) (e : Ending (Reading × Found)) (next : RoundStart) : Type 0 where
  reading : Reading
  state : List ℕ
  units : ℕ
  end : e ≡ done (reading, found state) units
  is : record { states = states ++ (state ∷ []); units = units } ≡ next

was_found : (states : List (List ℕ)) (e : Ending (Reading × Found)) (next : RoundStart) → with_found states e ≡ Some next → WasFound states e next
was_found states (done (r, closed tree) units) next h = cc
was_found states (done (r, found z) units) next h =
    record { reading = r; state = z; units = units; end = refl; is = same_Some (record { states = states ++ (z ∷ []); units = units }) next h }
was_found states (unbounded d units) next h = cc
was_found states (wide_at units w) next h = cc
was_found states (no_unit_left units) next h = cc

record Before (limits : Limits) (n : ℕ) (orders : List Order) (o : Option RoundStart) (next : RoundStart) : Type 0 where
  last : RoundStart
  is : o ≡ Some last
  found : WasFound last.states (one_round limits n orders last.states last.units) next

before : (limits : Limits) (n : ℕ) (orders : List Order) (o : Option RoundStart) (next : RoundStart) → next_start limits n orders o ≡ Some next → Before limits n orders o next
before limits n orders None next h = cc
before limits n orders (Some last) next h = record { last = last; is = refl; found = was_found last.states (one_round limits n orders last.states last.units) next h }

begins : (limits : Limits) (n spent k : ℕ) (orders : List Order) (start : RoundStart) → 1 ≤ n → n ≤ 8 → spent ≤ limits.budget → round_start limits n orders spent k ≡ Some start → BeginsWith limits n orders spent k start
unfolding round_start rounds
begins limits n spent zero orders start some few le h =
    let first : RoundStart = record { states = axis_rays n; units = spent } in
    let all : limits.budget + 1 - 0 ≡ limits.budget + 1 = omega arith in
    subst (BeginsWith limits n orders spent 0) (same_Some first start h)
    (record { rest = rw all refl; few = few_at_first n limits.budget spent le; round = omega arith })
begins limits n spent (suc k) orders start some few le h =
    let b = before limits n orders (round_start limits n orders spent k) start h in
    let was = b.found in
    let last = begins limits n spent k orders b.last some few le b.is in
    let next = few_after limits n spent b.last.units orders b.last.states was.reading was.state was.units some few last.few was.end in
    let left : limits.budget + 1 - k ≡ suc (limits.budget + 1 - suc k) = omega (arith, last.round, last.few.within, next.1, next.0.within) in
    subst (BeginsWith limits n orders spent (suc k)) was.is
    (record {
      rest = last.rest ∙ ap (λ (i : ℕ). rounds_from limits n orders i b.last.states b.last.units) left ∙ go_on limits n (limits.budget + 1 - suc k) b.last.units orders b.last.states was.reading was.state was.units was.end;
      few = next.0;
      round = omega (arith, last.round, next.1);
    })

pub rounds_have_few_states : RoundsHaveFewStates
rounds_have_few_states limits n spent k orders start some few le h =
    let b = begins limits n spent k orders start some few le h in
    (b, omega (arith, few_are n limits.budget spent start.units start.states b.few))

-- ---- the tree of a run
tree_later : (a b : ℕ) (e : Ending Cleared) → a ≤ b → IsTreePaid b e → IsTreePaid a e
tree_later a b (done (r, tree) units) le h = omega (arith, h, le)
tree_later a b (unbounded d units) le h = tt
tree_later a b (wide_at units w) le h = tt
tree_later a b (no_unit_left units) le h = tt

search_paid : (spent units : ℕ) (r : Reading) (next : List ℕ → ℕ → Ending Cleared) (e : Ending Found) → spent ≤ units → IsPaid units e
    → ((z : List ℕ) (more : ℕ) → units + 2 ≤ more → e ≡ done (found z) more → IsTreePaid more (next z more)) → IsTreePaid spent (on_answer e (on_search r next))
search_paid spent units r next (done (closed tree) more) le h go = omega (arith, h, le)
search_paid spent units r next (done (found z) more) le h go = tree_later spent more (next z more) (omega (arith, h, le)) (go z more h refl)
search_paid spent units r next (unbounded d more) le h go = tt
search_paid spent units r next (wide_at more w) le h go = tt
search_paid spent units r next (no_unit_left more) le h go = tt

solve_paid : (spent : ℕ) (next : Reading → ℕ → Ending Cleared) (e : Ending Reading)
    → ((r : Reading) (units : ℕ) → e ≡ done r units → IsTreePaid spent (next r units)) → IsTreePaid spent (on_answer e next)
solve_paid spent next (done r units) go = go r units refl
solve_paid spent next (unbounded d units) go = tt
solve_paid spent next (wide_at units w) go = tt
solve_paid spent next (no_unit_left units) go = tt

from_paid : (limits : Limits) (n : ℕ) (orders : List Order) (left : ℕ) (states : List (List ℕ)) (spent : ℕ) → 1 ≤ n → n ≤ 8 → All (IsState n) states → IsTreePaid spent (rounds_from limits n orders left states spent)
unfolding rounds_from
from_paid limits n orders zero states spent some few are = tt
from_paid limits n orders (suc left) states spent some few are =
    solve_paid spent (next_search limits n orders left states) (solve_at limits n orders states spent)
    (λ r units e.
    let q = question_of limits n orders r in
    let asked = read_asked limits n spent units orders states r some few are e in
    search_paid spent units r (next_round limits n orders left states) (search q units) (solve_spends limits n spent units orders states r e).0 (search_is_paid q units asked)
    (λ z more two is.
    let state : IsState n z = (search_finds q units more z asked is).state in
    from_paid limits n orders left (states ++ (z ∷ [])) more some few (All-append (IsState n) states (z ∷ []) are (All-cons (IsState n) z [] state (All-nil (IsState n))))))

pub rounds_are_paid : RoundsArePaid
unfolding rounds
rounds_are_paid limits n spent orders some few = from_paid limits n orders (limits.budget + 1) (axis_rays n) spent some few (rays_are_states n)

pub trees_are_small : TreesAreSmall
trees_are_small limits n spent units orders r tree some few le h =
    let paid : spent + size_of tree ≤ units = subst (IsTreePaid spent) h (rounds_are_paid limits n spent orders some few) in
    let counted = subst (AreCounted spent limits.budget) h (rounds_are_counted limits n spent orders some few le) in
    (omega (arith, paid, counted.1), omega (arith, paid, counted.1))
