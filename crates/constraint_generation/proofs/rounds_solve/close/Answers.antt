use Rattle.std.proofs.Common.{refl, ◌≡◌, ◌≤◌, ◌<◌, ◌+◌, [], ◌∷◌, ℕ, List, All, length, map, sym, ap, subst, arith, unsigned_abs, ◌∙◌}
use Rattle.std.proofs.lemmas.Result.{err_from_is_err_and}
use Rattle.std.proofs.lemmas.List.{length-map, map-append}
use Rattle.std.proofs.lemmas.List.Elements.{All-append, All-cons, All-nil}
use Rattle.form.specs.declared.states.State.{State}
use Rattle.form.specs.States.{vector_of}
use Rattle.pricing_oracle.specs.Sizes.{AreWithin, sizes_for}
use Rattle.search_laws.specs.Sizes.{AreFewStates, one_round}
use Rattle.search_laws.proofs.FewStates.{few_after, few_at_first}
use Rattle.constraint_generation.specs.Answers.{limits_of}
use Rattle.constraint_generation.specs.Readings.{reading_in_lists}
use Rattle.constraint_generation.specs.Rooms.{states_within}
use Rattle.constraint_generation.specs.Round.{IsOnForms, RoundEndsWith}
use Rattle.constraint_generation.specs.Stops.{IsStopOf}
use Rattle.constraint_generation.specs.declared.round.RoundEnd.TheVariants.{Closed, Violated}
use Rattle.constraint_generation.proofs.Rooms.{fewer_states, kept_room, one_more_fits, within_room}
use Rattle.constraint_generation.proofs.Stops.{stops_as}
use Rattle.constraint_generation.proofs.Rounds.{rounds_begin, rounds_add, rounds_close, rounds_stop, never_none}
use Rattle.constraint_generation.proofs.rounds_solve.close.Goals as goal

pub loop-round-init : goal.loop-round-init
loop-round-init g c =
    let n = c.args.batch.now.underlyings in
    let orders = c.args.batch.now.orders in
    let budget = c.args.budget.now in
    let room = c.requires.room in
    record {
      left = rounds_begin (limits_of (unsigned_abs g.N.Exact.LIMIT) budget.limit) n orders budget.spent (map vector_of c.args.states.now.items) room.are;
      counts = room.counts;
      few = subst (λ (zs : List (List ℕ)). AreFewStates n budget.limit budget.spent zs budget.spent) (sym room.are) (few_at_first n budget.limit budget.spent budget.within);
      limit = refl;
      state_room = room.state_room;
      solve = room.solve_room;
      search = room.search_room;
    }

pub round-requires-clause-sizes : goal.round-requires-clause-sizes
round-requires-clause-sizes g c =
    let l = c.loop-round in
    subst (λ (units : ℕ). AreWithin (sizes_for c.args.batch.now units) l.search.sizes) (sym l.invariant.limit) l.invariant.search

pub round-requires-clause-few_states : goal.round-requires-clause-few_states
round-requires-clause-few_states g c =
    let l = c.loop-round in
    let few = within_room c.args.batch.now.underlyings c.args.budget.now.limit c.args.budget.now.spent l.budget.spent (map vector_of l.states.items) l.invariant.few in
    omega (arith, few, length-map l.states.items vector_of, ap length c.as_slice.ensures.value, c.requires.room.few)

pub round-requires-clause-room : goal.round-requires-clause-room
round-requires-clause-room g c =
    let l = c.loop-round in
    let n = c.args.batch.now.underlyings in
    let few = within_room n c.args.budget.now.limit c.args.budget.now.spent l.budget.spent (map vector_of l.states.items) l.invariant.few in
    fewer_states (length c.args.batch.now.orders) (states_within n c.args.budget.now.limit) (length c.as_slice.result.now + 1) l.room
    (omega (arith, few, length-map l.states.items vector_of, ap length c.as_slice.ensures.value)) l.invariant.solve

pub push_within-requires : goal.push_within-requires
push_within-requires g c =
    let n = c.args.batch.now.underlyings in
    let orders = c.args.batch.now.orders in
    let forms = c.requires.limits.has_forms in
    let l = c.loop-round in
    let size = unsigned_abs g.N.Exact.LIMIT in
    let budget = c.args.budget.now in
    let limits = limits_of size budget.limit in
    let state = c.in-Violated.state in
    let later = c.round.new.budget.spent in
    let states = map vector_of l.states.items in
    let end = one_round limits n orders states l.budget.spent in
    let same : one_round (limits_of size l.budget.limit) n orders (map vector_of c.as_slice.result.now) l.budget.spent ≡ end =
    λ j. one_round (limits_of size (l.invariant.limit j)) n orders (map vector_of (c.as_slice.ensures.value j)) l.budget.spent in
    let was : RoundEndsWith g.N.Exact.fraction end c.round.new.room c.round.new.search.tree (Violated state) later =
    subst (λ x. RoundEndsWith g.N.Exact.fraction end c.round.new.room c.round.new.search.tree x later) c.in-Violated.is (subst (λ e. RoundEndsWith g.N.Exact.fraction e c.round.new.room c.round.new.search.tree c.in_ok-read.field-0 later) same c.in_ok-read.ensures.run) in
    let few = few_after limits n budget.spent l.budget.spent orders states was.0 (vector_of state) later forms.some forms.few l.invariant.few was.1 in
    let fits = one_more_fits n budget.limit budget.spent later _ states (vector_of state) few.0 l.invariant.state_room in
    omega (arith, fits, length-map l.states.items vector_of, l.states.ok)

pub loop-round-preserved : goal.loop-round-preserved
loop-round-preserved g c =
    let n = c.args.batch.now.underlyings in
    let orders = c.args.batch.now.orders in
    let forms = c.requires.limits.has_forms in
    let l = c.loop-round in
    let size = unsigned_abs g.N.Exact.LIMIT in
    let budget = c.args.budget.now in
    let limits = limits_of size budget.limit in
    let state = c.in-Violated.state in
    let later = c.round.new.budget.spent in
    let states = map vector_of l.states.items in
    let end = one_round limits n orders states l.budget.spent in
    let same : one_round (limits_of size l.budget.limit) n orders (map vector_of c.as_slice.result.now) l.budget.spent ≡ end =
    λ j. one_round (limits_of size (l.invariant.limit j)) n orders (map vector_of (c.as_slice.ensures.value j)) l.budget.spent in
    let was : RoundEndsWith g.N.Exact.fraction end c.round.new.room c.round.new.search.tree (Violated state) later =
    subst (λ x. RoundEndsWith g.N.Exact.fraction end c.round.new.room c.round.new.search.tree x later) c.in-Violated.is (subst (λ e. RoundEndsWith g.N.Exact.fraction e c.round.new.room c.round.new.search.tree c.in_ok-read.field-0 later) same c.in_ok-read.ensures.run) in
    let on : state.count ≡ n + 1 = subst (IsOnForms n) c.in-Violated.is c.in_ok-read.ensures.state in
    let OnForms : State → Type 0 = λ s. s.count ≡ n + 1 in
    let pushed = c.push_within.ensures.items in
    let now = ap (map vector_of) pushed ∙ map-append vector_of l.states.items (state ∷ []) in
    let few = few_after limits n budget.spent l.budget.spent orders states was.0 (vector_of state) later forms.some forms.few l.invariant.few was.1 in
    let low : l._round ≤ budget.limit = omega (arith, c.loop-round-test.true, c.from-round-end.ensures) in
    record {
      left = rounds_add limits n l._round orders budget.spent l.states.items c.push_within.new.items.items state l.budget.spent later was.0 low l.invariant.left was.1 pushed;
      counts = subst (All OnForms) (sym pushed) (All-append OnForms l.states.items (state ∷ []) l.invariant.counts (All-cons OnForms state [] on (All-nil OnForms)));
      few = subst (λ (zs : List (List ℕ)). AreFewStates n budget.limit budget.spent zs later) (sym now) few.0;
      limit = c.round.ensures.limit ∙ l.invariant.limit;
      state_room = omega (arith, l.invariant.state_room, c.push_within.ensures.capacity);
      solve = kept_room (length orders) (states_within n budget.limit) l.room c.round.new.room c.round.ensures.room l.invariant.solve;
      search = subst (AreWithin (sizes_for c.args.batch.now budget.limit)) (sym c.round.ensures.sizes) l.invariant.search;
    }

pub returns-in_err-read-clause-run : goal.returns-in_err-read-clause-run
returns-in_err-read-clause-run g c =
    let q = err_from_is_err_and c.from_residual.result c.from_residual.ensures.1 in
    let n = c.args.batch.now.underlyings in
    let orders = c.args.batch.now.orders in
    let l = c.loop-round in
    let size = unsigned_abs g.N.Exact.LIMIT in
    let limits = limits_of size c.args.budget.now.limit in
    let stop = c.in_err-read.field-0.0 in
    let later = c.round.new.budget.spent in
    let end = one_round limits n orders (map vector_of l.states.items) l.budget.spent in
    let same : one_round (limits_of size l.budget.limit) n orders (map vector_of c.as_slice.result.now) l.budget.spent ≡ end =
    λ j. one_round (limits_of size (l.invariant.limit j)) n orders (map vector_of (c.as_slice.ensures.value j)) l.budget.spent in
    let was : IsStopOf end stop later = stops_as end _ stop later (sym same) c.in_err-read.ensures.run in
    let low : l._round ≤ c.args.budget.now.limit = omega (arith, c.loop-round-test.true, c.from-round-end.ensures) in
    rw (q.1, q.2) (rounds_stop limits n l._round orders c.args.budget.now.spent (map vector_of l.states.items) l.budget.spent later stop low l.invariant.left was)

pub returns-in-Closed-clause-run : goal.returns-in-Closed-clause-run
returns-in-Closed-clause-run g c =
    let n = c.args.batch.now.underlyings in
    let orders = c.args.batch.now.orders in
    let l = c.loop-round in
    let size = unsigned_abs g.N.Exact.LIMIT in
    let limits = limits_of size c.args.budget.now.limit in
    let read = c.in-Closed.read in
    let later = c.round.new.budget.spent in
    let end = one_round limits n orders (map vector_of l.states.items) l.budget.spent in
    let same : one_round (limits_of size l.budget.limit) n orders (map vector_of c.as_slice.result.now) l.budget.spent ≡ end =
    λ j. one_round (limits_of size (l.invariant.limit j)) n orders (map vector_of (c.as_slice.ensures.value j)) l.budget.spent in
    let was : RoundEndsWith g.N.Exact.fraction end c.round.new.room c.round.new.search.tree (Closed read) later =
    subst (λ x. RoundEndsWith g.N.Exact.fraction end c.round.new.room c.round.new.search.tree x later) c.in-Closed.is (subst (λ e. RoundEndsWith g.N.Exact.fraction e c.round.new.room c.round.new.search.tree c.in_ok-read.field-0 later) same c.in_ok-read.ensures.run) in
    let low : l._round ≤ c.args.budget.now.limit = omega (arith, c.loop-round-test.true, c.from-round-end.ensures) in
    let reading = reading_in_lists g.N.Exact.fraction c.round.new.room.fills.items c.round.new.room.points.items read in
    (was.0, was.1, rounds_close limits n l._round orders c.args.budget.now.spent (map vector_of l.states.items) l.budget.spent later reading was.0 low l.invariant.left was.2)

pub returns-clause-run : goal.returns-clause-run
returns-clause-run g c =
    let l = c.loop-round in
    let forms = c.requires.limits.has_forms in
    let high : c.args.budget.now.limit < l._round = omega (arith, c.loop-round-test.false, c.from-round-end.ensures) in
    absurd (never_none (limits_of (unsigned_abs g.N.Exact.LIMIT) c.args.budget.now.limit) c.args.batch.now.underlyings l._round c.args.batch.now.orders c.args.budget.now.spent
    (map vector_of l.states.items) l.budget.spent forms.some forms.few c.args.budget.now.within high l.invariant.left)
