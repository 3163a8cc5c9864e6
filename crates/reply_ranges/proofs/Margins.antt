-- The states of margins are of small entries, and needs are within the limit.
use Rattle.std.proofs.Common.{◌≡◌, ℕ, zero, suc, ◌+◌, ◌≢◌, List, [], ◌∷◌, replicate, zip, nat_eq, Bool, true, false, if◌then◌else◌, Option, Some, None, get_or, pos, refl, arith}
use Rattle.std.specs.Prelude.{Result, Ok, Err, IfSome, nat_le, unwrap_or}
use Rattle.std.specs.List.{All}
use Rattle.std.proofs.lemmas.Bool.{leb-true}
use Rattle.std.proofs.lemmas.Int.{ints}
use Rattle.std.proofs.lemmas.List.Elements.{All-nil, All-cons, All-head, All-tail, All-filter, All-map, All-replicate, All-weaker, recursion_from_All}
use Rattle.exact_num.specs.Fraction.{Fraction, whole}
use Rattle.exact_num.specs.Fits.{div_of}
use Rattle.exchange_core.specs.ExchangeState.{ExchangeState}
use Rattle.exchange_core.specs.Kept.{IsKept, IsPositionKept}
use Rattle.exchange_core.specs.Held.{is_held_by, markets_of, underlyings_in}
use Rattle.form.specs.declared.orders.Order.{Order}
use Rattle.form.specs.Payoff.{scale_of}
use Rattle.frac.specs.Range.{limit as largest}
use Rattle.master_program.specs.Master.{zero_prices}
use Rattle.master_program.specs.Reading.{Reading}
use Rattle.master_program.specs.Search.{Found, closed, found, search}
use Rattle.settlement.specs.declared.position.Position.{Position}
use Rattle.simplex_run.specs.Ending.{Ending, done, unbounded, wide_at, no_unit_left, on_steps}
use Rattle.portfolio_margin.specs.declared.needs.Needed.TheVariants as needed
use Rattle.portfolio_margin.specs.Need.{Demand, demand_sum, demand_word, first_demand_word, or_word, whole_demand}
use Rattle.portfolio_margin.specs.Owed.{fill_of, fills_of}
use Rattle.portfolio_margin.specs.Run.{MarginQuestion, Margin, Turn, at_state, endless, ends, goes, least, margin_run, net_at, on_found, on_turn, order_of, orders_of, question_of, turn_at, turns_from, wanted_at}
use Rattle.proposal_text.specs.declared.needs.Need.{Need}
use Rattle.proposal_text.specs.declared.needs.Need.TheVariants as need
use Rattle.guarded_lines.specs.Margins.{are_many, held_by, run_in, told_of}
use Rattle.guarded_lines.specs.Needs.{demand_in, demands_in, liability_in, liability_of, margin_budget, need_as, need_in}
use Rattle.proposal_text.specs.Needs.{IsNeedWithin}
use Rattle.proposal_text.specs.Within.{IsMarginWithin}
use Rattle.reply_print.specs.OutcomePieces.{state_entries}
use Rattle.reply_print.specs.Within as reply
use Rattle.form.specs.StateOf.{state_of}
use Rattle.run_values.specs.Values.{AreValues, Ends, IsReadingOf, IsPointOf, IsSmall, IsSmallState, IsValue}
use Rattle.run_values.proofs.LineRuns.{net_has}
use Rattle.run_values.proofs.Numbers.{Has, after_has, answer_ends, div_has, steps_end, whole_value}
use Rattle.run_values.proofs.Payoffs.{HasListed, scale_small}
use Rattle.run_values.proofs.Readings.{fills_are}
use Rattle.run_values.proofs.Searches.{search_ends}
use Rattle.reply_ranges.proofs.Outcomes.{state_small}

-- ---- what a run of a margin ends with
abbrev IsMarginOf : Margin → Type 0
IsMarginOf (least L at tree) = IsSmallState at
IsMarginOf (endless ray) = IsSmallState ray

abbrev IsTurnOf : Turn → Type 0
IsTurnOf (ends margin) = IsMarginOf margin
IsTurnOf (goes L at) = IsValue L × IsSmallState at

module _ (budget n : ℕ) (orders : List Order) (fills : List Fraction) (listed : All HasListed orders) (are : AreValues fills) where
  abbrev asked : MarginQuestion
  asked = record { limit = largest; budget = budget; underlyings = n; orders = orders; fills = fills }

  asked_net : (z : List ℕ) → IsSmallState z → Has IsValue (net_at asked z)
  asked_net z small = net_has (zip orders fills) z (fills_are HasListed orders fills listed are) small

  some_scale : (t : ℕ) → nat_eq t 0 ≡ false → pos t ≢ pos 0
  some_scale zero e = cc
  some_scale (suc t) e = λ same. absurd (omega (arith, ints, same))

  -- at a state that was found
  state_turns : (z : List ℕ) (spent : ℕ) → IsSmallState z → Ends IsTurnOf (at_state asked z spent)
  state_turns z spent small = by (nat_eq (scale_of z) 0) refl
    where
      by : (b : Bool) → nat_eq (scale_of z) 0 ≡ b
          → Ends IsTurnOf (if b then done (ends (endless z)) spent else on_steps spent (wanted_at asked z) (λ more. done (goes more z) spent))
      by true e = small
      by false e =
          steps_end IsValue IsTurnOf spent (wanted_at asked z) (λ more. done (goes more z) spent)
          (after_has IsValue IsValue (net_at asked z) (λ net. div_of largest net (whole (pos (scale_of z)))) (asked_net z small)
          (λ net v. div_has net (whole (pos (scale_of z))) v (whole_value (pos (scale_of z)) (scale_small z small)) (some_scale (scale_of z) e)))
          (λ more v. (v, small))

  -- what a search found
  found_turns : (P : Found → Type 0) → ((z : List ℕ) → P (found z) → IsSmallState z) → (L : Fraction) (at : List ℕ) → IsSmallState at → (shown : Found) (units : ℕ) → P shown
      → Ends IsTurnOf (on_found asked L at shown units)
  found_turns P small L at of (closed tree) units h = of
  found_turns P small L at of (found z) units h = state_turns z units (small z h)

  -- a liability as what is read off, without a measure
  abbrev read_as : Fraction → Reading
  read_as L = record { fills = fills; liability = L; surplus = L; measure = [] }

  read_of : (L : Fraction) → IsValue L → IsReadingOf (read_as L)
  read_of L v = record { fills = are; liability = v; surplus = v; points = All-nil IsPointOf }

  turn_ends : (L : Fraction) (at : List ℕ) (spent : ℕ) → IsValue L → IsSmallState at → Ends IsTurnOf (turn_at asked L at spent)
  turn_ends L at spent v small =
      answer_ends _ IsTurnOf (search (question_of asked L) spent) (on_found asked L at) (search_ends budget n orders (read_as L) listed (read_of L v) spent)
      (found_turns _ (λ z of. of) L at small)

  turned : (next : Fraction → List ℕ → ℕ → Ending Margin) → ((L : Fraction) (at : List ℕ) (spent : ℕ) → IsValue L → IsSmallState at → Ends IsMarginOf (next L at spent))
      → (turn : Turn) (units : ℕ) → IsTurnOf turn → Ends IsMarginOf (on_turn next turn units)
  turned next go (ends margin) units h = h
  turned next go (goes L at) units h = go L at units h.0 h.1

  turns_end : (left : ℕ) (L : Fraction) (at : List ℕ) (spent : ℕ) → IsValue L → IsSmallState at → Ends IsMarginOf (turns_from asked left L at spent)
  unfolding turns_from
  turns_end zero L at spent v small = tt
  turns_end (suc left) L at spent v small =
      answer_ends IsTurnOf IsMarginOf (turn_at asked L at spent) (on_turn (λ more z units. turns_from asked left more z units)) (turn_ends L at spent v small)
      (turned (λ more z units. turns_from asked left more z units) (λ more z units w of. turns_end left more z units w of))

  zeros_small : IsSmallState (zero_prices n)
  zeros_small = All-cons IsSmall 1 (replicate n 0) (omega arith) (All-replicate IsSmall n 0 (omega arith))

  pub run_ends : Ends IsMarginOf (margin_run asked)
  unfolding margin_run
  run_ends =
      let first = zero_prices n in
      steps_end IsValue IsMarginOf 0 (net_at asked first) (λ L. turns_from asked (budget + 1) L first 0) (asked_net first zeros_small)
      (λ L v. turns_end (budget + 1) L first 0 v zeros_small)

-- ---- what is told of it
told_within : (ending : Ending Margin) → Ends IsMarginOf ending → IsMarginWithin (told_of ending)
told_within (done (least L at tree) units) h = recursion_from_All reply.IsSmall (state_entries (state_of at)) (state_small at h)
told_within (done (endless ray) units) h = recursion_from_All reply.IsSmall (state_entries (state_of ray)) (state_small ray h)
told_within (unbounded direction units) h = tt
told_within (wide_at units wide) h = tt
told_within (no_unit_left units) h = tt

fills_values : (ps : List Position) → AreValues (fills_of ps)
fills_values [] = All-nil IsValue
fills_values (p ∷ ps) =
    let above = p.fill.above_fits in
    let below = p.fill.below_fits in
    All-cons IsValue (fill_of p) (fills_of ps) (record { lowest = p.fill.lowest; small = record { above = omega (arith, above); below = omega (arith, below) } }) (fills_values ps)

pub margin_within : (state : ExchangeState) (account market budget : ℕ) → IsKept state → IsMarginWithin (told_of (run_in state account market budget))
margin_within state account market budget kept =
    let held = held_by state account market in
    told_within (run_in state account market budget)
    (run_ends budget (underlyings_in state.book market) (orders_of held) (fills_of held)
    (All-map HasListed order_of held (All-filter (is_held_by account market) (λ p. HasListed (order_of p)) state.positions
    (All-weaker (IsPositionKept state.accounts state.book.markets) (λ p. HasListed (order_of p)) (λ p k. k.options) state.positions kept.positions))) (fills_values held))

-- ---- needs
sum_within : (whole : ℕ) (b : Bool) → nat_le whole largest ≡ b → IsNeedWithin (need_as (if b then needed.Amount whole else needed.Sum))
sum_within whole true e = let most = leb-true whole largest e in omega (arith, most)
sum_within whole false e = tt

-- the word of a market is no amount
abbrev IsWordWithin : Result Fraction Need → Type 0
IsWordWithin (Ok L) = Unit {0}
IsWordWithin (Err word) = IsNeedWithin word

ending_word : (ending : Ending Margin) → IsWordWithin (liability_of ending)
ending_word (done (least L at tree) units) = tt
ending_word (done (endless ray) units) = tt
ending_word (unbounded direction units) = tt
ending_word (wide_at units wide) = tt
ending_word (no_unit_left units) = tt

market_word : (state : ExchangeState) (account market : ℕ) → IsWordWithin (liability_in state account market)
market_word state account market =
    elim (are_many state account market) as (λ b. IsWordWithin (if b then Err need.Positions else liability_of (run_in state account market margin_budget))) [
      | true ↦ tt
      | false ↦ ending_word (run_in state account market margin_budget)
    ]

abbrev IsDemandWithin : Demand Need → Type 0
IsDemandWithin demand = IsWordWithin demand.0

first_within : (demands : List (Demand Need)) → All IsDemandWithin demands → IfSome (first_demand_word demands) IsNeedWithin
first_within [] all = tt
first_within (d ∷ demands) all = by d.0 (All-head IsDemandWithin d demands all) (first_within demands (All-tail IsDemandWithin d demands all))
  where
    by : (r : Result Fraction Need) → IsWordWithin r → IfSome (first_demand_word demands) IsNeedWithin → IfSome (or_word (demand_word r) (first_demand_word demands)) IsNeedWithin
    by (Ok L) word later = later
    by (Err word) is later = is

word_or_sum : (word : Option Need) (sum : Need) → IfSome word IsNeedWithin → IsNeedWithin sum → IsNeedWithin (unwrap_or word sum)
word_or_sum None sum of is = is
word_or_sum (Some word) sum of is = of

pub need_within : (state : ExchangeState) (account : ℕ) → IsNeedWithin (need_in state account)
need_within state account =
    let markets = markets_of account state.positions in
    let demands = demands_in state account in
    let all = All-map IsDemandWithin (demand_in state account) markets (λ k d inside. market_word state account (get_or markets k d)) in
    word_or_sum (first_demand_word demands) (need_as (demand_sum demands)) (first_within demands all) (sum_within (whole_demand demands) (nat_le (whole_demand demands) largest) refl)
