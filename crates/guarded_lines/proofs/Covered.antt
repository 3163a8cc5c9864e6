-- A withdrawal that is accepted leaves what the account's positions may lose.
use Rattle.std.proofs.Common.{◌≡◌, ℕ, ◌≤◌, List, [], ◌∷◌, Bool, true, false, ◌||◌, length, map, Option, Some, None, Result, Ok, Err, if◌then◌else◌, IfSome, ℤ, pos, neg_ℤ, ◌+ℤ◌, ◌-ℤ◌, ◌≤ℤ◌, is_some, refl, sym, ap, ◌∙◌, subst, arith}
use Rattle.std.specs.Prelude.{unwrap_or}
use Rattle.std.specs.Option.{option_map_or}
use Rattle.std.proofs.lemmas.Int.{ints}
use Rattle.std.proofs.lemmas.Bool.{eq-eqb}
use Rattle.arithmetic.specs.Sums.{total}
use Rattle.arithmetic.proofs.Sums.{total-map}
use Rattle.arithmetic.proofs.Tests.{int_le-yes}
use Rattle.cash_ledger.specs.Entries.{balance_of, withdrawal_of as taken}
use Rattle.cash_ledger.proofs.Balances.{balance_of-push}
use Rattle.command_text.specs.declared.command.Command.TheVariants.{Withdraw}
use Rattle.exact_num.specs.Fraction.{Fraction}
use Rattle.frac.specs.Range.{limit as largest}
use Rattle.simplex_run.specs.Ending.{Ending, done, unbounded, wide_at, no_unit_left}
use Rattle.exchange_core.specs.declared.refusal.Refusal.{Refusal}
use Rattle.exchange_core.specs.ExchangeState.{ExchangeState}
use Rattle.exchange_core.specs.Held.{markets_of, underlyings_in}
use Rattle.exchange_core.specs.Kept.{IsKept}
use Rattle.exchange_core.specs.Refusals.{refusal_of}
use Rattle.exchange_core.specs.Reserves.{reserve_in}
use Rattle.exchange_core.specs.Step.{refusal_effect, withdraw_effect}
use Rattle.proposal_text.specs.declared.needs.Need.{Need}
use Rattle.proposal_text.specs.declared.needs.Need.TheVariants as need
use Rattle.portfolio_margin.specs.declared.needs.Needed.{Needed}
use Rattle.portfolio_margin.specs.declared.needs.Needed.TheVariants.{Amount, Unbounded, Wide, Budget, Sum}
use Rattle.portfolio_margin.specs.Laws.{AreDemandsCovered, IsCovered, MayBeAsked, Settled, gain_in}
use Rattle.portfolio_margin.specs.Need.{Demand, demand_word, first_demand_word, or_word, demand_sum}
use Rattle.portfolio_margin.specs.Owed.{Covers}
use Rattle.portfolio_margin.specs.Run.{Margin, least, endless}
use Rattle.portfolio_margin.proofs.LeastMargins.{margins_are_least}
use Rattle.portfolio_margin.proofs.NeedCovers.{AreDefined, sums_cover}
use Rattle.portfolio_margin.proofs.Turns.{fills_low}
use Rattle.reply_print.specs.declared.replies.Reply.TheVariants.{Withdrawn}
use Rattle.proposal_text.specs.declared.replies.ProposalReply.TheVariants as told
use Rattle.proposal_text.specs.declared.replies.ServedReply.{ServedReply}
use Rattle.proposal_text.specs.declared.replies.ServedReply.TheVariants.{Plain, Told}
use Rattle.guarded_lines.specs.Laws.{WithdrawalsAreCovered}
use Rattle.guarded_lines.specs.Margins.{are_many, held_by, run_in}
use Rattle.guarded_lines.specs.Needs.{demand_in, demands_in, liability_in, liability_of, margin_budget, need_as, need_in}
use Rattle.guarded_lines.specs.Settlements.{after_settling}
use Rattle.guarded_lines.specs.Withdrawals.{covers, left_in}
use Rattle.exchange_core.proofs.HeldPositions.{held_are_held, underlyings_few}
use Rattle.guarded_lines.proofs.Rising.{markets_rise}
use Rattle.guarded_lines.proofs.Settled.{balance_after, gain_of_market}

-- ---- no market demands by an amount
abbrev IsWord : Need → Type 0
IsWord (need.Amount amount) = ⊥
IsWord word = Unit {0}

ends_by_word : (ending : Ending Margin) → IfSome (demand_word (liability_of ending)) IsWord
ends_by_word (done (least L at tree) units) = tt
ends_by_word (done (endless ray) units) = tt
ends_by_word (unbounded direction units) = tt
ends_by_word (wide_at units wide) = tt
ends_by_word (no_unit_left units) = tt

market_by_word : (many : Bool) (ending : Ending Margin) → IfSome (demand_word (if many then Err need.Positions else liability_of ending)) IsWord
market_by_word true ending = tt
market_by_word false ending = ends_by_word ending

either_by_word : (a b : Option Need) → IfSome a IsWord → IfSome b IsWord → IfSome (or_word a b) IsWord
either_by_word (Some word) b here later = here
either_by_word None b here later = later

all_by_word : (state : ExchangeState) (account : ℕ) (markets : List ℕ) → IfSome (first_demand_word (map (demand_in state account) markets)) IsWord
all_by_word state account [] = tt
all_by_word state account (m ∷ markets) =
    either_by_word (demand_word (liability_in state account m)) (first_demand_word (map (demand_in state account) markets))
    (market_by_word (are_many state account m) (run_in state account m margin_budget)) (all_by_word state account markets)

-- so where an amount is needed, each demands a liability, and it is their sum
sum_is : (needed : Needed) (amount : ℕ) → need_as needed ≡ need.Amount amount → needed ≡ Amount amount
sum_is (Amount n) amount h = cc
sum_is Unbounded amount h = cc
sum_is Wide amount h = cc
sum_is Budget amount h = cc
sum_is Sum amount h = cc

not_word : (word : Need) (amount : ℕ) → IsWord word → word ≡ need.Amount amount → ⊥
not_word word amount is h = subst IsWord h is

amount_is_sum : (demands : List (Demand Need)) (amount : ℕ) → IfSome (first_demand_word demands) IsWord → unwrap_or (first_demand_word demands) (need_as (demand_sum demands)) ≡ need.Amount amount
    → (first_demand_word demands ≡ None) × (demand_sum demands ≡ Amount amount)
amount_is_sum demands amount words h = by (first_demand_word demands) refl words h
  where
    by : (w : Option Need) → first_demand_word demands ≡ w → IfSome w IsWord → unwrap_or w (need_as (demand_sum demands)) ≡ need.Amount amount
        → (first_demand_word demands ≡ None) × (demand_sum demands ≡ Amount amount)
    by None e words h = (e, sum_is (demand_sum demands) amount h)
    by (Some word) e words h = absurd (not_word word amount words h)

-- ---- each liability covers the positions of its market
module _ (state : ExchangeState) (account : ℕ) (kept : IsKept state) (prices : ℕ → List ℕ) (fit : (market : ℕ) → length (prices market) ≡ underlyings_in state.book market) where
  -- the positions in a market and its prices
  abbrev settled_in : ℕ → Settled
  settled_in market = record { positions = held_by state account market; prices = prices market }

  may_be_asked : (market : ℕ) → MayBeAsked (underlyings_in state.book market) (held_by state account market)
  may_be_asked market =
      let n = underlyings_few state market kept in
      record { some = n.0; few = n.1; not_below_zero = fills_low (held_by state account market) (held_are_held state account market kept) }

  -- what holds of what a market demands
  abbrev Holds : ℕ → Result Fraction Need → Type 0
  Holds market liability = AreDefined ((liability, length (held_by state account market)) ∷ []) × IsCovered liability (record { positions = held_by state account market; prices = prices market })

  ending_holds : (market : ℕ) (ending : Ending Margin) → run_in state account market margin_budget ≡ ending → Holds market (liability_of ending)
  ending_holds market (done (least L at tree) units) is =
      let n = underlyings_in state.book market in
      let says = margins_are_least largest margin_budget n units (held_by state account market) L at tree (may_be_asked market) is in
      ((says.0.lowest.positive, tt), subst (λ (n : ℕ). Covers n (held_by state account market) L) (sym (fit market)) says.0.covers)
  ending_holds market (done (endless ray) units) is = (tt, tt)
  ending_holds market (unbounded direction units) is = (tt, tt)
  ending_holds market (wide_at units wide) is = (tt, tt)
  ending_holds market (no_unit_left units) is = (tt, tt)

  market_holds : (market : ℕ) (many : Bool) → Holds market (if many then Err need.Positions else liability_of (run_in state account market margin_budget))
  market_holds market true = (tt, tt)
  market_holds market false = ending_holds market (run_in state account market margin_budget) refl

  defined_more : (liability : Result Fraction Need) (count : ℕ) (demands : List (Demand Need)) → AreDefined ((liability, count) ∷ []) → AreDefined demands → AreDefined ((liability, count) ∷ demands)
  defined_more (Ok L) count demands here later = (here.0, later)
  defined_more (Err word) count demands here later = later

  all_defined : (markets : List ℕ) → AreDefined (map (demand_in state account) markets)
  all_defined [] = tt
  all_defined (m ∷ markets) =
      defined_more (liability_in state account m) (length (held_by state account m)) (map (demand_in state account) markets)
      (market_holds m (are_many state account m)).0 (all_defined markets)

  all_covered : (markets : List ℕ) → AreDemandsCovered (map (demand_in state account) markets) (map settled_in markets)
  all_covered [] = tt
  all_covered (m ∷ markets) = (refl, (market_holds m (are_many state account m)).1, all_covered markets)

  -- the positions lose at most the amount that is needed
  gains_of : (markets : List ℕ) (amount : ℕ) → first_demand_word (map (demand_in state account) markets) ≡ None → demand_sum (map (demand_in state account) markets) ≡ Amount amount
      → neg_ℤ (pos amount) ≤ℤ total gain_in (map settled_in markets)
  gains_of markets amount none sum =
      sums_cover (map (demand_in state account) markets) (map settled_in markets) amount none sum (all_defined markets) (all_covered markets)

  gains_same : (some : 1 ≤ account) (markets : List ℕ) → total gain_in (map settled_in markets) ≡ total (gain_of_market account some prices state) markets
  gains_same some markets = total-map gain_in settled_in markets

-- ---- a withdrawal that is accepted
covered_amount : (n : Need) (left : ℤ) → covers n left ≡ true → (amount : ℕ) × (n ≡ need.Amount amount) × (pos amount ≤ℤ left)
covered_amount (need.Amount amount) left h = (amount, refl, int_le-yes (pos amount) left h)
covered_amount need.Positions left h = absurd (cc)
covered_amount need.Unbounded left h = absurd (cc)
covered_amount need.Wide left h = absurd (cc)
covered_amount need.Budget left h = absurd (cc)
covered_amount need.Sum left h = absurd (cc)

-- what its answer says: no run refuses it, and the need is covered
abbrev Answer : ExchangeState → ℕ → ℕ → Option Refusal → Bool → ServedReply × ExchangeState
Answer state account amount refused covered =
    option_map_or (λ n. (Told (told.Uncovered n), state)) (if is_some refused || covered then None else Some (need_in state account))
    (let now = option_map_or (refusal_effect state) refused (withdraw_effect state account amount) in (Plain now.0, now.1))

accepted : (state : ExchangeState) (account amount : ℕ) (balance : ℤ) (refused : Option Refusal) (covered : Bool)
    → (Answer state account amount refused covered).0 ≡ Plain (Withdrawn account balance)
    → (covered ≡ true) × ((Answer state account amount refused covered).1 ≡ (withdraw_effect state account amount).1)
accepted state account amount balance (Some r) covered h = absurd (cc)
accepted state account amount balance None true h = (refl, refl)
accepted state account amount balance None false h = absurd (cc)

left_over : (before after reserve gains final : ℤ) (amount needed : ℕ) → after ≡ before +ℤ neg_ℤ (pos amount) → pos 0 ≤ℤ reserve
    → pos needed ≤ℤ ((before -ℤ reserve) -ℤ pos amount) → neg_ℤ (pos needed) ≤ℤ gains → final ≡ after +ℤ gains → pos 0 ≤ℤ final
left_over before after reserve gains final amount needed taken some enough lost last = omega (arith, ints, taken, some, enough, lost, last)

-- the balance is less by what was taken
balance_taken : (state : ExchangeState) (account amount : ℕ)
    → balance_of account (withdraw_effect state account amount).1.entries ≡ balance_of account state.entries +ℤ neg_ℤ (pos amount)
balance_taken state account amount =
    balance_of-push account state.entries (taken account amount)
    ∙ ap (λ (b : Bool). balance_of account state.entries +ℤ (if b then neg_ℤ (pos amount) else pos 0)) (eq-eqb account account refl)

not_below : (n : ℕ) → pos 0 ≤ℤ pos n
not_below n = omega (arith, ints)

pub withdrawals_are_covered : WithdrawalsAreCovered
withdrawals_are_covered state account amount balance prices kept some h fit =
    let markets = markets_of account state.positions in
    let answer = accepted state account amount balance (refusal_of state (Withdraw account amount)) (covers (need_in state account) (left_in state account amount)) h in
    let n = covered_amount (need_in state account) (left_in state account amount) answer.0 in
    let sums = amount_is_sum (demands_in state account) n.0 (all_by_word state account markets) n.1 in
    let next = (withdraw_effect state account amount).1 in
    let gains = total (gain_of_market account some prices state) markets in
    let lost : neg_ℤ (pos n.0) ≤ℤ gains =
    subst (λ (x : ℤ). neg_ℤ (pos n.0) ≤ℤ x) (gains_same state account kept prices fit some markets) (gains_of state account kept prices fit markets n.0 sums.0 sums.1) in
    let final = balance_of account (after_settling prices markets next).entries in
    let last : final ≡ balance_of account next.entries +ℤ gains = balance_after account some prices markets next (markets_rise account state.positions) in
    subst (λ (s : ExchangeState). pos 0 ≤ℤ balance_of account (after_settling prices markets s).entries) (sym answer.1)
    (left_over (balance_of account state.entries) (balance_of account next.entries) (pos (reserve_in state account)) gains final amount n.0
    (balance_taken state account amount) (not_below (reserve_in state account)) n.2 lost last)
