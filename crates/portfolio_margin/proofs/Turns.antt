-- One search after another.
use Rattle.std.proofs.Common.{◌≡◌, ℕ, suc, ◌+◌, ◌-◌, ◌≤◌, ◌<◌, List, [], length, map, zip, Result, Ok, Err, arith, All, ap, sym, ◌∙◌, subst}
use Rattle.std.proofs.lemmas.List.{length-map}
use Rattle.std.proofs.lemmas.Simd.{map-map}
use Rattle.arithmetic.proofs.Sums.{All-to_map}
use Rattle.exact_num.specs.declared.misfit.Wide.{Wide as Misfit}
use Rattle.exact_num.specs.Fraction.{Fraction, IsLowest, IsNotBelowZero}
use Rattle.frac.proofs.Lowest.{lowest_of}
use Rattle.frac.specs.Range.{limit as largest}
use Rattle.frac.specs.declared.frac128.Frac128.{Frac128}
use Rattle.frac.specs.Value.{fraction_of}
use Rattle.form.specs.declared.orders.Batch.{Batch}
use Rattle.form.specs.declared.orders.Order.{Order}
use Rattle.form.specs.Limits.{HasItsForms}
use Rattle.form.specs.Payoff.{IsOnCount}
use Rattle.form.specs.States.{vector_of}
use Rattle.line_cover.specs.Net.{net_of}
use Rattle.master_program.specs.Master.{zero_prices}
use Rattle.settlement.specs.declared.position.Position.{Position}
use Rattle.settlement.specs.Positions.{IsHeldPosition}
use Rattle.simplex.specs.declared.stop.SolveStop.{SolveStop}
use Rattle.simplex.specs.declared.stop.SolveStop.TheVariants.{Wide as WideStop, Budget as BudgetStop, Memory}
use Rattle.simplex_run.specs.Ending.{Ending, unbounded, wide_at, on_answer, on_steps}
use Rattle.simplex_run.proofs.Endings.{EndsWith}
use Rattle.portfolio_margin.specs.declared.least_margin.LeastMargin.{LeastMargin}
use Rattle.portfolio_margin.specs.declared.least_margin.LeastMargin.TheVariants.{Least, Unbounded, Wide, Budget}
use Rattle.portfolio_margin.specs.declared.turn.Turn.TheVariants.{Ends, Goes}
use Rattle.portfolio_margin.specs.declared.turn.Wanted.{Wanted}
use Rattle.portfolio_margin.specs.Run.{MarginQuestion, Margin, Turn, asked_for, margin_run, net_at, on_turn, order_of, orders_of, turn_at, turns_from}
use Rattle.portfolio_margin.specs.Answers.{EndsAs, IsMarginOf, IsMarginWith, StopsAs, TurnsAs, asked_in}
use Rattle.portfolio_margin.specs.Owed.{fill_of, fills_of}
use Rattle.portfolio_margin.proofs.Exactly.{wanted_is_lowest}
use Rattle.portfolio_margin.proofs.Runs.{Keeps, turns_say}

-- the searches that are left after i of them are all
abbrev pub AreLeft : (a : MarginQuestion) (all : Ending Margin) (i : ℕ) (L : Fraction) (at : List ℕ) (spent : ℕ) → Type 0
AreLeft a all i L at spent = all ≡ turns_from a (a.budget + 1 - i) L at spent

abbrev later_turns : MarginQuestion → ℕ → Fraction → List ℕ → ℕ → Ending Margin
later_turns a i more z units = turns_from a (a.budget + 1 - (i + 1)) more z units

next_is : (a : MarginQuestion) (all : Ending Margin) (i : ℕ) (L : Fraction) (at : List ℕ) (spent : ℕ) → i ≤ a.budget → AreLeft a all i L at spent
    → all ≡ on_answer (turn_at a L at spent) (on_turn (later_turns a i))
unfolding turns_from
next_is a all i L at spent le left =
    let more : a.budget + 1 - i ≡ suc (a.budget + 1 - (i + 1)) = omega (arith, le) in
    left ∙ ap (λ (k : ℕ). turns_from a k L at spent) more

-- with an end they end
pub turns_end : (a : MarginQuestion) (all : Ending Margin) (i : ℕ) (L : Fraction) (at : List ℕ) (spent later : ℕ) (margin : LeastMargin) → i ≤ a.budget → AreLeft a all i L at spent
    → TurnsAs (turn_at a L at spent) (Ends margin) later → EndsAs all margin later
turns_end a all i L at spent later (Least M z tree) le left (written, is, ended) =
    (written, is, next_is a all i L at spent le left ∙ ap (λ (e : Ending Turn). on_answer e (on_turn (later_turns a i))) ended)
turns_end a all i L at spent later (Unbounded ray) le left ended =
    next_is a all i L at spent le left ∙ ap (λ (e : Ending Turn). on_answer e (on_turn (later_turns a i))) ended
turns_end a all i L at spent later (Wide unit wide) le left ended = ended
turns_end a all i L at spent later Budget le left ended = ended

-- with a greater liability they go on
pub turns_go : (a : MarginQuestion) (all : Ending Margin) (i : ℕ) (L : Fraction) (at : List ℕ) (spent later : ℕ) (wanted : Wanted) → i ≤ a.budget → AreLeft a all i L at spent
    → TurnsAs (turn_at a L at spent) (Goes wanted) later → AreLeft a all (i + 1) (fraction_of wanted.liability) (vector_of wanted.at) later
turns_go a all i L at spent later wanted le left went =
    next_is a all i L at spent le left ∙ ap (λ (e : Ending Turn). on_answer e (on_turn (later_turns a i))) went

-- where one stops, they stop
stops_after : (e : Ending Turn) (next : Turn → ℕ → Ending Margin) (stop : SolveStop) (spent : ℕ) → StopsAs e stop spent → StopsAs (on_answer e next) stop spent
stops_after e next (WideStop unit w) spent is = (ap (λ (x : Ending Turn). on_answer x next) is.0, is.1)
stops_after e next BudgetStop spent is = ap (λ (x : Ending Turn). on_answer x next) is
stops_after e next Memory spent is = tt

pub turns_stop : (a : MarginQuestion) (all : Ending Margin) (i : ℕ) (L : Fraction) (at : List ℕ) (spent later : ℕ) (stop : SolveStop) → i ≤ a.budget → AreLeft a all i L at spent
    → StopsAs (turn_at a L at spent) stop later → StopsAs all stop later
turns_stop a all i L at spent later stop le left is =
    subst (λ (e : Ending Margin). StopsAs e stop later) (sym (next_is a all i L at spent le left)) (stops_after (turn_at a L at spent) (on_turn (later_turns a i)) stop later is)

-- and some search is always left: of what the code may ask, whatever its first liability
abbrev IsAny : Margin → Type 0
IsAny margin = Unit {0}

abbrev IsInLowest : Fraction → List ℕ → Type 0
IsInLowest L at = IsLowest L

keeps_lowest : (budget : ℕ) (batch : Batch) (fills : List Frac128) → HasItsForms batch → length fills ≡ length batch.orders → All IsNotBelowZero (map fraction_of fills)
    → Keeps (asked_in budget batch fills) IsInLowest IsAny
keeps_lowest budget batch fills forms count low =
    let a = asked_in budget batch fills in
    record {
      asked = λ L at lowest. record {
        some = forms.some;
        few = forms.few;
        lowest = lowest_of fills;
        not_below_zero = low;
        count = length-map fills fraction_of ∙ count;
        liability = lowest;
      };
      closes = λ L at spent units tree w ended. tt;
      shows = λ L at z spent units w ended zero. tt;
      wants = λ L at z spent units more w ended some is. wanted_is_lowest a z more (lowest_of fills) some is;
    }

pub never_none : (budget : ℕ) (batch : Batch) (fills : List Frac128) (first : Wanted) (spent i : ℕ) (L : Fraction) (at : List ℕ) (units : ℕ)
    → HasItsForms batch → length fills ≡ length batch.orders → All IsNotBelowZero (map fraction_of fills) → spent ≤ budget → budget < i
    → AreLeft (asked_in budget batch fills) (turns_from (asked_in budget batch fills) (budget + 1) (fraction_of first.liability) (vector_of first.at) spent) i L at units → ⊥
unfolding turns_from
never_none budget batch fills first spent i L at units forms count low le high left =
    let a = asked_in budget batch fills in
    let none : budget + 1 - i ≡ 0 = omega (arith, high) in
    let all = turns_from a (budget + 1) (fraction_of first.liability) (vector_of first.at) spent in
    let is : all ≡ unbounded [] units = left ∙ ap (λ (k : ℕ). turns_from a k L at units) none in
    subst (EndsWith (λ (margin : Margin) (spent : ℕ). IsAny margin)) is
    (turns_say a IsInLowest IsAny (keeps_lowest budget batch fills forms count low) (budget + 1) (fraction_of first.liability) (vector_of first.at) spent first.liability.lowest le (omega arith))

-- ---- the whole run
-- it begins with what the orders owe where all prices are 0
pub run_starts : (a : MarginQuestion) (orders : List Order) (z : List ℕ) (L : Fraction) (spent : ℕ) → orders ≡ a.orders → z ≡ zero_prices a.underlyings → spent ≡ 0
    → Ok L ≡ net_of a.limit (zip orders a.fills) z → margin_run a ≡ turns_from a (a.budget + 1) L z spent
unfolding margin_run
run_starts a orders z L spent same zero none is =
    let first = zero_prices a.underlyings in
    let net : net_at a first ≡ Ok L = sym (is ∙ (λ j. net_of a.limit (zip (same j) a.fills) (zero j))) in
    let all : turns_from a (a.budget + 1) L z spent ≡ turns_from a (a.budget + 1) L first 0 = λ j. turns_from a (a.budget + 1) L (zero j) (none j) in
    ap (λ (r : Result Fraction Misfit). on_steps 0 r (λ M. turns_from a (a.budget + 1) M first 0)) net ∙ sym all

pub run_stops : (a : MarginQuestion) (orders : List Order) (z : List ℕ) (w : Misfit) → orders ≡ a.orders → z ≡ zero_prices a.underlyings
    → Err w ≡ net_of a.limit (zip orders a.fills) z → margin_run a ≡ wide_at 0 w
unfolding margin_run
run_stops a orders z w same zero is =
    let first = zero_prices a.underlyings in
    let net : net_at a first ≡ Err w = sym (is ∙ (λ j. net_of a.limit (zip (same j) a.fills) (zero j))) in
    ap (λ (r : Result Fraction Misfit). on_steps 0 r (λ M. turns_from a (a.budget + 1) M first 0)) net

-- ---- the answer
pub margin_of : (ending : Ending Margin) (margin : LeastMargin) (spent : ℕ) → EndsAs ending margin spent → IsMarginWith ending margin spent
margin_of ending (Least L at tree) spent ended = ended
margin_of ending (Unbounded ray) spent ended = ended
margin_of ending (Wide unit wide) spent ended = absurd ended
margin_of ending Budget spent ended = absurd ended

pub wide_of : (ending : Ending Margin) (stop : SolveStop) (unit : ℕ) (w : Misfit) (spent units : ℕ) → stop ≡ WideStop unit w → StopsAs ending stop spent → IsMarginWith ending (Wide unit w) units
wide_of ending stop unit w spent units is said = (subst (λ (s : SolveStop). StopsAs ending s spent) is said).0

pub budget_of : (ending : Ending Margin) (stop : SolveStop) (spent : ℕ) → stop ≡ BudgetStop → StopsAs ending stop spent → IsMarginWith ending Budget spent
budget_of ending stop spent is said = subst (λ (s : SolveStop). StopsAs ending s spent) is said

-- whatever units are spent
pub with_some : (ending : Ending Margin) (margin : LeastMargin) (units : ℕ) → IsMarginWith ending margin units → IsMarginOf ending margin
with_some ending (Least L at tree) units (written, is, ended) = (written, units, is, ended)
with_some ending (Unbounded ray) units ended = (units, ended)
with_some ending (Wide unit wide) units ended = ended
with_some ending Budget units ended = (units, ended)

-- ---- the batch of positions
pub fills_are : (ps : List Position) (xs ys : List Frac128) → xs ≡ ys → ys ≡ map (λ (p : Position). p.fill) ps → map fraction_of xs ≡ fills_of ps
fills_are ps xs ys same is = ap (map fraction_of) (same ∙ is) ∙ map-map fraction_of (λ (p : Position). p.fill) ps

pub asked_is : (budget limit n : ℕ) (orders : List Order) (fills : List Frac128) (ps : List Position) → budget ≡ limit → orders ≡ orders_of ps → map fraction_of fills ≡ fills_of ps
    → asked_in budget (record { underlyings = n; orders = orders }) fills ≡ asked_for largest limit n ps
asked_is budget limit n orders fills ps units same are = λ j. record { limit = largest; budget = units j; underlyings = n; orders = same j; fills = are j }

pub forms_are : (n : ℕ) (orders : List Order) (ps : List Position) → 1 ≤ n → n ≤ 8 → orders ≡ orders_of ps → All (λ (p : Position). IsOnCount (n + 1) p.bundle) ps
    → HasItsForms (record { underlyings = n; orders = orders })
forms_are n orders ps some few same forms =
    let P : Order → Type 0 = λ o. IsOnCount (n + 1) o.bundle in
    record { some = some; few = few; forms = subst (All P) (sym same) (All-to_map P order_of ps forms) }

pub fills_low : (ps : List Position) → All IsHeldPosition ps → All IsNotBelowZero (fills_of ps)
fills_low ps held = All-to_map IsNotBelowZero fill_of ps (λ k d lt. (held k d lt).not_below_zero)
