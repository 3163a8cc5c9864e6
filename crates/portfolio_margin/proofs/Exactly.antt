-- The liability that a settlement wants is what the positions owe there, by t.
use Rattle.std.proofs.Common.{◌≡◌, ℕ, ◌*◌, ◌≤◌, List, zip, arith, ℤ, pos, ◌*ℤ◌, All, Ok, ap, sym, ◌∙◌, subst}
use Rattle.std.specs.Prelude.{◌≢◌}
use Rattle.std.proofs.lemmas.Int.{ints}
use Rattle.std.proofs.lemmas.List.Elements.{All-head, All-tail}
use Rattle.arithmetic.proofs.Integers.{*ℤ_cancel, swap_factors}
use Rattle.exact_num.specs.Fraction.{Fraction, IsLowest, whole}
use Rattle.exact_num.specs.CommonDenominator.{amount_over, common_denominator}
use Rattle.exact_num.specs.Fits.{div_of}
use Rattle.exact_num.proofs.After.{after_value}
use Rattle.exact_num.proofs.Exactness.{quotients_are_exact}
use Rattle.exact_num.proofs.Fractions.{amount_is_exact, divides}
use Rattle.exact_num.proofs.LowestRatios.{IsLowestRatio}
use Rattle.exact_num.proofs.Values.{whole_is_lowest}
use Rattle.form.specs.declared.orders.Order.{Order}
use Rattle.form.specs.Payoff.{bundle_of, bundle_payoff, scale_of}
use Rattle.clearing_model.specs.Clearing.{signed_sum}
use Rattle.clearing_model.specs.Certificate.{signed_over}
use Rattle.line_cover.specs.Net.{add_payoff, net_of}
use Rattle.line_cover.proofs.Fills.{fills_stand}
use Rattle.line_cover.proofs.Sound.{payoff_adds}
use Rattle.settlement.specs.declared.position.Position.{Position}
use Rattle.portfolio_margin.specs.Owed.{EqualsAt, fills_of, owed_over}
use Rattle.portfolio_margin.specs.Run.{MarginQuestion, asked_for, net_at, orders_of, wanted_at}
use Rattle.portfolio_margin.proofs.Owing.{Divides, fills_lowest, signed_is_owed}

net_stands : (limit D : ℕ) (os : List Order) (fs : List Fraction) (z : List ℕ) (s : Fraction) → All IsLowest fs → All (Divides D) fs → net_of limit (zip os fs) z ≡ Ok s
    → IsLowestRatio s (signed_sum (λ o. bundle_payoff (bundle_of o) z) (signed_over D os fs)) D
net_stands limit D os fs z s lowest divides h =
    fills_stand D (add_payoff limit z) (λ o. bundle_payoff (bundle_of o) z) (λ o a sa. payoff_adds limit D z o a (amount_over D a) sa) os fs s
    (λ k d lt. record { lowest = lowest k d lt; ratio = amount_is_exact D _ (divides k d lt) }) h

-- the net of positions
pub owed_stands : (limit D : ℕ) (ps : List Position) (z : List ℕ) (s : Fraction) → All (Divides D) (fills_of ps) → net_of limit (zip (orders_of ps) (fills_of ps)) z ≡ Ok s
    → IsLowestRatio s (owed_over D ps z) D
owed_stands limit D ps z s divides h =
    subst (λ (v : ℤ). IsLowestRatio s v D) (signed_is_owed D ps z) (net_stands limit D (orders_of ps) (fills_of ps) z s (fills_lowest ps) divides h)

-- ---- a quotient, in whole numbers: m / n is o / D, and l / d is a / D and m / n by t
quotient_is : (o a m l : ℤ) (D t n d : ℕ) → 1 ≤ n → 1 ≤ d → m *ℤ pos D ≡ o *ℤ pos n → (l *ℤ pos t) *ℤ pos n ≡ m *ℤ pos (d * 1) → l *ℤ pos D ≡ a *ℤ pos d → o ≡ a *ℤ pos t
quotient_is o a m l D t n d some one owed same amount =
    let unit : d ≡ d * 1 = omega arith in
    let times : m *ℤ pos d ≡ (l *ℤ pos t) *ℤ pos n = ap (λ (k : ℕ). m *ℤ pos k) unit ∙ sym same in
    let first : (o *ℤ pos n) *ℤ pos d ≡ ((l *ℤ pos t) *ℤ pos n) *ℤ pos D =
    ap (λ (w : ℤ). w *ℤ pos d) (sym owed) ∙ swap_factors m D d ∙ ap (λ (w : ℤ). w *ℤ pos D) times in
    let second : (l *ℤ pos t) *ℤ pos D ≡ (a *ℤ pos t) *ℤ pos d = swap_factors l t D ∙ ap (λ (w : ℤ). w *ℤ pos t) amount ∙ swap_factors a d t in
    let third : ((l *ℤ pos t) *ℤ pos n) *ℤ pos D ≡ ((a *ℤ pos t) *ℤ pos n) *ℤ pos d =
    swap_factors (l *ℤ pos t) n D ∙ ap (λ (w : ℤ). w *ℤ pos n) second ∙ swap_factors (a *ℤ pos t) d n in
    *ℤ_cancel n o (a *ℤ pos t) some (*ℤ_cancel d (o *ℤ pos n) ((a *ℤ pos t) *ℤ pos n) one (first ∙ third))

not_zero : (t : ℕ) → 1 ≤ t → pos t ≢ pos 0
not_zero t some e = omega (arith, ints, e)

-- ---- the liability of a settlement
pub wanted_is_lowest : (a : MarginQuestion) (z : List ℕ) (L : Fraction) → All IsLowest a.fills → 1 ≤ scale_of z → wanted_at a z ≡ Ok L → IsLowest L
wanted_is_lowest a z L lowest some h =
    let t = whole (pos (scale_of z)) in
    let f = after_value (net_at a z) (λ net. div_of a.limit net t) L h in
    let st = net_stands a.limit (common_denominator a.fills) a.orders a.fills z f.value lowest (divides a.fills) f.first in
    (quotients_are_exact a.limit f.value t L st.lowest (whole_is_lowest (pos (scale_of z))) (not_zero (scale_of z) some) f.rest).lowest

pub wanted_equals : (limit budget n : ℕ) (ps : List Position) (z : List ℕ) (L : Fraction) → 1 ≤ scale_of z → wanted_at (asked_for limit budget n ps) z ≡ Ok L → EqualsAt L ps z
wanted_equals limit budget n ps z L some h D is =
    let t = whole (pos (scale_of z)) in
    let a = asked_for limit budget n ps in
    let f = after_value (net_at a z) (λ net. div_of limit net t) L h in
    let st = owed_stands limit D ps z f.value (All-tail (Divides D) L (fills_of ps) is.divides) f.first in
    let q = quotients_are_exact limit f.value t L st.lowest (whole_is_lowest (pos (scale_of z))) (not_zero (scale_of z) some) f.rest in
    quotient_is (owed_over D ps z) (amount_over D L) f.value.numerator L.numerator D (scale_of z) f.value.denominator L.denominator st.lowest.positive q.lowest.positive st.ratio q.same
    (amount_is_exact D L (All-head (Divides D) L (fills_of ps) is.divides))

-- where t is 1, the net itself
pub first_equals : (limit : ℕ) (ps : List Position) (z : List ℕ) (L : Fraction) → scale_of z ≡ 1 → net_of limit (zip (orders_of ps) (fills_of ps)) z ≡ Ok L → EqualsAt L ps z
first_equals limit ps z L unit h D is =
    let st = owed_stands limit D ps z L (All-tail (Divides D) L (fills_of ps) is.divides) h in
    let amount = amount_is_exact D L (All-head (Divides D) L (fills_of ps) is.divides) in
    let same : owed_over D ps z ≡ amount_over D L = *ℤ_cancel L.denominator (owed_over D ps z) (amount_over D L) st.lowest.positive (sym st.ratio ∙ amount) in
    let one : amount_over D L ≡ amount_over D L *ℤ pos 1 = omega (arith, ints) in
    same ∙ one ∙ ap (λ (t : ℕ). amount_over D L *ℤ pos t) (sym unit)

pub first_is_lowest : (limit : ℕ) (ps : List Position) (z : List ℕ) (L : Fraction) → net_of limit (zip (orders_of ps) (fills_of ps)) z ≡ Ok L → IsLowest L
first_is_lowest limit ps z L h = (owed_stands limit (common_denominator (fills_of ps)) ps z L (divides (fills_of ps)) h).lowest
