-- How much of the order at a place waits in a queue, counted where a test of its price holds.
use Rattle.std.proofs.Common.{◌≡◌, ℕ, zero, suc, ◌+◌, ◌-◌, ◌==◌, ◌≤◌, ◌<◌, List, [], ◌∷◌, Bool, true, false, ◌&&◌, cond, if◌then◌else◌, Some, slice_get, refl, sym, ap, ◌∙◌, arith}
use Rattle.std.proofs.lemmas.Bool.Decides.{nat_tests}
use Rattle.std.specs.List.{AllByRecursion}
use Rattle.form.specs.declared.orders.Order.{Order}
use Rattle.form.specs.declared.orders.Side.{Side}
use Rattle.form.specs.Payoff.{BundleLeg}
use Rattle.bundle_match.specs.declared.queues.Offer.{Offer}
use Rattle.bundle_match.specs.Auction.{fill_first}
use Rattle.bundle_match.specs.Queue.{stands_before, put_into, in_line, offer_of, belongs, offers_from, queue_of}
use Rattle.bundle_match.proofs.Turns.{first_filled}

-- n, where the offer is of the order at the place and its price passes
abbrev pub part : (ℕ → Bool) → ℕ → Offer → ℕ → ℕ
part p k x n = if (x.place == k) && p x.price then n else 0

abbrev pub waits : (ℕ → Bool) → ℕ → List Offer → ℕ
waits p k [] = 0
waits p k (x ∷ xs) = part p k x x.left + waits p k xs

part-sum : (b : Bool) (n m l : ℕ) → n + m ≡ l → cond b n 0 + cond b m 0 ≡ cond b l 0
part-sum true n m l e = e
part-sum false n m l e = omega arith

-- what is filled of the first order waits no longer
pub waits-fill_first : (p : ℕ → Bool) (k n : ℕ) (x : Offer) (xs : List Offer) → n ≤ x.left → waits p k (x ∷ xs) ≡ part p k x n + waits p k (fill_first n (x ∷ xs))
waits-fill_first p k n x xs le =
    first_filled (λ l. waits p k (x ∷ xs) ≡ part p k x n + waits p k l) n x xs
    (λ e. ap (λ m. part p k x m + waits p k xs) (sym e))
    (λ _. let e = part-sum ((x.place == k) && p x.price) n (x.left - n) x.left (omega (arith, le)) in omega (arith, e))

waits-put_into : (side : Side) (p : ℕ → Bool) (k : ℕ) (x : Offer) (ys : List Offer) → waits p k (put_into side x ys) ≡ part p k x x.left + waits p k ys
waits-put_into side p k x [] = refl
waits-put_into side p k x (y ∷ ys) =
    elim (stands_before side y x) as (λ b. waits p k (cond b (y ∷ put_into side x ys) (x ∷ y ∷ ys)) ≡ part p k x x.left + (part p k y y.left + waits p k ys)) [
      | true ↦ omega (arith, waits-put_into side p k x ys)
      | false ↦ refl
    ]

waits-in_line : (side : Side) (p : ℕ → Bool) (k : ℕ) (xs : List Offer) → waits p k (in_line side xs) ≡ waits p k xs
waits-in_line side p k [] = refl
waits-in_line side p k (x ∷ xs) = waits-put_into side p k x (in_line side xs) ∙ ap (λ n. part p k x x.left + n) (waits-in_line side p k xs)

-- of offers whose prices do not pass nothing counts
pub none_waits : (p : ℕ → Bool) (k : ℕ) (xs : List Offer) → AllByRecursion (λ x. p x.price ≡ false) xs → waits p k xs ≡ 0
none_waits p k [] h = refl
none_waits p k (x ∷ xs) h =
    let rest = none_waits p k xs h.1 in
    elim (x.place == k) as (λ b. (if b && p x.price then x.left else 0) + waits p k xs ≡ 0) [ true ↦ rw h.0 (omega (arith, rest)) | false ↦ omega (arith, rest) ]

-- ---- in the queue of a bundle
elsewhere : (p : ℕ → Bool) (k : ℕ) (x : Offer) (n : ℕ) → (x.place ≡ k → ⊥) → part p k x n ≡ 0
elsewhere p k x n other = let e : (x.place == k) ≡ false = grind (arith, nat_tests) in rw e refl

at_place : (p : ℕ → Bool) (k : ℕ) (x : Offer) (n : ℕ) → x.place ≡ k → part p k x n ≡ (if p x.price then n else 0)
at_place p k x n e = let t : (x.place == k) ≡ true = grind (arith, nat_tests) in rw t refl

abbrev pub waiting_of : (ℕ → Bool) → Order → ℕ
waiting_of p order = if p order.price then order.quantity else 0

before : (side : Side) (bundle : List BundleLeg) (p : ℕ → Bool) (k place : ℕ) (orders : List Order) → k < place → waits p k (offers_from side bundle place orders) ≡ 0
before side bundle p k place [] lt = refl
before side bundle p k place (order ∷ orders) lt =
    let later = before side bundle p k (place + 1) orders (omega arith) in
    elim (belongs side bundle order) as (λ b. waits p k (if b then offer_of place order ∷ offers_from side bundle (place + 1) orders else offers_from side bundle (place + 1) orders) ≡ 0) [
      | true ↦ omega (arith, later, elsewhere p k (offer_of place order) order.quantity (λ e. omega (arith, e)))
      | false ↦ later
    ]

from_place : (side : Side) (bundle : List BundleLeg) (p : ℕ → Bool) (k place i : ℕ) (orders : List Order) (o : Order) → k ≡ place + i → slice_get orders i ≡ Some o
    → waits p k (offers_from side bundle place orders) ≡ (if belongs side bundle o then waiting_of p o else 0)
from_place side bundle p k place i [] o is at = cc
from_place side bundle p k place zero (order ∷ orders) o is at =
    let e : order ≡ o = cc in
    let later = before side bundle p k (place + 1) orders (omega (arith, is)) in
    let here : waits p k (offers_from side bundle place (order ∷ orders)) ≡ (if belongs side bundle order then waiting_of p order else 0) =
    elim (belongs side bundle order) as (λ b. waits p k (if b then offer_of place order ∷ offers_from side bundle (place + 1) orders else offers_from side bundle (place + 1) orders) ≡ (if b then waiting_of p order else 0)) [
      | true ↦ omega (arith, later, at_place p k (offer_of place order) order.quantity (omega (arith, is)))
      | false ↦ later
    ] in
    here ∙ ap (λ (q : Order). if belongs side bundle q then waiting_of p q else 0) e
from_place side bundle p k place (suc i) (order ∷ orders) o is at =
    let later = from_place side bundle p k (place + 1) i orders o (omega (arith, is)) at in
    elim (belongs side bundle order) as (λ b. waits p k (if b then offer_of place order ∷ offers_from side bundle (place + 1) orders else offers_from side bundle (place + 1) orders) ≡ (if belongs side bundle o then waiting_of p o else 0)) [
      | true ↦ omega (arith, later, elsewhere p k (offer_of place order) order.quantity (λ e. omega (arith, e, is)))
      | false ↦ later
    ]

-- the order at a place waits whole in the queue of its bundle on its side, and not at all in
-- another
pub waits-queue_of : (side : Side) (bundle : List BundleLeg) (p : ℕ → Bool) (k : ℕ) (orders : List Order) (o : Order) → slice_get orders k ≡ Some o
    → waits p k (queue_of side bundle orders) ≡ (if belongs side bundle o then waiting_of p o else 0)
waits-queue_of side bundle p k orders o at = waits-in_line side p k (offers_from side bundle 0 orders) ∙ from_place side bundle p k 0 k orders o (omega arith) at
