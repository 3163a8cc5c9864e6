-- The auctions of all bundles, each run where the first order of its bundle stands.
use Rattle.std.proofs.Common.{◌≡◌, ℕ, ◌+◌, ◌≤◌, List, [], ◌++◌, Bool, true, false, ◌&&◌, ◌||◌, if◌then◌else◌, length, get_or, take, take_all, Some, slice_get, refl, sym, ap, subst, ◌∙◌, arith}
use Rattle.std.proofs.lemmas.List.Folds.{list_any_more, list_any_at}
use Rattle.std.proofs.lemmas.List.Sums.{sum_by-append}
use Rattle.std.proofs.lemmas.Option.{slice_get_within, get_or_from_slice_get}
use Rattle.std.specs.List.{list_any}
use Rattle.std.proofs.Math.Bool.{and-false, or-false}
use Rattle.form.specs.declared.orders.Order.{Order}
use Rattle.form.specs.Vector.{is_same_bundle}
use Rattle.form.specs.Payoff.{BundleLeg, bundle_of}
use Rattle.market_laws.proofs.Balance.{bundle_is_same, same_bundle_is}
use Rattle.bundle_match.specs.declared.auction.Trade.{Trade}
use Rattle.bundle_match.specs.Auction.{amount_at, fill_at}
use Rattle.bundle_match.specs.Match.{trades_of, fill_of}
use Rattle.bundle_match.specs.Queue.{is_on}
use Rattle.bundle_match.specs.Trades.{is_seen, AreTradesOf}
use Rattle.bundle_match.proofs.Fills.{others_unfilled}

-- the trades are those of the bundles that were seen
abbrev pub AreTradesSoFar : List Order → ℕ → List Trade → Type 0
AreTradesSoFar orders place trades =
    (k : ℕ) (o : Order) → slice_get orders k ≡ Some o → fill_at o.side k trades ≡ (if is_seen orders place (bundle_of o) then fill_of orders k o else 0)

seen_more : (orders : List Order) (place : ℕ) (x : Order) (bundle : List BundleLeg) → slice_get orders place ≡ Some x → is_seen orders (place + 1) bundle ≡ (is_seen orders place bundle || is_same_bundle (bundle_of x) bundle)
seen_more orders place x bundle at =
    list_any_more (λ (earlier : Order). is_same_bundle (bundle_of earlier) bundle) orders place x (slice_get_within orders place x at)
    ∙ ap (λ (o : Order). is_seen orders place bundle || is_same_bundle (bundle_of o) bundle) (get_or_from_slice_get orders place x x at)

-- with the first order of a bundle its trades come, and with a later one none
module _ (orders : List Order) (place : ℕ) (x : Order) (at_x : slice_get orders place ≡ Some x) (trades : List Trade) (h : AreTradesSoFar orders place trades) where
  pub first_of_bundle : is_seen orders place (bundle_of x) ≡ false → AreTradesSoFar orders (place + 1) (trades ++ trades_of orders (bundle_of x))
  first_of_bundle new k o at =
      let more = trades_of orders (bundle_of x) in
      let sum : fill_at o.side k (trades ++ more) ≡ fill_at o.side k trades + fill_at o.side k more = sum_by-append (amount_at o.side k) trades more in
      let Q : Bool → Type 0 = λ b. is_same_bundle (bundle_of x) (bundle_of o) ≡ b → fill_at o.side k (trades ++ more) ≡ (if is_seen orders place (bundle_of o) || b then fill_of orders k o else 0) in
      (elim (is_same_bundle (bundle_of x) (bundle_of o)) as Q [
        | true ↦ λ same.
            let is : bundle_of x ≡ bundle_of o = same_bundle_is (bundle_of x) (bundle_of o) same in
            let unseen : is_seen orders place (bundle_of o) ≡ false = ap (is_seen orders place) (sym is) ∙ new in
            let none : fill_at o.side k trades ≡ 0 = h k o at ∙ ap (λ b. if b then fill_of orders k o else 0) unseen in
            let all : fill_at o.side k more ≡ fill_of orders k o = ap (λ bundle. fill_at o.side k (trades_of orders bundle)) is in
            rw unseen (omega (arith, sum, none, all))
        | false ↦ λ other.
            let none : fill_at o.side k more ≡ 0 = others_unfilled orders (bundle_of x) o.side k o at (not_of_it o other) in
            rw (or-false (is_seen orders place (bundle_of o))) (omega (arith, sum, none, h k o at))
      ]) refl ∙ ap (λ b. if b then fill_of orders k o else 0) (sym (seen_more orders place x (bundle_of o) at_x))
    where
      not_of_it : (o : Order) → is_same_bundle (bundle_of x) (bundle_of o) ≡ false → (is_on o.side o.side && is_same_bundle (bundle_of o) (bundle_of x)) ≡ false
      not_of_it o other =
          let P : Bool → Type 0 = λ b. is_same_bundle (bundle_of o) (bundle_of x) ≡ b → (is_on o.side o.side && b) ≡ false in
          (elim (is_same_bundle (bundle_of o) (bundle_of x)) as P [
            | true ↦ λ same. let back : is_same_bundle (bundle_of x) (bundle_of o) ≡ true = subst (λ b. is_same_bundle (bundle_of x) b ≡ true) (sym (same_bundle_is (bundle_of o) (bundle_of x) same)) (bundle_is_same (bundle_of x)) in cc
            | false ↦ λ _. and-false (is_on o.side o.side)
          ]) refl

  pub later_of_bundle : is_seen orders place (bundle_of x) ≡ true → AreTradesSoFar orders (place + 1) trades
  later_of_bundle seen k o at =
      let Q : Bool → Type 0 = λ b. is_same_bundle (bundle_of x) (bundle_of o) ≡ b → is_seen orders place (bundle_of o) ≡ (is_seen orders place (bundle_of o) || b) in
      let same_test = (elim (is_same_bundle (bundle_of x) (bundle_of o)) as Q [
        | true ↦ λ same.
            let is : bundle_of x ≡ bundle_of o = same_bundle_is (bundle_of x) (bundle_of o) same in
            let already : is_seen orders place (bundle_of o) ≡ true = ap (is_seen orders place) (sym is) ∙ seen in
            rw already refl
        | false ↦ λ _. sym (or-false (is_seen orders place (bundle_of o)))
      ]) refl in
      h k o at ∙ ap (λ b. if b then fill_of orders k o else 0) (same_test ∙ sym (seen_more orders place x (bundle_of o) at_x))

pub all_trades : (orders : List Order) (place : ℕ) (trades : List Trade) → length orders ≤ place → AreTradesSoFar orders place trades → AreTradesOf orders trades
all_trades orders place trades all h k o at =
    let whole : take place orders ≡ orders = take_all place orders all in
    let test : List Order → Bool = list_any (λ (earlier : Order). is_same_bundle (bundle_of earlier) (bundle_of o)) in
    let itself : is_same_bundle (bundle_of (get_or orders k o)) (bundle_of o) ≡ true = ap (λ (p : Order). is_same_bundle (bundle_of p) (bundle_of o)) (get_or_from_slice_get orders k o o at) ∙ bundle_is_same (bundle_of o) in
    let seen : is_seen orders place (bundle_of o) ≡ true = ap test whole ∙ list_any_at (λ (earlier : Order). is_same_bundle (bundle_of earlier) (bundle_of o)) orders k o (slice_get_within orders k o at) itself in
    h k o at ∙ ap (λ b. if b then fill_of orders k o else 0) seen
