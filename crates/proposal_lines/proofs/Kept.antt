-- What is kept is proved for the batch of the live orders, where they are those that it is for.
use Rattle.std.proofs.Common.{◌≡◌, ℕ, ◌≤◌, List, [], ◌∷◌, Bool, true, false, cond, not, nat_eq, if◌then◌else◌, Option, Some, None, Ok, option_and_then, refl, sym, ap, ◌∙◌, subst}
use Rattle.std.specs.Prelude.{IfSome}
use Rattle.std.specs.List.{All}
use Rattle.std.specs.Map.{lookup}
use Rattle.std.specs.Option.{option_map}
use Rattle.std.proofs.lemmas.List.Elements.{All-filter, All-nil, All-cons, All-head, All-tail, All-weaker}
use Rattle.std.proofs.lemmas.Slice.Eq.{bytes_eq-Decides}
use Rattle.std.proofs.lemmas.Bool.{eqb-true}
use Rattle.indexmap.specs.IndexMap.{insert_entry}
use Rattle.proposal_check.specs.Proposals.{proposal_bound}
use Rattle.proposal_check.specs.declared.covers.Proposal.{Proposal}
use Rattle.form.specs.declared.orders.Batch.{Batch}
use Rattle.form.specs.declared.orders.Order.{Order}
use Rattle.frac.specs.Range.{limit}
use Rattle.frac.specs.Value.{fraction_of}
use Rattle.frac.specs.declared.frac128.Frac128.{Frac128}
use Rattle.order_book.specs.Book.{BookState, batch_of, market_of}
use Rattle.order_book.specs.Kept.{IsBookKept, IsLive}
use Rattle.order_book.specs.Markets.{MarketState, live_orders}
use Rattle.order_book.specs.Numbers.{numbers_of}
use Rattle.order_book.proofs.BookKept.{market_kept}
use Rattle.order_book.proofs.MarketLists.{live_found}
use Rattle.exchange_core.proofs.LiveAccounts.{All-live_in}
use Rattle.proposals.specs.Best.{after_offer, are_same_orders, best_for, best_of, joined}
use Rattle.proposals.specs.Laws.{IsProvedBest}
use Rattle.proposals.specs.declared.best.Best.{Best}
use Rattle.proposals.proofs.Offers.{offers_stay_proved}
use Rattle.proposal_lines.specs.KeptByMarket.{KeptProposals, after_end, best_in, kept_in, with_kept, without_kept}
use Rattle.proposal_lines.specs.Proved.{AgreesWith, AreProvedIn, IsProvedIn}
use Rattle.proposal_lines.proofs.Numbered.{agree_all, same_orders}

pub same_numbers : (xs ys : List ℕ) → are_same_orders xs ys ≡ true → xs ≡ ys
same_numbers xs ys e = (bytes_eq-Decides xs ys).0 e

-- the orders of what is kept after a proposal
pub offered_orders : (kept : Option Best) (orders : List ℕ) (proposal : Proposal) (bound : Frac128) → (after_offer kept orders proposal bound).orders ≡ orders
offered_orders None orders proposal bound = refl
offered_orders (Some best) orders proposal bound = by (are_same_orders best.orders orders) refl
  where
    new : Best
    new = best_of orders proposal bound

    by : (b : Bool) → are_same_orders best.orders orders ≡ b → (if b then joined best new else new).orders ≡ orders
    by true e = same_numbers best.orders orders e
    by false e = refl

-- ---- by market
-- a fact of each market and of what is kept for it
abbrev pub Has : (ℕ → Best → Type 0) → ℕ × Option Best → Type 0
Has P entry = IfSome entry.1 (P entry.0)

module _ (P : ℕ → Best → Type 0) (market : ℕ) where
  pub found_has : (kept : KeptProposals) → All (Has P) kept → IfSome (kept_in market kept) (P market)
  found_has [] are = tt
  found_has (e ∷ kept) are = by (nat_eq market e.0) refl (found_has kept (All-tail (Has P) e kept are))
    where
      by : (b : Bool) → nat_eq market e.0 ≡ b → IfSome (kept_in market kept) (P market)
          → IfSome (option_and_then (λ best. best) (cond b (Some e.1) (lookup (nat_eq market) kept))) (P market)
      by true is later = subst (λ n. IfSome e.1 (P n)) (sym (eqb-true market e.0 is)) (All-head (Has P) e kept are)
      by false is later = later

  pub without_has : (kept : KeptProposals) → All (Has P) kept → All (Has P) (without_kept market kept)
  without_has kept are = All-filter (λ (e : ℕ × Option Best). not (nat_eq market e.0)) (Has P) kept are

  inserted_has : (best : Best) → P market best → (kept : KeptProposals) → All (Has P) kept → All (Has P) (insert_entry nat_eq kept market (Some best))
  inserted_has best is [] are = All-cons (Has P) (market, Some best) [] is (All-nil (Has P))
  inserted_has best is (e ∷ kept) are = by (nat_eq market e.0) refl (inserted_has best is kept (All-tail (Has P) e kept are))
    where
      by : (b : Bool) → nat_eq market e.0 ≡ b → All (Has P) (insert_entry nat_eq kept market (Some best))
          → All (Has P) (if b then (e.0, Some best) ∷ kept else e ∷ insert_entry nat_eq kept market (Some best))
      by true at later = All-cons (Has P) (e.0, Some best) kept (subst (λ n. P n best) (eqb-true market e.0 at) is) (All-tail (Has P) e kept are)
      by false at later = All-cons (Has P) e (insert_entry nat_eq kept market (Some best)) (All-head (Has P) e kept are) later

  pub with_has : (best : Best) → P market best → (kept : KeptProposals) → All (Has P) kept → All (Has P) (with_kept market best kept)
  with_has best is kept are = inserted_has best is (without_kept market kept) (without_has kept are)

-- where one is cleared or settled, or none
pub ended_has : (P : ℕ → Best → Type 0) (ended : Option ℕ) (kept : KeptProposals) → All (Has P) kept → All (Has P) (after_end kept ended)
ended_has P None kept are = are
ended_has P (Some market) kept are = without_has P market kept are

module _ (book : BookState) (market : ℕ) where
  pub found_proved : (kept : KeptProposals) → AreProvedIn book kept → IfSome (kept_in market kept) (IsProvedIn book market)
  found_proved = found_has (IsProvedIn book) market

  pub without_proved : (kept : KeptProposals) → AreProvedIn book kept → AreProvedIn book (without_kept market kept)
  without_proved = without_has (IsProvedIn book) market

  pub with_proved : (best : Best) → IsProvedIn book market best → (kept : KeptProposals) → AreProvedIn book kept → AreProvedIn book (with_kept market best kept)
  with_proved = with_has (IsProvedIn book) market

-- ---- for the live orders
module _ (book : BookState) (market : ℕ) (m : MarketState) (found : market_of book market ≡ Some m) where
  -- what is kept for them is proved for their batch
  counted : (best : Best) → IsProvedIn book market best → best.orders ≡ numbers_of m.live → IsProvedBest (batch_of m) best
  counted best is same =
      let live : m.live ≡ is.batch.orders =
      same_orders m.live is.batch.orders (sym same ∙ is.numbers)
      (subst (All (AgreesWith is.batch.orders)) (live_found market book.markets m found) (All-live_in (AgreesWith is.batch.orders) market book.markets is.agree)) in
      let there : Some m.underlyings ≡ Some is.batch.underlyings = sym (ap (option_map (λ (m : MarketState). m.underlyings)) found) ∙ is.underlyings in
      let on : m.underlyings ≡ is.batch.underlyings = cc in
      let own : batch_of m ≡ is.batch =
      ap (λ (n : ℕ). batch_on n m.live) on ∙ ap (batch_on is.batch.underlyings) live in
      subst (λ (b : Batch). IsProvedBest b best) (sym own) is.proved
    where
      batch_on : ℕ → List Order → Batch
      batch_on n orders = record { underlyings = n; orders = orders }

  best_counted : (orders : List ℕ) → orders ≡ numbers_of m.live → (kept : Option Best) → IfSome kept (IsProvedIn book market) → IfSome (best_for kept orders) (IsProvedBest (batch_of m))
  best_counted orders same None are = tt
  best_counted orders same (Some best) is = by (are_same_orders best.orders orders) refl
    where
      by : (b : Bool) → are_same_orders best.orders orders ≡ b → IfSome (if b then Some best else None) (IsProvedBest (batch_of m))
      by true e = counted best is (same_numbers best.orders orders e ∙ same)
      by false e = tt

  pub best_proved : (kept : KeptProposals) → AreProvedIn book kept → IfSome (best_in market (numbers_of m.live) kept) (IsProvedBest (batch_of m))
  best_proved kept are = best_counted (numbers_of m.live) refl (kept_in market kept) (found_proved book market kept are)

  -- a proposal for them that proves its bound
  pub offered_proved : IsBookKept book → (orders : List ℕ) → are_same_orders orders (numbers_of m.live) ≡ true → (proposal : Proposal) (bound : Frac128)
      → proposal_bound limit (batch_of m) proposal ≡ Ok (fraction_of bound) → (kept : KeptProposals) → AreProvedIn book kept
      → IsProvedIn book market (after_offer (kept_in market kept) orders proposal bound)
  offered_proved is_kept orders same proposal bound proves kept are =
      let own = same_numbers orders (numbers_of m.live) same in
      let all = agree_all (live_orders book.markets) is_kept.numbers in
      record {
        batch = batch_of m;
        proved = offers_stay_proved (batch_of m) (kept_in market kept) orders proposal bound (best_counted orders own (kept_in market kept) (found_proved book market kept are)) proves;
        numbers = offered_orders (kept_in market kept) orders proposal bound ∙ own;
        underlyings = ap (option_map (λ (m : MarketState). m.underlyings)) found;
        agree = All-weaker (AgreesWith (live_orders book.markets)) (AgreesWith m.live)
            (λ (p : Order) h. subst (All (λ (own : Order). p.id ≡ own.id → p ≡ own)) (live_found market book.markets m found)
            (All-live_in (λ (own : Order). p.id ≡ own.id → p ≡ own) market book.markets h)) (live_orders book.markets) all;
        accepted = All-weaker (IsLive m.underlyings book.accepted) (λ (order : Order). order.id ≤ book.accepted) (λ order l. l.number) m.live (market_kept book is_kept market m found).live;
      }
