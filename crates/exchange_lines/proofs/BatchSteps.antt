-- A batch from its clear on: its positions wait until its market is settled, and then it is over.
use Rattle.std.proofs.Common.{◌≡◌, ℕ, ◌+◌, ◌≤◌, length, List, [], ◌++◌, Bool, true, false, not, nat_eq, Some, ◌⊎◌, inl, inr, ℤ, pos, ◌+ℤ◌, ◌-ℤ◌, ◌*ℤ◌, refl, sym, ap, ◌∙◌, subst, arith, true≢false, ⊎_elim}
use Rattle.std.specs.Prelude.{⊤}
use Rattle.std.specs.List.{All, zip}
use Rattle.std.proofs.lemmas.Bool.{cases_eq, eq-eqb, ne_eqb}
use Rattle.std.proofs.lemmas.Int.{ints}
use Rattle.std.proofs.lemmas.List.{append-nil}
use Rattle.std.proofs.lemmas.List.Elements.{filter-append}
use Rattle.arithmetic.specs.Sums.{total}
use Rattle.arithmetic.proofs.Sums.{total_same}
use Rattle.cert_check.specs.declared.outcome.Outcome.{Outcome}
use Rattle.cert_check.specs.Laws.{IsCovered}
use Rattle.exact_num.specs.Fraction.{AtMost, whole}
use Rattle.form.specs.declared.orders.Batch.{Batch}
use Rattle.form.specs.declared.orders.Order.{Order}
use Rattle.form.specs.Payoff.{BundleLeg, bundle_legs}
use Rattle.frac.specs.declared.frac128.Frac128.{Frac128}
use Rattle.frac.specs.Value.{fraction_of}
use Rattle.order_book.specs.Book.{BookState}
use Rattle.order_book.specs.Markets.{settled_market, with_live}
use Rattle.settlement.specs.declared.position.PaidOut.{PaidOut}
use Rattle.settlement.specs.declared.position.Position.{Position}
use Rattle.settlement.specs.Payout.{floor_of, worth_at}
use Rattle.clearing_model.specs.Clearing.{for_side}
use Rattle.settlement.specs.Positions.{gain_at, held_in, is_of, outside, payouts_of}
use Rattle.reply_print.specs.declared.replies.Reply.{Reply}
use Rattle.exchange_core.specs.ExchangeState.{ExchangeState}
use Rattle.exchange_core.specs.Positions.{positions_in}
use Rattle.exchange_core.specs.Premiums.{premium_entries}
use Rattle.exchange_lines.specs.Gain.{house_gain, house_total, paid_to_traders, premium_gains}
use Rattle.exchange_lines.specs.GainRuns.{IfSettles}
use Rattle.exchange_lines.proofs.FillGains.{gain_covers, gain_on}
use Rattle.exchange_lines.proofs.Filters.{filter_all, filter_commute, filter_none}
use Rattle.exchange_lines.proofs.HouseEntries.{house_total-append, premiums_entered}
use Rattle.exchange_lines.proofs.Listings.{listed_in, listed-changed, listed-closed, same_listing}
use Rattle.exchange_lines.proofs.ZeroPrices.{with_zero_prices}
use Rattle.exchange_lines.proofs.Payouts.{all_made, gains_of_fills, held_for, is_held_for, paid_for}
use Rattle.exchange_lines.proofs.GainReplies.{plain_settles}
use Rattle.exchange_lines.proofs.RunStates.{IsRunning, apart_above, cleared_another, none_to_come, settled_entries, settled_nothing}
use Rattle.exchange_lines.proofs.GainSteps.{IsQuiet, IsClear, IsSettle, StepsTo}

-- ---- the positions of a batch among others
abbrev IsAny : Order → Type 0
IsAny order = ⊤

any : (orders : List Order) → All IsAny orders
any orders = λ k d inside. tt

module _ (market number : ℕ) (orders : List Order) (fills : List Frac128) where
  abbrev new_positions : List Position
  new_positions = positions_in market number orders fills

  new_for : (q : ℕ) → number ≡ q → held_for q new_positions ≡ new_positions
  new_for q e = filter_all (is_held_for q) new_positions (all_made (λ p. is_held_for q p ≡ true) IsAny market number (λ order fill h. eq-eqb number q e) orders fills (any orders))

  new_for_none : (q : ℕ) → nat_eq number q ≡ false → held_for q new_positions ≡ []
  new_for_none q e = filter_none (is_held_for q) new_positions (all_made (λ p. is_held_for q p ≡ false) IsAny market number (λ order fill h. e) orders fills (any orders))

  new_inside : (q : ℕ) → market ≡ q → held_in q new_positions ≡ new_positions
  new_inside q e = filter_all (is_of q) new_positions (all_made (λ p. is_of q p ≡ true) IsAny market number (λ order fill h. eq-eqb market q e) orders fills (any orders))

  new_inside_none : (q : ℕ) → nat_eq market q ≡ false → held_in q new_positions ≡ []
  new_inside_none q e = filter_none (is_of q) new_positions (all_made (λ p. is_of q p ≡ false) IsAny market number (λ order fill h. e) orders fills (any orders))

  new_outside : (q : ℕ) → nat_eq market q ≡ false → outside q new_positions ≡ new_positions
  new_outside q e = filter_all (λ p. not (is_of q p)) new_positions (all_made (λ p. not (is_of q p) ≡ true) IsAny market number (λ order fill h. ap not e) orders fills (any orders))

  new_outside_none : (q : ℕ) → market ≡ q → outside q new_positions ≡ []
  new_outside_none q e = filter_none (λ p. not (is_of q p)) new_positions (all_made (λ p. not (is_of q p) ≡ false) IsAny market number (λ order fill h. ap not (eq-eqb market q e)) orders fills (any orders))

  -- those of another batch, put behind
  held_behind : (q : ℕ) → nat_eq number q ≡ false → (positions : List Position) → held_for q (positions ++ new_positions) ≡ held_for q positions
  held_behind q e positions = filter-append (is_held_for q) positions new_positions ∙ ap (λ l. held_for q positions ++ l) (new_for_none q e) ∙ append-nil (held_for q positions)

held_outside : (number q : ℕ) (positions : List Position) → held_for number (outside q positions) ≡ outside q (held_for number positions)
held_outside number q positions = filter_commute (is_held_for number) (λ p. not (is_of q p)) positions

module _ (number market : ℕ) where
  -- ---- the batch once its market is settled
  pub record IsOver (gain : ℤ) (state : ExchangeState) : Type 0 where
    pub underlyings : ℕ
    pub listed : listed_in state.book.markets market ≡ Some (underlyings, true)
    pub held : held_for number state.positions ≡ []
    pub used : number ≤ state.book.finished
    pub entered : house_total number state.entries ≡ gain

  module _ (state : ExchangeState) (result : Reply × ExchangeState) (running : IsRunning state) (gain : ℤ) (P : List PaidOut → Type 0) (over : IsOver gain state) where
    -- it stays over, and its market is not settled again
    abbrev StaysOver : Type 0
    StaysOver = IsOver gain result.1 × IfSettles market P result.0

    over_quiet : IsQuiet state result → StaysOver
    over_quiet quiet = (
      record {
        underlyings = over.underlyings;
        listed = quiet.listed market _ over.listed;
        held = ap (held_for number) quiet.positions ∙ over.held;
        used = subst (λ n. number ≤ n) (sym quiet.finished) over.used;
        entered = quiet.entered number ∙ over.entered;
      },
      plain_settles market P result.0 quiet.reply,
    )

    over_clear : IsClear state result → StaysOver
    over_clear clear =
        let other = apart_above (state.book.finished + 1) number (omega (arith, over.used)) in (
          record {
            underlyings = over.underlyings;
            listed = ap (λ (b : BookState). listed_in b.markets market) clear.book ∙ listed-changed market (λ m. with_live m []) clear.market (λ m h. refl) state.book.markets ∙ over.listed;
            held = ap (held_for number) clear.positions
                ∙ held_behind clear.market (state.book.finished + 1) clear.batch.orders clear.outcome.fills number other state.positions ∙ over.held;
            used = subst (λ n. number ≤ n) (sym (ap (λ (b : BookState). b.finished) clear.book)) (omega (arith, over.used));
            entered = ap (house_total number) clear.entries
                ∙ cleared_another number (state.book.finished + 1) clear.batch.orders clear.outcome.fills other clear.traders state.entries ∙ over.entered;
          },
          subst (IfSettles market P) (sym clear.reply) tt,
        )

    over_settle : IsSettle state result → StaysOver
    over_settle settle =
        let other : settle.market ≡ market → ⊥ = λ e.
        let here : Some (settle.underlyings, false) ≡ Some (over.underlyings, true) = sym settle.listed ∙ ap (listed_in state.book.markets) e ∙ over.listed in
        true≢false (sym (ap (λ (p : ℕ × Bool). p.1) (same_listing (settle.underlyings, false) (over.underlyings, true) here))) in (
          record {
            underlyings = over.underlyings;
            listed = ap (λ (b : BookState). listed_in b.markets market) settle.book
                ∙ listed-changed market settled_market settle.market (λ m h. absurd (true≢false (sym h ∙ ne_eqb market settle.market (λ e. other (sym e))))) state.book.markets ∙ over.listed;
            held = ap (held_for number) settle.positions ∙ held_outside number settle.market state.positions ∙ ap (outside settle.market) over.held;
            used = subst (λ n. number ≤ n) (sym (ap (λ (b : BookState). b.finished) settle.book)) over.used;
            entered = ap (house_total number) settle.entries
                ∙ settled_nothing number settle.market settle.prices state.positions running.holders state.entries over.held ∙ over.entered;
          },
          subst (IfSettles market P) (sym settle.reply) (λ e. absurd (other e)),
        )

    over_step : IsQuiet state result ⊎ (IsClear state result ⊎ IsSettle state result) → StaysOver
    over_step (inl quiet) = over_quiet quiet
    over_step (inr (inl clear)) = over_clear clear
    over_step (inr (inr settle)) = over_settle settle

  pub stays_over : (state : ExchangeState) (result : Reply × ExchangeState) → IsRunning state → StepsTo state result → (gain : ℤ) (P : List PaidOut → Type 0) → IsOver gain state
      → IsOver gain result.1 × IfSettles market P result.0
  stays_over state result running steps gain P over = over_step state result running gain P over steps.kind

  -- ---- the batch until then
  module _ (batch : Batch) (outcome : Outcome) where
    abbrev own_positions : List Position
    own_positions = positions_in market number batch.orders outcome.fills

    pub record IsWaiting (state : ExchangeState) : Type 0 where
      pub listed : listed_in state.book.markets market ≡ Some (batch.underlyings, false)
      pub held : held_for number state.positions ≡ own_positions
      pub used : number ≤ state.book.finished
      pub entered : house_total number state.entries ≡ premium_gains batch.orders outcome.fills

    -- what is paid out for it
    paid_own : (q : ℕ) (prices : List ℕ) (positions : List Position) → held_for number positions ≡ own_positions
        → paid_to_traders number (payouts_of q prices positions) ≡ total (gain_at prices) (held_in q own_positions)
    paid_own q prices positions held = paid_for number q prices positions ∙ ap (λ l. total (gain_at prices) (held_in q l)) held

    module _ (covered : IsCovered batch outcome) where
      -- the fills' gains are the same at prices of 0 for those that are left out
      same_gains : (whole prices : List ℕ) → ((legs : List BundleLeg) → worth_at whole legs ≡ worth_at prices legs)
          → total (gain_on whole) (zip batch.orders outcome.fills) ≡ total (gain_on prices) (zip batch.orders outcome.fills)
      same_gains whole prices worth =
          total_same (gain_on whole) (gain_on prices)
          (λ p. ap (λ w. floor_of ((fraction_of p.1).numerator *ℤ for_side p.0.side w) (fraction_of p.1).denominator) (worth (bundle_legs p.0.bundle)))
          (zip batch.orders outcome.fills)

      surplus_gained : (q : ℕ) (prices : List ℕ) (positions : List Position) → market ≡ q → length prices ≤ batch.underlyings → held_for number positions ≡ own_positions
          → AtMost (fraction_of outcome.claim.surplus) (whole (house_gain number batch outcome (payouts_of q prices positions)))
      surplus_gained q prices positions e few held =
          let (full, count, worth) = with_zero_prices batch.underlyings prices few in
          let paid = paid_own q prices positions held ∙ ap (total (gain_at prices)) (new_inside market number batch.orders outcome.fills q e)
          ∙ gains_of_fills market number prices batch.orders outcome.fills covered.covers.are_fills.1 in
          subst (λ g. AtMost (fraction_of outcome.claim.surplus) (whole (premium_gains batch.orders outcome.fills -ℤ g)))
          (same_gains full prices worth ∙ sym paid)
          (gain_covers batch.underlyings batch.orders outcome.fills (fraction_of outcome.claim.surplus) covered.covers full count)

      module _ (state : ExchangeState) (result : Reply × ExchangeState) (running : IsRunning state) (P : List PaidOut → Type 0) (waiting : IsWaiting state) where
        -- its market is settled, with at least the surplus gained, or not, and then it still waits
        pub record IsPaid : Type 0 where
          pub payouts : List PaidOut
          pub surplus : AtMost (fraction_of outcome.claim.surplus) (whole (house_gain number batch outcome payouts))
          pub over : IsOver (house_gain number batch outcome payouts) result.1
          pub reply : P payouts → IfSettles market P result.0

        abbrev pub WaitsOrIsPaid : Type 0
        WaitsOrIsPaid = (IsWaiting result.1 × IfSettles market P result.0) ⊎ IsPaid

        waiting_quiet : IsQuiet state result → WaitsOrIsPaid
        waiting_quiet quiet = inl (
          record {
            listed = quiet.listed market _ waiting.listed;
            held = ap (held_for number) quiet.positions ∙ waiting.held;
            used = subst (λ n. number ≤ n) (sym quiet.finished) waiting.used;
            entered = quiet.entered number ∙ waiting.entered;
          },
          plain_settles market P result.0 quiet.reply,
        )

        waiting_clear : IsClear state result → WaitsOrIsPaid
        waiting_clear clear =
            let other = apart_above (state.book.finished + 1) number (omega (arith, waiting.used)) in
            inl (
              record {
                listed = ap (λ (b : BookState). listed_in b.markets market) clear.book ∙ listed-changed market (λ m. with_live m []) clear.market (λ m h. refl) state.book.markets ∙ waiting.listed;
                held = ap (held_for number) clear.positions
                    ∙ held_behind clear.market (state.book.finished + 1) clear.batch.orders clear.outcome.fills number other state.positions ∙ waiting.held;
                used = subst (λ n. number ≤ n) (sym (ap (λ (b : BookState). b.finished) clear.book)) (omega (arith, waiting.used));
                entered = ap (house_total number) clear.entries
                    ∙ cleared_another number (state.book.finished + 1) clear.batch.orders clear.outcome.fills other clear.traders state.entries ∙ waiting.entered;
              },
              subst (IfSettles market P) (sym clear.reply) tt,
            )

        -- another market is settled
        settles_another : (settle : IsSettle state result) → (market ≡ settle.market → ⊥) → WaitsOrIsPaid
        settles_another settle other =
            let test = ne_eqb market settle.market other in
            let none = paid_own settle.market settle.prices state.positions waiting.held
            ∙ ap (total (gain_at settle.prices)) (new_inside_none market number batch.orders outcome.fills settle.market test) in
            inl (
              record {
                listed = ap (λ (b : BookState). listed_in b.markets market) settle.book
                    ∙ listed-changed market settled_market settle.market (λ m h. absurd (true≢false (sym h ∙ test))) state.book.markets ∙ waiting.listed;
                held = ap (held_for number) settle.positions ∙ held_outside number settle.market state.positions
                    ∙ ap (outside settle.market) waiting.held ∙ new_outside market number batch.orders outcome.fills settle.market test;
                used = subst (λ n. number ≤ n) (sym (ap (λ (b : BookState). b.finished) settle.book)) waiting.used;
                entered = ap (house_total number) settle.entries
                    ∙ settled_entries number settle.market settle.prices state.positions running.holders state.entries
                    ∙ ap (λ s. house_total number state.entries -ℤ s) none ∙ less_nothing (house_total number state.entries) ∙ waiting.entered;
              },
              subst (IfSettles market P) (sym settle.reply) (λ e. absurd (other (sym e))),
            )
          where
            less_nothing : (x : ℤ) → x -ℤ pos 0 ≡ x
            less_nothing x = omega (arith, ints)

        -- its market is settled
        settles_own : (settle : IsSettle state result) → market ≡ settle.market → WaitsOrIsPaid
        settles_own settle e =
            let here : Some (batch.underlyings, false) ≡ Some (settle.underlyings, false) = sym waiting.listed ∙ ap (listed_in state.book.markets) e ∙ settle.listed in
            let count = ap (λ (p : ℕ × Bool). p.0) (same_listing (batch.underlyings, false) (settle.underlyings, false) here) in
            let now : listed_in result.1.book.markets settle.market ≡ Some (settle.underlyings, true) =
            ap (λ (b : BookState). listed_in b.markets settle.market) settle.book ∙ listed-closed settle.market settle.underlyings false state.book.markets settle.listed in
            inr (record {
              payouts = payouts_of settle.market settle.prices state.positions;
              surplus = surplus_gained settle.market settle.prices state.positions e (subst (λ n. length settle.prices ≤ n) (sym count) settle.few) waiting.held;
              over = record {
                underlyings = settle.underlyings;
                listed = ap (listed_in result.1.book.markets) e ∙ now;
                held = ap (held_for number) settle.positions ∙ held_outside number settle.market state.positions
                    ∙ ap (outside settle.market) waiting.held ∙ new_outside_none market number batch.orders outcome.fills settle.market e;
                used = subst (λ n. number ≤ n) (sym (ap (λ (b : BookState). b.finished) settle.book)) waiting.used;
                entered = ap (house_total number) settle.entries
                    ∙ settled_entries number settle.market settle.prices state.positions running.holders state.entries
                    ∙ ap (λ s. s -ℤ paid_to_traders number (payouts_of settle.market settle.prices state.positions)) waiting.entered;
              };
              reply = λ holds. subst (IfSettles market P) (sym settle.reply) (λ e. holds);
            })

        waiting_step : IsQuiet state result ⊎ (IsClear state result ⊎ IsSettle state result) → WaitsOrIsPaid
        waiting_step (inl quiet) = waiting_quiet quiet
        waiting_step (inr (inl clear)) = waiting_clear clear
        waiting_step (inr (inr settle)) = ⊎_elim (settles_own settle) (settles_another settle) (cases_eq market settle.market)

      pub follow : (state : ExchangeState) (result : Reply × ExchangeState) → (running : IsRunning state) → StepsTo state result → (P : List PaidOut → Type 0) (waiting : IsWaiting state)
          → WaitsOrIsPaid state result running P waiting
      follow state result running steps P waiting = waiting_step state result running P waiting steps.kind

-- a batch that is cleared waits
pub cleared_waits : (state : ExchangeState) (result : Reply × ExchangeState) → IsRunning state → (clear : IsClear state result) → IsWaiting (state.book.finished + 1) clear.market clear.batch clear.outcome result.1
cleared_waits state result running clear =
    let number : ℕ = state.book.finished + 1 in
    let orders = clear.batch.orders in
    let fills = clear.outcome.fills in
    let new = positions_in clear.market number orders fills in
    let none = none_to_come number state.book.finished state.positions (omega arith) running.numbered in
    record {
      listed = ap (λ (b : BookState). listed_in b.markets clear.market) clear.book ∙ listed-changed clear.market (λ m. with_live m []) clear.market (λ m h. refl) state.book.markets ∙ clear.listed;
      held = ap (held_for number) clear.positions ∙ filter-append (is_held_for number) state.positions new ∙ ap (λ l. l ++ held_for number new) none
          ∙ new_for clear.market number orders fills number refl;
      used = subst (λ n. number ≤ n) (sym (ap (λ (b : BookState). b.finished) clear.book)) (omega arith);
      entered = ap (house_total number) clear.entries ∙ house_total-append number state.entries (premium_entries number orders fills)
          ∙ sum_of (running.unused number (omega arith)) (premiums_entered number orders fills clear.traders clear.covered.covers.are_fills.1);
    }
  where
    sum_of : {a b x : ℤ} → a ≡ pos 0 → b ≡ x → a +ℤ b ≡ x
    sum_of {a} {b} {x} p q = omega (arith, ints, p, q)
