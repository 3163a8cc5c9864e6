-- The positions and the live orders of one account, as others come and go.
use Rattle.std.proofs.Common.{◌≡◌, ℕ, Bool, true, false, cond, not, List, [], ◌∷◌, ◌++◌, filter, Some, None, if◌then◌else◌, nat_eq, int_lt, pos, refl, sym, ap, ◌∙◌, append-nil}
use Rattle.std.proofs.lemmas.List.Elements.{All-head, All-tail, filter-append}
use Rattle.std.proofs.lemmas.Bool.{and_right, eqb-true}
use Rattle.form.specs.declared.orders.Order.{Order}
use Rattle.frac.specs.declared.frac128.Frac128.{Frac128}
use Rattle.frac.specs.Value.{fraction_of}
use Rattle.order_book.specs.Markets.{Markets}
use Rattle.settlement.specs.declared.position.Position.{Position}
use Rattle.settlement.specs.Positions.{outside}
use Rattle.exchange_core.specs.Held.{is_held_by, is_order_of, positions_of}
use Rattle.exchange_core.specs.Kept.{ArePositionsKept, IsPositionKept, trading_on}
use Rattle.exchange_core.specs.Positions.{position_of, positions_in, positions_of as positions_for}

-- ---- live orders
-- what is of the account, of what stays
pub filtered_both : {X : Type 0} (p q : X → Bool) (xs : List X) → filter p (filter q xs) ≡ filter q (filter p xs)
filtered_both p q [] = refl
filtered_both p q (x ∷ xs) = by (p x) refl (q x) refl (filtered_both p q xs)
  where
    by : (a : Bool) → p x ≡ a → (b : Bool) → q x ≡ b → filter p (filter q xs) ≡ filter q (filter p xs)
        → filter p (cond b (x ∷ filter q xs) (filter q xs)) ≡ filter q (cond a (x ∷ filter p xs) (filter p xs))
    by true at true is later = ap (λ c. cond c (x ∷ filter p (filter q xs)) (filter p (filter q xs))) at ∙ ap (λ l. x ∷ l) later ∙ sym (ap (λ c. cond c (x ∷ filter q (filter p xs)) (filter q (filter p xs))) is)
    by true at false is later = later ∙ sym (ap (λ c. cond c (x ∷ filter q (filter p xs)) (filter q (filter p xs))) is)
    by false at true is later = ap (λ c. cond c (x ∷ filter p (filter q xs)) (filter p (filter q xs))) at ∙ later
    by false at false is later = later

module _ (account : ℕ) where
  -- another account's order more
  pub another_placed : (live : List Order) (order : Order) → is_order_of account order ≡ false → filter (is_order_of account) (live ++ order ∷ []) ≡ filter (is_order_of account) live
  another_placed live order other =
      filter-append (is_order_of account) live (order ∷ [])
      ∙ ap (λ c. filter (is_order_of account) live ++ cond c (order ∷ []) []) other
      ∙ append-nil (filter (is_order_of account) live)

  -- one of its own
  pub own_placed : (live : List Order) (order : Order) → is_order_of account order ≡ true → filter (is_order_of account) (live ++ order ∷ []) ≡ filter (is_order_of account) live ++ order ∷ []
  own_placed live order own =
      filter-append (is_order_of account) live (order ∷ []) ∙ ap (λ c. filter (is_order_of account) live ++ cond c (order ∷ []) []) own

  -- ---- positions
  not_held : (market : ℕ) (p : Position) → nat_eq p.market market ≡ false → is_held_by account market p ≡ false
  not_held market p other = and_right (nat_eq p.account account) (nat_eq p.market market) other

  skipped : (market : ℕ) (p : Position) (ps : List Position) → nat_eq p.market market ≡ false → positions_of account market (p ∷ ps) ≡ positions_of account market ps
  skipped market p ps other = ap (λ c. cond c (p ∷ positions_of account market ps) (positions_of account market ps)) (not_held market p other)

  -- no account has any in a market that is not there, or is settled
  pub none_held : (accounts : List ℕ) (markets : Markets) (market : ℕ) → trading_on markets market ≡ None → (ps : List Position) → ArePositionsKept accounts markets ps → positions_of account market ps ≡ []
  none_held accounts markets market none [] kept = refl
  none_held accounts markets market none (p ∷ ps) kept =
      by (nat_eq p.market market) refl (none_held accounts markets market none ps (All-tail (IsPositionKept accounts markets) p ps kept))
    where
      here : IsPositionKept accounts markets p
      here = All-head (IsPositionKept accounts markets) p ps kept

      trades : (n : ℕ) → trading_on markets p.market ≡ Some n → trading_on markets p.market ≡ None → ⊥
      trades n some none = cc

      by : (b : Bool) → nat_eq p.market market ≡ b → positions_of account market ps ≡ [] → positions_of account market (p ∷ ps) ≡ []
      by true at later = absurd (trades here.underlyings here.trading (ap (trading_on markets) (eqb-true p.market market at) ∙ none))
      by false at later = skipped market p ps at ∙ later

  -- nor in one that is settled now
  pub none_outside : (market : ℕ) (ps : List Position) → positions_of account market (outside market ps) ≡ []
  none_outside market [] = refl
  none_outside market (p ∷ ps) = by (nat_eq p.market market) refl (none_outside market ps)
    where
      by : (b : Bool) → nat_eq p.market market ≡ b → positions_of account market (outside market ps) ≡ []
          → positions_of account market (cond (not b) (p ∷ outside market ps) (outside market ps)) ≡ []
      by true at later = later
      by false at later = skipped market p (outside market ps) at ∙ later

  -- ---- the positions of a batch
  -- are all in its market
  none_for : (market other batch : ℕ) → nat_eq other market ≡ false → (order : Order) (fill : Frac128) → positions_of account market (positions_for other batch order fill) ≡ []
  none_for market other batch apart order fill = by (int_lt (pos 0) (fraction_of fill).numerator)
    where
      by : (some : Bool) → positions_of account market (if some then position_of other batch order fill ∷ [] else []) ≡ []
      by true = skipped market (position_of other batch order fill) [] apart
      by false = refl

  pub none_of_batch : (market other batch : ℕ) → nat_eq other market ≡ false → (orders : List Order) (fills : List Frac128) → positions_of account market (positions_in other batch orders fills) ≡ []
  none_of_batch market other batch apart [] fills = refl
  none_of_batch market other batch apart (order ∷ orders) [] = refl
  none_of_batch market other batch apart (order ∷ orders) (fill ∷ fills) =
      filter-append (is_held_by account market) (positions_for other batch order fill) (positions_in other batch orders fills)
      ∙ ap (λ (l : List Position). l ++ positions_of account market (positions_in other batch orders fills)) (none_for market other batch apart order fill)
      ∙ none_of_batch market other batch apart orders fills

  -- the positions in other markets stay
  pub held_elsewhere : (market other batch : ℕ) → nat_eq other market ≡ false → (ps : List Position) (orders : List Order) (fills : List Frac128)
      → positions_of account market (ps ++ positions_in other batch orders fills) ≡ positions_of account market ps
  held_elsewhere market other batch apart ps orders fills =
      filter-append (is_held_by account market) ps (positions_in other batch orders fills)
      ∙ ap (λ (l : List Position). positions_of account market ps ++ l) (none_of_batch market other batch apart orders fills)
      ∙ append-nil (positions_of account market ps)
