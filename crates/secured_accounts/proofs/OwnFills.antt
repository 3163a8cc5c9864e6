-- What a batch does to one account: the fills of its own orders are its new positions, and their
-- premiums move to and from its balance.
use Rattle.std.proofs.Common.{◌≡◌, ℕ, ◌*◌, ◌/◌, ◌<◌, ◌≤◌, Bool, true, false, cond, ◌&&◌, List, [], ◌∷◌, ◌++◌, map, filter, length, zip, if◌then◌else◌, nat_eq, int_lt, arith, ℤ, pos, negsuc, neg_ℤ, ◌+ℤ◌, ◌≤ℤ◌, refl, sym, ap, ◌∙◌, div-le_self}
use Rattle.std.specs.Int.{div_ceil}
use Rattle.std.specs.List.{All}
use Rattle.std.proofs.lemmas.Bool.Decides.{nat_tests}
use Rattle.std.proofs.lemmas.Int.{ints}
use Rattle.std.proofs.lemmas.List.{map-append}
use Rattle.std.proofs.lemmas.List.Elements.{All-cons, All-filter, All-head, All-nil, All-tail, filter-append}
use Rattle.arithmetic.proofs.Tests.{int_lt-no, nat_eq-turned}
use Rattle.cash_ledger.specs.declared.entry.Cause.{Cause}
use Rattle.cash_ledger.specs.declared.entry.Cause.TheVariants.{Premium}
use Rattle.cash_ledger.specs.Entries.{balance_of}
use Rattle.cash_ledger.proofs.Balances.{balance_of-append}
use Rattle.clearing_model.specs.Certificate.{IsFill}
use Rattle.form.specs.declared.orders.Order.{Order}
use Rattle.form.specs.declared.orders.Side.{Side}
use Rattle.form.specs.declared.orders.Side.TheVariants.{Buy, Sell}
use Rattle.frac.specs.declared.frac128.Frac128.{Frac128}
use Rattle.frac.specs.Value.{fraction_of}
use Rattle.portfolio_margin.specs.Owed.{owed_by}
use Rattle.settlement.specs.declared.position.Position.{Position}
use Rattle.settlement.specs.Premium.{premium_of}
use Rattle.settlement.proofs.Quotients.{ceil_least}
use Rattle.exchange_core.specs.Held.{is_held_by, is_order_of, positions_of}
use Rattle.exchange_core.specs.Positions.{position_of, positions_in, positions_of as positions_for}
use Rattle.exchange_core.specs.Premiums.{premium_entries, premium_transfer, premiums_of}
use Rattle.account_need.specs.Moves.{IsFilled, OrderFill, held_by, held_of, is_some_fill, order_in, premium_got, premiums_got}

-- ---- all fills
pub all_filled : (orders : List Order) (fills : List Frac128) → All IsFill (zip orders (map fraction_of fills)) → All IsFilled (zip orders fills)
all_filled [] fills filled = All-nil IsFilled
all_filled (order ∷ orders) [] filled = All-nil IsFilled
all_filled (order ∷ orders) (fill ∷ fills) filled =
    All-cons IsFilled (order, fill) (zip orders fills)
    (All-head IsFill (order, fraction_of fill) (zip orders (map fraction_of fills)) filled)
    (all_filled orders fills (All-tail IsFill (order, fraction_of fill) (zip orders (map fraction_of fills)) filled))

module _ (account : ℕ) where
  abbrev pub is_own : OrderFill → Bool
  is_own fill = is_order_of account fill.0

  -- those of the account's orders
  abbrev pub own_fills : List Order → List Frac128 → List OrderFill
  own_fills orders fills = filter is_own (zip orders fills)

  pub own_filled : (orders : List Order) (fills : List Frac128) → All IsFill (zip orders (map fraction_of fills)) → All IsFilled (own_fills orders fills)
  own_filled orders fills filled = All-filter is_own IsFilled (zip orders fills) (all_filled orders fills filled)

  pub own_orders : (orders : List Order) (fills : List Frac128) → length (map fraction_of fills) ≡ length orders → map order_in (own_fills orders fills) ≡ filter (is_order_of account) orders
  own_orders [] fills same = refl
  own_orders (order ∷ orders) [] same = absurd (omega (arith, same))
  own_orders (order ∷ orders) (fill ∷ fills) same = by (is_order_of account order) (own_orders orders fills (omega (arith, same)))
    where
      by : (own : Bool) → map order_in (own_fills orders fills) ≡ filter (is_order_of account) orders
          → map order_in (cond own ((order, fill) ∷ own_fills orders fills) (own_fills orders fills)) ≡ cond own (order ∷ filter (is_order_of account) orders) (filter (is_order_of account) orders)
      by true later = ap (λ (l : List Order). order ∷ l) later
      by false later = later

  -- ---- its positions
  module _ (market batch : ℕ) where
    same_market : nat_eq market market ≡ true
    same_market = grind (arith, nat_tests)

    -- a position of the batch is the account's where its order is
    own_position : (order : Order) (fill : Frac128) (own : Bool) → is_order_of account order ≡ own → is_held_by account market (position_of market batch order fill) ≡ own
    own_position order fill true is = ap (λ b. b && nat_eq market market) is ∙ same_market
    own_position order fill false is = ap (λ b. b && nat_eq market market) is

    abbrev own_of_one : Order → Frac128 → List Position
    own_of_one order fill = positions_of account market (positions_for market batch order fill)

    as_filled_one : (order : Order) (fill : Frac128) → map held_of (own_of_one order fill) ≡ map held_by (filter is_some_fill (filter is_own ((order, fill) ∷ [])))
    as_filled_one order fill = by (int_lt (pos 0) (fraction_of fill).numerator) refl (is_order_of account order) refl
      where
        by : (some : Bool) → int_lt (pos 0) (fraction_of fill).numerator ≡ some → (own : Bool) → is_order_of account order ≡ own
            → map held_of (positions_of account market (if some then position_of market batch order fill ∷ [] else []))
            ≡ map held_by (filter is_some_fill (cond own ((order, fill) ∷ []) []))
        by true some true own =
            ap (λ c. map held_of (cond c (position_of market batch order fill ∷ []) [])) (own_position order fill true own)
            ∙ sym (ap (λ c. map held_by (cond c ((order, fill) ∷ []) [])) some)
        by true some false own = ap (λ c. map held_of (cond c (position_of market batch order fill ∷ []) [])) (own_position order fill false own)
        by false none true own = sym (ap (λ c. map held_by (cond c ((order, fill) ∷ []) [])) none)
        by false none false own = refl

    joined : (order : Order) (fill : Frac128) (others : List OrderFill)
        → map held_by (filter is_some_fill (filter is_own ((order, fill) ∷ []))) ++ map held_by (filter is_some_fill (filter is_own others))
        ≡ map held_by (filter is_some_fill (filter is_own ((order, fill) ∷ others)))
    joined order fill others = by (is_order_of account order)
      where
        inner : (some : Bool) → map held_by (cond some ((order, fill) ∷ []) []) ++ map held_by (filter is_some_fill (filter is_own others))
            ≡ map held_by (cond some ((order, fill) ∷ filter is_some_fill (filter is_own others)) (filter is_some_fill (filter is_own others)))
        inner true = refl
        inner false = refl

        by : (own : Bool) → map held_by (filter is_some_fill (cond own ((order, fill) ∷ []) [])) ++ map held_by (filter is_some_fill (filter is_own others))
            ≡ map held_by (filter is_some_fill (cond own ((order, fill) ∷ filter is_own others) (filter is_own others)))
        by true = inner (is_some_fill (order, fill))
        by false = refl

    pub as_filled : (orders : List Order) (fills : List Frac128)
        → map held_of (positions_of account market (positions_in market batch orders fills)) ≡ map held_by (filter is_some_fill (own_fills orders fills))
    as_filled [] fills = refl
    as_filled (order ∷ orders) [] = refl
    as_filled (order ∷ orders) (fill ∷ fills) =
        ap (λ (l : List Position). map held_of l) (filter-append (is_held_by account market) (positions_for market batch order fill) (positions_in market batch orders fills))
        ∙ map-append held_of (own_of_one order fill) (positions_of account market (positions_in market batch orders fills))
        ∙ (λ i. as_filled_one order fill i ++ as_filled orders fills i)
        ∙ joined order fill (zip orders fills)

-- ---- its premiums
-- nothing is paid for nothing
no_premium : (side : Side) (price d : ℕ) → 0 < d → owed_by side (pos (premium_of side (record { numerator = pos 0; denominator = d }) price)) ≡ pos 0
no_premium Buy price d some =
    let none : div_ceil (0 * price) d ≤ 0 = ceil_least (0 * price) d 0 some (omega arith) in
    let zero_paid : div_ceil (0 * price) d ≡ 0 = omega (arith, none) in
    ap (λ (n : ℕ). neg_ℤ (pos n)) zero_paid
no_premium Sell price d some =
    let less = div-le_self (0 * price) d in
    let zero_got : 0 * price / d ≡ 0 = omega (arith, less) in
    ap pos zero_got

module _ (account : ℕ) (some : 1 ≤ account) where
  not_house : nat_eq account 0 ≡ false
  not_house = grind (arith, nat_tests)

  abbrev if_own : ℕ → ℤ → ℤ
  if_own owner amount = if nat_eq account owner then amount else pos 0

  transferred : (side : Side) (owner amount : ℕ) (cause : Cause) → balance_of account (premium_transfer side owner amount cause) ≡ if_own owner (owed_by side (pos amount))
  transferred Buy owner amount cause =
      elim (nat_eq account owner) as (λ b.
      (if b then neg_ℤ (pos amount) else pos 0) +ℤ ((if nat_eq account 0 then pos amount else pos 0) +ℤ pos 0) ≡ (if b then neg_ℤ (pos amount) else pos 0)) [
        | true ↦ rw not_house (omega (arith, ints))
        | false ↦ rw not_house (omega (arith, ints))
      ]
  transferred Sell owner amount cause =
      elim (nat_eq account owner) as (λ b.
      (if nat_eq account 0 then neg_ℤ (pos amount) else pos 0) +ℤ ((if b then pos amount else pos 0) +ℤ pos 0) ≡ (if b then pos amount else pos 0)) [
        | true ↦ rw not_house (omega (arith, ints))
        | false ↦ rw not_house (omega (arith, ints))
      ]

  -- a fill that is not above 0 is 0
  is_zero : (n : ℤ) → pos 0 ≤ℤ n → int_lt (pos 0) n ≡ false → n ≡ pos 0
  is_zero (pos n) low none = omega (arith, ints, int_lt-no (pos 0) (pos n) none)
  is_zero (negsuc n) low none = absurd (omega (arith, ints, low))

  -- the premium of one fill
  paid_one : (batch : ℕ) (order : Order) (fill : Frac128) → IsFilled (order, fill)
      → balance_of account (premiums_of batch order (fraction_of fill)) ≡ (if is_order_of account order then premium_got (order, fill) else pos 0)
  paid_one batch order fill filled = by (int_lt (pos 0) (fraction_of fill).numerator) refl
    where
      own : if_own order.account (premium_got (order, fill)) ≡ (if is_order_of account order then premium_got (order, fill) else pos 0)
      own = ap (λ b. if b then premium_got (order, fill) else pos 0) (nat_eq-turned order.account account (is_order_of account order) refl)

      nothing : int_lt (pos 0) (fraction_of fill).numerator ≡ false → premium_got (order, fill) ≡ pos 0
      nothing none =
          ap (λ (n : ℤ). owed_by order.side (pos (premium_of order.side (record { numerator = n; denominator = (fraction_of fill).denominator }) order.price))) (is_zero (fraction_of fill).numerator filled.1 none)
          ∙ no_premium order.side order.price (fraction_of fill).denominator filled.0

      same : (is : Bool) → (if is then pos 0 else pos 0) ≡ pos 0
      same true = refl
      same false = refl

      by : (above : Bool) → int_lt (pos 0) (fraction_of fill).numerator ≡ above
          → balance_of account (if above then premium_transfer order.side order.account (premium_of order.side (fraction_of fill) order.price) (Premium batch) else [])
          ≡ (if is_order_of account order then premium_got (order, fill) else pos 0)
      by true is = transferred order.side order.account (premium_of order.side (fraction_of fill) order.price) (Premium batch) ∙ own
      by false is = sym (same (is_order_of account order)) ∙ ap (λ (x : ℤ). if is_order_of account order then x else pos 0) (sym (nothing is))

  -- and of all
  pub premiums : (batch : ℕ) (orders : List Order) (fills : List Frac128) → All IsFilled (zip orders fills)
      → balance_of account (premium_entries batch orders fills) ≡ premiums_got (own_fills account orders fills)
  premiums batch [] fills filled = refl
  premiums batch (order ∷ orders) [] filled = refl
  premiums batch (order ∷ orders) (fill ∷ fills) filled =
      balance_of-append account (premiums_of batch order (fraction_of fill)) (premium_entries batch orders fills)
      ∙ (λ i. paid_one batch order fill (All-head IsFilled (order, fill) (zip orders fills) filled) i
      +ℤ premiums batch orders fills (All-tail IsFilled (order, fill) (zip orders fills) filled) i)
      ∙ by (is_order_of account order)
    where
      by : (own : Bool) → (if own then premium_got (order, fill) else pos 0) +ℤ premiums_got (own_fills account orders fills)
          ≡ premiums_got (cond own ((order, fill) ∷ own_fills account orders fills) (own_fills account orders fills))
      by true = refl
      by false = omega (arith, ints)
