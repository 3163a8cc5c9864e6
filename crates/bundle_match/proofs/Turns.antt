-- The turns of an auction.
use Rattle.std.proofs.Common.{◌≡◌, ℕ, zero, suc, ◌+◌, ◌-◌, ◌==◌, ◌≤◌, ◌<◌, min, nat_lt, List, [], ◌∷◌, ◌++◌, append_assoc, Bool, true, false, cond, inl, inr, length, Some, None, refl, sym, ap, subst, ◌∙◌, arith}
use Rattle.std.proofs.lemmas.Bool.{cases_lt}
use Rattle.std.proofs.lemmas.Bool.Decides.{nat_tests}
use Rattle.std.specs.List.{AllByRecursion}
use Rattle.std.specs.Option.{option_map_or}
use Rattle.bundle_match.specs.declared.queues.Offer.{Offer}
use Rattle.bundle_match.specs.declared.auction.Trade.{Trade}
use Rattle.bundle_match.specs.Auction.{next_trade, fill_first, trade_then, trades_within, auction}
use Rattle.bundle_match.specs.Laws.{AuctionGoesOn}

abbrev pub with_left : Offer → ℕ → Offer
with_left x n = record x { left = n }

-- the first order leaves its queue, or some of it is left
pub first_filled : (P : List Offer → Type 0) (n : ℕ) (x : Offer) (xs : List Offer) → (n ≡ x.left → P xs) → ((n ≡ x.left → ⊥) → P (with_left x (x.left - n) ∷ xs)) → P (fill_first n (x ∷ xs))
first_filled P n x xs all some =
    let Q : Bool → Type 0 = λ b. (n == x.left) ≡ b → P (cond b xs (with_left x (x.left - n) ∷ xs)) in
    (elim (n == x.left) as Q [
      | true ↦ λ e. all (grind (arith, nat_tests))
      | false ↦ λ e. some (λ is. grind (arith, nat_tests))
    ]) refl

-- what does not speak of what is left stays true of each
pub Each-fill_first : (P : Offer → Type 0) → ((x : Offer) (n : ℕ) → P x → P (with_left x n)) → (n : ℕ) (xs : List Offer) → AllByRecursion P xs → AllByRecursion P (fill_first n xs)
Each-fill_first P keeps n [] h = tt
Each-fill_first P keeps n (x ∷ xs) h = first_filled (AllByRecursion P) n x xs (λ _. h.1) (λ _. (keeps x (x.left - n) h.0, h.1))

length-fill_first : (n : ℕ) (xs : List Offer) → length (fill_first n xs) ≤ length xs
length-fill_first n [] = omega arith
length-fill_first n (x ∷ xs) = first_filled (λ l. length l ≤ length (x ∷ xs)) n x xs (λ _. omega arith) (λ _. omega arith)

-- a trade takes an order from its queue
leaves : (n : ℕ) (x : Offer) (xs : List Offer) → n ≡ x.left → length (fill_first n (x ∷ xs)) < length (x ∷ xs)
leaves n x xs e = first_filled (λ l. length l < length (x ∷ xs)) n x xs (λ _. omega arith) (λ other. absurd (other e))

pub shorter : (buy sell : Offer) (buys sells : List Offer)
    → length (fill_first (min buy.left sell.left) (buy ∷ buys)) + length (fill_first (min buy.left sell.left) (sell ∷ sells)) < length (buy ∷ buys) + length (sell ∷ sells)
shorter buy sell buys sells =
    let n = min buy.left sell.left in
    let b = length-fill_first n (buy ∷ buys) in
    let s = length-fill_first n (sell ∷ sells) in
    elim (cases_lt buy.left sell.left) [
      | inl lt ↦ omega (arith, s, leaves n buy buys (omega (arith, lt)))
      | inr le ↦ omega (arith, b, leaves n sell sells (omega (arith, le)))
    ]

-- ---- what holds where an auction ends, and before each trade where it holds after it, holds of every auction
abbrev pub trade_of : Offer → Offer → Trade
trade_of buy sell = record { buy = buy.place; sell = sell.place; amount = min buy.left sell.left }

module _ (P : List Offer → List Offer → List Trade → Type 0)
    (no_buys : (sells : List Offer) → P [] sells [])
    (no_sells : (buy : Offer) (buys : List Offer) → P (buy ∷ buys) [] [])
    (apart : (buy sell : Offer) (buys sells : List Offer) → buy.price ≤ sell.price → P (buy ∷ buys) (sell ∷ sells) [])
    (trade : (buy sell : Offer) (buys sells : List Offer) (later : List Trade) → sell.price < buy.price
    → P (fill_first (min buy.left sell.left) (buy ∷ buys)) (fill_first (min buy.left sell.left) (sell ∷ sells)) later → P (buy ∷ buys) (sell ∷ sells) (trade_of buy sell ∷ later)) where
  pub along : (more : ℕ) (buys sells : List Offer) → length buys + length sells ≤ more → P buys sells (trades_within more buys sells)
  along zero [] [] few = no_buys []
  along zero [] (sell ∷ sells) few = no_buys (sell ∷ sells)
  along zero (buy ∷ buys) sells few = absurd (omega arith)
  along (suc more) [] sells few = no_buys sells
  along (suc more) (buy ∷ buys) [] few = no_sells buy buys
  along (suc more) (buy ∷ buys) (sell ∷ sells) few =
      let n = min buy.left sell.left in
      let go = trade_then (trades_within more) (buy ∷ buys) (sell ∷ sells) in
      let Q : Bool → Type 0 = λ b. nat_lt sell.price buy.price ≡ b → P (buy ∷ buys) (sell ∷ sells) (option_map_or go (cond b (Some (trade_of buy sell)) None) []) in
      (elim (nat_lt sell.price buy.price) as Q [
        | true ↦ λ e. trade buy sell buys sells (trades_within more (fill_first n (buy ∷ buys)) (fill_first n (sell ∷ sells))) (grind (arith, nat_tests))
            (along more (fill_first n (buy ∷ buys)) (fill_first n (sell ∷ sells)) (omega (arith, few, shorter buy sell buys sells)))
        | false ↦ λ e. apart buy sell buys sells (grind (arith, nat_tests))
      ]) refl

  pub of_auction : (buys sells : List Offer) → P buys sells (auction buys sells)
  of_auction buys sells = along (length buys + length sells) buys sells (omega arith)

-- ---- more turns than there are orders change nothing
enough : (m n : ℕ) (buys sells : List Offer) → length buys + length sells ≤ m → length buys + length sells ≤ n → trades_within m buys sells ≡ trades_within n buys sells
enough zero zero buys sells a b = refl
enough zero (suc n) [] sells a b = refl
enough zero (suc n) (buy ∷ buys) sells a b = absurd (omega arith)
enough (suc m) zero [] sells a b = refl
enough (suc m) zero (buy ∷ buys) sells a b = absurd (omega arith)
enough (suc m) (suc n) [] sells a b = refl
enough (suc m) (suc n) (buy ∷ buys) [] a b = refl
enough (suc m) (suc n) (buy ∷ buys) (sell ∷ sells) a b =
    let t = trade_of buy sell in
    let less = shorter buy sell buys sells in
    let rest = enough m n (fill_first t.amount (buy ∷ buys)) (fill_first t.amount (sell ∷ sells)) (omega (arith, a, less)) (omega (arith, b, less)) in
    elim (nat_lt sell.price buy.price) as (λ b. option_map_or (trade_then (trades_within m) (buy ∷ buys) (sell ∷ sells)) (cond b (Some t) None) []
    ≡ option_map_or (trade_then (trades_within n) (buy ∷ buys) (sell ∷ sells)) (cond b (Some t) None) []) [
      | true ↦ ap (λ l. t ∷ l) rest
      | false ↦ refl
    ]

pub auction_goes_on : AuctionGoesOn
auction_goes_on buys sells =
    let n = length buys + length sells in
    let later : (t : Trade) → trades_within n (fill_first t.amount buys) (fill_first t.amount sells) ≡ auction (fill_first t.amount buys) (fill_first t.amount sells) = λ t.
    let b = length-fill_first t.amount buys in
    let s = length-fill_first t.amount sells in
    enough n (length (fill_first t.amount buys) + length (fill_first t.amount sells)) (fill_first t.amount buys) (fill_first t.amount sells) (omega (arith, b, s)) (omega arith) in
    enough n (suc n) buys sells (omega arith) (omega arith) ∙ (λ i. option_map_or (λ (t : Trade). t ∷ later t i) (next_trade buys sells) [])

-- ---- a turn, as the code takes it
pub goes_on_with : (buys sells : List Offer) (t : Trade) → next_trade buys sells ≡ Some t → auction buys sells ≡ t ∷ auction (fill_first t.amount buys) (fill_first t.amount sells)
goes_on_with buys sells t e = auction_goes_on buys sells ∙ ap (λ o. option_map_or (trade_then auction buys sells) o []) e

pub ended : (buys sells : List Offer) → next_trade buys sells ≡ None → auction buys sells ≡ []
ended buys sells e = auction_goes_on buys sells ∙ ap (λ o. option_map_or (trade_then auction buys sells) o []) e

pub shorter_with : (buys sells : List Offer) (t : Trade) → next_trade buys sells ≡ Some t
    → length (fill_first t.amount buys) + length (fill_first t.amount sells) < length buys + length sells
shorter_with [] sells t e = cc
shorter_with (buy ∷ buys) [] t e = cc
shorter_with (buy ∷ buys) (sell ∷ sells) t e =
    let Q : Bool → Type 0 = λ b. cond b (Some (trade_of buy sell)) None ≡ Some t → length (fill_first t.amount (buy ∷ buys)) + length (fill_first t.amount (sell ∷ sells)) < length (buy ∷ buys) + length (sell ∷ sells) in
    (elim (nat_lt sell.price buy.price) as Q [
      | true ↦ λ e. let is : trade_of buy sell ≡ t = cc in
          subst (λ (t : Trade). length (fill_first t.amount (buy ∷ buys)) + length (fill_first t.amount (sell ∷ sells)) < length (buy ∷ buys) + length (sell ∷ sells)) is (shorter buy sell buys sells)
      | false ↦ λ e. cc
    ]) e

pub turn_keeps : (done pushed whole : List Trade) (t : Trade) (buys sells filled_buys filled_sells : List Offer) → next_trade buys sells ≡ Some t → pushed ≡ done ++ t ∷ []
    → filled_buys ≡ fill_first t.amount buys → filled_sells ≡ fill_first t.amount sells → done ++ auction buys sells ≡ whole → pushed ++ auction filled_buys filled_sells ≡ whole
turn_keeps done pushed whole t buys sells filled_buys filled_sells next p b s h =
    (λ i. p i ++ auction (b i) (s i)) ∙ append_assoc done (t ∷ []) (auction (fill_first t.amount buys) (fill_first t.amount sells)) ∙ ap (λ l. done ++ l) (sym (goes_on_with buys sells t next)) ∙ h
