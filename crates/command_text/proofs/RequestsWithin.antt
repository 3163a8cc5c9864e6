-- Each request that is read is within the limits.
use Rattle.std.proofs.Common.{◌≡◌, ℕ, suc, ◌+◌, ◌-◌, ◌≤◌, ◌&&◌, nat_le, length, take, drop, negsuc, unsigned_abs, List, None, IfOk, refl, sym, ap, ◌∙◌, arith}
use Rattle.std.proofs.lemmas.Bool.{and_parts, leb-true}
use Rattle.std.proofs.lemmas.List.{length-take-le}
use Rattle.std.proofs.lemmas.List.Elements.{All-take}
use Rattle.std.proofs.lemmas.Result.{IfOk-weaker}
use Rattle.form.specs.Between.{Between}
use Rattle.form.specs.declared.limits.TheConstants.{MAX_PRICE, MAX_QUANTITY}
use Rattle.command_text.specs.declared.asked.Asked.{Asked}
use Rattle.command_text.specs.declared.ranges.TheConstants.{MARKET, BUDGET, BUNDLE_PRICE, BUNDLE_QUANTITY, PRICED, PRICED_QUANTITY, QUOTED, TRIED}
use Rattle.command_text.specs.declared.requests.QuoteRequest.{QuoteRequest}
use Rattle.command_text.specs.Requests.{option_request, strike_at}
use Rattle.command_text.specs.Within.{IsQuoteWithin}
use Rattle.command_text.specs.Asked.{text_of, fault_in, either_fault, natural_in, value_in}
use Rattle.command_text.specs.Trades.{kind_in, weightless, weights_in}
use Rattle.command_text.proofs.Bounds.{either, natural_between, none_both, ok_some, ok_unless, one_asked, size_within}
use Rattle.command_text.proofs.Listing.{IsSmall, form_listed}
use Rattle.command_text.proofs.WeightsWithin.{no_weight, some_front, some_weight, weights_small}

-- the numbers before the weights are within their ranges
record HasNumbers (place : ℕ) (fields : List (List ℕ)) : Type 0 where
  market : Between 1 999999999 (natural_in fields MARKET)
  budget : Between 1 20000 (natural_in fields BUDGET)
  strike : unsigned_abs (value_in fields (strike_at (place + 1))) ≤ 1000000000

-- that no number is at fault shows this, and a further fact
abbrev Reads : ℕ → ℕ → List Asked → (List (List ℕ) → Type 0) → Type 0
Reads words place asked Q =
    (fields : List (List ℕ)) → place + 2 ≤ length fields → length fields ≤ place + 9 → fault_in 0 (take (length fields - words) asked) fields ≡ None → HasNumbers place fields × Q fields

-- so what is asked is within the limits
option_within : (words place : ℕ) (asked : List Asked) (Q : List (List ℕ) → Type 0) → Reads words place asked Q → (fields : List (List ℕ))
    → IfOk (option_request words place asked fields) (λ request. IsQuoteWithin request × Q fields)
option_within words place asked Q reads fields =
    let n = length fields in
    let count = n - (place + 1) in
    let all = weights_in fields (place + 2) in
    let P : QuoteRequest → Type 0 = λ request. IsQuoteWithin request × Q fields in
    either P (nat_le (place + 2) n && nat_le n (place + 9)) _ _ (λ test.
    let both = and_parts (nat_le (place + 2) n) (nat_le n (place + 9)) test in
    let few : place + 2 ≤ n = leb-true (place + 2) n both.0 in
    let many : n ≤ place + 9 = leb-true n (place + 9) both.1 in
    ok_some P (kind_in (text_of fields place)) _ (λ kind.
    ok_unless P (either_fault (fault_in 0 (take (n - words) asked) fields) (weightless (place + 2) all)) _ (λ e.
    let parts = none_both (fault_in 0 (take (n - words) asked) fields) (weightless (place + 2) all) e in
    let read = reads fields few many parts.0 in
    let sized = length-take-le count all (omega (arith, many)) in (
      record {
        market = read.0.market;
        budget = read.0.budget;
        listed = form_listed kind (value_in fields (strike_at (place + 1))) (take count all) (omega (arith, sized, many))
            read.0.strike
            (All-take IsSmall count all (weights_small fields (place + 2)))
            (some_front all count (omega (arith, many)) (λ k past. no_weight fields (place + 2) k (omega (arith, past, few))) (some_weight (place + 2) all parts.1));
      },
      read.1,
    )))) tt

quote_reads : Reads 2 4 QUOTED (λ fields. Unit {0})
quote_reads fields few many none =
    let n = length fields in
    let k : n - 2 ≡ suc (suc (suc (n - 5))) = omega (arith, few) in
    let market = one_asked MARKET fields (take (suc (suc (n - 5))) (drop 1 QUOTED)) (sym (ap (λ m. fault_in 0 (take m QUOTED) fields) k) ∙ none) in
    let budget = one_asked BUDGET fields (take (suc (n - 5)) (drop 2 QUOTED)) market.1 in
    let strike = one_asked (strike_at 5) fields (take (n - 5) (drop 3 QUOTED)) budget.1 in (
      record {
        market = natural_between 1 999999999 (value_in fields MARKET) market.0;
        budget = natural_between 1 20000 (value_in fields BUDGET) budget.0;
        strike = size_within 1000000000 (negsuc 999999999) (value_in fields (strike_at 5)) refl strike.0;
      },
      tt,
    )

price_reads : Reads 2 5 PRICED (λ fields. Between 1 MAX_QUANTITY (natural_in fields PRICED_QUANTITY))
price_reads fields few many none =
    let n = length fields in
    let k : n - 2 ≡ suc (suc (suc (suc (n - 6)))) = omega (arith, few) in
    let market = one_asked MARKET fields (take (suc (suc (suc (n - 6)))) (drop 1 PRICED)) (sym (ap (λ m. fault_in 0 (take m PRICED) fields) k) ∙ none) in
    let budget = one_asked BUDGET fields (take (suc (suc (n - 6))) (drop 2 PRICED)) market.1 in
    let quantity = one_asked PRICED_QUANTITY fields (take (suc (n - 6)) (drop 3 PRICED)) budget.1 in
    let strike = one_asked (strike_at 6) fields (take (n - 6) (drop 4 PRICED)) quantity.1 in (
      record {
        market = natural_between 1 999999999 (value_in fields MARKET) market.0;
        budget = natural_between 1 20000 (value_in fields BUDGET) budget.0;
        strike = size_within 1000000000 (negsuc 999999999) (value_in fields (strike_at 6)) refl strike.0;
      },
      natural_between 1 1000000 (value_in fields PRICED_QUANTITY) quantity.0,
    )

abbrev pub IsOrder : List (List ℕ) → Type 0
IsOrder fields = (natural_in fields BUNDLE_PRICE ≤ MAX_PRICE) × Between 1 MAX_QUANTITY (natural_in fields BUNDLE_QUANTITY)

try_reads : Reads 3 7 TRIED IsOrder
try_reads fields few many none =
    let n = length fields in
    let k : n - 3 ≡ suc (suc (suc (suc (suc (n - 8))))) = omega (arith, few) in
    let market = one_asked MARKET fields (take (suc (suc (suc (suc (n - 8))))) (drop 1 TRIED)) (sym (ap (λ m. fault_in 0 (take m TRIED) fields) k) ∙ none) in
    let budget = one_asked BUDGET fields (take (suc (suc (suc (n - 8)))) (drop 2 TRIED)) market.1 in
    let price = one_asked BUNDLE_PRICE fields (take (suc (suc (n - 8))) (drop 3 TRIED)) budget.1 in
    let quantity = one_asked BUNDLE_QUANTITY fields (take (suc (n - 8)) (drop 4 TRIED)) price.1 in
    let strike = one_asked (strike_at 8) fields (take (n - 8) (drop 5 TRIED)) quantity.1 in (
      record {
        market = natural_between 1 999999999 (value_in fields MARKET) market.0;
        budget = natural_between 1 20000 (value_in fields BUDGET) budget.0;
        strike = size_within 1000000000 (negsuc 999999999) (value_in fields (strike_at 8)) refl strike.0;
      },
      ((natural_between 0 1000000000000 (value_in fields BUNDLE_PRICE) price.0).1, natural_between 1 1000000 (value_in fields BUNDLE_QUANTITY) quantity.0),
    )

pub quote_within : (fields : List (List ℕ)) → IfOk (option_request 2 4 QUOTED fields) IsQuoteWithin
quote_within fields = IfOk-weaker (option_request 2 4 QUOTED fields) _ IsQuoteWithin (λ request is. is.0) (option_within 2 4 QUOTED (λ fields. Unit {0}) quote_reads fields)

pub price_within : (fields : List (List ℕ)) → IfOk (option_request 2 5 PRICED fields) (λ request. IsQuoteWithin request × Between 1 MAX_QUANTITY (natural_in fields PRICED_QUANTITY))
price_within = option_within 2 5 PRICED (λ fields. Between 1 MAX_QUANTITY (natural_in fields PRICED_QUANTITY)) price_reads

pub try_within : (fields : List (List ℕ)) → IfOk (option_request 3 7 TRIED fields) (λ request. IsQuoteWithin request × IsOrder fields)
try_within = option_within 3 7 TRIED IsOrder try_reads
