-- What a request says.
use Rattle.std.proofs.Common.{◌≡◌, ◌≤◌, ◌+◌, ◌-◌, ◌&&◌, ℕ, ℤ, List, Bool, true, nat_le, length, take, All, Option, Some, Result, Err, if◌then◌else◌, refl, sym, ap, ◌∙◌, arith}
use Rattle.std.proofs.lemmas.Bool.Decides.{nat_tests}
use Rattle.form.specs.declared.forms.Form.{Form}
use Rattle.form.specs.FormOf.{form_of}
use Rattle.command_text.specs.declared.asked.Asked.{Asked}
use Rattle.command_text.specs.declared.asked.Fault.{Fault}
use Rattle.command_text.specs.declared.asked.Fault.TheVariants.{Syntax}
use Rattle.command_text.specs.declared.command.Kind.{Kind}
use Rattle.command_text.specs.declared.ranges.TheConstants.{MARKET, BUDGET, PRICED, QUOTED, TRIED}
use Rattle.command_text.specs.Asked.{IsAsked, text_of, fault_in, either_fault, value_in, natural_in}
use Rattle.command_text.specs.Options.{option_by}
use Rattle.command_text.specs.Trades.{kind_in, unless, with_some, weightless, weights_in}
use Rattle.command_text.proofs.TradeSays.{places_fit}
use Rattle.command_text.specs.declared.requests.QuoteRequest.{QuoteRequest}
use Rattle.command_text.specs.Requests.{option_request, strike_at}

pub quote_asked : All (λ a. IsAsked 0 a) QUOTED
quote_asked = places_fit QUOTED refl

pub price_asked : All (λ a. IsAsked 0 a) PRICED
price_asked = places_fit PRICED refl

pub try_asked : All (λ a. IsAsked 0 a) TRIED
try_asked = places_fit TRIED refl

abbrev pub request_for : ℕ → ℕ → Form → QuoteRequest
request_for market budget form = record { market = market; budget = budget; form = form }

-- a request of so many fields, whose kind is one of the two words
pub request_says : (words place : ℕ) (asked : List Asked) (fields : List (List ℕ)) (kind : Kind) (weights : List ℤ) (fault : Option Fault) → place + 2 ≤ length fields → length fields ≤ place + 9
    → Some kind ≡ kind_in (text_of fields place) → weights ≡ weights_in fields (place + 2)
    → fault ≡ either_fault (fault_in 0 (take (length fields - words) asked) fields) (weightless (place + 2) weights)
    → unless fault (request_for (natural_in fields MARKET) (natural_in fields BUDGET) (form_of (option_by kind (value_in fields (strike_at (place + 1))) (take (length fields - (place + 1)) weights))))
    ≡ option_request words place asked fields
request_says words place asked fields kind weights fault few many is read wrong =
    let n = length fields in
    let inside : (nat_le (place + 2) n && nat_le n (place + 9)) ≡ true = grind (arith, nat_tests) in
    let of : Kind → List ℤ → QuoteRequest = λ k w. request_for (natural_in fields MARKET) (natural_in fields BUDGET) (form_of (option_by k (value_in fields (strike_at (place + 1))) (take (n - (place + 1)) w))) in
    let said : Kind → Result QuoteRequest Fault = λ k. unless (either_fault (fault_in 0 (take (n - words) asked) fields) (weightless (place + 2) (weights_in fields (place + 2)))) (of k (weights_in fields (place + 2))) in
    (λ i. unless (wrong i) (of kind weights))
    ∙ (λ i. unless (either_fault (fault_in 0 (take (n - words) asked) fields) (weightless (place + 2) (read i))) (of kind (read i)))
    ∙ ap (λ o. with_some o said) is
    ∙ sym (ap (λ (b : Bool). if b then with_some (kind_in (text_of fields place)) said else Err Syntax) inside)
