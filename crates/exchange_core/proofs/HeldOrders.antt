-- The live orders of an account among one more of a market's.
use Rattle.std.proofs.Common.{◌≡◌, ℕ, ◌+◌, List, [], ◌∷◌, ◌++◌, Bool, true, false, cond, filter, take, Some, slice_get, ap, ◌∙◌}
use Rattle.std.proofs.lemmas.List.{append-nil}
use Rattle.std.proofs.lemmas.List.Elements.{filter_more}
use Rattle.std.proofs.lemmas.Option.{get_or_from_slice_get, slice_get_within}
use Rattle.std.proofs.lemmas.Bool.{eq-eqb, ne_eqb}
use Rattle.form.specs.declared.orders.Order.{Order}
use Rattle.exchange_core.specs.Held.{is_order_of}

module _ (account : ℕ) (live : List Order) (place : ℕ) (order : Order) (there : slice_get live place ≡ Some order) where
  abbrev own : List Order
  own = filter (is_order_of account) (take place live)

  looked_at : (b : Bool) → is_order_of account order ≡ b → filter (is_order_of account) (take (place + 1) live) ≡ own ++ cond b (order ∷ []) []
  looked_at b is =
      filter_more (is_order_of account) live place order (slice_get_within live place order there)
      ∙ ap (λ (o : Order). own ++ cond (is_order_of account o) (o ∷ []) []) (get_or_from_slice_get live place order order there)
      ∙ ap (λ (b : Bool). own ++ cond b (order ∷ []) []) is

  pub order_more : order.account ≡ account → filter (is_order_of account) (take (place + 1) live) ≡ own ++ order ∷ []
  order_more e = looked_at true (eq-eqb order.account account e)

  pub order_apart : (order.account ≡ account → ⊥) → filter (is_order_of account) (take (place + 1) live) ≡ own
  order_apart apart = looked_at false (ne_eqb order.account account apart) ∙ append-nil own
