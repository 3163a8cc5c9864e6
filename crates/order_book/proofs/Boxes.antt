-- Entries whose orders are in boxes.
use Rattle.std.proofs.Common.{◌≡◌, ℕ, zero, suc, Bool, true, false, cond, List, [], ◌∷◌, ◌++◌, length, map, Option, Some, None, is_some, nat_eq, option_map, append_assoc, refl, sym, ap, ◌∙◌, Global}
use Rattle.std.specs.Prelude.{Box, slice_get}
use Rattle.std.specs.List.{find}
use Rattle.std.specs.Map.{lookup, keys_of, values_of, remove_entry}
use Rattle.form.specs.declared.orders.Order.{Order}
use Rattle.order_book.specs.Markets.{has_number}
use Rattle.order_book.specs.Numbers.{AreByNumber, orders_in_boxes}
use Rattle.order_book.proofs.ByNumber.{find-lookup}

abbrev pub held : Box Order Global → Order
held order = order.value

pub keys-unboxed : (entries : List (ℕ × Box Order Global)) → keys_of (orders_in_boxes entries) ≡ keys_of entries
keys-unboxed [] = refl
keys-unboxed (e ∷ entries) = ap (λ (l : List ℕ). e.0 ∷ l) (keys-unboxed entries)

pub lookup-unboxed : (test : ℕ → Bool) (entries : List (ℕ × Box Order Global)) → lookup test (orders_in_boxes entries) ≡ option_map held (lookup test entries)
lookup-unboxed test [] = refl
lookup-unboxed test (e ∷ entries) =
    elim (test e.0) as (λ b. cond b (Some e.1.value) (lookup test (orders_in_boxes entries)) ≡ option_map held (cond b (Some e.1) (lookup test entries))) [
      | true ↦ refl
      | false ↦ lookup-unboxed test entries
    ]

pub remove-unboxed : (test : ℕ → Bool) (entries : List (ℕ × Box Order Global)) → orders_in_boxes (remove_entry test entries) ≡ remove_entry test (orders_in_boxes entries)
remove-unboxed test [] = refl
remove-unboxed test (e ∷ entries) =
    elim (test e.0) as (λ b. orders_in_boxes (cond b entries (e ∷ remove_entry test entries)) ≡ cond b (orders_in_boxes entries) ((e.0, e.1.value) ∷ remove_entry test (orders_in_boxes entries))) [
      | true ↦ refl
      | false ↦ ap (λ (l : List (ℕ × Order)). (e.0, e.1.value) ∷ l) (remove-unboxed test entries)
    ]

pub find-boxed : (number : ℕ) (entries : List (ℕ × Box Order Global)) → AreByNumber (orders_in_boxes entries) → option_map held (lookup (nat_eq number) entries) ≡ find (has_number number) (values_of (orders_in_boxes entries))
find-boxed number entries are = sym (lookup-unboxed (nat_eq number) entries) ∙ find-lookup number (orders_in_boxes entries) are.own

pub same_some : (found : Option (Box Order Global)) → is_some found ≡ is_some (option_map held found)
same_some None = refl
same_some (Some order) = refl

none_held : (found : Option (Box Order Global)) → option_map held found ≡ None → found ≡ None
none_held None none = refl
none_held (Some order) none = cc

pub none-boxed : (number : ℕ) (entries : List (ℕ × Box Order Global)) → AreByNumber (orders_in_boxes entries) → find (has_number number) (values_of (orders_in_boxes entries)) ≡ None → lookup (nat_eq number) entries ≡ None
none-boxed number entries are none = none_held (lookup (nat_eq number) entries) (find-boxed number entries are ∙ none)

-- an order goes last
pub unboxed-push : (entries : List (ℕ × Box Order Global)) (number : ℕ) (boxed : Box Order Global) (order : Order) → boxed.value ≡ order → orders_in_boxes (entries ++ (number, boxed) ∷ []) ≡ orders_in_boxes entries ++ (number, order) ∷ []
unboxed-push [] number boxed order is = ap (λ o. (number, o) ∷ []) is
unboxed-push (e ∷ entries) number boxed order is = ap (λ (l : List (ℕ × Order)). (e.0, e.1.value) ∷ l) (unboxed-push entries number boxed order is)

-- the order at a place
pub at-boxed : (entries : List (ℕ × Box Order Global)) (place : ℕ) → slice_get (values_of (orders_in_boxes entries)) place ≡ option_map (λ (e : ℕ × Box Order Global). e.1.value) (slice_get entries place)
at-boxed [] place = refl
at-boxed (e ∷ entries) zero = refl
at-boxed (e ∷ entries) (suc place) = at-boxed entries place

pub length-boxed : (entries : List (ℕ × Box Order Global)) → length (values_of (orders_in_boxes entries)) ≡ length entries
length-boxed [] = refl
length-boxed (e ∷ entries) = ap suc (length-boxed entries)

pub values_boxed : (entries : List (ℕ × Box Order Global)) → map held (values_of entries) ≡ values_of (orders_in_boxes entries)
values_boxed [] = refl
values_boxed (e ∷ entries) = ap (λ (l : List Order). e.1.value ∷ l) (values_boxed entries)

-- an order goes over from those that are left
pub one_more : (orders : List Order) (boxed : Box Order Global) (left : List (Box Order Global)) → (orders ++ boxed.value ∷ []) ++ map held left ≡ orders ++ map held (boxed ∷ left)
one_more orders boxed left = append_assoc orders (boxed.value ∷ []) (map held left)
