-- Orders that stand under their numbers.
use Rattle.std.proofs.Common.{◌≡◌, ℕ, Bool, true, false, cond, not, List, [], ◌∷◌, ◌++◌, Some, nat_eq, refl, ap, sym, subst, ◌∙◌, arith}
use Rattle.std.specs.List.{AllByRecursion, find}
use Rattle.std.specs.Map.{lookup, keys_of, values_of, remove_entry}
use Rattle.std.proofs.lemmas.Bool.Decides.{nat_tests}
use Rattle.std.proofs.lemmas.Map.Keys.{IsDistinct-head, IsDistinct-tail}
use Rattle.form.specs.declared.orders.Order.{Order}
use Rattle.order_book.specs.Markets.{has_number, without}
use Rattle.order_book.specs.Numbers.{numbers_of, AreByNumber}
use Rattle.order_book.proofs.LiveOrders.{none_has, without_none}

abbrev Own : List (ℕ × Order) → Type 0
Own entries = keys_of entries ≡ numbers_of (values_of entries)

own_first : (e : ℕ × Order) (entries : List (ℕ × Order)) → Own (e ∷ entries) → (e.0 ≡ e.1.id) × Own entries
own_first e entries own = (cc, cc)

pub find-lookup : (number : ℕ) (entries : List (ℕ × Order)) → keys_of entries ≡ numbers_of (values_of entries) → lookup (nat_eq number) entries ≡ find (has_number number) (values_of entries)
find-lookup number [] own = refl
find-lookup number (e ∷ entries) own =
    let p = own_first e entries own in
    λ i. cond (nat_eq number (p.0 i)) (Some e.1) (find-lookup number entries p.1 i)

-- an order goes last
pub own_push : (entries : List (ℕ × Order)) (order : Order) → Own entries → Own (entries ++ (order.id, order) ∷ [])
own_push [] order own = refl
own_push (e ∷ entries) order own =
    let p = own_first e entries own in
    λ i. p.0 i ∷ own_push entries order p.1 i

-- an order is taken out
pub own_remove : (test : ℕ → Bool) (entries : List (ℕ × Order)) → Own entries → Own (remove_entry test entries)
own_remove test [] own = refl
own_remove test (e ∷ entries) own =
    let p = own_first e entries own in
    elim (test e.0) as (λ b. Own (cond b entries (e ∷ remove_entry test entries))) [
      | true ↦ p.1
      | false ↦ λ i. p.0 i ∷ own_remove test entries p.1 i
    ]

pub without-remove_entry : (number : ℕ) (entries : List (ℕ × Order)) → AreByNumber entries → values_of (remove_entry (nat_eq number) entries) ≡ without number (values_of entries)
without-remove_entry number [] are = refl
without-remove_entry number (e ∷ entries) are =
    let p = own_first e entries are.own in
    by (nat_eq number e.0) refl p.0 (without-remove_entry number entries (record { own = p.1; distinct = IsDistinct-tail nat_eq e.0 (keys_of entries) are.distinct }))
  where
    others : nat_eq number e.0 ≡ true → without number (values_of entries) ≡ values_of entries
    others same =
        let equal : e.0 ≡ number = grind (arith, nat_tests) in
        let apart = subst (λ k. AllByRecursion (λ y. nat_eq k y ≡ false) (keys_of entries)) equal (IsDistinct-head nat_eq e.0 (keys_of entries) are.distinct) in
        without_none number (values_of entries) (none_has number (values_of entries) (subst (AllByRecursion (λ y. nat_eq number y ≡ false)) (own_first e entries are.own).1 apart))

    by : (b : Bool) → nat_eq number e.0 ≡ b → e.0 ≡ e.1.id → values_of (remove_entry (nat_eq number) entries) ≡ without number (values_of entries)
        → values_of (cond b entries (e ∷ remove_entry (nat_eq number) entries)) ≡ cond (not (nat_eq number e.1.id)) (e.1 ∷ without number (values_of entries)) (without number (values_of entries))
    by true same own later = rw (sym (ap (nat_eq number) own) ∙ same) (sym (others same))
    by false same own later = rw (sym (ap (nat_eq number) own) ∙ same) (ap (λ (l : List Order). e.1 ∷ l) later)
