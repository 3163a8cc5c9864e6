-- Orders that have the same numbers, none of them twice, are the same.
use Rattle.std.proofs.Common.{◌≡◌, ◌+◌, ◌≤◌, List, [], ◌∷◌, get_or, Bool, true, false, nat_eq, if◌then◌else◌, refl, sym, ap, ◌∙◌, subst, arith, true≢false}
use Rattle.std.specs.List.{All}
use Rattle.std.proofs.lemmas.List.Elements.{All-nil, All-cons, All-head, All-tail, All-weaker, All-get_or, All-from_get_or}
use Rattle.std.proofs.lemmas.Bool.{eq-eqb}
use Rattle.form.specs.declared.orders.Order.{Order}
use Rattle.order_book.specs.Numbers.{AreNumberedApart, number_count, numbers_of}
use Rattle.proposal_lines.specs.Proved.{AgreesWith}

abbrev IsOther : Order → Order → Type 0
IsOther order own = order.id ≡ own.id → ⊥

abbrev IsAlike : Order → Order → Type 0
IsAlike order own = order.id ≡ own.id → order ≡ own

-- no order has a number that is not counted
none_alike : (order : Order) (orders : List Order) → number_count order.id orders ≡ 0 → All (IsOther order) orders
none_alike order [] none = All-nil (IsOther order)
none_alike order (o ∷ orders) none = by (nat_eq order.id o.id) refl none (none_alike order orders)
  where
    by : (b : Bool) → nat_eq order.id o.id ≡ b → (if b then 1 else 0) + number_count order.id orders ≡ 0 → (number_count order.id orders ≡ 0 → All (IsOther order) orders)
        → All (IsOther order) (o ∷ orders)
    by true is h later = absurd (omega (arith, h))
    by false is h later = All-cons (IsOther order) o orders (λ e. true≢false (sym (eq-eqb order.id o.id e) ∙ is)) (later (omega (arith, h)))

pub agree_all : (orders : List Order) → AreNumberedApart orders → All (AgreesWith orders) orders
agree_all [] apart = All-nil (AgreesWith [])
agree_all (x ∷ xs) apart =
    let once : (if true then 1 else 0) + number_count x.id xs ≤ 1 =
    subst (λ b. (if b then 1 else 0) + number_count x.id xs ≤ 1) (eq-eqb x.id x.id refl) (apart x.id) in
    let none = none_alike x xs (omega (arith, once)) in
    let later = agree_all xs (λ number. omega (arith, apart number)) in
    All-cons (AgreesWith (x ∷ xs)) x xs (All-cons (IsAlike x) x xs (λ e. refl) (All-weaker (IsOther x) (IsAlike x) (λ own other e. absurd (other e)) xs none))
    (All-from_get_or (AgreesWith (x ∷ xs)) xs x (λ i inside.
    let alike : All (IsAlike (get_or xs i x)) xs = All-get_or (AgreesWith xs) xs i x inside later in
    All-cons (IsAlike (get_or xs i x)) x xs (λ e. absurd (All-get_or (IsOther x) xs i x inside none (sym e))) alike))

pub same_orders : (live orders : List Order) → numbers_of live ≡ numbers_of orders → All (AgreesWith orders) live → live ≡ orders
same_orders [] [] e all = refl
same_orders [] (o ∷ orders) e all = cc
same_orders (p ∷ live) [] e all = cc
same_orders (p ∷ live) (o ∷ orders) e all =
    let head : p.id ≡ o.id = cc in
    let tail : numbers_of live ≡ numbers_of orders = cc in
    let first : p ≡ o = All-head (IsAlike p) o orders (All-head (AgreesWith (o ∷ orders)) p live all) head in
    let rest = same_orders live orders tail
    (All-weaker (AgreesWith (o ∷ orders)) (AgreesWith orders) (λ (q : Order) h. All-tail (IsAlike q) o orders h) live
    (All-tail (AgreesWith (o ∷ orders)) p live all)) in
    ap (λ x. x ∷ live) first ∙ ap (λ l. o ∷ l) rest
