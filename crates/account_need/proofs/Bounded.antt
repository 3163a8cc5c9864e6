-- The bound of a market, as the code comes to it: entry by entry, and one live order after another.
use Rattle.std.proofs.Common.{◌≡◌, ℕ, suc, ◌+◌, ◌-◌, ◌<◌, ◌++◌, ◌&&◌, ◌||◌, nat_eq, nat_lt, Bool, true, false, not, List, [], ◌∷◌, length, map, take, get_or, Err, arith, pos, append_assoc, refl, ap, sym, ◌∙◌}
use Rattle.std.specs.Prelude.{int_lt}
use Rattle.std.specs.List.{list_all, list_any}
use Rattle.std.proofs.lemmas.List.{map-append}
use Rattle.exact_num.specs.Fraction.{whole}
use Rattle.form.specs.declared.legs.Leg.{Leg}
use Rattle.form.specs.declared.limits.TheConstants.{MAX_ORDERS}
use Rattle.form.specs.Payoff.{leg_of}
use Rattle.form.specs.declared.orders.Side.TheVariants.{Buy}
use Rattle.account_need.specs.declared.need.NoNeed.TheVariants.{Positions}
use Rattle.account_need.specs.Account.{bound_of, bound_on, bound_unless, is_crowded, is_large}
use Rattle.account_need.specs.Rounded.{Summed}
use Rattle.account_need.specs.Several.{Bounded, has_plain_legs, option_owing, owing_in, top_call, tops_from}
use Rattle.account_need.proofs.HeldSums.{one_taken}

-- ---- entries
pub mapped_more : {A B : Type 0} (f : A → B) (xs : List A) (i : ℕ) (x : A) (start : List B) → i < length xs → x ≡ get_or xs i x
    → (start ++ map f (take i xs)) ++ f x ∷ [] ≡ start ++ map f (take (i + 1) xs)
mapped_more {A} {B} f xs i x start lt is =
    append_assoc start (map f (take i xs)) (f x ∷ [])
    ∙ ap (λ (ys : List B). start ++ ys) (sym (ap (map f) (one_taken xs i x lt is) ∙ map-append f (take i xs) (x ∷ [])))

-- the calls that bound
pub tops_step : (before n : ℕ) → before < n
    → tops_from before (n - before) ≡ option_owing Buy (top_call before (n - before - 1)) (whole (pos 1)) ∷ tops_from (before + 1) (n - (before + 1))
tops_step before n lt =
    let here : n - before ≡ suc (n - before - 1) = omega (arith, lt) in
    let next : n - before - 1 ≡ n - (before + 1) = omega (arith, lt) in
    ap (tops_from before) here
    ∙ ap (λ (k : ℕ). option_owing Buy (top_call before (n - before - 1)) (whole (pos 1)) ∷ tops_from (before + 1) k) next

-- ---- live orders by themselves
pub plain_legs : (legs : List Leg) → has_plain_legs (map leg_of legs) ≡ list_all (λ (leg : Leg). int_lt (pos 0) leg.count) legs
plain_legs [] = refl
plain_legs (leg ∷ legs) = ap (λ (b : Bool). int_lt (pos 0) leg.count && b) (plain_legs legs)

-- ---- whether there is a run at all
abbrev pub bound_by : (crowded one : Bool) → ℕ → ℕ → Summed → Bounded
bound_by true one n spent p = Err Positions
bound_by false one n spent p = bound_on one n spent p

pub by_tests : (n spent : ℕ) (p : Summed) (a b c d : Bool) → nat_lt MAX_ORDERS (length p.sums + length p.live) ≡ a → nat_eq n 1 ≡ b
    → nat_lt MAX_ORDERS (length (owing_in n p)) ≡ c → list_any is_large p.sums ≡ d → bound_of n spent p ≡ bound_by (a || (not b && (c || d))) b n spent p
by_tests n spent p a b c d ea eb ec ed =
    let crowded : is_crowded n p ≡ (a || (not b && (c || d))) = rw (ea, eb, ec, ed) refl in
    ap (λ (t : Bool). bound_unless t n spent p) crowded ∙ last (a || (not b && (c || d)))
  where
    last : (t : Bool) → bound_unless t n spent p ≡ bound_by t b n spent p
    last true = refl
    last false = ap (λ (one : Bool). bound_on one n spent p) eb
