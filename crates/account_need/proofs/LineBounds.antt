-- The greatest exposure rounded up, as the greatest of rounded ones from bend to bend.
use Rattle.std.proofs.Common.{◌≡◌, ℕ, ◌+◌, ◌<◌, ◌≤◌, Bool, true, false, cond, List, [], ◌∷◌, ◌++◌, length, get_or, drop, map, filter, arith, Option, Some, None, ℤ, ◌≤ℤ◌, refl, ap, sym, subst, ◌∙◌}
use Rattle.std.specs.Prelude.{if◌then◌else◌}
use Rattle.std.specs.Int.{int_max}
use Rattle.std.specs.Option.{option_map}
use Rattle.std.proofs.lemmas.Int.{ints, int_max_is}
use Rattle.std.proofs.lemmas.List.{length-map}
use Rattle.arithmetic.proofs.Lists.{drop_map, item_of}
use Rattle.exact_num.specs.Fraction.{AtMost, Fraction, IsDefined, whole}
use Rattle.exact_num.specs.Tests.{greater_of, is_at_most}
use Rattle.form.specs.Payoff.{scale_of}
use Rattle.portfolio_margin.specs.Need.{ceil_of}
use Rattle.portfolio_margin.proofs.Rounded.{liabilities_are_rounded_up}
use Rattle.account_need.specs.Rounded.{Summed}
use Rattle.account_need.specs.Line.{bend_of, bends, bends_in, exposure_at, greatest, highest_state, line_bound, lowest_state, options_in}
use Rattle.account_need.specs.declared.price.Price.{Price}
use Rattle.account_need.specs.Prices.{bend_within, bound_at, price_vector, with_bend, with_bends}
use Rattle.account_need.proofs.Convex.{bends_scale}
use Rattle.account_need.proofs.Greatest.{above_both, at_most_then, greatest_has}
use Rattle.market_laws.proofs.Line.{Each}

-- ---- rounding up keeps an order
ceil : Fraction → ℤ
ceil x = ceil_of x.numerator x.denominator

ceil_mono : (x y : Fraction) → IsDefined x → IsDefined y → AtMost x y → ceil x ≤ℤ ceil y
unfolding ceil
ceil_mono x y dx dy le =
    (liabilities_are_rounded_up x dx).least (ceil_of y.numerator y.denominator) (at_most_then x y (whole (ceil_of y.numerator y.denominator)) dy le (liabilities_are_rounded_up y dy).not_below)

max_left : (a b : ℤ) → b ≤ℤ a → a ≡ int_max a b
max_left a b le = omega (arith, ints, int_max_is a b)

max_right : (a b : ℤ) → a ≤ℤ b → b ≡ int_max a b
max_right a b le = omega (arith, ints, int_max_is a b)

max_assoc : (a b c : ℤ) → int_max a (int_max b c) ≡ int_max (int_max a b) c
max_assoc a b c = omega (arith, ints, int_max_is a b, int_max_is b c, int_max_is a (int_max b c), int_max_is (int_max a b) c)

ceil_larger : (x y : Fraction) → IsDefined x → IsDefined y → ceil (greater_of x y) ≡ int_max (ceil x) (ceil y)
ceil_larger x y dx dy = by (is_at_most x y) refl
  where
    by : (b : Bool) → is_at_most x y ≡ b → ceil (if b then y else x) ≡ int_max (ceil x) (ceil y)
    by true e = max_right (ceil x) (ceil y) (ceil_mono x y dx dy (subst (λ (g : Fraction). AtMost x g) (at_true e) (above_both x y).0))
      where
        at_true : is_at_most x y ≡ true → greater_of x y ≡ y
        at_true e = ap (λ (b : Bool). if b then y else x) e
    by false e = max_left (ceil x) (ceil y) (ceil_mono y x dy dx (subst (λ (g : Fraction). AtMost y g) (ap (λ (b : Bool). if b then y else x) e) (above_both x y).1))

most : ℤ → List ℤ → ℤ
most best [] = best
most best (x ∷ xs) = most (int_max best x) xs

most_out : (a b : ℤ) (xs : List ℤ) → int_max a (most b xs) ≡ most (int_max a b) xs
unfolding most
most_out a b [] = refl
most_out a b (x ∷ xs) = most_out a (int_max b x) xs ∙ ap (λ (w : ℤ). most w xs) (max_assoc a b x)

ceil_greatest : (x : Fraction) (ys : List Fraction) → IsDefined x → Each IsDefined ys → ceil (greatest x ys) ≡ most (ceil x) (map ceil ys)
unfolding most
ceil_greatest x [] dx h = refl
ceil_greatest x (y ∷ ys) dx h =
    ceil_larger x (greatest y ys) dx (greatest_has IsDefined y ys h.0 h.1)
    ∙ ap (int_max (ceil x)) (ceil_greatest y ys h.0 h.1)
    ∙ most_out (ceil x) (ceil y) (map ceil ys)

-- ---- from bend to bend
module _ (p : Summed) where
  IsSome : List ℕ → Type 0
  IsSome z = 1 ≤ scale_of z

  defined : (zs : List (List ℕ)) → Each IsSome zs → Each IsDefined (map (exposure_at p) zs)
  unfolding IsSome
  defined [] h = tt
  defined (z ∷ zs) h = (omega (arith, h.0), defined zs h.1)

  scales : (options : List (List ℤ)) → Each IsSome (map bend_of (filter bends options))
  unfolding IsSome
  scales [] = tt
  scales (v ∷ options) = by (bends v) refl (scales options)
    where
      rest : List (List ℤ)
      rest = filter bends options

      by : (b : Bool) → bends v ≡ b → Each IsSome (map bend_of (filter bends options)) → Each IsSome (map bend_of (cond b (v ∷ filter bends options) (filter bends options)))
      by true e h = (bends_scale v e, h)
      by false e h = h

  ceils : (zs : List (List ℕ)) → map ceil (map (exposure_at p) zs) ≡ map (bound_at p) zs
  unfolding ceil
  ceils [] = refl
  ceils (z ∷ zs) = ap (λ (xs : List ℤ). bound_at p z ∷ xs) (ceils zs)

  bends_are : (best : ℤ) (options : List (List ℤ)) → most best (map (bound_at p) (map bend_of (filter bends options))) ≡ with_bends p best options
  unfolding most
  bends_are best [] = refl
  bends_are best (v ∷ options) = by (bends v) (λ b. bends_are b options)
    where
      by : (b : Bool) → ((w : ℤ) → most w (map (bound_at p) (map bend_of (filter bends options))) ≡ with_bends p w options)
          → most best (map (bound_at p) (map bend_of (cond b (v ∷ filter bends options) (filter bends options)))) ≡ with_bends p (if b then int_max best (bound_at p (bend_of v)) else best) options
      by true h = h (int_max best (bound_at p (bend_of v)))
      by false h = h best

  pub line_bound_is : line_bound p ≡ with_bends p (int_max (bound_at p lowest_state) (bound_at p highest_state)) (options_in p)
  unfolding ceil most IsSome
  line_bound_is =
      ceil_greatest (exposure_at p lowest_state) (map (exposure_at p) (highest_state ∷ bends_in p)) (omega arith) (defined (highest_state ∷ bends_in p) (omega arith, scales (options_in p)))
      ∙ ap (most (bound_at p lowest_state)) (ceils (highest_state ∷ bends_in p))
      ∙ bends_are (int_max (bound_at p lowest_state) (bound_at p highest_state)) (options_in p)

pub with_bends-append : (p : Summed) (best : ℤ) (xs ys : List (List ℤ)) → with_bends p best (xs ++ ys) ≡ with_bends p (with_bends p best xs) ys
with_bends-append p best [] ys = refl
with_bends-append p best (v ∷ xs) ys = with_bends-append p (with_bend p best v) xs ys

-- ---- one option more
bends_some : (v : List ℤ) (z : List ℕ) (b : Bool) → Some z ≡ (if b then Some (bend_of v) else None) → (b ≡ true) × (z ≡ bend_of v)
bends_some v z true e = (refl, cc)
bends_some v z false e = cc

pub one_bend : (p : Summed) (best x : ℤ) (v : List ℤ) (found : Option Price) (at : Price) → option_map price_vector found ≡ bend_within v → found ≡ Some at → x ≡ bound_at p (price_vector at)
    → int_max best x ≡ with_bend p best v
one_bend p best x v found at is some bound =
    let e = bends_some v (price_vector at) (bends v) (ap (option_map price_vector) (sym some) ∙ is) in
    rw (e.0) (ap (int_max best) (bound ∙ ap (bound_at p) e.1))

-- an item of a list that is mapped twice
pub drop_maps : {A B C : Type 0} (f : B → C) (g : A → B) (xs : List A) (i : ℕ) (x : A) → i < length xs → x ≡ get_or xs i x
    → drop i (map f (map g xs)) ≡ f (g x) ∷ drop (i + 1) (map f (map g xs))
drop_maps f g xs i x lt is = drop_map f (map g xs) i (g x) (omega (arith, length-map xs g)) (item_of g xs i x lt is)
