-- Steps of the walk, one after another.
use Rattle.std.proofs.Common.{◌≡◌, ℕ, suc, arith, ◌+◌, ◌-◌, ◌<◌, Bool, true, false, ◌&&◌, ◌||◌, List, ◌∷◌, length, Result, Ok, Err, Option, Some, None, refl, ap, sym, ◌∙◌}
use Rattle.std.specs.Prelude.{if◌then◌else◌, nat_lt}
use Rattle.exact_num.specs.declared.misfit.Wide.{Wide}
use Rattle.exact_num.specs.Fraction.{Fraction}
use Rattle.exact_num.specs.Fits.{after, meaning}
use Rattle.exact_num.specs.Steps.{plus_product}
use Rattle.exact_num.specs.Tests.{is_above_zero}
use Rattle.cell_cover.specs.Cells.{ClassMultiplier}
use Rattle.cell_cover.specs.Closed.{Known, Plus, Minus, Bounded, known_at}
use Rattle.cell_cover.specs.Walk.{WalkClass, Cell, add_signed, add_each, walk_class_at, may_mix, mixed, then_with, entry_at, entry_sum, entries_close, add_full}
use Rattle.cell_cover.specs.Mixed.{counted_sign, bound_by, mix_one}

-- ---- a mixture, one multiple after another
mix_more : (b : Bool) (r : Result (List Fraction) Wide) (f : List Fraction → Result (Option (List Fraction)) Wide) → (if b then after r f else Ok None) ≡ then_with (if b then after r (λ x. Ok (Some x)) else Ok None) None f
mix_more true (Ok a) f = refl
mix_more true (Err w) f = refl
mix_more false r f = refl

mixed_first : (limit : ℕ) (cs : List WalkClass) (known : List (Known (List Fraction))) (totals : List Fraction) (m : ClassMultiplier) (ms : List ClassMultiplier)
    → mixed limit cs known totals (m ∷ ms) ≡ then_with (mix_one limit cs known totals m) None (λ next. mixed limit cs known next ms)
mixed_first limit cs known totals m ms = mix_more _ (add_each limit (known_at known m.class) totals m.by (walk_class_at cs m.class).entries) (λ next. mixed limit cs known next ms)

-- what a step answers is the whole answer, or what goes on
abbrev pub on_step : (List Fraction → Result (Option (List Fraction)) Wide) → Result (Option (List Fraction)) Wide → Result (Option (List Fraction)) Wide
on_step f made = then_with made None f

pub mix_goes : (limit : ℕ) (cs : List WalkClass) (known : List (Known (List Fraction))) (totals : List Fraction) (left rest : List ClassMultiplier) (m : ClassMultiplier) (all made : Result (Option (List Fraction)) Wide)
    → left ≡ m ∷ rest → all ≡ mixed limit cs known totals left → made ≡ mix_one limit cs known totals m → all ≡ on_step (λ next. mixed limit cs known next rest) made
mix_goes limit cs known totals left rest m all made first is one =
    is ∙ ap (mixed limit cs known totals) first ∙ mixed_first limit cs known totals m rest ∙ ap (on_step (λ next. mixed limit cs known next rest)) (sym one)

-- ---- sums
pub signed_alike : (limit : ℕ) (it : Known (List Fraction)) (total a b : Fraction) → add_signed limit (counted_sign it) total a b ≡ add_signed limit it total a b
signed_alike limit Plus total a b = refl
signed_alike limit Minus total a b = refl
signed_alike limit (Bounded w) total a b = refl

-- ---- a leaf
pub multiple_added : (limit : ℕ) (it s : Known (List Fraction)) (total by entry e : Fraction) → s ≡ counted_sign it → entry ≡ e → add_signed limit s total by entry ≡ add_signed limit it total by e
multiple_added limit it s total by entry e sign is = rw (sign, is) (signed_alike limit it total by e)

pub kink_added : (limit : ℕ) (classes : List WalkClass) (k i : ℕ) (total kink entry : Fraction) → kink ≡ (walk_class_at classes k).kink → entry ≡ entry_at classes k i → plus_product limit total kink entry ≡ add_full limit classes i total k
kink_added limit classes k i total kink entry is at = rw (is, at) refl

pub entries_step : (limit : ℕ) (classes : List WalkClass) (L : Fraction) (cell : Cell) (full : List ℕ) (ms : List ClassMultiplier) (i count : ℕ) (sum : Fraction) → i < count
    → entry_sum limit classes L cell full ms i ≡ Ok sum → is_above_zero sum ≡ false → entries_close limit classes L cell full ms i (count - i) ≡ entries_close limit classes L cell full ms (i + 1) (count - (i + 1))
entries_step limit classes L cell full ms i count sum lt is low =
    let e : count - i ≡ suc (count - (i + 1)) = omega arith in
    rw (e, is, low) refl

pub bound_counts : (limit : ℕ) (it : Known (List Fraction)) (K : Fraction) (w sums : List Fraction) → is_above_zero K ≡ true → bound_by limit it K w sums ≡ add_each limit it sums K w
bound_counts limit it K w sums is_true = ap (λ b. if b then add_each limit it sums K w else Ok sums) is_true

pub bound_not : (limit : ℕ) (it : Known (List Fraction)) (K : Fraction) (w sums : List Fraction) → is_above_zero K ≡ false → bound_by limit it K w sums ≡ Ok sums
bound_not limit it K w sums is_false = ap (λ b. if b then add_each limit it sums K w else Ok sums) is_false

-- ---- two tests
pub first_holds : (a b : Bool) → a ≡ true → true ≡ (a || b)
first_holds a b is_true = sym (ap (λ x. x || b) is_true)

pub second_decides : (a b w : Bool) → a ≡ false → w ≡ b → w ≡ (a || b)
second_decides a b w is_false is = is ∙ sym (ap (λ x. x || b) is_false)

-- ---- one multiple
pub mix_absent : (limit : ℕ) (cs : List WalkClass) (known : List (Known (List Fraction))) (totals : List Fraction) (m : ClassMultiplier) → nat_lt (m.class - 1) (length cs) ≡ false → Ok None ≡ mix_one limit cs known totals m
mix_absent limit cs known totals m is_false =
    sym (ap (λ b. if b && may_mix known m then after (add_each limit (known_at known m.class) totals m.by (walk_class_at cs m.class).entries) (λ next. Ok (Some next)) else Ok None) is_false)

pub mix_unfit : (limit : ℕ) (cs : List WalkClass) (known : List (Known (List Fraction))) (totals : List Fraction) (m : ClassMultiplier) → may_mix known m ≡ false → Ok None ≡ mix_one limit cs known totals m
mix_unfit limit cs known totals m is_false =
    sym (ap (λ b. if nat_lt (m.class - 1) (length cs) && b then after (add_each limit (known_at known m.class) totals m.by (walk_class_at cs m.class).entries) (λ next. Ok (Some next)) else Ok None) is_false
    ∙ off (nat_lt (m.class - 1) (length cs)))
  where
    off : (b : Bool) → (if b && false then after (add_each limit (known_at known m.class) totals m.by (walk_class_at cs m.class).entries) (λ next. Ok (Some next)) else Ok None) ≡ Ok None
    off true = refl
    off false = refl

pub mix_fits : (limit : ℕ) (cs : List WalkClass) (known : List (Known (List Fraction))) (totals : List Fraction) (m : ClassMultiplier) (s : Known (List Fraction)) (entries : List Fraction) (made : Result (List Fraction) Wide)
    → nat_lt (m.class - 1) (length cs) ≡ true → may_mix known m ≡ true → s ≡ known_at known m.class → (walk_class_at cs m.class).entries ≡ entries → made ≡ add_each limit s totals m.by entries
    → after made (λ next. Ok (Some next)) ≡ mix_one limit cs known totals m
mix_fits limit cs known totals m s entries made within may sign are is =
    ap (λ r. after r (λ next. Ok (Some next))) (is ∙ ap (λ k. add_each limit k totals m.by entries) sign ∙ ap (λ es. add_each limit (known_at known m.class) totals m.by es) (sym are))
    ∙ sym (ap (λ b. if b && may_mix known m then after (add_each limit (known_at known m.class) totals m.by (walk_class_at cs m.class).entries) (λ next. Ok (Some next)) else Ok None) within
    ∙ ap (λ b. if b then after (add_each limit (known_at known m.class) totals m.by (walk_class_at cs m.class).entries) (λ next. Ok (Some next)) else Ok None) may)

-- ---- a step that stops, or goes on, with what was made of it
pub step_stops : {A B : Type 0} (f : A → B) (made : Result A Wide) (w : Wide) (wanted : Result B Wide) → meaning f made ≡ wanted → made ≡ Err w → wanted ≡ Err w
step_stops f made w wanted is err = sym is ∙ ap (meaning f) err

pub step_goes : {A B : Type 0} (f : A → B) (made : Result A Wide) (a : A) (wanted : Result B Wide) → meaning f made ≡ wanted → made ≡ Ok a → wanted ≡ Ok (f a)
step_goes f made a wanted is ok = sym is ∙ ap (meaning f) ok
