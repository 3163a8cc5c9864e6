-- What a node leads to, from the sums that are made of it.
use Rattle.std.proofs.Common.{◌≡◌, ℕ, ◌+◌, List, ◌∷◌, Result, Ok, Err, Option, Some, None, refl, sym, ◌∙◌}
use Rattle.exact_num.specs.declared.misfit.Wide.{Wide}
use Rattle.exact_num.specs.Fraction.{Fraction}
use Rattle.exact_num.specs.Fits.{after}
use Rattle.cell_cover.specs.Cells.{ClassMultiplier}
use Rattle.cell_cover.specs.Closed.{Plus, Minus, Bounded, known_at, now_known}
use Rattle.cell_cover.specs.Walk.{WalkClass, Cell, walk_class_at, then_with, with_bound, without_bound, plus_each}
use Rattle.cell_cover.specs.NodeWalk.{Pending, State, Next, Fails, GoesOn, split_step, bound_step, next_side}
use Rattle.cell_cover.specs.Mixed.{mixed_bound, rebound}

-- ---- what a split, a bound and a leaf lead to
-- the sums that a step makes, where it fits
abbrev pub sums_lead : (List Fraction → Next) → Result (List Fraction) Wide → Result Next Wide
sums_lead to (Ok sums) = Ok (to sums)
sums_lead to (Err w) = Err w

two_steps : (first : Result (List Fraction) Wide) (second : List Fraction → Result (List Fraction) Wide) (cell : List Fraction → Cell) (state : Cell → State)
    → after (after first (λ sums. after (second sums) (λ sums. Ok (cell sums)))) (λ up. Ok (GoesOn (state up))) ≡ sums_lead (λ sums. GoesOn (state (cell sums))) (after first second)
two_steps (Err w) second cell state = refl
two_steps (Ok sums) second cell state = last (second sums)
  where
    last : (r : Result (List Fraction) Wide) → after (after r (λ sums. Ok (cell sums))) (λ up. Ok (GoesOn (state up))) ≡ sums_lead (λ sums. GoesOn (state (cell sums))) r
    last (Ok out) = refl
    last (Err w) = refl

abbrev pub plus_state : State → ℕ → List Fraction → List Fraction → State
plus_state state k w sums = record {
  cell = record { sums = sums; known = now_known state.cell.known k Plus };
  pending = record { cell = state.cell; class = k; bound = w } ∷ state.pending;
}

pub split_is : (limit : ℕ) (classes : List WalkClass) (state : State) (k : ℕ) (w : List Fraction) (class : WalkClass) (made : Result (List Fraction) Wide)
    → known_at state.cell.known k ≡ Bounded w → walk_class_at classes k ≡ class
    → made ≡ after (without_bound limit class.kink w state.cell.sums) (λ sums. plus_each limit sums class.kink class.entries)
    → sums_lead (λ sums. GoesOn (plus_state state k w sums)) made ≡ split_step limit classes state k
split_is limit classes state k w class made is at sums =
    rw (is, at, sums)
    (sym (two_steps (without_bound limit class.kink w state.cell.sums) (λ sums. plus_each limit sums class.kink class.entries) (λ sums. record { sums = sums; known = now_known state.cell.known k Plus })
    (λ up. record { cell = up; pending = record { cell = state.cell; class = k; bound = w } ∷ state.pending })))

-- ---- a bound
abbrev pub bound_leads : (List Fraction → List Fraction → Next) → Result (Option (List Fraction × List Fraction)) Wide → Result Next Wide
bound_leads to (Ok (Some p)) = Ok (to p.0 p.1)
bound_leads to (Ok None) = Ok Fails
bound_leads to (Err w) = Err w

abbrev pub bound_state : State → ℕ → List Fraction → List Fraction → State
bound_state state k next sums = record { cell = record { sums = sums; known = now_known state.cell.known k (Bounded next) }; pending = state.pending }

bounds : (limit : ℕ) (K : Fraction) (w sums : List Fraction) (made : Result (Option (List Fraction)) Wide) (cell : List Fraction → List Fraction → Cell) (state : Cell → State)
    → then_with made Fails (λ next. after (after (without_bound limit K w sums) (λ sums. after (with_bound limit K next sums) (λ sums. Ok (cell next sums)))) (λ inner. Ok (GoesOn (state inner))))
    ≡ bound_leads (λ next sums. GoesOn (state (cell next sums))) (rebound limit K w sums made)
bounds limit K w sums (Err x) cell state = refl
bounds limit K w sums (Ok None) cell state = refl
bounds limit K w sums (Ok (Some next)) cell state =
    two_steps (without_bound limit K w sums) (with_bound limit K next) (cell next) state ∙ paired (after (without_bound limit K w sums) (with_bound limit K next))
  where
    paired : (r : Result (List Fraction) Wide) → sums_lead (λ sums. GoesOn (state (cell next sums))) r ≡ bound_leads (λ next sums. GoesOn (state (cell next sums))) (after r (λ sums. Ok (Some (next, sums))))
    paired (Ok out) = refl
    paired (Err w) = refl

pub bound_is : (limit n : ℕ) (classes : List WalkClass) (state : State) (k : ℕ) (minus plus : List ClassMultiplier) (w : List Fraction) (class : WalkClass) (made : Result (Option (List Fraction × List Fraction)) Wide)
    → known_at state.cell.known k ≡ Bounded w → walk_class_at classes k ≡ class
    → made ≡ rebound limit class.kink w state.cell.sums (mixed_bound limit (n + 1) classes state.cell.known class.entries minus plus)
    → bound_leads (λ next sums. GoesOn (bound_state state k next sums)) made ≡ bound_step limit n classes state k minus plus
bound_is limit n classes state k minus plus w class made is at bound =
    rw (is, at, bound)
    (sym (bounds limit class.kink w state.cell.sums (mixed_bound limit (n + 1) classes state.cell.known class.entries minus plus) (λ next sums. record { sums = sums; known = now_known state.cell.known k (Bounded next) })
    (λ inner. record { cell = inner; pending = state.pending })))

-- ---- the minus side
pub minus_is : (limit : ℕ) (classes : List WalkClass) (p : Pending) (pending : List Pending) (made : Result (List Fraction) Wide)
    → made ≡ without_bound limit (walk_class_at classes p.class).kink p.bound p.cell.sums
    → sums_lead (λ sums. GoesOn (record { cell = record { sums = sums; known = now_known p.cell.known p.class Minus }; pending = pending })) made ≡ next_side limit classes (p ∷ pending)
minus_is limit classes p pending made sums = rw sums (last (without_bound limit (walk_class_at classes p.class).kink p.bound p.cell.sums))
  where
    last : (r : Result (List Fraction) Wide)
        → sums_lead (λ sums. GoesOn (record { cell = record { sums = sums; known = now_known p.cell.known p.class Minus }; pending = pending })) r
        ≡ after (after r (λ sums. Ok (record { sums = sums; known = now_known p.cell.known p.class Minus }))) (λ down. Ok (GoesOn (record { cell = down; pending = pending })))
    last (Ok out) = refl
    last (Err w) = refl
