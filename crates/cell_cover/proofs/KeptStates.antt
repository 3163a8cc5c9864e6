-- The state of a walk, after a node was taken.
use Rattle.std.proofs.Common.{◌≡◌, ℕ, ◌+◌, ◌-◌, List, [], ◌∷◌, ◌++◌, map, set, true, false, Result, Ok, Err, Option, Some, refl, ap, sym, ◌∙◌}
use Rattle.std.specs.Prelude.{reverse}
use Rattle.std.proofs.lemmas.List.{map-set, set-set}
use Rattle.exact_num.specs.declared.misfit.Wide.{Wide}
use Rattle.exact_num.specs.Fraction.{Fraction}
use Rattle.exact_num.specs.Fits.{after}
use Rattle.cell_cover.specs.declared.vectors.Row.{Row}
use Rattle.cell_cover.specs.declared.vectors.Class.{Class}
use Rattle.cell_cover.specs.declared.vectors.Sign.TheVariants.{Plus as PlusSign, Minus as MinusSign}
use Rattle.cell_cover.specs.declared.vectors.Knowledge.{Knowledge}
use Rattle.cell_cover.specs.declared.vectors.Knowledge.TheVariants.{Signed as KnownSigned, Bounded as KnownBounded}
use Rattle.cell_cover.specs.declared.walk.Change.{Change}
use Rattle.cell_cover.specs.declared.walk.Walk.{Walk}
use Rattle.cell_cover.specs.declared.walk.Taken.{Taken}
use Rattle.cell_cover.specs.Cells.{ClassMultiplier}
use Rattle.cell_cover.specs.Closed.{Plus, Minus, Bounded, now_known}
use Rattle.cell_cover.specs.Walk.{WalkClass, plus_each, without_bound, walk_class_at}
use Rattle.cell_cover.specs.NodeWalk.{Pending, GoesOn, split_step, bound_step, next_side}
use Rattle.cell_cover.specs.Rows.{row_of, class_as, known_as}
use Rattle.cell_cover.specs.Kinked.{all_as}
use Rattle.cell_cover.specs.Kept.{IsChanged, set_back, cell_with, behind, pending_of, state_of, taken_as}
use Rattle.cell_cover.specs.Mixed.{IsUnsigned, mixed_bound, rebound}
use Rattle.cell_cover.proofs.FoundClasses.{known_is, class_is}
use Rattle.cell_cover.proofs.SideSteps.{split_is, bound_leads, bound_state, bound_is, minus_is}
use Rattle.cell_cover.proofs.Pendings.{again, last_first, changed_pending, split_pending}

-- what a walk has, before a change is made
pub record IsBefore (old mid : Walk) (sums : Row) (saved : List Row) : Type 0 where
  pub sums_are : mid.sums ≡ sums
  pub known : mid.known.items ≡ old.known.items
  pub changes : mid.changes.items ≡ old.changes.items
  pub saved_are : mid.saved.items ≡ saved

-- the state after a change
state_as : (count : ℕ) (old mid new : Walk) (change : Change) (knowledge : Knowledge) (taken : Taken) (sums : Row) (saved : List Row) → IsBefore old mid sums saved → IsChanged mid new change knowledge taken
    → taken_as count taken new ≡ Ok (GoesOn (record {
      cell = cell_with count sums (set old.known.items (change.class - 1) knowledge);
      pending = pending_of count (set old.known.items (change.class - 1) knowledge) (reverse (old.changes.items ++ change ∷ [])) (reverse saved);
    }))
state_as count old mid new change knowledge taken sums saved before changed =
    let s : new.sums ≡ sums = changed.sums ∙ before.sums_are in
    let k : new.known.items ≡ set old.known.items (change.class - 1) knowledge = changed.known ∙ ap (λ ks. set ks (change.class - 1) knowledge) before.known in
    let cs : new.changes.items ≡ old.changes.items ++ change ∷ [] = changed.changes ∙ ap (λ xs. xs ++ change ∷ []) before.changes in
    let rs : new.saved.items ≡ saved = changed.saved ∙ before.saved_are in
    rw (changed.on, s, k, cs, rs) refl

cell_now : (count : ℕ) (sums : Row) (known : List Knowledge) (k : ℕ) (knowledge : Knowledge) → cell_with count sums (set known (k - 1) knowledge) ≡ record { sums = row_of count sums; known = now_known (map (known_as count) known) k (known_as count knowledge) }
cell_now count sums known k knowledge = ap (λ ks. record { sums = row_of count sums; known = ks }) (map-set (known_as count) known (k - 1) knowledge)

pub split_goes : (count limit : ℕ) (classes : List Class) (old mid new : Walk) (taken : Taken) (k : ℕ) (class : Class) (bound sums : Row)
    → IsBefore old mid sums (old.saved.items ++ old.sums ∷ []) → IsChanged mid new (record { class = k; before = bound; splits = true }) (KnownSigned PlusSign) taken
    → IsUnsigned classes old.known.items k (class, bound)
    → Ok (row_of count sums) ≡ after (without_bound limit (class_as count class).kink (row_of count bound) (row_of count old.sums)) (λ sums. plus_each limit sums (class_as count class).kink (class_as count class).entries)
    → taken_as count taken new ≡ split_step limit (all_as count classes) (state_of count old) k
split_goes count limit classes old mid new taken k class bound sums before changed found made =
    let change : Change = record { class = k; before = bound; splits = true } in
    let kept : set_back old.known.items change ≡ old.known.items = again old.known.items (k - 1) (KnownBounded bound) found.bound in
    state_as count old mid new change (KnownSigned PlusSign) taken sums (old.saved.items ++ old.sums ∷ []) before changed
    ∙ ap (λ cell. Ok (GoesOn (record { cell = cell; pending = pending_of count (set old.known.items (k - 1) (KnownSigned PlusSign)) (reverse (old.changes.items ++ change ∷ [])) (reverse (old.saved.items ++ old.sums ∷ [])) })))
    (cell_now count sums old.known.items k (KnownSigned PlusSign))
    ∙ ap (λ pending. Ok (GoesOn (record { cell = record { sums = row_of count sums; known = now_known (map (known_as count) old.known.items) k Plus }; pending = pending })))
    (split_pending count old.known.items change (KnownSigned PlusSign) old.changes.items old.saved.items old.sums refl kept)
    ∙ split_is limit (all_as count classes) (state_of count old) k (row_of count bound) (class_as count class) (Ok (row_of count sums)) (known_is count old.known.items k bound found.bound) (class_is count classes k class found.class) made

pub split_stops : (count limit : ℕ) (classes : List Class) (old : Walk) (k : ℕ) (class : Class) (bound : Row) (w : Wide)
    → IsUnsigned classes old.known.items k (class, bound)
    → Err w ≡ after (without_bound limit (class_as count class).kink (row_of count bound) (row_of count old.sums)) (λ sums. plus_each limit sums (class_as count class).kink (class_as count class).entries)
    → Err w ≡ split_step limit (all_as count classes) (state_of count old) k
split_stops count limit classes old k class bound w found made =
    split_is limit (all_as count classes) (state_of count old) k (row_of count bound) (class_as count class) (Err w) (known_is count old.known.items k bound found.bound) (class_is count classes k class found.class) made

-- ---- a bound
pub bound_goes : (count limit n : ℕ) (classes : List Class) (old mid new : Walk) (taken : Taken) (k : ℕ) (class : Class) (bound next sums : Row) (minus plus : List ClassMultiplier)
    → n + 1 ≡ count → IsBefore old mid sums old.saved.items → IsChanged mid new (record { class = k; before = bound; splits = false }) (KnownBounded next) taken
    → IsUnsigned classes old.known.items k (class, bound)
    → Ok (Some (row_of count next, row_of count sums)) ≡ rebound limit (class_as count class).kink (row_of count bound) (row_of count old.sums) (mixed_bound limit count (all_as count classes) (map (known_as count) old.known.items) (class_as count class).entries minus plus)
    → taken_as count taken new ≡ bound_step limit n (all_as count classes) (state_of count old) k minus plus
bound_goes count limit n classes old mid new taken k class bound next sums minus plus entries before changed found made =
    let change : Change = record { class = k; before = bound; splits = false } in
    let kept : set_back old.known.items change ≡ old.known.items = again old.known.items (k - 1) (KnownBounded bound) found.bound in
    state_as count old mid new change (KnownBounded next) taken sums old.saved.items before changed
    ∙ ap (λ cell. Ok (GoesOn (record { cell = cell; pending = pending_of count (set old.known.items (k - 1) (KnownBounded next)) (reverse (old.changes.items ++ change ∷ [])) (reverse old.saved.items) })))
    (cell_now count sums old.known.items k (KnownBounded next))
    ∙ ap (λ pending. Ok (GoesOn (record { cell = record { sums = row_of count sums; known = now_known (map (known_as count) old.known.items) k (Bounded (row_of count next)) }; pending = pending })))
    (changed_pending count old.known.items change (KnownBounded next) old.changes.items (reverse old.saved.items) refl kept)
    ∙ bound_is limit n (all_as count classes) (state_of count old) k minus plus (row_of count bound) (class_as count class) (Ok (Some (row_of count next, row_of count sums))) (known_is count old.known.items k bound found.bound) (class_is count classes k class found.class)
    (made ∙ ap (λ c. rebound limit (class_as count class).kink (row_of count bound) (row_of count old.sums) (mixed_bound limit c (all_as count classes) (map (known_as count) old.known.items) (class_as count class).entries minus plus)) (sym entries))

pub bound_stops : (count limit n : ℕ) (classes : List Class) (old : Walk) (k : ℕ) (class : Class) (bound : Row) (minus plus : List ClassMultiplier) (made : Result (Option (List Fraction × List Fraction)) Wide)
    → n + 1 ≡ count → IsUnsigned classes old.known.items k (class, bound)
    → made ≡ rebound limit (class_as count class).kink (row_of count bound) (row_of count old.sums) (mixed_bound limit count (all_as count classes) (map (known_as count) old.known.items) (class_as count class).entries minus plus)
    → bound_leads (λ next sums. GoesOn (bound_state (state_of count old) k next sums)) made ≡ bound_step limit n (all_as count classes) (state_of count old) k minus plus
bound_stops count limit n classes old k class bound minus plus made entries found is =
    bound_is limit n (all_as count classes) (state_of count old) k minus plus (row_of count bound) (class_as count class) made (known_is count old.known.items k bound found.bound) (class_is count classes k class found.class)
    (is ∙ ap (λ c. rebound limit (class_as count class).kink (row_of count bound) (row_of count old.sums) (mixed_bound limit c (all_as count classes) (map (known_as count) old.known.items) (class_as count class).entries minus plus)) (sym entries))

-- ---- the minus side
abbrev side_of : ℕ → List Knowledge → Change → Row → Pending
side_of count known change sums = record { cell = cell_with count sums known; class = change.class; bound = row_of count change.before }

pub minus_goes : (count limit : ℕ) (classes : List WalkClass) (old mid new : Walk) (taken : Taken) (change : Change) (top sums : Row) (saved : List Row)
    → old.saved.items ≡ saved ++ top ∷ [] → IsBefore old mid sums saved → IsChanged mid new (record { class = change.class; before = change.before; splits = false }) (KnownSigned MinusSign) taken
    → set_back old.known.items change ≡ old.known.items
    → Ok (row_of count sums) ≡ without_bound limit (walk_class_at classes change.class).kink (row_of count change.before) (row_of count top)
    → taken_as count taken new ≡ next_side limit classes (behind count old.known.items change true (reverse old.saved.items) (pending_of count old.known.items (reverse old.changes.items)))
minus_goes count limit classes old mid new taken change top sums saved last before changed kept made =
    let other : Change = record { class = change.class; before = change.before; splits = false } in
    let rest = pending_of count old.known.items (reverse old.changes.items) in
    state_as count old mid new other (KnownSigned MinusSign) taken sums saved before changed
    ∙ ap (λ cell. Ok (GoesOn (record { cell = cell; pending = pending_of count (set old.known.items (change.class - 1) (KnownSigned MinusSign)) (reverse (old.changes.items ++ other ∷ [])) (reverse saved) })))
    (cell_now count sums old.known.items change.class (KnownSigned MinusSign))
    ∙ ap (λ pending. Ok (GoesOn (record { cell = record { sums = row_of count sums; known = now_known (map (known_as count) old.known.items) change.class Minus }; pending = pending })))
    (changed_pending count old.known.items other (KnownSigned MinusSign) old.changes.items (reverse saved) refl kept)
    ∙ minus_is limit classes (side_of count old.known.items change top) (rest (reverse saved)) (Ok (row_of count sums)) made
    ∙ ap (λ xs. next_side limit classes (behind count old.known.items change true xs rest)) (sym (ap reverse last ∙ last_first saved top))

-- ---- what is set back
pub back_again : (known : List Knowledge) (change : Change) → set_back (set_back known change) change ≡ set_back known change
back_again known change = set-set known (change.class - 1) (KnownBounded change.before) (KnownBounded change.before)
