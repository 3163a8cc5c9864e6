-- The sides that are still to come, where changes are made and set back.
use Rattle.std.proofs.Common.{◌≡◌, ℕ, ◌-◌, List, [], ◌∷◌, ◌++◌, set, true, false, Some, refl, ap, sym, ◌∙◌}
use Rattle.std.specs.Prelude.{reverse, slice_get}
use Rattle.std.proofs.lemmas.List.{reverse-append, set-set, set-get_or}
use Rattle.std.proofs.lemmas.Option.{get_or_from_slice_get}
use Rattle.cell_cover.specs.declared.vectors.Row.{Row}
use Rattle.cell_cover.specs.declared.vectors.Knowledge.{Knowledge}
use Rattle.cell_cover.specs.declared.vectors.Knowledge.TheVariants.{Bounded}
use Rattle.cell_cover.specs.declared.walk.Change.{Change}
use Rattle.cell_cover.specs.Rows.{row_of}
use Rattle.cell_cover.specs.Kept.{set_back, cell_with, pending_of}

-- what stands there may be written again
pub again : {A : Type 0} (xs : List A) (i : ℕ) (x : A) → slice_get xs i ≡ Some x → set xs i x ≡ xs
again xs i x at = ap (set xs i) (sym (get_or_from_slice_get xs i x x at)) ∙ set-get_or xs i x

pub last_first : {A : Type 0} (xs : List A) (x : A) → reverse (xs ++ x ∷ []) ≡ x ∷ reverse xs
last_first xs x = reverse-append xs (x ∷ [])

restored : (known : List Knowledge) (change : Change) (new : Knowledge) → set_back known change ≡ known → set_back (set known (change.class - 1) new) change ≡ known
restored known change new is = set-set known (change.class - 1) new (Bounded change.before) ∙ is

-- behind a change that does not split the same is to come as before
pub changed_pending : (count : ℕ) (known : List Knowledge) (change : Change) (new : Knowledge) (changes : List Change) (saved : List Row) → change.splits ≡ false → set_back known change ≡ known
    → pending_of count (set known (change.class - 1) new) (reverse (changes ++ change ∷ [])) saved ≡ pending_of count known (reverse changes) saved
changed_pending count known change new changes saved none is = rw (last_first changes change, none, restored known change new is) refl

-- and behind one that splits first its minus side
pub split_pending : (count : ℕ) (known : List Knowledge) (change : Change) (new : Knowledge) (changes : List Change) (saved : List Row) (sums : Row) → change.splits ≡ true → set_back known change ≡ known
    → pending_of count (set known (change.class - 1) new) (reverse (changes ++ change ∷ [])) (reverse (saved ++ sums ∷ []))
    ≡ record { cell = cell_with count sums known; class = change.class; bound = row_of count change.before } ∷ pending_of count known (reverse changes) (reverse saved)
split_pending count known change new changes saved sums splits is = rw (last_first changes change, last_first saved sums, splits, restored known change new is) refl
