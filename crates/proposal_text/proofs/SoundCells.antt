-- Cells that are taken out are within their ranges.
use Rattle.std.proofs.Common.{◌≡◌, ℕ, List, ◌∷◌, true, ◌&&◌, nat_lt, nat_le, length, option_and_then, codes, refl, arith}
use Rattle.std.specs.Prelude.{⊤}
use Rattle.std.specs.List.{AllByRecursion}
use Rattle.std.proofs.lemmas.Bool.{and_from, and_parts, leb-true, ltb-true}
use Rattle.form.specs.Between.{Between}
use Rattle.cell_cover.specs.Cells.{classes_rise}
use Rattle.cell_cover.specs.declared.cover.Multiplier.{Multiplier}
use Rattle.cell_cover.specs.declared.cover.Node.{Node}
use Rattle.cell_cover.specs.declared.cover.Node.TheVariants.{Split, Bound, Leaf}
use Rattle.serde_json.specs.Data.{Data, Items, no_items, item}
use Rattle.serde_json.specs.Find.{as_number, as_u64}
use Rattle.reply_print.specs.Look.{has_at}
use Rattle.reply_text.specs.BatchValues.{fraction_from}
use Rattle.reply_text.specs.Taking.{items_at, list_at}
use Rattle.reply_text.proofs.Sound.{Sound, after, any, at_key, either, list_sound, mapped, weaker, where_true}
use Rattle.proposal_text.specs.CellRanges.{AreCellsWithin, AreClasses, IsCellWithin, classes_in, listed}
use Rattle.proposal_text.specs.CellReading.{bound_from, cell_from, cells_from, class_at, class_from, class_of, classes_from, few_cells, full_at, leaf_from, multiplier_with, multipliers_at, multipliers_from, multipliers_of, some_classes, split_from}
use Rattle.proposal_text.specs.CoverPieces.{is_some_class}
use Rattle.proposal_text.specs.declared.cells.TheConstants.{MAX_CLASS, MAX_CELLS, MAX_LISTED}
use Rattle.proposal_text.proofs.TakenCells.{Follows}

abbrev Rise : ℕ → List ℕ → Type 0
Rise before ks = classes_rise MAX_CLASS before ks ≡ true

abbrev RiseIn : ℕ → List Multiplier → Type 0
RiseIn before ms = Rise before (classes_in ms)

class_sound : (before : ℕ) (d : Data) → Sound (Follows before) (class_from before d)
class_sound before d =
    after (λ n. ⊤) (Follows before) (class_of before) (option_and_then as_u64 (as_number d)) (any _) (λ n t. where_true (Follows before) (nat_lt before n && nat_le n MAX_CLASS) n (λ e. e))

between : (k : ℕ) → Follows 0 k → Between 1 MAX_CLASS k
between k h = let parts = and_parts (nat_lt 0 k) (nat_le k MAX_CLASS) h in (omega (arith, ltb-true 0 k parts.0), leb-true k MAX_CLASS parts.1)

class_at_sound : (key : List ℕ) (d : Data) → Sound (Between 1 MAX_CLASS) (class_at key d)
class_at_sound key d = at_key (Between 1 MAX_CLASS) key (class_from 0) d (λ e. weaker (Follows 0) (Between 1 MAX_CLASS) (class_from 0 e) (class_sound 0 e) between)

classes_sound : (before : ℕ) (ds : Items) → Sound (Rise before) (classes_from before ds)
classes_sound before no_items = refl
classes_sound before (item d ds) =
    after (Follows before) (Rise before) _ (class_from before d) (class_sound before d)
    (λ class c. mapped (Rise class) (Rise before) (λ classes. class ∷ classes) (classes_from class ds) (classes_sound class ds) (λ classes r. and_from _ _ c r))

mutual
  flat_sound : (before : ℕ) (ds : Items) → Sound (RiseIn before) (multipliers_from before ds)
  flat_sound before no_items = refl
  flat_sound before (item d ds) = after (Follows before) (RiseIn before) _ (class_from before d) (class_sound before d) (λ class c. of_sound before class ds c)

  of_sound : (before class : ℕ) (ds : Items) → Follows before class → Sound (RiseIn before) (multipliers_of class ds)
  of_sound before class no_items c = tt
  of_sound before class (item d ds) c =
      after (λ by. ⊤) (RiseIn before) _ (fraction_from d) (any (fraction_from d))
      (λ by t. mapped (RiseIn class) (RiseIn before) (λ ms. multiplier_with class by ∷ ms) (multipliers_from class ds) (flat_sound class ds) (λ ms r. and_from _ _ c r))

multipliers_sound : (key : List ℕ) (d : Data) → Sound (RiseIn 0) (multipliers_at key d)
multipliers_sound key d = after (λ ds. ⊤) (RiseIn 0) (multipliers_from 0) (items_at key d) (any (items_at key d)) (λ ds t. flat_sound 0 ds)

full_sound : (d : Data) → Sound AreClasses (full_at d)
full_sound d =
    either AreClasses (has_at (codes "full") (λ e. true) d) _ _
    (after AreClasses AreClasses some_classes _ (after (λ ds. ⊤) AreClasses (classes_from 0) (items_at (codes "full") d) (any (items_at (codes "full") d)) (λ ds t. classes_sound 0 ds))
    (λ classes r. where_true AreClasses (is_some_class classes) classes (λ e. r)))
    refl

bound_sound : (d : Data) → Sound IsCellWithin (bound_from d)
bound_sound d =
    after (Between 1 MAX_CLASS) IsCellWithin _ _ (class_at_sound (codes "bound") d)
    (λ class c. after (RiseIn 0) IsCellWithin _ _ (multipliers_sound (codes "minus") d)
    (λ minus m. mapped (RiseIn 0) IsCellWithin (Bound class minus) _ (multipliers_sound (codes "plus") d) (λ plus p. (c, m, p))))

leaf_sound : (d : Data) → Sound IsCellWithin (leaf_from d)
leaf_sound d =
    after AreClasses IsCellWithin _ (full_at d) (full_sound d) (λ full f. mapped (RiseIn 0) IsCellWithin (Leaf full) _ (multipliers_sound (codes "leaf") d) (λ ms m. (f, m)))

cell_sound : (d : Data) → Sound IsCellWithin (cell_from d)
cell_sound d =
    either IsCellWithin (has_at (codes "split") (λ e. true) d) (split_from d) _ (mapped (Between 1 MAX_CLASS) IsCellWithin Split _ (class_at_sound (codes "split") d) (λ class c. c))
    (either IsCellWithin (has_at (codes "bound") (λ e. true) d) (bound_from d) (leaf_from d) (bound_sound d) (leaf_sound d))

few_sound : (nodes : List Node) → AllByRecursion IsCellWithin nodes → Sound AreCellsWithin (few_cells nodes)
few_sound nodes h =
    where_true AreCellsWithin (nat_le (length nodes) MAX_CELLS && nat_le (listed nodes) MAX_LISTED) nodes
    (λ e. let parts = and_parts _ _ e in (leb-true (length nodes) MAX_CELLS parts.0, leb-true (listed nodes) MAX_LISTED parts.1, h))

pub cells_sound : (d : Data) → Sound AreCellsWithin (cells_from d)
cells_sound d =
    after (AllByRecursion IsCellWithin) AreCellsWithin few_cells (list_at (codes "cells") cell_from d) (list_sound IsCellWithin (codes "cells") cell_from d cell_sound) few_sound
