-- Cells within their ranges are written as such, and taken out again.
use Rattle.std.proofs.Common.{◌≡◌, ℕ, ◌<◌, ◌^◌, List, [], ◌∷◌, true, ◌&&◌, nat_lt, nat_le, length, Some, option_map, refl, ap, arith}
use Rattle.std.proofs.lemmas.Bool.{and_from, and_parts, le-leb, leb-true, lt-ltb, or_left}
use Rattle.form.specs.Between.{Between}
use Rattle.cell_cover.specs.Cells.{classes_rise}
use Rattle.cell_cover.specs.declared.cover.Multiplier.{Multiplier}
use Rattle.cell_cover.specs.declared.cover.Node.{Node}
use Rattle.cell_cover.specs.declared.cover.Node.TheVariants.{Split, Bound, Leaf}
use Rattle.reply_print.specs.BatchPieces.{natural, pieces_of}
use Rattle.reply_print.specs.Look.{is_whole, items_all}
use Rattle.reply_print.specs.PieceData.{piece_data, pieces_data}
use Rattle.reply_print.specs.Written.{IsWritten, AreWritten}
use Rattle.reply_print.proofs.PlainPieces.{fraction_plain}
use Rattle.reply_print.proofs.WrittenReplies.{each_written, short}
use Rattle.reply_text.proofs.Taken.{fraction_number, fraction_taken, items_pass, items_taken}
use Rattle.reply_text.proofs.TakenReplies.{then_taken}
use Rattle.proposal_text.specs.CellRanges.{AreCellsWithin, IsCellWithin, classes_in, listed}
use Rattle.proposal_text.specs.CellReading.{are_in_turn, cell_from, cell_numbers, cell_shape, cells_from, cells_numbers, cells_shape, class_of, classes_from, few_cells, is_class_or_fraction, multiplier_with, multipliers_from}
use Rattle.proposal_text.specs.CoverPieces.{cell_piece, cells_piece}
use Rattle.proposal_text.specs.declared.cells.TheConstants.{MAX_CLASS, MAX_CELLS, MAX_LISTED}
use Rattle.proposal_text.proofs.CoverLists.{flat_of}

-- ---- what is written

-- a class that may follow another
abbrev pub Follows : ℕ → ℕ → Type 0
Follows before k = (nat_lt before k && nat_le k MAX_CLASS) ≡ true

is_low : (before k : ℕ) → Follows before k → k < 2 ^ 63
is_low before k h = let low = leb-true k MAX_CLASS (and_parts (nat_lt before k) (nat_le k MAX_CLASS) h).1 in omega (arith, low)

flat_written : (before : ℕ) (ms : List Multiplier) → classes_rise MAX_CLASS before (classes_in ms) ≡ true → AreWritten 0 (flat_of ms)
flat_written before [] h = tt
flat_written before (m ∷ ms) h = let parts = and_parts _ _ h in (short m.class (is_low before m.class parts.0), (fraction_plain m.by, flat_written m.class ms parts.1))

classes_written : (before : ℕ) (ks : List ℕ) → classes_rise MAX_CLASS before ks ≡ true → AreWritten 0 (pieces_of natural ks)
classes_written before [] h = tt
classes_written before (k ∷ ks) h = let parts = and_parts _ _ h in (short k (is_low before k parts.0), classes_written k ks parts.1)

cell_written : (node : Node) → IsCellWithin node → IsWritten 2 (cell_piece node)
cell_written (Split class) h = (refl, (refl, short class (omega (arith, h.1)), tt))
cell_written (Bound class minus plus) h = (refl, (refl, short class (omega (arith, h.0.1)), (refl, flat_written 0 minus h.1, (refl, flat_written 0 plus h.2, tt))))
cell_written (Leaf [] ms) h = (refl, (refl, flat_written 0 ms h.1, tt))
cell_written (Leaf (k ∷ ks) ms) h = (refl, (refl, classes_written 0 (k ∷ ks) h.0, (refl, flat_written 0 ms h.1, tt)))

pub cells_written : (nodes : List Node) → AreCellsWithin nodes → IsWritten 4 (cells_piece nodes)
cells_written nodes h = (refl, (refl, each_written IsCellWithin 2 cell_piece cell_written nodes h.2, tt))

-- ---- shapes

turns : (ms : List Multiplier) → are_in_turn true (pieces_data (flat_of ms)) ≡ true
turns [] = refl
turns (m ∷ ms) = turns ms

wholes : (ks : List ℕ) → items_all is_whole (pieces_data (pieces_of natural ks)) ≡ true
wholes [] = refl
wholes (k ∷ ks) = wholes ks

cell_is : (node : Node) → IsCellWithin node → cell_shape (piece_data (cell_piece node)) ≡ true
cell_is (Split class) h = refl
cell_is (Bound class minus plus) h = or_left _ _ (and_from _ _ (turns minus) (turns plus))
cell_is (Leaf [] ms) h = and_from _ _ (turns ms) refl
cell_is (Leaf (k ∷ ks) ms) h = and_from _ _ (turns ms) (wholes ks)

pub cells_are : (nodes : List Node) → AreCellsWithin nodes → cells_shape (piece_data (cells_piece nodes)) ≡ true
cells_are nodes h = items_pass IsCellWithin cell_piece cell_shape cell_is nodes h.2

-- ---- texts of numbers

flat_numbers : (ms : List Multiplier) → items_all is_class_or_fraction (pieces_data (flat_of ms)) ≡ true
flat_numbers [] = refl
flat_numbers (m ∷ ms) = and_from _ _ (fraction_number m.by) (flat_numbers ms)

cell_is_numbered : (node : Node) → IsCellWithin node → cell_numbers (piece_data (cell_piece node)) ≡ true
cell_is_numbered (Split class) h = refl
cell_is_numbered (Bound class minus plus) h = and_from _ _ (flat_numbers minus) (flat_numbers plus)
cell_is_numbered (Leaf [] ms) h = and_from _ _ (flat_numbers ms) refl
cell_is_numbered (Leaf (k ∷ ks) ms) h = and_from _ _ (flat_numbers ms) refl

pub cells_are_numbered : (nodes : List Node) → AreCellsWithin nodes → cells_numbers (piece_data (cells_piece nodes)) ≡ true
cells_are_numbered nodes h = items_pass IsCellWithin cell_piece cell_numbers cell_is_numbered nodes h.2

-- ---- nodes

class_taken : (before k : ℕ) → Follows before k → class_of before k ≡ Some k
class_taken before k h = rw h refl

one_class : (k : ℕ) → Between 1 MAX_CLASS k → class_of 0 k ≡ Some k
one_class k h = class_taken 0 k (and_from _ _ (lt-ltb 0 k (omega (arith, h.0))) (le-leb k MAX_CLASS h.1))

classes_taken : (before : ℕ) (ks : List ℕ) → classes_rise MAX_CLASS before ks ≡ true → classes_from before (pieces_data (pieces_of natural ks)) ≡ Some ks
classes_taken before [] h = refl
classes_taken before (k ∷ ks) h = let parts = and_parts _ _ h in then_taken _ _ k _ (class_taken before k parts.0) (ap (option_map (λ classes. k ∷ classes)) (classes_taken k ks parts.1))

flat_taken : (before : ℕ) (ms : List Multiplier) → classes_rise MAX_CLASS before (classes_in ms) ≡ true → multipliers_from before (pieces_data (flat_of ms)) ≡ Some ms
flat_taken before [] h = refl
flat_taken before (m ∷ ms) h =
    let parts = and_parts _ _ h in
    then_taken _ _ m.class _ (class_taken before m.class parts.0)
    (then_taken _ _ m.by _ (fraction_taken m.by) (ap (option_map (λ more. multiplier_with m.class m.by ∷ more)) (flat_taken m.class ms parts.1)))

cell_taken : (node : Node) → IsCellWithin node → cell_from (piece_data (cell_piece node)) ≡ Some node
cell_taken (Split class) h = ap (option_map Split) (one_class class h)
cell_taken (Bound class minus plus) h =
    then_taken _ _ class _ (one_class class h.0) (then_taken _ _ minus _ (flat_taken 0 minus h.1) (ap (option_map (Bound class minus)) (flat_taken 0 plus h.2)))
cell_taken (Leaf [] ms) h = ap (option_map (Leaf [])) (flat_taken 0 ms h.1)
cell_taken (Leaf (k ∷ ks) ms) h =
    then_taken _ _ (k ∷ ks) _ (then_taken _ _ (k ∷ ks) _ (classes_taken 0 (k ∷ ks) h.0) refl) (ap (option_map (Leaf (k ∷ ks))) (flat_taken 0 ms h.1))

few_taken : (nodes : List Node) → AreCellsWithin nodes → few_cells nodes ≡ Some nodes
few_taken nodes h = rw (le-leb (length nodes) MAX_CELLS h.0, le-leb (listed nodes) MAX_LISTED h.1) refl

pub cells_taken : (nodes : List Node) → AreCellsWithin nodes → cells_from (piece_data (cells_piece nodes)) ≡ Some nodes
cells_taken nodes h = then_taken _ _ nodes _ (items_taken IsCellWithin cell_piece cell_from cell_taken nodes h.2) (few_taken nodes h)
