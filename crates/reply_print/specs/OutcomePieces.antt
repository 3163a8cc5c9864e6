-- What an outcome is written as: its certificate, or the step that did not fit.
use Rattle.std.specs.Prelude.{ℕ, ℤ, unsigned_abs, List, [], ◌∷◌, take, drop, codes}
use Rattle.exact_num.specs.Fraction.{over}
use Rattle.exact_num.specs.declared.misfit.Wide.{Wide}
use Rattle.form.specs.declared.states.State.{State}
use Rattle.cert_check.specs.declared.measures.Weighted.{Weighted}
use Rattle.cert_check.specs.declared.measures.Measure.{Measure}
use Rattle.sign_tree.specs.declared.trees.Node.{Node}
use Rattle.sign_tree.specs.declared.trees.Node.TheVariants.{Split, Leaf}
use Rattle.sign_tree.specs.declared.trees.Multiplier.{Multiplier}
use Rattle.cert_check.specs.declared.outcome.Cover.{Cover}
use Rattle.cert_check.specs.declared.outcome.Cover.TheVariants.{Line, Tree}
use Rattle.cert_check.specs.declared.outcome.Mark.{Mark}
use Rattle.cert_check.specs.declared.outcome.Mark.TheVariants as mark
use Rattle.reply_print.specs.BatchPieces.{natural, whole_words, fraction, fraction_words, each}
use Rattle.reply_print.specs.Piece.{Piece, words, list, object, Pieces, no_pieces, piece, Fields, no_fields, field}
use Rattle.reply_print.specs.Words.{operator_word}

abbrev pub state_entries : State → List ℤ
state_entries state = take state.count state.entries

abbrev pub point_piece : Weighted → Piece
point_piece point =
    object (field (codes "state") (each whole_words (state_entries point.state)) (field (codes "weight") (fraction point.weight) no_fields))

abbrev pub multiplier_piece : Multiplier → Piece
multiplier_piece m = object (field (codes "at") (natural m.place) (field (codes "by") (fraction m.by) no_fields))

-- how many multipliers a node takes
abbrev pub count_of : Node → ℕ
count_of (Split place) = 0
count_of (Leaf count) = count

-- a node with its multipliers
abbrev pub node_piece : Node → List Multiplier → Piece
node_piece (Split place) ms = object (field (codes "split") (natural place) no_fields)
node_piece (Leaf count) ms = object (field (codes "leaf") (each multiplier_piece ms) no_fields)

-- the nodes in preorder; each leaf has the next multipliers
abbrev pub node_pieces : List Node → List Multiplier → Pieces
node_pieces [] ms = no_pieces
node_pieces (node ∷ nodes) ms = piece (node_piece node (take (count_of node) ms)) (node_pieces nodes (drop (count_of node) ms))

abbrev pub cover_piece : Cover → Piece
cover_piece Line = words (codes "line")
cover_piece (Tree tree) = list (node_pieces tree.nodes tree.multipliers)

abbrev pub certificate_piece : Cover → Measure → Piece
certificate_piece cover measure =
    object (field (codes "cover") (cover_piece cover) (field (codes "measure") (each point_piece measure.points) no_fields))

-- a pair of a numerator and a denominator
abbrev pub pair_words : ℤ × ℤ → Piece
pair_words x = fraction_words (over x.0 (unsigned_abs x.1))

abbrev pub wide_piece : Wide → Piece
wide_piece w =
    object (field (codes "left") (pair_words w.left)
    (field (codes "operator") (words (operator_word w.operator))
    (field (codes "right") (pair_words w.right) no_fields)))

-- a certificate with the mark optimal alone
abbrev pub certificate_field : Mark → Fields → Fields
certificate_field (mark.Optimal cover measure) more = field (codes "certificate") (certificate_piece cover measure) more
certificate_field (mark.Wide w) more = more
certificate_field mark.Budget more = more

-- the step that did not fit, with the mark wide alone
abbrev pub wide_field : Mark → Fields
wide_field (mark.Optimal cover measure) = no_fields
wide_field (mark.Wide w) = field (codes "wide") (wide_piece w) no_fields
wide_field mark.Budget = no_fields
