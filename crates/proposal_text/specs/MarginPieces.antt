-- What is told of margins is written as this.
use Rattle.std.specs.Prelude.{ℕ, List, codes}
use Rattle.form.specs.declared.states.State.{State}
use Rattle.frac.specs.Value.{fraction_of}
use Rattle.reply_print.specs.BatchPieces.{natural, whole_words, each}
use Rattle.reply_print.specs.Numbers.{fraction_text}
use Rattle.reply_print.specs.OutcomePieces.{state_entries}
use Rattle.reply_print.specs.Piece.{Piece, words, object, no_fields, field}
use Rattle.proposal_text.specs.declared.margins.ToldMargin.{ToldMargin}
use Rattle.proposal_text.specs.declared.margins.ToldMargin.TheVariants.{Least, Unbounded, Wide, Budget}

-- with the state at which the positions owe it, or along which they owe without a bound
abbrev pub margin_with : ℕ → ℕ → ℕ → List ℕ → State → Piece
margin_with line account market text at =
    object (field (codes "account") (natural account)
    (field (codes "at") (each whole_words (state_entries at))
    (field (codes "line") (natural line)
    (field (codes "margin") (words text)
    (field (codes "market") (natural market)
    (field (codes "reply") (words (codes "margin")) no_fields))))))

abbrev pub margin_without : ℕ → ℕ → ℕ → List ℕ → Piece
margin_without line account market word =
    object (field (codes "account") (natural account)
    (field (codes "line") (natural line)
    (field (codes "margin") (words word)
    (field (codes "market") (natural market)
    (field (codes "reply") (words (codes "margin")) no_fields)))))

abbrev pub margin_text : ToldMargin → List ℕ
margin_text (Least liability at) = fraction_text (fraction_of liability)
margin_text (Unbounded ray) = codes "unbounded"
margin_text Wide = codes "wide"
margin_text Budget = codes "budget"

abbrev pub margin_piece : ℕ → ℕ → ℕ → ToldMargin → Piece
margin_piece line account market (Least liability at) = margin_with line account market (margin_text (Least liability at)) at
margin_piece line account market (Unbounded ray) = margin_with line account market (margin_text (Unbounded ray)) ray
margin_piece line account market Wide = margin_without line account market (margin_text Wide)
margin_piece line account market Budget = margin_without line account market (margin_text Budget)
