use Rattle.std.proofs.Common.{◌≡◌, ℕ, List, false, codes, refl}
use Rattle.std.specs.Str.{bytes_eq}
use Rattle.std.proofs.lemmas.Bool.{false_from_ne_true}
use Rattle.std.proofs.lemmas.Slice.Eq.{bytes_eq-Decides}
use Rattle.proposal_text.proofs.reading.ProposalReplyTestedReply.has_shape.Goals as goal

other : (text word : List ℕ) → (text ≡ word → ⊥) → bytes_eq text word ≡ false
other text word differs = false_from_ne_true (bytes_eq text word) (λ same. differs ((bytes_eq-Decides text word).0 same))

pub returns-in_default : goal.returns-in_default
returns-in_default c =
    let is = other c.args.word.now in
    rw (
      is (codes "book") c.in_default.not-book,
      is (codes "positions") c.in_default.not-positions,
      is (codes "proposed") c.in_default.not-proposed,
      is (codes "cleared") c.in_default.not-cleared,
      is (codes "closed") c.in_default.not-closed,
      is (codes "reopened") c.in_default.not-reopened,
      is (codes "secured") c.in_default.not-secured,
      is (codes "need") c.in_default.not-need,
      is (codes "quoted") c.in_default.not-quoted,
      is (codes "priced") c.in_default.not-priced,
      is (codes "margin") c.in_default.not-margin,
      is (codes "tried") c.in_default.not-tried,
      is (codes "refused") c.in_default.not-refused,
    ) refl
