-- The texts of lines and their answers, in their order.
use Rattle.std.proofs.Common.{◌≡◌, ℕ, suc, ◌+◌, List, [], ◌∷◌, ◌++◌, Bool, true, false, ◌==◌, length, if◌then◌else◌, refl, sym, ap, subst, ◌∙◌, arith, append_assoc, Option}
use Rattle.std.proofs.lemmas.Bool.Decides.{nat_tests}
use Rattle.byte_streams.specs.Reads.{LastRead}
use Rattle.live_lines.specs.Answering.{AnswersLine, AnswersLines}
use Rattle.live_lines.specs.Open.{line_text}
use Rattle.live_lines.specs.Serving.{IsServedInTime, Known, Wrote, WroteFirst, WroteSome}
use Rattle.live_lines.proofs.Serves.{in_time_so}
use Rattle.book_proposals.specs.LiveAnswers.{AreAnswers, proposes, texts_from, unless_empty}
use Rattle.book_proposals.specs.Proposing.{WroteFor, WroteFrontFor, WroteFrontOf}

unless_append : (text : List ℕ) (texts : List (List ℕ)) → unless_empty text [] ++ texts ≡ unless_empty text texts
unless_append text texts = by_test (length text == 0)
  where
    by_test : (b : Bool) → (if b then [] else text ∷ []) ++ texts ≡ (if b then texts else text ∷ texts)
    by_test true = refl
    by_test false = refl

texts_append : (skips : Bool) (number : ℕ) (a b : List (List ℕ)) → texts_from skips number (a ++ b) ≡ texts_from skips number a ++ texts_from skips (number + length a) b
texts_append skips number [] b = let same : number ≡ number + 0 = omega arith in ap (λ n. texts_from skips n b) same
texts_append skips number (line ∷ a) b =
    let text = line_text skips number line in
    let moved : number + 1 + length a ≡ number + suc (length a) = omega arith in
    ap (unless_empty text) (texts_append skips (number + 1) a b ∙ ap (λ n. texts_from skips (number + 1) a ++ texts_from skips n b) moved)
    ∙ sym (unless_append text (texts_from skips (number + 1) a ++ texts_from skips (number + suc (length a)) b))
    ∙ sym (append_assoc (unless_empty text []) (texts_from skips (number + 1) a) (texts_from skips (number + suc (length a)) b))
    ∙ ap (λ l. l ++ texts_from skips (number + suc (length a)) b) (unless_append text (texts_from skips (number + 1) a))

module _ {S : Type 0} where
  line_answers : (number : ℕ) (old : S) (line text : List ℕ) (new : S) (texts : List (List ℕ)) (rest : List ℕ) → AnswersLine {S = S} proposes number old line text new
      → AreAnswers texts rest → AreAnswers (unless_empty line texts) (text ++ rest)
  line_answers number old [] text new texts rest h more = subst (λ t. AreAnswers texts (t ++ rest)) (sym h.0) more
  line_answers number old (b ∷ line) text new texts rest h more =
      let some : (length (b ∷ line) == 0) ≡ false = grind (arith, nat_tests) in
      subst (λ (t : Bool). AreAnswers (if t then texts else (b ∷ line) ∷ texts) (text ++ rest)) (sym some) (text, rest, h, more, refl)

  lines_answers : (skips : Bool) (number : ℕ) (old : S) (lines : List (List ℕ)) (text : List ℕ) (new : S) → AnswersLines {S = S} proposes skips number old lines text new
      → AreAnswers (texts_from skips number lines) text
  lines_answers skips number old [] text new h = h.0
  lines_answers skips number old (line ∷ lines) text new h =
      let later = lines_answers skips (number + 1) h.1 lines h.2 new h.4 in
      subst (AreAnswers (texts_from skips number (line ∷ lines))) (sym h.5)
      (line_answers number old (line_text skips number line) h.0 h.1 (texts_from skips (number + 1) lines) h.2 h.3 later)

  module _ (start : S) (known : Known) (input : List ℕ) where
    pub wrote_for : Wrote {S = S} proposes true start known input → WroteFor known input
    wrote_for h = (h.0, lines_answers true 1 start _ h.0 h.1.0 h.1.1, h.2)

    pub wrote_front : WroteSome {S = S} proposes true start known input → WroteFrontFor known input
    wrote_front h = (h.0, lines_answers true 1 start _ h.0 h.1.0 h.1.1, h.2)

    pub wrote_first : WroteFirst {S = S} proposes true start known input → WroteFrontOf known input
    wrote_first h =
        let first = h.1 in (
          texts_from true 1 first.0,
          texts_from true (1 + length first.0) first.1,
          h.0,
          ap (texts_from true 1) first.3 ∙ texts_append true 1 first.0 first.1,
          lines_answers true 1 start first.0 h.0 first.2 first.4,
          h.2,
        )

  pub in_time_for : (start : S) (left written : Option (List ℕ)) (last : Option LastRead)
      → IsServedInTime (Wrote {S = S} proposes true start) true left written last → IsServedInTime WroteFor true left written last
  in_time_for start left written last h = in_time_so {P = Wrote {S = S} proposes true start} {Q = WroteFor} true left written last (wrote_for start) h
