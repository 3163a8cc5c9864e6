-- What is told of quotes, prices and margins is taken out of its line again.
use Rattle.std.proofs.Common.{◌≡◌, ℕ, unsigned_abs, List, ◌∷◌, ◌++◌, Bool, true, false, ◌==◌, nat_le, Option, Some, option_map, option_and_then, codes, decimal, if◌then◌else◌, refl, ap, ◌∙◌, arith}
use Rattle.std.specs.List.{AllByRecursion}
use Rattle.std.specs.Fmt.{signed_decimal}
use Rattle.std.specs.Str.{bytes_eq}
use Rattle.std.proofs.lemmas.Bool.{and_from, or_right}
use Rattle.std.proofs.lemmas.List.Folds.{list_all-append}
use Rattle.frac.specs.declared.frac128.Frac128.{Frac128}
use Rattle.frac.specs.Value.{fraction_of}
use Rattle.form.specs.declared.limits.TheConstants.{MAX_PRICE, MAX_QUANTITY}
use Rattle.form.specs.declared.states.State.{State}
use Rattle.serde_json.specs.Data.{string}
use Rattle.limits.specs.declared.TheConstants.{MAX_ACCOUNT, MAX_MARKET}
use Rattle.proposal_text.specs.declared.margins.ToldMargin.{ToldMargin}
use Rattle.proposal_text.specs.declared.margins.ToldMargin.TheVariants as told
use Rattle.proposal_text.specs.PricePieces.{price_text}
use Rattle.proposal_text.specs.declared.prices.QuotedPrice.{QuotedPrice}
use Rattle.proposal_text.specs.declared.prices.QuotedPrice.TheVariants as price
use Rattle.reply_print.specs.BatchPieces.{each, pieces_of, whole_words}
use Rattle.reply_print.specs.Numbers.{fraction_text}
use Rattle.reply_print.specs.OutcomePieces.{state_entries}
use Rattle.reply_print.specs.PieceData.{piece_data, pieces_data}
use Rattle.reply_print.specs.Within.{IsAccount, IsLine, IsMarket, IsSmall}
use Rattle.reply_print.specs.ClearedShape.{is_state}
use Rattle.reply_print.specs.Look.{is_word, items_all}
use Rattle.reply_print.specs.NumberTexts.{is_whole_number}
use Rattle.reply_text.proofs.FiveTests.{IsTaken, paired}
use Rattle.reply_text.proofs.Taken.{fraction_number, fraction_taken, items_pass, natural_taken, whole_number}
use Rattle.reply_text.proofs.TakenBatches.{len_within}
use Rattle.reply_text.proofs.TakenOutcomes.{all_text, length-entries, state_taken}
use Rattle.reply_text.proofs.TakenReplies.{line_taken, then_taken}
use Rattle.reply_text.specs.BatchValues.{whole_from}
use Rattle.reply_text.specs.ReplyValues.{not_below}
use Rattle.proposal_text.specs.declared.replies.ProposalReply.{ProposalReply}
use Rattle.proposal_text.specs.declared.replies.ProposalReply.TheVariants.{Quoted, Priced, Margin}
use Rattle.proposal_text.specs.Pieces.{proposal_piece}
use Rattle.proposal_text.specs.Within.{IsProposalLineWithin, IsMarginWithin, IsPriceWithin}
use Rattle.proposal_text.specs.AskedShapes.{is_bare, is_price}
use Rattle.proposal_text.specs.AskedValues.{told_by}
use Rattle.proposal_text.specs.ReplyValues.{proposal_tests}
use Rattle.proposal_text.proofs.TakenNeeds.{are_low, fourth, held_taken, is_number, low-decimal, low-signed, no_word, third}

-- ---- prices

price_is : (p : QuotedPrice) → IsPriceWithin p → is_price (string (price_text p)) ≡ true
price_is (price.At p) h = third _ _ _ (is_number p (omega arith))
price_is price.Never h = refl
price_is price.Unmarked h = refl

-- from the text of a price
abbrev price_of : List ℕ → Option QuotedPrice
price_of text =
    if bytes_eq text (codes "never") then Some price.Never
    else if bytes_eq text (codes "unmarked") then Some price.Unmarked
    else option_map price.At (option_map unsigned_abs (option_and_then not_below (whole_from MAX_PRICE (string text))))

price_taken : (p : QuotedPrice) → IsPriceWithin p → price_of (price_text p) ≡ Some p
price_taken (price.At p) h =
    let low = low-decimal p (omega arith) in
    rw (no_word (decimal p) 110 _ (omega arith) low, no_word (decimal p) 117 _ (omega arith) low) (ap (option_map price.At) (held_taken MAX_PRICE p h (omega arith)))
price_taken price.Never h = refl
price_taken price.Unmarked h = refl

-- ---- margins

low-fraction : (x : Frac128) → are_low (fraction_text (fraction_of x)) ≡ true
low-fraction x = by (x.denominator == 1)
  where
    by : (b : Bool) → are_low (if b then signed_decimal x.numerator else signed_decimal x.numerator ++ 47 ∷ decimal x.denominator) ≡ true
    by true = low-signed x.numerator x.above_fits
    by false =
        list_all-append (λ b. nat_le b 57) (signed_decimal x.numerator) (47 ∷ decimal x.denominator)
        ∙ and_from (are_low (signed_decimal x.numerator)) _ (low-signed x.numerator x.above_fits) (low-decimal x.denominator (omega (arith, x.below_fits)))

not_bare : (text : List ℕ) → are_low text ≡ true → is_bare text ≡ false
not_bare text low = rw (no_word text 119 (codes "ide") (omega arith) low, no_word text 98 (codes "udget") (omega arith) low) refl

state_is : (state : State) → is_state (piece_data (each whole_words (state_entries state))) ≡ true
state_is state =
    let v = state_entries state in
    let size = length-entries state in
    and_from _ _ (all_text v) (len_within 2 9 whole_words v (omega (arith, size, state.count_in_range.0)) (omega (arith, size, state.count_in_range.1)))

entries_are : (state : State) → AllByRecursion IsSmall (state_entries state) → items_all is_whole_number (pieces_data (pieces_of whole_words (state_entries state))) ≡ true
entries_are state h = items_pass IsSmall whole_words is_whole_number whole_number (state_entries state) h

-- ---- the lines

-- a reply is taken out of its line
abbrev pub IsTakenFrom : ℕ → ProposalReply → Type 0
IsTakenFrom line reply = IsTaken proposal_tests (piece_data (proposal_piece line reply)) (line, reply)

pub quoted_taken : (line market : ℕ) (bid ask : QuotedPrice) → IsProposalLineWithin line (Quoted market bid ask) → IsTakenFrom line (Quoted market bid ask)
quoted_taken line market bid ask h = record {
  shape = refl;
  numbers = and_from _ _ (price_is ask h.1.2) (price_is bid h.1.1);
  taken = paired _ _ line _ (line_taken line h.0)
      (then_taken _ _ market _ (natural_taken 1 MAX_MARKET market h.1.0)
      (then_taken _ _ bid _ (price_taken bid h.1.1) (ap (option_map (Quoted market bid)) (price_taken ask h.1.2))));
}

pub priced_taken : (line market quantity : ℕ) (ask bid : QuotedPrice) → IsProposalLineWithin line (Priced market quantity ask bid) → IsTakenFrom line (Priced market quantity ask bid)
priced_taken line market quantity ask bid h = record {
  shape = refl;
  numbers = and_from _ _ (price_is ask h.1.2) (price_is bid h.1.3);
  taken = paired _ _ line _ (line_taken line h.0)
      (then_taken _ _ market _ (natural_taken 1 MAX_MARKET market h.1.0)
      (then_taken _ _ quantity _ (natural_taken 1 MAX_QUANTITY quantity h.1.1)
      (then_taken _ _ ask _ (price_taken ask h.1.2) (ap (option_map (Priced market quantity ask)) (price_taken bid h.1.3)))));
}

-- what is told of a margin from its text and the data of its line
module _ (line account market : ℕ) (l : IsLine line) (a : IsAccount account) (m : IsMarket market) where
  least_taken : (liability : Frac128) (at : State) → AllByRecursion IsSmall (state_entries at) → IsTakenFrom line (Margin account market (told.Least liability at))
  least_taken liability at h =
      let text = fraction_text (fraction_of liability) in
      let low = low-fraction liability in
      let bare = not_bare text low in
      let is = λ (word : List ℕ). is_word word (string text) in
      let d = piece_data (proposal_piece line (Margin account market (told.Least liability at))) in
      let taken : told_by text d ≡ Some (told.Least liability at)
      = rw (no_word text 119 (codes "ide") (omega arith) low, no_word text 98 (codes "udget") (omega arith) low, no_word text 117 (codes "nbounded") (omega arith) low)
      (then_taken _ _ liability _ (fraction_taken liability) (ap (option_map (told.Least liability)) (state_taken at h))) in
      record {
        shape = and_from _ _ (rw bare (state_is at)) refl;
        numbers = and_from _ _ (fourth (is (codes "unbounded")) (is (codes "wide")) (is (codes "budget")) _ (fraction_number liability)) (or_right (is_bare text) _ (entries_are at h));
        taken = paired _ _ line _ (line_taken line l)
            (then_taken _ _ account _ (natural_taken 1 MAX_ACCOUNT account a)
            (then_taken _ _ market _ (natural_taken 1 MAX_MARKET market m)
            (ap (option_map (Margin account market)) taken)));
      }

  unbounded_taken : (ray : State) → AllByRecursion IsSmall (state_entries ray) → IsTakenFrom line (Margin account market (told.Unbounded ray))
  unbounded_taken ray h = record {
    shape = and_from _ _ (state_is ray) refl;
    numbers = entries_are ray h;
    taken = paired _ _ line _ (line_taken line l)
        (then_taken _ _ account _ (natural_taken 1 MAX_ACCOUNT account a)
        (then_taken _ _ market _ (natural_taken 1 MAX_MARKET market m)
        (ap (option_map (Margin account market)) (ap (option_map told.Unbounded) (state_taken ray h)))));
  }

  bare_taken : IsTakenFrom line (Margin account market told.Wide) × IsTakenFrom line (Margin account market told.Budget)
  bare_taken = (
    record {
      shape = refl;
      numbers = refl;
      taken = paired _ _ line _ (line_taken line l)
          (then_taken _ _ account _ (natural_taken 1 MAX_ACCOUNT account a) (then_taken _ _ market _ (natural_taken 1 MAX_MARKET market m) refl));
    },
    record {
      shape = refl;
      numbers = refl;
      taken = paired _ _ line _ (line_taken line l)
          (then_taken _ _ account _ (natural_taken 1 MAX_ACCOUNT account a) (then_taken _ _ market _ (natural_taken 1 MAX_MARKET market m) refl));
    },
  )

  pub margin_taken : (margin : ToldMargin) → IsMarginWithin margin → IsTakenFrom line (Margin account market margin)
  margin_taken (told.Least liability at) h = least_taken liability at h
  margin_taken (told.Unbounded ray) h = unbounded_taken ray h
  margin_taken told.Wide h = bare_taken.0
  margin_taken told.Budget h = bare_taken.1
