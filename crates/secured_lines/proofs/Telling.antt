-- What is written for an input is told line by line, and keeps what is promised where proposals are
-- taken.
use Rattle.std.proofs.Common.{◌≡◌, ◌++◌, ◌∷◌, [], ℕ, List, Result, Ok, Err, refl, sym, ap, ◌∙◌, subst}
use Rattle.account_need.specs.Account.{Need}
use Rattle.auction_phases.specs.Phases.{ended_by}
use Rattle.auction_phases.proofs.Ends.{ends_are_told}
use Rattle.command_text.specs.declared.asked.Fault.{Fault}
use Rattle.command_text.specs.declared.command.Body.{Body}
use Rattle.command_text.specs.declared.command.Body.TheVariants as body
use Rattle.command_text.specs.declared.command.Command.{Command}
use Rattle.command_text.specs.declared.command.Command.TheVariants.{Withdraw}
use Rattle.command_text.specs.declared.requests.PriceRequest.{PriceRequest}
use Rattle.command_text.specs.declared.requests.QuoteRequest.{QuoteRequest}
use Rattle.command_text.specs.declared.requests.Request.{Request}
use Rattle.command_text.specs.declared.requests.Request.TheVariants as asks
use Rattle.command_text.specs.declared.requests.TryRequest.{TryRequest}
use Rattle.command_text.specs.declared.words.TheConstants.{SERVED}
use Rattle.command_text.specs.Commands.{body_of_line}
use Rattle.command_text.specs.Said.{said_in}
use Rattle.command_text.proofs.SaidByWords.{command_to_run}
use Rattle.exchange_core.specs.LineReplies.{reply_to}
use Rattle.exchange_lines.specs.LineSteps.{InputLine}
use Rattle.reply_print.specs.ReplyPieces.{reply_line}
use Rattle.proposal_lines.specs.Laws.{IsSound}
use Rattle.proposal_lines.specs.Promises.{TellsAsked, TellsBy}
use Rattle.proposal_lines.specs.ProposingState.{ProposingState}
use Rattle.proposal_text.specs.Pieces.{written_reply}
use Rattle.proposal_text.specs.declared.replies.ServedReply.{ServedReply}
use Rattle.proposal_lines.proofs.Beside.{IsBeside, beside_text, refusal_beside}
use Rattle.proposal_lines.proofs.Telling.{IsTold, TellsLine, beside_told, outputs_tell_by, unended_told}
use Rattle.secured_accounts.specs.Refusals.{need_answer, secure_answer}
use Rattle.secured_accounts.specs.declared.accounts.ToldNeed.{ToldNeed}
use Rattle.secured_accounts.specs.declared.refusal.SecuringRefusal.{SecuringRefusal}
use Rattle.secured_accounts.specs.declared.refusal.SecuringRefusal.TheVariants.{Exchange, Uncovered}
use Rattle.serve_lines.specs.Output.{serving_said}
use Rattle.serve_lines.specs.ServingState.{ServingState}
use Rattle.serve_lines.proofs.Telling.{serving_told}
use Rattle.secured_lines.specs.Laws.{state_by_lines}
use Rattle.secured_lines.specs.Output.{command_reply, handed_on, need_reply, secure_reply, secured_line, secured_output, secured_reply, withdrawn}
use Rattle.secured_lines.specs.Replies.{need_answered, refused_by, secure_answered, uncovered_reply}
use Rattle.secured_lines.specs.SecuredState.{SecuredState, empty_secured, exchange_in}
use Rattle.secured_lines.proofs.LineKinds.{by_answer, by_kind}

abbrev pub proposing_of : SecuredState → ProposingState
proposing_of state = state.serving.proposing

-- what secured accounts are told takes nothing
refused_beside : (refusal : SecuringRefusal) → IsBeside (refused_by refusal)
refused_beside (Exchange first) = refusal_beside first
refused_beside (Uncovered need) = tt

secure_beside : (account : ℕ) (answer : Result Need SecuringRefusal) → IsBeside (secure_answered account answer)
secure_beside account (Ok (Ok amount)) = tt
secure_beside account (Ok (Err word)) = tt
secure_beside account (Err refusal) = refused_beside refusal

need_beside : (account : ℕ) (answer : Result ToldNeed SecuringRefusal) → IsBeside (need_answered account answer)
need_beside account (Ok told) = tt
need_beside account (Err refusal) = refused_beside refusal

module _ (line : InputLine) (state : SecuredState) (sound : IsSound state.serving.proposing) where
  record Tells (now : List ℕ × SecuredState) : Type 0 where
    line_is : IsTold state.serving.proposing line (now.0, now.1.serving.proposing)
    asked_is : TellsAsked state.serving.proposing line (now.0, now.1.serving.proposing.exchange)

  -- a reply, as it is written
  abbrev Answers : ServedReply × SecuredState → Type 0
  Answers now = Tells (written_reply line.number now)

  -- ---- answered as where no account is secured
  handed_told : (said : Result Request Fault) → said_in SERVED line.bytes ≡ said → Answers (handed_on state line.bytes said)
  handed_told said is =
      let told = serving_told line state.serving sound in
      record {
        line_is = subst (λ (said : Result Request Fault). let now = serving_said line.number state.serving line.bytes said in IsTold state.serving.proposing line (now.0, now.1.proposing)) is told.line_is;
        asked_is = subst (λ (said : Result Request Fault). let now = serving_said line.number state.serving line.bytes said in TellsAsked state.serving.proposing line (now.0, now.1.proposing.exchange)) is told.asked_is;
      }

  -- ---- answered by the rule
  -- the line asks for no quote and no prices, and tries no order
  record AsksNothing (said : Result Request Fault) : Type 0 where
    quote : (request : QuoteRequest) → said ≡ Ok (asks.Quote request) → ⊥
    prices : (request : PriceRequest) → said ≡ Ok (asks.Price request) → ⊥
    trial : (request : TryRequest) → said ≡ Ok (asks.Try request) → ⊥

  nothing_asked : (said : Result Request Fault) → said_in SERVED line.bytes ≡ said → AsksNothing said → (now : List ℕ × SecuredState)
      → TellsAsked state.serving.proposing line (now.0, now.1.serving.proposing.exchange)
  nothing_asked said is nothing now = record {
    quote = λ request says none. absurd (nothing.quote request (sym is ∙ says));
    prices = λ request says none. absurd (nothing.prices request (sym is ∙ says));
    trial = λ request says none. absurd (nothing.trial request (sym is ∙ says));
  }

  ruled_told : (said : Result Request Fault) → said_in SERVED line.bytes ≡ said → AsksNothing said → (reply : ServedReply) → IsBeside reply
      → (after : SecuredState) → after.serving ≡ state.serving → Answers (reply, after)
  ruled_told said is nothing reply beside after same = record {
    line_is = beside_told state.serving.proposing line sound ((written_reply line.number (reply, after)).0, after.serving.proposing) (beside_text line.number reply beside)
        (ap (λ (s : ServingState). s.proposing.exchange) same) (ap (λ (s : ServingState). s.proposing.kept) same);
    asked_is = nothing_asked said is nothing (written_reply line.number (reply, after));
  }

  secure_told : (account : ℕ) → said_in SERVED line.bytes ≡ Ok (asks.Secure account) → Answers (secure_reply state account)
  secure_told account is =
      ruled_told (Ok (asks.Secure account)) is (record { quote = λ request e. cc; prices = λ request e. cc; trial = λ request e. cc }) (secure_reply state account).0
      (secure_beside account (secure_answer (exchange_in state) account)) (secure_reply state account).1 refl

  need_told : (account : ℕ) → said_in SERVED line.bytes ≡ Ok (asks.Need account) → Answers (need_reply state account, state)
  need_told account is =
      ruled_told (Ok (asks.Need account)) is (record { quote = λ request e. cc; prices = λ request e. cc; trial = λ request e. cc }) (need_reply state account)
      (need_beside account (need_answer state.secured (exchange_in state) account)) state refl

  -- ---- a command
  module _ (command : Command) (says : said_in SERVED line.bytes ≡ Ok (asks.Command command)) where
    nothing : AsksNothing (Ok (asks.Command command))
    nothing = record { quote = λ request e. cc; prices = λ request e. cc; trial = λ request e. cc }

    kept_told : (need : Need) → Answers (uncovered_reply need, state)
    kept_told need = ruled_told (Ok (asks.Command command)) says nothing (uncovered_reply need) tt state refl

  withdrawn_told : (account amount : ℕ) → said_in SERVED line.bytes ≡ Ok (asks.Command (Withdraw account amount)) → Answers (withdrawn state account amount)
  withdrawn_told account amount says =
      let now = written_reply line.number (withdrawn state account amount) in
      let is : body.Command (Withdraw account amount) ≡ body_of_line line.bytes = sym (command_to_run SERVED line.bytes (Withdraw account amount) says) in
      record {
        line_is = unended_told state.serving.proposing line sound (now.0, now.1.serving.proposing)
            (ap (λ (said : Body). reply_line line.number (reply_to (exchange_in state) said).0 ++ 10 ∷ []) is) (ap (λ (said : Body). (reply_to (exchange_in state) said).1) is) refl
            (ap (λ (said : Body). ended_by (reply_to (exchange_in state) said).0) (sym is) ∙ ends_are_told (exchange_in state) (Withdraw account amount));
        asked_is = nothing_asked (Ok (asks.Command (Withdraw account amount))) says (nothing (Withdraw account amount) says) now;
      }

  command_told : (command : Command) → said_in SERVED line.bytes ≡ Ok (asks.Command command) → Answers (command_reply state line.bytes command)
  command_told command says =
      by_answer Answers state line.bytes command (λ need kept. kept_told command says need)
      (λ free account amount is own. withdrawn_told account amount (says ∙ ap (λ (c : Command). Ok (asks.Command c)) is)) (λ free. handed_told (Ok (asks.Command command)) says)

  -- ---- by what it says
  said_told : (said : Result Request Fault) → said_in SERVED line.bytes ≡ said → Answers (secured_reply state line.bytes said)
  said_told =
      by_kind (λ said. said_in SERVED line.bytes ≡ said → Answers (secured_reply state line.bytes said)) secure_told need_told command_told
      (λ said other is. subst Answers (sym (other.handed state line.bytes)) (handed_told said is))

  -- the state after it is sound
  pub secured_sound : IsSound (secured_line line.number state line.bytes).1.serving.proposing
  secured_sound = (said_told (said_in SERVED line.bytes) refl).line_is.sound

pub secured_told : (line : InputLine) (state : SecuredState) → IsSound state.serving.proposing → TellsLine proposing_of secured_line line state
secured_told line state sound = let now = said_told line state sound (said_in SERVED line.bytes) refl in record { line_is = now.line_is; asked_is = now.asked_is }

-- the state after lines is
pub lines_sound : (state : SecuredState) (lines : List InputLine) → IsSound state.serving.proposing → IsSound (state_by_lines state lines).serving.proposing
lines_sound state [] sound = sound
lines_sound state (line ∷ lines) sound = lines_sound (secured_line line.number state line.bytes).1 lines (secured_sound line state sound)

-- all lines
pub lines_are_told : (input : List ℕ) → TellsBy proposing_of secured_line empty_secured input (secured_output input)
lines_are_told = outputs_tell_by proposing_of secured_line secured_told empty_secured refl
