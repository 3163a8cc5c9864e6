-- Where no account is secured, what is written is what an exchange writes that has no secured
-- accounts.
use Rattle.std.proofs.Common.{◌≡◌, ℕ, List, [], ◌∷◌, ◌++◌, Bool, true, false, All, map, Option, None, Some, Result, Ok, if◌then◌else◌, refl, sym, ap, ◌∙◌, subst}
use Rattle.std.specs.Option.{option_map_or}
use Rattle.std.proofs.lemmas.List.Elements.{All-head, All-tail}
use Rattle.auction_phases.specs.Phases.{bars}
use Rattle.command_text.specs.declared.asked.Fault.{Fault}
use Rattle.command_text.specs.declared.command.Command.{Command}
use Rattle.command_text.specs.declared.lines.RawLine.{RawLine}
use Rattle.command_text.specs.declared.requests.Request.{Request}
use Rattle.command_text.specs.declared.requests.Request.TheVariants as asks
use Rattle.command_text.specs.declared.words.TheConstants.{SERVED}
use Rattle.command_text.specs.Lines.{raw_lines_in}
use Rattle.command_text.specs.Said.{said_in}
use Rattle.exchange_lines.specs.LineSteps.{InputLine, input_line}
use Rattle.live_lines.specs.Output.{places_output}
use Rattle.proposal_text.specs.Pieces.{written_reply}
use Rattle.proposal_text.specs.declared.replies.ServedReply.{ServedReply}
use Rattle.secured_accounts.specs.Secured.{risked_by, uncovered, uncovered_by}
use Rattle.serve_lines.specs.Output.{serving_line, serving_reply}
use Rattle.serve_lines.specs.ServingState.{ServingState, empty_serving}
use Rattle.secured_lines.specs.Output.{kept_from, secured_line, secured_reply}
use Rattle.secured_lines.specs.Promises.{AnswersAreAlike, AreAlike, AsksNeed, NamesNoSecured, Secures, WithoutSecured}
use Rattle.secured_lines.specs.SecuredState.{SecuredState, exchange_in, secured_of}
use Rattle.secured_lines.proofs.LineKinds.{by_answer, by_kind}

-- no account is secured
abbrev all_free : ServingState → SecuredState
all_free state = secured_of state []

abbrev with_all_free : {T : Type 0} → T × ServingState → T × SecuredState
with_all_free now = (now.0, all_free now.1)

module _ (state : ServingState) (line : List ℕ) where
  abbrev alone : Result Request Fault → ServedReply × SecuredState
  alone said = with_all_free (serving_reply state line said)

  -- nothing is kept from the exchange
  none_risked : (command : Command) (risked : Option ℕ) → option_map_or (uncovered_by [] (exchange_in (all_free state)) command) risked None ≡ None
  none_risked command None = refl
  none_risked command (Some account) = refl

  none_kept : (command : Command) (barred : Bool) → (if barred then None else uncovered [] (exchange_in (all_free state)) command) ≡ None
  none_kept command true = refl
  none_kept command false = none_risked command (risked_by command)

  command_alone : (command : Command) → secured_reply (all_free state) line (Ok (asks.Command command)) ≡ alone (Ok (asks.Command command))
  command_alone command =
      let free : kept_from (all_free state) command ≡ None = none_kept command (bars state.closed (exchange_in (all_free state)) command) in
      by_answer (λ now. now ≡ alone (Ok (asks.Command command))) (all_free state) line command (λ need kept. cc) (λ free account amount is own. cc) (λ free. refl)

  -- what is said is answered as there, but for what is said of secured accounts
  said_alone : (said : Result Request Fault) → ((account : ℕ) → said ≡ Ok (asks.Secure account) → ⊥) → ((account : ℕ) → said ≡ Ok (asks.Need account) → ⊥)
      → secured_reply (all_free state) line said ≡ alone said
  said_alone =
      by_kind (λ said. ((account : ℕ) → said ≡ Ok (asks.Secure account) → ⊥) → ((account : ℕ) → said ≡ Ok (asks.Need account) → ⊥) → secured_reply (all_free state) line said ≡ alone said)
      (λ account secures needs. absurd (secures account refl)) (λ account secures needs. absurd (needs account refl)) (λ command secures needs. command_alone command)
      (λ said other secures needs. other.handed (all_free state) line)

line_alone : (state : ServingState) (line : InputLine) → NamesNoSecured line → secured_line line.number (all_free state) line.bytes ≡ with_all_free (serving_line line.number state line.bytes)
line_alone state line none =
    ap (written_reply line.number) (said_alone state line.bytes (said_in SERVED line.bytes) (λ account is. none.secures (account, is)) (λ account is. none.asks (account, is)))

places_alone : (input : List ℕ) (places : List RawLine) (state : ServingState) → All NamesNoSecured (map (input_line input) places)
    → places_output secured_line input (all_free state) places ≡ places_output serving_line input state places
places_alone input [] state none = refl
places_alone input (place ∷ places) state none =
    let line = input_line input place in
    let now = serving_line line.number state line.bytes in
    ap (λ (r : List ℕ × SecuredState). r.0 ++ places_output secured_line input r.1 places)
    (line_alone state line (All-head NamesNoSecured line (map (input_line input) places) none))
    ∙ ap (λ l. now.0 ++ l) (places_alone input places now.1 (All-tail NamesNoSecured line (map (input_line input) places) none))

pub without_secured : WithoutSecured
without_secured input none = places_alone input (raw_lines_in input) empty_serving none

-- ---- line by line
-- a line that asks what an account needs leaves both as they were
need_leaves : (state : ServingState) (line : List ℕ) (account : ℕ)
    → (secured_reply (all_free state) line (Ok (asks.Need account))).1.serving ≡ (serving_reply state line (Ok (asks.Need account))).1
need_leaves state line account = refl

-- the texts are the same unless the line asks, and the states always
record IsAlike (line : InputLine) (state : ServingState) (with : List ℕ × SecuredState) (without : List ℕ × ServingState) : Type 0 where
  text : (AsksNeed line → ⊥) → with.0 ≡ without.0
  after : with.1 ≡ all_free without.1

module _ (state : ServingState) (line : InputLine) (free : Secures line → ⊥) where
  said_alike : (said : Result Request Fault) → said_in SERVED line.bytes ≡ said
      → IsAlike line state (written_reply line.number (secured_reply (all_free state) line.bytes said)) (written_reply line.number (serving_reply state line.bytes said))
  said_alike =
      by_kind (λ said. said_in SERVED line.bytes ≡ said → IsAlike line state (written_reply line.number (secured_reply (all_free state) line.bytes said)) (written_reply line.number (serving_reply state line.bytes said)))
      (λ account is. absurd (free (account, is)))
      (λ account is. record {
        text = λ none. absurd (none (account, is));
        after = ap all_free (need_leaves state line.bytes account);
      })
      (λ command is. same (Ok (asks.Command command)) (command_alone state line.bytes command))
      (λ said other is. same said (other.handed (all_free state) line.bytes))
    where
      same : (said : Result Request Fault) → secured_reply (all_free state) line.bytes said ≡ with_all_free (serving_reply state line.bytes said)
          → IsAlike line state (written_reply line.number (secured_reply (all_free state) line.bytes said)) (written_reply line.number (serving_reply state line.bytes said))
      same said is = record { text = λ none. ap (λ (r : ServedReply × SecuredState). (written_reply line.number r).0) is; after = ap (λ (r : ServedReply × SecuredState). r.1) is }

pub answers_are_alike : AnswersAreAlike
answers_are_alike state [] free = tt
answers_are_alike state (line ∷ lines) free =
    let one = said_alike state line (All-head (λ line. Secures line → ⊥) line lines free) (said_in SERVED line.bytes) refl in
    let next = (serving_line line.number state line.bytes).1 in (
      one.text,
      ap (λ (s : SecuredState). s.serving) one.after,
      subst (λ (s : SecuredState). AreAlike next s lines) (sym one.after) (answers_are_alike next lines (All-tail (λ line. Secures line → ⊥) line lines free)),
    )
