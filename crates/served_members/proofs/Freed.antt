-- Bodies that sessions say where there is no rule, as the lines of one input.
use Rattle.std.proofs.Common.{◌≡◌, ℕ, ◌+◌, true, List, [], ◌∷◌, ◌++◌, Option, None, Some, sym, ap, ◌∙◌, subst}
use Rattle.std.proofs.lemmas.List.Elements.{All-nil, All-cons, All-head, All-tail}
use Rattle.live_lines.specs.Output.{lines_output, output_of}
use Rattle.live_lines.proofs.Places.{no_answer, output_is}
use Rattle.members.specs.declared.refusal.MemberRefusal.{MemberRefusal}
use Rattle.exchange_lines.specs.LineSteps.{input_lines}
use Rattle.proposal_lines.specs.Promises.{TellsBy}
use Rattle.proposal_lines.proofs.Telling.{empty_is_sound}
use Rattle.secured_lines.specs.Output.{secured_said}
use Rattle.secured_lines.specs.SecuredState.{SecuredState, empty_secured, exchange_in, with_opened}
use Rattle.session_lines.specs.Laws.{as_input}
use Rattle.session_lines.proofs.OneInput.{IsBody, body_answered, split_input}
use Rattle.member_lines.specs.Laws.{SaidBody, body_for, rule_refusal}
use Rattle.served_members.specs.Laws.{after_body}
use Rattle.served_members.specs.Members.{ServedMembers, empty_members, free_body}
use Rattle.served_members.specs.Promises.{AllowedBodiesTell, AreBodies, FreeBodiesTell, Saying, bodies_in, free_texts, sessions_in, turn_line, with_filler}
use Rattle.served_members.proofs.Serving.{free_lines_tell, free_lines_use_the_best}

-- each session has its turn
by_turns : (number : ℕ) (served : SecuredState) (bodies : List SaidBody) → AreBodies bodies
    → free_texts number served bodies ≡ (lines_output turn_line true number (sessions_in bodies, served) (bodies_in bodies ++ [] ∷ [])).0
by_turns number served [] are = sym (ap (λ (r : List ℕ × Saying). r.0 ++ []) (no_answer turn_line true number ([], served)))
by_turns number served (said ∷ more) are =
    let now = free_body said.session number served said.body in
    ap (λ (t : List ℕ). now.0 ++ t) (by_turns (number + 1) now.1 more (All-tail IsBody said.body (bodies_in more) are))
    ∙ sym (ap (λ (r : List ℕ × Saying). r.0 ++ (lines_output turn_line true (number + 1) r.1 (bodies_in more ++ [] ∷ [])).0)
    (body_answered turn_line true number (said.session ∷ sessions_in more, served) said.body (All-head IsBody said.body (bodies_in more) are)))

pub free_bodies_tell : FreeBodiesTell
free_bodies_tell bodies are =
    let first : Saying = (sessions_in bodies, empty_secured) in
    let input = as_input (bodies_in bodies) in
    let text : output_of turn_line true first input ≡ free_texts 1 empty_secured bodies =
    output_is turn_line true first input ∙ ap (λ (l : List (List ℕ)). (lines_output turn_line true 1 first l).0) (split_input (bodies_in bodies) are)
    ∙ sym (by_turns 1 empty_secured bodies are) in
    let told = subst (TellsBy (λ (state : Saying). state.1.serving.proposing) turn_line first input) text (free_lines_tell (sessions_in bodies) input) in
    record { told = told; closed = free_lines_use_the_best first (input_lines input) told.answers empty_is_sound told.to_lines }

-- ---- with a body in place of some
filled : (filler body : List ℕ) (refusal : Option MemberRefusal) → IsBody filler → IsBody body → IsBody (body_for exchange_in secured_said with_opened filler refusal body)
filled filler body None fills is = is
filled filler body (Some refusal) fills is = fills

all_filled : (filler : List ℕ) (number : ℕ) (state : ServedMembers) (bodies : List SaidBody) → IsBody filler → AreBodies bodies → AreBodies (with_filler filler number state bodies)
all_filled filler number state [] fills are = All-nil IsBody
all_filled filler number state (said ∷ more) fills are =
    let next = after_body number state said in
    let refusal = rule_refusal exchange_in secured_said with_opened state said in
    All-cons IsBody (body_for exchange_in secured_said with_opened filler refusal said.body) (bodies_in (with_filler filler (number + 1) next more))
    (filled filler said.body refusal fills (All-head IsBody said.body (bodies_in more) are))
    (all_filled filler (number + 1) next more fills (All-tail IsBody said.body (bodies_in more) are))

pub allowed_bodies_tell : AllowedBodiesTell
allowed_bodies_tell bodies are filler fault is fills = free_bodies_tell (with_filler filler 1 empty_members bodies) (all_filled filler 1 empty_members bodies fills are)
