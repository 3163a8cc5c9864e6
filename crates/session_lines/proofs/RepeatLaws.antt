-- A message that is answered Repeat was answered First before.
use Rattle.std.proofs.Common.{◌≡◌, ℕ, Bool, true, false, cond, List, [], ◌∷◌, ◌++◌, nat_eq, Contains, Option, None, Some, if◌then◌else◌, refl, sym, ap, subst, ◌∙◌, append_assoc, arith}
use Rattle.std.proofs.lemmas.Bool.Decides.{nat_tests}
use Rattle.std.proofs.lemmas.List.Elements.{Contains-append_left, Contains-push}
use Rattle.std.specs.Option.{option_map}
use Rattle.session_gate.specs.declared.answer.Answer.{Answer}
use Rattle.session_gate.specs.declared.answer.Answer.TheVariants.{First, Repeat, Old, Ahead, Changed, Sessions}
use Rattle.session_gate.specs.Answers.{answer_to}
use Rattle.session_gate.specs.Gate.{Message, LastAccepted, KnownSessions, message_of, accepted_as, kept_of}
use Rattle.session_gate.specs.Runs.{Replies, Served, nothing_served, after_served, after, after_answer}
use Rattle.session_gate.proofs.AnswerLaws.{repeats_are_kept}
use Rattle.session_gate.proofs.KnownBefore.{kept_of-keep}
use Rattle.session_lines.specs.Answers.{Told, LineAnswer, reply_of, kept_reply, told_of, told_to, after_said, answer_in, answers_from}
use Rattle.session_lines.specs.Laws.{is_first, first_in, told_first, RepeatsTellTheSame}
use Rattle.session_lines.specs.Lines.{NumberedLine, lines_in}
use Rattle.session_lines.specs.Messages.{message_in}
use Rattle.session_lines.proofs.AcceptedLaws.{told_said}
use Rattle.session_lines.proofs.ReplyLaws.{told_as, kept_first}

-- what is kept of each session was told to a message answered First
abbrev AreTold : KnownSessions → List Told → Type 0
AreTold sessions done = (session : ℕ) (kept : LastAccepted) → kept_of sessions session ≡ Some kept → Contains done (told_of (message_of session kept.number kept.body) First kept.reply)

still_told : (sessions : KnownSessions) (done more : List Told) → AreTold sessions done → AreTold sessions (done ++ more)
still_told sessions done more are session kept is = Contains-append_left done more (told_of (message_of session kept.number kept.body) First kept.reply) (are session kept is)

-- one taken message more
taken_told : (reply : Replies) (served : Served) (message : Message) (done : List Told) → AreTold served.gate.sessions done
    → AreTold (after_served reply served message).gate.sessions (done ++ told_as reply served message First ∷ [])
taken_told reply served message done are session kept is = by (nat_eq session message.session) refl (sym (kept_of-keep message.session (accepted_as message (reply (served.bodies ++ message.body ∷ []))) served.gate.sessions session) ∙ is)
  where
    by : (b : Bool) → nat_eq session message.session ≡ b → cond b (Some (accepted_as message (reply (served.bodies ++ message.body ∷ [])))) (kept_of served.gate.sessions session) ≡ Some kept
        → Contains (done ++ told_as reply served message First ∷ []) (told_of (message_of session kept.number kept.body) First kept.reply)
    by true same e =
        let one : session ≡ message.session = grind (arith, nat_tests) in
        let was : accepted_as message (reply (served.bodies ++ message.body ∷ [])) ≡ kept = cc in
        let told : told_as reply served message First ≡ told_of (message_of session kept.number kept.body) First kept.reply =
        ap (told_of message First) (kept_first reply served message) ∙ (λ i. told_of (message_of (sym one i) (was i).number (was i).body) First (was i).reply) in
        subst (Contains (done ++ told_as reply served message First ∷ [])) told (Contains-push done (told_as reply served message First))
    by false other e = Contains-append_left done (told_as reply served message First ∷ []) (told_of (message_of session kept.number kept.body) First kept.reply) (are session kept e)

-- what one line more leaves
line_told : (reply : Replies) (served : Served) (said : Option Message) (done : List Told) → AreTold served.gate.sessions done
    → AreTold (after_said reply served said).gate.sessions (done ++ first_in (told_said reply served said))
line_told reply served None done are = still_told served.gate.sessions done [] are
line_told reply served (Some message) done are = by (answer_to served.gate message)
  where
    by : (given : Answer) → AreTold (after_answer given reply served message).gate.sessions (done ++ (if is_first given then told_as reply served message given ∷ [] else []))
    by First = taken_told reply served message done are
    by Repeat = still_told served.gate.sessions done [] are
    by (Old expected) = still_told served.gate.sessions done [] are
    by (Ahead expected) = still_told served.gate.sessions done [] are
    by (Changed expected) = still_told served.gate.sessions done [] are
    by Sessions = still_told served.gate.sessions done [] are

-- a Repeat tells what is kept
told_before : (reply : Replies) (served : Served) (message : Message) (done : List Told) → AreTold served.gate.sessions done → answer_to served.gate message ≡ Repeat
    → Contains done (told_of message First (kept_reply (after reply served message).gate message.session))
told_before reply served message done are repeat =
    let kept = repeats_are_kept served.gate message repeat in
    let shown : kept_reply (after reply served message).gate message.session ≡ kept.0.reply =
    ap (λ given. kept_reply (after_answer given reply served message).gate message.session) repeat ∙ ap reply_of kept.1 in
    let told : told_of (message_of message.session kept.0.number kept.0.body) First kept.0.reply ≡ told_of message First (kept_reply (after reply served message).gate message.session) =
    λ i. told_of (message_of message.session (kept.2 i) (kept.3 i)) First (sym shown i) in
    subst (Contains done) told (are message.session kept.0 kept.1)

-- the answer to a line in front is a Repeat
module _ (reply : Replies) (served : Served) (done : List Told) (are : AreTold served.gate.sessions done) where
  front_repeats : (said : Option Message) (told : Told) → told_said reply served said ≡ Some told → told.answer ≡ Repeat → Contains done (told_of told.message First told.reply)
  front_repeats None told e repeat = absurd (cc)
  front_repeats (Some message) told e repeat =
      let same : told_to reply served message ≡ told = cc in
      subst (λ (t : Told). Contains done (told_of t.message First t.reply)) same (told_before reply served message done are (ap (λ (t : Told). t.answer) same ∙ repeat))

told_is : (reply : Replies) (served : Served) (said : Option Message) → option_map (told_to reply served) said ≡ told_said reply served said
told_is reply served None = refl
told_is reply served (Some message) = refl

repeats_from : (reply : Replies) (served : Served) (lines : List NumberedLine) (done : List Told) → AreTold served.gate.sessions done
    → (before later : List LineAnswer) (answer : LineAnswer) (told : Told) → answers_from reply served lines ≡ before ++ answer ∷ later → answer.told ≡ Some told → told.answer ≡ Repeat
    → Contains (done ++ told_first before) (told_of told.message First told.reply)
repeats_from reply served [] done are [] later answer told e is repeat = absurd (cc)
repeats_from reply served [] done are (first ∷ before) later answer told e is repeat = absurd (cc)
repeats_from reply served (line ∷ lines) done are [] later answer told e is repeat =
    let same : answer_in reply served line ≡ answer = cc in
    let shown = sym (told_is reply served (message_in line.text)) ∙ ap (λ (a : LineAnswer). a.told) same ∙ is in
    Contains-append_left done [] (told_of told.message First told.reply) (front_repeats reply served done are (message_in line.text) told shown repeat)
repeats_from reply served (line ∷ lines) done are (first ∷ before) later answer told e is repeat =
    let same : answer_in reply served line ≡ first = cc in
    let rest : answers_from reply (after_said reply served (message_in line.text)) lines ≡ before ++ answer ∷ later = cc in
    let shown : told_said reply served (message_in line.text) ≡ first.told = sym (told_is reply served (message_in line.text)) ∙ ap (λ (a : LineAnswer). a.told) same in
    let now = line_told reply served (message_in line.text) done are in
    let all = repeats_from reply (after_said reply served (message_in line.text)) lines (done ++ first_in (told_said reply served (message_in line.text))) now before later answer told rest is repeat in
    subst (λ l. Contains l (told_of told.message First told.reply))
    (append_assoc done (first_in (told_said reply served (message_in line.text))) (told_first before) ∙ ap (λ t. done ++ (first_in t ++ told_first before)) shown) all

none_told : AreTold nothing_served.gate.sessions []
none_told session kept e = absurd (cc)

pub repeats_tell_the_same : (reply : Replies) → RepeatsTellTheSame reply
repeats_tell_the_same reply input before later answer told e is repeat = repeats_from reply nothing_served (lines_in input) [] none_told before later answer told e is repeat
