-- A closed market stands still, whatever sessions say.
use Rattle.std.proofs.Common.{◌≡◌, ℕ, ◌+◌, true, List, [], ◌∷◌, refl, ◌∙◌}
use Rattle.auction_phases.specs.Laws.{StandsStill}
use Rattle.auction_phases.specs.Phases.{is_closed}
use Rattle.exchange_lines.specs.LineSteps.{InputLine}
use Rattle.secured_lines.specs.SecuredState.{SecuredState}
use Rattle.secured_lines.proofs.StandingStill as lines
use Rattle.secured_lines.proofs.Telling.{secured_sound}
use Rattle.secured_lines.specs.ServeLaws.{phased_of}
use Rattle.member_lines.specs.Laws.{SaidBody}
use Rattle.served_members.specs.Laws.{AreMeanwhile, ClosedMarketsStandStill, after_body}
use Rattle.served_members.specs.Members.{IsSoundServed, ServedMembers}
use Rattle.served_members.proofs.Bodies.{by_body, by_opened, line_state, opened_in}

-- the state behind a body is sound
pub body_sound : (number : ℕ) (state : ServedMembers) (said : SaidBody) → IsSoundServed state.served → IsSoundServed (after_body number state said).served
body_sound number state said sound =
    let now = secured_sound (record { number = number; bytes = said.body }) state.served sound in
    by_body number state said (λ next. IsSoundServed next.served) sound
    (λ through. by_opened IsSoundServed said.session (line_state number state said) now (opened_in number state said) (λ account is member. now))

module _ (market number : ℕ) (state : ServedMembers) (said : SaidBody) (sound : IsSoundServed state.served) (shut : is_closed state.served.serving.closed market ≡ true) where
  abbrev line : InputLine
  line = record { number = number; bytes = said.body }

  abbrev Stands : SecuredState → Type 0
  Stands served = StandsStill market (phased_of state.served.serving) (phased_of served.serving)

  body_stands : (more : List SaidBody) → AreMeanwhile market number state (said ∷ more) → Stands (after_body number state said).served
  body_stands more meanwhile =
      by_body number state said (λ next. Stands next.served) (record { closed = shut; live = refl })
      (λ through.
      let now = lines.closed_markets_stand_still market state.served (line ∷ []) sound shut (meanwhile.0 through, tt) in
      by_opened Stands said.session (line_state number state said) now (opened_in number state said) (λ account is member. now))

pub closed_markets_stand_still : ClosedMarketsStandStill
closed_markets_stand_still market number state [] sound shut meanwhile = record { closed = shut; live = refl }
closed_markets_stand_still market number state (said ∷ more) sound shut meanwhile =
    let next = after_body number state said in
    let first = body_stands market number state said sound shut more meanwhile in
    let others = closed_markets_stand_still market (number + 1) next more (body_sound number state said sound) first.closed meanwhile.1 in
    record { closed = others.closed; live = others.live ∙ first.live }
