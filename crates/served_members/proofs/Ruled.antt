-- What holds at each body that sessions say.
use Rattle.std.proofs.Common.{ℕ, ◌+◌, List, [], ◌∷◌, length, arith}
use Rattle.std.proofs.lemmas.List.Elements.{All-nil}
use Rattle.proposal_lines.proofs.Telling.{empty_is_sound}
use Rattle.member_lines.specs.Laws.{SaidBody}
use Rattle.served_members.specs.Laws.{OwnedAreOpen, after_all, after_body, members_after}
use Rattle.served_members.specs.Members.{IsSoundServed, ServedMembers, empty_members}
use Rattle.served_members.specs.Ruled.{AreWithinQuotas, IsRuled, MembersAreRuled}
use Rattle.served_members.proofs.Questions.{questions_are_told}
use Rattle.served_members.proofs.Runs.{members_move_by_rule}
use Rattle.served_members.proofs.Owners.{all_open, owned_by_opening}
use Rattle.served_members.proofs.Secured.{members_are_secured}
use Rattle.served_members.proofs.Serving.{members_are_served}
use Rattle.served_members.proofs.StandingStill.{body_sound, closed_markets_stand_still}

is_ruled : (number : ℕ) (state : ServedMembers) (said : SaidBody) → OwnedAreOpen state → IsRuled number state said
is_ruled number state said all = record {
  refused = members_are_served.refused number state said;
  others = λ request account other member tells is. members_are_served.others number state said request account other member tells is;
  opened = owned_by_opening.opened number state said;
  owned = λ account. owned_by_opening.owned number state said account all;
}

-- ---- after the first of the bodies
all_sound : (number : ℕ) (state : ServedMembers) (bodies : List SaidBody) → IsSoundServed state.served → IsSoundServed (after_all number state bodies).served
all_sound number state [] sound = sound
all_sound number state (said ∷ more) sound = all_sound (number + 1) (after_body number state said) more (body_sound number state said sound)

-- at the start no account has an owner, and no session has anything
none_owned : OwnedAreOpen empty_members
none_owned account owner own = cc

none_used : AreWithinQuotas empty_members
none_used session member = ((omega (arith), omega (arith)), All-nil _)

pub members_are_ruled : MembersAreRuled
members_are_ruled bodies front later parted =
    let state = members_after front in
    let sound = all_sound 1 empty_members front empty_is_sound in
    record {
      quotas = λ session member.
          let none = none_used session member in (
            members_move_by_rule.quotas 1 empty_members front empty_is_sound session member none.0,
            members_move_by_rule.live 1 empty_members front empty_is_sound session member none.1,
          );
      asks = λ number body. questions_are_told number state.served body sound;
      owners = members_move_by_rule.owners (1 + length front) state later sound;
      secured = members_are_secured.all (1 + length front) state later;
      closed = λ market meanwhile rest is shut between. closed_markets_stand_still market (1 + length front) state meanwhile sound shut between;
      next = λ said rest is. is_ruled (1 + length front) state said (all_open 1 empty_members front empty_is_sound none_owned);
    }
