-- How far a run has come with its replies.
use Rattle.std.proofs.Common.{◌≡◌, ℕ, ◌+◌, ◌<◌, List, [], ◌∷◌, ◌++◌, length, get_or, drop, subst, append-nil, append_assoc, length-append, ap, sym, ◌∙◌, arith}
use Rattle.std.proofs.lemmas.List.{drop_more}
use Rattle.command_text.specs.declared.command.Line.{Line}
use Rattle.reply_print.specs.declared.replies.Reply.{Reply}
use Rattle.exchange_core.specs.ExchangeState.{ExchangeState}
use Rattle.exchange_core.specs.LineReplies.{reply_to, replies_from}
use Rattle.demo_run.specs.declared.tally.Tally.{Tally}
use Rattle.demo_run.specs.Tally.{tally_of, with_reply}
use Rattle.demo_run.proofs.Counting.{replies_are_counted}

-- replies in front of those of a run
abbrev pub behind : List Reply → List Reply × ExchangeState → List Reply × ExchangeState
behind replies run = (replies ++ run.0, run.1)

-- the replies so far have this tally, and the run of what is left gives the others
pub record HasReplied (start now : ExchangeState) (all left : List Line) (tally : Tally) : Type 0 where
  pub replies : List Reply
  pub counted : tally ≡ tally_of replies
  pub few : length replies + length left ≡ length all
  pub joined : replies_from start all ≡ behind replies (replies_from now left)

pub goes_on : (start now next : ExchangeState) (all left : List Line) (line : Line) (tally : Tally) (reply : Reply) → HasReplied start now all (line ∷ left) tally → (reply, next) ≡ reply_to now line.body
    → HasReplied start next all left (with_reply reply tally)
goes_on start now next all left line tally reply h is = record {
  replies = h.replies ++ reply ∷ [];
  counted = ap (with_reply reply) h.counted ∙ sym (replies_are_counted h.replies reply);
  few = let f = h.few in omega (arith, length-append h.replies (reply ∷ []));
  joined = h.joined
      ∙ ap (λ (r : Reply × ExchangeState). (h.replies ++ r.0 ∷ (replies_from r.1 left).0, (replies_from r.1 left).1)) (sym is)
      ∙ ap (λ (l : List Reply). (l, (replies_from next left).1)) (sym (append_assoc h.replies (reply ∷ []) (replies_from next left).0));
}

pub ends : (start now : ExchangeState) (all : List Line) (tally : Tally) → HasReplied start now all [] tally → (tally ≡ tally_of (replies_from start all).0) × (now ≡ (replies_from start all).1)
ends start now all tally h =
    let whole = h.joined ∙ ap (λ (l : List Reply). (l, now)) (append-nil h.replies) in (
      h.counted ∙ ap (λ (r : List Reply × ExchangeState). tally_of r.0) (sym whole),
      ap (λ (r : List Reply × ExchangeState). r.1) (sym whole),
    )

-- one line more of a list of lines
pub line_replied : (i : ℕ) (start now next : ExchangeState) (lines : List Line) (line : Line) (tally new : Tally) (reply : Reply) → i < length lines → get_or lines i line ≡ line
    → HasReplied start now lines (drop i lines) tally → (reply, next) ≡ reply_to now line.body → new ≡ with_reply reply tally → HasReplied start next lines (drop (i + 1) lines) new
line_replied i start now next lines line tally new reply lt at h is e =
    let left = drop (i + 1) lines in
    let cut = drop_more lines i line lt ∙ ap (λ (l : Line). l ∷ left) at in
    subst (HasReplied start next lines left) (sym e) (goes_on start now next lines left line tally reply (subst (λ (l : List Line). HasReplied start now lines l tally) cut h) is)
