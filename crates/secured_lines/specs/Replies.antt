-- What a line is told that secures an account, or asks what one needs, and the secured accounts
-- after it.
use Rattle.std.specs.Prelude.{ℕ, List, Result, Ok, Err}
use Rattle.exchange_core.specs.ExchangeState.{ExchangeState}
use Rattle.account_need.specs.Account.{Need}
use Rattle.account_need.specs.declared.need.NoNeed.TheVariants as word
use Rattle.proposal_text.specs.declared.needs.Need.{Need as Told}
use Rattle.proposal_text.specs.declared.needs.Need.TheVariants as need
use Rattle.proposal_text.specs.declared.replies.ProposalReply.TheVariants as reply
use Rattle.proposal_text.specs.declared.replies.ServedReply.{ServedReply}
use Rattle.proposal_text.specs.declared.replies.ServedReply.TheVariants as served
use Rattle.proposal_lines.specs.Reads as reads
use Rattle.secured_accounts.specs.Refusals.{after_securing, need_answer, secure_answer}
use Rattle.secured_accounts.specs.declared.accounts.ToldNeed.{ToldNeed}
use Rattle.secured_accounts.specs.declared.refusal.SecuringRefusal.{SecuringRefusal}
use Rattle.secured_accounts.specs.declared.refusal.SecuringRefusal.TheVariants.{Exchange, Uncovered}

-- a need by its name in a reply
abbrev pub told_need : Need → Told
told_need (Ok amount) = need.Amount amount
told_need (Err word.Positions) = need.Positions
told_need (Err word.Unbounded) = need.Unbounded
told_need (Err word.Wide) = need.Wide
told_need (Err word.Budget) = need.Budget
told_need (Err word.Sum) = need.Sum

-- ---- refusals
abbrev pub uncovered_reply : Need → ServedReply
uncovered_reply need = served.Told (reply.Uncovered (told_need need))

abbrev pub refused_by : SecuringRefusal → ServedReply
refused_by (Exchange first) = reads.refused_by first
refused_by (Uncovered need) = uncovered_reply need

-- ---- answers
-- an account whose need is a word is not secured
abbrev pub secure_answered : ℕ → Result Need SecuringRefusal → ServedReply
secure_answered account (Ok (Ok amount)) = served.Told (reply.Secured account amount)
secure_answered account (Ok (Err word)) = uncovered_reply (Err word)
secure_answered account (Err refusal) = refused_by refusal

abbrev pub secured_by : ExchangeState → List ℕ → ℕ → ServedReply × List ℕ
secured_by exchange secured account = (secure_answered account (secure_answer exchange account), after_securing secured exchange account)

abbrev pub need_answered : ℕ → Result ToldNeed SecuringRefusal → ServedReply
need_answered account (Ok told) =
    served.Told (reply.Needs (record { account = account; balance = told.balance; need = told_need told.need; secured = told.secured }))
need_answered account (Err refusal) = refused_by refusal

abbrev pub needed_by : ExchangeState → List ℕ → ℕ → ServedReply
needed_by exchange secured account = need_answered account (need_answer secured exchange account)
