-- What is told changes nothing, and what is not told is answered as a run answers it, beside
-- margins.
use Rattle.std.proofs.Common.{◌≡◌, false, Result, Ok, Err, refl, true≢false}
use Rattle.command_text.specs.declared.asked.Fault.{Fault}
use Rattle.command_text.specs.declared.command.Command.{Command}
use Rattle.command_text.specs.declared.requests.Request.{Request}
use Rattle.command_text.specs.declared.requests.Request.TheVariants as asks
use Rattle.exchange_core.specs.ExchangeState.{ExchangeState}
use Rattle.guarded_lines.specs.Replies.{guarded_reply_to}
use Rattle.proposal_lines.specs.AllKinds.{said_reply}
use Rattle.proposal_lines.specs.Asked.{is_told}

-- ---- what is not told
pub untold_said : (state : ExchangeState) (said : Result Request Fault) → is_told said ≡ false → said_reply state said ≡ guarded_reply_to state said
untold_said state (Ok (asks.Command c)) untold = refl
untold_said state (Ok (asks.Quote request)) untold = absurd (true≢false untold)
untold_said state (Ok (asks.Price request)) untold = absurd (true≢false untold)
untold_said state (Ok (asks.Margin request)) untold = refl
untold_said state (Ok (asks.Book market)) untold = refl
untold_said state (Ok (asks.Positions account market)) untold = refl
untold_said state (Ok (asks.Try request)) untold = refl
untold_said state (Ok (asks.Secure account)) untold = refl
untold_said state (Ok (asks.Need account)) untold = refl
untold_said state (Ok (asks.Close market)) untold = refl
untold_said state (Ok (asks.Reopen market)) untold = refl
untold_said state (Ok (asks.Propose request)) untold = refl
untold_said state (Err fault) untold = refl
