-- What is told of a line that is asked, by the need of an account or by the exchange alone.
use Rattle.std.proofs.Common.{◌≡◌, ℕ, List, Result, Ok, Err, refl}
use Rattle.std.specs.Option.{option_map_or}
use Rattle.command_text.specs.declared.asked.Fault.{Fault}
use Rattle.command_text.specs.declared.command.Command.{Command as OneCommand}
use Rattle.command_text.specs.declared.command.Command.TheVariants.{Open, Deposit, Withdraw, Market, Trade, Bundle, Cancel, Clear, Settle, Balance}
use Rattle.command_text.specs.declared.requests.Request.{Request}
use Rattle.command_text.specs.declared.requests.Request.TheVariants.{Command, Quote, Price, Try, Margin, Book, Positions, Secure, Need, Close, Reopen, Propose}
use Rattle.proposal_text.specs.declared.replies.ServedReply.{ServedReply}
use Rattle.secured_lines.specs.Asked.{account_of, asked_reply, told_or_barred}
use Rattle.secured_lines.specs.Output.{need_reply}
use Rattle.secured_lines.specs.SecuredState.{SecuredState, exchange_in}

abbrev by_account : SecuredState → Result Request Fault → ServedReply
by_account state said = option_map_or (need_reply state) (account_of said) (told_or_barred (exchange_in state) said)

command_by : (state : SecuredState) (line : List ℕ) (command : OneCommand) → asked_reply state line (Ok (Command command)) ≡ by_account state (Ok (Command command))
command_by state line (Open a) = refl
command_by state line (Deposit a b) = refl
command_by state line (Withdraw a b) = refl
command_by state line (Market a b) = refl
command_by state line (Trade a b d e f g h i j) = refl
command_by state line (Bundle a b d e f g) = refl
command_by state line (Cancel a b) = refl
command_by state line (Clear a b) = refl
command_by state line (Settle a b d) = refl
command_by state line (Balance a) = refl

pub asked_by : (state : SecuredState) (line : List ℕ) (said : Result Request Fault) → asked_reply state line said ≡ option_map_or (need_reply state) (account_of said) (told_or_barred (exchange_in state) said)
asked_by state line (Ok (Command command)) = command_by state line command
asked_by state line (Ok (Quote request)) = refl
asked_by state line (Ok (Price request)) = refl
asked_by state line (Ok (Try request)) = refl
asked_by state line (Ok (Margin request)) = refl
asked_by state line (Ok (Book market)) = refl
asked_by state line (Ok (Positions account market)) = refl
asked_by state line (Ok (Secure account)) = refl
asked_by state line (Ok (Need account)) = refl
asked_by state line (Ok (Close market)) = refl
asked_by state line (Ok (Reopen market)) = refl
asked_by state line (Ok (Propose request)) = refl
asked_by state line (Err fault) = refl
