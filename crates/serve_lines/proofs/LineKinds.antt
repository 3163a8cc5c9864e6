-- The kinds of what a line says: that a market is to be closed or opened again, a command, and all
-- else, which is answered as where there are no phases.
use Rattle.std.proofs.Common.{◌≡◌, ℕ, List, None, Result, Ok, Err, refl}
use Rattle.command_text.specs.declared.asked.Fault.{Fault}
use Rattle.command_text.specs.declared.command.Command.{Command}
use Rattle.command_text.specs.declared.requests.Request.{Request}
use Rattle.command_text.specs.declared.requests.Request.TheVariants as asks
use Rattle.serve_lines.specs.Output.{handed_on, serving_reply}
use Rattle.serve_lines.specs.ServingState.{ServingState}

pub record IsOther (said : Result Request Fault) : Type 0 where
  pub handed : (state : ServingState) (line : List ℕ) → serving_reply state line said ≡ handed_on state line said None
  pub none : (command : Command) → said ≡ Ok (asks.Command command) → ⊥

module _ (P : Result Request Fault → Type 0)
    (close : (market : ℕ) → P (Ok (asks.Close market)))
    (reopen : (market : ℕ) → P (Ok (asks.Reopen market)))
    (command : (c : Command) → P (Ok (asks.Command c)))
    (other : (said : Result Request Fault) → IsOther said → P said) where
  pub by_kind : (said : Result Request Fault) → P said
  by_kind (Ok (asks.Close market)) = close market
  by_kind (Ok (asks.Reopen market)) = reopen market
  by_kind (Ok (asks.Command c)) = command c
  by_kind (Ok (asks.Quote request)) = other (Ok (asks.Quote request)) (record { handed = λ state line. refl; none = λ c e. cc })
  by_kind (Ok (asks.Price request)) = other (Ok (asks.Price request)) (record { handed = λ state line. refl; none = λ c e. cc })
  by_kind (Ok (asks.Try request)) = other (Ok (asks.Try request)) (record { handed = λ state line. refl; none = λ c e. cc })
  by_kind (Ok (asks.Margin request)) = other (Ok (asks.Margin request)) (record { handed = λ state line. refl; none = λ c e. cc })
  by_kind (Ok (asks.Book market)) = other (Ok (asks.Book market)) (record { handed = λ state line. refl; none = λ c e. cc })
  by_kind (Ok (asks.Positions account market)) = other (Ok (asks.Positions account market)) (record { handed = λ state line. refl; none = λ c e. cc })
  by_kind (Ok (asks.Secure account)) = other (Ok (asks.Secure account)) (record { handed = λ state line. refl; none = λ c e. cc })
  by_kind (Ok (asks.Need account)) = other (Ok (asks.Need account)) (record { handed = λ state line. refl; none = λ c e. cc })
  by_kind (Ok (asks.Propose request)) = other (Ok (asks.Propose request)) (record { handed = λ state line. refl; none = λ c e. cc })
  by_kind (Err fault) = other (Err fault) (record { handed = λ state line. refl; none = λ c e. cc })
