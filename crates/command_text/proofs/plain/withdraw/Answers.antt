use Rattle.std.proofs.Common.{ℕ, ◌∷◌, ◌==◌, [], length, map}
use Rattle.std.proofs.lemmas.Result.{err_from_is_err_and}
use Rattle.command_text.specs.declared.command.Command.TheVariants.{Withdraw}
use Rattle.command_text.specs.declared.ranges.TheConstants.{ACCOUNT, AMOUNT}
use Rattle.command_text.specs.Asked.{fault_in, natural_in}
use Rattle.command_text.proofs.PlainSays.{command_made}
use Rattle.command_text.proofs.plain.withdraw.Goals as goal

pub returns-in_err-account : goal.returns-in_err-account
returns-in_err-account c =
    let texts = map (λ f. f.now) c.args.fields.now in
    let p = err_from_is_err_and c.from_residual.result c.from_residual.ensures.1 in
    rw (p.1, p.2) (command_made (λ (n : ℕ × ℕ). Withdraw n.0 n.1) (length texts == 3) (fault_in 0 (ACCOUNT ∷ AMOUNT ∷ []) texts) (natural_in texts ACCOUNT, natural_in texts AMOUNT) _ c.in_err-account.ensures.values)

pub returns : goal.returns
returns c =
    let texts = map (λ f. f.now) c.args.fields.now in
    command_made (λ (n : ℕ × ℕ). Withdraw n.0 n.1) (length texts == 3) (fault_in 0 (ACCOUNT ∷ AMOUNT ∷ []) texts) (natural_in texts ACCOUNT, natural_in texts AMOUNT) _ c.in_ok-account.ensures.values
