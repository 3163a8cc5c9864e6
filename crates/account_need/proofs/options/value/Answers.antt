use Rattle.std.proofs.Common.{◌≤◌, ℤ, unsigned_abs, sym, subst}
use Rattle.account_need.proofs.LineBits.{sum_small, value_bits}
use Rattle.account_need.proofs.options.value.Goals as goal

pub returns-clause-value : goal.returns-clause-value
returns-clause-value c =
    value_bits c.args.strike c.args.weight c.args.at.now.t c.args.at.now.s c.requires.strike c.requires.weight c.args.at.now.few c.args.at.now.low

pub returns-clause-small : goal.returns-clause-small
returns-clause-small c =
    let a = c.args.strike in
    let b = c.args.weight in
    let t = c.args.at.now.t in
    let s = c.args.at.now.s in
    subst (λ (x : ℤ). unsigned_abs x ≤ 2000000000000) (sym (value_bits a b t s c.requires.strike c.requires.weight c.args.at.now.few c.args.at.now.low))
    (sum_small a b t s c.requires.strike c.requires.weight c.args.at.now.few c.args.at.now.low)
