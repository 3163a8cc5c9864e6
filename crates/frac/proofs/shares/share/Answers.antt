use Rattle.std.proofs.Common.{◌≡◌, ◌+◌, ◌*◌}
use Rattle.frac.proofs.ShareSteps.{divided_is}
use Rattle.frac.proofs.shares.share.Goals as goal

pub share_by_bits-requires-clause-share_fits : goal.share_by_bits-requires-clause-share_fits
share_by_bits-requires-clause-share_fits c =
    let e : c.divide-in-None.result.quotient * c.args.d + c.divide-in-None.result.rest ≡ c.args.n = divided_is _ _ _ _ c.divide-in-None.ensures.quotient c.divide-in-None.ensures.rest in
    rw e c.requires.share_fits
