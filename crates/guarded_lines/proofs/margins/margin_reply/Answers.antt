use Rattle.std.proofs.Common.{◌≡◌, true, not, Some, ap, subst, ◌∙◌}
use Rattle.cash_ledger.specs.Entries.{balance_of}
use Rattle.cash_ledger.specs.Ledger.{is_open}
use Rattle.guarded_lines.specs.Margins.{IsMarginIn, run_in}
use Rattle.guarded_lines.proofs.MarginReplies.{margin_replied, open_where_told}
use Rattle.guarded_lines.proofs.ToldMargins.{many_not, told_is}
use Rattle.guarded_lines.proofs.margins.margin_reply.Goals as goal

pub returns-in-Some-2 : goal.returns-in-Some-2
returns-in-Some-2 c =
    let state = c.args.exchange.now in
    let request = c.args.request.now in
    let counted = c.in-Some-2.counted in
    let is : IsMarginIn state request.account request.market request.budget (Some counted) =
    subst (IsMarginIn state request.account request.market request.budget) c.in-Some-2.is c.in_ok-counted.ensures in
    let opened : is_open state.accounts request.account ≡ true =
    open_where_told state.accounts request.account (balance_of request.account state.entries) c.balance.result c.balance.ensures.value
    ∙ c.is_none.ensures ∙ ap not c.if-is_none.false in
    margin_replied state request c.info.result c.told_margin.result c.info.ensures.info c.in_default.ensures opened
    (many_not _ is.0) (c.told_margin.ensures ∙ told_is (run_in state request.account request.market request.budget) counted.0 is.2)
