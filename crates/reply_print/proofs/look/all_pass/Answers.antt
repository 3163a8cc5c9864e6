use Rattle.std.proofs.lemmas.Iterator.{YieldsList-from_slice}
use Rattle.std.proofs.lemmas.Iterator.Search.{all_from_yields_List}
use Rattle.serde_json.specs.View.{view}
use Rattle.reply_print.proofs.look.all_pass.Goals as goal

pub returns : goal.returns
returns g c = λ test decides.
    all_from_yields_List (λ v. test (view v)) c.all.new.self _ c.all.result c.all.ensures.ran (YieldsList-from_slice c.args.items.now c.iter.ensures.rest)
    (λ value answer left called. (called.met.1, decides value answer called.met.0))
