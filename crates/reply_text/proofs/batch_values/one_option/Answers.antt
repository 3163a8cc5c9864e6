use Rattle.form.proofs.MadeBundles.{bundle_is_one}
use Rattle.reply_text.proofs.batch_values.one_option.Goals as goal

pub returns : goal.returns
returns c = bundle_is_one c.one.result c.args.form c.one.ensures
