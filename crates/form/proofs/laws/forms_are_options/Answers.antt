use Rattle.form.proofs.Vectors.{forms_are_options}
use Rattle.form.proofs.laws.forms_are_options.Goals as goal

pub returns : goal.returns
returns c = forms_are_options
