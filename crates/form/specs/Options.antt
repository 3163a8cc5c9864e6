-- Options of the code.
use Rattle.std.specs.Prelude.{List, take, ℤ}
use Rattle.form.specs.declared.forms.Form.{Form}

-- the option of a form: the strike's entry and the weights
abbrev pub option_of : Form → List ℤ
option_of form = take form.count form.entries
