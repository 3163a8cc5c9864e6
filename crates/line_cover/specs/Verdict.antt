-- What the code answers of a line.
use Rattle.std.specs.Prelude.{true, false, Bool, Result, Ok, Err}
use Rattle.exact_num.specs.declared.misfit.Wide.{Wide as Misfit}
use Rattle.line_cover.specs.declared.verdict.LineVerdict.{LineVerdict}
use Rattle.line_cover.specs.declared.verdict.LineVerdict.TheVariants.{Holds, Fails, Wide}

abbrev pub line_verdict : Result Bool Misfit → LineVerdict
line_verdict (Ok true) = Holds
line_verdict (Ok false) = Fails
line_verdict (Err w) = Wide w
