use Rattle.std.proofs.Common.{rules, FitsSigned, get_or, pos, refl}
use Rattle.std.proofs.lemmas.Int.{to_z-of_z}
use mir.Syntax.{w64}
use Rattle.form.proofs.Vectors.{entry_of_option}
use Rattle.pricing_oracle.proofs.legs.entry.Goals as goal

pub returns : goal.returns
returns c =
    let form = c.args.form.now in
    let fits : FitsSigned w64 (get_or form.entries c.args.i (pos 0)) = search rules in
    rw (entry_of_option form c.args.i, to_z-of_z w64 _ fits) refl
