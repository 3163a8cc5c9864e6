-- What the entries of two options say of where they bend.
use Rattle.std.proofs.Common.{◌≡◌, get_or, pos, refl}
use Rattle.std.specs.Prelude.{◌&&◌, nat_abs, nat_eq}
use Rattle.form.specs.declared.forms.Form.{Form}
use Rattle.form.specs.declared.legs.Leg.{Leg}
use Rattle.form.specs.declared.bundles.Bundle.{Bundle}
use Rattle.form.specs.Payoff.{first_option, option_of}
use Rattle.form.proofs.BundleLegs.{first_option-is}
use Rattle.form.proofs.Vectors.{entry_of_option}
use Rattle.line_cover.specs.Line.{bends, bends_alike}

pub alike_is : (bundle : Bundle) (d : Leg) (form : Form)
    → (let first = (get_or bundle.legs 0 d).form.entries in
    let other = form.entries in
    bends_alike (first_option bundle) (option_of form)
    ≡ (bends (get_or first 0 (pos 0)) (get_or first 1 (pos 0))
    && nat_eq (nat_abs (get_or first 0 (pos 0))) (nat_abs (get_or other 0 (pos 0)))
    && nat_eq (nat_abs (get_or first 1 (pos 0))) (nat_abs (get_or other 1 (pos 0)))))
alike_is bundle d form =
    let first = (get_or bundle.legs 0 d).form in
    rw (first_option-is bundle d, entry_of_option first 0, entry_of_option first 1, entry_of_option form 0, entry_of_option form 1) refl
