use Rattle.std.proofs.Common.{◌+◌, ◌-◌, length, take, drop, take_all, length-drop, Some, ap, ◌∙◌, arith}
use Rattle.std.specs.Option.{option_map}
use Rattle.session_lines.proofs.Commas.{comma_found, no_comma}
use Rattle.session_lines.proofs.messages.at_comma.Goals as goal

pub returns-in_err-place : goal.returns-in_err-place
returns-in_err-place c = ap (option_map (λ parts. (parts.0.now, parts.1.now))) c.from_residual.ensures ∙ no_comma c.args.bytes.now c.in_err-place.ensures

pub returns : goal.returns
returns c =
    let bytes = c.args.bytes.now in
    let place = c.in_ok-place.place in
    ap (λ rest. Some (take place bytes, rest)) (take_all (length bytes - (place + 1)) (drop (place + 1) bytes) (omega (arith, length-drop (place + 1) bytes)))
    ∙ comma_found bytes place c.in_ok-place.ensures
