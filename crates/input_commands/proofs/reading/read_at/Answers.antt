use Rattle.std.proofs.Common.{◌<◌, [], ◌∷◌, ◌++◌, All, get_or, length, map, take, sym, subst, ap, ◌∙◌, arith}
use Rattle.std.proofs.lemmas.List.{map-append, take_more}
use Rattle.std.proofs.lemmas.List.Elements.{All-nil, All-cons, All-append}
use Rattle.command_text.specs.declared.command.Line.{Line}
use Rattle.command_text.specs.declared.lines.RawLine.{RawLine}
use Rattle.command_text.specs.Commands.{body_of_line}
use Rattle.command_text.specs.Lines.{line_at}
use Rattle.command_text.specs.Within.{IsLineWithin}
use Rattle.input_commands.proofs.reading.read_at.Goals as goal

-- what stands for a line past the last
abbrev no_line : RawLine
no_line = record { number = 0; from = 0; to = 0 }

pub loop-place-preserved : goal.loop-place-preserved
loop-place-preserved c =
    let i = c.loop-place.place-index in
    let places = c.args.places.now in
    let place = get_or places i no_line in
    let at = line_at c.args.bytes.now in
    let lt : i < length places = omega arith in
    let body = c.in_ok-body.ensures.body ∙ ap body_of_line c.text.ensures.bytes in
    let line : Line = record { number = place.number; body = c.in_ok-body.body } in
    let more = ap (map at) (take_more places i no_line lt) ∙ map-append at (take i places) (place ∷ []) in
    record {
      lines = c.in_ok-push.ensures.items ∙ (λ k. c.loop-place.invariant.lines k ++ record { number = place.number; body = body k } ∷ []) ∙ sym more;
      within = subst (All IsLineWithin) (sym c.in_ok-push.ensures.items)
          (All-append IsLineWithin c.loop-place.lines.items (line ∷ []) c.loop-place.invariant.within (All-cons IsLineWithin line [] c.in_ok-body.ensures.within (All-nil IsLineWithin)));
    }
