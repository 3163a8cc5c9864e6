use Rattle.std.proofs.Common.{◌≡◌, ℕ, List, Option, subst, sym}
use Rattle.program_words.specs.declared.requests.Request.{Request}
use Rattle.exchange_program.specs.Requests.{OfInput}
use Rattle.exchange_program.proofs.Served.{told, told_front, nothing_told, sound, faulty, known}
use Rattle.exchange_program.proofs.serving.answer_whole_input.Goals as goal

-- the bytes at hand are those that are read
is_read : (request : Request) (left : Option (List ℕ)) (items now : List ℕ) → now ≡ items → OfInput request left (λ input. items ≡ input) → OfInput request left (λ input. now ≡ input)
is_read request left items now same all = subst (λ b. OfInput request left (λ input. b ≡ input)) (sym same) all

pub returns-in-Ok-respond-clause-told : goal.returns-in-Ok-respond-clause-told
returns-in-Ok-respond-clause-told g c = λ ended.
    told c.args.request (g.S.Source.left c.args.source.now) _ _ c.deref.result.now c.requires.first
    (is_read c.args.request (g.S.Source.left c.args.source.now) _ _ c.deref.ensures.value c.in-Ok.ensures.all) c.in-Ok-respond.ensures.ok

pub returns-in-Ok-respond-clause-sound : goal.returns-in-Ok-respond-clause-sound
returns-in-Ok-respond-clause-sound g c = λ ended.
    sound c.in-Ok-respond.status c.deref.result.now c.args.request (g.S.Source.left c.args.source.now)
    (is_read c.args.request (g.S.Source.left c.args.source.now) _ _ c.deref.ensures.value c.in-Ok.ensures.all)
    c.in-Ok-respond.ensures.status ended

pub returns-in-Ok-respond-clause-faulty : goal.returns-in-Ok-respond-clause-faulty
returns-in-Ok-respond-clause-faulty g c = λ ended.
    faulty c.in-Ok-respond.status c.deref.result.now c.args.request (g.S.Source.left c.args.source.now)
    (is_read c.args.request (g.S.Source.left c.args.source.now) _ _ c.deref.ensures.value c.in-Ok.ensures.all)
    c.in-Ok-respond.ensures.status ended

pub returns-in-Ok-respond-clause-known : goal.returns-in-Ok-respond-clause-known
returns-in-Ok-respond-clause-known g c = λ usage. known c.args.request c.deref.result.now c.in-Ok-respond.status c.in-Ok-respond.ensures.status usage

pub returns-in-Err-WriteFault-respond-clause-told_front : goal.returns-in-Err-WriteFault-respond-clause-told_front
returns-in-Err-WriteFault-respond-clause-told_front g c = λ ended.
    told_front c.args.request (g.S.Source.left c.args.source.now) _ _ c.deref.result.now c.requires.first
    (is_read c.args.request (g.S.Source.left c.args.source.now) _ _ c.deref.ensures.value c.in-Ok.ensures.all) c.in-Err-WriteFault-respond.ensures.front

pub returns-clause-told_front : goal.returns-clause-told_front
returns-clause-told_front g c = λ ended.
    told_front c.args.request (g.S.Source.left c.args.source.now) _ _ c.deref.result.now c.requires.first
    (is_read c.args.request (g.S.Source.left c.args.source.now) _ _ c.deref.ensures.value c.in-Ok.ensures.all) c.in-Err-Memory-respond.ensures.front

pub returns-in-Err-Memory-clause-told_front : goal.returns-in-Err-Memory-clause-told_front
returns-in-Err-Memory-clause-told_front g c = λ ended. nothing_told c.args.request (g.S.Source.left c.args.source.now) (g.K.Sink.written c.args.sink.now)
