-- What the answers to lines between two reads keep, and the status that they end with.
use Rattle.std.proofs.Common.{◌≡◌, ◌⊎◌, ℕ, List, [], append-nil, true, Bool, Option, Some, None, IfSome, Result, Ok, Err, IsOk, OnOk, refl, sym, ap, ◌∙◌, subst, inl, inr}
use Rattle.std.proofs.KnownBytes.{Consumes-nil}
use Rattle.std.proofs.lemmas.Option.{IfSome_then}
use Rattle.byte_streams.specs.Reads.{LastRead}
use Rattle.byte_streams.specs.Writes.{AppendsFront}
use Rattle.byte_streams.specs.declared.stop.IoStop.{IoStop}
use Rattle.byte_streams.specs.declared.stop.IoStop.TheVariants as stop
use Rattle.book_proposals.specs.LiveAnswers.{AreAnswers, texts_in}
use Rattle.book_proposals.specs.Proposing.{WroteFor, WroteFrontFor, WroteFrontOf}
use Rattle.demo_run.specs.Demo.{demo_output}
use Rattle.exchange_sessions.specs.Answers.{sessions_output}
use Rattle.live_lines.specs.Serving.{Counts, IsServed, Known, OfSome}
use Rattle.live_lines.specs.Taken.{with_feeds}
use Rattle.live_lines.proofs.Fronts.{no_front}
use Rattle.live_lines.proofs.Serves.{counts_of, known_of}
use Rattle.program_words.specs.declared.requests.Request.{Request}
use Rattle.program_words.specs.declared.requests.Request.TheVariants.{Lines, Check, Sessions, Serve, Propose, Demo}
use Rattle.program_words.specs.declared.requests.Served.{Served}
use Rattle.exchange_program.specs.Keeps.{Keeps}
use Rattle.exchange_program.specs.Live.{AnswerFirst, WroteAnswers, WroteAnswersFront, served_output, skips_mark, status_at}
use Rattle.exchange_program.specs.Modes.{mode_output}
use Rattle.exchange_program.specs.Journals.{report_line}
use Rattle.exchange_program.specs.Requests.{HadWritten, IsReadFirst, OfInput, OfOutput, OfSomeInput, PromisedFront, WherePropose, WhereServe, input_of}
use Rattle.exchange_program.specs.Wrote as told
use Rattle.exchange_program.specs.declared.status.Status.{Status}
use Rattle.exchange_program.specs.declared.status.Status.TheVariants.{Done, Usage, ReadFault, WriteFault, TooLong, CheckNo, Memory}
use Rattle.exchange_program.proofs.Served.{nothing_told, told_served}

-- ---- the end of the answers as a status
-- done, or stopped
abbrev End : Type 0
End = Result (Unit {0}) IoStop

abbrev end_at : Status → End
end_at Done = Ok tt
end_at Usage = Ok tt
end_at ReadFault = Err stop.ReadFault
end_at WriteFault = Err stop.WriteFault
end_at TooLong = Err stop.TooLong
end_at CheckNo = Ok tt
end_at Memory = Err stop.Memory

end_kept : (end : End) → end_at (status_at end) ≡ end
end_kept (Ok _) = refl
end_kept (Err stop.ReadFault) = refl
end_kept (Err stop.WriteFault) = refl
end_kept (Err stop.TooLong) = refl
end_kept (Err stop.Memory) = refl

-- each end has a status of its own
end_is : (end other : End) → status_at end ≡ status_at other → end ≡ other
end_is end other p = sym (end_kept end) ∙ ap end_at p ∙ end_kept other

end_of_two : (end : End) → (status_at end ≡ WriteFault) ⊎ (status_at end ≡ Memory) → (end ≡ Err stop.WriteFault) ⊎ (end ≡ Err stop.Memory)
end_of_two end which = elim which [
  | inl is ↦ inl (end_is end (Err stop.WriteFault) is)
  | inr is ↦ inr (end_is end (Err stop.Memory) is)
]

done_at : (end : End) → IsOk end → status_at end ≡ Done
done_at (Ok _) ok = refl
done_at (Err e) ok = cc

on_done : (end : End) (P : Type 0) → OnOk end P → status_at end ≡ Done → P
on_done end P h is = let Of : End → Type 0 = λ e. OnOk e P in subst Of (end_is end (Ok tt) is) h

no_check : (end : End) → status_at end ≡ CheckNo → ⊥
no_check (Ok _) is = cc
no_check (Err stop.ReadFault) is = cc
no_check (Err stop.WriteFault) is = cc
no_check (Err stop.TooLong) is = cc
no_check (Err stop.Memory) is = cc

-- at a status that the answers end with and that is Done or CheckNo
at_end : (end : End) (P : Type 0) → OnOk end P → (status_at end ≡ Done) ⊎ (status_at end ≡ CheckNo) → (status_at end ≡ Done) × P
at_end end P h which = elim which [
  | inl is ↦ (is, on_done end P h is)
  | inr is ↦ absurd (no_check end is)
]

any : {T : Type 0} (o : Option T) {P : T → Type 0} → ((x : T) → P x) → IfSome o P
any None all = tt
any (Some x) all = all x

some_bytes : (skips : Bool) (known : Known) (P : List ℕ → Type 0) → OfSome skips known P → (bytes : List ℕ) × P bytes
some_bytes skips known P h = elim h [
  | inl some ↦ (with_feeds some.0, some.4)
  | inr all ↦ (all.0, all.2)
]

-- some input, where the bytes that were left are not told
front_of : (request : Request) (left : Option (List ℕ)) (P : List ℕ → Type 0) → ((Q : List ℕ → Type 0) → IfSome left Q → OfInput request left Q)
    → (input : List ℕ) × P input → IfSome left P → OfSomeInput request left P
front_of request None P reads some all = (some.0, reads (λ told. some.0 ≡ told) tt, some.1)
front_of request (Some input) P reads some all = (input, reads (λ told. input ≡ told) refl, all)

-- ---- lines of every kind, and messages
module _ (kind : Served) (known : Known) (counts : Counts) (end : End)
    (h : IsServed (WroteAnswers kind) (WroteAnswersFront kind) (WroteAnswersFront kind) (skips_mark kind) known counts end) where
  pub served_keeps : Keeps (Serve kind) known counts (status_at end)
  served_keeps = record {
    done = λ which. let all = at_end end _ h.whole which in IfSome_then known.left all.1 (λ input wrote. (all.0, wrote.1.0));
    whole = λ which. IfSome_then known.left (at_end end _ h.whole which).1 (λ input wrote. wrote.0);
    front = λ which. IfSome_then known.left (h.front_of_all (end_of_two end which)) (λ input wrote. wrote.0);
    told = λ is. let all = on_done end _ h.done is in
        (all.0, IfSome_then known.left all.1.1 (λ input same. same.0), (served_output kind all.0, all.3.1, all.3.0));
    told_front = λ which.
        let some = some_bytes (skips_mark kind) known (WroteAnswersFront kind known) (h.front (end_of_two end which)) in
        front_of (Serve kind) known.left (λ input. told.WroteFront known.written known.writes (PromisedFront (Serve kind) input)) (λ Q all. all) (some.0, (served_output kind some.0, some.1.1, some.1.0))
        (IfSome_then known.left (h.front_of_all (end_of_two end which)) (λ input wrote. (served_output kind input, wrote.1, wrote.0)));
    sound = λ is. tt;
    faulty = λ is. tt;
    check_alone = λ is. no_check end is;
    no_read_fault = λ is. tt;
    read_fault = λ is. h.read_cause (end_is end (Err stop.ReadFault) is);
    read_fault_in_time = λ is. tt;
    write_fault = λ is. h.write_cause (end_is end (Err stop.WriteFault) is);
    too_long = λ is. h.too_long_input (end_is end (Err stop.TooLong) is);
    too_long_no_fault = λ is. h.too_long_no_fault (end_is end (Err stop.TooLong) is);
    too_many = λ is. h.too_many (end_is end (Err stop.TooLong) is);
    within = λ is. any known.left (λ input. tt);
    served = (end, refl, h);
    proposed = tt;
    complete = λ within r w. elim (h.complete within r w) [
      | inl ok ↦ inl (inl (done_at end ok))
      | inr is ↦ inr (ap status_at is)
    ];
  }

-- ---- proposals
-- answers to all lines of an input
all_first : (input written : List ℕ) → AreAnswers (texts_in input) written → AnswerFirst input written
all_first input written are = (texts_in input, [], sym (append-nil (texts_in input)), are)

module _ (known : Known) (counts : Counts) (end : End) (h : IsServed WroteFor WroteFrontFor WroteFrontOf true known counts end) where
  pub proposed_keeps : Keeps Propose known counts (status_at end)
  proposed_keeps = record {
    done = λ which. let all = at_end end _ h.whole which in IfSome_then known.left all.1 (λ input wrote. (all.0, tt));
    whole = λ which. IfSome_then known.left (at_end end _ h.whole which).1 (λ input wrote. wrote.0);
    front = λ which. any known.left (λ input. tt);
    told = λ is. let all = on_done end _ h.done is in (all.0, IfSome_then known.left all.1.1 (λ input same. same.0), all.3);
    told_front = λ which.
        let some = some_bytes true known (WroteFrontFor known) (h.front (end_of_two end which)) in
        let wrote = some.1 in
        front_of Propose known.left (λ input. told.WroteFront known.written known.writes (PromisedFront Propose input)) (λ Q all. all) (some.0, (wrote.0, all_first some.0 wrote.0 wrote.1, wrote.2))
        (IfSome_then known.left (h.front_of_all (end_of_two end which)) (λ input first. (first.2, (first.0, first.1, first.3, first.4), first.5)));
    sound = λ is. tt;
    faulty = λ is. tt;
    check_alone = λ is. no_check end is;
    no_read_fault = λ is. tt;
    read_fault = λ is. h.read_cause (end_is end (Err stop.ReadFault) is);
    read_fault_in_time = λ is. tt;
    write_fault = λ is. h.write_cause (end_is end (Err stop.WriteFault) is);
    too_long = λ is. h.too_long_input (end_is end (Err stop.TooLong) is);
    too_long_no_fault = λ is. h.too_long_no_fault (end_is end (Err stop.TooLong) is);
    too_many = λ is. h.too_many (end_is end (Err stop.TooLong) is);
    within = λ is. any known.left (λ input. tt);
    served = tt;
    proposed = (end, refl, h);
    complete = λ within r w. elim (h.complete within r w) [
      | inl ok ↦ inl (inl (done_at end ok))
      | inr is ↦ inr (ap status_at is)
    ];
  }

-- ---- all is read first
pub not_served : (request : Request) (P : Served → Type 0) → IsReadFirst request → WhereServe request P
not_served (Lines mode) P first = tt
not_served (Check journal) P first = tt
not_served Sessions P first = tt
not_served (Serve kind) P first = absurd first
not_served Propose P first = tt
not_served (Demo seed count) P first = tt

pub not_proposed : (request : Request) (P : Type 0) → IsReadFirst request → WherePropose request P
not_proposed (Lines mode) P first = tt
not_proposed (Check journal) P first = tt
not_proposed Sessions P first = tt
not_proposed (Serve kind) P first = tt
not_proposed Propose P first = absurd first
not_proposed (Demo seed count) P first = tt

pub had_written : (request : Request) (left written : Option (List ℕ)) (last : Option LastRead) → IsReadFirst request → IfSome last (λ now. now.written ≡ written)
    → HadWritten request left written last
had_written (Lines mode) left written last first h = h
had_written (Check journal) left written last first h = h
had_written Sessions left written last first h = h
had_written (Serve kind) left written last first h = absurd first
had_written Propose left written last first h = absurd first
had_written (Demo seed count) left written last first h = h

of_output : (request : Request) (input : List ℕ) (P : List ℕ → Type 0) → ((text : List ℕ) → P text) → OfOutput request input P
of_output (Lines mode) input P all = all (mode_output mode input)
of_output (Check journal) input P all = all (report_line journal input)
of_output Sessions input P all = all (sessions_output input)
of_output (Serve kind) input P all = all (served_output kind input)
of_output Propose input P all = tt
of_output (Demo seed count) input P all = all (demo_output seed count)

-- nothing is read nor written, for want of memory
nothing_first : (request : Request) (left written : Option (List ℕ)) (read write taken : ℕ) → IsReadFirst request
    → Keeps request (known_of left left written written) (counts_of read read write write taken taken) Memory
nothing_first request left written read write taken first = record {
  done = λ which. elim which [ inl is ↦ absurd cc | inr is ↦ absurd cc ];
  whole = λ which. elim which [ inl is ↦ absurd cc | inr is ↦ absurd cc ];
  front = λ which. any (input_of request left) (λ input. of_output request input (AppendsFront written written) (λ text. no_front written written text refl));
  told = λ is. absurd cc;
  told_front = λ which. nothing_told request left written;
  sound = λ is. absurd cc;
  faulty = λ is. absurd cc;
  check_alone = λ is. absurd cc;
  no_read_fault = λ is. absurd cc;
  read_fault = λ is. absurd cc;
  read_fault_in_time = λ is. absurd cc;
  write_fault = λ is. absurd cc;
  too_long = λ is. absurd cc;
  too_long_no_fault = λ is. absurd cc;
  too_many = λ is. absurd cc;
  within = λ which. elim which [
    | inl ended ↦ elim ended [ inl is ↦ absurd cc | inr is ↦ absurd cc ]
    | inr is ↦ absurd cc
  ];
  served = not_served request _ first;
  proposed = not_proposed request _ first;
  complete = λ within r w. inr refl;
}

-- ---- before the first read
module _ (left written : Option (List ℕ)) (read write taken : ℕ) where
  abbrev same : Known
  same = known_of left left written written

  -- nothing is a front of anything
  nothing_is_served : (P F G : Known → List ℕ → Type 0) (skips : Bool) → F same [] → ((input : List ℕ) → G same input)
      → IsServed P F G skips same (counts_of read read write write taken taken) (Err stop.Memory)
  nothing_is_served P F G skips front first = record {
    done = tt;
    whole = tt;
    read_fault = λ is. absurd cc;
    too_long = λ is. absurd cc;
    too_long_input = λ is. absurd cc;
    too_long_no_fault = λ is. refl;
    too_many = λ is. absurd cc;
    front = λ which. inl ([], [], Consumes-nil left, tt, front);
    front_of_all = λ which. any left first;
    read_cause = λ is. absurd cc;
    write_cause = λ is. absurd cc;
    complete = λ within r w. inr refl;
  }

  nothing_served : (kind : Served)
      → IsServed (WroteAnswers kind) (WroteAnswersFront kind) (WroteAnswersFront kind) (skips_mark kind) same (counts_of read read write write taken taken) (Err stop.Memory)
  nothing_served kind =
      let none : (input : List ℕ) → WroteAnswersFront kind same input = λ input. (no_front written written (served_output kind input) refl, told_served kind input) in
      nothing_is_served (WroteAnswers kind) (WroteAnswersFront kind) (WroteAnswersFront kind) (skips_mark kind) (none []) none

  nothing_proposed : IsServed WroteFor WroteFrontFor WroteFrontOf true same (counts_of read read write write taken taken) (Err stop.Memory)
  nothing_proposed =
      nothing_is_served WroteFor WroteFrontFor WroteFrontOf true ([], refl, no_front written written [] refl)
      (λ input. ([], texts_in input, [], refl, refl, no_front written written [] refl))

  pub nothing_keeps : (request : Request) → Keeps request same (counts_of read read write write taken taken) Memory
  nothing_keeps (Serve kind) = served_keeps kind same (counts_of read read write write taken taken) (Err stop.Memory) (nothing_served kind)
  nothing_keeps Propose = proposed_keeps same (counts_of read read write write taken taken) (Err stop.Memory) nothing_proposed
  nothing_keeps (Lines mode) = nothing_first (Lines mode) left written read write taken tt
  nothing_keeps (Check journal) = nothing_first (Check journal) left written read write taken tt
  nothing_keeps Sessions = nothing_first Sessions left written read write taken tt
  nothing_keeps (Demo seed count) = nothing_first (Demo seed count) left written read write taken tt

pub nothing_kept : (asked : Option Request) (left written : Option (List ℕ)) (read write taken : ℕ)
    → IfSome asked (λ request. Keeps request (known_of left left written written) (counts_of read read write write taken taken) Memory)
nothing_kept asked left written read write taken = any asked (nothing_keeps left written read write taken)

unread : (request : Request) (left written : Option (List ℕ)) → HadWritten request left written None
unread (Lines mode) left written = tt
unread (Check journal) left written = tt
unread Sessions left written = tt
unread (Serve kind) left written = tt
unread Propose left written = tt
unread (Demo seed count) left written = tt

pub unread_yet : (asked : Option Request) (left written : Option (List ℕ)) (last : Option LastRead) → last ≡ None
    → IfSome asked (λ request. HadWritten request left written last)
unread_yet asked left written last is = any asked (λ request. subst (HadWritten request left written) (sym is) (unread request left written))

-- ---- what the words ask for
pub asked : (words : Option Request) (request : Request) (P : Request → Type 0) → words ≡ Some request → P request → IfSome words P
asked words request P is p = subst (λ w. IfSome w P) (sym is) p
