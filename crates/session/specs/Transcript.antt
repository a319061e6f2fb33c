-- Bytes to bytes: what a session makes of a stream.
use Rattle.std.specs.Io.KnownBytes.{Appends, Consumes, IsAtEnd}
use Rattle.std.specs.Prelude.{◌≡◌, ◌+◌, ◌<◌, ◌≤◌, ◌∷◌, ◌++◌}
use Rattle.session_rules.specs.Words.{ℕ, List, [], length, take, Option}
use Rattle.session_rules.specs.{Asking.Asking, Asking.over, Turn.bytes_of, Turn.Spells, Turn.Leads, Ends.EndsBy}
use Rattle.session_rules.specs.declared.{target_record.TargetRecord.TargetRecord, opening.Opening.Opening}
use Rattle.session_rules.specs.declared.end.End.{End, TheVariants.EndOfInput, TheVariants.InputFailed, TheVariants.OutputFailed}
use Rattle.session_rules.specs.declared.end.End.TheVariants.{Rejected, Gap, LoginRefused, Reinstated, LoggedOut}
use Rattle.session_rules.specs.Phases.{Transcript, Exchange, exchanges, incoming, asked, outgoing, IsLawful}
use Rattle.session_stream.specs.{declared.outbox.TheConstants.ENOUGH_TO_WRITE, Source.Rises}

-- the turns before the last
abbrev pub but_last : List Exchange → List Exchange
but_last [] = []
but_last (e ∷ []) = []
but_last (e ∷ (f ∷ es)) = e ∷ but_last (f ∷ es)

-- The writer failed: a beginning of the bytes of all turns went out. It had not failed before the last turn: of what the
-- turns before that one sent all went out, but what waits for the next write, so that no command is served behind a failure.
pub record IsCut (held held' : Option (List ℕ)) (es : List Exchange) : Type 0 where
  pub taken : ℕ
  pub within : taken ≤ length (bytes_of (outgoing es))
  pub went_out : Appends held held' (take taken (bytes_of (outgoing es)))
  pub not_before : length (bytes_of (outgoing (but_last es))) < taken + ENOUGH_TO_WRITE

-- the bytes that went out are those of the PDUs of all turns, up to where the writer failed
abbrev pub Written : End → Option (List ℕ) → Option (List ℕ) → List Exchange → Type 0
Written EndOfInput held held' es = Appends held held' (bytes_of (outgoing es))
Written InputFailed held held' es = Appends held held' (bytes_of (outgoing es))
Written OutputFailed held held' es = IsCut held held' es
Written (Rejected reason opcode tag) held held' es = Appends held held' (bytes_of (outgoing es))
Written Gap held held' es = Appends held held' (bytes_of (outgoing es))
Written (LoginRefused status) held held' es = Appends held held' (bytes_of (outgoing es))
Written Reinstated held held' es = Appends held held' (bytes_of (outgoing es))
Written LoggedOut held held' es = Appends held held' (bytes_of (outgoing es))

-- Up to its end a session has passed so: the bytes that were read spell the PDUs of a legal transcript, and a rest behind
-- them; the bytes that were written spell the PDUs that it sends; what it asks leads the target from its state before to
-- that after.
pub record IsPassed {T : Type 0} (leads : T → Asking → T → Type 0) (units : ℕ) (me : TargetRecord) (opening : Opening)
    (left left' held held' : Option (List ℕ)) (target target' : T) (end : End) : Type 0 where
  pub transcript : Transcript
  pub spelled : List ℕ
  pub rest : List ℕ
  pub lawful : IsLawful units me opening transcript
  pub ends : EndsBy (exchanges transcript) rest (length spelled + length rest) (IsAtEnd left') end
  pub spells : Spells (incoming (exchanges transcript)) spelled
  pub read : Consumes left left' (spelled ++ rest)
  pub written : Written end held held' (exchanges transcript)
  pub led : Leads leads (asked (exchanges transcript)) target target'

-- The same of a session that is over: the last that it asked was to tell its target so.
pub record IsTranscribed {T : Type 0} (leads : T → Asking → T → Type 0) (units : ℕ) (me : TargetRecord) (opening : Opening)
    (left left' held held' : Option (List ℕ)) (target target' : T) (end : End) : Type 0 where
  pub at_end : T
  pub passed : IsPassed leads units me opening left left' held held' target at_end end
  pub told : leads at_end over target'

-- the session ended so exactly where its reader, or its writer, counted a failure
pub record IsFailureOf (cause : End) (before now : ℕ) (end : End) : Type 0 where
  pub rises : end ≡ cause → Rises before now
  pub stays : (end ≡ cause → ⊥) → now ≡ before

-- how it has passed up to its end, and whose failure that was
pub record HasPassed {T : Type 0} (leads : T → Asking → T → Type 0) (units : ℕ) (me : TargetRecord) (opening : Opening)
    (left left' held held' : Option (List ℕ)) (read read' written written' : ℕ) (target target' : T)
    (end : End) : Type 0 where
  pub passed : IsPassed leads units me opening left left' held held' target target' end
  pub input_failed : IsFailureOf InputFailed read read' end
  pub output_failed : IsFailureOf OutputFailed written written' end
