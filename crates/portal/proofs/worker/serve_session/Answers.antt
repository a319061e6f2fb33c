use Rattle.std.proofs.Common.{◌≡◌, ℕ, List, [], Option, Result, Ok, Err, IfOk, OnErr, ap, ◌∙◌, subst}
use Rattle.scsi_types.specs.declared.memory.NoMemory.{NoMemory}
use Rattle.session_rules.specs.declared.end.End.{End}
use Rattle.session_rules.specs.declared.target_record.TargetRecord.{TargetRecord}
use Rattle.session_rules.specs.declared.opening.Opening.{Opening}
use Rattle.unit_control.specs.State.{UnitState}
use Rattle.live_sessions.specs.Sessions.{Sayings}
use Rattle.session_units.specs.Units.{Claims}
use Rattle.scsi_types.specs.Nexus.{group_number}
use Rattle.session.specs.Transcript.{IsTranscribed}
use Rattle.session_rules.specs.declared.opening.Opening.TheVariants.{Login}
use Rattle.session_units.specs.Late.{Late, late_of}
use Rattle.live_sessions.specs.Target.{TargetValue, LeadsOn}
use Rattle.portal.proofs.Answering.{session_of}
use Rattle.portal.proofs.worker.serve_session.Goals as goal

-- a session that is over is at no unit, nor is one that did not begin
at_none : (claims : Claims) (table : Sayings) (late : Late) (opening : ℕ → UnitState) (units : ℕ) (me : TargetRecord) (login : Opening)
    (left left' held held' : Option (List ℕ)) (old new : TargetValue) (P : Type 0) (end : Result End NoMemory) → old.at ≡ []
    → IfOk end (IsTranscribed (LeadsOn claims table late opening) units me login left left' held held' old new)
    → OnErr end P → (P → new ≡ old) → new.at ≡ []
at_none claims table late opening units me login left left' held held' old new P (Ok end) none is no_memory same =
    ap (λ (t : TargetValue). t.at) is.told.rest
at_none claims table late opening units me login left left' held held' old new P (Err why) none is no_memory same =
    ap (λ (t : TargetValue). t.at) (same no_memory) ∙ none

pub into_parts-visitor-requires : goal.into_parts-visitor-requires
into_parts-visitor-requires g c =
    at_none g.U.LogicalUnits.claims g.T.Sessions.says (late_of g.G.Gate.is_late g.G.Gate.lasts) g.U.LogicalUnits.opening _ _ _ _ _ _ _
    c.new-target-2.result c.serve_stream-end.new.target _ c.serve_stream-end.result
    (ap (λ (t : TargetValue). t.at) (c.new-target-2.ensures ∙ c.new-target.ensures)) c.serve_stream-end.ensures.transcribed
    c.serve_stream-end.ensures.no_memory (λ p. p.0)

pub returns-in-Ok-clause-input_failed : goal.returns-in-Ok-clause-input_failed
returns-in-Ok-clause-input_failed g c = c.in-Ok.ensures.input_failed

pub returns-in-Ok-clause-output_failed : goal.returns-in-Ok-clause-output_failed
returns-in-Ok-clause-output_failed g c = c.in-Ok.ensures.output_failed

pub returns-in-Ok-clause-served : goal.returns-in-Ok-clause-served
returns-in-Ok-clause-served g c =
    let claims = g.U.LogicalUnits.claims in
    let table = g.T.Sessions.says in
    let late = late_of g.G.Gate.is_late g.G.Gate.lasts in
    let opening = g.U.LogicalUnits.opening in
    let me = c.args.me.now in
    let left = g.S.Source.left c.args.source.now in
    let left' = g.S.Source.left c.serve_stream-end.new.source in
    let held = g.K.Sink.held c.args.sink.now in
    let held' = g.K.Sink.held c.serve_stream-end.new.sink in
    let after = c.serve_stream-end.new.target in
    session_of claims table late opening (g.U.LogicalUnits.unit_count c.args.device.now.units) c.args.group me left left' held held' after
    c.in-Ok.end _
    (subst (λ (t : TargetValue). IsTranscribed (LeadsOn claims table late opening) t.units me (Login (group_number c.args.group)) left left'
    held held' t after c.in-Ok.end) (c.new-target-2.ensures ∙ c.new-target.ensures)
    (subst (λ (n : ℕ). IsTranscribed (LeadsOn claims table late opening) c.new-target-2.result.units me (Login n) left left' held held'
    c.new-target-2.result after c.in-Ok.end) (c.from.ensures ∙ c.number.ensures) c.in-Ok.ensures.transcribed))
    c.into_parts-visitor.ensures
