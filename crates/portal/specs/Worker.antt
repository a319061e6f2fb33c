-- A whole session, from the first byte of its login to its end.
use Rattle.std.specs.Prelude.{◌≡◌, ℕ, List, [], ◌∷◌, ◌++◌, Option}
use Rattle.scsi_types.specs.Nexus.{group_number}
use Rattle.scsi_types.specs.declared.names.Group.{Group}
use Rattle.session_rules.specs.declared.end.End.{End}
use Rattle.session_rules.specs.declared.target_record.TargetRecord.{TargetRecord}
use Rattle.session_rules.specs.declared.opening.Opening.TheVariants.{Login}
use Rattle.session_rules.specs.Asking.{over}
use Rattle.session_rules.specs.Phases.{asked, exchanges}
use Rattle.session.specs.Transcript.{IsTranscribed}
use Rattle.unit_control.specs.Entry.{Entry}
use Rattle.unit_control.specs.State.{UnitState}
use Rattle.session_units.specs.Late.{Late}
use Rattle.live_sessions.specs.Sessions.{Sayings}
use Rattle.session_units.specs.Units.{Claims}
use Rattle.session_units.specs.Entries.{AreAnswered}
use Rattle.live_sessions.specs.Target.{TargetValue, LeadsOn, unbegun}

-- What was written spells a legal transcript of what was read, of a login by a portal of this group, and what the session
-- asked led its target from where it is at no unit to its end. What it asked of units, to the last, that it is over, is answered by
-- their histories, as they were seen when it left them: these are handed out.
pub record IsSession (claims : Claims) (table : Sayings) (late : Late) (opening : ℕ → UnitState) (units : ℕ) (group : Group) (me : TargetRecord)
    (left left' held held' : Option (List ℕ)) (end : End) (seen : List (ℕ × List Entry)) : Type 0 where
  pub after : TargetValue
  pub transcribed : IsTranscribed (LeadsOn claims table late opening) units me (Login (group_number group)) left left' held held'
      (unbegun units group) after end
  pub seen_is : seen ≡ after.seen
  pub answered : AreAnswered claims late opening units group (asked (exchanges transcribed.passed.transcript) ++ over ∷ []) seen
