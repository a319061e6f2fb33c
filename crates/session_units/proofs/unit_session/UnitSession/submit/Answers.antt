use Rattle.std.proofs.Common.{◌≡◌, ℕ, List, Option, Some, Result, sym, ap, ◌∙◌, subst}
use Rattle.unit_lock.specs.Calls.{PlacedPass}
use Rattle.scsi_types.specs.ReplyValue.{ReplyValue}
use Rattle.scsi_types.specs.declared.names.Group.{Group}
use Rattle.scsi_types.specs.declared.command.Command.{Command as ScsiCommand}
use Rattle.scsi_types.specs.declared.command.CdbFault.{CdbFault}
use Rattle.unit_control.specs.State.{UnitState}
use Rattle.unit_control.specs.Entry.{Entry}
use Rattle.session_units.specs.Late.{Late, late_of}
use Rattle.session_units.specs.Passes.{at_of}
use Rattle.session_units.specs.Submitted.{At, IsCalled, IsOnce, believed}
use Rattle.session_units.specs.Units.{Claims}
use Rattle.session_units.specs.declared.units.Unserved.{Unserved}
use Rattle.session_units.proofs.unit_session.UnitSession.submit.Goals as goal

-- the pass was taken out of its slot for one call, and the one that came back put into it
once : (claims : Claims) (late : Late) (opening : ℕ → UnitState) {P : Type 0} (held : P → PlacedPass Entry) (slot after : Option P)
    (pass back : P) (by then : Group) (old : At) (asked : Result ScsiCommand CdbFault) (bytes : List ℕ) (end : Result ReplyValue Unserved)
    → at_of held slot by ≡ old → slot ≡ Some pass → after ≡ Some back → (held back).place ≡ (held pass).place
    → IsCalled claims late opening (held pass) by asked bytes end (held back) → then ≡ believed by end
    → IsOnce claims late opening old asked bytes end (at_of held after then)
once claims late opening held slot after pass back by then old asked bytes end is taken put place call by_is =
    subst (λ o. IsOnce claims late opening o asked bytes end (at_of held after then)) (ap (λ s. at_of held s by) (sym taken) ∙ is)
    (subst (λ s. IsOnce claims late opening (at_of held (Some pass) by) asked bytes end (at_of held s then)) (sym put)
    (record { place = place; call = call; by_is = by_is }))

pub returns : goal.returns
returns g c =
    once g.U.LogicalUnits.claims (late_of g.G.Gate.is_late g.G.Gate.lasts) g.U.LogicalUnits.opening g.P.Pass.held _ _ c.in-Some.pass
    c.call-pass.result.0 c.self.inside.by_group _ c.args.self.now c.args.asked.now c.args.bytes.now c.call-pass.result.1 c.self.view_is
    (sym c.take.ensures.value ∙ c.in-Some.is) c.put_back.ensures c.call-pass.ensures.place c.call-pass.ensures.end c.believed_behind-self-inside.ensures
