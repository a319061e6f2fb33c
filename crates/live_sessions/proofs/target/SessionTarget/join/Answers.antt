use Rattle.std.proofs.Common.{◌∙◌, ◌<◌, All, List, arith, false, length, refl, sym, ap, map, subst, vec_capacity}
use Rattle.login.specs.declared.status.SessionType.TheVariants.{Normal}
use Rattle.registrants.specs.Nexus.{through}
use Rattle.session_units.specs.Submitted.{At}
use Rattle.live_sessions.specs.Target.{TargetValue}
use Rattle.live_sessions.specs.declared.target.BeginFault.TheVariants.{NoMemory}
use Rattle.live_sessions.proofs.Refusing.{at_once, has_begun, taken, turned_back, unasked}
use Rattle.live_sessions.proofs.target.SessionTarget.join.Goals as goal

pub invariant_of-self-in-Ok-attach_and_enter : goal.invariant_of-self-in-Ok-attach_and_enter
invariant_of-self-in-Ok-attach_and_enter g c =
    let e = c.in-Ok-attach_and_enter.ensures in (
      e.placed,
      omega (
        arith,
        ap (λ v. length v.items) e.unseen,
        ap vec_capacity e.unseen,
        c.reserve_exact.new.self.ok.0,
        c.in-Ok.ensures.ok,
        e.joined.0,
        c.from.ensures,
        c.count.ensures,
      ),
      taken c.self.inside.connection _ (ap (λ (t : TargetValue). t.asked) c.self.view_is ∙ c.requires.asked),
    )

pub invariant_of-self-in-Err : goal.invariant_of-self-in-Err
invariant_of-self-in-Err g c =
    let seen = c.attach_and_enter.new.seen in
    let none = c.in-Err.ensures.left in
    let empty = ap length none in (
      subst (λ (at : List At). All (λ a. a.place < g.U.LogicalUnits.unit_count c.self.inside.device.now.units) at) (sym none)
          (λ k d lt. absurd (omega (arith, lt))),
      omega (arith, seen.ok.0, seen.ok.1, empty),
      taken c.self.inside.connection _ (ap (λ (t : TargetValue). t.asked) c.self.view_is ∙ c.requires.asked),
    )

pub returns-in-Ok-attach_and_enter : goal.returns-in-Ok-attach_and_enter
returns-in-Ok-attach_and_enter g c =
    let e = c.in-Ok-attach_and_enter.ensures in (
      e.tsih,
      has_begun g.U.LogicalUnits.claims g.S.Sessions.says g.U.LogicalUnits.opening (record c.args.self.now { asked = false }) _
          (c.self.view_is ∙ unasked c.args.self.now c.requires.asked) c.args.port Normal c.in-Ok-attach_and_enter.number
          c.in-Ok-attach_and_enter.tsih _ _ c.requires.name refl c.requires.fresh
          (ap (λ v. map g.U.LogicalUnits.seen v.items) e.unseen ∙ ap (map g.U.LogicalUnits.seen) c.reserve_exact.ensures.items
          ∙ ap (λ (v : TargetValue). v.seen) c.self.view_is) e.joined e.entered,
    )

pub returns-in_default : goal.returns-in_default
returns-in_default g c =
    let now = c.self.inside in
    turned_back g.U.LogicalUnits.claims g.S.Sessions.says g.U.LogicalUnits.opening (record c.args.self.now { asked = false }) _
    (c.self.view_is ∙ unasked c.args.self.now c.requires.asked) c.args.port Normal NoMemory _ _ _ c.requires.fresh.0
    (ap (λ (t : TargetValue). t.at) c.self.view_is)
    (ap (map g.U.LogicalUnits.seen) c.reserve_exact.ensures.items ∙ ap (λ (v : TargetValue). v.seen) c.self.view_is) tt
    (at_once g.U.LogicalUnits.claims g.U.LogicalUnits.opening (through c.args.port now.group) Normal
    (g.U.LogicalUnits.unit_count now.device.now.units) _)

pub returns : goal.returns
returns g c =
    turned_back g.U.LogicalUnits.claims g.S.Sessions.says g.U.LogicalUnits.opening (record c.args.self.now { asked = false }) _
    (c.self.view_is ∙ unasked c.args.self.now c.requires.asked) c.args.port Normal c.in-Err.fault _ _ _ c.requires.fresh.0
    (c.in-Err.ensures.left ∙ sym c.requires.fresh.1)
    (ap (map g.U.LogicalUnits.seen) c.reserve_exact.ensures.items ∙ ap (λ (v : TargetValue). v.seen) c.self.view_is)
    c.in-Err.ensures.grounds c.in-Err.ensures.turned_back
