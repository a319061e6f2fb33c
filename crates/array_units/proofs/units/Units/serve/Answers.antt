use Rattle.std.proofs.Common.{◌&&◌, ◌∙◌, ℕ, subst}
use Rattle.std.specs.Prelude.{IfErr, IfOk}
use Rattle.unit_history.specs.Calls.{HasRefused, HasServed, HasWorked}
use Rattle.unit_entries.specs.Devices.{devices}
use Rattle.array_units.proofs.units.Units.serve.Goals as goal

pub returns-clause-served : goal.returns-clause-served
returns-clause-served g c =
    let before = c.args.pass.pass in
    let r = c.serve.result in
    subst (λ (u : ℕ). IfOk r.1 (λ reply. HasServed (g.O.Opener.claims && g.B.Blocks.claims) (g.N.ArrayNaming.opening u) before
    r.0.pass c.args.by_group.now c.args.asked.now c.args.bytes.now reply)) (c.at.ensures ∙ c.place-place.ensures.place)
    c.serve.ensures.served

pub returns-clause-worked : goal.returns-clause-worked
returns-clause-worked g c =
    let r = c.serve.result in
    subst (λ (u : ℕ). IfOk r.1 (λ reply. HasWorked (devices g.B.Blocks g.F.Blocks g.O.Opener) (g.N.ArrayNaming.opening u)
    c.args.pass.pass.session c.args.asked.now c.args.bytes.now reply r.0.pass.seen))
    (c.at.ensures ∙ c.place-place.ensures.place) c.serve.ensures.worked

pub returns-clause-refused : goal.returns-clause-refused
returns-clause-refused g c =
    let before = c.args.pass.pass in
    let r = c.serve.result in
    subst (λ (u : ℕ). IfErr r.1 (λ why. HasRefused (g.O.Opener.claims && g.B.Blocks.claims) (g.N.ArrayNaming.opening u) before
    r.0.pass c.args.by_group.now c.args.asked.now c.args.bytes.now why)) (c.at.ensures ∙ c.place-place.ensures.place)
    c.serve.ensures.refused
