use Rattle.std.proofs.Common.{◌&&◌, ◌∙◌, ℕ, subst}
use Rattle.std.specs.Prelude.{MatchBool}
use Rattle.unit_history.specs.Calls.{HasReset, WasGone}
use Rattle.array_units.proofs.units.Units.reset.Goals as goal

pub returns-clause-done : goal.returns-clause-done
returns-clause-done g c =
    let r = c.reset.result in
    subst (λ (u : ℕ). MatchBool r.1
    (HasReset (g.O.Opener.claims && g.B.Blocks.claims) (g.N.ArrayNaming.opening u) c.args.pass.pass r.0.pass)
    (WasGone (g.O.Opener.claims && g.B.Blocks.claims) (g.N.ArrayNaming.opening u) c.args.pass.pass r.0.pass))
    (c.at.ensures ∙ c.place-place.ensures.place) c.reset.ensures.done
