use Rattle.std.proofs.Common.{◌≡◌, ◌&&◌, ◌∙◌, ℕ, subst}
use Rattle.std.specs.Prelude.{IfErr, IfOk}
use Rattle.unit_history.specs.Calls.{HasRetired, WasGone}
use Rattle.array_units.proofs.units.Units.retire.Goals as goal

pub returns-clause-done : goal.returns-clause-done
returns-clause-done g c =
    subst (λ (u : ℕ). IfOk c.retire.result (λ f. (f.0 ≡ u)
    × HasRetired (g.O.Opener.claims && g.B.Blocks.claims) (g.N.ArrayNaming.opening u) c.args.pass.pass f.1))
    (c.at.ensures ∙ c.place-place.ensures.place) c.retire.ensures.done

pub returns-clause-gone : goal.returns-clause-gone
returns-clause-gone g c =
    subst (λ (u : ℕ). IfErr c.retire.result (λ p. (p.place ≡ u)
    × WasGone (g.O.Opener.claims && g.B.Blocks.claims) (g.N.ArrayNaming.opening u) c.args.pass.pass p.pass))
    (c.at.ensures ∙ c.place-place.ensures.place) c.retire.ensures.gone
