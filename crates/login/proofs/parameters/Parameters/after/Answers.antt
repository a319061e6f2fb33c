use Rattle.std.proofs.Common.{ℕ, ◌≤◌, subst, sym}
use Rattle.login.specs.Text.{pairs}
use Rattle.login.proofs.InRange.{burst, segment}
use Rattle.login.proofs.parameters.Parameters.after.Goals as goal

pub returns-clause-lengths : goal.returns-clause-lengths
returns-clause-lengths c = (
  subst (λ (n : ℕ). 512 ≤ n) (sym c.number.ensures) (burst (pairs c.args.text.now)),
  subst (λ (n : ℕ). 512 ≤ n) (sym c.number-3.ensures) (segment (pairs c.args.text.now)),
)
