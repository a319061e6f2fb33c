use Rattle.std.proofs.Common.{◌++◌, ◌∷◌, [], Some, List, length, ap, arith, ◌∙◌, length-append}
use Rattle.failover.specs.Mover.{Move, kept_in}
use Rattle.failover.proofs.Kept.{length_written, one_more}
use Rattle.failover.proofs.mover.Kept.push.Goals as goal

pub invariant_of-self : goal.invariant_of-self
invariant_of-self g c =
    let k = c.self.inside in
    let more = one_more k.moves k.count c.args.asked c.self.invariant.1 c.self.invariant.2
    (omega (arith, c.self.invariant.0, c.self.invariant.2, c.requires, ap length c.self.view_is)) in (
      length_written k.moves k.count (Some c.args.asked) ∙ c.self.invariant.0,
      more.1,
      omega (arith, ap length more.0, length-append (kept_in k.moves) (c.args.asked ∷ []), c.self.invariant.2),
    )

pub returns : goal.returns
returns g c =
    let k = c.self.inside in
    let more = one_more k.moves k.count c.args.asked c.self.invariant.1 c.self.invariant.2
    (omega (arith, c.self.invariant.0, c.self.invariant.2, c.requires, ap length c.self.view_is)) in
    more.0 ∙ ap (λ (ms : List Move). ms ++ c.args.asked ∷ []) c.self.view_is
