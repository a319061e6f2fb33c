use Rattle.std.proofs.Common.{◌≤◌, length, sym, ◌∙◌, ap, take, eq-eqb, eqb-true, arith}
use Rattle.attentions.proofs.Slots.{none_taken}
use Rattle.attentions.proofs.pending.Pending.is_empty.Goals as goal

pub returns : goal.returns
returns c =
    let fits : c.self.inside.count ≤ length c.self.inside.codes = omega (arith, c.self.invariant.0, c.self.invariant.1) in (
      λ zero_count. sym c.self.view_is ∙ ap (λ n. take n c.self.inside.codes) (eqb-true _ _ zero_count),
      λ none. eq-eqb _ _ (none_taken _ _ fits (c.self.view_is ∙ none)),
    )
