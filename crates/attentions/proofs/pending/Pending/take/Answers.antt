use Rattle.std.proofs.Common.{◌-◌, ◌≤◌, ◌<◌, take, drop, length, ◌∙◌, ap, arith}
use Rattle.attentions.specs.Queue.{without_repeats}
use Rattle.attentions.proofs.Repeats.{rest_of}
use Rattle.attentions.proofs.Slots.{rotated}
use Rattle.attentions.proofs.pending.Pending.take.Goals as goal

pub invariant_of-self : goal.invariant_of-self
invariant_of-self c =
    let fits : c.self.inside.count ≤ length c.self.inside.codes = omega (arith, c.self.invariant.0, c.self.invariant.1) in
    let some : 0 < c.self.inside.count = omega (arith, c.if-self-eq0.false) in
    let later = ap (λ s. take (c.self.inside.count - 1) s) c.rotate_left.ensures.after ∙ rotated _ _ some fits in (
      c.rotate_left.ensures.len ∙ c.self.invariant.0,
      omega (arith, c.self.invariant.1),
      ap without_repeats later ∙ rest_of (take c.self.inside.count c.self.inside.codes) c.self.invariant.2,
    )

pub returns-clause-later : goal.returns-clause-later
returns-clause-later c =
    let fits : c.self.inside.count ≤ length c.self.inside.codes = omega (arith, c.self.invariant.0, c.self.invariant.1) in
    let some : 0 < c.self.inside.count = omega (arith, c.if-self-eq0.false) in
    ap (λ s. take (c.self.inside.count - 1) s) c.rotate_left.ensures.after ∙ rotated _ _ some fits
    ∙ ap (λ s. drop 1 s) c.self.view_is
