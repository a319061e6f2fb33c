use Rattle.std.proofs.Common.{◌≡◌, false, take, length-set, ◌∙◌, ap, arith}
use Rattle.attentions.specs.Queue.{is_pending, without_repeats, established}
use Rattle.attentions.proofs.Repeats.{one_more, goes_behind}
use Rattle.attentions.proofs.Slots.{Holds, free, put}
use Rattle.attentions.proofs.pending.Pending.establish.Goals as goal

pub bounds-self-inside-self-inside : goal.bounds-self-inside-self-inside
bounds-self-inside-self-inside c =
    let held : Holds c.self.inside.count c.self.inside.codes =
    record { five = c.self.invariant.0; within = c.self.invariant.1; distinct = c.self.invariant.2 } in
    let fresh : is_pending (take c.self.inside.count c.self.inside.codes) c.args.code ≡ false = grind arith in
    free _ _ c.args.code held fresh

pub invariant_of-self : goal.invariant_of-self
invariant_of-self c =
    let held : Holds c.self.inside.count c.self.inside.codes =
    record { five = c.self.invariant.0; within = c.self.invariant.1; distinct = c.self.invariant.2 } in
    let fresh : is_pending (take c.self.inside.count c.self.inside.codes) c.args.code ≡ false = grind arith in (
      length-set _ _ _ ∙ held.five,
      omega (arith, free _ _ c.args.code held fresh),
      ap without_repeats (put _ _ c.args.code held fresh)
          ∙ one_more c.args.code (take c.self.inside.count c.self.inside.codes) held.distinct fresh,
    )

pub returns-then-not-has : goal.returns-then-not-has
returns-then-not-has c =
    let held : Holds c.self.inside.count c.self.inside.codes =
    record { five = c.self.invariant.0; within = c.self.invariant.1; distinct = c.self.invariant.2 } in
    let fresh : is_pending (take c.self.inside.count c.self.inside.codes) c.args.code ≡ false = grind arith in
    put _ _ c.args.code held fresh ∙ goes_behind _ _ fresh ∙ ap (λ codes. established codes c.args.code) c.self.view_is
