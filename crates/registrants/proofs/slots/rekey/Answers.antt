use Rattle.std.proofs.Common.{◌<◌, length, sym, ◌∙◌, arith}
use Rattle.registrants.proofs.Rekeyed.{rekey_one, rekey_other}
use Rattle.registrants.proofs.slots.rekey.Goals as goal
use Rattle.registrants.proofs.slots.rekey.Goals.{then-same, else-same}

pub loop-x-preserved : goal.loop-x-preserved
loop-x-preserved c =
    let within : c.loop-x.x-index < length c.deref_mut-x-items.result.now = omega arith in
    elim c.if-same.branch [
      | then-same w ↦ rw w.x-items-is (rekey_one _ _ _ _ _ c.x-item.result within c.loop-x.invariant c.x-item.is
          (sym c.same.ensures.same ∙ w.if-same.true))
      | else-same w ↦ rw w.x-items-is (rekey_other _ _ _ _ _ c.x-item.result within c.loop-x.invariant c.x-item.is
          (sym c.same.ensures.same ∙ w.if-same.false))
    ]
