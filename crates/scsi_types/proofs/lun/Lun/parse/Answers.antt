use Rattle.std.proofs.Common.{inl, inr, sym, ◌∙◌}
use Rattle.std.proofs.lemmas.Bool.{eqb-true}
use Rattle.std.specs.Cmp.Lexicographic.{same_text}
use Rattle.scsi_types.proofs.Eight.{last_six}
use Rattle.scsi_types.proofs.lun.Lun.parse.Goals as goal
use Rattle.scsi_types.proofs.lun.Lun.parse.Goals.{then-bytes-eq0, else-bytes-eq0}

pub returns-then-eq : goal.returns-then-eq
returns-then-eq c =
    let e = last_six c.args.bytes.now _ c.told-bytes (same_text _ _ c.if-eq.ensures) in
    elim c.if-bytes-eq0.branch [
      | then-bytes-eq0 w ↦ inl (rw w.if-bytes-eq0.true at e)
      | else-bytes-eq0 w ↦ inr (rw (eqb-true _ _ (sym w.value-is ∙ c.if-bytes-eq64.true)) at e)
    ]
