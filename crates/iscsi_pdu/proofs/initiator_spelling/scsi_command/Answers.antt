use Rattle.std.proofs.Common.{ℕ, List, ◌++◌, take, ap, ◌∙◌, arith}
use Rattle.std.proofs.lemmas.List.{append-nil}
use Rattle.iscsi_pdu.specs.declared.header.InitiatorHeader.TheVariants.{ScsiCommand}
use Rattle.iscsi_pdu.specs.Spelling.{initiator_bhs}
use Rattle.iscsi_pdu.proofs.Cells.{cells-whole}
use Rattle.iscsi_pdu.proofs.initiator_spelling.scsi_command.Goals as goal

pub returns : goal.returns
unfolding initiator_bhs
returns c =
    let p = c.args.p.now in
    rw (
      c.copy_from_slice.ensures.after,
      c.bhs_with-bhs.ensures,
      c.initiator_words-words.ensures,
      c.flag_value.ensures,
      c.flag_value-2.ensures,
      c.flag_value-opcode.ensures,
    )
    (ap (λ (x : List ℕ). take 32 (initiator_bhs (ScsiCommand p) c.args.len) ++ x) (append-nil p.cdb
    ∙ cells-whole 16 p.cdb (omega arith)))
