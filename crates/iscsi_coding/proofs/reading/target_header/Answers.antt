use Rattle.std.proofs.Common.{◌≡◌, List, ℕ, true, refl, sym, ap, subst, ◌∙◌, arith}
use Rattle.std.proofs.lemmas.List.{take_all}
use Rattle.iscsi_pdu.specs.declared.header.Header.TheVariants.{Target}
use Rattle.iscsi_pdu.specs.declared.header.TargetHeader.{TargetHeader}
use Rattle.iscsi_pdu.specs.Number.{three_at}
use Rattle.iscsi_pdu.specs.Spelling.{target_bhs}
use Rattle.iscsi_pdu.specs.Pdu.{HasFields}
use Rattle.iscsi_pdu.proofs.OneHeader.{one-target}
use Rattle.iscsi_coding.proofs.reading.target_header.Goals as goal

pub returns-else-is_same-clause-fault : goal.returns-else-is_same-clause-fault
returns-else-is_same-clause-fault c =
    let b = c.args.b.now in
    let k = c.read_target-header.result in (
      refl,
      (
        c.requires.opcode,
        λ h front.
            let fields : HasFields b (Target h) = subst (λ (x : List ℕ). HasFields x (Target h))
            (take_all 48 b (omega arith)) front in
            let one : h ≡ k = one-target b h k fields.0 c.read_target-header.ensures in
            let written : b ≡ c.spell_target.result =
            fields.1 ∙ ap (λ (x : TargetHeader). target_bhs x (three_at b 5)) one
            ∙ ap (target_bhs k) (sym c.requires.same_length) ∙ sym c.spell_target.ensures in
            let yes : c.is_same.result ≡ true = c.is_same.ensures.1 written in
            absurd (cc (yes, c.if-is_same.false)),
      ),
    )
