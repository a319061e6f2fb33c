use Rattle.std.proofs.Common.{List, ℕ, ap, sym, ◌∙◌, arith}
use Rattle.iscsi_pdu.specs.Number.{three_at}
use Rattle.iscsi_pdu.proofs.Grammar.{three-take}
use Rattle.iscsi_coding.proofs.Fronts.{bad-reserved-stands}
use Rattle.iscsi_coding.proofs.reading.header_of.Goals as goal

pub target_header-requires-clause-same_length : goal.target_header-requires-clause-same_length
target_header-requires-clause-same_length c = c.requires.same_length
    ∙ sym (ap (λ (b : List ℕ). three_at b 5) c.in-Some.ensures.cases.same ∙ three-take c.args.bytes.now 48 5 (omega arith))

pub returns-in-Err-clause-fault : goal.returns-in-Err-clause-fault
returns-in-Err-clause-fault c =
    bad-reserved-stands c.args.bytes.now c.in-Err.fault c.requires.bhs
    (rw c.in-Some.ensures.cases.same at c.in-Err.ensures.fault)
