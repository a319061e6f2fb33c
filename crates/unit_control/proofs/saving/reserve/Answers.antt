use Rattle.std.proofs.lemmas.Grind.{common_steps, elements, moves, pieces}
use Rattle.std.proofs.Common.{refl, arith}
use Rattle.unit_control.proofs.Saves.{lost}
use Rattle.unit_control.proofs.saving.reserve.Goals as goal

pub returns-in-Err-clause-reserved : goal.returns-in-Err-clause-reserved
returns-in-Err-clause-reserved g c =
    let does = rw c.in-Good.is at c.attempt.ensures in
    lost _ _ _ _ _ _ c.in-Err.fault _ does refl (c.is_to_save.ensures.needed c.if-is_to_save.true) c.fail.ensures.ever
    c.fail.ensures.failed c.check.ensures

pub returns-in-Err-clause-stays : goal.returns-in-Err-clause-stays
returns-in-Err-clause-stays g c = grind (arith, common_steps) steps 2000000

pub returns-in-Err-clause-kept : goal.returns-in-Err-clause-kept
returns-in-Err-clause-kept g c = grind (arith, moves) steps 2000000

pub returns-in-Err-clause-fine : goal.returns-in-Err-clause-fine
returns-in-Err-clause-fine g c = grind (arith, elements) steps 2000000

pub returns-after-is_to_save-clause-stays : goal.returns-after-is_to_save-clause-stays
returns-after-is_to_save-clause-stays g c = search (pieces, arith) depth 5 fits 300

pub returns-after-is_to_save-clause-stop : goal.returns-after-is_to_save-clause-stop
returns-after-is_to_save-clause-stop g c = search (pieces, arith) depth 5 fits 300

pub returns-after-is_to_save-clause-counted : goal.returns-after-is_to_save-clause-counted
returns-after-is_to_save-clause-counted g c = search (pieces, arith) depth 5 fits 300

pub returns-in-Conflict-clause-stop : goal.returns-in-Conflict-clause-stop
returns-in-Conflict-clause-stop g c = grind (arith, common_steps) steps 2000000

pub returns-in-Conflict-clause-fine : goal.returns-in-Conflict-clause-fine
returns-in-Conflict-clause-fine g c = grind (arith, common_steps) steps 2000000

pub returns-in-Illegal-clause-stop : goal.returns-in-Illegal-clause-stop
returns-in-Illegal-clause-stop g c = grind (arith, common_steps) steps 4000000

pub returns-in-Illegal-clause-counted : goal.returns-in-Illegal-clause-counted
returns-in-Illegal-clause-counted g c = search (pieces, arith) depth 5 fits 300

pub returns-in-Illegal-clause-fine : goal.returns-in-Illegal-clause-fine
returns-in-Illegal-clause-fine g c = search (pieces, arith) depth 5 fits 300
