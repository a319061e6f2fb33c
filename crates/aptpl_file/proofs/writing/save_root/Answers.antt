use Rattle.std.proofs.Common.{◌∙◌, ℕ, List, [], ◌∷◌, ap, arith, subst}
use Rattle.std.proofs.lemmas.Result.{on_ok_weaker}
use Rattle.block_file.specs.CutLaws.{run_of_one}
use Rattle.block_file.specs.Disk.{or_new, Adds}
use Rattle.block_file.specs.Moment.{StopsAmong}
use Rattle.aptpl_file.proofs.SlotWrites.{root_lasts}
use Rattle.aptpl_file.proofs.writing.save_root.Goals as goal

pub returns-clause-lasts : goal.returns-clause-lasts
returns-clause-lasts g c = λ h.
    on_ok_weaker c.save_run.result
    (root_lasts c.args.version c.args.slot c.root_block.result (g.B.Blocks.contents c.args.device.now)
    (g.B.Blocks.may_hold c.save_run.new.device) c.root_block.ensures (omega arith)
    (omega (arith, g.met.B.Blocks.sized c.args.device.now h)))
    (c.save_run.ensures.lasts h)

pub returns-clause-crash : goal.returns-clause-crash
returns-clause-crash g c = λ h.
    subst
    (λ (bs : List (List ℕ)).
    Adds 0 bs (g.B.Blocks.may_hold c.args.device.now) (g.B.Blocks.may_hold c.save_run.new.device))
    (run_of_one c.root_block.result (omega arith) ∙ ap (λ (b : List ℕ). b ∷ []) c.root_block.ensures)
    (c.save_run.ensures.crash h)

pub returns-clause-stop : goal.returns-clause-stop
returns-clause-stop g c = λ h m.
    subst
    (λ (bs : List (List ℕ)). StopsAmong g.B.Blocks.moment g.B.Blocks.left_since g.B.Blocks.size
    (or_new 0 bs (g.B.Blocks.may_hold c.args.device.now)) c.args.device.now c.save_run.new.device)
    (run_of_one c.root_block.result (omega arith) ∙ ap (λ (b : List ℕ). b ∷ []) c.root_block.ensures)
    (c.save_run.ensures.stop h m)
