use Rattle.std.proofs.Common.{◌∙◌, ◌+◌, ◌*◌, ℕ, List, ap, arith, take, drop}
use Rattle.block_file.specs.Disk.{block_at}
use Rattle.block_file.proofs.ReadBack.{range_part}
use Rattle.aptpl_file.proofs.LastsLaws.{slot_within}
use Rattle.aptpl_file.proofs.reading.read_bytes.Goals as goal

pub returns-clause-read : goal.returns-clause-read
returns-clause-read g c = λ h k lt.
    let disk = g.B.Blocks.contents c.args.device.now in
    ap (λ (b : List ℕ). take 512 (drop (512 * k) b)) (c.in-Ok.ensures.read h)
    ∙ range_part (g.B.Blocks.contents c.args.device.now) c.first_block.result 33 k
    (λ j small. g.met.B.Blocks.wide c.args.device.now j h (omega (arith, small, g.met.B.Blocks.sized c.args.device.now h)))
    (omega (arith, g.met.B.Blocks.sized c.args.device.now h, slot_within c.args.slot 32)) lt
    ∙ ap (λ (n : ℕ). block_at (g.B.Blocks.contents c.args.device.now) (n + k)) c.first_block.ensures
