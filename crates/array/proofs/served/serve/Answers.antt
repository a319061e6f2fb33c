use Rattle.array.proofs.Pairs.{over_the_same}
use Rattle.array.proofs.served.serve.Goals as goal

pub serve_named-requires-clause-prepared : goal.serve_named-requires-clause-prepared
serve_named-requires-clause-prepared g c κs within = over_the_same _ _ _ c.requires.disks
