use Rattle.array.proofs.Pairs.{disks_of, names_of}
use Rattle.array.proofs.served.serve.Given as goal

abbrev pub ghosts-serve_named-N-ArrayNaming : goal.ghosts-serve_named-N-ArrayNaming
ghosts-serve_named-N-ArrayNaming g a = names_of g.B.Blocks.contents a.array.units.items

abbrev pub ghosts-serve_named-N-Disks : goal.ghosts-serve_named-N-Disks
ghosts-serve_named-N-Disks g a = disks_of (λ new. g.B.OnDisk.disk new.unit.device) a.array.units.items
