use Rattle.std.proofs.Common.{◌≡◌, drop}
use Rattle.std.specs.Prelude.{find}
use Rattle.login.specs.Table.{has_name}
use Rattle.login.proofs.key.first_named.Given as goal

-- none of the keys before the place has the name
abbrev pub invariant-loop-key : goal.invariant-loop-key
invariant-loop-key l = find (has_name l.name) (drop l.key-index l.keys) ≡ find (has_name l.name) l.keys
