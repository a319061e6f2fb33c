-- The escaped bytes so far stand behind the line.
use Rattle.std.proofs.Common.{◌≡◌, ◌++◌, take}
use Rattle.std.specs.String.{string_bytes}
use Rattle.std.specs.List.{flat_map}
use Rattle.events.specs.Text.{escaped_by}
use Rattle.events.proofs.line.escape_by.Given as goal

abbrev pub invariant-loop-b : goal.invariant-loop-b
invariant-loop-b l = string_bytes l.line ≡ string_bytes l.initial.line ++ flat_map (escaped_by l.front) (take l.b-index l.name)
