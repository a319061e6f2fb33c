-- What the line has, and behind it the pieces that are left.
use Rattle.std.proofs.Common.{◌≡◌, drop, map}
use Rattle.std.specs.String.{string_bytes}
use Rattle.events.specs.Text.{joined, piece_text}
use Rattle.events.proofs.line.put.Given as goal

abbrev pub invariant-loop-piece : goal.invariant-loop-piece
invariant-loop-piece l =
    joined (string_bytes l.line) (map piece_text (drop l.piece-index l.pieces))
    ≡ joined (string_bytes l.initial.line) (map piece_text l.pieces)
