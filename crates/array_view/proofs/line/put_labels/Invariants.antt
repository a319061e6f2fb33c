-- What the text has, and behind it the labels that are left.
use Rattle.std.proofs.Common.{◌≡◌, drop}
use Rattle.std.specs.String.{string_bytes}
use Rattle.array_view.specs.Text.{labels_onto}
use Rattle.array_view.proofs.line.put_labels.Given as goal

abbrev pub invariant-loop-label : goal.invariant-loop-label
invariant-loop-label l =
    labels_onto (string_bytes l.text) (drop l.label-index l.labels) ≡ labels_onto (string_bytes l.initial.text) l.labels
