-- The text of what is measured, in the text form of Prometheus (0.0.4): a line behind the other.
use Rattle.std.specs.Prelude.{ℕ, List, [], ◌∷◌, ◌++◌, codes}
use Rattle.std.specs.List.{flat_map}
use Rattle.std.specs.Fmt.{decimal}
use Rattle.events.specs.Text.{escaped_by, hex}
use Rattle.array_view.specs.declared.line.Label.{Label}
use Rattle.array_view.specs.declared.line.Label.TheVariants as labels
use Rattle.array_view.specs.declared.line.Amount.{Amount}
use Rattle.array_view.specs.declared.line.Amount.TheVariants as amounts

-- a text that may come from outside, escaped as in the log, but a byte that is no printing character as two backslashes, which stand
-- for one, with `xHH` behind them
abbrev pub word : List ℕ → List ℕ
word bytes = flat_map (escaped_by (codes "\\\\x")) bytes

-- the name of a label, an equals sign, and its value between quotes; a comma may stand behind the last one too
abbrev pub label_onto : List ℕ → Label → List ℕ
label_onto text (labels.Number name n) = (((text ++ word name.now) ++ codes "=\"") ++ decimal n) ++ codes "\","
label_onto text (labels.Hex name n) = (((text ++ word name.now) ++ codes "=\"0x") ++ hex n) ++ codes "\","
label_onto text (labels.Word name value) = (((text ++ word name.now) ++ codes "=\"") ++ word value.now) ++ codes "\","
label_onto text (labels.Name name value) = (((text ++ word name.now) ++ codes "=\"") ++ word value.now) ++ codes "\","

abbrev pub labels_onto : List ℕ → List Label → List ℕ
labels_onto text [] = text
labels_onto text (label ∷ rest) = labels_onto (label_onto text label) rest

-- a count, or microseconds as seconds
abbrev pub amount_onto : List ℕ → Amount → List ℕ
amount_onto text (amounts.Count n) = text ++ decimal n
amount_onto text (amounts.Micros n) = (text ++ decimal n) ++ codes "e-6"

-- what a metric is, or its type, without the end of its line
abbrev pub heading_onto : List ℕ → List ℕ → List ℕ → List ℕ → List ℕ
heading_onto text what name words = (((text ++ what) ++ word name) ++ codes " ") ++ word words

-- a sample without its end
abbrev pub sample_onto : List ℕ → List ℕ → List Label → Amount → List ℕ
sample_onto text name labels amount = amount_onto (labels_onto ((text ++ word name) ++ codes "{") labels ++ codes "} ") amount
