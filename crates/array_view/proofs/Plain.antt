-- A line has printing characters alone, whatever a host or a path is called.
use Rattle.std.proofs.Common.{◌≡◌, ℕ, List, [], ◌∷◌, ◌++◌, true, refl}
use Rattle.std.specs.Prelude.{codes}
use Rattle.std.specs.Fmt.{decimal}
use Rattle.events.specs.Text.{are_plain, hex}
use Rattle.events.proofs.PlainLaws.{hexed, join, number}
use Rattle.events.proofs.PlainLaws.{many as escapes}
use Rattle.array_view.specs.Text.{word, label_onto, labels_onto, amount_onto, heading_onto, sample_onto}
use Rattle.array_view.specs.declared.line.Label.{Label}
use Rattle.array_view.specs.declared.line.Label.TheVariants as labels
use Rattle.array_view.specs.declared.line.Amount.{Amount}
use Rattle.array_view.specs.declared.line.Amount.TheVariants as amounts

many : (bytes : List ℕ) → are_plain (word bytes) ≡ true
many bytes = escapes (codes "\\\\x") bytes refl

pair : (text name between value : List ℕ)
    → are_plain text ≡ true → are_plain between ≡ true → are_plain value ≡ true
    → are_plain ((((text ++ word name) ++ between) ++ value) ++ codes "\",") ≡ true
pair text name between value pt pb pv =
    join (((text ++ word name) ++ between) ++ value) (codes "\",")
    (join ((text ++ word name) ++ between) value
    (join (text ++ word name) between (join text (word name) pt (many name)) pb) pv) refl

label : (text : List ℕ) (l : Label) → are_plain text ≡ true → are_plain (label_onto text l) ≡ true
label text (labels.Number name n) p = pair text name.now (codes "=\"") (decimal n) p refl (number n)
label text (labels.Hex name n) p = pair text name.now (codes "=\"0x") (hex n) p refl (hexed n)
label text (labels.Word name value) p = pair text name.now (codes "=\"") (word value.now) p refl (many value.now)
label text (labels.Name name value) p = pair text name.now (codes "=\"") (word value.now) p refl (many value.now)

all_labels : (text : List ℕ) (ls : List Label) → are_plain text ≡ true → are_plain (labels_onto text ls) ≡ true
all_labels text [] p = p
all_labels text (l ∷ ls) p = all_labels (label_onto text l) ls (label text l p)

amount : (text : List ℕ) (a : Amount) → are_plain text ≡ true → are_plain (amount_onto text a) ≡ true
amount text (amounts.Count n) p = join text (decimal n) p (number n)
amount text (amounts.Micros n) p = join (text ++ decimal n) (codes "e-6") (join text (decimal n) p (number n)) refl

pub heading : (what name words : List ℕ) → are_plain what ≡ true → are_plain (heading_onto [] what name words) ≡ true
heading what name words p =
    join ((what ++ word name) ++ codes " ") (word words)
    (join (what ++ word name) (codes " ") (join what (word name) p (many name)) refl) (many words)

pub sample : (name : List ℕ) (ls : List Label) (a : Amount) → are_plain (sample_onto [] name ls a) ≡ true
sample name ls a =
    let front : List ℕ = word name ++ codes "{" in
    let pf : are_plain front ≡ true = join (word name) (codes "{") (many name) refl in
    amount (labels_onto front ls ++ codes "} ") a (join (labels_onto front ls) (codes "} ") (all_labels front ls pf) refl)
