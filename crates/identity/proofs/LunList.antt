-- A list of LUNs that is filled from its front.
use Rattle.std.proofs.Common.{◌≡◌, ℕ, zero, suc, ◌+◌, ◌-◌, ◌*◌, ◌<◌, inl, inr, List, [], ◌∷◌, ◌++◌, length}
use Rattle.std.proofs.Common.{take, drop, set, replicate, length-append, append_assoc, refl, sym, ◌∙◌, ap}
use Rattle.std.proofs.Common.{arith}
use Rattle.std.proofs.lemmas.List.{set-append_right, drop-append-le, take-append-le, length-drop}
use Rattle.std.proofs.lemmas.Bool.{cases_lt}
use Rattle.std.proofs.Math.Seq.{take-append_seam, drop-append_seam}
use Rattle.scsi_types.specs.declared.names.Place.{Place}
use Rattle.scsi_types.specs.declared.pages.LunSelect.{LunSelect}
use Rattle.scsi_types.specs.declared.pages.LunSelect.TheVariants.{Units, WellKnown, All}
use Rattle.byteorder.specs.Endian.{big_bytes, big_number}
use Rattle.identity.specs.Table.{Row, Number, Reserved, row_bytes, spell}
use Rattle.identity.specs.Luns.{lun, luns_below, lun_list, selected}

pub spell-append : (a b : List Row) → spell (a ++ b) ≡ spell a ++ spell b
spell-append [] b = refl
spell-append (row ∷ a) b =
    ap (λ s. row_bytes row ++ s) (spell-append a b) ∙ sym (append_assoc (row_bytes row) (spell a) (spell b))

pub one_more : (unit : ℕ) → spell (luns_below (suc unit)) ≡ spell (luns_below unit) ++ spell (lun unit)
one_more unit = spell-append (luns_below unit) (lun unit)

pub eight_each : (units : ℕ) → length (spell (luns_below units)) ≡ 8 * units
eight_each zero = refl
eight_each (suc unit) =
    ap length (one_more unit)
    ∙ length-append (spell (luns_below unit)) (spell (lun unit))
    ∙ omega (arith, eight_each unit)

eight_zeros : (rest : ℕ) → replicate {A = ℕ} (8 + rest) 0 ≡ 0 ∷ 0 ∷ 0 ∷ 0 ∷ 0 ∷ 0 ∷ 0 ∷ 0 ∷ replicate rest 0
eight_zeros rest =
    let e : 8 + rest ≡ suc (suc (suc (suc (suc (suc (suc (suc rest))))))) = omega arith in
    ap (λ n. replicate {A = ℕ} n 0) e

-- the next LUN is written
pub written : (front : List ℕ) (unit rest : ℕ) → length front ≡ 8
    → set (front ++ spell (luns_below unit) ++ replicate (8 + rest) 0) (8 + 8 * unit + 1) unit
    ≡ front ++ spell (luns_below (suc unit)) ++ replicate rest 0
written front unit rest eight =
    let before : List ℕ = front ++ spell (luns_below unit) in
    let joined = length-append front (spell (luns_below unit)) in
    let long : length before ≡ 8 + 8 * unit = joined ∙ omega (arith, eight_each unit, eight) in
    let place : 8 + 8 * unit + 1 - (8 + 8 * unit) ≡ 1 = omega arith in
    set-append_right before (replicate (8 + rest) 0) (8 + 8 * unit) (8 + 8 * unit + 1) unit long (omega arith)
    ∙ ap (λ zeros. before ++ set zeros (8 + 8 * unit + 1 - (8 + 8 * unit)) unit) (eight_zeros rest)
    ∙ ap (λ k. before ++ set (0 ∷ 0 ∷ 0 ∷ 0 ∷ 0 ∷ 0 ∷ 0 ∷ 0 ∷ replicate rest 0) k unit) place
    ∙ sym (append_assoc before (spell (lun unit)) (replicate rest 0))
    ∙ ap (λ s. s ++ replicate rest 0) (append_assoc front (spell (luns_below unit)) (spell (lun unit)))
    ∙ ap (λ s. front ++ s ++ replicate rest 0) (sym (one_more unit))

-- what is in front of the zeros
pub filled : (front : List ℕ) (units rest : ℕ) → length front ≡ 8
    → take (8 + 8 * units) (front ++ spell (luns_below units) ++ replicate rest 0) ≡ front ++ spell (luns_below units)
filled front units rest eight =
    let before : List ℕ = front ++ spell (luns_below units) in
    let joined = length-append front (spell (luns_below units)) in
    let long : 8 + 8 * units ≡ length before = omega (arith, joined, eight_each units, eight) in
    ap (λ n. take n (before ++ replicate rest 0)) long ∙ take-append_seam before (replicate rest 0)

-- the header before the LUNs of so many units
abbrev pub head : ℕ → List ℕ
head units = big_bytes 4 (8 * units) ++ replicate 4 0

-- a list whose LUNs are all written, as its table says it
pub whole : (units listed : ℕ) (list : List ℕ) → listed ≡ units
    → list ≡ head units ++ spell (luns_below listed) ++ replicate (8 * (255 - listed)) 0
    → take (8 + 8 * units) list
    ≡ spell (Number "LUN LIST LENGTH" 4 (8 * units) ∷ Reserved 4 ∷ luns_below units)
whole units listed list all is =
    ap (λ s. take (8 + 8 * units) s) is
    ∙ ap (λ n. take (8 + 8 * units) (head units ++ spell (luns_below n) ++ replicate {A = ℕ} (8 * (255 - n)) 0)) all
    ∙ filled (head units) units (8 * (255 - units)) refl

-- the LUN at a place of the list
pub lun_at : (units unit : ℕ) → unit < units → take 8 (drop (8 * unit) (spell (luns_below units))) ≡ spell (lun unit)
lun_at zero unit below = absurd (omega arith)
lun_at (suc last) unit below = elim (cases_lt unit last) [
  | inl before ↦
      let xs : List ℕ = spell (luns_below last) in
      let long : length xs ≡ 8 * last = eight_each last in
      ap (λ s. take 8 (drop (8 * unit) s)) (one_more last)
      ∙ ap (take 8) (drop-append-le (8 * unit) xs (spell (lun last)) (omega arith))
      ∙ take-append-le 8 (drop (8 * unit) xs) (spell (lun last)) (omega (arith, length-drop (8 * unit) xs))
      ∙ lun_at last unit before
  | inr past ↦
      let xs : List ℕ = spell (luns_below last) in
      let same : last ≡ unit = omega arith in
      let long : 8 * unit ≡ length xs = omega (arith, eight_each last) in
      ap (λ s. take 8 (drop (8 * unit) s)) (one_more last)
      ∙ ap (λ n. take 8 (drop n (xs ++ spell (lun last)))) long
      ∙ ap (take 8) (drop-append_seam xs (spell (lun last)))
      ∙ ap (λ n. spell (lun n)) same
]

-- behind the header
pub listed : (units unit : ℕ) → unit < units
    → take 8 (drop (8 + 8 * unit) (head units ++ spell (luns_below units))) ≡ spell (lun unit)
listed units unit below =
    let e : 8 + 8 * unit ≡ suc (suc (suc (suc (suc (suc (suc (suc (8 * unit)))))))) = omega arith in
    ap (λ n. take 8 (drop n (head units ++ spell (luns_below units)))) e ∙ lun_at units unit below

few : (place : Place) (select : LunSelect) → place.units < 256 → selected place select < 256
few place Units h = h
few place WellKnown h = omega arith
few place All h = h

pub counted : (place : Place) (select : LunSelect) → place.units < 256
    → big_number 4 (spell (lun_list place select)) + 8 ≡ length (spell (lun_list place select))
counted place select h = omega (arith, eight_each (selected place select), few place select h)
