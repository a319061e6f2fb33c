-- What is read of an entry that spells a registrant.
use Rattle.std.proofs.Common.{◌≡◌, ℕ, ◌+◌, ◌-◌, ◌^◌, ◌%◌, ◌<◌, ◌≤◌, List, ◌∷◌, ◌++◌, length, take, drop}
use Rattle.std.proofs.Common.{replicate, slice_index, get_or, refl, sym, ◌∙◌, ap, subst, arith, length-append}
use Rattle.std.proofs.Common.{length-drop, length-take}
use Rattle.std.proofs.lemmas.List.{length-replicate, take_all, take_at, get_or-drop}
use Rattle.byteorder.specs.Endian.{big_bytes, big_number}
use Rattle.byteorder.specs.Numbers.{big_number-reads_back, big_from-lt}
use Rattle.scsi_types.specs.Nexus.{longest_name}
use Rattle.scsi_types.specs.declared.names.Group.{Group}
use Rattle.scsi_types.specs.declared.names.Group.TheVariants.{One, Two}
use Rattle.registrants.specs.Registry.{IsListed}
use Rattle.aptpl_format.specs.declared.slot.Slot.{Slot}
use Rattle.aptpl_format.specs.declared.slot.Slot.TheVariants.{First, Second}
use Rattle.aptpl_format.specs.declared.entry.Entry.{Entry}
use Rattle.aptpl_format.specs.declared.version.FileVersion.{FileVersion}
use Rattle.aptpl_format.specs.declared.version.FileVersion.TheVariants.{Version1, Version2}
use Rattle.aptpl_format.specs.Format.{entry_bytes, group_code, root_block, root_name, slot_number, version_bytes}
use Rattle.std.specs.Prelude.{Bool, true, false}

-- a root's name, version and slot
pub root_magic : (v : FileVersion) (slot : Slot) → take 8 (root_block v slot) ≡ root_name
unfolding root_block
root_magic Version1 First = refl
root_magic Version1 Second = refl
root_magic Version2 First = refl
root_magic Version2 Second = refl

pub root_version : (v : FileVersion) (slot : Slot) → take 2 (drop 8 (root_block v slot)) ≡ version_bytes v
unfolding root_block
root_version Version1 First = refl
root_version Version1 Second = refl
root_version Version2 First = refl
root_version Version2 Second = refl

root_slot : (v : FileVersion) (slot : Slot) → slice_index (root_block v slot) 10 ≡ slot_number slot
unfolding root_block
root_slot Version1 First = refl
root_slot Version1 Second = refl
root_slot Version2 First = refl
root_slot Version2 Second = refl

same_slot_number : (a b : Slot) → slot_number a ≡ slot_number b → a ≡ b
same_slot_number First First e = refl
same_slot_number Second Second e = refl
same_slot_number First Second e = absurd (cc)
same_slot_number Second First e = absurd (cc)

pub same_version : (v w : FileVersion) → version_bytes v ≡ version_bytes w → v ≡ w
same_version Version1 Version1 e = refl
same_version Version2 Version2 e = refl
same_version Version1 Version2 e = let n = ap (λ (b : List ℕ). slice_index b 1) e in absurd (cc)
same_version Version2 Version1 e = let n = ap (λ (b : List ℕ). slice_index b 1) e in absurd (cc)

-- a root names one version and one slot
pub one_version : (v w : FileVersion) (a b : Slot) → root_block v a ≡ root_block w b → v ≡ w
one_version v w a b e =
    same_version v w (sym (root_version v a) ∙ ap (λ (r : List ℕ). take 2 (drop 8 r)) e ∙ root_version w b)

pub one_slot : (v w : FileVersion) (a b : Slot) → root_block v a ≡ root_block w b → a ≡ b
one_slot v w a b e =
    same_slot_number a b (sym (root_slot v a) ∙ ap (λ (r : List ℕ). slice_index r 10) e ∙ root_slot w b)

-- an entry up to its zeros, and from the length of the name on
abbrev front_of : Entry → List ℕ
front_of e =
    big_bytes 8 e.registrant.key ++ big_bytes 2 (group_code e.registrant.nexus.group e.both)
    ++ big_bytes 6 e.registrant.nexus.port.isid ++ length e.registrant.nexus.port.name ∷ e.registrant.nexus.port.name

abbrev rest_of : Entry → List ℕ
rest_of e =
    length e.registrant.nexus.port.name ∷ e.registrant.nexus.port.name ++ replicate (256 - length (front_of e)) 0

-- the parts of an entry
pub key_read : (e : Entry) → IsListed e.registrant → big_number 8 (entry_bytes e) ≡ e.registrant.key
unfolding entry_bytes
key_read e listed =
    big_number-reads_back 8 e.registrant.key
    (big_bytes 2 (group_code e.registrant.nexus.group e.both) ++ (big_bytes 6 e.registrant.nexus.port.isid ++ rest_of e))
    listed.key

pub code_read : (e : Entry) → slice_index (entry_bytes e) 9 ≡ group_code e.registrant.nexus.group e.both
unfolding entry_bytes
code_read e = of e.registrant.nexus.group e.both
  where
    of : (g : Group) (b : Bool) → group_code g b % 256 ≡ group_code g b
    of One true = refl
    of Two true = refl
    of One false = refl
    of Two false = refl

pub isid_read : (e : Entry) → IsListed e.registrant
    → big_number 6 (drop 10 (entry_bytes e)) ≡ e.registrant.nexus.port.isid
unfolding entry_bytes
isid_read e listed = big_number-reads_back 6 e.registrant.nexus.port.isid (rest_of e) listed.port.isid

pub length_read : (e : Entry) → slice_index (entry_bytes e) 16 ≡ length e.registrant.nexus.port.name
unfolding entry_bytes
length_read e = refl

pub name_read : (e : Entry)
    → take (length e.registrant.nexus.port.name) (drop 17 (entry_bytes e)) ≡ e.registrant.nexus.port.name
unfolding entry_bytes
name_read e = take_at e.registrant.nexus.port.name _ (length e.registrant.nexus.port.name) refl

-- an ISID that is read of six bytes fits them
pub isid_fits : (entry : List ℕ) (isid : ℕ) → length entry ≡ 256 → ((k : ℕ) → get_or entry k 0 < 256)
    → isid ≡ big_number 6 (take (length entry - 10) (drop 10 entry)) → isid < 2 ^ 48
isid_fits entry isid long bytes is =
    let whole : take (length entry - 10) (drop 10 entry) ≡ drop 10 entry =
    take_all (length entry - 10) (drop 10 entry) (omega (arith, length-drop 10 entry)) in
    let lt : big_number 6 (drop 10 entry) < 256 ^ 6 =
    big_from-lt 0 6 (drop 10 entry)
    (λ (k : ℕ). subst (λ (v : ℕ). v < 256) (sym (get_or-drop 10 entry k 0)) (bytes (10 + k))) in
    subst (λ (v : ℕ). v < 2 ^ 48) (sym (is ∙ ap (big_number 6) whole)) lt

pub isid_read_whole : (entry : List ℕ) (isid : ℕ) → isid ≡ big_number 6 (take (length entry - 10) (drop 10 entry))
    → isid ≡ big_number 6 (drop 10 entry)
isid_read_whole entry isid is =
    is ∙ ap (big_number 6) (take_all (length entry - 10) (drop 10 entry) (omega (arith, length-drop 10 entry)))

-- and the name has its length
pub name_long : (entry name : List ℕ) (long : ℕ) → length entry ≡ 256 → long ≤ longest_name
    → name ≡ take (17 + long - 17) (drop 17 entry) → length name ≡ long
name_long entry name long whole few is =
    ap length is ∙ (let e : length (take (17 + long - 17) (drop 17 entry)) ≡ long =
    omega (arith, length-take (17 + long - 17) (drop 17 entry), length-drop 17 entry, whole, few) in e)

pub name_read_whole : (entry name : List ℕ) (long : ℕ) → long ≡ slice_index entry 16
    → name ≡ take (17 + long - 17) (drop 17 entry) → name ≡ take (slice_index entry 16) (drop 17 entry)
name_read_whole entry name long at is =
    let e : 17 + long - 17 ≡ slice_index entry 16 = omega (arith, at) in
    is ∙ ap (λ (m : ℕ). take m (drop 17 entry)) e

-- an entry has its length
pub length_entry : (e : Entry) → IsListed e.registrant → length (entry_bytes e) ≡ 256
unfolding entry_bytes
length_entry e listed =
    let short = listed.port.short in
    omega (
      arith,
      length-append (front_of e) (replicate (256 - length (front_of e)) 0),
      length-replicate {A = ℕ} (256 - length (front_of e)) 0,
    )
