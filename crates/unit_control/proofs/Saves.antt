-- Saves that failed, and PERSISTENT RESERVE OUT with them.
use Rattle.std.proofs.Common.{◌≡◌, ◌<◌, true, List, [], ◌∷◌, ◌++◌, length, All}
use Rattle.std.proofs.Common.{inr, sym, ap, ◌∙◌, subst, arith}
use Rattle.std.specs.Prelude.{Contains}
use Rattle.std.proofs.lemmas.List.Elements.{All-contains_itself, All-push, Contains-append_left, Contains-append_right}
use Rattle.aptpl_file.specs.Lasts.{left_by_fault}
use Rattle.aptpl_file.specs.declared.fault.SaveFault.{SaveFault}
use Rattle.aptpl_file.specs.declared.fault.SaveFault.TheVariants.{OldRoot, IdleSlot, NewRoot}
use Rattle.reservations.specs.Notice.{Told}
use Rattle.registrants.specs.Registry.{RecordValue, RegistryValue, to_last}
use Rattle.reservations.specs.Table.{Effect, Done}
use Rattle.scsi_types.specs.ReplyValue.{ReplyValue, check}
use Rattle.scsi_types.specs.Sense.{internal_target_failure}
use Rattle.unit_control.specs.Reserve.{MayFailToSave}
use Rattle.unit_control.specs.Saving.{IsReserved, with_doubt}
use Rattle.unit_control.specs.State.{ControlValue}

-- ---- what a crash may leave after a save that failed

none_of : {X : Type 0} (P : X → Type 0) → All P []
none_of P k d lt = absurd (omega arith)

pub some_left : (fault : SaveFault) (records : List RecordValue) (saved : RecordValue) → 0 < length records
    → 0 < length (left_by_fault fault records saved)
some_left OldRoot records saved some = some
some_left IdleSlot [] saved some = absurd (omega arith)
some_left IdleSlot (r ∷ rs) saved some = omega arith
some_left NewRoot [] saved some = omega arith
some_left NewRoot (r ∷ rs) saved some = omega arith

module _ (r : RecordValue) (rs : List RecordValue) (saved : RecordValue) where
  abbrev ever : List RecordValue
  ever = (r ∷ rs) ++ saved ∷ []

  first_among : Contains ever r
  first_among = Contains-append_left (r ∷ rs) (saved ∷ []) r (All-contains_itself (r ∷ rs) 0 r (omega arith))

  saved_among : Contains ever saved
  saved_among = Contains-append_right (r ∷ rs) (saved ∷ []) saved (All-contains_itself (saved ∷ []) 0 saved (omega arith))

  one_among : All (Contains ever) (r ∷ [])
  one_among = All-push (Contains ever) [] r (none_of (Contains ever)) first_among

  two_among : All (Contains ever) (r ∷ saved ∷ [])
  two_among = All-push (Contains ever) (r ∷ []) saved one_among saved_among

pub among_left : (fault : SaveFault) (records : List RecordValue) (saved : RecordValue) → 0 < length records
    → All (Contains (records ++ saved ∷ [])) (left_by_fault fault records saved)
among_left OldRoot records saved some =
    λ k d lt. Contains-append_left records (saved ∷ []) _ (All-contains_itself records k d lt)
among_left IdleSlot [] saved some = absurd (omega arith)
among_left IdleSlot (r ∷ rs) saved some = one_among r rs saved
among_left NewRoot [] saved some = absurd (omega arith)
among_left NewRoot (r ∷ rs) saved some = two_among r rs saved

-- it could not be saved
pub lost : (c now : ControlValue) (e : Effect) (registry : RegistryValue) (told : List Told) (saved : RecordValue)
    (fault : SaveFault) (reply : ReplyValue) → e ≡ Done registry told → saved ≡ to_last registry
    → (c.lasting ≡ saved ∷ [] → c.doubt ≡ true) → 0 < length c.lasting
    → now ≡ with_doubt c (left_by_fault fault c.lasting saved) → reply ≡ check internal_target_failure
    → IsReserved c e now reply
lost c now e registry told saved fault reply does is needed some leaves says =
    let after : now.lasting ≡ left_by_fault fault c.lasting saved = ap (λ (d : ControlValue). d.lasting) leaves in
    let may : MayFailToSave c (Done registry told) (left_by_fault fault c.lasting (to_last registry)) =
    subst (λ (s : RecordValue). MayFailToSave c (Done registry told) (left_by_fault fault c.lasting s)) is
    (record {
      needed = λ h. needed (h ∙ ap (λ (s : RecordValue). s ∷ []) (sym is));
      some = some_left fault c.lasting saved some;
      among = subst
          (λ (s : RecordValue). All (Contains (c.lasting ++ s ∷ [])) (left_by_fault fault c.lasting saved)) is
          (among_left fault c.lasting saved some);
    }) in
    let here : MayFailToSave c e now.lasting =
    subst (λ (f : Effect). MayFailToSave c f now.lasting) (sym does)
    (subst (MayFailToSave c (Done registry told)) (sym (after ∙ ap (left_by_fault fault c.lasting) is)) may) in
    inr (here, leaves ∙ ap (with_doubt c) (sym after), says)
