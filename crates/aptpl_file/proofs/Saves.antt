-- The records that a crash may leave after a save, done or failed.
use Rattle.std.proofs.Common.{◌≡◌, ◌∙◌, ℕ, ◌+◌, ◌≤◌, Bool, true, false, List, [], ◌∷◌, ◌++◌, ap, refl, sym, subst, arith}
use Rattle.registrants.specs.Registry.{RecordValue, IsRecord}
use Rattle.block_file.specs.Disk.{or_new, NoMore}
use Rattle.aptpl_format.specs.declared.slot.Slot.{Slot}
use Rattle.aptpl_format.specs.declared.version.FileVersion.{FileVersion}
use Rattle.aptpl_format.specs.declared.version.FileVersion.TheVariants.{Version2}
use Rattle.aptpl_format.specs.Format.{file_blocks, first_block, other_slot, root_block}
use Rattle.aptpl_file.specs.Lasts.{FileValue, AreRecordsLeft, LastsAmong, RootLasts, SlotLasts, first_of}
use Rattle.aptpl_file.specs.Writes.{beside_slot}
use Rattle.aptpl_file.proofs.Stops.{decided_now, either_root, root_again, slot_beside, within_slot}

-- a device that may hold no more leaves no other record
among_within : (may new : ℕ → List ℕ → Type 0) (v : FileVersion) (slot : Slot) (undecided : Bool) (records : List RecordValue)
    → NoMore may new → AreRecordsLeft may v slot undecided records → AreRecordsLeft new v slot undecided records
among_within may new v slot undecided [] within among = absurd among
among_within may new v slot undecided (r ∷ []) within among = (
  among.0,
  record {
    root = λ value held. among.1.root value (within 0 value held);
    spelled = λ k value lt held. among.1.spelled k value lt (within (first_block slot + k) value held);
    is_record = among.1.is_record;
  },
)
among_within may new v slot undecided (r ∷ landed ∷ []) within among = (
  among.0,
  record {
    root = λ value held. among.1.root value (within 0 value held);
    spelled = λ k value lt held. among.1.spelled k value lt (within (first_block slot + k) value held);
    is_record = among.1.is_record;
    other_spelled = λ k value lt held. among.1.other_spelled k value lt (within (first_block (other_slot slot) + k) value held);
    other_is_record = among.1.other_is_record;
  },
)
among_within may new v slot undecided (r ∷ landed ∷ x ∷ xs) within among = absurd among

-- the same of a file of that version, slot and doubt
same_file : (may : ℕ → List ℕ → Type 0) (v w : FileVersion) (a b : Slot) (x y : Bool) (records : List RecordValue)
    → w ≡ v → b ≡ a → y ≡ x → AreRecordsLeft may v a x records → AreRecordsLeft may w b y records
same_file may v w a b x y records ev es eu among =
    subst (λ (u : Bool). AreRecordsLeft may w b u records) (sym eu)
    (subst (λ (s : Slot). AreRecordsLeft may w s x records) (sym es)
    (subst (λ (n : FileVersion). AreRecordsLeft may n a x records) (sym ev) among))

module _ {B : Type 0} (size : B → ℕ) (may_hold : B → ℕ → List ℕ → Type 0) (old mid : FileValue B) (records : List RecordValue)
    (lasts : LastsAmong size may_hold old records) (as_long : size mid.device ≡ size old.device)
    (version : mid.version ≡ old.version) (slot : mid.slot ≡ old.slot)
    (again : NoMore (or_new 0 (root_block old.version old.slot ∷ []) (may_hold old.device)) (may_hold mid.device)) where
  -- at the old root
  pub failed_at_old_root : mid.undecided ≡ old.undecided → LastsAmong size may_hold mid records
  failed_at_old_root undecided = let room = lasts.blocks in record {
    blocks = omega (arith, as_long, room);
    among = same_file (may_hold mid.device) old.version mid.version old.slot mid.slot old.undecided mid.undecided records version slot undecided
        (among_within (or_new 0 (root_block old.version old.slot ∷ []) (may_hold old.device)) (may_hold mid.device) old.version old.slot
        old.undecided records again (root_again (may_hold old.device) old.version old.slot old.undecided records lasts.among));
  }

  module _ (root : old.undecided ≡ true → RootLasts (may_hold mid.device) old.version old.slot) (decided : mid.undecided ≡ false)
      (here : FileValue B) (same : here ≡ mid) (idle : Slot) (is : idle ≡ other_slot here.slot) (next : B)
      (next_as_long : size next ≡ size here.device)
      (beside : NoMore (beside_slot idle (may_hold here.device)) (may_hold next)) where
    here_decided : here.undecided ≡ false
    here_decided = ap (λ (f : FileValue B). f.undecided) same ∙ decided

    room_here : file_blocks ≤ size here.device
    room_here =
        let room = lasts.blocks in let e : size here.device ≡ size mid.device = ap (λ (f : FileValue B). size f.device) same in
        omega (arith, as_long, e, room)

    here_among : AreRecordsLeft (may_hold here.device) here.version here.slot false (first_of records)
    here_among = subst (λ (f : FileValue B). AreRecordsLeft (may_hold f.device) f.version f.slot false (first_of records)) (sym same)
        (same_file (may_hold mid.device) old.version mid.version old.slot mid.slot false false (first_of records) version slot refl
        (decided_now (may_hold old.device) (may_hold mid.device) old.version old.slot old.undecided records lasts.among again root))

    next_among : AreRecordsLeft (may_hold next) here.version here.slot false (first_of records)
    next_among = within_slot (may_hold here.device) (may_hold next) here.version here.slot records here_among
        (subst (λ (i : Slot). NoMore (beside_slot i (may_hold here.device)) (may_hold next)) is beside)

    -- at the slot
    pub failed_at_slot : LastsAmong size may_hold
        (record { device = next; version = here.version; slot = here.slot; undecided = here.undecided }) (first_of records)
    failed_at_slot = record {
      blocks = omega (arith, next_as_long, room_here);
      among = same_file (may_hold next) here.version here.version here.slot here.slot false here.undecided (first_of records) refl refl
          here_decided next_among;
    }

    -- at the new root
    pub failed_at_new_root : (new : B) (r saved : RecordValue) → size new ≡ size next
        → NoMore (or_new 0 (root_block Version2 idle ∷ []) (may_hold next)) (may_hold new)
        → SlotLasts (may_hold next) Version2 idle r → r ≡ saved → IsRecord saved.aptpl saved.registrants saved.reservation
        → LastsAmong size may_hold (record { device = new; version = here.version; slot = here.slot; undecided = true })
        (first_of records ++ saved ∷ [])
    failed_at_new_root new r saved new_as_long within spelled spelled_as lasting = record {
      blocks = omega (arith, new_as_long, next_as_long, room_here);
      among = among_within (or_new 0 (root_block Version2 (other_slot here.slot) ∷ []) (may_hold next)) (may_hold new) here.version here.slot
          true (first_of records ++ saved ∷ [])
          (subst (λ (i : Slot). NoMore (or_new 0 (root_block Version2 i ∷ []) (may_hold next)) (may_hold new)) is within)
          (landed records next_among);
    }
      where
        named : SlotLasts (may_hold next) Version2 (other_slot here.slot) saved
        named = subst (λ (x : RecordValue). SlotLasts (may_hold next) Version2 (other_slot here.slot) x) spelled_as
            (subst (λ (i : Slot). SlotLasts (may_hold next) Version2 i r) is spelled)

        landed : (rs : List RecordValue) → AreRecordsLeft (may_hold next) here.version here.slot false (first_of rs)
            → AreRecordsLeft (or_new 0 (root_block Version2 (other_slot here.slot) ∷ []) (may_hold next)) here.version here.slot true
            (first_of rs ++ saved ∷ [])
        landed [] among = absurd among
        landed (x ∷ xs) among = either_root (may_hold next) here.version here.slot x saved among named lasting

-- the root names the slot, which was written
pub saved_lasts : {B : Type 0} (size : B → ℕ) (may_hold : B → ℕ → List ℕ → Type 0) (next new : B) (slot : Slot) (undecided : Bool)
    (r saved : RecordValue) → file_blocks ≤ size new → undecided ≡ false
    → NoMore (or_new 0 (root_block Version2 slot ∷ []) (may_hold next)) (may_hold new) → RootLasts (may_hold new) Version2 slot
    → SlotLasts (may_hold next) Version2 slot r → r ≡ saved → IsRecord saved.aptpl saved.registrants saved.reservation
    → LastsAmong size may_hold (record { device = new; version = Version2; slot = slot; undecided = undecided }) (saved ∷ [])
saved_lasts size may_hold next new slot undecided r saved room decided within root spelled spelled_as lasting = record {
  blocks = room;
  among = (
    decided,
    record {
      root = root;
      spelled = λ k value lt held.
          slot_beside (may_hold next) (root_block Version2 slot) Version2 slot saved
          (subst (λ (x : RecordValue). SlotLasts (may_hold next) Version2 slot x) spelled_as spelled) k value lt
          (within (first_block slot + k) value held);
      is_record = lasting;
    },
  );
}
