-- Works that were done, and their replies.
use Rattle.std.proofs.Common.{◌≡◌, ℕ, ◌*◌, ◌<◌, Bool, List, [], Option, Some, None, refl, sym, ◌∙◌, ap, subst, inl, inr}
use Rattle.std.specs.Prelude.{IsTrue}
use Rattle.block_file.specs.Disk.{written, range_bytes, Between}
use Rattle.compare_write.specs.Difference.{first_difference}
use Rattle.compare_write.proofs.DifferenceLaws.{differs_nowhere}
use Rattle.compare_write.specs.declared.end.MediumEnd.{MediumEnd}
use Rattle.compare_write.specs.declared.end.MediumEnd.TheVariants as ends
use Rattle.compare_write.specs.Ends.{IsCompareEnd, IsSyncEnd, OnDone, OnMiscompare, OnUnwritten, OnWriting}
use Rattle.compare_write.specs.Instances.{compare_instance, write_instance}
use Rattle.registrants.specs.Registry.{RecordValue}
use Rattle.unit_control.specs.Choice.{ReadFailed, WriteFailed, choice_of}
use Rattle.unit_control.specs.Medium.{Range, Compares, Flushes}
use Rattle.unit_control.specs.Medium.{Done, WriteError, compared_by, found_by, reply_by}
use Rattle.unit_control.specs.Worked.{IsWorked, choice_at, finding_at}

-- the reply of a medium command tells its choice
pub told_choice : (end : MediumEnd) (bytes : List ℕ) (new : List (List ℕ)) (lasting : List RecordValue)
    → choice_of (reply_by (finding_at end bytes)) new lasting ≡ choice_at end new
told_choice ends.Done bytes new lasting = refl
told_choice (ends.Miscompare at) bytes new lasting = refl
told_choice ends.ReadFailed bytes new lasting = refl
told_choice ends.WriteFailed bytes new lasting = refl
told_choice ends.FlushFailed bytes new lasting = refl

-- ---- a compare, and a write where nothing differs

module _ (claims : Bool) (old : List (List ℕ)) (r : Range) (bytes : List ℕ) (fua : Bool) where
  abbrev held : List ℕ
  held = range_bytes old r.lba r.blocks

  abbrev given : List ℕ
  given = compare_instance r.blocks bytes

  abbrev after : List (List ℕ)
  after = written old r.lba (write_instance r.blocks bytes)

  no_difference : held ≡ given → first_difference held given ≡ None
  no_difference same = ap (λ (h : List ℕ). first_difference h given) same ∙ differs_nowhere given

  equal_done : (new : List (List ℕ)) → (IsTrue claims → held ≡ given) → (IsTrue claims → new ≡ after)
      → IsWorked claims old new (Compares r bytes fua) ends.Done []
  equal_done new same wrote = record {
    chosen = tt;
    may = inl refl;
    torn = λ h. tt;
    told = λ h. ap found_by (sym (no_difference (same h)));
    leaves = λ h. wrote h ∙ ap (λ (o : Option ℕ). compared_by o old after) (sym (no_difference (same h)));
  }

  torn_write : (end : MediumEnd) (new : List (List ℕ)) → choice_at end new ≡ WriteFailed new
      → finding_at end [] ≡ WriteError → (IsTrue claims → held ≡ given)
      → (IsTrue claims → Between old r.lba (write_instance r.blocks bytes) new)
      → IsWorked claims old new (Compares r bytes fua) end []
  torn_write end new failed tells same between = rw (failed, tells) (record {
    chosen = tt;
    may = refl;
    torn = λ h. (same h, between h);
    told = λ h. refl;
    leaves = λ h. refl;
  })

  -- without a flush
  pub compare_worked : (end : MediumEnd) (new : List (List ℕ)) → IsCompareEnd end
      → OnMiscompare end (λ at. at < 512 * r.blocks) → (IsTrue claims → OnWriting end (held ≡ given))
      → (IsTrue claims → OnMiscompare end (λ at. first_difference held given ≡ Some at))
      → (IsTrue claims → OnUnwritten end (new ≡ old)) → (IsTrue claims → OnDone end (new ≡ after))
      → (IsTrue claims → Between old r.lba (write_instance r.blocks bytes) new)
      → IsWorked claims old new (Compares r bytes fua) end []
  compare_worked ends.Done new is within same differs unwritten wrote between = equal_done new same wrote
  compare_worked (ends.Miscompare at) new is within same differs unwritten wrote between = record {
    chosen = tt;
    may = inr (at, refl, within);
    torn = λ h. tt;
    told = λ h. ap found_by (sym (differs h));
    leaves = λ h. unwritten h ∙ ap (λ (o : Option ℕ). compared_by o old after) (sym (differs h));
  }
  compare_worked ends.ReadFailed new is within same differs unwritten wrote between = record {
    chosen = tt;
    may = refl;
    torn = λ h. tt;
    told = λ h. refl;
    leaves = unwritten;
  }
  compare_worked ends.WriteFailed new is within same differs unwritten wrote between =
      torn_write ends.WriteFailed new refl refl same between
  compare_worked ends.FlushFailed new is within same differs unwritten wrote between = absurd is

  -- the flush behind it
  pub compare_flushed : (end : MediumEnd) (mid new : List (List ℕ)) → IsSyncEnd end → (IsTrue claims → held ≡ given)
      → (IsTrue claims → mid ≡ after) → (IsTrue claims → Between old r.lba (write_instance r.blocks bytes) mid)
      → (IsTrue claims → new ≡ mid)
      → IsWorked claims old new (Compares r bytes fua) end []
  compare_flushed ends.Done mid new is same wrote between kept = equal_done new same (λ h. kept h ∙ wrote h)
  compare_flushed ends.FlushFailed mid new is same wrote between kept =
      torn_write ends.FlushFailed new refl refl same
      (λ h. subst (Between old r.lba (write_instance r.blocks bytes)) (sym (kept h)) (between h))
  compare_flushed (ends.Miscompare at) mid new is same wrote between kept = absurd is
  compare_flushed ends.ReadFailed mid new is same wrote between kept = absurd is
  compare_flushed ends.WriteFailed mid new is same wrote between kept = absurd is

-- a flush alone
pub sync_worked : (claims : Bool) (old new : List (List ℕ)) (r : Range) (end : MediumEnd) → IsSyncEnd end
    → (IsTrue claims → new ≡ old) → IsWorked claims old new (Flushes r) end []
sync_worked claims old new r ends.Done is kept =
    record { chosen = tt; may = refl; torn = λ h. tt; told = λ h. refl; leaves = kept }
sync_worked claims old new r ends.FlushFailed is kept =
    record { chosen = tt; may = refl; torn = kept; told = λ h. refl; leaves = λ h. refl }
sync_worked claims old new r (ends.Miscompare at) is kept = absurd is
sync_worked claims old new r ends.ReadFailed is kept = absurd is
sync_worked claims old new r ends.WriteFailed is kept = absurd is
