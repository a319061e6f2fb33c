-- How a command on the medium may end.
use Rattle.std.specs.Prelude.{ℕ}
use Rattle.compare_write.specs.declared.end.MediumEnd.{MediumEnd}
use Rattle.compare_write.specs.declared.end.MediumEnd.TheVariants.{Done, Miscompare, ReadFailed, WriteFailed, FlushFailed}

-- no call of the device failed
abbrev pub IsUnfailed : MediumEnd → Type 0
IsUnfailed Done = Unit {0}
IsUnfailed (Miscompare at) = Unit {0}
IsUnfailed ReadFailed = ⊥
IsUnfailed WriteFailed = ⊥
IsUnfailed FlushFailed = ⊥

-- no read failed
abbrev pub IsRead : MediumEnd → Type 0
IsRead Done = Unit {0}
IsRead (Miscompare at) = Unit {0}
IsRead ReadFailed = ⊥
IsRead WriteFailed = Unit {0}
IsRead FlushFailed = Unit {0}

-- no write and no flush failed
abbrev pub IsWritten : MediumEnd → Type 0
IsWritten Done = Unit {0}
IsWritten (Miscompare at) = Unit {0}
IsWritten ReadFailed = Unit {0}
IsWritten WriteFailed = ⊥
IsWritten FlushFailed = ⊥

-- the ends of a READ
abbrev pub IsReadEnd : MediumEnd → Type 0
IsReadEnd Done = Unit {0}
IsReadEnd (Miscompare at) = ⊥
IsReadEnd ReadFailed = Unit {0}
IsReadEnd WriteFailed = ⊥
IsReadEnd FlushFailed = ⊥

-- of a WRITE
abbrev pub IsWriteEnd : MediumEnd → Type 0
IsWriteEnd Done = Unit {0}
IsWriteEnd (Miscompare at) = ⊥
IsWriteEnd ReadFailed = ⊥
IsWriteEnd WriteFailed = Unit {0}
IsWriteEnd FlushFailed = ⊥

-- of a COMPARE AND WRITE
abbrev pub IsCompareEnd : MediumEnd → Type 0
IsCompareEnd Done = Unit {0}
IsCompareEnd (Miscompare at) = Unit {0}
IsCompareEnd ReadFailed = Unit {0}
IsCompareEnd WriteFailed = Unit {0}
IsCompareEnd FlushFailed = ⊥

-- of a SYNCHRONIZE CACHE
abbrev pub IsSyncEnd : MediumEnd → Type 0
IsSyncEnd Done = Unit {0}
IsSyncEnd (Miscompare at) = ⊥
IsSyncEnd ReadFailed = ⊥
IsSyncEnd WriteFailed = ⊥
IsSyncEnd FlushFailed = Unit {0}

-- where the command is done
abbrev pub OnDone : MediumEnd → Type 0 → Type 0
OnDone Done fact = fact
OnDone (Miscompare at) fact = Unit {0}
OnDone ReadFailed fact = Unit {0}
OnDone WriteFailed fact = Unit {0}
OnDone FlushFailed fact = Unit {0}

-- where it ends with a difference at this offset
abbrev pub OnMiscompare : MediumEnd → (ℕ → Type 0) → Type 0
OnMiscompare Done fact = Unit {0}
OnMiscompare (Miscompare at) fact = fact at
OnMiscompare ReadFailed fact = Unit {0}
OnMiscompare WriteFailed fact = Unit {0}
OnMiscompare FlushFailed fact = Unit {0}

-- where it ends before its first write
abbrev pub OnUnwritten : MediumEnd → Type 0 → Type 0
OnUnwritten Done fact = Unit {0}
OnUnwritten (Miscompare at) fact = fact
OnUnwritten ReadFailed fact = fact
OnUnwritten WriteFailed fact = Unit {0}
OnUnwritten FlushFailed fact = Unit {0}

-- where it went on to its writes
abbrev pub OnWriting : MediumEnd → Type 0 → Type 0
OnWriting Done fact = fact
OnWriting (Miscompare at) fact = Unit {0}
OnWriting ReadFailed fact = Unit {0}
OnWriting WriteFailed fact = fact
OnWriting FlushFailed fact = Unit {0}
