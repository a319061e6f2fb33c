-- What waiting and writing do to the bytes that are to go out.
use Rattle.std.proofs.Common.{◌≡◌, ℕ, ◌+◌, ◌≤◌, Bool, true, false, List, [], ◌++◌, Option, length, min, refl, sym, ap}
use Rattle.std.proofs.Common.{subst, ◌∙◌, arith, append_assoc, length-append}
use Rattle.std.proofs.lemmas.List.{append-nil, take-append-le, take_min}
use Rattle.std.proofs.KnownBytes.{Appends-trans}
use Rattle.std.proofs.Math.Seq.{take-append-add}
use Rattle.std.specs.Io.KnownBytes.{Appends}
use Rattle.session_stream.specs.Source.{AppendsFront, AppendsFrom, Rises}
use Rattle.session_stream.specs.Outbox.{OutboxValue, IsOutBy, IsOut, IsQueued}

front_more : (old new : Option (List ℕ)) (least : ℕ) (all more : List ℕ) → AppendsFrom old new least all
    → AppendsFrom old new least (all ++ more)
front_more old new least all more k = (
  k.0,
  k.1,
  omega (arith, k.2, length-append all more),
  subst (Appends old new) (sym (take-append-le k.0 all more k.2)) k.3,
)

module _ (first held : Option (List ℕ)) (begun now : ℕ) (waiting : List ℕ) (least : ℕ) (all : List ℕ) where
  -- these bytes wait behind the others
  pub waits : (failed : Bool) (waiting' bytes : List ℕ) → waiting' ≡ waiting ++ bytes
      → IsOutBy failed first held begun now waiting least all → IsOutBy failed first held begun now waiting' least (all ++ bytes)
  waits false waiting' bytes e k = (k.0, k.1, k.2, rw (e, ← append_assoc, k.3) refl, k.4)
  waits true waiting' bytes e k = (k.0, front_more first held least all bytes k.1)

  -- what waits was written, or the sink failed at it
  pub wrote : (failed : Bool) (held' : Option (List ℕ)) (now' : ℕ) → failed ≡ false
      → IsOutBy failed first held begun now waiting least all → Appends held held' waiting → now' ≡ now
      → IsOutBy false first held' begun now' [] least all
  wrote true held' now' e k out count = absurd (cc)
  wrote false held' now' e k out count = (
    count ∙ k.0,
    all,
    subst (Appends first held') k.3 (Appends-trans _ _ _ _ _ k.2 out),
    append-nil all,
    omega (arith, k.4, ap length k.3, length-append k.1 waiting),
  )

  front_behind : (held' : Option (List ℕ)) (gone : List ℕ) → Appends first held gone → gone ++ waiting ≡ all
      → least ≤ length gone → AppendsFront held held' waiting → AppendsFrom first held' least all
  front_behind held' gone before e enough out = (
    length gone + min out.0 (length waiting),
    omega (arith, enough),
    omega (arith, ap length e, length-append gone waiting),
    rw (← e, take-append-add, take_min) (Appends-trans _ _ _ _ _ before out.1),
  )

  pub failed_at : (failed : Bool) (held' : Option (List ℕ)) (now' : ℕ) → failed ≡ false
      → IsOutBy failed first held begun now waiting least all → AppendsFront held held' waiting → Rises now now'
      → IsOutBy true first held' begun now' [] least all
  failed_at true held' now' e k out up = absurd (cc)
  failed_at false held' now' e k out up = (subst (λ (z : ℕ). Rises z now') k.0 up, front_behind held' k.1 k.2 k.3 k.4 out)

  -- while the sink serves, it took all but what waits
  pub took : (failed : Bool) → failed ≡ false → IsOutBy failed first held begun now waiting least all
      → (most : ℕ) × IsOutBy failed first held begun now waiting most all × (length all ≡ most + length waiting)
  took true e k = absurd (cc)
  took false e k = (length k.1, (k.0, k.1, k.2, k.3, omega arith), omega (arith, ap length k.3, length-append k.1 waiting))

  -- the end, where all that waited was to be written
  pub all_out_at_last : (failed : Bool) → waiting ≡ [] → failed ≡ false
      → IsOutBy failed first held begun now waiting least all → Appends first held all × (now ≡ begun)
  all_out_at_last false e f k = (rw (← k.3, e, append-nil) k.2, k.0)
  all_out_at_last true e f k = absurd (cc)

  pub broke : (failed : Bool) → failed ≡ true → IsOutBy failed first held begun now waiting least all
      → AppendsFrom first held least all × Rises begun now
  broke false e k = absurd (cc)
  broke true e k = (k.1, k.0)

-- one behind the other
pub queued_both : (held held1 held2 : Option (List ℕ)) (n0 n1 n2 : ℕ) (o o1 o2 : OutboxValue) (bytes more whole : List ℕ)
    → bytes ++ more ≡ whole
    → IsQueued held held1 n0 n1 o o1 bytes → IsQueued held1 held2 n1 n2 o1 o2 more
    → IsQueued held held2 n0 n2 o o2 whole
queued_both held held1 held2 n0 n1 n2 o o1 o2 bytes more whole e k l =
    λ first begun least all out. subst (IsOut first held2 begun n2 o2 least) (append_assoc all bytes more
    ∙ ap (λ (z : List ℕ). all ++ z) e)
    (l first begun least (all ++ bytes) (k first begun least all out))

pub queued_none : (held : Option (List ℕ)) (n : ℕ) (o : OutboxValue) → IsQueued held held n n o o []
queued_none held n o = λ first begun least all out. subst (IsOut first held begun n o least) (sym (append-nil all)) out
