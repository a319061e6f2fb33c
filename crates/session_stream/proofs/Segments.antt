-- The Data-In of a read, from the first on, and the loops over them.
use Rattle.std.proofs.Common.{◌≡◌, ℕ, zero, suc, ◌+◌, ◌-◌, ◌<◌, ◌≤◌, Bool, false, List, [], ◌∷◌, ◌++◌, Option, length, refl, ap, arith}
use Rattle.std.proofs.Common.{sym, subst, ◌∙◌, append_assoc}
use Rattle.std.proofs.lemmas.{Bool.ltb-false, Bool.lt-ltb, Bool.le-ltb, List.append-nil, Grind.flat_map-append}
use Rattle.std.proofs.Math.Nat.{mod-lt}
use Rattle.session_rules.specs.Words.{nat_lt, Numbers, spelling, Target}
use Rattle.session_rules.specs.{declared.lengths.Lengths.Lengths, Turn.Out, Turn.bytes_of, DataIn.segment_size}
use Rattle.session_stream.specs.{Outbox.OutboxValue, Outbox.IsQueued, Pdus.data_in_at, Pdus.cons_if, Pdus.data_ins_from}
use Rattle.session_stream.proofs.Queues.{queued_both, queued_none}

pub at_least : (a b : ℕ) → nat_lt a b ≡ false → b ≤ a
at_least a b f = ltb-false a b f

-- a Data-In carries something, and no more than is left
pub size_some : (l : Lengths) (offset total : ℕ) → offset < total → 0 < segment_size l offset total
size_some l offset total h =
    let some : 0 < l.burst = omega (arith, l.bursts) in
    omega (arith, h, l.segments, mod-lt offset some)

pub size_within : (l : Lengths) (offset total : ℕ) → offset < total → offset + segment_size l offset total ≤ total
size_within l offset total h = omega (arith, h)

module _ (numbers : Numbers) (tag : ℕ) (l : Lengths) (bytes : List ℕ) where
  abbrev from : ℕ → ℕ → ℕ → List Out
  from most k offset = data_ins_from numbers tag l bytes most k offset

  abbrev size : ℕ → ℕ
  size offset = segment_size l offset (length bytes)

  -- the next one, while there is more; and none behind the last
  pub next : (most k offset : ℕ) → offset < length bytes → length bytes - offset ≤ most
      → (fewer : ℕ) × (length bytes - (offset + size offset) ≤ fewer)
      × (from most k offset ≡ data_in_at numbers tag l k offset bytes ∷ from fewer (k + 1) (offset + size offset))
  next zero k offset more enough = absurd (omega (arith, more, enough))
  next (suc most) k offset more enough = (
    most,
    omega (arith, enough, more, size_some l offset (length bytes) more),
    ap (λ (t : Bool). cons_if t (data_in_at numbers tag l k offset bytes) (from most (k + 1) (offset + size offset)))
        (lt-ltb offset (length bytes) more),
  )

  pub no_next : (most k offset : ℕ) → length bytes ≤ offset → from most k offset ≡ []
  no_next zero k offset none = refl
  no_next (suc most) k offset none =
      ap (λ (t : Bool). cons_if t (data_in_at numbers tag l k offset bytes)
      (from most (k + 1) (offset + size offset)))
      (le-ltb offset (length bytes) none)

  -- so many stand before this offset, and the others behind
  abbrev pub CountsTo : ℕ → ℕ → ℕ → Type 0
  CountsTo whole k offset = (most : ℕ) × (length bytes - offset ≤ most) × (whole ≡ k + length (from most k offset))

  pub counts_on : (whole k offset k' offset' : ℕ) → offset < length bytes → k' ≡ k + 1
      → offset' ≡ offset + size offset → CountsTo whole k offset → CountsTo whole k' offset'
  counts_on whole k offset k' offset' more e f c =
      let n = next c.0 k offset more c.1 in
      rw (e, f) (n.0, n.1, omega (arith, c.2, ap length n.2))

  -- those before this offset are queued
  abbrev pub QueuesTo : Option (List ℕ) → Option (List ℕ) → ℕ → ℕ → OutboxValue → OutboxValue → ℕ → ℕ → Type 0
  QueuesTo held held' before now o o' k offset =
      (gone : List Out) × (most : ℕ) × (length bytes - offset ≤ most)
      × (gone ++ from most k offset ≡ from (length bytes) 0 0)
      × IsQueued held held' before now o o' (bytes_of gone)

  pub queues_none : (held : Option (List ℕ)) (n : ℕ) (o : OutboxValue) → QueuesTo held held n n o o 0 0
  queues_none held n o = ([], length bytes, omega arith, refl, queued_none held n o)

  bytes_more : (gone : List Out) (x : Out) → bytes_of gone ++ spelling (Target x.header) x.bytes ≡ bytes_of (gone ++ x ∷ [])
  bytes_more gone x = sym (flat_map-append (λ (o : Out). spelling (Target o.header) o.bytes) gone (x ∷ [])
      ∙ ap (λ (z : List ℕ). bytes_of gone ++ z) (append-nil (spelling (Target x.header) x.bytes)))

  pub queues_on : (held held1 held2 : Option (List ℕ)) (n0 n1 n2 : ℕ) (o o1 o2 : OutboxValue)
      (k offset k' offset' : ℕ) (x : Out)
      → offset < length bytes → k' ≡ k + 1 → offset' ≡ offset + size offset
      → x ≡ data_in_at numbers tag l k offset bytes
      → QueuesTo held held1 n0 n1 o o1 k offset → IsQueued held1 held2 n1 n2 o1 o2 (spelling (Target x.header) x.bytes)
      → QueuesTo held held2 n0 n2 o o2 k' offset'
  queues_on held held1 held2 n0 n1 n2 o o1 o2 k offset k' offset' x more e f is c put =
      let n = next c.1 k offset more c.2 in
      rw (e, f) (
        c.0 ++ x ∷ [],
        n.0,
        n.1,
        append_assoc c.0 (x ∷ []) (from n.0 (k + 1) (offset + size offset))
            ∙ ap (λ (z : Out). c.0 ++ z ∷ from n.0 (k + 1) (offset + size offset)) is
            ∙ ap (λ (z : List Out). c.0 ++ z) (sym n.2) ∙ c.3,
        queued_both held held1 held2 n0 n1 n2 o o1 o2 (bytes_of c.0) (spelling (Target x.header) x.bytes)
            (bytes_of (c.0 ++ x ∷ [])) (bytes_more c.0 x) c.4 put,
      )

  pub queues_all : (held held' : Option (List ℕ)) (before now : ℕ) (o o' : OutboxValue) (k offset : ℕ)
      → length bytes ≤ offset → QueuesTo held held' before now o o' k offset
      → IsQueued held held' before now o o' (bytes_of (from (length bytes) 0 0))
  queues_all held held' before now o o' k offset none c =
      subst (λ (z : List Out). IsQueued held held' before now o o' (bytes_of z))
      (sym (append-nil c.0) ∙ ap (λ (z : List Out). c.0 ++ z) (sym (no_next c.1 k offset none))
      ∙ c.3) c.4
