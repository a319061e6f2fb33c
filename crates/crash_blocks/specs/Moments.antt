-- Laws of moments.
use Rattle.std.proofs.Common.{◌≡◌, inl, inr, ⊎_elim, ℕ, ◌+◌, ◌<◌, ◌≤◌, List, [], ◌∷◌, ◌++◌, length, reverse, refl, sym, ◌∙◌, ap, subst, arith, length-append, IsTrue, rules, Result, Ok, Err, OnOk, Vec, Global, ◌/◌, ◌*◌, flat_map}
use Rattle.std.proofs.lemmas.Bool.{cases_lt}
use Rattle.std.proofs.lemmas.List.{take_all, take-append-le, reverse-append}
use Rattle.crash_blocks.specs.declared.event.Event.{Event}
use Rattle.crash_blocks.specs.declared.event.Event.TheVariants.{Write, Flush}
use Rattle.block_file.specs.Cut.{cut, run_of}
use Rattle.block_file.specs.CutLaws.{length-cut, joined_cut}
use Rattle.block_file.specs.Disk.{MayLeave, block_at, range_bytes, Only, Adds, IsNewAt}
use Rattle.block_file.specs.DiskLaws.{between_written}
use Rattle.block_file.specs.Moment.{Elapses}
use Rattle.crash_blocks.specs.Events.{Held, LeftSince, IsWrite, contents_of, runs_fit}

pub now_counts : (size : ℕ) (start : List (List ℕ)) (events : List Event) (t : ℕ) (c : List (List ℕ)) → t ≤ length events → MayLeave size (Held start (reverse events)) c → LeftSince size start events t c
now_counts size start events t c le left = (length events, le, omega arith, subst (λ (es : List Event). MayLeave size (Held start (reverse es)) c) (sym (take_all (length events) events (omega arith))) left)

pub now_only : (size : ℕ) (start : List (List ℕ)) (events : List Event) (c : List (List ℕ)) → LeftSince size start events (length events) c → MayLeave size (Held start (reverse events)) c
now_only size start events c left = subst (λ (es : List Event). MayLeave size (Held start (reverse es)) c) (take_all left.0 events left.1) left.3

-- a call more
pub elapsed : (size : ℕ) (start : List (List ℕ)) (events : List Event) (e : Event) → Elapses (length events) (length (events ++ e ∷ [])) (LeftSince size start events) (LeftSince size start (events ++ e ∷ [])) (MayLeave size (Held start (reverse (events ++ e ∷ []))))
elapsed size start events e = record {
  later = omega (arith, length-append events (e ∷ []));
  nothing_else = λ t c le left.
      ⊎_elim
      (λ (lt : length events < left.0). inr (subst (λ (es : List Event). MayLeave size (Held start (reverse es)) c) (take_all left.0 (events ++ e ∷ []) (omega (arith, lt, length-append events (e ∷ [])))) left.3))
      (λ (ge : left.0 ≤ length events). inl (left.0, left.1, ge, subst (λ (es : List Event). MayLeave size (Held start (reverse es)) c) (take-append-le left.0 events (e ∷ []) ge) left.3))
      (cases_lt (length events) left.0);
  keeps = λ t c le left. (left.0, left.1, omega (arith, left.2, length-append events (e ∷ [])), subst (λ (es : List Event). MayLeave size (Held start (reverse es)) c) (sym (take-append-le left.0 events (e ∷ []) left.2)) left.3);
}

-- no call
pub stands : (now : ℕ) (past : ℕ → List (List ℕ) → Type 0) (may : List (List ℕ) → Type 0) → Elapses now now past past may
stands now past may = record { later = omega arith; nothing_else = λ t c le left. inl left; keeps = λ t c le left. left }

pub write_fits : (size first : ℕ) (bytes : Vec ℕ Global) (older : List Event) → IsTrue (runs_fit size (Write first bytes ∷ older)) → (first + length bytes.items / 512 ≤ size) × IsTrue (runs_fit size older)
write_fits size first bytes older fit = search rules

pub length-contents : (size : ℕ) (start : List (List ℕ)) (events : List Event) → length start ≡ size → IsTrue (runs_fit size events) → length (contents_of start events) ≡ size
length-contents size start [] long fit = long
length-contents size start (Flush ∷ older) long fit = length-contents size start older long fit
length-contents size start (Write first bytes ∷ older) long fit =
    let rest = length-contents size start older long (write_fits size first bytes older fit).1 in
    (between_written (contents_of start older) (run_of bytes.items) first (omega (arith, rest, (write_fits size first bytes older fit).0, length-cut (length bytes.items / 512) bytes.items))).as_long ∙ rest

pub held_at : (size : ℕ) (start : List (List ℕ)) (events : List Event) → length start ≡ size → IsTrue (runs_fit size events) → (k : ℕ) → Held start events k (block_at (contents_of start events) k)
held_at size start [] long fit k = refl
held_at size start (Flush ∷ older) long fit k = (held_at size start older long fit k, refl)
held_at size start (Write first bytes ∷ older) long fit k =
    let rest = length-contents size start older long (write_fits size first bytes older fit).1 in
    let fits : first + length (run_of bytes.items) ≤ length (contents_of start older) = omega (arith, rest, (write_fits size first bytes older fit).0, length-cut (length bytes.items / 512) bytes.items) in
    ⊎_elim (λ old. inl (subst (λ (v : List ℕ). Held start older k v) (sym old) (held_at size start older long (write_fits size first bytes older fit).1 k))) (λ new. inr new)
    ((between_written (contents_of start older) (run_of bytes.items) first fits).each k)

-- what is there is one of the outcomes
pub held_now : (size : ℕ) (start : List (List ℕ)) (events : List Event) → length start ≡ size → IsTrue (runs_fit size events) → (now : List (List ℕ)) → now ≡ contents_of start events → (k : ℕ) → Held start events k (block_at now k)
held_now size start events long fit now is k = subst (λ (d : List (List ℕ)). Held start events k (block_at d k)) (sym is) (held_at size start events long fit k)

pub elapsed_by : (size size' : ℕ) (start : List ℕ) (events events' : List Event) (e : Event) → size' ≡ size → events' ≡ events ++ e ∷ []
    → Elapses (length events) (length events') (LeftSince size (cut size start) events) (LeftSince size' (cut size' start) events') (MayLeave size' (Held (cut size' start) (reverse events')))
elapsed_by size size' start events events' e same more =
    subst (λ (s : ℕ). Elapses (length events) (length events') (LeftSince size (cut size start) events) (LeftSince s (cut s start) events') (MayLeave s (Held (cut s start) (reverse events')))) (sym same)
    (subst (λ (es : List Event). Elapses (length events) (length es) (LeftSince size (cut size start) events) (LeftSince size (cut size start) es) (MayLeave size (Held (cut size start) (reverse es)))) (sym more)
    (elapsed size (cut size start) events e))

pub stands_by : (size size' : ℕ) (start : List ℕ) (events events' : List Event) → size' ≡ size → events' ≡ events
    → Elapses (length events) (length events') (LeftSince size (cut size start) events) (LeftSince size' (cut size' start) events') (MayLeave size' (Held (cut size' start) (reverse events')))
stands_by size size' start events events' same more =
    subst (λ (s : ℕ). Elapses (length events) (length events') (LeftSince size (cut size start) events) (LeftSince s (cut s start) events') (MayLeave s (Held (cut s start) (reverse events')))) (sym same)
    (subst (λ (es : List Event). Elapses (length events) (length es) (LeftSince size (cut size start) events) (LeftSince size (cut size start) es) (MayLeave size (Held (cut size start) (reverse es)))) (sym more)
    (stands (length events) (LeftSince size (cut size start) events) (MayLeave size (Held (cut size start) (reverse events)))))

pub on_ok : {T E P : Type 0} (r : Result T E) → P → OnOk r P
on_ok (Ok x) p = p
on_ok (Err e) p = tt

pub only_flushed : (size size' : ℕ) (start : List ℕ) (events events' : List Event) (now : List (List ℕ)) → size' ≡ size → events' ≡ events ++ Flush ∷ [] → now ≡ contents_of (cut size start) (reverse events) → Only now (Held (cut size' start) (reverse events'))
only_flushed size size' start events events' now same more is =
    subst (λ (s : ℕ). Only now (Held (cut s start) (reverse events'))) (sym same)
    (subst (λ (es : List Event). Only now (Held (cut size start) (reverse es))) (sym more)
    (subst (λ (es : List Event). Only now (Held (cut size start) es)) (sym (reverse-append events (Flush ∷ [])))
    (λ k v held. held.1 ∙ ap (λ (d : List (List ℕ)). block_at d k) (sym is))))

-- a write is one more value of its blocks
new_by : (first at : ℕ) (bytes held : List ℕ) (k : ℕ) (value : List ℕ) → at ≡ first → held ≡ bytes
    → IsNewAt at (run_of held) k value → IsNewAt first (run_of bytes) k value
new_by first at bytes held k value at_is is new =
    subst (λ (f : ℕ). IsNewAt f (run_of bytes) k value) at_is
    (subst (λ (b : List ℕ). IsNewAt at (run_of b) k value) is new)

pub adds_event : (size size' : ℕ) (start : List ℕ) (events events' : List Event) (e : Event) (first : ℕ) (bytes : List ℕ)
    → size' ≡ size → events' ≡ events ++ e ∷ [] → IsWrite e first bytes
    → Adds first (run_of bytes) (Held (cut size start) (reverse events)) (Held (cut size' start) (reverse events'))
adds_event size size' start events events' Flush first bytes same more is k value may = absurd is
adds_event size size' start events events' (Write at held) first bytes same more is k value may =
    let now : Held (cut size start) (Write at held ∷ reverse events) k value =
    subst (λ (es : List Event). Held (cut size start) es k value)
    (ap reverse more ∙ reverse-append events (Write at held ∷ []))
    (subst (λ (s : ℕ). Held (cut s start) (reverse events') k value) same may) in
    ⊎_elim (λ old. inl old) (λ new. inr (new_by first at bytes held.items k value is.0 is.1 new)) now

-- the bytes of all blocks
pub all_bytes : (n : ℕ) (bytes : List ℕ) → length bytes ≡ 512 * n → range_bytes (cut n bytes) 0 n ≡ bytes
all_bytes n bytes long =
    ap (flat_map (λ b. b)) (take_all n (cut n bytes) (omega (arith, length-cut n bytes))) ∙ joined_cut n bytes long

pub as_copied : (n m : ℕ) (bytes read : List ℕ) → length bytes ≡ 512 * n → m ≡ n → read ≡ range_bytes (cut n bytes) 0 m
    → cut n bytes ≡ cut n read
as_copied n m bytes read long same is =
    ap (cut n) (sym (is ∙ ap (range_bytes (cut n bytes) 0) same ∙ all_bytes n bytes long))
