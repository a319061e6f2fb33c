-- Laws of the values that a block had since the last flush.
use Rattle.std.proofs.Common.{◌≡◌, ◌⊎◌, Bool, inl, inr, ⊎_elim, ℕ, zero, suc, ◌+◌, ◌-◌, ◌*◌, ◌/◌, ◌%◌, ◌<◌, ◌≤◌, List, [], ◌∷◌, ◌++◌, ◌&&◌, length, take, drop, reverse, get_or, refl, sym, ◌∙◌, ap, subst, arith, true, false, length-append, IsTrue, Vec, Global, if◌then◌else◌}
use Rattle.std.specs.Prelude.{nat_le, nat_lt}
use Rattle.std.proofs.Math.Nat.{mod-eq_of_lt, mod-lt}
use Rattle.std.proofs.lemmas.Bool.{cases_lt, le-leb, lt-ltb, le-ltb, leb-true, ltb-true}
use Rattle.std.proofs.lemmas.List.{append-nil, get_or_append_left, get_or-append_right, reverse-append, take_all, take_more, take-append-drop}
use Rattle.crash_blocks.specs.declared.event.Event.{Event}
use Rattle.crash_blocks.specs.declared.event.Event.TheVariants.{Write, Flush}
use Rattle.crash_blocks.specs.declared.pick.Past.{Past}
use Rattle.crash_blocks.specs.declared.pick.Pick.{Pick}
use Rattle.crash_blocks.specs.declared.pick.Pick.TheVariants.{Oldest, Newest, Rotated}
use Rattle.block_file.specs.Cut.{cut, run_of}
use Rattle.block_file.specs.CutLaws.{length-cut, cut_at, run_of_one}
use Rattle.block_file.specs.Disk.{block_at, written, IsNewAt, MayLeave}
use Rattle.block_file.specs.DiskLaws.{written_before, written_inside, written_behind}
use Rattle.crash_blocks.specs.Events.{Held, contents_of, runs_fit}
use Rattle.crash_blocks.specs.Moments.{held_at, length-contents, write_fits}
use Rattle.crash_blocks.specs.Values.{place_of, picked_of, values_of, written_at, IsPast, HasPast, IsPicked}

-- ---- the block that a write has for a place

module _ (first : ℕ) (blocks : List (List ℕ)) (k : ℕ) where
  pub inside_at : first ≤ k → k < first + length blocks → written_at first blocks k ≡ block_at blocks (k - first) ∷ []
  inside_at ge lt = rw (le-leb first k ge, lt-ltb k (first + length blocks) lt) refl

  before_at : (b : Bool) → k < first → nat_le first k ≡ b → written_at first blocks k ≡ []
  before_at true lt is = absurd (let ge : first ≤ k = leb-true first k is in omega arith)
  before_at false lt is = rw is refl

  pub outside_at : (k < first) ⊎ (first + length blocks ≤ k) → written_at first blocks k ≡ []
  outside_at (inl lt) = before_at (nat_le first k) lt refl
  outside_at (inr past) =
      rw (le-leb first k (omega arith), le-ltb k (first + length blocks) past) refl

  -- it is a new value of the block
  new_at : (i : ℕ) → i < length (written_at first blocks k) → (inside : (k < first) ⊎ (first ≤ k))
      → (k < first + length blocks) ⊎ (first + length blocks ≤ k)
      → IsNewAt first blocks k (block_at (written_at first blocks k) i)
  new_at i lt (inl before) _ = absurd (let none : written_at first blocks k ≡ [] = outside_at (inl before) in
      let long : length (written_at first blocks k) ≡ 0 = ap length none in omega arith)
  new_at i lt (inr ge) (inr past) = absurd (let none : written_at first blocks k ≡ [] = outside_at (inr past) in
      let long : length (written_at first blocks k) ≡ 0 = ap length none in omega arith)
  new_at i lt (inr ge) (inl below) =
      let is : written_at first blocks k ≡ block_at blocks (k - first) ∷ [] = inside_at ge below in
      let long : length (written_at first blocks k) ≡ 1 = ap length is in
      let e : i ≡ 0 = omega arith in
      record {
        from = ge;
        below = below;
        is = ap (λ (vs : List (List ℕ)). block_at vs i) is ∙ ap (λ (j : ℕ). block_at (block_at blocks (k - first) ∷ []) j) e;
      }

  pub is_new_at : (i : ℕ) → i < length (written_at first blocks k) → IsNewAt first blocks k (block_at (written_at first blocks k) i)
  is_new_at i lt = new_at i lt (cases_lt k first) (cases_lt k (first + length blocks))

-- ---- the values of a block

pub some_value : (start : List (List ℕ)) (events : List Event) (k : ℕ) → 0 < length (values_of start events k)
some_value start [] k = omega arith
some_value start (Flush ∷ older) k = omega arith
some_value start (Write first bytes ∷ older) k =
    omega (arith, some_value start older k, length-append (values_of start older k) (written_at first (run_of bytes.items) k))

-- each of them is one that a crash may leave
pub each_held : (size : ℕ) (start : List (List ℕ)) (events : List Event) → length start ≡ size
    → IsTrue (runs_fit size events) → (k i : ℕ) → i < length (values_of start events k)
    → Held start events k (block_at (values_of start events k) i)
each_held size start [] long fit k zero lt = refl
each_held size start [] long fit k (suc i) lt = absurd (omega arith)
each_held size start (Flush ∷ older) long fit k zero lt = (held_at size start older long fit k, refl)
each_held size start (Flush ∷ older) long fit k (suc i) lt = absurd (omega arith)
each_held size start (Write first bytes ∷ older) long fit k i lt =
    let old = values_of start older k in
    let new = written_at first (run_of bytes.items) k in
    ⊎_elim
    (λ (less : i < length old). inl (subst (λ (v : List ℕ). Held start older k v) (sym (get_or_append_left old new [] i less))
    (each_held size start older long (write_fits size first bytes older fit).1 k i less)))
    (λ (more : length old ≤ i). inr (subst (λ (v : List ℕ). IsNewAt first (run_of bytes.items) k v)
    (sym (get_or-append_right old new (length old) i [] refl more))
    (is_new_at first (run_of bytes.items) k (i - length old) (omega (arith, lt, length-append old new)))))
    (cases_lt i (length old))

-- a pick is one of them
pub place_within : (pick : Pick) (k count : ℕ) → 0 < count → place_of pick k count < count
place_within Oldest k count some = some
place_within Newest k count some = omega arith
place_within (Rotated turn) k count some = mod-lt (k + turn) some

-- what is picked of a block is what a crash may leave of it
pub picked_held : (pick : Pick) (size : ℕ) (start : List (List ℕ)) (events : List Event) → length start ≡ size
    → IsTrue (runs_fit size events) → (k : ℕ) → Held start events k (picked_of pick (values_of start events k) k)
picked_held pick size start events long fit k =
    each_held size start events long fit k (place_of pick k (length (values_of start events k)))
    (place_within pick k (length (values_of start events k)) (some_value start events k))

-- the last of them is the one that is there
newest_written : (first : ℕ) (run disk values : List (List ℕ)) (k : ℕ) → first + length run ≤ length disk
    → 0 < length values → block_at values (length values - 1) ≡ block_at disk k → (k < first) ⊎ (first ≤ k)
    → (k < first + length run) ⊎ (first + length run ≤ k)
    → block_at (values ++ written_at first run k) (length (values ++ written_at first run k) - 1)
    ≡ block_at (written disk first run) k
newest_written first run disk values k fits some is (inl lt) _ =
    rw (outside_at first run k (inl lt), append-nil values, written_before disk run first fits k lt) is
newest_written first run disk values k fits some is (inr ge) (inr past) =
    rw (outside_at first run k (inr past), append-nil values, written_behind disk run first fits k past) is
newest_written first run disk values k fits some is (inr ge) (inl below) =
    let new = block_at run (k - first) in
    let last : length (values ++ new ∷ []) - 1 ≡ length values = omega (arith, length-append values (new ∷ [])) in
    let z : length values - length values ≡ 0 = omega arith in
    rw (inside_at first run k ge below, written_inside disk run first fits k ge below)
    (ap (λ (j : ℕ). block_at (values ++ new ∷ []) j) last
    ∙ get_or-append_right values (new ∷ []) (length values) (length values) [] refl (omega arith)
    ∙ ap (λ (j : ℕ). block_at (new ∷ []) j) z)

pub newest_is : (size : ℕ) (start : List (List ℕ)) (events : List Event) → length start ≡ size
    → IsTrue (runs_fit size events) → (k : ℕ)
    → block_at (values_of start events k) (length (values_of start events k) - 1) ≡ block_at (contents_of start events) k
newest_is size start [] long fit k = refl
newest_is size start (Flush ∷ older) long fit k = refl
newest_is size start (Write first bytes ∷ older) long fit k =
    let run = run_of bytes.items in
    let whole : length (contents_of start older) ≡ size =
    length-contents size start older long (write_fits size first bytes older fit).1 in
    let fits : first + length run ≤ length (contents_of start older) =
    omega (arith, whole, (write_fits size first bytes older fit).0, length-cut (length bytes.items / 512) bytes.items) in
    newest_written first run (contents_of start older) (values_of start older k) k fits (some_value start older k)
    (newest_is size start older long (write_fits size first bytes older fit).1 k) (cases_lt k first)
    (cases_lt k (first + length run))

-- a disk of which each block has the value that is picked is one that a crash may leave
pub picked_left : (pick : Pick) (size : ℕ) (start : List (List ℕ)) (events : List Event) (disk : List (List ℕ))
    → length start ≡ size → IsTrue (runs_fit size events) → length disk ≡ size → IsPicked pick size start events disk
    → MayLeave size (Held start events) disk
picked_left pick size start events disk long fit same picked = record {
  as_long = same;
  each = λ k lt. subst (λ (v : List ℕ). Held start events k v) (sym (picked k lt))
      (picked_held pick size start events long fit k);
}

pub newest_left : (pick : Pick) (size : ℕ) (start : List (List ℕ)) (events : List Event) (disk now : List (List ℕ))
    → length start ≡ size → IsTrue (runs_fit size events) → now ≡ contents_of start events
    → IsPicked pick size start events disk → pick ≡ Newest → (k : ℕ) → k < size → block_at disk k ≡ block_at now k
newest_left pick size start events disk now long fit is picked newest k lt =
    picked k lt ∙ ap (λ (p : Pick). picked_of p (values_of start events k) k) newest
    ∙ newest_is size start events long fit k ∙ ap (λ (d : List (List ℕ)). block_at d k) (sym is)

-- one block more is left as it is picked
pub one_more : (disk new : List (List ℕ)) (k : ℕ) (left : List ℕ) (picked : ℕ → List ℕ) → length left ≡ 512
    → k < length disk → new ≡ written disk k (run_of left) → left ≡ picked k
    → ((j : ℕ) → j < k → block_at disk j ≡ picked j) → (j : ℕ) → j < k + 1 → block_at new j ≡ picked j
one_more disk new k left picked long lt is same before j small =
    let one : new ≡ written disk k (left ∷ []) =
    is ∙ ap (λ (bs : List (List ℕ)). written disk k bs) (run_of_one left long) in
    let at : block_at new j ≡ block_at (written disk k (left ∷ [])) j = ap (λ (d : List (List ℕ)). block_at d j) one in
    at ∙ ⊎_elim
    (λ (less : j < k). written_before disk (left ∷ []) k (omega (arith, lt)) j less ∙ before j less)
    (λ (ge : k ≤ j). let e : j ≡ k = omega (arith, small, ge) in
    let z : j - k ≡ 0 = omega arith in
    written_inside disk (left ∷ []) k (omega (arith, lt)) j ge (omega (arith, small))
    ∙ ap (λ (i : ℕ). block_at (left ∷ []) i) z ∙ same ∙ ap picked (sym e))
    (cases_lt j k)

-- ---- the events, gone through from the oldest on

module _ (first : ℕ) (bytes : List ℕ) (k wanted : ℕ) (disk values : List (List ℕ))
    (fits : first + length bytes / 512 ≤ length disk) where
  abbrev run : List (List ℕ)
  run = run_of bytes

  long_run : length run ≡ length bytes / 512
  long_run = length-cut (length bytes / 512) bytes

  run_fits : first + length run ≤ length disk
  run_fits = omega (arith, long_run, fits)

  untouched : (k < first) ⊎ (first + length run ≤ k) → block_at (written disk first run) k ≡ block_at disk k
  untouched (inl lt) = written_before disk run first run_fits k lt
  untouched (inr past) = written_behind disk run first run_fits k past

  -- a write of other blocks
  pub gone_past : (past : Past) → (k < first) ⊎ (first + length bytes / 512 ≤ k)
      → IsPast (block_at disk k) values wanted past
      → IsPast (block_at (written disk first run) k) (values ++ written_at first run k) wanted past
  gone_past past out is =
      let out_of : (k < first) ⊎ (first + length run ≤ k) =
      ⊎_elim (λ (lt : k < first). inl lt) (λ (past : first + length bytes / 512 ≤ k). inr (omega (arith, long_run, past))) out in
      rw (untouched out_of, outside_at first run k out_of, append-nil values) is

  -- a write of this one
  pub gone_more : (past : Past) (block picked : List ℕ) → first ≤ k → k < first + length bytes / 512
      → block ≡ take 512 (drop (512 * (k - first)) bytes) → (past.written + 1 ≡ wanted → picked ≡ block)
      → ((past.written + 1 ≡ wanted → ⊥) → picked ≡ past.picked) → IsPast (block_at disk k) values wanted past
      → IsPast (block_at (written disk first run) k) (values ++ written_at first run k) wanted
      (record { holds = block; written = past.written + 1; picked = picked })
  gone_more past block picked ge lt is found other was =
      let below : k < first + length run = omega (arith, long_run, lt) in
      let new : block_at run (k - first) ≡ block =
      cut_at (length bytes / 512) bytes (k - first) (omega (arith, ge, lt)) ∙ sym is in
      let at : written_at first run k ≡ block ∷ [] =
      inside_at first run k ge below ∙ ap (λ (b : List ℕ). b ∷ []) new in
      rw (at, written_inside disk run first run_fits k ge below ∙ new) (record {
        holds = refl;
        written = omega (arith, was.written, length-append values (block ∷ []));
        picked = λ le. ⊎_elim
            (λ (less : wanted < length values).
            other (λ (e : past.written + 1 ≡ wanted). let w : past.written + 1 ≡ length values = was.written in omega arith)
            ∙ was.picked (let w : past.written + 1 ≡ length values = was.written in omega arith)
            ∙ sym (get_or_append_left values (block ∷ []) [] wanted less))
            (λ (more : length values ≤ wanted).
            let w : past.written + 1 ≡ length values = was.written in
            let e : past.written + 1 ≡ wanted = omega arith in
            let z : wanted - length values ≡ 0 = omega arith in
            found e ∙ sym (get_or-append_right values (block ∷ []) (length values) wanted [] refl more
            ∙ ap (λ (j : ℕ). block_at (block ∷ []) j) z))
            (cases_lt wanted (length values));
      })

pub write_more : (event : Event) (first : ℕ) (bytes : Vec ℕ Global) (given : List ℕ) (k wanted : ℕ) (old new : Past)
    → event ≡ Write first bytes → given ≡ bytes.items
    → ((disk values : List (List ℕ)) → k < length disk → first + length given / 512 ≤ length disk
    → IsPast (block_at disk k) values wanted old
    → IsPast (block_at (written disk first (run_of given)) k) (values ++ written_at first (run_of given) k) wanted new)
    → (size : ℕ) (start : List (List ℕ)) (older : List Event) → length start ≡ size → k < size
    → IsTrue (runs_fit size (event ∷ older)) → HasPast start older k wanted old
    → HasPast start (event ∷ older) k wanted new
write_more event first bytes given k wanted old new is same does = rw is (λ size start older long lt fit has.
    let whole : length (contents_of start older) ≡ size =
    length-contents size start older long (write_fits size first bytes older fit).1 in
    let within : first + length bytes.items / 512 ≤ size = (write_fits size first bytes older fit).0 in
    subst (λ (g : List ℕ). first + length g / 512 ≤ length (contents_of start older)
    → IsPast (block_at (written (contents_of start older) first (run_of g)) k)
    (values_of start older k ++ written_at first (run_of g) k) wanted new) same
    (λ fits. does (contents_of start older) (values_of start older k) (omega (arith, whole, lt)) fits has)
    (omega (arith, whole, within)))

-- the events behind others fit too
fits_behind : (size : ℕ) (newer older : List Event) → IsTrue (runs_fit size (newer ++ older)) → IsTrue (runs_fit size older)
fits_behind size [] older fit = fit
fits_behind size (Flush ∷ newer) older fit = fits_behind size newer older fit
fits_behind size (Write first bytes ∷ newer) older fit =
    fits_behind size newer older (write_fits size first bytes (newer ++ older) fit).1

first_fit : (size : ℕ) (events : List Event) (n : ℕ) → IsTrue (runs_fit size (reverse events))
    → IsTrue (runs_fit size (reverse (take n events)))
first_fit size events n fit =
    fits_behind size (reverse (drop n events)) (reverse (take n events))
    (subst (λ (es : List Event). IsTrue (runs_fit size es))
    (ap reverse (sym (take-append-drop n events)) ∙ reverse-append (take n events) (drop n events)) fit)

next_reversed : (events : List Event) (n : ℕ) (event : Event) → event ≡ get_or events n event → n < length events
    → reverse (take (n + 1) events) ≡ event ∷ reverse (take n events)
next_reversed events n event is lt =
    ap reverse (take_more events n event lt ∙ ap (λ (e : Event). take n events ++ e ∷ []) (sym is))
    ∙ reverse-append (take n events) (event ∷ [])

pub gone_next : (bytes : List ℕ) (events : List Event) (n : ℕ) (event : Event) (k wanted : ℕ) (old new : Past)
    → event ≡ get_or events n event → n < length events
    → ((size : ℕ) (start : List (List ℕ)) (older : List Event) → length start ≡ size → k < size
    → IsTrue (runs_fit size (event ∷ older)) → HasPast start older k wanted old
    → HasPast start (event ∷ older) k wanted new)
    → ((size : ℕ) → length bytes ≡ 512 * size → k < size → IsTrue (runs_fit size (reverse events))
    → HasPast (cut size bytes) (reverse (take n events)) k wanted old)
    → (size : ℕ) → length bytes ≡ 512 * size → k < size → IsTrue (runs_fit size (reverse events))
    → HasPast (cut size bytes) (reverse (take (n + 1) events)) k wanted new
gone_next bytes events n event k wanted old new is lt goes has size long small fit =
    let next : reverse (take (n + 1) events) ≡ event ∷ reverse (take n events) = next_reversed events n event is lt in
    subst (λ (es : List Event). HasPast (cut size bytes) es k wanted new) (sym next)
    (goes size (cut size bytes) (reverse (take n events)) (length-cut size bytes) small
    (subst (λ (es : List Event). IsTrue (runs_fit size es)) next (first_fit size events (n + 1) fit))
    (has size long small fit))

pub gone_first : (bytes : List ℕ) (k wanted : ℕ) (block : List ℕ) → block ≡ take 512 (drop (512 * k) bytes) → (size : ℕ)
    → k < size → HasPast (cut size bytes) [] k wanted (record { holds = block; written = 0; picked = block })
gone_first bytes k wanted block is size lt =
    let at : block ≡ block_at (cut size bytes) k = is ∙ sym (cut_at size bytes k lt) in
    record {
      holds = at;
      written = refl;
      picked = λ le. let z : wanted ≡ 0 = omega arith in
          at ∙ sym (ap (λ (j : ℕ). block_at (block_at (cut size bytes) k ∷ []) j) z);
    }

-- what is found at the place that is picked
pub found_at : (pick : Pick) (values : List (List ℕ)) (k : ℕ) (block other : List ℕ) (counted past : Past) (place : ℕ)
    → IsPast other values 0 counted → place ≡ place_of pick k (counted.written + 1) → IsPast block values place past
    → past.picked ≡ picked_of pick values k
found_at pick values k block other counted past place counts is has =
    let same : place ≡ place_of pick k (length values) = is ∙ ap (place_of pick k) counts.written in
    let w : past.written + 1 ≡ length values = has.written in
    let c : counted.written + 1 ≡ length values = counts.written in
    let lt : place_of pick k (length values) < length values = place_within pick k (length values) (omega arith) in
    has.picked (omega (arith, w, lt, same)) ∙ ap (λ (j : ℕ). block_at values j) same
