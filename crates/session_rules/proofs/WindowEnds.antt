-- The end of the window never falls.
use Rattle.std.proofs.Common.{◌≡◌, ℕ, ◌+◌, ◌-◌, ◌<◌, ◌≤◌, Bool, true, false, not, List, [], ◌∷◌, ◌++◌, Option, Some, None, map, refl, ap}
use Rattle.std.proofs.Common.{◌∙◌, ◌↔◌, ◌⊎◌, inl, inr, subst, sym, append_assoc, arith, cond, ◌==◌, ◌&&◌, ◌||◌, nat_lt, if◌then◌else◌}
use Rattle.std.proofs.lemmas.{List.append-nil, List.Sums.sum_by-append, List.Elements.filter_map-append}
use Rattle.std.proofs.lemmas.Bool.{ltb-true, ltb-false, eqb-true}
use Rattle.session_rules.specs.Words.{filter, filter_map, cons_option, count_by, list_any, option_to_list, CommandHeader, Initiator}
use Rattle.session_rules.specs.Words.{NopOut, ScsiCommand, TaskManagementRequest, TextRequest, LogoutRequest, Verdict, Accepted, Ignored}
use Rattle.session_rules.specs.Words.{Gap, Refused}
use Rattle.session_rules.proofs.Tasks.{count_append, last_task, with_turn, extended_by, extended, tasks_more}
use Rattle.session_rules.specs.{Setting.Setting, Setting.discovers, Text.is_text_refused, Turn.Incoming, Turn.pdu, Turn.Out, Turn.Turn}
use Rattle.session_rules.specs.{Window.wrap, Window.ahead, Window.takes_number, Window.is_numbered}
use Rattle.session_rules.specs.Collecting.{shrinks_window, is_immediate}
use Rattle.session_rules.specs.{Legal.AtEach, Legal.HaveWindow, Legal.Lawful, Tasks.touches, Tasks.ends, Tasks.through, Tasks.Task}
use Rattle.session_rules.specs.{Tasks.accepted_command, Tasks.begun_by, Tasks.tasks, Tasks.has_ended, Tasks.Collecting, Tasks.collected}
use Rattle.session_rules.specs.{Tasks.collecting_of, Verdict.IsJudged, Verdict.window_verdict, Verdict.is_open, Verdict.is_refused, Verdict.unless_full}
use Rattle.session_rules.specs.Standing.{Standing, standing, numbered_waiting, window_size, last_in_window}
use Rattle.session_rules.specs.Following.{HaveMaxCmdSn, numbers_taken, waiting_in, window_end, unless_immediate, number_in}

abbrev count : List Collecting → ℕ
count cs = count_by shrinks_window cs

abbrev weight : Task → ℕ
weight k = count (cons_option (collecting_of k) [])

weight_cons : (o : Option Collecting) (cs : List Collecting) → count (cons_option o cs) ≡ count (cons_option o []) + count cs
weight_cons None cs = omega arith
weight_cons (Some c) cs = count_append (c ∷ []) cs

module _ (units : ℕ) where
  begun_command : (b : Bool) (p : CommandHeader) (c : Collecting) → c.command ≡ p
      → count (cons_option (if b then None else Some c) []) ≤ cond (not p.immediate) 1 0
  begun_command true p c e = omega arith
  begun_command false p c e = omega (arith, ap {B = ℕ} (λ (q : CommandHeader). cond (not q.immediate) 1 0) e)

  -- a task with one turn more weighs no more
  weight_less : (u : Turn) (k : Task) (b c : Bool) → has_ended k ≡ c → weight (extended_by u b c k) ≤ weight k
  weight_less u k true true e = omega arith
  weight_less u k true false e =
      rw e (omega (arith, begun_command (list_any ends (k.own ++ u ∷ [])) k.command (collected (with_turn k u)) refl))
  weight_less u k false c e = omega arith

  fewer : (u : Turn) (ks : List Task)
      → count (filter_map collecting_of (map (extended units u) ks)) ≤ count (filter_map collecting_of ks)
  fewer u [] = omega arith
  fewer u (k ∷ ks) =
      omega (
        arith,
        weight_cons (collecting_of (extended units u k))
            (filter_map collecting_of (map (extended units u) ks)),
        weight_cons (collecting_of k)
            (filter_map collecting_of ks),
        weight_less u k (touches units k.command u) (has_ended k) refl,
        fewer u ks,
      )

  abbrev number : Verdict → Incoming → ℕ
  number v came = cond (takes_number v came) 1 0

  -- a turn that begins a task takes a number for it, if it is numbered
  accepted_one : (came : Incoming) (t : Turn) (behind : List Turn)
      → count (filter_map collecting_of
      (cons_option (begun_by units (accepted_command Accepted came) t behind) [])) ≤ number Accepted came
  accepted_one (pdu b (Initiator (ScsiCommand p)) d) t behind =
      let k : Task = record { command = p; segment = d; own = through ends (t ∷ filter_of p t behind) } in
      begun_command (has_ended k) p (collected k) refl where
        filter_of : CommandHeader → Turn → List Turn → List Turn
        filter_of p t behind = filter (touches units p) behind
  accepted_one came t behind = omega arith

  one_place : (v : Verdict) (came : Incoming) (t : Turn) (behind : List Turn)
      → count (filter_map collecting_of (cons_option (begun_by units (accepted_command v came) t behind) [])) ≤ number v came
  one_place Accepted came t behind = accepted_one came t behind
  one_place v came t behind = omega arith

  waiting_grows : (ts : List Turn) (u : Turn) → waiting_in units (ts ++ u ∷ []) ≤ waiting_in units ts + number u.verdict u.came
  waiting_grows ts u =
      let begun : Option Task = begun_by units (accepted_command u.verdict u.came) u [] in
      let new : List Task = option_to_list begun in
      omega (
        arith,
        ap (λ (ks : List Task). count (filter_map collecting_of ks)) (tasks_more units ts u),
        ap count (filter_map-append collecting_of (map (extended units u) (tasks units ts)) new),
        count_append (filter_map collecting_of (map (extended units u) (tasks units ts))) (filter_map collecting_of new),
        fewer u (tasks units ts),
        ap (λ (ks : List Task). count (filter_map collecting_of ks)) (sym (last_task begun)),
        one_place u.verdict u.came u [],
      )

  taken_more : (ts us : List Turn) → numbers_taken (ts ++ us) ≡ numbers_taken ts + numbers_taken us
  taken_more ts us = sum_by-append (λ t. cond (takes_number t.verdict t.came) 1 0) ts us

  one_more : (ts : List Turn) (u : Turn) → window_end units ts ≤ window_end units (ts ++ u ∷ [])
  one_more ts u = omega (arith, waiting_grows ts u, taken_more ts (u ∷ []))

  pub never_falls : (before behind : List Turn) → window_end units before ≤ window_end units (before ++ behind)
  never_falls before [] = omega (arith, ap (window_end units) (append-nil before))
  never_falls before (u ∷ behind) =
      omega (
        arith,
        one_more before u,
        never_falls (before ++ u ∷ []) behind,
        ap (window_end units)
            (append_assoc before (u ∷ []) behind),
      )

  -- no more wait than have taken a number
  count_place : (o : Option Task) (ks : List Task) → count (filter_map collecting_of (cons_option o ks))
      ≡ count (filter_map collecting_of (cons_option o [])) + count (filter_map collecting_of ks)
  count_place None ks = omega arith
  count_place (Some k) ks = weight_cons (collecting_of k) (filter_map collecting_of ks)

  waiting_fits : (ts : List Turn) → waiting_in units ts ≤ numbers_taken ts
  waiting_fits [] = omega arith
  waiting_fits (t ∷ behind) =
      omega (
        arith,
        count_place (begun_by units (accepted_command t.verdict t.came) t behind)
            (tasks units behind),
        one_place t.verdict t.came t behind,
        taken_more (t ∷ []) behind,
        waiting_fits behind,
      )

-- ---- no more than 32 wait

outside : (a w : ℕ) (refused : Bool) (v : Verdict)
    → v ≡ (if ((a == 0) && nat_lt 0 w) then (if refused then Refused 4 else Accepted) else (if nat_lt a w then Gap else Ignored))
    → (v ≡ Ignored) ↔ (a < w → ⊥)
outside a w refused v e = by_gap (nat_lt a w) refl e where
  inside : (turn refused : Bool) → (if turn then (if refused then Refused 4 else Accepted) else Gap) ≡ Ignored → ⊥
  inside true true k = cc
  inside true false k = cc
  inside false refused k = cc

  shut : (first free : Bool) → (a == 0) ≡ first → nat_lt 0 w ≡ free → w ≤ a → (first && free) ≡ false
  shut true true f g h = absurd (omega (arith, eqb-true a 0 f, ltb-true 0 w g, h))
  shut true false f g h = refl
  shut false free f g h = refl

  by_gap : (gap : Bool) → nat_lt a w ≡ gap
      → v ≡ (if ((a == 0) && nat_lt 0 w) then (if refused then Refused 4 else Accepted) else (if gap then Gap else Ignored))
      → (v ≡ Ignored) ↔ (a < w → ⊥)
  by_gap true g k =
      (λ i. absurd (inside ((a == 0) && nat_lt 0 w) refused (sym k ∙ i)), λ out. absurd (out (ltb-true a w g)))
  by_gap false g k =
      let less : w ≤ a = ltb-false a w g in
      let closed : ((a == 0) && nat_lt 0 w) ≡ false = shut (a == 0) (nat_lt 0 w) refl refl less in
      (λ _ h. omega (arith, less, h), λ _. rw closed at k)

-- what is ignored lies as far ahead as the window takes, or farther
abbrev pub IsSo : Standing → ℕ → Verdict → Type 0
IsSo s cmd_sn v = (v ≡ Ignored) ↔ (ahead cmd_sn s.exp_cmd_sn < window_size s → ⊥)

-- what came has no CmdSN to be judged by, or is judged so by this one
abbrev pub IsJudgedBy : Standing → Verdict → Bool → Option ℕ → Type 0
IsJudgedBy s v numbered number =
    ((numbered ≡ false) × (number ≡ None)) ⊎ ((cmd_sn : ℕ) × (number ≡ Some cmd_sn) × IsSo s cmd_sn v)

by_bit : (s : Standing) (v : Verdict) (i : Bool) (c : ℕ) (refused : Bool) → v ≡ window_verdict s i c refused
    → IsJudgedBy s v (not i) (unless_immediate i c)
by_bit s v true c refused e = inl (refl, refl)
by_bit s v false c refused e = inr (c, refl, outside (ahead c s.exp_cmd_sn) (window_size s) refused v e)

command_bit : (s : Standing) (v : Verdict) (i full : Bool) (c : ℕ) (refused : Bool)
    → v ≡ unless_full (i && full) (window_verdict s i c refused) → IsJudgedBy s v (not i) (unless_immediate i c)
command_bit s v true full c refused e = inl (refl, refl)
command_bit s v false full c refused e = by_bit s v false c refused e

pub judged_by : (m : Setting) (s : Standing) (came : Incoming) (v : Verdict) → IsJudged m s came v
    → IsJudgedBy s v (is_numbered came) (number_in came)
judged_by m s (pdu b (Initiator (NopOut p)) d) v k = by_bit s v p.immediate p.numbers.cmd_sn (is_open s p.task_tag) k
judged_by m s (pdu b (Initiator (ScsiCommand p)) d) v k =
    command_bit s v p.immediate (list_any is_immediate s.collecting) p.numbers.cmd_sn
    (discovers m.kind || is_refused m.start.lengths s p d) k
judged_by m s (pdu b (Initiator (LogoutRequest p)) d) v k = by_bit s v p.immediate p.numbers.cmd_sn (is_open s p.task_tag) k
judged_by m s (pdu b (Initiator (TaskManagementRequest p)) d) v k =
    by_bit s v p.immediate p.numbers.cmd_sn (discovers m.kind || is_open s p.task_tag) k
judged_by m s (pdu b (Initiator (TextRequest p)) d) v k =
    by_bit s v p.immediate p.numbers.cmd_sn (is_text_refused m p d || is_open s p.task_tag) k
judged_by m s came v k = inl (refl, refl)

-- a numbered PDU that is accepted found the window open
room_of : (m : Setting) (s : Standing) (v : Verdict) (came : Incoming) → IsJudged m s came v → takes_number v came ≡ true
    → 32 ≤ numbered_waiting s → ⊥
room_of m s Accepted came judged e full = elim (judged_by m s came Accepted judged) [
  | inl w ↦ let none : is_numbered came ≡ false = w.0 in cc
  | inr w ↦ let shut : Accepted ≡ Ignored = w.2.1 (λ h. omega (arith, h, full)) in cc
]
room_of m s v came judged e full = cc

few_step : (m : Setting) (ts : List Turn) (u : Turn) → waiting_in m.units ts ≤ 32 → IsJudged m (standing m ts) u.came u.verdict
    → waiting_in m.units (ts ++ u ∷ []) ≤ 32
few_step m ts u few judged = by_number (takes_number u.verdict u.came) refl where
  by_number : (b : Bool) → takes_number u.verdict u.came ≡ b → waiting_in m.units (ts ++ u ∷ []) ≤ 32
  by_number true e = omega (
    arith,
    waiting_grows m.units ts u,
    ap {B = ℕ} (λ (b : Bool). cond b 1 0) e,
    few,
    room_of m (standing m ts) u.verdict u.came judged e,
  )
  by_number false e = omega (arith, waiting_grows m.units ts u, ap {B = ℕ} (λ (b : Bool). cond b 1 0) e, few)

few_wait : (m : Setting) (before ts : List Turn) → waiting_in m.units before ≤ 32
    → ((front : List Turn) (t : Turn) (behind : List Turn) → before ++ ts ≡ front ++ (t ∷ behind)
    → IsJudged m (standing m front) t.came t.verdict)
    → waiting_in m.units (before ++ ts) ≤ 32
few_wait m before [] few each = omega (arith, few, ap (waiting_in m.units) (append-nil before))
few_wait m before (u ∷ ts) few each =
    let whole : (before ++ u ∷ []) ++ ts ≡ before ++ (u ∷ ts) = append_assoc before (u ∷ []) ts in
    subst (λ (z : List Turn). waiting_in m.units z ≤ 32) whole
    (few_wait m (before ++ u ∷ []) ts (few_step m before u few (each before u ts refl))
    (λ front t behind e. each front t behind (sym whole ∙ e)))

pub few_behind : (m : Setting) (before : List Turn) (t : Turn) (behind : List Turn) → Lawful m (before ++ (t ∷ behind))
    → waiting_in m.units (before ++ t ∷ []) ≤ 32
few_behind m before t behind l =
    few_wait m [] (before ++ t ∷ []) (omega arith) (λ front u rest f. l.judged front u (rest ++ behind)
    (sym (append_assoc before (t ∷ []) behind) ∙ ap (λ (z : List Turn). z ++ behind) f
    ∙ append_assoc front (u ∷ rest) behind))

-- ---- and MaxCmdSN tells it

window_ends : (s : Standing) (outs : List Out) → HaveWindow s outs → HaveMaxCmdSn (last_in_window s) outs
window_ends s [] k = tt
window_ends s (o ∷ outs) k = (k.0.reaches, window_ends s outs k.1)

last_is : (first taken waiting : ℕ) → waiting ≤ taken → waiting ≤ 4294967296
    → wrap (wrap (first + taken) + 31 + (4294967296 - waiting)) ≡ wrap (first + (taken - waiting) + 31)
last_is first taken waiting h k = omega (arith, h, k)

pub max_counted : (m : Setting) (ts : List Turn) → Lawful m ts
    → AtEach (λ before t. HaveMaxCmdSn (wrap (m.start.exp_cmd_sn + window_end m.units (before ++ t ∷ []) + 31)) t.sent) ts
max_counted m ts l before t behind e =
    let now : List Turn = before ++ t ∷ [] in
    let few_now : waiting_in m.units now ≤ 32 = few_behind m before t behind (subst (Lawful m) e l) in
    subst (λ (n : ℕ). HaveMaxCmdSn n t.sent)
    (last_is m.start.exp_cmd_sn (numbers_taken now) (waiting_in m.units now) (waiting_fits m.units now) (omega (arith, few_now)))
    (window_ends (standing m now) t.sent (l.windows before t behind e))
