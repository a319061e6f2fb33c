-- One turn more keeps a transcript lawful.
use Rattle.std.proofs.Common.{◌≡◌, ◌⊎◌, ℕ, ◌+◌, ◌%◌, ◌<◌, Bool, true, false, List, [], ◌∷◌, ◌++◌, Some, length, refl}
use Rattle.std.proofs.Common.{sym, ap, subst, ◌∙◌, inl, inr, arith, length-append, cond}
use Rattle.std.proofs.lemmas.List.{append-nil, Sums.sum_by-append, Elements.filter_map-append}
use Rattle.std.proofs.Math.Nat.{mod-add-mod}
use Rattle.session_rules.specs.Words.{slice_get, count_by, AllByRecursion, R2tHeader}
use Rattle.session_rules.specs.{Setting.Setting, Turn.Incoming, Turn.Turn, Turn.sent, Window.wrap, Window.takes_number}
use Rattle.session_rules.specs.{Window.exp_cmd_sn_after, Tasks.r2ts_of, Tasks.r2ts, Tasks.tasks}
use Rattle.session_rules.specs.{Standing.transfer_at, Standing.standing, Collecting.IsRightTask}
use Rattle.session_rules.specs.Legal.{status_number, status_numbers, HaveWindow, GoesOn, Lawful}
use Rattle.session_rules.proofs.AtEach.{at_each_more, at_each_none}
use Rattle.session.proofs.{Right.get_more, Right.none_at, Steps.sent_more, Steps.r2ts_more, Table.IsKept}
use Rattle.session.proofs.{Gathering.kept_more, RequestFacts.TurnFacts, Facts.made_facts}
use Rattle.session_full_feature.specs.{Counters.Counters, Counters.begun, MakesTurn.TurnOf}

-- the counters behind some turns
abbrev pub counters_of : Setting → List Turn → Counters
counters_of setting ts = record {
  setting = setting;
  stat_sn = wrap (setting.start.stat_sn + length (status_numbers (sent ts)));
  standing = standing setting ts;
}

abbrev numbered : Turn → Bool
numbered t = takes_number t.verdict t.came

count_more : (ts : List Turn) (t : Turn)
    → count_by numbered (ts ++ t ∷ []) ≡ count_by numbered ts + (0 + cond (numbered t) 1 0)
count_more ts t = sum_by-append (λ u. cond (numbered u) 1 0) ts (t ∷ [])

command_more : (first : ℕ) (ts : List Turn) (t : Turn) (old new : ℕ) → old ≡ exp_cmd_sn_after first ts
    → ((new ≡ old) × (numbered t ≡ false)) ⊎ ((new ≡ wrap (old + 1)) × (numbered t ≡ true))
    → new ≡ exp_cmd_sn_after first (ts ++ t ∷ [])
command_more first ts t old new tied (inl w) =
    w.0 ∙ tied ∙ ap (λ (n : ℕ). wrap (first + n)) (omega (arith, count_more ts t, ap {B = ℕ} (λ (b : Bool). cond b 1 0) w.1))
command_more first ts t old new tied (inr w) =
    omega (arith, w.0, tied, count_more ts t, ap {B = ℕ} (λ (b : Bool). cond b 1 0) w.1)

pub statuses_more : (ts : List Turn) (t : Turn)
    → status_numbers (sent (ts ++ t ∷ [])) ≡ status_numbers (sent ts) ++ status_numbers t.sent
statuses_more ts t = ap status_numbers (sent_more ts t) ∙ filter_map-append (λ o. status_number o.header) (sent ts) t.sent

module _ (first : ℕ) (ts : List Turn) (t : Turn) (old new : ℕ)
    (tied : old ≡ wrap (first + length (status_numbers (sent ts))))
    (step : ((new ≡ old) × (status_numbers t.sent ≡ [])) ⊎ ((new ≡ wrap (old + 1)) × (status_numbers t.sent ≡ old ∷ []))) where
  status_more : new ≡ wrap (first + length (status_numbers (sent (ts ++ t ∷ []))))
  status_more = rw statuses_more (elim step [
    | inl w ↦ rw (w.1, append-nil (status_numbers (sent ts))) (w.0 ∙ tied)
    | inr w ↦ rw w.1 (omega (arith, w.0, tied, length-append (status_numbers (sent ts)) (old ∷ [])))
  ])

  numbered_more : ((k n : ℕ) → slice_get (status_numbers (sent ts)) k ≡ Some n → n ≡ wrap (first + k))
      → (k n : ℕ) → slice_get (status_numbers (sent (ts ++ t ∷ []))) k ≡ Some n → n ≡ wrap (first + k)
  numbered_more each k n e = let f = rw statuses_more at e in elim step [
    | inl w ↦ each k n (rw (w.1, append-nil (status_numbers (sent ts))) at f)
    | inr w ↦ elim (get_more (status_numbers (sent ts)) old k n (rw w.1 at f)) [
      | inl v ↦ each k n v
      | inr v ↦ v.1 ∙ tied ∙ ap (λ (m : ℕ). wrap (first + m)) (sym v.0)
    ]
  ]

-- ---- the transfer tags

tag_more : (ts : List Turn) (t : Turn) (old new : ℕ) → old ≡ transfer_at (length (r2ts ts))
    → ((new ≡ old) × (r2ts_of t.sent ≡ [])) ⊎ ((new ≡ (old + 1) % 4294967295) × (r : R2tHeader) × (r2ts_of t.sent ≡ r ∷ []))
    → new ≡ transfer_at (length (r2ts (ts ++ t ∷ [])))
tag_more ts t old new tied (inl w) =
    let same : r2ts (ts ++ t ∷ []) ≡ r2ts ts = r2ts_more ts t ∙ ap (λ (z : List R2tHeader). r2ts ts ++ z) w.1
    ∙ append-nil (r2ts ts) in
    w.0 ∙ tied ∙ ap (λ (z : List R2tHeader). transfer_at (length z)) (sym same)
tag_more ts t old new tied (inr w) =
    let more : length (r2ts (ts ++ t ∷ [])) ≡ length (r2ts ts) + 1 =
    ap length (r2ts_more ts t ∙ ap (λ (z : List R2tHeader). r2ts ts ++ z) w.2)
    ∙ length-append (r2ts ts) (w.1 ∷ []) in
    w.0 ∙ ap (λ (n : ℕ). (n + 1) % 4294967295) tied ∙ mod-add-mod (length (r2ts ts)) 4294967295 1 ∙ ap transfer_at (sym more)

-- ---- one turn more

same_counters : (a b : Counters) → a.setting ≡ b.setting → a.stat_sn ≡ b.stat_sn
    → a.standing.exp_cmd_sn ≡ b.standing.exp_cmd_sn → a.standing.collecting ≡ b.standing.collecting
    → a.standing.transfer_tag ≡ b.standing.transfer_tag → a ≡ b
same_counters a b e f g h i = λ j. record {
  setting = e j;
  stat_sn = f j;
  standing = record { exp_cmd_sn = g j; collecting = h j; transfer_tag = i j };
}

-- what a transcript and its counters are, between two turns: each task is right, and the session keeps those that wait
pub record Stands (setting : Setting) (ts : List Turn) (s : Counters) : Type 0 where
  pub lawful : Lawful setting ts
  pub tied : s ≡ counters_of setting ts
  pub kept : IsKept setting.start.lengths.burst (tasks setting.units ts) s.standing.collecting

pub stands_more : (setting : Setting) (ts : List Turn) (t : Turn) (came : Incoming) (s s' : Counters)
    → Stands setting ts s → GoesOn ts → TurnOf s came t s' → Stands setting (ts ++ t ∷ []) s'
stands_more setting ts t came s s' k on m =
    let now : TurnOf (counters_of setting ts) came t s' = subst (λ (z : Counters). TurnOf z came t s') k.tied m in
    let f : TurnFacts (counters_of setting ts) s' t.came t.verdict t.call t.sent =
    rw now.came_is (made_facts came t.verdict _ now.mid s' now.step t.call t.sent now.judged now.made now.runs) in
    let kept = kept_more (counters_of setting ts) s' ts t came
    (subst (λ (z : Counters). IsKept setting.start.lengths.burst (tasks setting.units ts) z.standing.collecting) k.tied k.kept)
    now in
    let there : s' ≡ counters_of setting (ts ++ t ∷ []) = same_counters s' (counters_of setting (ts ++ t ∷ [])) f.setting_is
    (status_more setting.start.stat_sn ts t _ s'.stat_sn refl f.sends.statuses)
    (command_more setting.start.exp_cmd_sn ts t _ s'.standing.exp_cmd_sn refl f.commands) (sym kept.tied)
    (tag_more ts t _ s'.standing.transfer_tag refl f.sends.tags) in
    let old = k.lawful in
    record {
      lawful = record {
        judged = at_each_more _ ts t old.judged f.judged;
        numbered = numbered_more setting.start.stat_sn ts t _ s'.stat_sn refl f.sends.statuses old.numbered;
        windows = at_each_more _ ts t old.windows
            (subst (λ (z : Counters). HaveWindow z.standing t.sent) there f.sends.windows);
        transfers = at_each_more _ ts t old.transfers f.sends.transfers;
        collected = at_each_more _ ts t old.collected kept.right;
        called = at_each_more _ ts t old.called f.called;
        answered = at_each_more _ ts t old.answered f.task.answered;
        tiled = at_each_more _ ts t old.tiled f.task.tiled;
        counted = at_each_more _ ts t old.counted f.task.counted;
        residual = at_each_more _ ts t old.residual f.task.residual;
        told = at_each_more _ ts t old.told f.task.told;
        kinds = at_each_more _ ts t old.kinds f.kinds;
        carried = at_each_more _ ts t old.carried f.sends.carried;
        requests = at_each_more _ ts t old.requests f.requests;
        ends = at_each_more _ ts t old.ends on;
      };
      tied = there;
      kept = kept;
    }

pub stands_none : (setting : Setting) (s : Counters) → setting.start.exp_cmd_sn < 4294967296
    → setting.start.stat_sn < 4294967296 → s ≡ begun setting → Stands setting [] s
stands_none setting s cmd_fits stat_fits e = record {
  lawful = record {
    judged = at_each_none _;
    numbered = λ k n f. absurd (none_at k n f);
    windows = at_each_none _;
    transfers = at_each_none _;
    collected = at_each_none (λ before u. AllByRecursion (IsRightTask setting.start.lengths.burst)
        (tasks setting.units (before ++ u ∷ [])));
    called = at_each_none _;
    answered = at_each_none _;
    tiled = at_each_none _;
    counted = at_each_none _;
    residual = at_each_none _;
    told = at_each_none _;
    kinds = at_each_none _;
    carried = at_each_none _;
    requests = at_each_none _;
    ends = at_each_none (λ before u. GoesOn before);
  };
  tied = e ∙ same_counters (begun setting) (counters_of setting []) refl
      (let k : setting.start.stat_sn ≡ wrap (setting.start.stat_sn + 0) = omega arith in k)
      (let k : setting.start.exp_cmd_sn ≡ wrap (setting.start.exp_cmd_sn + 0) = omega arith in k) refl refl;
  kept = rw e (record { right = tt; tied = refl; unique = tt });
}
