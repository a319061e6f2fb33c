-- One turn more: what it makes of the tasks.
use Rattle.std.proofs.Common.{◌≡◌, ℕ, Bool, true, false, List, [], ◌∷◌, ◌++◌, Option, Some, None, map, refl, sym, ap, ◌∙◌, ◌+◌, cond}
use Rattle.std.proofs.Common.{◌||◌, if◌then◌else◌}
use Rattle.std.proofs.lemmas.List.{append-nil, Elements.filter-append, Sums.sum_by-append}
use Rattle.session_rules.specs.Words.{filter, cons_option, list_any, count_by, option_to_list, CommandHeader, Accepted, Verdict}
use Rattle.session_rules.specs.{Turn.Turn, Collecting.shrinks_window, Verdict.unless_full}
use Rattle.session_rules.specs.Tasks.{touches, ends, through, Task, accepted_command, begun_by, tasks, has_ended, Collecting}

module _ (test : Turn → Bool) where
  through_step : (x y : Turn) (b c : Bool) (m t : List Turn) → m ≡ (if c then t else (t ++ y ∷ []))
      → x ∷ (if b then [] else m) ≡ (if b || c then x ∷ (if b then [] else t) else ((x ∷ (if b then [] else t)) ++ y ∷ []))
  through_step x y true c m t e = refl
  through_step x y false true m t e = ap (λ (z : List Turn). x ∷ z) e
  through_step x y false false m t e = ap (λ (z : List Turn). x ∷ z) e

  pub no_more : (x : Turn) (b : Bool) → x ∷ (if b then [] else []) ≡ x ∷ []
  no_more x true = refl
  no_more x false = refl

  through_more : (xs : List Turn) (y : Turn)
      → through test (xs ++ y ∷ []) ≡ (if list_any test xs then through test xs else (through test xs ++ y ∷ []))
  through_more [] y = no_more y (test y)
  through_more (x ∷ xs) y =
      through_step x y (test x) (list_any test xs) (through test (xs ++ y ∷ [])) (through test xs) (through_more xs y)

  any_step : (b : Bool) (m : List Turn) (c : Bool) → list_any test m ≡ c
      → (b || list_any test (if b then [] else m)) ≡ (b || c)
  any_step true m c e = refl
  any_step false m c e = e

  any_through : (xs : List Turn) → list_any test (through test xs) ≡ list_any test xs
  any_through [] = refl
  any_through (x ∷ xs) = any_step (test x) (through test xs) (list_any test xs) (any_through xs)

-- a task with one turn more of its own
abbrev pub with_turn : Task → Turn → Task
with_turn k u = record { command = k.command; segment = k.segment; own = k.own ++ u ∷ [] }

-- a turn more of a task: its own, where it concerns the task and the task has not ended
abbrev pub extended_by : Turn → Bool → Bool → Task → Task
extended_by u true true k = k
extended_by u true false k = with_turn k u
extended_by u false ended k = k

abbrev pub extended : ℕ → Turn → Task → Task
extended units u k = extended_by u (touches units k.command u) (has_ended k) k

abbrev pub of_command : CommandHeader → List ℕ → List Turn → Task
of_command p d own = record { command = p; segment = d; own = through ends own }

-- by cases on whether the turn concerns it, and on whether the task has ended
command_step : (p : CommandHeader) (d : List ℕ) (own : List Turn) (u : Turn) (b c : Bool)
    → through ends (own ++ u ∷ []) ≡ (if c then through ends own else (through ends own ++ u ∷ []))
    → of_command p d (own ++ (if b then u ∷ [] else [])) ≡ extended_by u b c (of_command p d own)
command_step p d own u true true e = ap (λ (z : List Turn). record { command = p; segment = d; own = z }) e
command_step p d own u true false e = ap (λ (z : List Turn). record { command = p; segment = d; own = z }) e
command_step p d own u false c e = ap (of_command p d) (append-nil own)

pub last_task : (o : Option Task) → cons_option o [] ≡ option_to_list o
last_task None = refl
last_task (Some k) = refl

module _ (units : ℕ) where
  command_more : (p : CommandHeader) (d : List ℕ) (t : Turn) (behind : List Turn) (u : Turn)
      → of_command p d (t ∷ filter (touches units p) (behind ++ u ∷ [])) ≡ extended units u
      (of_command p d (t ∷ filter (touches units p) behind))
  command_more p d t behind u =
      let own : List Turn = t ∷ filter (touches units p) behind in
      ap (λ (z : List Turn). of_command p d (t ∷ z)) (filter-append (touches units p) behind (u ∷ []))
      ∙ command_step p d own u (touches units p u) (list_any ends own) (through_more ends own u)
      ∙ ap (λ (c : Bool). extended_by u (touches units p u) c (of_command p d own)) (sym (any_through ends own))

  tasks_step : (o : Option (CommandHeader × List ℕ)) (t : Turn) (behind : List Turn) (u : Turn) (more rest front : List Task)
      → more ≡ map (extended units u) front ++ rest
      → cons_option (begun_by units o t (behind ++ u ∷ [])) more
      ≡ map (extended units u) (cons_option (begun_by units o t behind) front) ++ rest
  tasks_step None t behind u more rest front e = e
  tasks_step (Some c) t behind u more rest front e =
      ap (λ (k : Task). k ∷ more) (command_more c.0 c.1 t behind u)
      ∙ ap (λ (ks : List Task). extended units u (of_command c.0 c.1 (t ∷ filter (touches units c.0) behind)) ∷ ks) e

  -- the tasks with a turn more: those before, each with this turn, and the one that it begins
  pub tasks_more : (ts : List Turn) (u : Turn)
      → tasks units (ts ++ u ∷ []) ≡ map (extended units u) (tasks units ts)
      ++ option_to_list (begun_by units (accepted_command u.verdict u.came) u [])
  tasks_more [] u = last_task (begun_by units (accepted_command u.verdict u.came) u [])
  tasks_more (t ∷ behind) u =
      tasks_step (accepted_command t.verdict t.came) t behind u _
      (option_to_list (begun_by units (accepted_command u.verdict u.came) u [])) (tasks units behind) (tasks_more behind u)

pub count_append : (xs ys : List Collecting)
    → count_by shrinks_window (xs ++ ys) ≡ count_by shrinks_window xs + count_by shrinks_window ys
count_append xs ys = sum_by-append (λ c. cond (shrinks_window c) 1 0) xs ys

pub not_full : (full : Bool) (v : Verdict) → unless_full full v ≡ Accepted → v ≡ Accepted
not_full true Accepted e = refl
not_full full v e = e

pub neither : (a b : Bool) → (a || b) ≡ false → (a ≡ false) × (b ≡ false)
neither true b e = absurd (let f : true ≡ false = e in cc)
neither false b e = (refl, e)
