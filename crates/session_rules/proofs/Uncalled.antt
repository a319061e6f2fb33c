-- A command that ended without a call, and was not dropped, had no R2T.
use Rattle.std.proofs.Common.{◌≡◌, ℕ, List, [], ◌∷◌, ◌++◌, refl, ap, sym, subst}
use Rattle.session_rules.specs.Words.{AllByRecursion}
use Rattle.session_rules.specs.{Setting.Setting, Turn.Turn, Collecting.IsRightTask, Legal.Lawful, Following.HadNoR2t}
use Rattle.session_rules.specs.Tasks.{Task, tasks}

-- a list of some turns has a last one
last_of : (t : Turn) (ts : List Turn) → (front : List Turn) × (last : Turn) × (t ∷ ts ≡ front ++ last ∷ [])
last_of t [] = ([], t, refl)
last_of t (u ∷ ts) = let w = last_of u ts in (t ∷ w.0, w.1, ap (λ (z : List Turn). t ∷ z) w.2)

all_so : (burst : ℕ) (ks : List Task) → AllByRecursion (IsRightTask burst) ks → AllByRecursion HadNoR2t ks
all_so burst [] all = tt
all_so burst (k ∷ ks) all = (all.0.turned_away, all_so burst ks all.1)

pub had_no_r2t : (m : Setting) (ts : List Turn) → Lawful m ts → AllByRecursion HadNoR2t (tasks m.units ts)
had_no_r2t m [] l = tt
had_no_r2t m (t ∷ ts) l =
    let w = last_of t ts in
    all_so m.start.lengths.burst (tasks m.units (t ∷ ts))
    (subst (λ (z : List Turn). AllByRecursion (IsRightTask m.start.lengths.burst) (tasks m.units z)) (sym w.2)
    (l.collected w.0 w.1 [] w.2))
