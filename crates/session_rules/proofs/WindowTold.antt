-- A numbered PDU is ignored just outside the window that the PDUs before it told.
use Rattle.std.proofs.Common.{◌==◌, ◌&&◌, ◌||◌, if◌then◌else◌, ◌≡◌, ℕ, ◌+◌, ◌-◌, ◌<◌, ◌≤◌, ◌↔◌, Bool, true, false, List, [], ◌∷◌, ◌++◌}
use Rattle.std.proofs.Common.{Some, None, refl, sym, ap, subst, ◌∙◌, arith, append_assoc, inl, inr}
use Rattle.std.proofs.lemmas.Bool.{ltb-true, ltb-false, eqb-true}
use Rattle.session_rules.specs.Words.{nat_lt, list_any, Numbers, Initiator, NopOut, ScsiCommand, TaskManagementRequest, TextRequest}
use Rattle.session_rules.specs.Words.{LogoutRequest, Verdict, Accepted, Ignored, Gap, Refused}
use Rattle.session_rules.specs.{Setting.Setting, Setting.discovers, Text.is_text_refused, Window.wrap, Window.ahead, Window.numbers_of}
use Rattle.session_rules.specs.{Collecting.is_immediate, Legal.IsWindow, Legal.HaveWindow, Legal.Lawful, Turn.Incoming, Turn.pdu}
use Rattle.session_rules.specs.{Turn.Out, Turn.Turn, Verdict.IsJudged, Verdict.window_verdict, Verdict.is_refused}
use Rattle.session_rules.specs.Standing.{Standing, standing, numbered_waiting, window_size, last_behind}
use Rattle.session_rules.specs.Following.{IsInWindow, unless_immediate, number_in, IgnoresOutside}
use Rattle.session_rules.proofs.WindowEnds.{few_behind, IsSo, judged_by}

judged_so : (m : Setting) (s : Standing) (came : Incoming) (v : Verdict) (cmd_sn : ℕ) → IsJudged m s came v
    → number_in came ≡ Some cmd_sn → IsSo s cmd_sn v
judged_so m s came v cmd_sn judged e = elim (judged_by m s came v judged) [
  | inl w ↦ let none : number_in came ≡ None = w.1 in absurd (cc)
  | inr w ↦ let some : number_in came ≡ Some w.0 = w.1 in
      let same : w.0 ≡ cmd_sn = cc in subst (λ (n : ℕ). IsSo s n v) same w.2
]

-- the window that is told is that by which a PDU is judged
told_size : (expected waiting : ℕ) → expected < 4294967296 → waiting ≤ 32
    → ahead (wrap (last_behind expected waiting + 1)) expected ≡ 32 - waiting
told_size expected waiting h k = omega (arith, h, k)

told_so : (s : Standing) (n : Numbers) (cmd_sn : ℕ) (v : Verdict) → s.exp_cmd_sn < 4294967296 → numbered_waiting s ≤ 32
    → IsWindow s n → IsSo s cmd_sn v
    → (v ≡ Ignored) ↔ (IsInWindow n cmd_sn → ⊥)
told_so s n cmd_sn v small few w so =
    subst (λ (x : ℕ). (v ≡ Ignored) ↔ (ahead cmd_sn x < ahead (wrap (n.max_cmd_sn + 1)) x → ⊥)) (sym w.expects)
    (subst (λ (x : ℕ). (v ≡ Ignored) ↔ (ahead cmd_sn s.exp_cmd_sn < ahead (wrap (x + 1)) s.exp_cmd_sn → ⊥)) (sym w.reaches)
    (subst (λ (x : ℕ). (v ≡ Ignored) ↔ (ahead cmd_sn s.exp_cmd_sn < x → ⊥))
    (sym (told_size s.exp_cmd_sn (numbered_waiting s) small few)) so))

each_so : (s : Standing) (outs : List Out) (t : Turn) → s.exp_cmd_sn < 4294967296 → numbered_waiting s ≤ 32
    → HaveWindow s outs → ((cmd_sn : ℕ) → number_in t.came ≡ Some cmd_sn → IsSo s cmd_sn t.verdict)
    → IgnoresOutside outs t
each_so s [] t small few w so = tt
each_so s (o ∷ outs) t small few w so = (
  λ cmd_sn e. told_so s (numbers_of o.header) cmd_sn t.verdict small few w.0 (so cmd_sn e),
  each_so s outs t small few w.1 so,
)

pub ignored_outside : (m : Setting) (before behind : List Turn) (t u : Turn)
    → Lawful m (before ++ (t ∷ (u ∷ behind))) → IgnoresOutside t.sent u
ignored_outside m before behind t u l =
    let now : List Turn = before ++ t ∷ [] in
    let whole : before ++ (t ∷ (u ∷ behind)) ≡ now ++ (u ∷ behind) = sym (append_assoc before (t ∷ []) (u ∷ behind)) in
    each_so (standing m now) t.sent u (omega arith)
    (few_behind m before t (u ∷ behind) l)
    (l.windows before t (u ∷ behind) refl)
    (λ cmd_sn e. judged_so m (standing m now) u.came u.verdict cmd_sn (l.judged now u behind whole) e)
