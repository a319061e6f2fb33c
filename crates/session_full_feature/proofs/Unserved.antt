-- What a PDU that is not accepted, and one that is, calls for.
use Rattle.std.proofs.Common.{◌≡◌, ℕ, List, subst}
use Rattle.session_rules.specs.Words.{Header}
use Rattle.session_rules.specs.declared.verdict.Verdict.{Verdict}
use Rattle.session_rules.specs.declared.verdict.Verdict.TheVariants.{Accepted, Full, Refused}
use Rattle.session_rules.specs.Verdict.{IsJudgedPdu}
use Rattle.session_full_feature.specs.{Counters.Counters, Step.Step}
use Rattle.session_full_feature.specs.Machine.{OnRefusal, OnUnaccepted, OnTaken, OnVerdict, OnPdu}

-- a PDU that is rejected whatever its number
pub refused : (s s' : Counters) (h : Header) (d : List ℕ) (a : Step) (reason : ℕ)
    → IsJudgedPdu s.setting s.standing h d (Refused reason) → OnRefusal s reason a s' → OnPdu s h d a s'
refused s s' h d a reason judged on = record { verdict = Refused reason; judged = judged; made = on }

by_verdict : (v : Verdict) (s s' : Counters) (h : Header) (d : List ℕ) (a : Step) → OnUnaccepted v s a s'
    → OnVerdict v s h d a s'
by_verdict Accepted s s' h d a on = absurd on
by_verdict Full s s' h d a on = absurd on
by_verdict v s s' h d a on = on

pub turned_away : (v : Verdict) (s s' : Counters) (h : Header) (d : List ℕ) (a : Step)
    → IsJudgedPdu s.setting s.standing h d v → OnUnaccepted v s a s' → OnPdu s h d a s'
turned_away v s s' h d a judged on = record { verdict = v; judged = judged; made = by_verdict v s s' h d a on }

pub taken : (v : Verdict) (s mid s' : Counters) (h : Header) (d : List ℕ) (a : Step)
    → IsJudgedPdu s.setting s.standing h d v → v ≡ Accepted → mid ≡ s → OnTaken mid h d a s' → OnPdu s h d a s'
taken v s mid s' h d a judged accepted same on = record {
  verdict = Accepted;
  judged = subst (λ (w : Verdict). IsJudgedPdu s.setting s.standing h d w) accepted judged;
  made = subst (λ (c : Counters). OnTaken c h d a s') same on;
}
