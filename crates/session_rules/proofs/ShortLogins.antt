-- Of short logins that differ, one is legal.
use Rattle.std.proofs.Common.{◌≡◌, ℕ, true, List, [], ◌∷◌, ◌++◌, Option, None, refl, ap, ◌∙◌, inl, inr}
use Rattle.session_rules.specs.Words.{InvalidDuringLogin, TargetRecord, LoginOutcome, Login}
use Rattle.session_rules.specs.{declared.login_outcome.LoginOutcome.TheVariants.Refused, Asking.Asking, Phases.IsLawful}
use Rattle.session_rules.specs.Turn.{Out, Turn}
use Rattle.session_rules.specs.LoginPhase.{LoginTurn, login_standing, login_numbers, login_outs, begins}
use Rattle.session_rules.specs.Examples.{ping_pdu, ping_in_login, login_of, the_refusal, turned_away_in_login}
use Rattle.session_rules.proofs.AtEach.{at_each_of_more, at_each_of_none}

pub refusal_lawful : (units : ℕ) (me : TargetRecord) (tag : ℕ)
    → IsLawful units me (Login tag) (login_of (turned_away_in_login ∷ []))
refusal_lawful units me tag = (
  record {
    turns = at_each_of_more _ [] turned_away_in_login (at_each_of_none _)
        (record { comes_to = (refl, refl); answered = refl });
    none_begun = at_each_of_more _ [] turned_away_in_login (at_each_of_none _) tt;
    ends = at_each_of_more _ [] turned_away_in_login (at_each_of_none _) tt;
  },
  inl refl,
)

pub refusal_is : (units : ℕ) (me : TargetRecord) (tag : ℕ) (call : Option Asking) (outcome : LoginOutcome) (outs : List Out)
    → IsLawful units me (Login tag) (login_of (ping_in_login call outcome outs ∷ []))
    → (call ≡ None) × (outcome ≡ Refused InvalidDuringLogin) × (outs ≡ the_refusal)
refusal_is units me tag call outcome outs l =
    let made = l.0.turns [] (ping_in_login call outcome outs) [] refl in
    let v = login_standing me.target_name.now tag [] in (
      made.comes_to.0,
      made.comes_to.1,
      made.answered ∙ ap (λ (o : LoginOutcome). login_outs (login_numbers v ping_pdu) v.progress ping_pdu o) made.comes_to.1,
    )

pub refusal_last : (units : ℕ) (me : TargetRecord) (tag : ℕ) (l : LoginTurn)
    → IsLawful units me (Login tag) (login_of (turned_away_in_login ∷ l ∷ [])) → ⊥
refusal_last units me tag l is =
    let e = (is.0.ends (turned_away_in_login ∷ []) l [] refl).0 in cc

not_begun : (front : List LoginTurn) (last : LoginTurn) → turned_away_in_login ∷ [] ≡ front ++ last ∷ []
    → begins last.outcome ≡ true → ⊥
not_begun [] last e b =
    let same : turned_away_in_login ≡ last = cc in
    let o : begins (Refused InvalidDuringLogin) ≡ begins last.outcome = ap (λ (l : LoginTurn). begins l.outcome) same in cc
not_begun (x ∷ []) last e b = absurd (cc)
not_begun (x ∷ (y ∷ front)) last e b = absurd (cc)

pub refusal_first : (units : ℕ) (me : TargetRecord) (tag : ℕ) (t : Turn)
    → IsLawful units me (Login tag) (record { logins = turned_away_in_login ∷ []; turns = t ∷ [] }) → ⊥
refusal_first units me tag t is = elim is.1 [
  | inl none ↦ absurd (cc)
  | inr w ↦ let b = w.2.began in not_begun b.front b.last b.whole b.begun
]
