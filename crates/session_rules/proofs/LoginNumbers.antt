-- The StatSNs of a whole session.
use Rattle.std.proofs.Common.{◌≡◌, ◌⊎◌, ◌+◌, ◌∷◌, ◌++◌, ap₂, refl, sym, ap, subst, ◌∙◌, arith, inl, inr, append_assoc, length-append}
use Rattle.std.proofs.lemmas.{List.Elements.filter_map-append, List.Folds.flat_map-map, Grind.flat_map-append}
use Rattle.std.proofs.Math.Nat.{mod-add-mod}
use Rattle.session_rules.specs.Words.{ℕ, zero, suc, List, [], Option, Some, length, map, slice_get, flat_map, Initiator, LoginRequest}
use Rattle.session_rules.specs.Words.{Numbers, Progress, TargetRecord, LoginOutcome, Login}
use Rattle.session_rules.specs.{Asking.Asking, Window.wrap, Legal.AtEachOf, Legal.status_number, Legal.status_numbers}
use Rattle.session_rules.specs.declared.login_outcome.LoginOutcome.TheVariants.{GoesOn, Begun, Refused, Rejected}
use Rattle.session_rules.specs.Turn.{Incoming, pdu, Out, Turn, sent}
use Rattle.session_rules.specs.LoginPhase.{LoginTurn, LoginStanding, HasOutcome, login_outs, login_standing, IsLoginTurn}
use Rattle.session_rules.specs.Phases.{Transcript, of_login, of_turn, exchanges, outgoing, IsLawful}

status_append : (xs ys : List Out) → status_numbers (xs ++ ys) ≡ status_numbers xs ++ status_numbers ys
status_append xs ys = filter_map-append (λ o. status_number o.header) xs ys

-- each turn of a login sends one PDU, which uses up a StatSN
one_out : (n : Numbers) (s : Progress) (came : Incoming) (call : Option Asking) (o : LoginOutcome) → HasOutcome s came call o
    → status_numbers (login_outs n s came o) ≡ n.stat_sn ∷ []
one_out n s (pdu b (Initiator (LoginRequest p)) d) call GoesOn k = refl
one_out n s (pdu b (Initiator (LoginRequest p)) d) call (Begun tsih) k = refl
one_out n s (pdu b (Initiator (LoginRequest p)) d) call (Refused status) k = refl
one_out n s (pdu b (Initiator (LoginRequest p)) d) call (Rejected reason) k = refl
one_out n s came call o k = rw k.1 refl

login_out : (v : LoginStanding) (l : LoginTurn) → IsLoginTurn v l → status_numbers l.sent ≡ v.stat_sn ∷ []
login_out v l made = ap status_numbers made.answered ∙ one_out _ v.progress l.came l.call l.outcome made.comes_to

abbrev login_sent : List LoginTurn → List Out
login_sent ls = flat_map (λ l. l.sent) ls

abbrev CountsFrom : ℕ → List ℕ → Type 0
CountsFrom first ns = (k n : ℕ) → slice_get ns k ≡ Some n → n ≡ wrap (first + k)

counts_one : (first : ℕ) (ns : List ℕ) → CountsFrom (first + 1) ns → CountsFrom first (wrap first ∷ ns)
counts_one first ns rest zero n e = let same : n ≡ wrap first = cc in omega (arith, same)
counts_one first ns rest (suc k) n e = omega (arith, rest k n e)

-- those of a login count from one
module _ (target : List ℕ) (tag : ℕ) where
  abbrev AreTurns : List LoginTurn → Type 0
  AreTurns ls = AtEachOf (λ (before : List LoginTurn) (l : LoginTurn). IsLoginTurn (login_standing target tag before) l) ls

  first_out : (before : List LoginTurn) (l : LoginTurn) (ls : List LoginTurn) → AreTurns (before ++ l ∷ ls)
      → status_numbers (login_sent (l ∷ ls)) ≡ wrap (1 + length before) ∷ status_numbers (login_sent ls)
  first_out before l ls each =
      status_append l.sent (login_sent ls)
      ∙ ap (λ (ns : List ℕ). ns ++ status_numbers (login_sent ls))
      (login_out (login_standing target tag before) l (each before l ls refl))

  -- and what comes behind them counts on
  login_count : (before rest : List LoginTurn) (ns : List ℕ) → AreTurns (before ++ rest)
      → CountsFrom (1 + length (before ++ rest)) ns → CountsFrom (1 + length before) (status_numbers (login_sent rest) ++ ns)
  login_count before [] ns each behind = λ k n e. omega (arith, behind k n e, length-append before [])
  login_count before (l ∷ ls) ns each behind =
      let all : (before ++ l ∷ []) ++ ls ≡ before ++ l ∷ ls = append_assoc before (l ∷ []) ls in
      rw (first_out before l ls each) (counts_one (1 + length before) (status_numbers (login_sent ls) ++ ns)
      (λ k n e. omega (
        arith,
        login_count (before ++ l ∷ []) ls ns (subst AreTurns (sym all) each)
            (subst (λ (z : List LoginTurn). CountsFrom (1 + length z) ns) (sym all) behind) k n e,
        length-append before (l ∷ []),
      )))

-- ---- both phases

all_sent : (c : Transcript)
    → status_numbers (outgoing (exchanges c)) ≡ status_numbers (login_sent c.logins) ++ status_numbers (sent c.turns)
all_sent c =
    ap status_numbers (flat_map-append (λ e. e.sent) (map of_login c.logins) (map of_turn c.turns))
    ∙ status_append (outgoing (map of_login c.logins)) (outgoing (map of_turn c.turns))
    ∙ ap₂ (λ (o p : List Out). status_numbers o ++ status_numbers p)
    (flat_map-map (λ e. e.sent) of_login c.logins) (flat_map-map (λ e. e.sent) of_turn c.turns)

pub counts_on : (units : ℕ) (me : TargetRecord) (tag : ℕ) (c : Transcript) → IsLawful units me (Login tag) c → (k n : ℕ)
    → slice_get (status_numbers (outgoing (exchanges c))) k ≡ Some n → n ≡ wrap (1 + k)
counts_on units me tag c lawful k n e =
    login_count me.target_name.now tag [] c.logins (status_numbers (sent c.turns)) lawful.0.turns behind k n
    (subst (λ (ns : List ℕ). slice_get ns k ≡ Some n) (all_sent c) e) where
      behind : CountsFrom (1 + length c.logins) (status_numbers (sent c.turns))
      behind j m f = elim lawful.1 [
        | inl none ↦
            let k : slice_get (status_numbers (sent [])) j ≡ Some m =
            subst (λ (ts : List Turn). slice_get (status_numbers (sent ts)) j ≡ Some m) none f in absurd (cc)
        | inr w ↦ w.3.numbered j m f ∙ ap (λ (x : ℕ). wrap (x + j)) w.2.start_is.stat_sn
            ∙ mod-add-mod (1 + length c.logins) 4294967296 j
      ]
