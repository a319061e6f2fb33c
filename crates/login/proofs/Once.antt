-- What the target says once, and what is known behind the first request that it answers.
use Rattle.std.proofs.Common.{◌≡◌, rules, List, [], ◌∷◌, ◌++◌, ℕ, Bool, true, false, not, ◌&&◌, refl, sym, ap}
use Rattle.std.proofs.Common.{subst, ◌∙◌, Option, Some, None}
use Rattle.std.specs.Prelude.{IsSome, is_none, if◌then◌else◌, ◌==◌}
use Rattle.login.specs.Text.{Pair, pairs}
use Rattle.login.specs.Answer.{answers}
use Rattle.login.specs.Progress.{Progress}
use Rattle.login.specs.Refusal.{Rule, when, or_else, first_refusal, refusal_in, rules_for, rules_of_part}
use Rattle.login.specs.Refusal.{flags_rule, rules_of_first, rules_of_later, rules_of_names, version_rule}
use Rattle.login.specs.Refusal.{length_rule, form_rule, repeated_rule, name_rule, initiator_rule, kind_rule}
use Rattle.login.specs.Refusal.{target_rule, other_target_rule, session_rule, authentication_rule, session_type_of}
use Rattle.login.specs.Request.{after, after_by, passed, response, group_text, length_text, tells_length, kind_after}
use Rattle.login.specs.declared.status.SessionType.{SessionType}
use Rattle.login.specs.declared.status.LoginFlags.{LoginFlags}
use Rattle.login.specs.declared.status.LoginRefusal.{LoginRefusal}
use Rattle.login.specs.declared.status.LoginRefusal.TheVariants.{Refused}
use Rattle.login.specs.declared.status.LoginStatus.TheVariants.{SessionTypeNotSupported}

-- the tag is not said where the session type is known
pub no_tag : (s : Progress) (f : LoginFlags) (ps : List Pair) (kind : SessionType) → s.kind ≡ Some kind
    → response s f ps ≡ length_text (tells_length s f) ++ answers ps
no_tag s f ps kind e =
    ap (λ (k : Option SessionType). group_text s.tag k (kind_after k ps) ++ length_text (tells_length s f) ++ answers ps) e

pub no_length : (s : Progress) (f : LoginFlags) → s.length_declared ≡ true → tells_length s f ≡ false
no_length s f e = ap (λ (b : Bool). not b && f.current_stage == 1) e

rest_none : (a b : Option LoginRefusal) → or_else a b ≡ None → b ≡ None
rest_none None b h = h
rest_none (Some x) b h = cc

pub first_none : (a b : Option LoginRefusal) → or_else a b ≡ None → a ≡ None
first_none None b h = refl
first_none (Some x) b h = cc

pub behind : (rule : Rule) (rules : List Rule) (s : Progress) (f : LoginFlags) (t : List ℕ)
    → first_refusal (rule ∷ rules) s f t ≡ None → first_refusal rules s f t ≡ None
behind rule rules s f t h = rest_none (rule s f t) (first_refusal rules s f t) h

when_none : (kind : Option SessionType) (refusal : LoginRefusal) → when (is_none kind) refusal ≡ None → IsSome kind
when_none None refusal h = cc
when_none (Some k) refusal h = search rules

kind_known : (s : Progress) (f : LoginFlags) (t : List ℕ) → first_refusal rules_of_first s f t ≡ None
    → IsSome (session_type_of (pairs t))
kind_known s f t h =
    let a = behind version_rule (length_rule ∷ form_rule ∷ repeated_rule ∷ name_rule ∷ rules_of_names) s f t h in
    let b = behind length_rule (form_rule ∷ repeated_rule ∷ name_rule ∷ rules_of_names) s f t a in
    let c = behind form_rule (repeated_rule ∷ name_rule ∷ rules_of_names) s f t b in
    let d = behind repeated_rule (name_rule ∷ rules_of_names) s f t c in
    let e = behind name_rule rules_of_names s f t d in
    let later : List Rule = target_rule ∷ other_target_rule ∷ session_rule ∷ authentication_rule ∷ [] in
    let g = behind initiator_rule (kind_rule ∷ later) s f t e in
    when_none (session_type_of (pairs t)) (Refused SessionTypeNotSupported) (first_none (kind_rule s f t) (first_refusal later s f t) g)

kind_after_known : (kind : Option SessionType) (ps : List Pair) → (is_none kind ≡ true → IsSome (session_type_of ps))
    → IsSome (kind_after kind ps)
kind_after_known None ps h = h refl
kind_after_known (Some k) ps h = search rules

passed_kind : (s : Progress) (f : LoginFlags) (t : List ℕ) → f.continues ≡ false
    → (passed s f t).kind ≡ kind_after s.kind (pairs t)
passed_kind s f t e = rw e refl

-- the session type is known behind the first request that is answered
pub known : (s : Progress) (f : LoginFlags) (text : List ℕ) → refusal_in s f (s.run_text ++ text) ≡ None
    → f.continues ≡ false → IsSome (after s f text).kind
unfolding refusal_in after
known s f text none whole =
    let t : List ℕ = s.run_text ++ text in
    let first : is_none s.kind ≡ true → IsSome (session_type_of (pairs t)) = λ n.
    let r : rules_for s f ≡ flags_rule ∷ rules_of_first =
    ap (λ (b : Bool). if b then rules_of_part else flags_rule
    ∷ (if is_none s.kind then rules_of_first else rules_of_later)) whole
    ∙ ap (λ (b : Bool). flags_rule ∷ (if b then rules_of_first else rules_of_later)) n in
    kind_known s f t (behind flags_rule rules_of_first s f t
    (sym (ap (λ (rs : List Rule). first_refusal rs s f t) r) ∙ none)) in
    let there : (after s f text).kind ≡ kind_after s.kind (pairs t) =
    ap (λ (o : Option LoginRefusal). (after_by o s f t).kind) none ∙ passed_kind s f t whole in
    subst IsSome (sym there) (kind_after_known s.kind (pairs t) first)
