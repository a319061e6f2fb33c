-- What a request comes to, by the first check that it does not pass.
use Rattle.std.proofs.Common.{◌≡◌, ℕ, List, [], ◌∷◌, ◌++◌, Bool, true, false, length, take}
use Rattle.std.proofs.Common.{refl, sym, ap, ◌∙◌, Option, Some, None}
use Rattle.std.specs.Prelude.{is_none, if◌then◌else◌}
use Rattle.std.proofs.Math.Seq.{take-append_seam}
use Rattle.login.specs.Text.{pairs}
use Rattle.login.specs.Progress.{Progress}
use Rattle.login.specs.Refusal.{Rule, when, refusal_in, first_refusal, is_too_long, rules_of_part, rules_of_first, rules_of_later}
use Rattle.login.specs.Refusal.{rules_of_names, flags_rule, version_rule, length_rule, form_rule, repeated_rule, name_rule}
use Rattle.login.specs.Refusal.{authentication_rule}
use Rattle.login.specs.Request.{Ending, Stopped, answer_to, answer_by, after, after_by, passed, response}
use Rattle.login.specs.declared.status.LoginFlags.{LoginFlags}
use Rattle.login.specs.declared.status.LoginStatus.TheVariants.{InitiatorError}
use Rattle.login.specs.declared.status.LoginRefusal.{LoginRefusal}
use Rattle.login.specs.declared.status.LoginRefusal.TheVariants.{Refused}
use Rattle.login.proofs.Once.{behind, first_none}

when_false : (b : Bool) (refusal : LoginRefusal) → when b refusal ≡ None → b ≡ false
when_false true refusal h = cc
when_false false refusal h = refl

long_first : (rules : List Rule) (s : Progress) (f : LoginFlags) (t : List ℕ) → first_refusal (length_rule ∷ rules) s f t ≡ None
    → is_too_long s.said t ≡ false
long_first rules s f t h =
    when_false (is_too_long s.said t) (Refused InitiatorError) (first_none (length_rule s f t) (first_refusal rules s f t) h)

long_by : (continues first : Bool) (s : Progress) (f : LoginFlags) (t : List ℕ)
    → first_refusal (if continues then rules_of_part else flags_rule
    ∷ (if first then rules_of_first else rules_of_later)) s f t ≡ None
    → is_too_long s.said t ≡ false
long_by true first s f t h = long_first [] s f t (behind flags_rule (length_rule ∷ []) s f t h)
long_by false true s f t h =
    let rest : List Rule = form_rule ∷ repeated_rule ∷ name_rule ∷ rules_of_names in
    long_first rest s f t (behind version_rule (length_rule ∷ rest) s f t (behind flags_rule rules_of_first s f t h))
long_by false false s f t h =
    long_first (form_rule ∷ repeated_rule ∷ authentication_rule ∷ []) s f t (behind flags_rule rules_of_later s f t h)

-- each list of rules has the length
pub not_long : (s : Progress) (f : LoginFlags) (t : List ℕ) → refusal_in s f t ≡ None → is_too_long s.said t ≡ false
unfolding refusal_in
not_long s f t h = long_by f.continues (is_none s.kind) s f t h

-- the rules look at the joined text, and not at what stood there before
same_by : (continues first : Bool) (s : Progress) (f : LoginFlags) (w t : List ℕ)
    → let rules : List Rule =
    if continues then rules_of_part else flags_rule ∷ (if first then rules_of_first else rules_of_later) in
    first_refusal rules (record s { run_text = w }) f t ≡ first_refusal rules s f t
same_by true first s f w t = refl
same_by false true s f w t = refl
same_by false false s f w t = refl

indifferent : (s : Progress) (f : LoginFlags) (w t : List ℕ) → refusal_in (record s { run_text = w }) f t ≡ refusal_in s f t
unfolding refusal_in
indifferent s f w t = same_by f.continues (is_none s.kind) s f w t

pub judged : (s old : Progress) (f : LoginFlags) (w t text : List ℕ) (r : Option LoginRefusal) → s ≡ old → w ≡ s.run_text ++ text
    → t ≡ w → r ≡ refusal_in (record s { run_text = w }) f t → r ≡ refusal_in old f (old.run_text ++ text)
judged s old f w t text r e joined same h =
    h ∙ indifferent s f w t ∙ ap (refusal_in s f) (same ∙ joined) ∙ ap (λ (p : Progress). refusal_in p f (p.run_text ++ text)) e

pub answer_stopped : (s : Progress) (f : LoginFlags) (text : List ℕ) (refusal : LoginRefusal)
    → refusal_in s f (s.run_text ++ text) ≡ Some refusal
    → Stopped refusal ≡ answer_to s f text
unfolding answer_to
answer_stopped s f text refusal h =
    let whole : List ℕ = s.run_text ++ text in
    sym (ap (λ (o : Option LoginRefusal). answer_by o f (response s f (pairs whole))) h)

pub state_stopped : (s : Progress) (f : LoginFlags) (text : List ℕ) (refusal : LoginRefusal)
    → refusal_in s f (s.run_text ++ text) ≡ Some refusal
    → s ≡ after s f text
unfolding after
state_stopped s f text refusal h =
    let whole : List ℕ = s.run_text ++ text in sym (ap (λ (o : Option LoginRefusal). after_by o s f whole) h)

-- what was appended is cut off again
pub restored : (s old : Progress) (u text w t : List ℕ) (n : ℕ) → s ≡ old → u ≡ s.run_text → w ≡ u ++ text
    → n ≡ length u
    → t ≡ take n w → record s { run_text = t } ≡ old
restored s old u text w t n e here joined size cut =
    let back : t ≡ s.run_text =
    cut ∙ ap (λ (k : ℕ). take k w) size ∙ ap (take (length u)) joined ∙ take-append_seam u text ∙ here in
    ap (λ (x : List ℕ). record s { run_text = x }) back ∙ e

pub answer_passed : (s old : Progress) (f : LoginFlags) (w text : List ℕ) (ending : Ending) → s ≡ old
    → w ≡ s.run_text ++ text
    → refusal_in old f (old.run_text ++ text) ≡ None
    → ending ≡ answer_by None f (response (record s { run_text = w }) f (pairs w))
    → ending ≡ answer_to old f text
unfolding answer_to
answer_passed s old f w text ending e joined none h =
    let whole : List ℕ = old.run_text ++ text in
    h ∙ ap (λ (t : List ℕ). answer_by None f (response s f (pairs t))) joined
    ∙ ap (λ (p : Progress). answer_by None f (response p f (pairs (p.run_text ++ text)))) e
    ∙ sym (ap (λ (o : Option LoginRefusal). answer_by o f (response old f (pairs whole))) none)

passed_on : (continues : Bool) (s : Progress) (f : LoginFlags) (w : List ℕ) → f.continues ≡ continues
    → passed (record s { run_text = w }) f w ≡ passed s f w
passed_on true s f w h = rw h refl
passed_on false s f w h = rw h refl

pub state_passed : (s old new : Progress) (f : LoginFlags) (w text : List ℕ) → s ≡ old → w ≡ s.run_text ++ text
    → refusal_in old f (old.run_text ++ text) ≡ None → new ≡ passed (record s { run_text = w }) f w → new ≡ after old f text
unfolding after
state_passed s old new f w text e joined none h =
    let whole : List ℕ = old.run_text ++ text in
    h ∙ passed_on f.continues s f w refl ∙ ap (passed s f) joined
    ∙ ap (λ (p : Progress). passed p f (p.run_text ++ text)) e
    ∙ sym (ap (λ (o : Option LoginRefusal). after_by o old f whole) none)
