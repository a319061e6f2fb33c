-- What an offer is answered with is the value in force, or the default stands.
use Rattle.std.proofs.Common.{◌≡◌, ℕ, min, List, true, ◌&&◌, Option, Some, None, refl, sym, ◌∙◌, subst, inl, inr}
use Rattle.std.specs.Prelude.{codes, decimal, option_map, unwrap_or}
use Rattle.login.specs.Text.{Pair, found}
use Rattle.login.specs.Number.{number_within, flag_in}
use Rattle.login.specs.Answer.{verdict, verdict_of}
use Rattle.login.specs.Table.{limits, row_of, key_named, in_force, value_after}
use Rattle.login.specs.Parameters.{number_of, flag_of, flag_text, parameters_of, IsInForce}
use Rattle.login.specs.declared.key.Key.TheVariants as Of
use Rattle.login.specs.declared.value.Limits.{Limits}
use Rattle.login.specs.declared.parameters.Parameters.{Parameters}
use Rattle.login.specs.declared.value.Rule.{Rule}
use Rattle.login.specs.declared.value.Rule.TheVariants.{Least, Both}
use Rattle.login.specs.declared.value.Value.{Value}
use Rattle.login.specs.declared.value.Value.TheVariants.{Number, Flag}

-- Where a key is offered, its answer tells what is in force; or the offer is rejected, and the default stands.
abbrev IsTold : {A : Type 0} → List ℕ → (A → List ℕ) → (Parameters → A) → A → Type 0
IsTold name text of default = (ps : List Pair) (offer told : List ℕ) → found name ps ≡ Some offer
    → verdict_of name offer ≡ Some told
    → IsInForce told (text (of (parameters_of ps))) (of (parameters_of ps) ≡ default)

-- the same of the value that an offer is agreed on, where a rule has it told
abbrev Tells : {A : Type 0} → (A → List ℕ) → (Value → A) → Value → List ℕ → Value → Type 0
Tells text of default told v = IsInForce told (text (of v)) (of v ≡ of default)

agreed_told : {A B : Type 0} (rule : Rule) (made : B → Value) (text : A → List ℕ) (of : Value → A) (default : Value)
    → ((b : B) → verdict rule (Some (made b)) ≡ Some (text (of (made b)))) → (o : Option B) (told : List ℕ)
    → verdict rule (option_map made o) ≡ Some told → Tells text of default told (unwrap_or (option_map made o) default)
agreed_told rule made text of default tells None told e = inr (let f : told ≡ codes "Reject" = cc in f, refl)
agreed_told rule made text of default tells (Some b) told e =
    let both : Some told ≡ Some (text (of (made b))) = sym e ∙ tells b in
    inl (let f : told ≡ text (of (made b)) = cc in f)

least_told : (l : Limits) (default : ℕ) (o : Option ℕ) (told : List ℕ)
    → verdict (Least l) (option_map (λ n. Number (min n l.own)) o) ≡ Some told
    → Tells decimal number_of (Number default) told (unwrap_or (option_map (λ n. Number (min n l.own)) o) (Number default))
least_told l default =
    agreed_told (Least l) (λ n. Number (min n l.own)) decimal number_of (Number default) (λ n. refl)

pub burst_told : IsTold (codes "MaxBurstLength") decimal (λ p. p.max_burst_length) 262144
unfolding parameters_of in_force verdict_of key_named
burst_told ps offer told f e =
    subst (λ (o : Option (List ℕ)). Tells decimal number_of (Number 262144) told (value_after (row_of Of.MaxBurstLength) o)) (sym f)
    (least_told (limits 512 16777215 262144) 262144 (number_within (limits 512 16777215 262144) offer) told e)

pub first_told : IsTold (codes "FirstBurstLength") decimal (λ p. p.first_burst_length) 65536
unfolding parameters_of in_force verdict_of key_named
first_told ps offer told f e =
    subst (λ (o : Option (List ℕ)). Tells decimal number_of (Number 65536) told (value_after (row_of Of.FirstBurstLength) o)) (sym f)
    (least_told (limits 512 16777215 65536) 65536 (number_within (limits 512 16777215 65536) offer) told e)

pub immediate_told : IsTold (codes "ImmediateData") flag_text (λ p. p.immediate_data) true
unfolding parameters_of in_force verdict_of key_named
immediate_told ps offer told f e =
    subst (λ (o : Option (List ℕ)). Tells flag_text flag_of (Flag true) told (value_after (row_of Of.ImmediateData) o)) (sym f)
    (agreed_told (Both true) (λ b. Flag (b && true)) flag_text flag_of (Flag true) (λ b. refl) (flag_in offer) told e)
