-- What is agreed on, in the words of RFC 7143, 6.2.
use Rattle.std.proofs.Common.{◌≡◌, ℕ, ◌≤◌, ◌⊎◌, min, max, List, Bool, true, false, ◌||◌, ◌&&◌, refl, sym, ap}
use Rattle.std.proofs.Common.{subst, ◌∙◌, arith, inl, inr, Option, Some, None}
use Rattle.std.specs.Prelude.{option_map, ◌↔◌, IsTrue}
use Rattle.std.proofs.lemmas.Bool.Decides.{nat_tests}
use Rattle.login.specs.Number.{number_within, number_in, within, flag_in}
use Rattle.login.specs.Value.{agreed}
use Rattle.login.specs.declared.value.Limits.{Limits}
use Rattle.login.specs.declared.value.Rule.TheVariants.{Least, Greatest, Either, Both}
use Rattle.login.specs.declared.value.Value.TheVariants.{Number, Flag}

lesser : (a b : ℕ) → (min a b ≤ a) × (min a b ≤ b) × ((min a b ≡ a) ⊎ (min a b ≡ b))
lesser a b = (omega arith, omega arith, grind arith)

greater : (a b : ℕ) → (a ≤ max a b) × (b ≤ max a b) × ((max a b ≡ a) ⊎ (max a b ≡ b))
greater a b = (omega arith, omega arith, grind arith)

pub least : (limits : Limits) (value : List ℕ) (offer chosen : ℕ) → number_within limits value ≡ Some offer
    → agreed (Least limits) value ≡ Some (Number chosen)
    → (chosen ≤ offer) × (chosen ≤ limits.own) × ((chosen ≡ offer) ⊎ (chosen ≡ limits.own))
least limits value offer chosen o a =
    let e : Some (Number (min offer limits.own)) ≡ Some (Number chosen) =
    sym (ap (option_map (λ (n : ℕ). Number (min n limits.own))) o) ∙ a in
    let same : min offer limits.own ≡ chosen = cc in
    subst (λ (c : ℕ). (c ≤ offer) × (c ≤ limits.own) × ((c ≡ offer) ⊎ (c ≡ limits.own))) same (lesser offer limits.own)

pub greatest : (limits : Limits) (value : List ℕ) (offer chosen : ℕ) → number_within limits value ≡ Some offer
    → agreed (Greatest limits) value ≡ Some (Number chosen)
    → (offer ≤ chosen) × (limits.own ≤ chosen) × ((chosen ≡ offer) ⊎ (chosen ≡ limits.own))
greatest limits value offer chosen o a =
    let e : Some (Number (max offer limits.own)) ≡ Some (Number chosen) =
    sym (ap (option_map (λ (n : ℕ). Number (max n limits.own))) o) ∙ a in
    let same : max offer limits.own ≡ chosen = cc in
    subst (λ (c : ℕ). (offer ≤ c) × (limits.own ≤ c) × ((c ≡ offer) ⊎ (c ≡ limits.own))) same (greater offer limits.own)

within_range : (low high n : ℕ) (o : Option ℕ) → within low high o ≡ Some n → (low ≤ n) × (n ≤ high)
within_range low high n None e = cc
within_range low high n (Some m) e = grind (arith, nat_tests)

pub ranges : (limits : Limits) (value : List ℕ) (offer : ℕ) → number_within limits value ≡ Some offer
    → (limits.low ≤ offer) × (offer ≤ limits.high)
unfolding number_within
ranges limits value offer e = within_range limits.low limits.high offer (number_in value) e

or_is : (a b : Bool) → IsTrue (a || b) ↔ (IsTrue a ⊎ IsTrue b)
or_is true b = (λ h. inl h, λ h. refl)
or_is false b = (λ h. inr h, λ h. elim h [ inl x ↦ cc | inr y ↦ y ])

and_is : (a b : Bool) → IsTrue (a && b) ↔ (IsTrue a × IsTrue b)
and_is true b = (λ h. (refl, h), λ h. h.1)
and_is false b = (λ h. cc, λ h. h.0)

pub either : (own : Bool) (value : List ℕ) (offer chosen : Bool) → flag_in value ≡ Some offer
    → agreed (Either own) value ≡ Some (Flag chosen)
    → (IsTrue chosen) ↔ (IsTrue offer ⊎ IsTrue own)
either own value offer chosen o a =
    let e : Some (Flag (offer || own)) ≡ Some (Flag chosen) = sym (ap (option_map (λ (b : Bool). Flag (b || own))) o)
    ∙ a in
    let same : (offer || own) ≡ chosen = cc in
    subst (λ (c : Bool). IsTrue c ↔ (IsTrue offer ⊎ IsTrue own)) same (or_is offer own)

pub both : (own : Bool) (value : List ℕ) (offer chosen : Bool) → flag_in value ≡ Some offer
    → agreed (Both own) value ≡ Some (Flag chosen)
    → (IsTrue chosen) ↔ (IsTrue offer × IsTrue own)
both own value offer chosen o a =
    let e : Some (Flag (offer && own)) ≡ Some (Flag chosen) = sym (ap (option_map (λ (b : Bool). Flag (b && own))) o)
    ∙ a in
    let same : (offer && own) ≡ chosen = cc in
    subst (λ (c : Bool). IsTrue c ↔ (IsTrue offer × IsTrue own)) same (and_is offer own)
