-- What the getters of the matches give, by the rows that clap finds.
use Rattle.std.proofs.Common.{ap, sym, subst, refl, ◌≡◌, ◌∙◌, ◌<◌, ◌^◌, ◌↔◌, ℕ, Bool, true, false, IsTrue, List, [], codes, Option, Some, None, Result, Ok, Err, MatchOption, unwrap_or}
use Rattle.std.specs.Str.{bytes_eq}
use Rattle.std.specs.Str.Parse.{IsNumeral, ParsesUnsigned, digits_value, without_leading_plus}
use Rattle.std.proofs.lemmas.Slice.Eq.{bytes_eq-Decides}
use Rattle.clap.specs.Words.{ReadsOne, Text, one_of, one_text, rows_of}
use Rattle.clap.specs.declared.parser.matches.Found.{Found}
use Rattle.clap.proofs.WalkLemmas.{one_text-rows}
use Rattle.command_line.specs.Words.{IsNumberIn, are_rest}

-- two texts that an option has are one
pub same_text : (a b : Text) → Some a ≡ Some b → a ≡ b
same_text a b e = ap (λ (o : Option Text). unwrap_or o []) e

-- the number of an option, or that it has none
pub number_case : {E : Type 0} (bits : ℕ) (G : List ℕ → Result ℕ E → Type 0) (found : Found) (id : Text) (r : Option ℕ)
    → (one_text found id ≡ None → r ≡ None)
    → ((t : List ℕ) → one_text found id ≡ Some t → ReadsOne G t r)
    → ((u : List ℕ) (x : Result ℕ E) → G u x → ParsesUnsigned bits 10 u x)
    → MatchOption r ((n : ℕ) → IsNumberIn bits id (rows_of found) n → ⊥) (IsNumberIn bits id (rows_of found))
number_case {E} bits G found id r none some only = go (one_text found id) (sym (one_text-rows found id)) none some
  where
    at : (t : Text) → one_of id (rows_of found) ≡ Some t → (v : Option ℕ) → ReadsOne G t v
        → MatchOption v ((n : ℕ) → IsNumberIn bits id (rows_of found) n → ⊥) (IsNumberIn bits id (rows_of found))
    at t e (Some n) g = let p = only t (Ok n) g in (t, e, p.0.0, p.1, subst (λ k. k < 2 ^ bits) (sym p.1) p.0.1)
    at t e None g = λ n x.
        let is : x.0 ≡ t = same_text x.0 t (sym x.1 ∙ e) in
        let numeral : IsNumeral 10 (without_leading_plus t) = subst (λ u. IsNumeral 10 (without_leading_plus u)) is x.2 in
        let value : n ≡ digits_value 10 (without_leading_plus t) = subst (λ u. n ≡ digits_value 10 (without_leading_plus u)) is x.3 in
        only t (Err g.0) g.1 (numeral, subst (λ k. k < 2 ^ bits) value x.4)

    go : (o : Option Text) → one_of id (rows_of found) ≡ o → (o ≡ None → r ≡ None) → ((t : List ℕ) → o ≡ Some t → ReadsOne G t r)
        → MatchOption r ((n : ℕ) → IsNumberIn bits id (rows_of found) n → ⊥) (IsNumberIn bits id (rows_of found))
    go None e none some =
        subst (λ v. MatchOption v ((n : ℕ) → IsNumberIn bits id (rows_of found) n → ⊥) (IsNumberIn bits id (rows_of found))) (sym (none refl))
        (λ n x. let bad : Some x.0 ≡ None = sym x.1 ∙ e in cc)
    go (Some t) e none some = at t e r (some t refl)

-- a flag's text is the one that says that it is given
pub flag_case : (o : Option Text) (text : Text) (b : Bool) → Some text ≡ o → b ≡ bytes_eq text (codes "true")
    → IsTrue b ↔ (o ≡ Some (codes "true"))
flag_case o text b e is =
    let d = bytes_eq-Decides text (codes "true") in (
      λ h. sym e ∙ ap (λ (t : Text). Some t) (d.0 (sym is ∙ h)),
      λ h. is ∙ d.1 (same_text text (codes "true") (e ∙ h)),
    )

pub no_flag : (o : Option Text) → None ≡ o → IsTrue false ↔ (o ≡ Some (codes "true"))
no_flag o e = (λ h. cc, λ h. let bad : None ≡ Some (codes "true") = e ∙ h in cc)

-- two that tell the same are the same
pub same_flag : (a b : Bool) (P : Type 0) → (IsTrue a ↔ P) → (IsTrue b ↔ P) → a ≡ b
same_flag true true P h k = refl
same_flag true false P h k = sym (k.1 (h.0 refl))
same_flag false true P h k = h.1 (k.0 refl)
same_flag false false P h k = refl

pub same_rest : (o : Option (List Text)) (xs ys : List Text) → are_rest o xs → are_rest o ys → xs ≡ ys
same_rest None xs ys h k = h ∙ sym k
same_rest (Some given) xs ys h k = h ∙ sym k
