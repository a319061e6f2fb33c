-- What a request for task management drops.
use Rattle.std.proofs.Common.{◌==◌, ◌&&◌, ◌||◌, if◌then◌else◌, ◌≡◌, ℕ, Bool, true, false, not, List, [], ◌∷◌, Option, Some, None, inl, inr}
use Rattle.std.proofs.Common.{refl, sym, ap, ◌∙◌}
use Rattle.std.proofs.Math.Bool.{and-false, and-true}
use Rattle.std.proofs.lemmas.{Bool.eqb-true, Slice.Eq.bytes_eq-Decides}
use Rattle.session_rules.specs.Words.{nat_lt, bytes_eq, slice_index, is_some, filter, NamesUnit, ManagementHeader, Numbers}
use Rattle.scsi_types.specs.Lun.{IsLunOf}
use Rattle.session_rules.specs.{declared.task_function.ManagementOutcome.ManagementOutcome, Drops.drops, Drops.names_one_of}
use Rattle.session_rules.specs.Tasks.{Collecting, r2ts_of}
use Rattle.session_rules.specs.TaskManagement.{there, kept_by, IsManagement, management_answer}

-- the tasks that a request does not drop, where there are so many units
abbrev pub keeps : ℕ → ManagementHeader → Collecting → Bool
keeps units x c = not (drops x c.command && names_one_of units x.lun)

pub no_r2t_managed : (n : Numbers) (x : ManagementHeader) (response : Option ℕ)
    → r2ts_of (management_answer n x response) ≡ []
no_r2t_managed n x None = refl
no_r2t_managed n x (Some response) = refl

-- ---- a LUN names one of the units just where its unit is there

abbrev no_more : List ℕ
no_more = 0 ∷ 0 ∷ 0 ∷ 0 ∷ 0 ∷ 0 ∷ []

lun_of : (a unit : ℕ) (rest : List ℕ) → (a == 0x00 || a == 0x40) ≡ true → rest ≡ no_more → IsLunOf (a ∷ unit ∷ rest) unit
lun_of a unit rest e f = by_first (a == 0x00) refl e where
  by_first : (b : Bool) → (a == 0x00) ≡ b → (b || a == 0x40) ≡ true → IsLunOf (a ∷ unit ∷ rest) unit
  by_first true g h = inl (rw (eqb-true a 0x00 g, f) refl)
  by_first false g h = inr (rw (eqb-true a 0x40 h, f) refl)

none_named : (units : ℕ) (lun : List ℕ) → ((unit : ℕ) → IsLunOf lun unit → ⊥) → names_one_of units lun ≡ false
none_named units [] none = refl
none_named units (a ∷ []) none =
    ap (λ (b : Bool). b && nat_lt (slice_index (a ∷ []) 1) units) (and-false (a == 0x00 || a == 0x40))
none_named units (a ∷ (unit ∷ rest)) none =
    by_form (a == 0x00 || a == 0x40) refl (bytes_eq rest no_more) refl where
      by_form : (b : Bool) → (a == 0x00 || a == 0x40) ≡ b → (c : Bool) → bytes_eq rest no_more ≡ c
          → (b && c && nat_lt unit units) ≡ false
      by_form true e true f = absurd (none unit (lun_of a unit rest e ((bytes_eq-Decides rest no_more).0 f)))
      by_form b e c f = refl

some_if : (unit : ℕ) (b : Bool) → b ≡ is_some (if b then Some unit else None)
some_if unit true = refl
some_if unit false = refl

found_is : (units : ℕ) (lun : List ℕ) (unit : Option ℕ) → NamesUnit lun unit
    → names_one_of units lun ≡ is_some (there units unit)
found_is units lun None none = none_named units lun none
found_is units lun (Some unit) (inl e) = ap (names_one_of units) e ∙ some_if unit (nat_lt unit units)
found_is units lun (Some unit) (inr e) = ap (names_one_of units) e ∙ some_if unit (nat_lt unit units)

-- ---- and so drops

kept_so : (x : ManagementHeader) (unit : Option ℕ) (cs : List Collecting)
    → filter (λ c. not (drops x c.command && is_some unit)) cs ≡ kept_by unit x cs
kept_so x None [] = refl
kept_so x None (c ∷ cs) = rw (and-false, kept_so x None cs) refl
kept_so x (Some unit) cs = simp and-true

-- those that wait behind a request are those that it does not drop
pub kept_is : (units : ℕ) (cs : List Collecting) (x : ManagementHeader) (m : ManagementOutcome) (kept : List Collecting)
    → IsManagement units cs x m kept → filter (keeps units x) cs ≡ kept
kept_is units cs x m kept k =
    ap (λ (b : Bool). filter (λ c. not (drops x c.command && b)) cs) (found_is units x.lun k.unit k.names)
    ∙ kept_so x (there units k.unit) cs ∙ sym k.kept_is
