-- What tells the sessions that live apart (RFC 7143, 6.3 and 11.12.9).
use Rattle.std.specs.Prelude.{◌≡◌, ◌⊎◌, ℕ, ◌<◌, ◌≤◌, Bool, true, false, nat_eq, List}
use Rattle.std.specs.List.{list_any}
use Rattle.login.specs.declared.status.SessionType.{SessionType}
use Rattle.login.specs.declared.status.SessionType.TheVariants.{Normal, Discovery}

abbrev pub same_kind : SessionType → SessionType → Bool
same_kind Normal Normal = true
same_kind Normal Discovery = false
same_kind Discovery Normal = false
same_kind Discovery Discovery = true

-- ---- the Target Session Identifying Handle

abbrev pub has_tsih : {S : Type 0} → (S → ℕ) → List S → ℕ → Bool
has_tsih handle live tsih = list_any (λ s. nat_eq (handle s) tsih) live

-- On the way from one TSIH to another, upward, and from the last on to 1, this one lies between them.
abbrev pub IsBetween : ℕ → ℕ → ℕ → Type 0
IsBetween from tsih to = ((from < tsih) × (tsih < to)) ⊎ ((to ≤ from) × ((from < tsih) ⊎ (tsih < to)))

-- the greatest TSIH, of two bytes (RFC 7143, 11.12.9); 0 names no session
abbrev pub last_tsih : ℕ
last_tsih = 0xFFFF

-- a TSIH, the first behind the one that was given last that no session has
pub record IsNextTsih {S : Type 0} (handle : S → ℕ) (last : ℕ) (live : List S) (tsih : ℕ) : Type 0 where
  pub least : 0 < tsih
  pub greatest : tsih ≤ last_tsih
  pub free : has_tsih handle live tsih ≡ false
  pub first : (t : ℕ) → 0 < t → t ≤ last_tsih → IsBetween last t tsih → has_tsih handle live t ≡ true

-- each of these has its session: those above one and up to another, and all
abbrev pub AreTaken : {S : Type 0} → (S → ℕ) → List S → ℕ → ℕ → Type 0
AreTaken handle live above to = (t : ℕ) → above < t → t ≤ to → has_tsih handle live t ≡ true

abbrev pub AreAllTaken : {S : Type 0} → (S → ℕ) → List S → Type 0
AreAllTaken handle live = AreTaken handle live 0 last_tsih

-- the first of these that has none
pub record IsFirstFree {S : Type 0} (handle : S → ℕ) (live : List S) (above to tsih : ℕ) : Type 0 where
  pub least : above < tsih
  pub greatest : tsih ≤ to
  pub free : has_tsih handle live tsih ≡ false
  pub first : (t : ℕ) → above < t → t < tsih → has_tsih handle live t ≡ true
