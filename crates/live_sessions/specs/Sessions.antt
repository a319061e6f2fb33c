-- What the table of the sessions that live says of them (RFC 7143, 6.3).
use Rattle.std.specs.Prelude.{◌≡◌, ℕ, Bool}
use Rattle.login.specs.declared.status.SessionType.{SessionType}
use Rattle.scsi_types.specs.Nexus.{Port, Nexus}
use Rattle.live_sessions.specs.Live.{TableValue, HasEntered, is_live, without}
use Rattle.live_sessions.specs.declared.live.EnterFault.{EnterFault}

-- What was said of a table by its calls, and by nothing else: that a session of this nexus and kind began to live, with this number
-- and this TSIH; that none could, for this cause; whether the session with this TSIH lived, and was of this port; and that the session
-- with this number is over.
pub record Sayings : Type 1 where
  pub entered : Nexus → SessionType → ℕ → ℕ → Type 0
  pub refused : EnterFault → Type 0
  pub lived : ℕ → Port → Bool → Type 0
  pub left : ℕ → Type 0

-- the same of whatever table stands behind a lock, by what its calls say of it before them and behind them
module _ {T : Type 0} (entered : T → Nexus → SessionType → ℕ → ℕ → T → Type 0) (refused : T → EnterFault → Type 0)
    (lived : T → ℕ → Port → Bool → Type 0) (left : T → ℕ → T → Type 0) where
  abbrev pub of_table : Sayings
  of_table =
      record {
        entered = λ nexus kind number tsih. (old : T) × (new : T) × entered old nexus kind number tsih new;
        refused = λ fault. (old : T) × refused old fault;
        lived = λ tsih port answer. (table : T) × lived table tsih port answer;
        left = λ number. (old : T) × (new : T) × left old number new;
      }

-- what the calls of the table say
module _ {C : Type 0} where
  abbrev pub entered_in : TableValue C → Nexus → SessionType → ℕ → ℕ → TableValue C → Type 0
  entered_in old nexus kind number tsih new =
      (connection : C) × HasEntered old new (record {
        number = number;
        tsih = tsih;
        begun = record { port = nexus.port; group = nexus.group; kind = kind };
        connection = connection;
      })

  abbrev pub lived_in : TableValue C → ℕ → Port → Bool → Type 0
  lived_in table tsih port answer = answer ≡ is_live table.live tsih port

  abbrev pub left_in : TableValue C → ℕ → TableValue C → Type 0
  left_in old number new = new ≡ record old { live = without number old.live }
