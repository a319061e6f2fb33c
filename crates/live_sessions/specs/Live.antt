-- The sessions that live at an array, and their handles (RFC 7143, 6.3).
use Rattle.std.specs.Prelude.{◌≡◌, ℕ, ◌+◌, ◌≤◌, Bool, not, ◌&&◌, nat_eq, List, [], ◌∷◌, ◌++◌, filter}
use Rattle.std.specs.List.{list_any}
use Rattle.login.specs.declared.status.SessionType.{SessionType}
use Rattle.registrants.specs.Nexus.{same_group, same_port}
use Rattle.scsi_types.specs.Nexus.{Port, Nexus}
use Rattle.live_sessions.specs.declared.live.LiveSession.{LiveSession}
use Rattle.live_sessions.specs.Handles.{AreAllTaken, IsNextTsih, same_kind}
use Rattle.live_sessions.specs.declared.handles.TheConstants.{LAST_NUMBER}
use Rattle.live_sessions.specs.declared.live.EnterFault.{EnterFault}
use Rattle.live_sessions.specs.declared.live.EnterFault.TheVariants as faults

-- What contracts see of the table: those that live, in the order in which they began; the TSIH that was given last, 0 before
-- the first; and how many have begun, which is the number of the next one.
pub record TableValue (C : Type 0) : Type 0 where
  pub live : List (LiveSession C)
  pub last : ℕ
  pub begun : ℕ

-- A session of this port through this group, of this kind. There is one at most: a new one takes its place (RFC 7143, 6.3.5).
abbrev pub is_older : {C : Type 0} → Nexus → SessionType → LiveSession C → Bool
is_older nexus kind s =
    same_kind s.begun.kind kind && same_group s.begun.group nexus.group && same_port s.begun.port nexus.port

-- those that live on where one of this nexus and kind begins
abbrev pub others : {C : Type 0} → Nexus → SessionType → List (LiveSession C) → List (LiveSession C)
others nexus kind live = filter (λ s. not (is_older nexus kind s)) live

-- those that live on where the session with this number is over
abbrev pub without : {C : Type 0} → ℕ → List (LiveSession C) → List (LiveSession C)
without number live = filter (λ s. not (nat_eq s.number number)) live

-- the session with this TSIH lives, and is of this port
abbrev pub is_live : {C : Type 0} → List (LiveSession C) → ℕ → Port → Bool
is_live live tsih port = list_any (λ s. nat_eq s.tsih tsih && same_port s.begun.port port) live

-- each has its TSIH
abbrev pub handle_of : {C : Type 0} → LiveSession C → ℕ
handle_of s = s.tsih

-- ---- a session begins to live

-- It lives, with the next TSIH and the next number, in place of the older one of its nexus and kind; all others live on.
pub record HasEntered {C : Type 0} (old new : TableValue C) (session : LiveSession C) : Type 0 where
  pub next : IsNextTsih handle_of old.last old.live session.tsih
  pub number : session.number ≡ old.begun
  pub table : new ≡ record {
    live = others (record { port = session.begun.port; group = session.begun.group }) session.begun.kind old.live ++ session ∷ [];
    last = session.tsih;
    begun = old.begun + 1;
  }

-- why it may not: each TSIH has its session, as many have begun as are counted, or there was no memory
abbrev pub IsCauseOf : {C : Type 0} → TableValue C → EnterFault → Type 0
IsCauseOf old faults.NoTsih = AreAllTaken handle_of old.live
IsCauseOf old faults.NoNumber = LAST_NUMBER ≤ old.begun
IsCauseOf old faults.NoMemory = Unit {0}
