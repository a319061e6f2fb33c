-- What passes in full feature phase: a list of turns. A turn is a PDU that came, or a fault, with what it called for.
use Rattle.std.specs.Prelude.{◌≡◌, ◌∷◌, ◌++◌}
use Rattle.session_rules.specs.Words.{ℕ, List, [], take, Option, Some, None, filter_map, flat_map, IsPdu, spelling, Header, Target}
use Rattle.session_rules.specs.Words.{TargetHeader, PduFault, Verdict, bhs_length}
use Rattle.session_rules.specs.Asking.{Asking}

-- a PDU: the bytes of its basic header segment (BHS), what they say, and its data; or a fault and the BHS
pub data Incoming : Type 0 where
  pdu : List ℕ → Header → List ℕ → Incoming
  faulty : PduFault → List ℕ → Incoming

-- a PDU that went out
pub record Out : Type 0 where
  pub header : TargetHeader
  pub bytes : List ℕ

pub record Turn : Type 0 where
  pub came : Incoming
  pub verdict : Verdict
  pub call : Option Asking
  pub sent : List Out

-- what the target was asked and what went out, in order
abbrev pub calls : List Turn → List Asking
calls ts = filter_map (λ t. t.call) ts

abbrev pub sent : List Turn → List Out
sent ts = flat_map (λ t. t.sent) ts

-- the bytes of PDUs that went out
abbrev pub bytes_of : List Out → List ℕ
bytes_of outs = flat_map (λ o. spelling (Target o.header) o.bytes) outs

-- the first bytes of these spell a PDU with this BHS, header and data; the rest is behind it
pub record Begins (bytes bhs : List ℕ) (h : Header) (d rest : List ℕ) : Type 0 where
  pub front : List ℕ
  pub cut : bytes ≡ front ++ rest
  pub is_pdu : IsPdu front h d
  pub bhs_is : take bhs_length front ≡ bhs

-- the bytes are spellings of the PDUs that came, one after another; a fault takes none
abbrev pub Spells : List Incoming → List ℕ → Type 0
Spells [] bytes = bytes ≡ []
Spells (pdu bhs h d ∷ is) bytes = (rest : List ℕ) × Begins bytes bhs h d rest × Spells is rest
Spells (faulty f bhs ∷ is) bytes = Spells is bytes

-- the calls, in order, lead the target from one state to another
abbrev pub Leads : {T : Type 0} → (T → Asking → T → Type 0) → List Asking → T → T → Type 0
Leads leads [] old new = new ≡ old
Leads {T} leads (c ∷ cs) old new = (mid : T) × leads old c mid × Leads leads cs mid new

-- a call leads the target on; with none it stays
abbrev pub IsLed : {T : Type 0} → (T → Asking → T → Type 0) → Option Asking → T → T → Type 0
IsLed leads None old new = new ≡ old
IsLed leads (Some call) old new = leads old call new
