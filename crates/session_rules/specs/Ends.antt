-- How a session ends, and what stood at the front of what was read then (RFC 7143, 7.3).
use Rattle.std.specs.Prelude.{◌≡◌, ◌⊎◌, ◌<◌, ◌≤◌, ◌∷◌, ◌++◌}
use Rattle.session_rules.specs.Words.{ℕ, List, [], length, take, Option, Some, None, IsPdu, Stands, Header, PduFault, bhs_length, End}
use Rattle.session_rules.specs.Words.{EndOfInput, InputFailed, OutputFailed, Reinstated, LoggedOut, Numbers, LoginResponse, Reject}
use Rattle.session_rules.specs.{Causes.task_tag_of, Causes.status_of, Legal.bhs_of, Turn.Incoming, Turn.Out, Turn.pdu, Turn.faulty}
use Rattle.session_rules.specs.{Phases.Exchange, Phases.NoneEnds}
use Rattle.session_rules.specs.declared.end.End.TheVariants.{Rejected, Gap, LoginRefused}
use Rattle.iscsi_pdu.specs.Fields.{opcode_of}
use Rattle.iscsi_pdu.specs.declared.header.LoginResponse.{LoginResponse as LoginResponseHeader}

-- no PDU and no fault with its whole header segment stands at the front of these bytes
pub record NoneWhole (rest : List ℕ) : Type 0 where
  pub no_pdu : (n : ℕ) (h : Header) (d : List ℕ) → IsPdu (take n rest) h d → n ≤ length rest → ⊥
  pub no_fault : (f : PduFault) → Stands rest f → length rest < bhs_length

-- a fault can only be the last that comes: it stands at the front of what was read behind the PDUs
abbrev pub StandsBehind : Incoming → List ℕ → Type 0
StandsBehind (pdu bhs h d) rest = Unit {0}
StandsBehind (faulty f bhs) rest = Stands rest f × (bhs_length ≤ length rest) × (bhs ≡ take bhs_length rest)

-- one Reject went out for what came, with its basic header segment: for this reason, and of this opcode and this Initiator
-- Task Tag (RFC 7143, 11.17)
pub record ToldByReject (came : Incoming) (sent : List Out) (reason opcode tag : ℕ) : Type 0 where
  pub numbers : Numbers
  pub sent_is : sent ≡ record { header = Reject (record { reason = reason; numbers = numbers }); bytes = bhs_of came } ∷ []
  pub opcode_is : opcode ≡ opcode_of (bhs_of came)
  pub tag_is : tag ≡ task_tag_of (bhs_of came)

-- one Login Response went out, without text, with this status (11.13.5)
pub record ToldByLoginResponse (sent : List Out) (status : ℕ) : Type 0 where
  pub response : LoginResponseHeader
  pub sent_is : sent ≡ record { header = LoginResponse response; bytes = [] } ∷ []
  pub status_is : status ≡ status_of response.status_class response.status_detail

-- The cause of this end is what the initiator is told of it, where what came last was answered by this: a Reject, a Login
-- Response, or for a gap nothing. No other end has a cause to tell.
abbrev pub TellsCause : Option End → Incoming → List Out → Type 0
TellsCause None came sent = Unit {0}
TellsCause (Some EndOfInput) came sent = Unit {0}
TellsCause (Some InputFailed) came sent = Unit {0}
TellsCause (Some OutputFailed) came sent = Unit {0}
TellsCause (Some (Rejected reason opcode tag)) came sent = ToldByReject came sent reason opcode tag
TellsCause (Some Gap) came sent = sent ≡ []
TellsCause (Some (LoginRefused status)) came sent = ToldByLoginResponse sent status
TellsCause (Some Reinstated) came sent = Unit {0}
TellsCause (Some LoggedOut) came sent = Unit {0}

-- the last turn calls for this end, whose cause is told with it, and none before it does
pub record EndsWith (es : List Exchange) (rest : List ℕ) (end : Option End) : Type 0 where
  pub front : List Exchange
  pub last : Exchange
  pub whole : es ≡ front ++ last ∷ []
  pub goes_on : NoneEnds front
  pub stands : StandsBehind last.came rest
  pub ends : last.end ≡ end
  pub told : TellsCause end last.came last.sent

-- how many bytes a session takes at most
abbrev pub most_bytes : ℕ
most_bytes = 18446744073709551615

-- why the session ended so, where these bytes were read behind the PDUs and this many in all: the input is at
-- its end with no whole PDU left, or as many bytes came as a session takes; the reader failed with no whole PDU
-- left; or the last turn calls for it; or the writer failed, behind any turn
abbrev pub EndsBy : List Exchange → List ℕ → ℕ → Type 0 → End → Type 0
EndsBy es rest taken at_end EndOfInput = NoneEnds es × ((at_end × NoneWhole rest) ⊎ (most_bytes ≤ taken))
EndsBy es rest taken at_end InputFailed = NoneEnds es × NoneWhole rest
EndsBy es rest taken at_end OutputFailed = NoneEnds es ⊎ ((end : Option End) × EndsWith es rest end)
EndsBy es rest taken at_end (Rejected reason opcode tag) = EndsWith es rest (Some (Rejected reason opcode tag))
EndsBy es rest taken at_end Gap = EndsWith es rest (Some Gap)
EndsBy es rest taken at_end (LoginRefused status) = EndsWith es rest (Some (LoginRefused status))
EndsBy es rest taken at_end Reinstated = EndsWith es rest (Some Reinstated)
EndsBy es rest taken at_end LoggedOut = EndsWith es rest (Some LoggedOut)
