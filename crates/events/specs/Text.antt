-- The line of an event.
use Rattle.std.specs.Prelude.{ℕ, ◌+◌, ◌/◌, ◌%◌, Bool, false, ◌&&◌, not, nat_eq, nat_lt, if◌then◌else◌, List, [], ◌∷◌, ◌++◌, codes}
use Rattle.std.specs.List.{flat_map, list_all}
use Rattle.std.specs.Fmt.{decimal, digits}
use Rattle.std.specs.Net.Text.{socket_v4_text}
use Rattle.std.specs.declared.net.socket_addr.SocketAddrV4.{SocketAddrV4}
use Rattle.events.specs.declared.words.Cause.{Cause}
use Rattle.events.specs.declared.words.Cause.TheVariants as causes
use Rattle.events.specs.declared.words.Why.{Why}
use Rattle.events.specs.declared.words.Why.TheVariants as whys
use Rattle.events.specs.declared.words.Sense.{Sense}
use Rattle.events.specs.declared.words.SessionType.{SessionType}
use Rattle.events.specs.declared.words.Operation.{Operation}
use Rattle.events.specs.declared.words.Part.{Part}
use Rattle.events.specs.declared.words.Access.{Access}
use Rattle.events.specs.declared.words.Call.{Call}
use Rattle.events.specs.declared.words.Stayed.{Stayed}
use Rattle.events.specs.declared.words.Unusable.{Unusable}
use Rattle.events.specs.declared.event.Initiator.{Initiator}
use Rattle.events.specs.declared.event.Path.{Path}
use Rattle.events.specs.declared.event.Place.{Place}
use Rattle.events.specs.declared.event.By.{By}
use Rattle.events.specs.declared.event.By.TheVariants.{Console, Session}
use Rattle.events.specs.declared.line.Piece.{Piece}
use Rattle.events.specs.declared.line.Piece.TheVariants as pieces
use Rattle.events.specs.declared.event.Event.{Event}
use Rattle.events.specs.declared.event.Event.TheVariants as events
use Rattle.events.specs.Words.{access_text, session_type_text, stayed_text, action_text, operation_text, part_text, call_text, resource_text}
use Rattle.events.specs.Words.{unusable_text, status_text, reject_text, error_text}

-- ---- what a name is between quotes

-- a printing character of ASCII
abbrev pub is_plain : ℕ → Bool
is_plain b = not (nat_lt b 32) && nat_lt b 127

abbrev pub are_plain : List ℕ → Bool
are_plain bytes = list_all is_plain bytes

abbrev pub hex_digit : ℕ → ℕ
hex_digit d = if nat_lt d 10 then 48 + d else 87 + d

-- a quote and a backslash behind a backslash; a byte that is no printing character as this front and two digits
abbrev pub escaped_by : List ℕ → ℕ → List ℕ
escaped_by front b =
    if nat_eq b 34 then codes "\\\"" else
    if nat_eq b 92 then codes "\\\\" else
    if is_plain b then b ∷ [] else
    front ++ hex_digit (b / 16 % 16) ∷ hex_digit (b % 16) ∷ []

-- in the log that front is `\x`
abbrev pub escaped : ℕ → List ℕ
escaped = escaped_by (codes "\\x")

abbrev pub quoted : List ℕ → List ℕ
quoted bytes = 34 ∷ (flat_map escaped bytes ++ 34 ∷ [])

-- ---- the parts of a line, one behind the other

abbrev pub joined : List ℕ → List (List ℕ) → List ℕ
joined text [] = text
joined text (part ∷ parts) = joined (text ++ part) parts

abbrev pub hex : ℕ → List ℕ
hex n = digits 16 false n

-- what stands in a line for a piece of it
abbrev pub piece_text : Piece → List ℕ
piece_text (pieces.Text text) = text.now
piece_text (pieces.Number n) = decimal n
piece_text (pieces.Hex n) = hex n
piece_text (pieces.Address a) = socket_v4_text a
piece_text (pieces.Name name) = quoted name.now

abbrev pub initiator_in : Initiator → List (List ℕ) → List (List ℕ)
initiator_in who rest = codes " initiator=" ∷ quoted who.name.now ∷ codes " isid=0x" ∷ hex who.isid ∷ rest

abbrev pub path_in : Path → List (List ℕ) → List (List ℕ)
path_in path rest =
    codes " from=" ∷ socket_v4_text path.from ∷ codes " portal=" ∷ socket_v4_text path.portal
    ∷ codes " tag=" ∷ decimal path.tag ∷ rest

abbrev pub by_in : By → List (List ℕ)
by_in Console = codes " by=console" ∷ []
by_in (Session who) = codes " by=session" ∷ initiator_in who []

abbrev pub cause_in : Cause → List (List ℕ)
cause_in causes.Request = []
cause_in (causes.NoRoom unit) = codes " lacks=room unit=" ∷ decimal unit ∷ []
cause_in causes.NoTsih = codes " lacks=tsih" ∷ []
cause_in causes.NoNumber = codes " lacks=number" ∷ []
cause_in causes.NoMemory = codes " lacks=memory" ∷ []

abbrev pub why_in : Why → List (List ℕ)
why_in whys.Logout = codes " why=logout" ∷ []
why_in whys.Closed = codes " why=connection_closed" ∷ []
why_in whys.InputFailed = codes " why=connection_lost in=read" ∷ []
why_in whys.OutputFailed = codes " why=connection_lost in=write" ∷ []
why_in whys.Replaced = codes " why=replaced_by_same_initiator" ∷ []
why_in (whys.Rejected reason opcode tag) =
    codes " why=protocol_error reason=0x" ∷ hex reason ∷ codes " words=\"" ∷ reject_text reason
    ∷ codes "\" opcode=0x" ∷ hex opcode ∷ codes " task=0x" ∷ hex tag ∷ []
why_in whys.Gap = codes " why=protocol_error words=\"CmdSN leaves a gap\"" ∷ []
why_in whys.NoMemory = codes " why=no_memory" ∷ []
why_in whys.PushedOut = codes " why=too_many_wait" ∷ []
why_in whys.ByConsole = codes " why=by_console" ∷ []

-- the number of a session, and its kind
abbrev pub numbered_in : ℕ → SessionType → List (List ℕ) → List (List ℕ)
numbered_in tsih kind rest = codes " tsih=" ∷ decimal tsih ∷ codes " type=" ∷ session_type_text kind ∷ rest

-- a session at a unit: the tag of its group, and its initiator port
abbrev pub session_in : Initiator → ℕ → List (List ℕ)
session_in who group = codes " group=" ∷ decimal group ∷ initiator_in who []

abbrev pub portal_in : ℕ → SocketAddrV4 → List (List ℕ) → List (List ℕ)
portal_in controller portal rest =
    codes " controller=" ∷ decimal controller ∷ codes " portal=" ∷ socket_v4_text portal ∷ rest

abbrev pub error_in : ℕ → List (List ℕ)
error_in error = codes " errno=" ∷ decimal error ∷ codes " error=" ∷ error_text error ∷ []

abbrev pub command_in : ℕ → Operation → List (List ℕ) → List (List ℕ)
command_in unit operation rest = codes " unit=" ∷ decimal unit ∷ codes " command=" ∷ operation_text operation ∷ rest

abbrev pub sense_in : Sense → List (List ℕ) → List (List ℕ)
sense_in sense rest =
    codes " key=0x" ∷ hex sense.key ∷ codes " asc=0x" ∷ hex sense.code ∷ codes " ascq=0x" ∷ hex sense.qualifier ∷ rest

abbrev pub file_in : ℕ → Part → List (List ℕ) → List (List ℕ)
file_in unit part rest = codes " unit=" ∷ decimal unit ∷ codes " file=" ∷ part_text part ∷ rest

abbrev pub failed_in : Call → Place → ℕ → List (List ℕ)
failed_in call place error =
    codes " call=" ∷ call_text call ∷ codes " block=" ∷ decimal place.first ∷ codes " blocks=" ∷ decimal place.count
    ∷ error_in error

abbrev pub unusable_in : List ℕ → Unusable → ℕ → List (List ℕ)
unusable_in disk why error = codes " disk=" ∷ quoted disk ∷ codes " why=" ∷ unusable_text why ∷ error_in error

abbrev pub set_in : ℕ → ℕ → Access → Access → List (List ℕ) → List (List ℕ)
set_in unit group first second rest =
    codes "event=groups_set unit=" ∷ decimal unit ∷ codes " owner=" ∷ decimal group ∷ codes " states=" ∷ access_text first
    ∷ codes "," ∷ access_text second ∷ rest

abbrev pub stay_in : ℕ → ℕ → Stayed → List (List ℕ) → List (List ℕ)
stay_in unit group why rest =
    codes "event=not_moved unit=" ∷ decimal unit ∷ codes " to=" ∷ decimal group ∷ codes " why=" ∷ stayed_text why ∷ rest

-- ---- the parts of the line of an event

abbrev pub parts : Event → List (List ℕ)
parts (events.Started version) = codes "event=started version=" ∷ quoted version.now ∷ []
parts (events.WrongWords what) = codes "event=wrong_words what=" ∷ quoted what.now ∷ []
parts (events.Listening controller portal) = codes "event=listening" ∷ portal_in controller portal []
parts (events.CannotListen controller portal error) =
    codes "event=cannot_listen" ∷ portal_in controller portal (error_in error)
parts (events.CannotControl error) = codes "event=cannot_control" ∷ error_in error
parts events.Ready = codes "event=ready" ∷ []
parts events.Stopping = codes "event=stopping" ∷ []
parts (events.LoggedIn who path tsih kind) =
    codes "event=login" ∷ initiator_in who (path_in path (numbered_in tsih kind []))
parts (events.LoginRefused who path status cause) =
    codes "event=login_refused" ∷ initiator_in who (path_in path
    (codes " status=0x" ∷ hex status ∷ codes " words=\"" ∷ status_text status ∷ codes "\"" ∷ cause_in cause))
parts (events.SessionEnded who path tsih kind why) =
    codes "event=session_ended" ∷ initiator_in who (path_in path (numbered_in tsih kind (why_in why)))
parts (events.ConnectionEnded path why) = codes "event=connection_ended" ∷ path_in path (why_in why)
parts (events.ConnectionsEnded count) = codes "event=connections_ended count=" ∷ decimal count ∷ []
parts (events.LoginsRefused count) = codes "event=logins_refused count=" ∷ decimal count ∷ []
parts (events.Discoveries count) = codes "event=discoveries count=" ∷ decimal count ∷ []
parts (events.Ordered what) = codes "event=order by=control line=" ∷ quoted what.now ∷ []
parts (events.GroupsSet unit group first second by) = set_in unit group first second (by_in by)
parts (events.NotMoved unit group why by) = stay_in unit group why (by_in by)
parts (events.Reserved unit asked who group) =
    codes "event=reservation unit=" ∷ decimal unit ∷ codes " action=" ∷ action_text asked.action
    ∷ codes " key=0x" ∷ hex asked.key ∷ codes " service_action_key=0x" ∷ hex asked.service_action_key
    ∷ codes " type=" ∷ decimal asked.kind ∷ session_in who group
parts (events.Reset unit who group) = codes "event=unit_reset unit=" ∷ decimal unit ∷ session_in who group
parts (events.CommandFailed unit operation sense who group) =
    codes "event=command_failed" ∷ command_in unit operation (sense_in sense (session_in who group))
parts (events.Busy unit operation who group) = codes "event=busy" ∷ command_in unit operation (session_in who group)
parts (events.DeviceFailed unit part call place error) =
    codes "event=device_failed" ∷ file_in unit part (failed_in call place error)
parts (events.Hung unit part call) = codes "event=hung" ∷ file_in unit part (codes " call=" ∷ call_text call ∷ [])
parts (events.Back unit part call time) =
    codes "event=back" ∷ file_in unit part (codes " call=" ∷ call_text call ∷ codes " ms=" ∷ decimal time ∷ [])
parts (events.Grew unit part) = codes "event=grew" ∷ file_in unit part []
parts (events.NotFlushed unit) = codes "event=not_flushed unit=" ∷ decimal unit ∷ []
parts (events.CannotUse unit part disk why error) =
    codes "event=cannot_use" ∷ file_in unit part (unusable_in disk.now why error)
parts (events.NoKeepalive from) = codes "event=no_keepalive from=" ∷ socket_v4_text from ∷ []
parts (events.Wanting what) = codes "event=wanting what=" ∷ resource_text what ∷ []
parts (events.Dropped count) = codes "event=dropped lines=" ∷ decimal count ∷ []

-- the line of an event, without its time and its end
abbrev pub text_of : Event → List ℕ
text_of event = joined [] (parts event)
