-- The line of an event has printing characters alone, whatever an initiator or a path is called.
use Rattle.std.proofs.Common.{◌≡◌, ℕ, zero, suc, ◌<◌, ◌/◌, ◌%◌, List, [], ◌∷◌, ◌++◌, Bool, true, false, ◌&&◌, ◌∙◌, refl, arith}
use Rattle.std.specs.Bool.{◌==◌}
use Rattle.std.specs.Prelude.{slice_index, nat_eq, if◌then◌else◌, codes}
use Rattle.std.specs.List.{list_all, flat_map}
use Rattle.std.specs.Fmt.{decimal, digits, digits_onto, digit_glyph}
use Rattle.std.specs.Net.Addr.{ipv4_octets}
use Rattle.std.specs.Net.Socket.{v4_ip, v4_port}
use Rattle.std.specs.Net.Text.{dotted_text, ipv4_text, socket_v4_text}
use Rattle.std.specs.declared.net.socket_addr.SocketAddrV4.{SocketAddrV4}
use Rattle.std.proofs.lemmas.Bool.Decides.{nat_tests}
use Rattle.std.proofs.lemmas.List.Folds.{list_all-append}
use Rattle.events.specs.Words.{access_text, session_type_text, stayed_text, action_text, operation_text, part_text, call_text, resource_text}
use Rattle.events.specs.Words.{unusable_text, named, statuses, status_text, rejects, reject_text, errors, error_text}
use Rattle.events.specs.Text.{is_plain, are_plain, hex_digit, escaped, escaped_by, quoted, joined, hex, initiator_in, path_in, by_in, cause_in}
use Rattle.events.specs.Text.{why_in, session_in, error_in, numbered_in}
use Rattle.events.specs.Text.{parts, text_of}
use Rattle.events.specs.declared.words.Cause.{Cause}
use Rattle.events.specs.declared.words.Cause.TheVariants as causes
use Rattle.events.specs.declared.words.Why.{Why}
use Rattle.events.specs.declared.words.Why.TheVariants as whys
use Rattle.events.specs.declared.event.Initiator.{Initiator}
use Rattle.events.specs.declared.event.Path.{Path}
use Rattle.events.specs.declared.event.By.{By}
use Rattle.events.specs.declared.event.By.TheVariants.{Console, Session}
use Rattle.events.specs.declared.event.Event.{Event}
use Rattle.events.specs.declared.event.Event.TheVariants as events
use Rattle.events.specs.declared.words.SessionType.{SessionType}
use Rattle.events.specs.declared.words.Stayed.{Stayed}
use Rattle.events.specs.declared.words.Access.{Access}
use Rattle.events.specs.declared.words.Action.{Action}
use Rattle.events.specs.declared.words.Operation.{Operation}
use Rattle.events.specs.declared.words.Part.{Part}
use Rattle.events.specs.declared.words.Call.{Call}
use Rattle.events.specs.declared.words.Resource.{Resource}
use Rattle.events.specs.declared.words.Unusable.{Unusable}

pub both : (a b : Bool) → a ≡ true → b ≡ true → (a && b) ≡ true
both true b pa pb = pb
both false b pa pb = absurd (cc)

split : (a b : Bool) → (a && b) ≡ true → (a ≡ true) × (b ≡ true)
split true b p = (refl, p)
split false b p = absurd (cc)

pub choose : (t : Bool) (x y : List ℕ) → are_plain x ≡ true → are_plain y ≡ true → are_plain (if t then x else y) ≡ true
choose true x y px py = px
choose false x y px py = py

pub join : (a b : List ℕ) → are_plain a ≡ true → are_plain b ≡ true → are_plain (a ++ b) ≡ true
join a b pa pb = list_all-append is_plain a b ∙ both (are_plain a) (are_plain b) pa pb

-- ---- numbers

pub glyph : (d : ℕ) → d < 16 → is_plain (digit_glyph false d) ≡ true
glyph d lt = grind (arith, nat_tests)

ten : (k n : ℕ) (acc : List ℕ) → are_plain acc ≡ true → are_plain (digits_onto k 10 false n acc) ≡ true
ten zero n acc p = p
ten (suc k) n acc p =
    let q : are_plain (digit_glyph false (n % 10) ∷ acc) ≡ true =
    both (is_plain (digit_glyph false (n % 10))) (are_plain acc) (glyph (n % 10) (omega arith)) p in
    choose (n / 10 == 0) (digit_glyph false (n % 10) ∷ acc)
    (digits_onto k 10 false (n / 10) (digit_glyph false (n % 10) ∷ acc)) q
    (ten k (n / 10) (digit_glyph false (n % 10) ∷ acc) q)

sixteen : (k n : ℕ) (acc : List ℕ) → are_plain acc ≡ true → are_plain (digits_onto k 16 false n acc) ≡ true
sixteen zero n acc p = p
sixteen (suc k) n acc p =
    let q : are_plain (digit_glyph false (n % 16) ∷ acc) ≡ true =
    both (is_plain (digit_glyph false (n % 16))) (are_plain acc) (glyph (n % 16) (omega arith)) p in
    choose (n / 16 == 0) (digit_glyph false (n % 16) ∷ acc)
    (digits_onto k 16 false (n / 16) (digit_glyph false (n % 16) ∷ acc)) q
    (sixteen k (n / 16) (digit_glyph false (n % 16) ∷ acc) q)

pub number : (n : ℕ) → are_plain (decimal n) ≡ true
unfolding digits
number n = ten 64 n [] refl

pub hexed : (n : ℕ) → are_plain (hex n) ≡ true
unfolding digits
hexed n = sixteen 64 n [] refl

-- a text, a dot and a number
dot : (text : List ℕ) (n : ℕ) → are_plain text ≡ true → are_plain (text ++ codes "." ++ decimal n) ≡ true
dot text n p = join (text ++ codes ".") (decimal n) (join text (codes ".") p refl) (number n)

dotted : (a b c d : ℕ) → are_plain (dotted_text a b c d) ≡ true
dotted a b c d =
    dot (decimal a ++ codes "." ++ decimal b ++ codes "." ++ decimal c) d
    (dot (decimal a ++ codes "." ++ decimal b) c (dot (decimal a) b (number a)))

address : (a : SocketAddrV4) → are_plain (socket_v4_text a) ≡ true
address a =
    let at : ℕ → ℕ = λ k. slice_index (ipv4_octets (v4_ip a)) k in
    let ip : List ℕ = ipv4_text (ipv4_octets (v4_ip a)) in
    join (ip ++ codes ":") (decimal (v4_port a)) (join ip (codes ":") (dotted (at 0) (at 1) (at 2) (at 3)) refl)
    (number (v4_port a))

-- ---- names

kept : (b : ℕ) (t : Bool) (x : List ℕ) → is_plain b ≡ t → are_plain x ≡ true → are_plain (if t then b ∷ [] else x) ≡ true
kept b true x e p = both (is_plain b) true e refl
kept b false x e p = p

abbrev hidden_text : List ℕ → ℕ → List ℕ
hidden_text front b = front ++ hex_digit (b / 16 % 16) ∷ hex_digit (b % 16) ∷ []

abbrev visible : List ℕ → ℕ → List ℕ
visible front b = if is_plain b then b ∷ [] else hidden_text front b

abbrev behind_a_quote : List ℕ → ℕ → List ℕ
behind_a_quote front b = if nat_eq b 92 then codes "\\\\" else visible front b

two_digits : (b : ℕ) → are_plain (hex_digit (b / 16 % 16) ∷ hex_digit (b % 16) ∷ []) ≡ true
two_digits b =
    both (is_plain (hex_digit (b / 16 % 16))) (are_plain (hex_digit (b % 16) ∷ [])) (glyph (b / 16 % 16) (omega arith))
    (both (is_plain (hex_digit (b % 16))) true (glyph (b % 16) (omega arith)) refl)

one : (front : List ℕ) (b : ℕ) → are_plain front ≡ true → are_plain (escaped_by front b) ≡ true
one front b p =
    choose (nat_eq b 34) (codes "\\\"") (behind_a_quote front b) refl
    (choose (nat_eq b 92) (codes "\\\\") (visible front b) refl
    (kept b (is_plain b) (hidden_text front b) refl (join front _ p (two_digits b))))

pub many : (front bytes : List ℕ) → are_plain front ≡ true → are_plain (flat_map (escaped_by front) bytes) ≡ true
many front [] p = refl
many front (b ∷ bytes) p = join (escaped_by front b) _ (one front b p) (many front bytes p)

quoted_plain : (bytes : List ℕ) → are_plain (quoted bytes) ≡ true
quoted_plain bytes = join (flat_map escaped bytes) (34 ∷ []) (many (codes "\\x") bytes refl) refl

-- ---- words

session_type_plain : (x : SessionType) → are_plain (session_type_text x) ≡ true
session_type_plain x = grind (arith, nat_tests)

stayed_plain : (x : Stayed) → are_plain (stayed_text x) ≡ true
stayed_plain x = grind (arith, nat_tests)

access_plain : (x : Access) → are_plain (access_text x) ≡ true
access_plain x = grind (arith, nat_tests)

action_plain : (x : Action) → are_plain (action_text x) ≡ true
action_plain x = grind (arith, nat_tests)

operation_plain : (x : Operation) → are_plain (operation_text x) ≡ true
operation_plain x = grind (arith, nat_tests)

part_plain : (x : Part) → are_plain (part_text x) ≡ true
part_plain x = grind (arith, nat_tests)

call_plain : (x : Call) → are_plain (call_text x) ≡ true
call_plain x = grind (arith, nat_tests)

resource_plain : (x : Resource) → are_plain (resource_text x) ≡ true
resource_plain x = grind (arith, nat_tests)

unusable_plain : (x : Unusable) → are_plain (unusable_text x) ≡ true
unusable_plain x = grind (arith, nat_tests)

abbrev texts : List (ℕ × List ℕ) → Bool
texts rows = list_all (λ row. are_plain row.1) rows

one_of : (rows : List (ℕ × List ℕ)) (n : ℕ) → texts rows ≡ true → are_plain (named rows n) ≡ true
one_of [] n p = refl
one_of (row ∷ rows) n p =
    let s : (are_plain row.1 ≡ true) × (texts rows ≡ true) = split (are_plain row.1) (texts rows) p in
    choose (nat_eq n row.0) row.1 (named rows n) s.0 (one_of rows n s.1)

status_plain : (n : ℕ) → are_plain (status_text n) ≡ true
status_plain n = one_of statuses n refl

reject_plain : (n : ℕ) → are_plain (reject_text n) ≡ true
reject_plain n = one_of rejects n refl

error_plain : (n : ℕ) → are_plain (error_text n) ≡ true
error_plain n = one_of errors n refl

-- ---- parts

abbrev all_plain : List (List ℕ) → Bool
all_plain ps = list_all are_plain ps

initiator : (who : Initiator) (ps : List (List ℕ)) → all_plain ps ≡ true → all_plain (initiator_in who ps) ≡ true
initiator who ps p = both _ _ (quoted_plain who.name.now) (both _ _ (hexed who.isid) p)

path : (by : Path) (ps : List (List ℕ)) → all_plain ps ≡ true → all_plain (path_in by ps) ≡ true
path by ps p = both _ _ (address by.from) (both _ _ (address by.portal) (both _ _ (number by.tag) p))

by_plain : (by : By) → all_plain (by_in by) ≡ true
by_plain Console = refl
by_plain (Session who) = initiator who [] refl

cause : (c : Cause) → all_plain (cause_in c) ≡ true
cause causes.Request = refl
cause (causes.NoRoom unit) = both _ _ (number unit) refl
cause causes.NoTsih = refl
cause causes.NoNumber = refl
cause causes.NoMemory = refl

why : (w : Why) → all_plain (why_in w) ≡ true
why whys.Logout = refl
why whys.Closed = refl
why whys.InputFailed = refl
why whys.OutputFailed = refl
why whys.Replaced = refl
why (whys.Rejected reason opcode tag) =
    both _ _ (hexed reason) (both _ _ (reject_plain reason) (both _ _ (hexed opcode) (both _ _ (hexed tag) refl)))
why whys.Gap = refl
why whys.NoMemory = refl
why whys.PushedOut = refl
why whys.ByConsole = refl

session : (who : Initiator) (group : ℕ) → all_plain (session_in who group) ≡ true
session who group = both _ _ (number group) (initiator who [] refl)

error : (n : ℕ) → all_plain (error_in n) ≡ true
error n = both _ _ (number n) (both _ _ (error_plain n) refl)

each : (event : Event) → all_plain (parts event) ≡ true
each (events.Started version) = both _ _ (quoted_plain version.now) refl
each (events.WrongWords what) = both _ _ (quoted_plain what.now) refl
each (events.Listening controller portal) = both _ _ (number controller) (both _ _ (address portal) refl)
each (events.CannotListen controller portal n) = both _ _ (number controller) (both _ _ (address portal) (error n))
each (events.CannotControl n) = error n
each events.Ready = refl
each events.Stopping = refl
each (events.LoggedIn who by tsih kind) =
    let rest : List (List ℕ) = numbered_in tsih kind [] in
    initiator who (path_in by rest) (path by rest (both _ _ (number tsih) (both _ _ (session_type_plain kind) refl)))
each (events.LoginRefused who by status lacks) =
    let rest : List (List ℕ) = codes " status=0x" ∷ hex status ∷ codes " words=\"" ∷ status_text status ∷ codes "\"" ∷ cause_in lacks
    in initiator who (path_in by rest)
    (path by rest (both _ _ (hexed status) (both _ _ (status_plain status) (cause lacks))))
each (events.SessionEnded who by tsih kind end) =
    let rest : List (List ℕ) = numbered_in tsih kind (why_in end) in
    initiator who (path_in by rest) (path by rest (both _ _ (number tsih) (both _ _ (session_type_plain kind) (why end))))
each (events.ConnectionEnded by end) = path by (why_in end) (why end)
each (events.ConnectionsEnded count) = both _ _ (number count) refl
each (events.LoginsRefused count) = both _ _ (number count) refl
each (events.Discoveries count) = both _ _ (number count) refl
each (events.Ordered what) = both _ _ (quoted_plain what.now) refl
each (events.GroupsSet unit group first second by) =
    both _ _ (number unit) (both _ _ (number group) (both _ _ (access_plain first) (both _ _ (access_plain second) (by_plain by))))
each (events.NotMoved unit group end by) =
    both _ _ (number unit) (both _ _ (number group) (both _ _ (stayed_plain end) (by_plain by)))
each (events.Reserved unit asked who group) =
    both _ _ (number unit) (both _ _ (action_plain asked.action) (both _ _ (hexed asked.key)
    (both _ _ (hexed asked.service_action_key) (both _ _ (number asked.kind) (session who group)))))
each (events.Reset unit who group) = both _ _ (number unit) (session who group)
each (events.CommandFailed unit operation sense who group) =
    both _ _ (number unit) (both _ _ (operation_plain operation) (both _ _ (hexed sense.key) (both _ _ (hexed sense.code)
    (both _ _ (hexed sense.qualifier) (session who group)))))
each (events.Busy unit operation who group) =
    both _ _ (number unit) (both _ _ (operation_plain operation) (session who group))
each (events.DeviceFailed unit part call place n) =
    both _ _ (number unit) (both _ _ (part_plain part) (both _ _ (call_plain call) (both _ _ (number place.first)
    (both _ _ (number place.count) (error n)))))
each (events.Hung unit part call) =
    both _ _ (number unit) (both _ _ (part_plain part) (both _ _ (call_plain call) refl))
each (events.Back unit part call time) =
    both _ _ (number unit) (both _ _ (part_plain part) (both _ _ (call_plain call) (both _ _ (number time) refl)))
each (events.Grew unit part) = both _ _ (number unit) (both _ _ (part_plain part) refl)
each (events.NotFlushed unit) = both _ _ (number unit) refl
each (events.CannotUse unit part disk why n) =
    both _ _ (number unit) (both _ _ (part_plain part) (both _ _ (quoted_plain disk.now) (both _ _ (unusable_plain why)
    (error n))))
each (events.NoKeepalive from) = both _ _ (address from) refl
each (events.Wanting what) = both _ _ (resource_plain what) refl
each (events.Dropped count) = both _ _ (number count) refl

together : (text : List ℕ) (ps : List (List ℕ)) → are_plain text ≡ true → all_plain ps ≡ true → are_plain (joined text ps) ≡ true
together text [] pt pp = pt
together text (p ∷ ps) pt pp =
    let s : (are_plain p ≡ true) × (all_plain ps ≡ true) = split _ _ pp in
    together (text ++ p) ps (join text p pt s.0) s.1

pub line : (event : Event) → are_plain (text_of event) ≡ true
line event = together [] (parts event) refl (each event)
