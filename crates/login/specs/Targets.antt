-- What a Text request is answered (RFC 7143, 11.10 and appendix C).
use Rattle.std.specs.Prelude.{ℕ, Bool, bytes_eq, codes, decimal, length, ◌==◌, count_by}
use Rattle.std.specs.Prelude.{nat_lt, not, ◌||◌, is_some, if◌then◌else◌, List, [], ◌∷◌, ◌++◌}
use Rattle.std.specs.Net.Text.{socket_v4_text}
use Rattle.std.specs.declared.net.SocketAddrV4.{SocketAddrV4}
use Rattle.login.specs.Text.{Pair, is_byte, is_text, spelled}
use Rattle.login.specs.Table.{key_named}
use Rattle.login.specs.declared.status.SessionType.{SessionType}
use Rattle.login.specs.declared.status.SessionType.TheVariants.{Normal, Discovery}

-- a portal, `a.b.c.d:port`, with the tag of its group
unfoldable pub portal_text : ℕ → SocketAddrV4 → List ℕ
portal_text tag portal = socket_v4_text portal ++ codes "," ++ decimal tag

abbrev pub address_text : ℕ → SocketAddrV4 → List ℕ
address_text tag portal = spelled (codes "TargetAddress") (portal_text tag portal)

abbrev pub addresses : ℕ → List SocketAddrV4 → List ℕ
addresses tag [] = []
addresses tag (portal ∷ portals) = address_text tag portal ++ addresses tag portals

-- the target's name, the portals of the first controller in order, and then those of the second
abbrev pub target_text : List ℕ → List SocketAddrV4 → List SocketAddrV4 → List ℕ
target_text target first second = spelled (codes "TargetName") target ++ addresses 1 first ++ addresses 2 second

-- `All` is asked in a discovery session alone; the target's name, or an empty value for the session's own target, in
-- each kind of session
abbrev pub all_text : SessionType → List ℕ → List ℕ
all_text Discovery told = told
all_text Normal told = spelled (codes "SendTargets") (codes "Reject")

abbrev pub targets_text : List ℕ → SessionType → List ℕ → List ℕ → List ℕ
targets_text target kind value told =
    if bytes_eq value target || length value == 0 then told
    else (if bytes_eq value (codes "All") then all_text kind told else [])

-- any other key of a login is rejected here, and any other key is not understood
abbrev pub other_text : List ℕ → List ℕ
other_text key = spelled key (if is_some (key_named key) then codes "Reject" else codes "NotUnderstood")

unfoldable pub answer_of : List ℕ → SessionType → List ℕ → List ℕ → List ℕ → List ℕ
answer_of target kind told key value =
    if bytes_eq key (codes "SendTargets") then targets_text target kind value told else other_text key

abbrev pub answers_of : List ℕ → SessionType → List ℕ → List Pair → List ℕ
answers_of target kind told [] = []
answers_of target kind told (p ∷ ps) = answer_of target kind told p.key p.value ++ answers_of target kind told ps

-- a text that is no list of pairs, or one of more than 64
abbrev pub is_bad_request : List ℕ → Bool
is_bad_request text = not (is_text text) || nat_lt 64 (count_by (is_byte 0) text)
