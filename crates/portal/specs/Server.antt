-- What initiators are told of a portal.
use Rattle.std.specs.Prelude.{Bool, [], ◌∷◌, nat_eq, if◌then◌else◌}
use lib.Pointwise.{pointwise}
use Rattle.std.specs.declared.net.ipv4_addr.Ipv4Addr.{Ipv4Addr}
use Rattle.std.specs.declared.net.socket_addr.SocketAddrV4.{SocketAddrV4}

-- 0.0.0.0, which stands for any address of the host
abbrev pub is_any : Ipv4Addr → Bool
is_any ip = pointwise nat_eq ip.octets (0 ∷ 0 ∷ 0 ∷ 0 ∷ [])

-- its own address, or that which the connection reached
abbrev pub named_by : Ipv4Addr → SocketAddrV4 → SocketAddrV4
named_by reached portal = if is_any portal.ip then record portal { ip = reached } else portal
