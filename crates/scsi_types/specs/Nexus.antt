-- Initiator ports and I_T nexuses as values.
use Rattle.std.specs.Prelude.{ℕ, ◌^◌, ◌<◌, ◌≤◌, List, length}
use Rattle.std.specs.Cmp.Lexicographic.{slice_cmp}
use Rattle.std.specs.Ordering.{nat_cmp, ordering_then}
use Rattle.std.specs.declared.cmp.Ordering.{Ordering}
use Rattle.scsi_types.specs.declared.names.Group.{Group}
use Rattle.scsi_types.specs.declared.names.Group.TheVariants.{One, Two}

-- the number of a target port group, which is the relative target port of its one port, and the tag of its portal group
-- (SPC-4, 5.15; RFC 7143, 13.9)
abbrev pub group_number : Group → ℕ
group_number One = 1
group_number Two = 2

abbrev pub other_group : Group → Group
other_group One = Two
other_group Two = One

-- an initiator port: the bytes of its name, and its ISID (RFC 7143, 4.4.3)
pub record Port : Type 0 where
  pub name : List ℕ
  pub isid : ℕ

-- the most bytes of an iSCSI name (RFC 7143, 4.2.7.1)
abbrev pub longest_name : ℕ
longest_name = 223

-- an initiator port as iSCSI names one (RFC 7143, 10.12.5): a name that is not empty, and an ISID of six bytes
pub record IsPortName (port : Port) : Type 0 where
  pub some : 0 < length port.name
  pub short : length port.name ≤ longest_name
  pub isid : port.isid < 2 ^ 48

-- an I_T nexus: the initiator port, and the target port group by which it came (SAM-5, 3.1)
pub record Nexus : Type 0 where
  pub port : Port
  pub group : Group

-- the order of ports: by the bytes of the name, then by the ISID
abbrev pub port_cmp : Port → Port → Ordering
port_cmp a b = ordering_then (slice_cmp nat_cmp a.name b.name) (nat_cmp a.isid b.isid)
