-- I_T nexuses (SAM-5, 4.6): when two are one, and the order in which registrants are listed.
use Rattle.std.specs.Prelude.{Bool, ◌&&◌, nat_eq}
use Rattle.std.specs.Ordering.{nat_cmp, ordering_then}
use Rattle.std.specs.declared.cmp.Ordering.{Ordering}
use lib.Pointwise.{pointwise}
use Rattle.scsi_types.specs.Nexus.{Port, Nexus, group_number, other_group, port_cmp}
use Rattle.scsi_types.specs.declared.names.Group.{Group}

-- one port: the same ISID, and the same bytes of the name
abbrev pub same_port : Port → Port → Bool
same_port p q = nat_eq p.isid q.isid && pointwise nat_eq p.name q.name

abbrev pub same_group : Group → Group → Bool
same_group a b = nat_eq (group_number a) (group_number b)

-- one nexus: the same port through the same group
abbrev pub same_nexus : Nexus → Nexus → Bool
same_nexus m n = same_group m.group n.group && same_port m.port n.port

abbrev pub group_cmp : Group → Group → Ordering
group_cmp a b = nat_cmp (group_number a) (group_number b)

-- the order of nexuses: by the bytes of the name, then by the ISID, then by the group
abbrev pub nexus_cmp : Nexus → Nexus → Ordering
nexus_cmp m n = ordering_then (port_cmp m.port n.port) (group_cmp m.group n.group)

-- the nexus of the same port through the other group
abbrev pub other_nexus : Nexus → Nexus
other_nexus n = record { port = n.port; group = other_group n.group }

-- the nexus of a port through a group
abbrev pub through : Port → Group → Nexus
through port group = record { port = port; group = group }
