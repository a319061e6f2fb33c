-- The order of nexuses is total, and tells two apart just where they are two.
use Rattle.std.proofs.Common.{◌≡◌, ℕ, Bool, true, nat_eq, ◌&&◌, refl, sym, ◌∙◌, ap, arith}
use Rattle.std.proofs.Math.Bool.{and-false, and-true}
use Rattle.std.proofs.lemmas.Cmp.{nat_cmp_total, nat_list_cmp_total, on_total, then_total, tied_itself}
use Rattle.std.specs.Cmp.{IsTotalOrder}
use Rattle.std.specs.Cmp.Lexicographic.{slice_cmp, lists_ties}
use Rattle.std.specs.Ordering.{is_eq, eq_by_cmp, nat_cmp, ordering_then}
use Rattle.std.specs.declared.cmp.Ordering.{Ordering}
use Rattle.std.specs.declared.cmp.Ordering.TheVariants.{Less, Equal, Greater}
use lib.Pointwise.{pointwise}
use Rattle.scsi_types.specs.Nexus.{Port, Nexus, group_number, port_cmp}
use Rattle.registrants.specs.Nexus.{same_port, same_group, same_nexus, group_cmp, nexus_cmp}

port_total : IsTotalOrder port_cmp
port_total = then_total (on_total (λ (p : Port). p.name) nat_list_cmp_total) (on_total (λ (p : Port). p.isid) nat_cmp_total)

group_total : IsTotalOrder group_cmp
group_total = on_total group_number nat_cmp_total

pub nexus_total : IsTotalOrder nexus_cmp
nexus_total = then_total (on_total (λ (n : Nexus). n.port) port_total) (on_total (λ (n : Nexus). n.group) group_total)

-- ---- the order and the test

both_equal : (a b : Ordering) → is_eq (ordering_then a b) ≡ is_eq b && is_eq a
both_equal Less b = sym (and-false (is_eq b))
both_equal Equal b = sym (and-true (is_eq b))
both_equal Greater b = sym (and-false (is_eq b))

number_tie : (x y : ℕ) → nat_eq x y ≡ eq_by_cmp nat_cmp x y
number_tie x y = grind (arith)

by_tests : (s t : Bool) (a b : Ordering) → s ≡ is_eq a → t ≡ is_eq b → t && s ≡ is_eq (ordering_then a b)
by_tests s t a b h k = rw (h, k) (sym (both_equal a b))

same_port_is : (p q : Port) → same_port p q ≡ is_eq (port_cmp p q)
same_port_is p q =
    by_tests (pointwise nat_eq p.name q.name) (nat_eq p.isid q.isid) (slice_cmp nat_cmp p.name q.name)
    (nat_cmp p.isid q.isid)
    (lists_ties nat_cmp number_tie p.name q.name) (number_tie p.isid q.isid)

pub same_nexus_is : (m n : Nexus) → same_nexus m n ≡ is_eq (nexus_cmp m n)
same_nexus_is m n =
    by_tests (same_port m.port n.port) (same_group m.group n.group) (port_cmp m.port n.port) (group_cmp m.group n.group)
    (same_port_is m.port n.port) (number_tie (group_number m.group) (group_number n.group))

equal_one : (o : Ordering) → is_eq o ≡ true → o ≡ Equal
equal_one Less h = absurd (cc)
equal_one Equal h = refl
equal_one Greater h = absurd (cc)

-- the test does not see which of the two names of a nexus is given
pub same_nexus_alike : (m n o : Nexus) → same_nexus m n ≡ true → same_nexus m o ≡ same_nexus n o
same_nexus_alike m n o h =
    let tie = equal_one (nexus_cmp m n) (sym (same_nexus_is m n) ∙ h) in
    same_nexus_is m o ∙ ap is_eq (nexus_total.congr m n o tie) ∙ sym (same_nexus_is n o)

pub same_nexus_self : (n : Nexus) → same_nexus n n ≡ true
same_nexus_self n = same_nexus_is n n ∙ ap is_eq (tied_itself nexus_total n)
