use Rattle.std.proofs.Common.{◌≡◌, ◌<◌, ◌+◌, ◌-◌, ◌∙◌, sym, ap, arith, refl, List, ℕ, get_or, slice_index, length, take, drop}
use Rattle.scsi_types.specs.Nexus.{Nexus}
use Rattle.byteorder.specs.Endian.{big_number}
use Rattle.aptpl_format.specs.declared.entry.Entry.{Entry}
use Rattle.aptpl_format.specs.Format.{group_code}
use Rattle.aptpl_format.proofs.Spelled.{key_read, code_read, length_read, isid_fits, isid_read_whole, name_long, name_read_whole}
use Rattle.aptpl_format.proofs.Taken.{read_is}
use Rattle.aptpl_format.proofs.parsing.entry_in.Goals as goal

pub returns-in_default-clause-none : goal.returns-in_default-clause-none
returns-in_default-clause-none c = λ e of is.
    c.in_default.ensures.none e.registrant.nexus.group e.both (ap (λ (b : List ℕ). slice_index b 9) is ∙ code_read e)

pub returns-then-long-eq0-clause-none : goal.returns-then-long-eq0-clause-none
returns-then-long-eq0-clause-none c = λ e of is.
    let long : slice_index c.args.entry.now 16 ≡ length e.registrant.nexus.port.name =
    ap (λ (b : List ℕ). slice_index b 16) is ∙ length_read e in
    omega (arith, long, of.listed.port.some, c.from-long.ensures, c.if-long-eq0.true)

pub returns-then-long-gt-LONGEST_NAME-clause-none : goal.returns-then-long-gt-LONGEST_NAME-clause-none
returns-then-long-gt-LONGEST_NAME-clause-none c = λ e of is.
    let long : slice_index c.args.entry.now 16 ≡ length e.registrant.nexus.port.name =
    ap (λ (b : List ℕ). slice_index b 16) is ∙ length_read e in
    omega (arith, long, of.listed.port.short, c.from-long.ensures, c.if-long-gt-LONGEST_NAME.true)

pub returns-then-key-eq0-clause-none : goal.returns-then-key-eq0-clause-none
returns-then-key-eq0-clause-none c = λ e of is.
    let key : big_number 8 c.args.entry.now ≡ e.registrant.key = ap (big_number 8) is ∙ key_read e of.listed in
    let zero : e.registrant.key ≡ 0 = sym key ∙ sym c.read_u64-key.ensures ∙ c.if-key-eq0.true in
    let k = rw zero at of.keyed in
    absurd (cc)

pub named-nexus-requires : goal.named-nexus-requires
named-nexus-requires c =
    let name : List ℕ = take (17 + c.from-long.result - 17) (drop 17 c.args.entry.now) in
    let long : length name ≡ c.from-long.result =
    name_long c.args.entry.now name c.from-long.result c.requires c.if-long-gt-LONGEST_NAME.false refl in
    let below : (k : ℕ) → get_or c.args.entry.now k 0 < 256 = λ (k : ℕ). let h = c.type_inv.entry k in omega (arith, h) in
    record {
      some = omega (arith, long, c.if-long-eq0.false);
      short = omega (arith, long, c.if-long-gt-LONGEST_NAME.false);
      isid = isid_fits c.args.entry.now c.read_u48-isid.result c.requires below c.read_u48-isid.ensures;
    }

pub returns-clause-only : goal.returns-clause-only
returns-clause-only c = λ e of is.
    let found : Entry = record {
      registrant = record { nexus = c.named-nexus.result; key = c.read_u64-key.result };
      both = c.in-Some.both;
    } in
    read_is found e c.args.entry.now of is
    (λ two. ap (λ (n : Nexus). n.group) c.named-nexus.ensures ∙ c.in-Some.ensures.first two)
    c.read_u64-key.ensures
    (c.in-Some.ensures.some ∙ ap (λ (n : Nexus). group_code n.group c.in-Some.both) (sym c.named-nexus.ensures))
    (ap (λ (n : Nexus). n.port.isid) c.named-nexus.ensures
    ∙ isid_read_whole c.args.entry.now c.read_u48-isid.result c.read_u48-isid.ensures)
    (ap (λ (n : Nexus). n.port.name) c.named-nexus.ensures
    ∙ name_read_whole c.args.entry.now _ c.from-long.result c.from-long.ensures refl)
