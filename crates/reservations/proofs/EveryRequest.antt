-- What holds of every request.
use Rattle.std.proofs.Common.{◌≡◌, ⊎_elim, ℕ, ◌+◌, ◌%◌, ◌^◌, Bool, true, false, not, ◌&&◌, ◌||◌, nat_eq}
use Rattle.std.proofs.Common.{eq-eqb, if◌then◌else◌, List, [], ◌∷◌, filter, refl, sym, ◌∙◌, ap, subst, Option, Some}
use Rattle.std.proofs.Common.{None, IsFalse}
use Rattle.std.proofs.lemmas.Bool.{cases_Bool}
use Rattle.std.specs.List.{cons_option, filter_map, find}
use Rattle.std.specs.Option.{option_map}
use Rattle.scsi_types.specs.Nexus.{Nexus}
use Rattle.scsi_types.specs.declared.reservation.PrOutAction.{PrOutAction}
use Rattle.scsi_types.specs.declared.reservation.PrOutAction.TheVariants.{Register, Reserve, Release, Clear}
use Rattle.scsi_types.specs.declared.reservation.PrOutAction.TheVariants.{Preempt, PreemptAndAbort}
use Rattle.scsi_types.specs.declared.reservation.PrOutAction.TheVariants.{RegisterAndIgnoreExistingKey}
use Rattle.scsi_types.specs.declared.attention.UnitAttention.{UnitAttention}
use Rattle.scsi_types.specs.declared.attention.UnitAttention.TheVariants.{ReservationsPreempted, RegistrationsPreempted}
use Rattle.reservations.specs.declared.notice.Notice.{Notice}
use Rattle.reservations.specs.declared.notice.Notice.TheVariants.{ToAll, OfPreempted}
use Rattle.registrants.specs.declared.registrant.Registrant.{Registrant}
use Rattle.reservations.specs.declared.request.PrOut.{PrOut}
use Rattle.registrants.specs.Nexus.{other_nexus, same_nexus}
use Rattle.reservations.specs.Notice.{Told, code_for, code_told, telling_of, told_as, told_of}
use Rattle.registrants.specs.Registry.{RegistryValue, counted, is_of_code, is_registered, is_sole_holder, key_of}
use Rattle.reservations.specs.Table.{Conflicting, Done, Effect, IsPreempting, effect_of, is_counted, is_registering, is_too_much}
use Rattle.reservations.specs.Table.{of_end, of_port, registering, registration, shows_key}
use Rattle.reservations.proofs.Actions.{Ends, each_action, preempts_so, registers_so, releases_so, reserves_so, split}
use Rattle.reservations.proofs.Hearing.{told_are}
use Rattle.registrants.proofs.Held.{found_passes, is_it}
use Rattle.registrants.proofs.Order.{same_nexus_alike}

-- ---- the sender

untold_one : (n : Nexus) (x : Registrant) (code : Option UnitAttention) (rest : List Told)
    → same_nexus x.nexus n ≡ false → code_told rest n ≡ None
    → code_told (cons_option (option_map (told_as x.nexus) code) rest) n ≡ None
untold_one n x None rest other none = none
untold_one n x (Some code) rest other none = rw other none

untold_all : (n : Nexus) (notice : Notice) (xs : List Registrant)
    → code_told (filter_map (telling_of n notice) xs) n ≡ None
untold_all n notice [] = refl
untold_all n notice (x ∷ xs) =
    let rest = untold_all n notice xs in
    ⊎_elim (λ (t : same_nexus x.nexus n ≡ true). rw t rest)
    (λ (f : same_nexus x.nexus n ≡ false).
    rw f (untold_one n x (code_for n notice x) (filter_map (telling_of n notice) xs) f rest))
    (cases_Bool (same_nexus x.nexus n))

pub sender_untold : (n : Nexus) (notice : Notice) (xs : List Registrant) → code_told (told_of n notice xs) n ≡ None
sender_untold n notice xs =
    ap (λ (ts : List Told). code_told ts n) (told_are n notice xs) ∙ untold_all n notice xs

abbrev Untold : Nexus → RegistryValue → List Told → Type 0
Untold n new told = code_told told n ≡ None

pub untold : (r : RegistryValue) (n : Nexus) (q : PrOut) (new : RegistryValue) (told : List Told)
    → effect_of r n q ≡ Done new told → code_told told n ≡ None
untold r n q new told is =
    let all = λ (notice : Notice). sender_untold n notice r.registrants in
    subst (Ends (Untold n)) is (each_action (Ends (Untold n)) r n q (record {
      refused = λ asc ascq. tt;
      conflicting = λ other. tt;
      registers = λ a. registers_so (Untold n) r n q (λ notice fits. all notice) (λ notice fits. all notice);
      reserves = λ a shown. reserves_so (Ends (Untold n)) r n q tt refl refl;
      releases = λ a. releases_so (Ends (Untold n)) r n q (λ asc ascq. tt) refl (all (of_end r.reservation));
      clears = λ a. all (ToAll ReservationsPreempted);
      preempts = λ a shown. preempts_so (Ends (Untold n)) r n q (λ asc ascq. tt) tt
          (all (OfPreempted q.sakey (not (is_of_code r.reservation q.kind)))) (λ h. all (ToAll RegistrationsPreempted))
          (λ h. all (OfPreempted q.sakey false));
    }))

-- ---- the generation

counting : (action : PrOutAction) → is_registering action ≡ true → is_counted action ≡ true
counting Register h = refl
counting RegisterAndIgnoreExistingKey h = refl
counting Reserve h = absurd (cc)
counting Release h = absurd (cc)
counting Clear h = absurd (cc)
counting Preempt h = absurd (cc)
counting PreemptAndAbort h = absurd (cc)

counting_preempt : (action : PrOutAction) → IsPreempting action → is_counted action ≡ true
counting_preempt Preempt h = refl
counting_preempt PreemptAndAbort h = refl
counting_preempt Register h = absurd h
counting_preempt RegisterAndIgnoreExistingKey h = absurd h
counting_preempt Reserve h = absurd h
counting_preempt Release h = absurd h
counting_preempt Clear h = absurd h

uncounted : (r : RegistryValue) (n : Nexus) (q : PrOut) → (registration r n q).generation ≡ r.generation
uncounted r n q =
    split (nat_eq q.sakey 0)
    (λ zero. split (is_registered r.registrants n)
    (λ in_it. split (is_sole_holder r.reservation n) (λ h. rw (zero, in_it, h) refl) (λ h. rw (zero, in_it, h) refl))
    (λ out. rw (zero, out) refl))
    (λ some. rw some refl)

abbrev Counts : RegistryValue → PrOut → RegistryValue → List Told → Type 0
Counts r q new told = new.generation ≡ (if is_counted q.action then (r.generation + 1) % 2 ^ 32 else r.generation)

counted_once : (r : RegistryValue) (q : PrOut) (new : RegistryValue) (told : List Told) → is_counted q.action ≡ true
    → new.generation ≡ (r.generation + 1) % 2 ^ 32 → Counts r q new told
counted_once r q new told counts one = rw counts one

pub counts : (r : RegistryValue) (n : Nexus) (q : PrOut) (new : RegistryValue) (told : List Told)
    → effect_of r n q ≡ Done new told → Counts r q new told
counts r n q new told is =
    let next = λ (generation : ℕ). (generation + 1) % 2 ^ 32 in
    let other = registration r n q in
    subst (Ends (Counts r q)) is (each_action (Ends (Counts r q)) r n q (record {
      refused = λ asc ascq. tt;
      conflicting = λ other. tt;
      registers = λ a. registers_so (Counts r q) r n q
          (λ notice fits. counted_once r q (counted other) [] (counting q.action a) (ap next (uncounted r n q)))
          (λ notice fits. counted_once r q (counted (of_port r n q)) [] (counting q.action a)
          (ap next (uncounted other (other_nexus n) q ∙ uncounted r n q)));
      reserves = λ a shown. let c = ap is_counted a in reserves_so (Ends (Counts r q)) r n q tt (rw c refl) (rw c refl);
      releases = λ a. let c = ap is_counted a in
          releases_so (Ends (Counts r q)) r n q (λ asc ascq. tt) (rw c refl) (rw c refl);
      clears = λ a. let c = ap is_counted a in rw c refl;
      preempts = λ a shown. let c = counting_preempt q.action a in
          preempts_so (Ends (Counts r q)) r n q (λ asc ascq. tt) tt (rw c refl) (λ h. rw c refl) (λ h. rw c refl);
    }))

-- ---- a preempted key

-- what is found behind a filter passes it
found_kept : (p q : Registrant → Bool) (xs : List Registrant) (x : Registrant) → find p (filter q xs) ≡ Some x → q x ≡ true
found_kept p q [] x is = absurd (cc)
found_kept p q (y ∷ ys) x is =
    let rest = found_kept p q ys x in
    ⊎_elim
    (λ (k : q y ≡ true).
    let kept = rw k at is in
    ⊎_elim (λ (t : p y ≡ true). let first = rw t at kept in let here : y ≡ x = cc in ap q (sym here) ∙ k)
    (λ (f : p y ≡ false). rest (rw f at kept)) (cases_Bool (p y)))
    (λ (k : q y ≡ false). rest (rw k at is))
    (cases_Bool (q y))

-- the key under which a nexus was found
key_found : (key : ℕ) (p : Registrant → Bool) (xs : List Registrant) (o : Option Registrant) → find p xs ≡ o
    → option_map (λ (x : Registrant). x.key) o ≡ Some key → (x : Registrant) × (find p xs ≡ Some x) × (x.key ≡ key)
key_found key p xs None is k = absurd (cc)
key_found key p xs (Some x) is k = (x, is, let same : x.key ≡ key = cc in same)

left_with : (n m : Nexus) (key : ℕ) (q : Registrant → Bool) (xs : List Registrant)
    → ((x : Registrant) → q x ≡ true → x.key ≡ key → same_nexus x.nexus n ≡ true) → key_of (filter q xs) m ≡ Some key
    → same_nexus m n ≡ true
left_with n m key q xs keeps k =
    let there = key_found key (is_it m) (filter q xs) (find (is_it m) (filter q xs)) refl k in
    let it = found_passes (is_it m) (filter q xs) there.0 there.1 in
    sym (same_nexus_alike there.0.nexus m n it) ∙ keeps there.0 (found_kept (is_it m) q xs there.0 there.1) there.2

keeps_without : (n : Nexus) (key : ℕ) (x : Registrant) → not (nat_eq x.key key) ≡ true → x.key ≡ key
    → same_nexus x.nexus n ≡ true
keeps_without n key x h is = absurd (let e = eq-eqb x.key key is in let f = rw e at h in cc)

keeps_own : (n : Nexus) (key : ℕ) (x : Registrant) → same_nexus x.nexus n || not (nat_eq x.key key) ≡ true → x.key ≡ key
    → same_nexus x.nexus n ≡ true
keeps_own n key x h is =
    ⊎_elim (λ (t : same_nexus x.nexus n ≡ true). t)
    (λ (f : same_nexus x.nexus n ≡ false). keeps_without n key x (rw f at h) is) (cases_Bool (same_nexus x.nexus n))

not_both : (action : PrOutAction) → is_registering action ≡ true → IsPreempting action → ⊥
not_both Register h k = k
not_both Reserve h k = k
not_both Release h k = k
not_both Clear h k = k
not_both RegisterAndIgnoreExistingKey h k = k
not_both Preempt h k = absurd (cc)
not_both PreemptAndAbort h k = absurd (cc)

zero_asked : (a b : Bool) → a && b ≡ true → b ≡ true
zero_asked true b h = h
zero_asked false b h = absurd (cc)

abbrev Gone : Nexus → ℕ → RegistryValue → List Told → Type 0
Gone n key new told = (m : Nexus) → key_of new.registrants m ≡ Some key → same_nexus m n ≡ true

pub key_gone : (r : RegistryValue) (n : Nexus) (q : PrOut) (new : RegistryValue) (told : List Told)
    → IsPreempting q.action → IsFalse (nat_eq q.sakey 0) → effect_of r n q ≡ Done new told → Gone n q.sakey new told
key_gone r n q new told p some is =
    let Q = Gone n q.sakey in
    subst (Ends Q) is (each_action (Ends Q) r n q (record {
      refused = λ asc ascq. tt;
      conflicting = λ other. tt;
      registers = λ a. absurd (not_both q.action a p);
      reserves = λ a shown. absurd (let b = rw a at p in b);
      releases = λ a. absurd (let b = rw a at p in b);
      clears = λ a. absurd (let b = rw a at p in b);
      preempts = λ a shown. preempts_so (Ends Q) r n q (λ asc ascq. tt) tt
          (λ m k. left_with n m q.sakey (λ (x : Registrant). same_nexus x.nexus n || not (nat_eq x.key q.sakey)) r.registrants
          (keeps_own n q.sakey) k)
          (λ h. absurd (let zero = zero_asked _ (nat_eq q.sakey 0) h in cc))
          (λ h m k. left_with n m q.sakey (λ (x : Registrant). not (nat_eq x.key q.sakey)) r.registrants
          (keeps_without n q.sakey) k);
    }))

-- ---- a conflict

registers_without : (r : RegistryValue) (n : Nexus) (q : PrOut) → registering r n q ≡ Conflicting → ⊥
registers_without r n q is =
    split q.all_tg_pt
    (λ all. split (is_too_much q (of_port r n q)) (λ full. absurd (let other = rw (all, full) at is in cc))
    (λ fits. absurd (let other = rw (all, fits) at is in cc)))
    (λ one. split (is_too_much q (registration r n q)) (λ full. absurd (let other = rw (one, full) at is in cc))
    (λ fits. absurd (let other = rw (one, fits) at is in cc)))

abbrev Shown : RegistryValue → Nexus → PrOut → Effect → Type 0
Shown r n q e = e ≡ Conflicting → shows_key q.action (key_of r.registrants n) q.key ≡ false

pub by_the_sender : (r : RegistryValue) (n : Nexus) (q : PrOut) → is_registering q.action ≡ true → Shown r n q (effect_of r n q)
by_the_sender r n q registers =
    each_action (Shown r n q) r n q (record {
      refused = λ asc ascq is. absurd (cc);
      conflicting = λ other is. other;
      registers = λ a is. absurd (registers_without r n q is);
      reserves = λ a shown. absurd (let b = rw a at registers in cc);
      releases = λ a. absurd (let b = rw a at registers in cc);
      clears = λ a. absurd (let b = rw a at registers in cc);
      preempts = λ a shown. absurd (not_both q.action registers a);
    })
