-- What a Data-Out calls for, from what its parts say.
use Rattle.std.proofs.Common.{◌≡◌, ◌⊎◌, inr, ℕ, ◌+◌, ◌<◌, ◌≤◌, Bool, true, false, List, [], ◌∷◌, ◌++◌, Option, Some, None, length}
use Rattle.std.proofs.Common.{refl, sym, ap, ap₂, subst, ◌∙◌, ◌%◌, arith, length-append, subst₂}
use Rattle.std.proofs.lemmas.Bool.{leb-false, leb-true}
use Rattle.session_rules.specs.Words.{Result, nat_le, IfSome, MatchOption, count_by, find, need_of, Command, CdbFault}
use Rattle.session_rules.specs.Words.{CommandHeader, DataOutHeader, R2tHeader, Initiator, DataOut}
use Rattle.session_full_feature.specs.{declared.actions.CommandData.CommandData, Step.Step, Step.says, Step.says_r2t, Step.call_data}
use Rattle.session_full_feature.specs.Counters.{Counters, after_command, after_collecting}
use Rattle.session_full_feature.specs.Machine.{OnRefusal, OnPdu, OnAccepted, sends_first_r2t, BeginsToWait, Calls, CanTake, OnFed, OnData, fills}
use Rattle.session_full_feature.specs.Machine.{sends_next_r2t, calls_now, r2t_with_for}
use Rattle.session_tasks.specs.declared.collecting.{Collected.Collected, R2tWith.R2tWith}
use Rattle.session_tasks.specs.Slots.{IsAskedBy, NeedIs, IsFinished, StandsAt, fed, waits, r2t_for}
use Rattle.session_tasks.proofs.Places.{stands_one}
use Rattle.session_rules.specs.{Transfer.data_for, Window.wrap, Standing.numbers_for}
use Rattle.session_rules.specs.Tasks.{Collecting, has_tag}
use Rattle.session_rules.specs.Collecting.{Continues, HasToCollect, IsNext, shrinks_window}
use Rattle.session_rules.specs.declared.verdict.Verdict.TheVariants.{Accepted, Ignored, Refused}
use Rattle.session_rules.specs.declared.verdict.TheConstants.{PROTOCOL_ERROR}
use Rattle.session_rules.proofs.Tasks.{count_append}

-- what the one thing that the CDB asks for needs
need_is_of : (p : CommandHeader) (asked : Result Command CdbFault) → IsAskedBy p asked → NeedIs p (need_of asked)
need_is_of p asked k other means = ap need_of (sym (k.only other means))

-- a Data-Out of the command that stands there, where what the session keeps is seen by its parts
module _ {s s₀ : Counters} {at : ℕ} {x : DataOutHeader} {d : List ℕ} (is : s ≡ s₀) (can₀ : CanTake s₀ at x d) where
  abbrev pub can : CanTake s at x d
  can = subst (λ (z : Counters). CanTake z at x d) (sym is) can₀

  abbrev joined : List ℕ
  joined = can.this.bytes ++ d

  abbrev end : ℕ
  end = can.continues.r2t.offset + can.continues.r2t.desired_length

  abbrev holding : Collecting → List Collecting
  holding c = can.stands.front ++ (c ∷ can.stands.back)

  on_data : (k : (asked : Result Command CdbFault) × IsAskedBy can.this.command asked) (a : Step) (s' : Counters)
      → OnFed s can.stands.front can.this can.stands.back k.0 d end a s' → OnData s₀ x d a s'
  on_data k a s' by = subst (λ (z : Counters). OnData z x d a s') is (record {
    front = can.stands.front;
    this = can.this;
    back = can.stands.back;
    whole = can.stands.whole;
    found = can.found;
    continues = can.continues;
    asked = k.0;
    asked_by = k.1;
    by = by;
  })

  -- the commands that wait, where it has what came in its place
  module _ {cs : List Collecting}
      (fed_is : (this : Collecting) (k : StandsAt s.standing.collecting at this) → cs ≡ k.front ++ (fed this d ∷ k.back)) where
    pub cs_is : cs ≡ holding (fed can.this d)
    cs_is = fed_is can.this can.stands

    abbrev pub stands : StandsAt cs at (fed can.this d)
    stands = record { front = can.stands.front; back = can.stands.back; whole = cs_is; place = can.stands.place }

    pub at_within : at < length cs
    at_within = omega (
      arith,
      ap length cs_is,
      length-append can.stands.front (fed can.this d ∷ can.stands.back),
      can.stands.place,
    )

    module _ {f : Collecting} (there : StandsAt cs at f)
        (asked_is : (this : Collecting) → StandsAt s.standing.collecting at this
        → (asked : Result Command CdbFault) × IsAskedBy this.command asked) where
      f_is : f ≡ fed can.this d
      f_is = stands_one cs at f (fed can.this d) there stands

      abbrev k : (asked : Result Command CdbFault) × IsAskedBy can.this.command asked
      k = asked_is can.this can.stands

      -- whether all that the R2T asks for has come
      abbrev IsTold : Bool → Type 0
      IsTold b = IfSome f.outstanding (λ r. b ≡ nat_le (r.offset + r.desired_length) (length f.bytes))

      filled_by : (b : Bool) → IsTold b → b ≡ nat_le end (length joined)
      filled_by b told = rw can.continues.outstanding at (rw f_is at told)

      pub on_filling : (b : Bool) (a : Step) → IsTold b → b ≡ false → a ≡ says [] None → OnData s₀ x d a (after_collecting cs s)
      on_filling b a told unfilled silent =
          on_data k a (after_collecting cs s) (fills (leb-false end (length joined) (sym (filled_by b told) ∙ unfilled))
          (record { step_is = silent; next_is = ap (λ (z : List Collecting). after_collecting z s) cs_is }))

      -- what it needs, and what has come
      module _ {need came : ℕ} (needs : NeedIs f.command need) (came_is : came ≡ length f.bytes) where
        need_is : (asked : Result Command CdbFault) → IsAskedBy can.this.command asked → need ≡ need_of asked
        need_is asked by = subst (λ (c : Collecting). NeedIs c.command need) f_is needs asked by.means

        all_came : came ≡ length joined
        all_came = came_is ∙ ap (λ (c : Collecting). length c.bytes) f_is

        pub on_calling : (r : Collecting) (done : Collected) (bytes : CommandData) (a : Step) (rest : List Collecting)
            → need ≤ came → (r ≡ fed can.this d) × (rest ≡ can.stands.front ++ can.stands.back) → IsFinished r done
            → call_data bytes ≡ done.bytes.items
            → ((gathered : List ℕ) → call_data bytes ≡ data_for done.command (need_of done.asked) gathered
            → Calls done.command done.asked gathered a)
            → OnData s₀ x d a (after_collecting rest s)
        on_calling r done bytes a rest enough removed finished same_bytes calls =
            let command_is : done.command ≡ can.this.command =
            finished.command_is ∙ ap (λ (c : Collecting). c.command) removed.0 in
            let by : IsAskedBy can.this.command done.asked = rw removed.0 at finished.asked_by in
            let data_is : call_data bytes ≡ data_for done.command (need_of done.asked) joined =
            same_bytes ∙ finished.bytes_are ∙ rw (removed.0, command_is) refl in
            on_data (done.asked, by) a (after_collecting rest s) (calls_now
            (omega (arith, enough, need_is done.asked by, all_came))
            (rw command_is at (calls joined data_is))
            (ap (λ (z : List Collecting). after_collecting z s) removed.1))

        module _ (more : came < need) where
          short : length joined < need_of k.0
          short = omega (arith, more, need_is k.0 k.1, all_came)

          pub needs_r2t : (this : Collecting) × StandsAt cs at this
              × ((n : ℕ) × NeedIs this.command n × (length this.bytes < n))
          needs_r2t = (fed can.this d, stands, (need_of k.0, need_is_of can.this.command k.0 k.1, short))

          abbrev with_r2t : R2tHeader → Collecting
          with_r2t next = waits can.this.command joined next (wrap (can.this.r2t_count + 1))

          abbrev next_for : ℕ → R2tWith → R2tHeader
          next_for n sent_with = r2t_for can.this.command n (length joined) can.this.r2t_count sent_with

          abbrev left : List Collecting → ℕ → Counters
          left z t = record s { standing = record (s.standing) { collecting = z; transfer_tag = t } }

          pub on_r2t : (b : Bool) (a : Step) (new : List Collecting) (next : R2tHeader) (sent_with : R2tWith) (waiting tag : ℕ)
              → IsTold b → b ≡ true → waiting ≡ count_by shrinks_window cs → sent_with ≡ r2t_with_for s waiting
              → new ≡ holding (with_r2t next) → ((n : ℕ) → NeedIs can.this.command n → next ≡ next_for n sent_with)
              → can.this.r2t_count < 4294967296 → a ≡ says_r2t next → tag ≡ (s.standing.transfer_tag + 1) % 4294967295
              → OnData s₀ x d a (left new tag)
          on_r2t b a new next sent_with waiting tag told full_of counted with_is new_is r2t_is fits sending tag_is =
              let next_is : next ≡ next_for (need_of k.0) (r2t_with_for s waiting) =
              r2t_is (need_of k.0) (need_is_of can.this.command k.0 k.1) ∙ ap (next_for (need_of k.0)) with_is in
              let full : length joined ≡ end = omega (
                arith,
                leb-true end (length joined) (sym (filled_by b told) ∙ full_of),
                can.continues.place,
                can.continues.within,
                length-append can.this.bytes d,
              ) in
              on_data k a (left new tag) (sends_next_r2t full short next sending (record {
                is_next = subst (λ (q : R2tHeader). IsNext s.setting.start.lengths.burst can.this.command (need_of k.0)
                    (length joined) can.this.r2t_count q) (sym next_is) (record {
                      number = omega (arith, fits);
                      place = refl;
                      size = refl;
                      tag = refl;
                      lun = refl;
                    });
                transfer = ap (λ (q : R2tHeader). q.transfer_tag) next_is;
                numbers = ap (λ (q : R2tHeader). q.numbers) next_is
                    ∙ ap (λ (n : ℕ). numbers_for s.stat_sn s.standing.exp_cmd_sn n) (counted ∙ ap (count_by shrinks_window) cs_is
                    ∙ count_append can.stands.front (fed can.this d ∷ can.stands.back)
                    ∙ sym (count_append can.stands.front (with_r2t next ∷ can.stands.back)));
                next_is = ap₂ left new_is tag_is;
              }))

-- where the command stands that a Data-Out continues
pub can_take : (s : Counters) (at : ℕ) (x : DataOutHeader) (d : List ℕ) (w : List Collecting) → w ≡ s.standing.collecting
    → (found : (this : Collecting) × StandsAt w at this × (find (has_tag x.task_tag) w ≡ Some this))
    → (here : Collecting) → StandsAt w at here
    → Continues here x d → CanTake s at x d
can_take s at x d w e found here stands continues = record {
  this = found.0;
  stands = subst (λ (z : List Collecting). StandsAt z at found.0) e found.1;
  found = subst (λ (z : List Collecting). find (has_tag x.task_tag) z ≡ Some found.0) e found.2;
  continues = subst (λ (c : Collecting). Continues c x d) (stands_one w at here found.0 stands found.1) continues;
}

pub rejected_data : (s s' : Counters) (at : ℕ) (x : DataOutHeader) (d : List ℕ) (w : List Collecting) (a : Step)
    → w ≡ s.standing.collecting
    → (found : (this : Collecting) × StandsAt w at this × (find (has_tag x.task_tag) w ≡ Some this))
    → (here : Collecting) → StandsAt w at here
    → (Continues here x d → ⊥) → OnRefusal s PROTOCOL_ERROR a s' → OnPdu s (Initiator (DataOut x)) d a s'
rejected_data s s' at x d w a e found here stands not_continues on = record {
  verdict = Refused PROTOCOL_ERROR;
  judged = subst (λ (o : Option Collecting). MatchOption o (Refused PROTOCOL_ERROR ≡ Ignored) (λ c. (Continues c x d
      × (Refused PROTOCOL_ERROR ≡ Accepted))
      ⊎ ((Continues c x d → ⊥) × (Refused PROTOCOL_ERROR ≡ Refused PROTOCOL_ERROR))))
      (sym (subst (λ (z : List Collecting). find (has_tag x.task_tag) z ≡ Some found.0) e found.2))
      (inr (
        subst (λ (c : Collecting). Continues c x d → ⊥) (stands_one w at here found.0 stands found.1) not_continues,
        refl,
      ));
  made = on;
}

-- a command begins to wait
pub begins : (s mid s' : Counters) (p : CommandHeader) (asked : Result Command CdbFault) (need : ℕ) (d : List ℕ)
    (next : R2tHeader) (a : Step)
    → IsAskedBy p asked → need ≡ need_of asked → HasToCollect p need (length d) → mid ≡ after_command p s
    → BeginsToWait mid p need d next s' → a ≡ says_r2t next → OnAccepted s p d a s'
begins s mid s' p asked need d next a asked_by need_is collects mid_is k sending = record {
  asked = asked;
  asked_by = asked_by;
  by = sends_first_r2t (subst (λ (n : ℕ). HasToCollect p n (length d)) need_is collects) next sending
      (subst₂ (λ (c : Counters) (n : ℕ). BeginsToWait c p n d next s') mid_is need_is k);
}
