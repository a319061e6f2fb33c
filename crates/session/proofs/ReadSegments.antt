-- What the Data-In of a read and its response say.
use Rattle.std.proofs.Common.{◌≡◌, ℕ, zero, suc, ◌+◌, ◌-◌, ◌<◌, ◌≤◌, Bool, true, false, List, [], ◌∷◌, ◌++◌, Some, length, take}
use Rattle.std.proofs.Common.{drop, refl, sym, ap, subst, ◌∙◌, arith, length-append, length-take-le, length-drop}
use Rattle.std.proofs.lemmas.{List.take-append-drop, List.drop-drop}
use Rattle.std.proofs.lemmas.Bool.{ltb-true, eqb-true, eq-eqb}
use Rattle.std.proofs.Math.ListN.{drop_of_length-le}
use Rattle.session_rules.specs.Words.{nat_lt, slice_get, AllByRecursion, list_any, CommandHeader, ResponseHeader, DataInHeader}
use Rattle.session_rules.specs.Words.{ScsiResponse}
use Rattle.session_rules.specs.{declared.lengths.Lengths.Lengths, Setting.Setting, Turn.Incoming, Turn.Out, Standing.Standing}
use Rattle.session_rules.specs.{Standing.numbers_at, Tasks.r2ts_of, Tasks.is_response, Response.responses}
use Rattle.session_rules.specs.DataIn.{data_ins, joined_data, left_of_run, segment_size, IsSegment, Tiles}
use Rattle.session_rules.specs.Legal.{status_numbers, IsWindow, HaveWindow, IsOfCommand, HasItsData, HaveTheirData}
use Rattle.session_rules.specs.{Response.sense_part, Transfer.transfer_of, Transfer.sent_data}
use Rattle.session_full_feature.specs.{declared.response.Completion.Completion, Counters.Counters, AnswerPdus.response_for}
use Rattle.session_stream.specs.Pdus.{data_in_at, cons_if, data_ins_from, data_ins_for}
use Rattle.session_stream.proofs.Segments.{at_least, size_some, size_within}
use Rattle.session.proofs.Right.{none_at}

abbrev Segment : Type 0
Segment = DataInHeader × List ℕ

module _ (e : Standing) (tag : ℕ) (l : Lengths) (bytes : List ℕ) (r : ResponseHeader) (sense : List ℕ) where
  abbrev some_of : ℕ → ℕ → ℕ → List Out
  some_of most k offset = data_ins_from (numbers_at 0 e) tag l bytes most k offset

  abbrev last_of : Out
  last_of = record { header = ScsiResponse r; bytes = sense }

  abbrev pub outs_of : ℕ → ℕ → ℕ → List Out
  outs_of most k offset = some_of most k offset ++ last_of ∷ []

  abbrev at : ℕ → ℕ → Out
  at k offset = data_in_at (numbers_at 0 e) tag l k offset bytes

  abbrev size : ℕ → ℕ
  size offset = segment_size l offset (length bytes)

  size_is : (offset : ℕ) → offset < length bytes → length (take (size offset) (drop offset bytes)) ≡ size offset
  size_is offset more =
      length-take-le (size offset) (drop offset bytes)
      (omega (arith, length-drop offset bytes, size_within l offset (length bytes) more))

  -- what holds of none, and with one more in front, holds of all
  module _ (P : ℕ → ℕ → ℕ → List Out → Type 0)
      (none : (most k offset : ℕ) → (length bytes - offset ≤ most → length bytes ≤ offset) → P most k offset [])
      (more : (most k offset : ℕ) (xs : List Out) → offset < length bytes → P most (k + 1) (offset + size offset) xs
      → P (suc most) k offset (at k offset ∷ xs)) where
    by_each : (most k offset : ℕ) → P most k offset (some_of most k offset)
    by_each zero k offset = none 0 k offset (λ h. omega (arith, h))
    by_each (suc most) k offset =
        one (nat_lt offset (length bytes)) refl (by_each most (k + 1) (offset + size offset)) where
          one : (t : Bool) → nat_lt offset (length bytes) ≡ t
              → P most (k + 1) (offset + size offset) (some_of most (k + 1) (offset + size offset))
              → P (suc most) k offset (cons_if t (at k offset) (some_of most (k + 1) (offset + size offset)))
          one true t rest = more most k offset _ (ltb-true offset (length bytes) t) rest
          one false t rest = none (suc most) k offset (λ h. at_least offset (length bytes) t)

  module _ (P : List Out → Type 0) (none : P [])
      (more : (k offset : ℕ) (xs : List Out) → offset < length bytes → P xs → P (at k offset ∷ xs)) where
    of_all : P (some_of (length bytes) 0 0)
    of_all =
        by_each (λ _ _ _ xs. P xs) (λ most k offset _. none) (λ most k offset xs h rest. more k offset xs h rest)
        (length bytes) 0 0

  abbrev outs : List Out
  outs = outs_of (length bytes) 0 0

  -- what the Data-In and the response are together; each has its data: a Data-In some of the bytes, no more than a segment
  pub record OutsFacts : Type 0 where
    pub windows : IsWindow e r.numbers → HaveWindow e outs
    pub statuses : status_numbers outs ≡ r.numbers.stat_sn ∷ []
    pub responses_are : responses outs ≡ (r, sense) ∷ []
    pub front : responses (some_of (length bytes) 0 0) ≡ []
    pub count : length (some_of (length bytes) 0 0) ≡ length (data_ins outs)
    pub kinds : AllByRecursion (λ o. IsOfCommand o.header) outs
    pub r2ts : r2ts_of outs ≡ []
    pub ended : list_any (λ o. is_response o.header) outs ≡ true
    pub carried : (m : Setting) (came : Incoming) → HasItsData m came (ScsiResponse r) sense → HaveTheirData m came outs

  outs_facts : OutsFacts
  outs_facts = record {
    windows = λ w. of_all (λ xs. HaveWindow e (xs ++ last_of ∷ [])) (w, tt)
        (λ _ _ _ _ rest. (record { expects = refl; reaches = refl }, rest));
    statuses = of_all (λ xs. status_numbers (xs ++ last_of ∷ []) ≡ r.numbers.stat_sn ∷ []) refl (λ _ _ _ _ rest. rest);
    responses_are = of_all (λ xs. responses (xs ++ last_of ∷ []) ≡ (r, sense) ∷ []) refl (λ _ _ _ _ rest. rest);
    front = of_all (λ xs. responses xs ≡ []) refl (λ _ _ _ _ rest. rest);
    count = of_all (λ xs. length xs ≡ length (data_ins (xs ++ last_of ∷ []))) refl (λ _ _ _ _ rest. ap suc rest);
    kinds = of_all (λ xs. AllByRecursion (λ o. IsOfCommand o.header) (xs ++ last_of ∷ [])) (tt, tt) (λ _ _ _ _ rest. (tt, rest));
    r2ts = of_all (λ xs. r2ts_of (xs ++ last_of ∷ []) ≡ []) refl (λ _ _ _ _ rest. rest);
    ended = of_all (λ xs. list_any (λ o. is_response o.header) (xs ++ last_of ∷ []) ≡ true) refl (λ _ _ _ _ rest. rest);
    carried = λ m came last. of_all (λ xs. HaveTheirData m came (xs ++ last_of ∷ [])) (last, tt) (λ _ offset _ more rest. (
      (omega (arith, size_is offset more, size_some l offset (length bytes) more), omega (arith, size_is offset more)),
      rest,
    ));
  }

  -- ---- they tile the data

  abbrev the_one : ℕ → ℕ → List Segment
  the_one k offset = data_ins (at k offset ∷ [])

  -- from an offset on, behind so many others, they carry the rest, each what lies at its place
  record TileFrom (first start : ℕ) (segments : List Segment) : Type 0 where
    pub joined : joined_data segments ≡ drop start bytes
    pub each : (k : ℕ) (s : Segment) → slice_get segments k ≡ Some s
        → (offset : ℕ) × (offset < length bytes) × (offset ≡ start + length (joined_data (take k segments)))
        × (the_one (first + k) offset ≡ s ∷ [])

  one_more : (k offset : ℕ) (segments : List Segment) → offset < length bytes
      → TileFrom (k + 1) (offset + size offset) segments → TileFrom k offset (the_one k offset ++ segments)
  one_more k offset segments more rest = record {
    joined = rw (rest.joined, ← drop-drop (size offset) offset bytes)
        (take-append-drop (size offset) (drop offset bytes));
    each = at_place;
  } where
    at_place : (j : ℕ) (s : Segment) → slice_get (the_one k offset ++ segments) j ≡ Some s
        → (o : ℕ) × (o < length bytes) × (o ≡ offset + length (joined_data (take j (the_one k offset ++ segments))))
        × (the_one (k + j) o ≡ s ∷ [])
    at_place zero s f = (
      offset,
      more,
      omega arith,
      ap (λ (n : ℕ). the_one n offset) (let e : k + 0 ≡ k = omega arith in e) ∙ cc f,
    )
    at_place (suc j) s f =
        let i = rest.each j s f in (
          i.0,
          i.1,
          omega (arith, i.2, size_is offset more, length-append (at k offset).bytes (joined_data (take j segments))),
          ap (λ (n : ℕ). the_one n i.0) (let e : k + suc j ≡ k + 1 + j = omega arith in e) ∙ i.3,
        )

  tiled_from : (most k offset : ℕ) → length bytes - offset ≤ most → TileFrom k offset (data_ins (outs_of most k offset))
  tiled_from = by_each (λ most k offset xs. length bytes - offset ≤ most → TileFrom k offset (data_ins (xs ++ last_of ∷ [])))
      (λ most k offset w enough. record {
        joined = sym (drop_of_length-le bytes (w enough));
        each = λ j s f. absurd (none_at j s f);
      })
      (λ most k offset xs more rest enough. one_more k offset (data_ins (xs ++ last_of ∷ [])) more
      (rest (omega (arith, enough, size_some l offset (length bytes) more))))

  pub outs_tiled : (p : CommandHeader) → p.task_tag ≡ tag → Tiles l p (data_ins (outs_of (length bytes) 0 0)) bytes
  outs_tiled p same =
      let whole = tiled_from (length bytes) 0 0 (omega arith) in
      record {
        joined = whole.joined;
        each = λ k h d f. let i = whole.each k (h, d) f in
            let long = size_is i.0 i.1 in
            (subst (AllByRecursion (λ s. IsSegment l p (length bytes) (data_ins (outs_of (length bytes) 0 0)) k s.0 s.1)) i.3 (
              record {
                number = let e : 0 + k ≡ k = omega arith in e;
                place = omega (arith, i.2);
                some = omega (arith, long, size_some l i.0 (length bytes) i.1);
                size = long;
                last = (
                  λ t. long ∙ eqb-true (size i.0) (left_of_run l i.0 (length bytes)) t,
                  λ t. eq-eqb (size i.0) (left_of_run l i.0 (length bytes)) (sym long ∙ t),
                );
                tag = sym same;
                no_transfer = refl;
                no_status = refl;
              },
              tt,
            )).0;
      }

-- so is an answer with this data
pub answer_facts : (m : Counters) (p : CommandHeader) (need : ℕ) (bytes : List ℕ) (completion : Completion)
    → OutsFacts m.standing p.task_tag m.setting.start.lengths (sent_data p bytes)
    (response_for (numbers_at m.stat_sn m.standing) p (transfer_of p need (length bytes))
    (length (data_ins_for (numbers_at 0 m.standing) p.task_tag m.setting.start.lengths (sent_data p bytes))) completion)
    (sense_part completion.sense)
answer_facts m p need bytes completion = outs_facts _ _ _ _ _ _
