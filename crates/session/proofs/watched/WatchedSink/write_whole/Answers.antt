use Rattle.std.proofs.Common.{◌≡◌, ℕ, ◌+◌, ◌-◌, ◌++◌, List, Option, length, take, drop, arith, sym, ap, subst, ◌∙◌}
use Rattle.std.proofs.lemmas.List.{take_rest}
use Rattle.std.proofs.Math.Seq.{take-add}
use Rattle.std.proofs.KnownBytes.{Appends-trans, Appends-kept}
use Rattle.std.specs.Io.KnownBytes.{Appends}
use Rattle.session.proofs.watched.WatchedSink.write_whole.Goals.{in-Ok, in-Err+else-ne}
use Rattle.session.proofs.watched.WatchedSink.write_whole.Goals as goal

-- the bytes written so far, and then n bytes of the rest
sent_grows : (old mid new : Option (List ℕ)) (bytes : List ℕ) (sent n total : ℕ) → total ≡ sent + n
    → Appends old mid (take sent bytes) → Appends mid new (take n (take (length bytes - sent) (drop sent bytes)))
    → Appends old new (take total bytes)
sent_grows old mid new bytes sent n total e before more =
    let same : take sent bytes ++ take n (take (length bytes - sent) (drop sent bytes)) ≡ take total bytes =
    ap (λ (x : List ℕ). take sent bytes ++ take n x) (take_rest bytes sent) ∙ sym (take-add sent n bytes)
    ∙ ap (λ (k : ℕ). take k bytes) (sym e) in
    subst (Appends old new) same (Appends-trans _ _ _ _ _ before more)

pub loop-preserved : goal.loop-preserved
loop-preserved g c =
    let before = c.loop.invariant in
    elim c.match-write.branch [
      | in-Ok w ↦ record {
        in_range = omega (arith, w.in-Ok.ensures.bound);
        written = sent_grows _ _ _ c.args.bytes.now c.loop.sent w.in-Ok.n _ w.sent-is before.written w.in-Ok.ensures.bytes;
        count = before.count;
      }
      | in-Err+else-ne w ↦ record {
        in_range = omega arith;
        written =
            subst (λ (k : ℕ). Appends (g.W.Write.contents c.args.self.now.inner) (g.W.Write.contents c.write.new.self)
            (take k c.args.bytes.now)) (sym w.sent-is) (Appends-kept _ _ _ _ before.written w.in-Err.ensures.bytes);
        count = before.count;
      }
    ]
