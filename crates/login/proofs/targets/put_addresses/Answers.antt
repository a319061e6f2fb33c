use Rattle.std.proofs.Common.{◌≡◌, ℕ, ◌+◌, ◌<◌, List, ◌++◌, length, get_or, drop, sym, ap, ◌∙◌, append_assoc, drop-cons, add-one}
use Rattle.std.specs.declared.net.SocketAddrV4.{SocketAddrV4}
use Rattle.login.specs.Targets.{addresses, address_text}
use Rattle.login.proofs.targets.put_addresses.Goals as goal

more : (tag : ℕ) (portals : List SocketAddrV4) (i : ℕ) (d : SocketAddrV4) → i < length portals
    → addresses tag (drop i portals) ≡ address_text tag (get_or portals i d) ++ addresses tag (drop (i + 1) portals)
more tag portals i d lt =
    ap (addresses tag) (drop-cons portals i d lt) ∙ ap
    (λ (k : ℕ). address_text tag (get_or portals i d) ++ addresses tag (drop k portals)) (sym (add-one i))

step : (tag : ℕ) (portals : List SocketAddrV4) (i : ℕ) (d : SocketAddrV4) (out new all : List ℕ) → i < length portals
    → new ≡ out ++ address_text tag (get_or portals i d)
    → out ++ addresses tag (drop i portals) ≡ all → new ++ addresses tag (drop (i + 1) portals) ≡ all
step tag portals i d out new all lt put so_far =
    let text : List ℕ = address_text tag (get_or portals i d) in
    let rest : List ℕ = addresses tag (drop (i + 1) portals) in
    ap (λ (x : List ℕ). x ++ rest) put ∙ append_assoc out text rest
    ∙ ap (λ (x : List ℕ). out ++ x) (sym (more tag portals i d lt)) ∙ so_far

pub loop-portal-preserved : goal.loop-portal-preserved
loop-portal-preserved c = step _ _ _ _ _ _ _ c.loop-portal-test.true c.in_ok-put_address.ensures c.loop-portal.invariant
