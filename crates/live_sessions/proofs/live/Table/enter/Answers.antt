use Rattle.std.proofs.Common.{◌≡◌, ◌+◌, ◌∷◌, ◌++◌, [], List, refl, ap, ◌∙◌, subst}
use Rattle.registrants.specs.Nexus.{through}
use Rattle.live_sessions.specs.Handles.{IsNextTsih}
use Rattle.live_sessions.specs.Live.{TableValue, HasEntered, handle_of, others}
use Rattle.live_sessions.specs.declared.live.LiveSession.{LiveSession}
use Rattle.live_sessions.proofs.live.Table.enter.Goals as goal

-- a session with the next number and the next TSIH stands in place of the older one
entered : {C : Type 0} (now old : TableValue C) (before live : List (LiveSession C)) (session : LiveSession C) → now ≡ old
    → before ≡ now.live
    → IsNextTsih handle_of now.last now.live session.tsih → session.number ≡ now.begun
    → live ≡ others (through session.begun.port session.begun.group) session.begun.kind before ++ session ∷ []
    → HasEntered old (record { live = live; last = session.tsih; begun = now.begun + 1 }) session
entered now old before live session is same next number lives =
    subst (λ t. HasEntered t (record { live = live; last = session.tsih; begun = now.begun + 1 }) session) is (record {
      next = next;
      number = number;
      table = ap (λ l. record { live = l; last = session.tsih; begun = now.begun + 1 })
          (lives ∙ ap (λ l. others (through session.begun.port session.begun.group) session.begun.kind l ++ session ∷ []) same);
    })

pub returns-clause-entered : goal.returns-clause-entered
returns-clause-entered g c =
    entered _ c.args.self.now _ c.replace.new.live.items _ c.self.view_is c.reserve.ensures.items
    (subst (λ l. IsNextTsih handle_of c.self.inside.last l c.in-Some.tsih) c.deref.ensures.value c.in-Some.ensures) refl
    c.replace.ensures
