use Rattle.std.proofs.Common.{◌≡◌, ℕ, List, [], ◌∷◌, ◌++◌, ◌∙◌, arith, append_assoc}
use Rattle.std.proofs.lemmas.List.{append-nil}
use Rattle.iscsi_pdu.proofs.Cells.{cells-whole}
use Rattle.iscsi_pdu.proofs.pieces.bhs_with.Goals as goal

joined : (f l a w f' l' a' w' : List ℕ) → f ≡ f' → l ≡ l' → a ≡ a' → w ≡ w'
    → f ++ 0 ∷ (l ++ (a ++ (w ++ []))) ≡ f' ++ 0 ∷ [] ++ l' ++ a' ++ w'
joined f l a w f' l' a' w' ef el ea ew = rw (ef, el, ea, ew) (simp (append_assoc, append-nil {A = ℕ}))

pub returns : goal.returns
returns c =
    joined _ _ _ _ _ _ _ _ (c.copy_from_slice-2.ensures.after
    ∙ cells-whole 4 c.args.first (omega arith)) c.write_u24.ensures
    (c.copy_from_slice.ensures.after ∙ cells-whole 8 c.args.at_8 (omega arith)) c.write_u32_into.ensures
