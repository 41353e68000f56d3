-- A text in pieces is the whole text; and one piece more.
-- Assumes nothing.
use Prim.Native.Nat.{ℕ}
use mathlib.Core.Path.{◌≡◌, refl, sym, ap, ◌∙◌}
use mathlib.Core.List.{List, [], ◌∷◌, ◌++◌, append_assoc, append-nil}
use Rattle.script.specs.Feeding.{State, fed_byte, fed, fed_all, whole}

fed_append : (s : State) (a b : List ℕ) → fed s (a ++ b) ≡ fed (fed s a) b
unfolding fed
fed_append s [] b = refl
fed_append s (x ∷ a) b = fed_append (fed_byte s x) a b

pub fed_whole : (s : State) (pieces : List (List ℕ)) → fed_all s pieces ≡ fed s (whole pieces)
unfolding fed_all whole fed
fed_whole s [] = refl
fed_whole s (p ∷ ps) = fed_whole (fed s p) ps ∙ sym (fed_append s p (whole ps))

pub fed_last : (s : State) (pieces : List (List ℕ)) (piece : List ℕ) → fed_all s (pieces ++ (piece ∷ [])) ≡ fed (fed_all s pieces) piece
unfolding fed_all
fed_last s [] piece = refl
fed_last s (p ∷ ps) piece = fed_last (fed s p) ps piece

pub whole_last : (pieces : List (List ℕ)) (piece : List ℕ) → whole (pieces ++ (piece ∷ [])) ≡ whole pieces ++ piece
unfolding whole
whole_last [] piece = append-nil piece
whole_last (p ∷ ps) piece = ap (λ (l : List ℕ). p ++ l) (whole_last ps piece) ∙ sym (append_assoc p (whole ps) piece)
