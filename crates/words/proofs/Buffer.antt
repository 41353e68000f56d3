-- Laws of buffers: what is written over what, and a tail that was lent on.
-- Assumes nothing.
use Rattle.std.proofs.Common.{ℕ, ◌-◌, ◌≤◌, ◌≡◌, ap, ◌∙◌, List, ◌++◌, append_assoc, append-nil, le_of_eq, arith, length, take, drop, length-append}
use Rattle.std.proofs.Common.{length-drop, drop_of_length-le, take_all, drop-drop}
use borrow.Rule.Slice.PartMut.{put_mid, mid_of}
use lib.Seq.{take-append_seam, drop-append_seam}
use Rattle.words.specs.Lists.{over}

-- The part `&s[a..]` of a list, and the whole with another tail in its place.
pub mid_tail : (a : ℕ) (d : List ℕ) → mid_of a (length d - a) d ≡ drop a d
mid_tail a d = take_all (length d - a) (drop a d) (le_of_eq (length-drop a d))

pub tail_back : (a : ℕ) (d y : List ℕ) → put_mid a (length d - a) d y ≡ take a d ++ y
tail_back a d y =
    ap (λ (l : List ℕ). take a d ++ (y ++ l)) (drop_of_length-le (drop a d) (le_of_eq (length-drop a d)))
    ∙ ap (λ (l : List ℕ). take a d ++ l) (append-nil y)

-- Written twice, the second behind the first, is written once.
pub over_over : (xs zs d : List ℕ) → take (length xs) (over xs d) ++ over zs (drop (length xs) (over xs d))
    ≡ over (xs ++ zs) d
over_over xs zs d = simp (take-append_seam, drop-append_seam, drop-drop, length-append, append_assoc)

-- A tail that was lent on and written, of a buffer that was written before it.
pub lent_on : (a : ℕ) (xs zs d e y : List ℕ) → a ≡ length xs → e ≡ over xs d → y ≡ over zs (mid_of a (length e - a) e)
    → put_mid a (length e - a) e y ≡ over (xs ++ zs) d
lent_on a xs zs d e y p q r =
    tail_back a e y
    ∙ ap (λ (l : List ℕ). take a e ++ l) (r ∙ ap (over zs) (mid_tail a e))
    ∙ ap (λ (n : ℕ). take n e ++ over zs (drop n e)) p
    ∙ ap (λ (l : List ℕ). take (length xs) l ++ over zs (drop (length xs) l)) q
    ∙ over_over xs zs d

-- What was written fits where the buffer kept its length.
pub over_fits : (xs d : List ℕ) → length (over xs d) ≡ length d → length xs ≤ length d
over_fits xs d e = let h = simp (length-append, length-drop) at e in omega arith

pub length_over : (xs d : List ℕ) → length xs ≤ length d → length (over xs d) ≡ length d
length_over xs d h = simp (length-append, length-drop) (omega arith)
