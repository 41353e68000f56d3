-- From parts and numbers to what a line says.
-- Assumes nothing.
use Rattle.std.proofs.Common.{ℕ, ◌≡◌, refl, sym, ap, ◌∙◌, Bool, true, false, cond, List, [], length, eqb, Option, None, Some, Ok, Err}
use Rattle.std.proofs.lemmas.Option.{none-some}
use Rattle.refusals.specs.declared.Refusal.TheVariants as R
use Rattle.writer.specs.declared.WordKind.TheVariants as W
use Rattle.script.specs.declared.line.Kind.{Kind as GivenKind}
use Rattle.script.specs.declared.line.Kind.TheVariants as K
use Rattle.script.specs.Tokens.{tokens, FirstPart}
use Rattle.script.specs.Line.{Kind, Nothing, Unreadable, Packet, Word, Told, told, untold, numbers_of, filled, line_with, kind_of, arity_of, line_as}
use Rattle.script.specs.Line.{line_from, line_of, numbers_if, of_kind, kind_if, line_by, line_if}
use Rattle.script.proofs.Tokens.{parts_are}

-- A kind is known by what is answered of it.
if_kind : Option GivenKind → Kind
if_kind None = Unreadable
if_kind (Some k) = of_kind k

kind_known : (kind : Kind) (k : GivenKind) → kind_if kind ≡ Some k → kind ≡ of_kind k
unfolding if_kind
kind_known Nothing k e = absurd (none-some k e)
kind_known Unreadable k e = absurd (none-some k e)
kind_known Packet k e = ap if_kind e
kind_known (Word w) k e = ap if_kind e

-- A name that is none of a kind's makes a line that can't be read: no name makes one that is empty.
abbrev IsName : Kind → Type 0
IsName kind = kind_if kind ≡ None → kind ≡ Unreadable

either : (k : GivenKind) (t : Bool) {other : Kind} → IsName other → IsName (cond t (of_kind k) other)
either K.Packet true is e = absurd (none-some K.Packet (sym e))
either (K.Word w) true is e = absurd (none-some (K.Word w) (sym e))
either k false is e = is e

name_known : (name : List ℕ) → IsName (kind_of name)
name_known name =
    either K.Packet _
    (either (K.Word W.Ihw) _
    (either (K.Word W.Tdh) _
    (either (K.Word W.Tdt) _
    (either (K.Word W.Ddw0) _ (either (K.Word W.Cdw) _ (either (K.Word W.Data) _ {other = Unreadable} (λ e. refl)))))))

pub is_empty : (text : List ℕ) → tokens text ≡ [] → Ok None ≡ line_if (line_of text)
unfolding line_from
is_empty text none = ap (λ (ts : List (List ℕ)). line_if (line_from ts)) (sym none)

-- What a line's first part and its numbers say.
module _ {text name rest : List ℕ} (p : FirstPart text name rest) where
  said : line_of text ≡ line_as (kind_of name) (numbers_of [] (tokens rest))
  unfolding line_from
  said = ap line_from (parts_are p)

  pub no_kind : kind_if (kind_of name) ≡ None → Err R.Line ≡ line_if (line_of text)
  no_kind none =
      sym
      (ap line_if (said ∙ ap (λ (k : Kind). line_as k (numbers_of [] (tokens rest))) (name_known name none))
      ∙ by_count (numbers_of [] (tokens rest)))
    where
      by_count : (t : Told) → line_if (line_as Unreadable t) ≡ Err R.Line
      by_count untold = refl
      by_count (told ns) = by_test (eqb (length ns) 0)
        where
          by_test : (b : Bool) → line_if (cond b (line_with Unreadable ns) (line_with Unreadable [])) ≡ Err R.Line
          by_test true = refl
          by_test false = refl

  module _ (k : GivenKind) (kind : kind_if (kind_of name) ≡ Some k) where
    is_said : line_if (line_of text) ≡ line_if (line_as (of_kind k) (numbers_of [] (tokens rest)))
    is_said = ap line_if (said ∙ ap (λ (x : Kind). line_as x (numbers_of [] (tokens rest))) (kind_known (kind_of name) k kind))

    pub no_numbers : numbers_if (arity_of (of_kind k)) (numbers_of [] (tokens rest)) ≡ None → Err R.Line ≡ line_if (line_of text)
    no_numbers none = sym (is_said ∙ by_told (numbers_of [] (tokens rest)) none)
      where
        by_told : (t : Told) → numbers_if (arity_of (of_kind k)) t ≡ None → line_if (line_as (of_kind k) t) ≡ Err R.Line
        by_told untold e = refl
        by_told (told ns) e = by_test (eqb (length ns) (arity_of (of_kind k))) e
          where
            by_test : (b : Bool) → cond b (Some (filled ns)) None ≡ None
                → line_if (cond b (line_with (of_kind k) ns) (line_with Unreadable [])) ≡ Err R.Line
            by_test true e = absurd (none-some (filled ns) (sym e))
            by_test false e = refl

    pub says_it : (n : List ℕ) → numbers_if (arity_of (of_kind k)) (numbers_of [] (tokens rest)) ≡ Some n
        → Ok (Some (record { kind = k; n = n })) ≡ line_if (line_of text)
    says_it n some = sym (is_said ∙ by_told (numbers_of [] (tokens rest)) some)
      where
        as_kind : (x : GivenKind) (ns : List ℕ) → line_by (of_kind x) ns ≡ Ok (Some (record { kind = x; n = ns }))
        as_kind K.Packet ns = refl
        as_kind (K.Word w) ns = refl

        by_told : (t : Told) → numbers_if (arity_of (of_kind k)) t ≡ Some n → line_if (line_as (of_kind k) t) ≡ Ok (Some (record { kind = k; n = n }))
        by_told untold e = absurd (none-some n e)
        by_told (told ns) e = by_test (eqb (length ns) (arity_of (of_kind k))) e
          where
            by_test : (b : Bool) → cond b (Some (filled ns)) None ≡ Some n
                → line_if (cond b (line_with (of_kind k) ns) (line_with Unreadable [])) ≡ Ok (Some (record { kind = k; n = n }))
            by_test true e = let same : filled ns ≡ n = cc in ap (line_by (of_kind k)) same ∙ as_kind k n
            by_test false e = absurd (none-some n e)
