-- Of the Rust's event table: no event leads to DDW0_ or to DDW0_or_TDH_, and each step of ours is one of its events.
-- Assumes nothing.
use Rattle.std.proofs.Common.{ℕ, zero, suc, ◌<◌, ◌≡◌, refl, sym, subst, Bool, true, false}
use Rattle.std.proofs.Common.{◌&&◌, List, [], ◌∷◌, ⊎_elim, le_of_suc-le-suc, not-suc-le-zero, T, eqb, lit<, length, get_or}
use mathlib.Core.List.Memᴰ
use mathlib.Core.List.{Memᴰ}
use Rattle.words.specs.declared.Word.{Word}
use Rattle.words.specs.Tdh.{no_data}
use Rattle.payload_fsm.specs.declared.State.{State}
use Rattle.payload_fsm.specs.declared.State.TheVariants as S
use Rattle.payload_fsm.specs.declared.Advanced.{Advanced}
use Rattle.payload_fsm.specs.Step.{next_state}
use Rattle.payload_fsm.specs.Rust.{Nine, ihw, tdh, dat, c_dat, three, c_ihw, c_tdh, ddw0, ddw0_or_tdh, Event, Arrow, on, arrows, nine}
use Rattle.payload_fsm.proofs.Rows.{choice, data_rows_lem, three_rows}

-- Neither DDW0_ nor DDW0_or_TDH_.
abbrev reached : Nine → Bool
reached ihw = true
reached tdh = true
reached dat = true
reached c_dat = true
reached three = true
reached c_ihw = true
reached c_tdh = true
reached ddw0 = false
reached ddw0_or_tdh = false

-- A test that each arrow of a list passes, and that then any of them does.
abbrev every : (Arrow → Bool) → List Arrow → Bool
every test [] = true
every test (x ∷ xs) = test x && every test xs

left : (a b : Bool) → T (a && b) → T a
left true b t = tt
left false b t = t

right : (a b : Bool) → T (a && b) → T b
right true b t = t
right false b t = absurd t

each : (test : Arrow → Bool) (l : List Arrow) → T (every test l) → (a : Arrow) → Memᴰ a l → T (test a)
each test [] t a m = absurd (Memᴰ.not-nil m)
each test (x ∷ xs) t a m =
    ⊎_elim (λ e. subst (λ (y : Arrow). T (test y)) (sym e) (left (test x) (every test xs) t))
    (λ m'. each test xs (right (test x) (every test xs) t) a m')
    (Memᴰ.cases_cons m)

ends : (a : Arrow) → Memᴰ a arrows → T (reached a.target)
ends = each (λ a. reached a.target) arrows tt

-- "`DDW0_` and `DDW0_or_TDH_` are the target of no event."
pub unreached : (a : Arrow) → Memᴰ a arrows → (a.target ≡ ddw0 → ⊥) × (a.target ≡ ddw0_or_tdh → ⊥)
unreached a m =
    (λ e. subst (λ (n : Nine). T (reached n)) e (ends a m), λ e. subst (λ (n : Nine). T (reached n)) e (ends a m))

-- A step from a state to a state is an event of the table.
pub record Follows (state to : State) : Type 0 where
  pub event : Event
  pub listed : Memᴰ (on event (nine state) (nine to)) arrows

-- The arrow at a place of the table.
at : (l : List Arrow) (n : ℕ) (d : Arrow) → n < length l → Memᴰ (get_or l n d) l
at [] n d h = absurd (not-suc-le-zero h)
at (x ∷ xs) zero d h = Memᴰ.head refl
at (x ∷ xs) (suc n) d h = Memᴰ.tail (at xs n d (le_of_suc-le-suc h))

line : (n : ℕ) → n < 19 → Memᴰ (get_or arrows n (on Rattle.payload_fsm.specs.Rust.next ihw ihw)) arrows
line n h = at arrows n _ h

abbrev To : State → Advanced → Type 0
To state a = Follows state a.fsm.state

pub follows : (state : State) (w : Word) → Follows state (next_state state w)
follows S.Ihw w = record { event = _; listed = line 17 (lit< tt) }
follows S.Tdh w =
    choice (Follows S.Tdh) (eqb (no_data w) 0) (record { event = _; listed = line 5 (lit< tt) })
    (record { event = _; listed = line 2 (lit< tt) })
follows S.Data w =
    data_rows_lem (To S.Data) w S.Data (record { event = _; listed = line 15 (lit< tt) })
    (record { event = _; listed = line 13 (lit< tt) })
    (record { event = _; listed = line 11 (lit< tt) })
    (record { event = _; listed = line 11 (lit< tt) })
    (record { event = _; listed = line 11 (lit< tt) })
follows S.CData w =
    data_rows_lem (To S.CData) w S.CData (record { event = _; listed = line 16 (lit< tt) })
    (record { event = _; listed = line 14 (lit< tt) })
    (record { event = _; listed = line 12 (lit< tt) })
    (record { event = _; listed = line 12 (lit< tt) })
    (record { event = _; listed = line 12 (lit< tt) })
follows S.Three w =
    three_rows (To S.Three) w
    (choice (Follows S.Three) (eqb (no_data w) 0) (record { event = _; listed = line 7 (lit< tt) })
    (record { event = _; listed = line 4 (lit< tt) }))
    (record { event = _; listed = line 10 (lit< tt) })
    (record { event = _; listed = line 18 (lit< tt) })
    (record { event = _; listed = line 10 (lit< tt) })
follows S.CIhw w = record { event = _; listed = line 0 (lit< tt) }
follows S.CTdh w = record { event = _; listed = line 1 (lit< tt) }
