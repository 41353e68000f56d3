-- Either marker leads from every state to the three-way state, no two words lead all states to a common one, and each condition of the short frame is
-- needed.
-- Assumes nothing.
use Rattle.std.proofs.Common.{ℕ, ◌≡◌, refl, sym, ap, ◌∙◌, Bool, true, false, true≢false, List, [], ◌∷◌, ◌++◌, inl, inr, ⊎_elim, eqb, eq-eqb}
use Rattle.words.specs.declared.Word.{Word}
use Rattle.words.specs.Word.{id_of}
use Rattle.words.specs.Tdh.{tdh_id, no_data}
use Rattle.words.specs.Tdt.{tdt_id, packet_done}
use Rattle.words.specs.Ihw.{ihw_id}
use Rattle.words.specs.Ddw.{ddw0_id}
use Rattle.data_ids.specs.DataIds.{is_data_id}
use Rattle.payload_fsm.specs.declared.State.{State}
use Rattle.payload_fsm.specs.declared.State.TheVariants as S
use Rattle.payload_fsm.specs.declared.ItsPayloadWord.TheVariants as K
use Rattle.payload_fsm.specs.Step.{taken, guess, after_tdh, in_data, in_three, advance_of, next_state}
use Rattle.payload_fsm.specs.Settle.{DataClear, TdtDone, TdhClear, Marker, short_frame, state_after}
use Rattle.payload_fsm.proofs.Rows.{choice}
use Rattle.payload_fsm.proofs.Onward.{state_of, stays, data_goes, tdh_goes}
pub use Rattle.payload_fsm.proofs.Onward.{AmongData, Closes}
unfoldable pub use Rattle.payload_fsm.proofs.Marking.{marker_closes}

-- There a TDT with packet done is taken as TDT, and leads to the three-way state.
pub closes : (state : State) (d : Word) → AmongData state → TdtDone d → advance_of state d ≡ taken K.Tdt S.Three
closes state d among t =
    ⊎_elim (λ e. rw e (simp (eq-eqb _ _ t.tdt_id_is, t.done)))
    (λ e. rw e (simp (eq-eqb _ _ t.tdt_id_is, t.done))) among

pub after_append : (state : State) (xs ys : List Word)
    → state_after state (xs ++ ys) ≡ state_after (state_after state xs) ys
unfolding state_after
after_append state [] ys = refl
after_append state (x ∷ xs) ys = after_append (next_state state x) xs ys

close_settles : {words : List Word} → Closes words → (state : State) → state_after state words ≡ S.Three
unfolding state_after
close_settles c state =
    let front = state_after state c.front in
    ap (state_after state) c.is ∙ after_append state c.front (c.last ∷ [])
    ∙ ap state_of (closes front c.last (c.among state) c.done)

-- "bring every state to the three-way state": either marker.
pub marker_settles : (words : List Word) → Marker words → (state : State) → state_after state words ≡ S.Three
marker_settles words m = close_settles (marker_closes m)

-- Any longer frame does so too: among data, words that are no TDT leave the state.
abbrev pub NoTdt : List Word → Type 0
NoTdt [] = Unit
NoTdt (w ∷ ws) = (eqb (id_of w) tdt_id ≡ false) × NoTdt ws

among_stays : (ws : List Word) → NoTdt ws → (state : State) → AmongData state → AmongData (state_after state ws)
unfolding state_after
among_stays [] none state among = among
among_stays (w ∷ ws) (no_tdt, rest) state (inl e) =
    among_stays ws rest (next_state state w) (inl (rw e (stays w no_tdt S.Data)))
among_stays (w ∷ ws) (no_tdt, rest) state (inr e) =
    among_stays ws rest (next_state state w) (inr (rw e (stays w no_tdt S.CData)))

pub longer_frame_settles : (h a : Word) (more : List Word) (d : Word) → TdhClear h → DataClear a → NoTdt more
    → TdtDone d
    → (state : State) → state_after state (h ∷ a ∷ (more ++ (d ∷ []))) ≡ S.Three
unfolding state_after marker_closes
longer_frame_settles h a more d th da no_tdt t =
    let short = marker_closes (short_frame th da t) in
    let among : (state : State) → AmongData (state_after state (h ∷ a ∷ more)) =
    λ state. among_stays more no_tdt _ (short.among state) in
    close_settles (record { front = h ∷ a ∷ more; last = d; is = refl; among = among; done = t })

-- "no two words bring all seven states to any common one": c_IHW_ leads over c_TDH_ to c_DATA_, whatever the two words are, and IHW_ over TDH_ to
-- DATA_ or THREE.
abbrev is_cdata : State → Bool
is_cdata S.Ihw = false
is_cdata S.Tdh = false
is_cdata S.Data = false
is_cdata S.CData = true
is_cdata S.Three = false
is_cdata S.CIhw = false
is_cdata S.CTdh = false

pub no_two_words : (a b : Word) (common : State) → ((state : State) → state_after state (a ∷ b ∷ []) ≡ common) → ⊥
unfolding state_after
no_two_words a b common all =
    let from-c-ihw : S.CData ≡ common = all S.CIhw in
    let from-ihw : after_tdh b ≡ common = all S.Ihw in
    let other : is_cdata (after_tdh b) ≡ false = choice (λ (s : State). is_cdata s ≡ false) (eqb (no_data b) 0) refl refl in
    true≢false (ap is_cdata (from-c-ihw ∙ sym from-ihw) ∙ other)

-- Of the short frame each condition is needed: where one fails and all others hold, three steps lead some state elsewhere.
steps : {x y z : State} (s : State) (a b c : Word) → next_state s a ≡ x → next_state x b ≡ y → next_state y c ≡ z
    → state_after s (a ∷ b ∷ c ∷ []) ≡ z
unfolding state_after
steps s a b c p q r = rw (p, q) r

-- A data word in place of the TDH, so that two data words and a TDT are no marker: in the end the TDT is taken as a TDH.
pub two_are_few : (a b d : Word) → DataClear a → DataClear b → TdtDone d → no_data d ≡ 0
    → state_after S.Three (a ∷ b ∷ d ∷ []) ≡ S.Data
two_are_few a b d da db t clear =
    steps S.Three a b d (data_goes a da S.Three) (data_goes b db S.Ihw) (simp (eq-eqb _ _ clear))

-- A word with bit 13 set that is taken as a TDH.
to_three : (w : Word) → no_data w ≡ 1 → after_tdh w ≡ S.Three
to_three w set = simp (ap (λ (n : ℕ). eqb n 0) set)

-- A TDH with bit 13 set: the three-way state stays, and there the data word is taken as a guessed DDW0.
pub tdh_not_clear : (h a d : Word) → id_of h ≡ tdh_id → no_data h ≡ 1 → DataClear a → TdtDone d
    → state_after S.Three (h ∷ a ∷ d ∷ []) ≡ S.Tdh
tdh_not_clear h a d id set da t =
    let first : in_three h ≡ taken K.TdhAfterPacketDone (after_tdh h) = simp (eq-eqb _ _ id) in
    steps S.Three h a d (ap state_of first ∙ to_three h set) (data_goes a da S.Three) refl

-- A TDT is taken as a guessed DDW0 in the three-way state.
tdt_in_three : (d : Word) → id_of d ≡ tdt_id → in_three d ≡ guess K.Ddw0 S.Ihw
tdt_in_three d id = simp (other tdh_id refl, other ddw0_id refl, other ihw_id refl)
  where
    other : (n : ℕ) → eqb tdt_id n ≡ false → eqb (id_of d) n ≡ false
    other n e = ap (λ (x : ℕ). eqb x n) id ∙ e

-- A TDT in place of the data word: it leads to the three-way state, and the TDT after it onward.
pub no_data_word : (h a d : Word) → TdhClear h → TdtDone a → no_data a ≡ 0 → TdtDone d
    → state_after S.Data (h ∷ a ∷ d ∷ []) ≡ S.Ihw
no_data_word h a d th ta clear t =
    steps S.Data h a d (tdh_goes h th S.Data) (ap state_of (closes S.Data a (inl refl) ta))
    (ap state_of (tdt_in_three d t.tdt_id_is))

-- A data word with bit 13 set: taken as a TDH it leads to the three-way state, and the TDT after it onward.
pub data_not_clear : (h a d : Word) → TdhClear h → is_data_id (id_of a) ≡ true → no_data a ≡ 1 → TdtDone d
    → state_after S.Ihw (h ∷ a ∷ d ∷ []) ≡ S.Ihw
data_not_clear h a d th id set t = steps S.Ihw h a d refl (to_three a set) (ap state_of (tdt_in_three d t.tdt_id_is))

-- A data word in place of the TDT.
pub no_tdt : (h a d : Word) → TdhClear h → DataClear a → DataClear d → packet_done d ≡ true
    → state_after S.Ihw (h ∷ a ∷ d ∷ []) ≡ S.Data
no_tdt h a d th da dd done = steps S.Ihw h a d refl (data_goes a da S.Tdh) (data_goes d dd S.Data)

-- A TDT without packet done.
pub tdt_not_done : (h a d : Word) → TdhClear h → DataClear a → id_of d ≡ tdt_id → packet_done d ≡ false
    → state_after S.Ihw (h ∷ a ∷ d ∷ []) ≡ S.CIhw
tdt_not_done h a d th da id not_done =
    let split : in_data S.Data d ≡ taken K.Tdt S.CIhw = simp (eq-eqb _ _ id, not_done) in
    steps S.Ihw h a d refl (data_goes a da S.Tdh) (ap state_of split)
