-- A data word with a quiet id gives no record, and changes the count and "data seen" alone.
-- Assumes nothing.
use Prim.Native.Nat.{ℕ, ◌+◌, ◌/◌, ◌<◌}
use mathlib.Core.Path.{◌≡◌, refl, sym, ap, ◌∙◌}
use mathlib.Core.Bool.{Bool, true, false, not, ◌&&◌, ◌||◌, and-false, true≢false}
use mathlib.Core.List.{List, []}
use borrow.Author.Tests.{ne_eqb, le-ltb}
use lib.Dec.{ltb, eqb}
use lib.ListN.{length}
use Rattle.words.specs.declared.Word.{Word}
use Rattle.words.specs.Word.{word_of, id_of}
use Rattle.words.specs.Lanes.{is_lane_active, lane_answer, is_active}
use Rattle.words.proofs.Bits.{bits_below}
use Rattle.words.proofs.Tests.{both}
use Rattle.data_ids.specs.DataIds.{is_data_id, inner_lane, outer_lane, input_number, is_inner, lane_of}
use Rattle.data_ids.proofs.Table.{same_at_ids}
use Rattle.packet.specs.declared.Settings.{Settings}
use Rattle.packet.specs.Packet.{max_words}
use Rattle.payload_fsm.specs.declared.State.{State}
use Rattle.payload_fsm.specs.declared.ItsPayloadWord.TheVariants as K
use Rattle.payload_fsm.specs.declared.Advanced.{Advanced}
use Rattle.payload_fsm.specs.Step.{among_data, taken, advance_of}
use Rattle.payload_fsm.proofs.States.{in_data_lem}
use Rattle.records.specs.Records.{any_on, silent}
use Rattle.stored.specs.declared.StoredCdw.{StoredCdw}
use Rattle.stored.specs.Stored.{first_cdw, frame_told, lanes_told}
use Rattle.stored.specs.declared.FrameTold.TheVariants as F
use Rattle.validators.specs.DataWords.{data_rows}
use Rattle.validators.proofs.Lanes.{data_lane}
use Rattle.cdp_running.specs.declared.Tracker.{Tracker}
use Rattle.cdp_running.specs.Next.{next_tracker}
use Rattle.cdp_running.specs.Word.{Outcome, taken as taken_word, taken_as, position_now, rows_of, word_call}
use Rattle.payload.proofs.Run.{silent_call}
use Rattle.payload.specs.Quiet.{quiet_id, checked_lanes}

-- Of the three rows on lanes and inputs, a data id leaves the one on its own lane.
one_lane : (bad : Bool → ℕ → Bool) (id : ℕ) → id < 256
    → (is_data_id id && ((eqb (id / 32) 1 && bad true (inner_lane id))
    || ((eqb (id / 32) 2 && bad false (outer_lane id)) || ((eqb (id / 32) 2 && ltb 6 (input_number id)) || false))))
    ≡ (is_data_id id && (bad (is_inner id) (lane_of id) || false))
one_lane bad = same_at_ids _ _ refl

-- A quiet id is a data id, and its lane is active.
quiet_is : (lanes id : ℕ) → quiet_id lanes id ≡ true → (is_data_id id ≡ true) × (is_lane_active (lane_of id) lanes ≡ true)
quiet_is lanes id = both (is_data_id id) (is_lane_active (lane_of id) lanes)

-- An id that is no data id is not that of a data word.
other : (id k : ℕ) → is_data_id id ≡ true → is_data_id k ≡ false → eqb id k ≡ false
other id k d e = ne_eqb id k (λ q. true≢false (sym d ∙ ap is_data_id q ∙ e))

module _ (w : Word) (data_id : is_data_id (id_of w) ≡ true) where
  pub as_data : (state : State) → among_data state ≡ true → advance_of state w ≡ taken K.DataWord state
  as_data state e =
      in_data_lem state w e ∙ simp (other (id_of w) 0xF0 data_id refl, other (id_of w) 0xF8 data_id refl, data_id)

  no_cdw : (seen : Bool) → first_cdw seen w ≡ false
  no_cdw seen = rw (other (id_of w) 0xF8 data_id refl) (and-false (not seen))

-- A quiet data word gives no record: its id leaves the row on its own lane, which there is, and which is active.
pub rows_silent : (s : Settings) (seen : Bool) (lanes : ℕ) (stored : StoredCdw) (w : Word)
    → quiet_id (checked_lanes s.running lanes) (id_of w) ≡ true
    → silent (data_rows s seen lanes stored false w) ≡ true
unfolding any_on
rows_silent s seen lanes stored w q = at s.running refl
  where
    is_data : is_data_id (id_of w) ≡ true
    is_data = (quiet_is _ (id_of w) q).0

    at : (running : Bool) → s.running ≡ running → silent (data_rows s seen lanes stored false w) ≡ true
    at false e = simp (e, no_cdw w is_data seen, is_data)
    at true e =
        let lane = (quiet_is lanes (id_of w) (simp e at q)).1 in
        let bound = bits_below 79 72 w in
        let there = le-ltb _ _ (data_lane (id_of w) bound is_data) in
        let rows = simp (is_data, lane, there) at (one_lane (λ inner n. not (is_active (lane_answer inner n lanes)))
        (id_of w) bound) in
        simp (e, no_cdw w is_data seen, is_data) (ap not rows)

-- The tracker after n such words.
abbrev pub quiet_next : Tracker → ℕ → Tracker
quiet_next t n =
    record {
      settings = t.settings;
      accepted = t.accepted;
      packets = t.packets;
      packet = t.packet;
      at = record { fsm = t.at.fsm; count = t.at.count + n; seen = true };
      stored = t.stored;
      frame = t.frame;
    }

module _ (t : Tracker) (w : Word) (among : among_data t.at.fsm.state ≡ true)
    (q : quiet_id (checked_lanes t.settings.running t.stored.ihw.lanes) (id_of w) ≡ true) where
  is_data : is_data_id (id_of w) ≡ true
  is_data = (quiet_is _ (id_of w) q).0

  pub quiet_silent : silent (rows_of t (taken_as t w) w) ≡ true
  quiet_silent =
      rw (as_data w is_data t.at.fsm.state among)
      (rows_silent t.settings t.at.seen t.stored.ihw.lanes t.stored.cdw w q)

  pub quiet_next_lem : next_tracker t (taken_as t w) w ≡ quiet_next t 1
  quiet_next_lem = simp (as_data w is_data t.at.fsm.state among, no_cdw w is_data t.at.seen)

-- The word call on it.
module _ (t : Tracker) (bytes : List ℕ) (ten : length bytes ≡ 10) (have : t.accepted ≡ true)
    (low : t.at.count < max_words) (among : among_data t.at.fsm.state ≡ true)
    (q : quiet_id (checked_lanes t.settings.running t.stored.ihw.lanes) (id_of (word_of bytes)) ≡ true) where
  abbrev by : Tracker → Advanced → Outcome
  by next a =
      taken_word
      (record {
        next = next;
        records = [];
        kind = a.word;
        guessed = a.guessed;
        frame = frame_told t.settings.frames a.word (word_of bytes) (position_now t) t.frame;
        lanes = lanes_told a.word (word_of bytes);
      })

  pub quiet_call : (places : ℕ) → word_call t bytes places
      ≡ taken_word (record { next = quiet_next t 1; records = []; kind = K.DataWord; guessed = false; frame = F.Nothing; lanes = 0 })
  quiet_call places =
      let w = word_of bytes in
      let a = taken_as t w in
      silent_call t bytes ten have low (quiet_silent t w among q) places
      ∙ (λ i. by (quiet_next_lem t w among q i) a)
      ∙ ap (by (quiet_next t 1)) (as_data w (quiet_is _ (id_of w) q).0 t.at.fsm.state among)
