-- A marker without its TDT leads among data from every state: three data words do, and so do a TDH and one data word.
-- Assumes nothing.
use Rattle.std.proofs.Common.{refl, List, [], ◌∷◌, inl, inr}
use Rattle.words.specs.declared.Word.{Word}
use Rattle.payload_fsm.specs.declared.State.{State}
use Rattle.payload_fsm.specs.declared.State.TheVariants as S
use Rattle.payload_fsm.specs.Settle.{Marker, three_data, short_frame, state_after}
use Rattle.payload_fsm.proofs.Onward.{onward, data_goes, tdh_goes, AmongData, Closes}

unfoldable pub marker_closes : {words : List Word} → Marker words → Closes words
unfolding state_after
marker_closes (three_data {a = a} {b = b} {c = c} {d = d} da db dc t) =
    record {
      front = a ∷ b ∷ c ∷ [];
      last = d;
      is = refl;
      among =
          λ state.
          rw (data_goes a da state, data_goes b db (onward S.Ihw state), data_goes c dc (onward S.Ihw (onward S.Ihw state)))
          (three_data_among state);
      done = t;
    }
  where
    three_data_among : (state : State) → AmongData (onward S.Ihw (onward S.Ihw (onward S.Ihw state)))
    three_data_among S.Ihw = inl refl
    three_data_among S.Tdh = inl refl
    three_data_among S.Data = inl refl
    three_data_among S.CData = inr refl
    three_data_among S.Three = inl refl
    three_data_among S.CIhw = inr refl
    three_data_among S.CTdh = inr refl
marker_closes (short_frame {h = h} {a = a} {d = d} th da t) =
    record {
      front = h ∷ a ∷ [];
      last = d;
      is = refl;
      among = λ state. rw (tdh_goes h th state, data_goes a da (onward S.Data state)) (short_frame_among state);
      done = t;
    }
  where
    short_frame_among : (state : State) → AmongData (onward S.Ihw (onward S.Data state))
    short_frame_among S.Ihw = inl refl
    short_frame_among S.Tdh = inl refl
    short_frame_among S.Data = inl refl
    short_frame_among S.CData = inr refl
    short_frame_among S.Three = inl refl
    short_frame_among S.CIhw = inr refl
    short_frame_among S.CTdh = inr refl
