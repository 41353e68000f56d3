-- 01, "Records": what is stored at a word, the parts of the tracker together. Each by itself: `stored/specs/Stored.antt`.
-- Assumes nothing.
use Rattle.std.specs.Prelude.{◌+◌}
use Rattle.words.specs.declared.Word.{Word}
use Rattle.packet.specs.Packet.{position_of}
use Rattle.payload_fsm.specs.declared.Advanced.{Advanced}
use Rattle.stored.specs.Stored.{next_stored, next_seen, next_frame}
use Rattle.cdp_running.specs.declared.At.{At}
use Rattle.cdp_running.specs.declared.Tracker.{Tracker}

-- Where the tracker is after a word: in the state that the word led to, one word further.
abbrev pub next_at : Advanced → At → At
next_at a old = record { fsm = a.fsm; count = old.count + 1; seen = next_seen a.word old.seen }

-- The tracker after a word that was taken as `a` says.
abbrev pub next_tracker : Tracker → Advanced → Word → Tracker
next_tracker t a w =
    record {
      settings = t.settings;
      accepted = t.accepted;
      packets = t.packets;
      packet = t.packet;
      at = next_at a t.at;
      stored = next_stored a.word t.at.seen w t.stored;
      frame = next_frame t.settings.frames a.word w (position_of t.packet t.at.count) t.frame;
    }
