-- A server goes on representing a state as its connections change.
use Rattle.std.proofs.Common.{ℕ, List, sym, ap, subst}
use Rattle.dots_settings.specs.Settings.{SettingsValue}
use Rattle.dots_history.specs.declared.entry.Entry.{Entry}
use Rattle.stream_table.specs.declared.place.LinePlace.{LinePlace}
use Rattle.stream_table.specs.Lines.{Line, PeerLines, AreOf, opened, forgotten, buffering}
use Rattle.stream_table.specs.Places.{AreApart, NowBuffers}
use Rattle.stream_table.proofs.Apart.{apart_opened, apart_forgotten}
use Rattle.stream_table.proofs.Clients.{opened_of, forgotten_of, buffering_of}
use Rattle.dots_machine.specs.Machine.{State}
use Rattle.dots_server.specs.ServerValues.{ServerValue, RepresentsWith, RestartsWith, IsServing}
use Rattle.dots_server.proofs.Rows.{apart_buffering}

module _ (becomes : List PeerLines → List PeerLines) (old : ServerValue) where
  abbrev pub with_lines : ServerValue
  with_lines = record old { lines = becomes old.lines }

  abbrev pub lines_become : State → State
  lines_become state = record state { lines = becomes state.lines }

  lines_represent : (settings : SettingsValue) (state : State) (entries : List Entry) → RepresentsWith old settings state entries
      → RepresentsWith with_lines settings (lines_become state) entries
  lines_represent settings state entries represents =
      let of = represents.represents in record {
        represents = record {
          settings_are = of.settings_are;
          is_of = of.is_of;
          registry = of.registry;
          time_is = of.time_is;
          observers = of.observers;
          contacts = of.contacts;
          lines = ap becomes of.lines;
          early = of.early;
          own = of.own;
          bounded = of.bounded;
          limits = of.limits;
        };
        ledger = represents.ledger;
        slots = represents.slots;
      }

  pub lines_restarts : (settings : SettingsValue) (state : State) (entries : List Entry) → RestartsWith old settings state entries
      → RestartsWith with_lines settings (lines_become state) entries
  lines_restarts settings state entries kept = record { represents = lines_represent settings state entries kept.represents; rests = kept.rests }

  lines_live : IsServing old → AreOf old.settings.peers (becomes old.lines) → AreApart (becomes old.lines) → IsServing with_lines
  lines_live serving of apart = record {
    state = lines_become serving.state;
    entries = serving.entries;
    represents = lines_represent old.settings serving.state serving.entries serving.represents;
    notified = serving.notified;
    rows = of;
    apart = apart;
  }

-- ---- what becomes of them

pub opened_lives : (peer conn : ℕ) (old : ServerValue) → IsServing old → IsServing (with_lines (opened peer conn) old)
opened_lives peer conn old serving =
    lines_live (opened peer conn) old serving (opened_of old.settings.peers peer conn old.lines serving.rows) (apart_opened peer conn old.lines serving.apart)

pub forgotten_lives : (conn : ℕ) (old : ServerValue) → IsServing old → IsServing (with_lines (forgotten conn) old)
forgotten_lives conn old serving =
    lines_live (forgotten conn) old serving (forgotten_of old.settings.peers conn old.lines serving.rows) (apart_forgotten conn old.lines serving.apart)

-- other bytes are held at a place
pub held_lives : (place : LinePlace) (becomes : List ℕ → List ℕ) (old : ServerValue) (new : List PeerLines) (line : Line) → NowBuffers place becomes old.lines new line → IsServing old
    → IsServing (record old { lines = new })
held_lives place becomes old new line holds serving =
    subst (λ (lines : List PeerLines). IsServing (record old { lines = lines })) (sym holds.all)
    (lines_live (buffering line.conn becomes) old serving (buffering_of old.settings.peers line.conn becomes old.lines serving.rows) (apart_buffering line.conn becomes old.lines serving.apart))
