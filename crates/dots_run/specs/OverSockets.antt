-- What a run over real sockets and a real journal has done.
use Rattle.std.specs.Prelude.{◌≡◌, ◌⊎◌, ℕ, ◌<◌, ◌≤◌, true, false, List, length, codes, Option, None, IfSome}
use Rattle.dots_edge.specs.Edge.{Edge, IsAsSaid, acts_told}
use Rattle.dots_edge.specs.JournalFile.{room_of}
use Rattle.dots_machine.specs.Endings.{NeverRestarts}
use Rattle.dots_machine.specs.Outside.{Outside}
use Rattle.dots_run.specs.Outcomes.{Outcome}
use Rattle.dots_run.specs.Blocks.{seeing, RunsInBlocks}
use Rattle.dots_run.specs.Onlooking.{SawWhereKnown}
use Rattle.dots_run.specs.FilterFiles.{SawAll, AreNamedIn}
use Rattle.dots_run.specs.FigureFiles.{SawFigures, IsNamedIn}
use Rattle.dots_run.specs.declared.figure_file.FigureFile.{FigureFile}
use Rattle.dots_run.specs.declared.filter_files.NamedFiles.{NamedFiles}

-- how many bytes a host file may have
abbrev pub max_host_file : ℕ
max_host_file = 65536

-- The text of a host file is what its source gives, where that has no more bytes than it may; and in place of one that can't be read, or has more, it
-- is one byte, which is no line of a host file.
abbrev pub IsHostText : Option (List ℕ) → Type 0 → List ℕ → Type 0
IsHostText left unread text =
    IfSome left (λ bytes. (text ≡ bytes) × (length bytes ≤ max_host_file)) ⊎ ((text ≡ codes "?") × (unread ⊎ IfSome left (λ bytes. max_host_file < length bytes)))

-- A host was opened over the text of a host file: it is as that says, or else it has no journal; and no call of it has failed yet.
pub record IsOpenedFrom (left : Option (List ℕ)) (unread : Type 0) (host : Edge) : Type 0 where
  pub text : List ℕ
  pub is_text : IsHostText left unread text
  pub said : host.opened ≡ true → IsAsSaid text host
  pub shut : host.opened ≡ false → host.journaled ≡ false
  pub no_faults : (host.wire ≡ 0) × (host.disk ≡ 0)

-- What stands outside a run over sockets: the host tells its acts, and not what its disk holds.
abbrev pub outside_at : Option (List ℕ) → ℕ → Edge → Option (List ℕ) → ℕ → Outside
outside_at left source_faults host written report_faults = record {
  left = left;
  source_faults = source_faults;
  acts = acts_told host;
  wire_faults = host.wire;
  media = None;
  extent = room_of host.reserve;
  disk_faults = host.disk;
  written = written;
  report_faults = report_faults;
}

-- The host, the files of filters and that of figures are those of the same text.
pub record AreOpenedFrom (left : Option (List ℕ)) (unread : Type 0) (host : Edge) (files : NamedFiles) (figures : Option FigureFile) : Type 0 where
  pub opened : IsOpenedFrom left unread host
  pub named : AreNamedIn opened.text files
  pub figured : IsNamedIn opened.text figures

-- A run of words that are served, with this status, from what stood outside before to what stands there now, and from the host and its files as they
-- were to what they are: what it has done, of the acts as they were seen above, by the ending that its status is of; how the host's acts stand to
-- these; where it didn't come to its host, that was not called; no restart is among them, so they are known; what the status says of the words, of
-- the settings and of what failed; and where events were served, the files had a look at each tick, at a server that represents the state after
-- it, and else none.
pub record RunsOver (words : List (List ℕ)) (status : ℕ) (before now : Outside) (first host : Edge) (files_first files : NamedFiles) (figures_first figures : Option FigureFile) : Type 0 where
  pub machine : RunsInBlocks words status before now (host ≡ first)
  pub known : NeverRestarts before.acts machine.seen
  pub outcome : Outcome words status before now
  pub looks : SawWhereKnown machine.ending before (seeing now machine.seen) ((files ≡ files_first) × (figures ≡ figures_first))
      (λ seen. SawAll files_first files seen × SawFigures figures_first figures seen)
