-- What stands outside a run: what the settings' source has left, the acts of the host, what its disk held at each moment, and what the report
-- holds, where they tell it; how large the disk is; and how often each of the four failed.
use Rattle.std.specs.Prelude.{ℕ, List, Option}
use Rattle.dots_host.specs.Acts.{Timed}
use Rattle.dots_host.specs.Causes.{Rose}
use Rattle.dots_host.specs.Media.{Media}

pub record Outside : Type 0 where
  pub left : Option (List ℕ)
  pub source_faults : ℕ
  pub acts : Option (List Timed)
  pub wire_faults : ℕ
  pub media : Option Media
  pub extent : ℕ
  pub disk_faults : ℕ
  pub written : Option (List ℕ)
  pub report_faults : ℕ

-- what the source, the host and the report say of themselves, in this order
abbrev pub outside : Option (List ℕ) → ℕ → Option (List Timed) → ℕ → Option Media → ℕ → ℕ → Option (List ℕ) → ℕ → Outside
outside left source_faults acts wire_faults media extent disk_faults written report_faults = record {
  left = left;
  source_faults = source_faults;
  acts = acts;
  wire_faults = wire_faults;
  media = media;
  extent = extent;
  disk_faults = disk_faults;
  written = written;
  report_faults = report_faults;
}

-- the source, the host, its disk and the report failed
abbrev pub SourceFailed : Outside → Outside → Type 0
SourceFailed before now = Rose before.source_faults now.source_faults

abbrev pub WireFailed : Outside → Outside → Type 0
WireFailed before now = Rose before.wire_faults now.wire_faults

abbrev pub DiskFailed : Outside → Outside → Type 0
DiskFailed before now = Rose before.disk_faults now.disk_faults

abbrev pub ReportFailed : Outside → Outside → Type 0
ReportFailed before now = Rose before.report_faults now.report_faults
