-- What a row of the live mitigations of a client shows.
use Rattle.conflict_rules.specs.LiveViews.{LiveView}
use Rattle.live_mitigations.specs.declared.reading.MitigationRow.{MitigationRow}

abbrev pub row_view : MitigationRow → LiveView
row_view row = record { put = row.put.now; peer = row.peer; left = row.left; status = row.status }
