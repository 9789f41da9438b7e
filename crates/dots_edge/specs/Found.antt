-- The lines of which a host file has one.
use Rattle.std.specs.Prelude.{ℕ, Bool, true, false, List, [], ◌∷◌, Option, Some, None}
use Rattle.dots_edge.specs.HostLine.{LineValue, journal_line, reserve_line, events_line, filters_line, filters_nft_line, figures_line}

-- how many events the first line that says it lets come
abbrev pub events_in : List LineValue → Option ℕ
events_in [] = None
events_in (events_line count ∷ values) = Some count
events_in (value ∷ values) = events_in values

abbrev pub has_journal : List LineValue → Bool
has_journal [] = false
has_journal (journal_line path ∷ values) = true
has_journal (value ∷ values) = has_journal values

-- the path of the first line that names a journal
abbrev pub journal_in : List LineValue → Option (List ℕ)
journal_in [] = None
journal_in (journal_line path ∷ values) = Some path
journal_in (value ∷ values) = journal_in values

-- how many bytes of the journal the first line that says it reserves
abbrev pub reserve_in : List LineValue → Option ℕ
reserve_in [] = None
reserve_in (reserve_line bytes ∷ values) = Some bytes
reserve_in (value ∷ values) = reserve_in values

-- the path of the first line that says where the filters are written
abbrev pub filters_in : List LineValue → Option (List ℕ)
filters_in [] = None
filters_in (filters_line path ∷ values) = Some path
filters_in (value ∷ values) = filters_in values

-- the path of the first line that says where the script of the filters is written
abbrev pub filters_nft_in : List LineValue → Option (List ℕ)
filters_nft_in [] = None
filters_nft_in (filters_nft_line path ∷ values) = Some path
filters_nft_in (value ∷ values) = filters_nft_in values

-- the path of the first line that says where the figures are written
abbrev pub figures_in : List LineValue → Option (List ℕ)
figures_in [] = None
figures_in (figures_line path ∷ values) = Some path
figures_in (value ∷ values) = figures_in values
