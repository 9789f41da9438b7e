-- What a cut of a stream adds to the sum.
use Rattle.std.specs.Prelude.{ℕ}
use Rattle.http_cut.specs.Requests.{CutValue, takes, waits, refuses}

-- how many bytes the request at the front of a stream has; 0 where none is there
abbrev pub size_in : CutValue → ℕ
size_in (takes request) = request.size
size_in waits = 0
size_in (refuses fault) = 0
