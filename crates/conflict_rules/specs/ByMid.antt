-- The first two rules for a mitigation request, in their order (RFC 9132, section 4.4.1).
use Rattle.std.specs.Prelude.{ℕ, ◌+◌, Bool, ◌&&◌, ◌==◌, not, if◌then◌else◌, List, [], ◌∷◌}
use Rattle.std.specs.List.{list_any}
use Rattle.acl_lists.specs.declared.asked.Asked.{Asked}
use Rattle.conflict_rules.specs.declared.live.Live.{Live}
use Rattle.conflict_rules.specs.declared.by_mid.MidJudgement.{MidJudgement}
use Rattle.conflict_rules.specs.declared.by_mid.MidJudgement.TheVariants.{Collision, Refresh, Changed, New}
use Rattle.conflict_rules.specs.Asking.{would_refresh}
use Rattle.conflict_rules.specs.Live.{is_of, stands_for}

-- The cuid is in use by another peer: a live mitigation of the client, standing or terminating, has another peer (RFC
-- 9132, section 4.4.1.3: conflict-cause 3, a cuid collision).
abbrev pub collides : List Live → ℕ → List ℕ → Bool
collides live peer cuid = list_any (λ m. is_of cuid m && not (m.peer == peer)) live

-- it stands, and is the client's mitigation of this mid
abbrev pub has_mid : List ℕ → ℕ → Live → Bool
has_mid cuid mid m = stands_for cuid m && (m.put.mid == mid)

-- Where a mitigation of the client with this mid stands, the request refreshes it, if it asks for the same with the same
-- trigger value; else it would change it, which is refused. `place` is that of the first of these mitigations.
abbrev pub judge_same_mid : List ℕ → ℕ → Asked → Bool → ℕ → List Live → MidJudgement
judge_same_mid cuid mid asked trigger place [] = New
judge_same_mid cuid mid asked trigger place (m ∷ later) =
    if has_mid cuid mid m
    then (if would_refresh asked trigger m.put then Refresh place else Changed)
    else judge_same_mid cuid mid asked trigger (place + 1) later

-- the first rule that applies
abbrev pub judge_mid : List Live → ℕ → List ℕ → ℕ → Asked → Bool → MidJudgement
judge_mid live peer cuid mid asked trigger =
    if collides live peer cuid then Collision else judge_same_mid cuid mid asked trigger 0 live
