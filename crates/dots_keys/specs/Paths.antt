-- The paths of the resources (RFC 9132, sections 4.4.1, 4.5.1 and 4.7).
use Rattle.std.specs.Prelude.{ℕ, ◌&&◌, List, [], ◌∷◌, ◌++◌, length, take, drop, codes, bytes_eq, Option, Some, None, if◌then◌else◌}

-- A resource, with the values of the parameters that stand in its path.
pub data Resource : Type 0 where
  mitigation : Option (List ℕ) → Option (List ℕ) → Option (List ℕ) → Resource
  config : Option (List ℕ) → Resource
  heartbeat : Resource

-- a parameter as a segment of the path
abbrev pub parameter : List ℕ → Option (List ℕ) → List (List ℕ)
parameter name None = []
parameter name (Some value) = (name ++ value) ∷ []

-- `.well-known/dots` and the resource; parameters stand in this order, each at most once
abbrev pub resource_path : Resource → List (List ℕ)
resource_path (mitigation cdid cuid mid) =
    codes "mitigate" ∷ parameter (codes "cdid=") cdid ++ parameter (codes "cuid=") cuid ++ parameter (codes "mid=") mid
resource_path (config sid) = codes "config" ∷ parameter (codes "sid=") sid
resource_path heartbeat = codes "hb" ∷ []

abbrev pub path_of : Resource → List (List ℕ)
path_of resource = codes ".well-known" ∷ codes "dots" ∷ resource_path resource

-- Reading segments: the value of a parameter that stands next, and the segments that follow.
abbrev pub Rest : Type 0
Rest = Option (List ℕ) × List (List ℕ)

abbrev pub take_parameter : List ℕ → List (List ℕ) → Rest
take_parameter name [] = (None, [])
take_parameter name (segment ∷ segments) =
    if bytes_eq (take (length name) segment) name then (Some (drop (length name) segment), segments) else (None, segment ∷ segments)

-- the resource, where no segment is left
abbrev pub ended : Resource → List (List ℕ) → Option Resource
ended resource [] = Some resource
ended resource (segment ∷ segments) = None

abbrev pub mitigation_at : List (List ℕ) → Option Resource
mitigation_at segments =
    let cdid = take_parameter (codes "cdid=") segments in
    let cuid = take_parameter (codes "cuid=") cdid.1 in
    let mid = take_parameter (codes "mid=") cuid.1 in
    ended (mitigation cdid.0 cuid.0 mid.0) mid.1

abbrev pub config_at : List (List ℕ) → Option Resource
config_at segments = let sid = take_parameter (codes "sid=") segments in ended (config sid.0) sid.1

abbrev pub resource_named : List ℕ → List (List ℕ) → Option Resource
resource_named name segments =
    if bytes_eq name (codes "mitigate") then mitigation_at segments
    else if bytes_eq name (codes "config") then config_at segments
    else if bytes_eq name (codes "hb") then ended heartbeat segments
    else None

-- the resource of a path, which is that whose path this is
abbrev pub resource_at : List (List ℕ) → Option Resource
resource_at (a ∷ b ∷ name ∷ segments) =
    if bytes_eq a (codes ".well-known") && bytes_eq b (codes "dots") then resource_named name segments else None
resource_at segments = None
