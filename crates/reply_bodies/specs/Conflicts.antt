-- Why a mitigation isn't granted (RFC 9132, section 4.4.1.3).
use Rattle.std.specs.Prelude.{ℕ, List, [], ◌∷◌, ◌++◌, map}
use Rattle.cbor_profile.specs.Tree.{Tree, unsigned, array, items_of}
use Rattle.ip_scope.specs.Prefix.{PrefixValue}
use Rattle.reply_bodies.specs.declared.keys.TheConstants.{MID, TARGET_PREFIX, CONFLICT_INFORMATION, CONFLICT_STATUS, CONFLICT_CAUSE, RETRY_TIMER, CONFLICT_SCOPE}
use Rattle.reply_bodies.specs.declared.conflict.TheConstants.{INACTIVE, OVERLAPPING_TARGETS, CUID_COLLISION, RETRY_AFTER}
use Rattle.reply_bodies.specs.declared.conflict.Conflict.{Conflict}
use Rattle.reply_bodies.specs.declared.conflict.ConflictCause.{ConflictCause}
use Rattle.reply_bodies.specs.declared.conflict.ConflictCause.TheVariants as cause
use Rattle.reply_bodies.specs.Maps.{field, numbered, map_of, sole}
use Rattle.reply_bodies.specs.Mitigations.{prefix_tree, mitigations_with}

abbrev pub status_and_cause : ℕ → List (Tree × Tree)
status_and_cause cause = field CONFLICT_STATUS (unsigned INACTIVE) ++ field CONFLICT_CAUSE (unsigned cause)

-- a mitigation of the same client with a higher mid, which stays as it is: there is nothing to be asked again
abbrev pub higher : ℕ → Tree
higher mid = map_of (status_and_cause OVERLAPPING_TARGETS ++ field CONFLICT_SCOPE (sole MID (unsigned mid)))

-- mitigations of other clients: the prefixes that they meet, and the time after which the same may be asked again
abbrev pub other : List PrefixValue → Tree
other prefixes =
    map_of
    (
    status_and_cause OVERLAPPING_TARGETS
    ++ field RETRY_TIMER (unsigned RETRY_AFTER)
    ++ field CONFLICT_SCOPE (sole TARGET_PREFIX (array (items_of (map prefix_tree prefixes))))
    )

-- another peer that uses the same cuid
abbrev pub collision : Tree
collision = map_of (status_and_cause CUID_COLLISION)

abbrev pub information : ConflictCause → Tree
information (cause.Higher mid) = higher mid
information (cause.Other prefixes) = other prefixes
information cause.Collision = collision

-- where the request has no mid there is none in the answer
abbrev pub conflict_scope : Conflict → Tree
conflict_scope conflict = map_of (numbered MID conflict.mid ++ field CONFLICT_INFORMATION (information conflict.cause))

-- {1: {2: [{5: mid, 17: information}]}}
abbrev pub conflict_tree : Conflict → Tree
conflict_tree conflict = mitigations_with (conflict_scope conflict ∷ [])
