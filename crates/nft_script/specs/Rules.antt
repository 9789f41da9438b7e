-- What a packet meets in a script: its rules in their order, of which the first that matches decides, as `nft` has it. A rule of the text
-- stands for a part of one of these: for a prefix of the domain, or a range of ports. Lists and rows have time left here.
use Rattle.std.specs.Prelude.{ℕ, Bool, if◌then◌else◌, List, [], ◌∷◌, ◌++◌, map, Option, Some, None}
use Rattle.ip_scope.specs.Prefix.{PrefixValue}
use Rattle.acl_lists.specs.declared.ace.Ace.{Ace}
use Rattle.acl_lists.specs.declared.packet.Packet.{Packet}
use Rattle.acl_lists.specs.Matching.{ace_matches}
use Rattle.acl_lists.specs.declared.rows.ScrubRow.{ScrubRow}
use Rattle.acl_lists.specs.declared.rows.AclRow.{AclRow}
use Rattle.acl_lists.specs.RowMatching.{is_scrubbed}
use Rattle.acl_lists.specs.Fates.{Fate, Pass, Accepted, Dropped, Scrubbed}
use Rattle.nft_script.specs.declared.timed.TimedRow.{TimedRow}
use Rattle.nft_script.specs.declared.timed.TimedList.{TimedList}
use Rattle.nft_script.specs.Falling.{falling}

-- which packets a rule matches, and what becomes of them
pub record Rule : Type 0 where
  pub catches : Packet → Bool
  pub fate : Fate

-- `accept` or `drop`
abbrev pub ace_rule : (ℕ → List PrefixValue) → AclRow → Ace → Rule
ace_rule prefixes row ace = record {
  catches = λ packet. ace_matches row.acl ace (prefixes row.domain) packet;
  fate = if ace.accept then Accepted row.acl.name else Dropped row.acl.name;
}

-- the entries of a list that is active
abbrev pub list_rules : (ℕ → List PrefixValue) → AclRow → List Rule
list_rules prefixes row = if row.active then map (ace_rule prefixes row) row.acl.aces else []

abbrev pub lists_rules : (ℕ → List PrefixValue) → List TimedList → List Rule
lists_rules prefixes [] = []
lists_rules prefixes (timed ∷ lists) = list_rules prefixes timed.list.now ++ lists_rules prefixes lists

-- `goto scrub`
abbrev pub row_rule : TimedRow → Rule
row_rule timed = record {
  catches = λ packet. is_scrubbed timed.row.now.prefix timed.row.now.protocols timed.row.now.ports packet;
  fate = Scrubbed timed.row.now.mid;
}

-- the rules of a script, in its order
abbrev pub rules_of : (ℕ → List PrefixValue) → List TimedRow → List TimedList → List Rule
rules_of prefixes rows lists = lists_rules prefixes lists ++ map row_rule (falling rows)

-- what the first rule that matches says; where none does, the packet passes
abbrev pub fate_by_rules : List Rule → Packet → Fate
fate_by_rules [] packet = Pass
fate_by_rules (rule ∷ rules) packet = if rule.catches packet then rule.fate else fate_by_rules rules packet

abbrev pub rows_in : List TimedRow → List ScrubRow
rows_in timed = map (λ (timed : TimedRow). timed.row.now) timed

abbrev pub lists_in : List TimedList → List AclRow
lists_in timed = map (λ (timed : TimedList). timed.list.now) timed
