-- Keys as numbers (RFC 9132, section 6).
use Rattle.std.specs.Prelude.{ℕ, Bool, ◌&&◌, ◌||◌, nat_le, if◌then◌else◌}
use Rattle.dots_keys.specs.declared.keys.Role.{Role}
use Rattle.dots_keys.specs.declared.keys.Role.TheVariants as role

abbrev pub is_within : ℕ → ℕ → ℕ → Bool
is_within low high n = nat_le low n && nat_le n high

-- The table: mitigation-scope 1, scope 2, cdid 3, cuid 4, mid 5, target-prefix 6, target-port-range 7, lower-port 8, upper-port 9,
-- target-protocol 10, target-fqdn 11, target-uri 12, alias-name 13, lifetime 14, mitigation-start 15, status 16,
-- conflict-information 17, conflict-status 18, conflict-cause 19, retry-timer 20, conflict-scope 21, acl-list 22, acl-name 23,
-- acl-type 24, bytes-dropped 25, bps-dropped 26, pkts-dropped 27, pps-dropped 28, attack-status 29, signal-config 30, sid 31,
-- mitigating-config 32, heartbeat-interval 33, max-value 34, min-value 35, current-value 36, missing-hb-allowed 37,
-- max-retransmit 38, ack-timeout 39, ack-random-factor 40, max-value-decimal 41, min-value-decimal 42, current-value-decimal 43,
-- idle-config 44, trigger-mitigation 45, heartbeat 49, probing-rate 50, peer-hb-status 51.
abbrev pub is_known : ℕ → Bool
is_known n = is_within 1 45 n || is_within 49 51 n

-- the ranges whose keys may be passed over
abbrev pub is_ignored : ℕ → Bool
is_ignored n = is_within 128 255 n || is_within 16384 65535 n

abbrev pub key_role : ℕ → Role
key_role n = if is_known n then role.Known n else if is_ignored n then role.Ignored else role.Unknown n
