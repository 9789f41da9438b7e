use Rattle.std.proofs.Common.{refl, ap}
use Rattle.std.specs.Prelude.{codes}
use Rattle.serde_json.specs.View.{view}
use Rattle.list_json.specs.Found.{or_found}
use Rattle.list_json.proofs.Skipping.{skips, or_other, or_first, known_still, unknown}
use Rattle.list_json.proofs.alias_members.AliasMembers.with.Goals as goal

pub returns-in-name-clause-known : goal.returns-in-name-clause-known
returns-in-name-clause-known c = known_still c.args.self.now.is_whole (codes "name") c.in-name.is refl

pub returns-in-name-clause-found : goal.returns-in-name-clause-found
returns-in-name-clause-found c = λ rest.
    let d = view c.args.value.now in
    let old = c.args.self.now in (
      or_first (codes "name") old.name c.args.value rest c.in-name.is refl c.or-more.ensures,
      or_other (codes "target-prefix") (codes "name") old.prefixes d rest c.in-name.is refl,
      or_other (codes "target-port-range") (codes "name") old.ports d rest c.in-name.is refl,
      or_other (codes "target-protocol") (codes "name") old.protocols d rest c.in-name.is refl,
      or_other (codes "target-fqdn") (codes "name") old.names d rest c.in-name.is refl,
    )

pub returns-in-text-clause-known : goal.returns-in-text-clause-known
returns-in-text-clause-known c = known_still c.args.self.now.is_whole (codes "target-prefix") c.in-text.is refl

pub returns-in-text-clause-found : goal.returns-in-text-clause-found
returns-in-text-clause-found c = λ rest.
    let d = view c.args.value.now in
    let old = c.args.self.now in (
      or_other (codes "name") (codes "target-prefix") old.name d rest c.in-text.is refl,
      or_first (codes "target-prefix") old.prefixes c.args.value rest c.in-text.is refl c.or-more-in-text.ensures,
      or_other (codes "target-port-range") (codes "target-prefix") old.ports d rest c.in-text.is refl,
      or_other (codes "target-protocol") (codes "target-prefix") old.protocols d rest c.in-text.is refl,
      or_other (codes "target-fqdn") (codes "target-prefix") old.names d rest c.in-text.is refl,
    )

pub returns-in-text-2-clause-known : goal.returns-in-text-2-clause-known
returns-in-text-2-clause-known c = known_still c.args.self.now.is_whole (codes "target-port-range") c.in-text-2.is refl

pub returns-in-text-2-clause-found : goal.returns-in-text-2-clause-found
returns-in-text-2-clause-found c = λ rest.
    let d = view c.args.value.now in
    let old = c.args.self.now in (
      or_other (codes "name") (codes "target-port-range") old.name d rest c.in-text-2.is refl,
      or_other (codes "target-prefix") (codes "target-port-range") old.prefixes d rest c.in-text-2.is refl,
      or_first (codes "target-port-range") old.ports c.args.value rest c.in-text-2.is refl c.or-more-in-text-2.ensures,
      or_other (codes "target-protocol") (codes "target-port-range") old.protocols d rest c.in-text-2.is refl,
      or_other (codes "target-fqdn") (codes "target-port-range") old.names d rest c.in-text-2.is refl,
    )

pub returns-in-text-3-clause-known : goal.returns-in-text-3-clause-known
returns-in-text-3-clause-known c = known_still c.args.self.now.is_whole (codes "target-protocol") c.in-text-3.is refl

pub returns-in-text-3-clause-found : goal.returns-in-text-3-clause-found
returns-in-text-3-clause-found c = λ rest.
    let d = view c.args.value.now in
    let old = c.args.self.now in (
      or_other (codes "name") (codes "target-protocol") old.name d rest c.in-text-3.is refl,
      or_other (codes "target-prefix") (codes "target-protocol") old.prefixes d rest c.in-text-3.is refl,
      or_other (codes "target-port-range") (codes "target-protocol") old.ports d rest c.in-text-3.is refl,
      or_first (codes "target-protocol") old.protocols c.args.value rest c.in-text-3.is refl c.or-more-in-text-3.ensures,
      or_other (codes "target-fqdn") (codes "target-protocol") old.names d rest c.in-text-3.is refl,
    )

pub returns-in-text-4-clause-known : goal.returns-in-text-4-clause-known
returns-in-text-4-clause-known c = known_still c.args.self.now.is_whole (codes "target-fqdn") c.in-text-4.is refl

pub returns-in-text-4-clause-found : goal.returns-in-text-4-clause-found
returns-in-text-4-clause-found c = λ rest.
    let d = view c.args.value.now in
    let old = c.args.self.now in (
      or_other (codes "name") (codes "target-fqdn") old.name d rest c.in-text-4.is refl,
      or_other (codes "target-prefix") (codes "target-fqdn") old.prefixes d rest c.in-text-4.is refl,
      or_other (codes "target-port-range") (codes "target-fqdn") old.ports d rest c.in-text-4.is refl,
      or_other (codes "target-protocol") (codes "target-fqdn") old.protocols d rest c.in-text-4.is refl,
      or_first (codes "target-fqdn") old.names c.args.value rest c.in-text-4.is refl c.or-more-in-text-4.ensures,
    )

pub returns-in_default-clause-known : goal.returns-in_default-clause-known
returns-in_default-clause-known c =
    let other = c.in_default in
    unknown c.args.self.now.is_whole c.args.name.now other.not-name other.not-text other.not-text-2 other.not-text-3 other.not-text-4

pub returns-in_default-clause-found : goal.returns-in_default-clause-found
returns-in_default-clause-found c = λ rest.
    let k = c.args.name.now in
    let d = view c.args.value.now in
    let old = c.args.self.now in (
      ap (or_found old.name) (skips (codes "name") k d rest c.in_default.not-name),
      ap (or_found old.prefixes) (skips (codes "target-prefix") k d rest c.in_default.not-text),
      ap (or_found old.ports) (skips (codes "target-port-range") k d rest c.in_default.not-text-2),
      ap (or_found old.protocols) (skips (codes "target-protocol") k d rest c.in_default.not-text-3),
      ap (or_found old.names) (skips (codes "target-fqdn") k d rest c.in_default.not-text-4),
    )
