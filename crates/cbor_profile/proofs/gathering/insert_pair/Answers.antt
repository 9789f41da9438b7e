use Rattle.std.proofs.Common.{sym, ap, ◌∙◌, subst}
use Rattle.cbor_profile.specs.Gathering.{encoded_pairs, AreEncoded}
use Rattle.cbor_profile.proofs.AtEncodings.{insert_put, insert_encoded}
use Rattle.cbor_profile.proofs.gathering.insert_pair.Goals as goal

pub returns-clause-pairs : goal.returns-clause-pairs
returns-clause-pairs c =
    ap encoded_pairs c.in_ok-insert.ensures.entries ∙ insert_put c.args.pairs.now.entries c.args.encoding c.args.pair.0 c.args.pair.1 c.requires.kept c.requires.encoding c.requires.fresh

pub returns-clause-kept : goal.returns-clause-kept
returns-clause-kept c =
    subst AreEncoded (sym c.in_ok-insert.ensures.entries) (insert_encoded c.args.pairs.now.entries c.args.encoding c.args.pair.0 c.args.pair.1 c.requires.kept c.requires.encoding c.requires.fresh)
