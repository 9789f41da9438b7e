-- What a request would end is what its entry ends.
use Rattle.std.proofs.Common.{◌≡◌, true, ◌&&◌, ◌==◌, bytes_eq, refl, ap, ◌∙◌, arith}
use Rattle.dots_history.specs.declared.entry.Entry.{Entry}
use Rattle.dots_history.specs.declared.put.Put.{Put}
use Rattle.dots_history.specs.declared.change.Change.TheVariants as change
use Rattle.dots_history.specs.Entries.{ends, same_client, replaces, overlaps, targets_meet, share_alias}
use Rattle.conflict_rules.specs.declared.live.Live.{Live}
use Rattle.conflict_rules.specs.Live.{would_end}
use Rattle.conflict_rules.specs.Wanted.{wanted}

request_replaces : (a b : Put) → replaces (change.Put a) (change.Put b) ≡ replaces (change.Put a) (change.Put (wanted b.mid b.asked b.targets b.trigger))
unfolding replaces overlaps targets_meet share_alias
request_replaces a b = refl

ends_replaced : (earlier later : Entry) → earlier.domain ≡ later.domain → ends earlier later ≡ bytes_eq earlier.cuid later.cuid && replaces earlier.change later.change
unfolding ends same_client
ends_replaced earlier later one_domain =
    let same : (earlier.domain == later.domain) ≡ true = grind (arith, one_domain) in
    ap (λ b. (b && bytes_eq earlier.cuid later.cuid) && replaces earlier.change later.change) same

pub ended : (earlier later : Entry) (m : Live) (put : Put) → earlier.domain ≡ later.domain → earlier.cuid ≡ m.cuid → earlier.change ≡ change.Put m.put → later.change ≡ change.Put put
    → ends earlier later ≡ would_end later.cuid (wanted put.mid put.asked put.targets put.trigger) m
ended earlier later m put one_domain cuid its asks =
    ends_replaced earlier later one_domain
    ∙ ap (λ c. bytes_eq c later.cuid && replaces earlier.change later.change) cuid
    ∙ ap (λ c. bytes_eq m.cuid later.cuid && replaces c later.change) its
    ∙ ap (λ c. bytes_eq m.cuid later.cuid && replaces (change.Put m.put) c) asks
    ∙ ap (λ b. bytes_eq m.cuid later.cuid && b) (request_replaces m.put put)
