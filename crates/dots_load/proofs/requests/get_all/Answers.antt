use Rattle.std.proofs.Common.{◌≡◌, List, [], ◌∷◌, refl, sym, subst, ◌∙◌}
use Rattle.coap_message.specs.Message.{CoapOption}
use Rattle.coap_message.specs.CodeValues.{option_value}
use Rattle.dots_load.specs.Requests.{AreShort, all_path}
use Rattle.dots_load.proofs.Options.{path_is, same_options, get_short}
use Rattle.dots_load.proofs.requests.get_all.Goals as goal

pub spelled-requires-clause-options : goal.spelled-requires-clause-options
spelled-requires-clause-options c =
    let rows : option_value c.segment.result ∷ option_value c.segment-2.result ∷ option_value c.segment-3.result ∷ option_value c.segment-4.result ∷ [] ≡ all_path c.args.peer = path_is _ _ _ _ _ c.args.peer _ _ c.segment.ensures c.segment-2.ensures c.segment-3.ensures c.segment-4.ensures (c.as_bytes.ensures.value ∙ c.in_ok-cuid.ensures.ok) refl in
    subst (λ (os : List CoapOption). AreShort os) (sym rows) (get_short c.args.peer c.ranges.peer.fits)

pub returns-clause-spells : goal.returns-clause-spells
returns-clause-spells c =
    let rows : option_value c.segment.result ∷ option_value c.segment-2.result ∷ option_value c.segment-3.result ∷ option_value c.segment-4.result ∷ [] ≡ all_path c.args.peer = path_is _ _ _ _ _ c.args.peer _ _ c.segment.ensures c.segment-2.ensures c.segment-3.ensures c.segment-4.ensures (c.as_bytes.ensures.value ∙ c.in_ok-cuid.ensures.ok) refl in
    same_options c.spelled.result _ c.args.id _ _ [] rows c.spelled.ensures.spells
