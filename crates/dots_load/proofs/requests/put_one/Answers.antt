use Rattle.std.proofs.Common.{◌≡◌, List, [], ◌∷◌, ◌++◌, sym, subst, ◌∙◌}
use Rattle.coap_message.specs.Message.{CoapOption}
use Rattle.coap_message.specs.CodeValues.{option_value}
use Rattle.dots_load.specs.Requests.{AreShort, mid_path, dots_format}
use Rattle.dots_load.proofs.Options.{path_is, mid_is, same_options, put_short}
use Rattle.dots_load.proofs.requests.put_one.Goals as goal

pub spelled-requires-clause-options : goal.spelled-requires-clause-options
spelled-requires-clause-options c =
    let rows : option_value c.segment.result ∷ option_value c.segment-2.result ∷ option_value c.segment-3.result ∷ option_value c.segment-4.result ∷ option_value c.segment-5.result ∷ dots_format ∷ [] ≡ mid_path c.args.peer c.args.mid ++ dots_format ∷ [] = path_is _ _ _ _ _ c.args.peer _ _ c.segment.ensures c.segment-2.ensures c.segment-3.ensures c.segment-4.ensures (c.as_bytes.ensures.value ∙ c.in_ok-cuid.ensures.ok) (mid_is _ _ c.args.mid _ c.segment-5.ensures (c.as_bytes-2.ensures.value ∙ c.in_ok-mid.ensures.ok)) in
    subst (λ (os : List CoapOption). AreShort os) (sym rows) (put_short c.args.peer c.args.mid c.ranges.peer.fits c.ranges.mid.fits)

pub returns-clause-spells : goal.returns-clause-spells
returns-clause-spells c =
    let rows : option_value c.segment.result ∷ option_value c.segment-2.result ∷ option_value c.segment-3.result ∷ option_value c.segment-4.result ∷ option_value c.segment-5.result ∷ dots_format ∷ [] ≡ mid_path c.args.peer c.args.mid ++ dots_format ∷ [] = path_is _ _ _ _ _ c.args.peer _ _ c.segment.ensures c.segment-2.ensures c.segment-3.ensures c.segment-4.ensures (c.as_bytes.ensures.value ∙ c.in_ok-cuid.ensures.ok) (mid_is _ _ c.args.mid _ c.segment-5.ensures (c.as_bytes-2.ensures.value ∙ c.in_ok-mid.ensures.ok)) in
    same_options c.spelled.result _ c.args.id _ _ c.args.body.now rows c.spelled.ensures.spells
