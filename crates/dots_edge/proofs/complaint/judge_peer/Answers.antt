use Rattle.dots_edge.proofs.complaint.judge_peer.Goals as goal

pub returns : goal.returns
returns c = (
  c.in-Some.digits.now,
  c.in-Some.text.now,
  c.in-Some.ensures,
  (c.in-Some-peer_number_of._number, c.in-Some-peer_number_of.ensures.0, c.in-Some-peer_number_of.ensures.1),
  (c.in-Some-peer_text_of._end.0, c.in-Some-peer_text_of._end.1, c.in-Some-peer_text_of.ensures),
)
