use Rattle.std.proofs.Common.{◌∙◌, ◌++◌, ap, codes, length}
use Rattle.server_figures.specs.Lines.{plain_figure}
use Rattle.wire_figures.specs.Counting.{counted, is_event, is_datagram, is_stranger, is_opening, last_time}
use Rattle.server_figures.specs.Figures.{came_lines, counter, gauge}
use Rattle.server_figures.proofs.Chains.{more, figure, on_ok}
use Rattle.server_figures.proofs.sent.add_came.Goals as goal

pub returns : goal.returns
unfolding came_lines
returns c =
    on_ok c.add_counter-4.result (λ last. (more c.args.text.now.items c.add_counter-3.new.text.items c.add_counter-4.new.text.items ((((plain_figure (counter (codes "dots_events_total") (codes "Events that were taken.")) (counted is_event c.args.tally.now)) ++ (plain_figure (gauge (codes "dots_last_event_seconds") (codes "Time beside the last event, in seconds.")) (last_time c.args.tally.now))) ++ (plain_figure (counter (codes "dots_datagrams_total") (codes "Datagrams that came.")) (counted is_datagram c.args.tally.now))) ++ (plain_figure (counter (codes "dots_stranger_datagrams_total") (codes "Datagrams from addresses that no peer has.")) (counted is_stranger c.args.tally.now))) (plain_figure (counter (codes "dots_connections_total") (codes "Connections that were opened.")) (counted is_opening c.args.tally.now))
    (more c.args.text.now.items c.add_counter-2.new.text.items c.add_counter-3.new.text.items (((plain_figure (counter (codes "dots_events_total") (codes "Events that were taken.")) (counted is_event c.args.tally.now)) ++ (plain_figure (gauge (codes "dots_last_event_seconds") (codes "Time beside the last event, in seconds.")) (last_time c.args.tally.now))) ++ (plain_figure (counter (codes "dots_datagrams_total") (codes "Datagrams that came.")) (counted is_datagram c.args.tally.now))) (plain_figure (counter (codes "dots_stranger_datagrams_total") (codes "Datagrams from addresses that no peer has.")) (counted is_stranger c.args.tally.now))
    (more c.args.text.now.items c.add_gauge.new.text.items c.add_counter-2.new.text.items ((plain_figure (counter (codes "dots_events_total") (codes "Events that were taken.")) (counted is_event c.args.tally.now)) ++ (plain_figure (gauge (codes "dots_last_event_seconds") (codes "Time beside the last event, in seconds.")) (last_time c.args.tally.now))) (plain_figure (counter (codes "dots_datagrams_total") (codes "Datagrams that came.")) (counted is_datagram c.args.tally.now))
    (more c.args.text.now.items c.add_counter.new.text.items c.add_gauge.new.text.items (plain_figure (counter (codes "dots_events_total") (codes "Events that were taken.")) (counted is_event c.args.tally.now)) (plain_figure (gauge (codes "dots_last_event_seconds") (codes "Time beside the last event, in seconds.")) (last_time c.args.tally.now))
    (figure c.args.text.now.items c.add_counter.new.text.items (counter (codes "dots_events_total") (codes "Events that were taken.")) c.events.result (counted is_event c.args.tally.now) c.in_ok-add_counter.ensures c.events.ensures)
    (figure c.add_counter.new.text.items c.add_gauge.new.text.items (gauge (codes "dots_last_event_seconds") (codes "Time beside the last event, in seconds.")) c.last_time.result (last_time c.args.tally.now) c.in_ok-add_gauge.ensures c.last_time.ensures))
    (figure c.add_gauge.new.text.items c.add_counter-2.new.text.items (counter (codes "dots_datagrams_total") (codes "Datagrams that came.")) c.datagrams.result (counted is_datagram c.args.tally.now) c.in_ok-add_counter-2.ensures c.datagrams.ensures))
    (figure c.add_counter-2.new.text.items c.add_counter-3.new.text.items (counter (codes "dots_stranger_datagrams_total") (codes "Datagrams from addresses that no peer has.")) c.strangers.result (counted is_stranger c.args.tally.now) c.in_ok-add_counter-3.ensures c.strangers.ensures))
    (figure c.add_counter-3.new.text.items c.add_counter-4.new.text.items (counter (codes "dots_connections_total") (codes "Connections that were opened.")) c.connections.result (counted is_opening c.args.tally.now) last c.connections.ensures))) c.add_counter-4.ensures
