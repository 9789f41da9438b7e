use Rattle.stream_table.proofs.Clients.{begun_of, emptied_of, forgotten_of, opened_of, buffering_of}
use Rattle.stream_table.proofs.laws.each_client_has_a_row.Goals as goal

pub returns : goal.returns
returns c = record { begun = begun_of; emptied = emptied_of; forgotten = forgotten_of; opened = opened_of; buffering = buffering_of }
