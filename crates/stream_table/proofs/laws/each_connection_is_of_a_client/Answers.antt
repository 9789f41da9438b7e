use Rattle.stream_table.proofs.Clients.{connection_is_of_client}
use Rattle.stream_table.proofs.laws.each_connection_is_of_a_client.Goals as goal

pub returns : goal.returns
returns c = connection_is_of_client
