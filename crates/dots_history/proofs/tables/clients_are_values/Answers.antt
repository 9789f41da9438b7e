use Rattle.dots_history.proofs.Single.{of_itself, is_of_client, client_is_of}
use Rattle.dots_history.proofs.tables.clients_are_values.Goals as goal

pub returns : goal.returns
returns c = record { same = of_itself; of = is_of_client; own = client_is_of }
