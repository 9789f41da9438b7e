-- What is seen of a request is no longer than the request.
use Rattle.std.proofs.Common.{inl, inr, ◌≡◌, ◌≤◌, List, ℕ, Bool, true, false, length, ap, arith}
use Rattle.std.proofs.lemmas.Bool.{cases_Bool}
use Rattle.std.specs.Prelude.{if◌then◌else◌}
use Rattle.std.specs.Bool.{OnTrue}
use Rattle.coap_message.specs.Message.{CoapMessage, AreOptions, spelling}
use Rattle.coap_block.specs.declared.asks.Asks.{Asks}
use Rattle.coap_block.specs.declared.asks.Asks.TheVariants as asks
use Rattle.coap_block.specs.declared.spelling.Which.TheVariants as which
use Rattle.coap_block.specs.Blocks.{is_get, asks_of, blocks_in, without_block, seen_of}
use Rattle.coap_block.proofs.Sizes.{no_longer}
use Rattle.coap_block.proofs.Cuts.{spelling_size}

without_shorter : (m : CoapMessage) (asked : Asks) → AreOptions 0 m.options → length (spelling (without_block m asked)) ≤ length (spelling m)
without_shorter m asks.Whole are = omega arith
without_shorter m (asks.Block block) are = omega (arith, spelling_size m, spelling_size (without_block m (asks.Block block)), no_longer which.ButBlock m.options are)
without_shorter m asks.Neither are = omega arith

pub seen_shorter : (m : CoapMessage) → AreOptions 0 m.options → length (spelling (seen_of m)) ≤ length (spelling m)
seen_shorter m are = elim (cases_Bool (is_get m)) [
  | inl get ↦ rw get (without_shorter m (asks_of (blocks_in m.options)) are)
  | inr other ↦ rw other (omega arith)
]

pub written_shorter : (written : Bool) (filled text seen datagram : List ℕ) → seen ≡ (if written then filled else text) → length seen ≤ length text → datagram ≡ text → OnTrue written (length filled ≤ length datagram)
written_shorter true filled text seen datagram is shorter same = omega (arith, ap length is, shorter, ap length same)
written_shorter false filled text seen datagram is shorter same = tt
