use Rattle.std.proofs.Common.{◌≡◌, ◌++◌}
use Rattle.coap_message.specs.Message.{options_bytes, last_number, AreOptions}
use Rattle.coap_block.specs.Spelling.{among}
use Rattle.coap_block.proofs.spelling.put_options.Given as goal

abbrev pub invariant-loop-row : goal.invariant-loop-row
invariant-loop-row l = record {
  text : l.room.filled ++ options_bytes l.previous (among l.which l.options) ≡ l.fn.room.filled ++ options_bytes l.fn.previous (among l.which l.fn.options);
  most : l.room.most ≡ l.fn.room.most;
  are : AreOptions l.previous (among l.which l.options);
  last : last_number l.previous (among l.which l.options) ≡ last_number l.fn.previous (among l.which l.fn.options);
}
