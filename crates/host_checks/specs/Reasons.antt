-- Why a line of a host file is at fault, in plain words.
use Rattle.std.specs.Prelude.{ℕ, List, codes}
use Rattle.dots_edge.specs.declared.complaint.Reason.{Reason}
use Rattle.dots_edge.specs.declared.complaint.Reason.TheVariants as reason

abbrev pub reason_words : Reason → List ℕ
reason_words reason.Word = codes "the first word of a line is journal, reserve, signal, http, peer, events, filters, filters-nft or figures"
reason_words reason.OneField = codes "behind this word stands one field, with one space between two fields"
reason_words reason.TwoFields = codes "a peer line is: peer NUMBER ADDRESS, or: peer NUMBER ADDRESS:PORT, with one space between two fields"
reason_words reason.Path = codes "a path is some UTF-8 text without a space"
reason_words reason.Bytes = codes "the bytes are a number from 0 to 1073741824, without leading zeros"
reason_words reason.End = codes "an address and a port are as 192.0.2.1:4646 or [2001:db8::1]:4646"
reason_words reason.Peer = codes "a peer is a number from 0 to 4294967294, without leading zeros"
reason_words reason.PeerEnd = codes "the address of a peer is as 192.0.2.1 or 2001:db8::1, or with a port as 192.0.2.1:4646 or [2001:db8::1]:4646"
reason_words reason.Count = codes "the number of events is below 10000000000000000000, without leading zeros"
reason_words reason.Form = codes "a line has one of the ten forms"
reason_words reason.Twice = codes "a line above says this already, or names its file"
reason_words reason.Many = codes "four lines of this kind stand above"
reason_words reason.Wildcard = codes "a line for all addresses, as with 0.0.0.0 or [::], is the only one of its kind"
