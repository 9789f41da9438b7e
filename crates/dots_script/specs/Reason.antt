-- The reasons in plain words.
use Rattle.std.specs.Prelude.{ℕ, List, [], ◌++◌, codes, decimal, Option, Some, None}
use Rattle.dots_settings.specs.declared.mistake.Mistake.{Mistake}
use Rattle.dots_settings.specs.declared.mistake.Mistake.TheVariants as mistake
use Rattle.dots_script.specs.declared.reason.Reason.{Reason}
use Rattle.dots_script.specs.declared.reason.Reason.TheVariants as reason

-- why a line of the settings has none of the ten forms
abbrev pub mistake_words : Mistake → List ℕ
mistake_words mistake.Word = codes "the first word of a line is domain, prefix, client, gateway, upstream, name, ceiling, indefinite, capacity or packet"
mistake_words mistake.DomainFields = codes "a domain line is: domain NAME, with one space between two fields"
mistake_words mistake.PrefixFields = codes "a prefix line is: prefix NAME PREFIX, with one space between two fields"
mistake_words mistake.ClientFields = codes "a client line is: client PEER NAME, with one space between two fields"
mistake_words mistake.GatewayFields = codes "a gateway line is: gateway PEER, with one space between two fields"
mistake_words mistake.UpstreamFields = codes "an upstream line is: upstream PEER, with one space between two fields"
mistake_words mistake.NameFields = codes "a name line is: name FQDN PREFIX, with one space between two fields"
mistake_words mistake.CeilingFields = codes "a ceiling line is: ceiling SECONDS, with one space between two fields"
mistake_words mistake.IndefiniteFields = codes "an indefinite line is: indefinite yes, or: indefinite no"
mistake_words mistake.CapacityFields = codes "a capacity line is: capacity WHAT LIMIT, with one space between two fields"
mistake_words mistake.PacketFields = codes "a packet line is: packet SOURCE DESTINATION PROTOCOL SPORT DPORT, with one space between two fields"
mistake_words mistake.DomainName = codes "the name of a domain is 1 to 64 of a to z, 0 to 9, dot and hyphen"
mistake_words mistake.HostName = codes "a host name is 1 to 64 visible ASCII characters"
mistake_words mistake.Peer = codes "a peer is a number from 0 to 4294967295, without leading zeros"
mistake_words mistake.NoSlash = codes "a prefix is an address, a slash and a length, as 192.0.2.0/24 or 2001:db8::/32"
mistake_words mistake.NoAddress = codes "no IPv4 or IPv6 address stands before the slash, as in 192.0.2.0/24 or 2001:db8::/32"
mistake_words mistake.NoLength = codes "the length of a prefix is a number, without leading zeros"
mistake_words mistake.LengthV4 = codes "the length of an IPv4 prefix is at most 32"
mistake_words mistake.LengthV6 = codes "the length of an IPv6 prefix is at most 128"
mistake_words mistake.Ceiling = codes "the ceiling is a number of seconds from 1 to 604800, without leading zeros"
mistake_words mistake.YesOrNo = codes "this word is yes or no"
mistake_words mistake.CapacityName = codes "a capacity is client-mitigations, domain-mitigations, clients, aliases, acls, remembered or observers"
mistake_words mistake.Limit = codes "the limit of a capacity is a number, without leading zeros"
mistake_words mistake.Address = codes "an address is an IPv4 or IPv6 address, as 192.0.2.1 or 2001:db8::1, without a length"
mistake_words mistake.Protocol = codes "a protocol is a number from 0 to 255, without leading zeros"
mistake_words mistake.Port = codes "a port is a number from 0 to 65535, without leading zeros, or both ports are -"

abbrev pub reason_words : Reason → List ℕ
reason_words (reason.Mistake mistake) = mistake_words mistake
reason_words reason.Form = codes "a line has one of the ten forms"
reason_words reason.DomainTwice = codes "a line above declares this domain already"
reason_words reason.PeerTwice = codes "a line above names this peer already, as a client, a gateway or the upstream"
reason_words reason.UpstreamTwice = codes "a line above names the upstream already, or this peer as a client or a gateway"
reason_words reason.CeilingTwice = codes "a line above gives the ceiling already"
reason_words reason.IndefiniteTwice = codes "a line above says already whether lifetimes without end are granted"
reason_words reason.CapacityTwice = codes "a line above gives this capacity already"
reason_words reason.Twice = codes "a line above says this already"
reason_words reason.UnknownDomain = codes "no line above declares this domain"
reason_words reason.TooLarge = codes "a file has at most 65536 bytes, and this line passes them"
reason_words reason.ManyDomains = codes "a file has at most 16 domains"
reason_words reason.ManyPrefixes = codes "a domain has at most 16 prefixes"
reason_words reason.ManyPeers = codes "a file has at most 64 clients and gateways"
reason_words reason.ManyGateways = codes "a file has at most 64 clients and gateways, and at most 4 of them are gateways"
reason_words reason.ManyNames = codes "a file has at most 64 host names, and a host name at most 4 prefixes"
reason_words reason.ManyPackets = codes "a file has at most 256 sample packets"
reason_words reason.Many = codes "this passes a limit"
reason_words reason.LineTooLong = codes "a line has at most 8400 bytes"
reason_words reason.Unended = codes "the last line does not end with a line feed"
reason_words reason.EventFields = codes "a line is: at SECONDS, and one of: from PEER HEX, open CONN PEER, piece CONN HEX, close CONN, tick, restart, with one space between two fields"
reason_words reason.DatagramFields = codes "a from line is: at SECONDS from PEER HEX, with one space between two fields"
reason_words reason.OpeningFields = codes "an open line is: at SECONDS open CONN PEER, with one space between two fields"
reason_words reason.PieceFields = codes "a piece line is: at SECONDS piece CONN HEX, with one space between two fields"
reason_words reason.ClosingFields = codes "a close line is: at SECONDS close CONN, with one space between two fields"
reason_words reason.TickFields = codes "a tick line is: at SECONDS tick, with one space between two fields"
reason_words reason.RestartFields = codes "a restart line is: at SECONDS restart, with one space between two fields"
reason_words reason.At = codes "the first word of a line is at"
reason_words reason.Seconds = codes "the time is a number of seconds below 281474976710656, without leading zeros"
reason_words reason.EventWord = codes "the third word of a line is from, open, piece, close, tick or restart"
reason_words reason.Datagram = codes "a datagram is 1 to 4096 bytes in hexadecimal, two digits each"
reason_words reason.Connection = codes "a connection is a number from 0 to 4294967295, without leading zeros"
reason_words reason.Piece = codes "a piece is 1 to 4096 bytes in hexadecimal, two digits each"
reason_words (reason.OutOfRange most) = codes "the limit of this capacity is a number from 1 to "
reason_words (reason.Overlap first) = codes "this prefix overlaps one of another domain, which stands in line "

-- the number behind the words
abbrev pub reason_number : Reason → Option ℕ
reason_number (reason.OutOfRange most) = Some most
reason_number (reason.Overlap first) = Some first
reason_number _ = None

abbrev pub number_text : Option ℕ → List ℕ
number_text None = []
number_text (Some number) = decimal number

abbrev pub reason_text : Reason → List ℕ
reason_text reason = reason_words reason ++ number_text (reason_number reason)
