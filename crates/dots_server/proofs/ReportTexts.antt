-- The lines of the report in their parts.
use Rattle.std.proofs.Common.{◌≡◌, ℕ, ◌+◌, ◌<◌, zero, suc, Bool, true, false, cond, List, [], ◌∷◌, ◌++◌, length, take, get_or, filter, flat_map, codes, decimal, refl, sym, ap, ◌∙◌, arith, append_assoc, append-nil}
use Rattle.ip_scope.specs.Prefix.{PrefixValue}
use Rattle.ip_scope.specs.PrefixText.{prefix_text}
use Rattle.acl_lists.specs.declared.rows.ScrubRow.{ScrubRow}
use Rattle.acl_lists.specs.declared.rows.AclRow.{AclRow}
use Rattle.acl_lists.specs.declared.ace.Ace.{Ace}
use Rattle.acl_lists.specs.declared.packet.Packet.{Packet}
use Rattle.acl_lists.specs.Fates.{Fate}
use Rattle.dots_settings.specs.Settings.{SettingsValue}
use Rattle.dots_settings.specs.Lookups.{name_of}
use Rattle.dots_machine.specs.Report.{any_or, texts_of, ports_text, scrub_line, acl_line, verdict_text, asked_text, test_text, fate_text, packet_line, packet_lines}
use Rattle.dots_server.specs.Gathering.{Gathered, Sunk, Puts}
use Rattle.dots_server.specs.Lines.{line_front, line_end, only_where, list_front, ace_front, ace_aims, ace_end}
use Rattle.dots_server.proofs.Puts.{puts_then, puts_same}

-- one row more
pub row_more : (settings : SettingsValue) (written : List ℕ) (left rest : List ScrubRow) (row : ScrubRow) → left ≡ row ∷ rest
    → written ++ flat_map (scrub_line settings) left ≡ (written ++ scrub_line settings row) ++ flat_map (scrub_line settings) rest
row_more settings written left rest row is =
    ap (λ rows. written ++ flat_map (scrub_line settings) rows) is ∙ sym (append_assoc written (scrub_line settings row) (flat_map (scrub_line settings) rest))

behind_front : (front protocols ports : List ℕ) → front ++ (protocols ++ codes " " ++ ports ++ codes "\n") ≡ front ++ protocols ++ codes " " ++ ports ++ codes "\n"
behind_front front protocols ports = simp append_assoc

-- a line in its two parts
pub puts_line : (settings : SettingsValue) (row : ScrubRow) (a b c : Sunk) (g h i : Gathered) → Puts a g b h (line_front settings row) → Puts b h c i (line_end row) → Puts a g c i (scrub_line settings row)
puts_line settings row a b c g h i first second =
    puts_same a c g i _ (scrub_line settings row)
    (behind_front (line_front settings row) (any_or (texts_of decimal row.protocols)) (any_or (texts_of ports_text row.ports)))
    (puts_then a b c g h i (line_front settings row) (line_end row) first second)

-- ---- access lists

module _ {X : Type 0} (f : X → List ℕ) where
  -- one element more
  pub one_more : (written : List ℕ) (left rest : List X) (x : X) → left ≡ x ∷ rest → written ++ flat_map f left ≡ (written ++ f x) ++ flat_map f rest
  one_more written left rest x is = ap (λ xs. written ++ flat_map f xs) is ∙ sym (append_assoc written (f x) (flat_map f rest))

  one_tested : (b : Bool) (x : X) (xs : List X) → flat_map f (cond b (x ∷ xs) xs) ≡ only_where b (f x) ++ flat_map f xs
  one_tested true x xs = refl
  one_tested false x xs = refl

  -- the texts of the elements that pass a test are those of all, each where it passes
  pub tested : (test : X → Bool) (xs : List X) → flat_map (λ x. only_where (test x) (f x)) xs ≡ flat_map f (filter test xs)
  tested test [] = refl
  tested test (x ∷ xs) = ap (λ rest. only_where (test x) (f x) ++ rest) (tested test xs) ∙ sym (one_tested (test x) x (filter test xs))

list_in_parts : (word blank feed domain cuid name ace verdict source destination protocol from to : List ℕ)
    → (((word ++ domain ++ blank ++ cuid ++ blank ++ name ++ blank) ++ (ace ++ blank ++ verdict ++ blank)) ++ (source ++ blank ++ destination ++ blank)) ++ (protocol ++ blank ++ from ++ blank ++ to ++ feed)
    ≡ word ++ domain ++ blank ++ cuid ++ blank ++ name ++ blank ++ ace ++ blank ++ verdict ++ blank ++ source ++ blank ++ destination ++ blank ++ protocol ++ blank ++ from ++ blank ++ to ++ feed
list_in_parts word blank feed domain cuid name ace verdict source destination protocol from to = simp append_assoc

-- a line of an access list in its four parts
pub acl_in_parts : (settings : SettingsValue) (row : AclRow) (ace : Ace) (destination : PrefixValue)
    → ((list_front settings row ++ ace_front ace) ++ ace_aims ace destination) ++ ace_end ace ≡ acl_line settings row ace destination
acl_in_parts settings row ace destination =
    list_in_parts (codes "acl ") (codes " ") (codes "\n") (name_of settings row.domain) row.cuid row.acl.name ace.name (verdict_text ace.accept) (asked_text prefix_text ace.source) (prefix_text destination) (asked_text decimal ace.protocol)
    (test_text ace.source_port) (test_text ace.destination_port)

-- ---- sample packets

-- a line of a packet in its parts
pub packet_in_parts : (number : ℕ) (fate : Fate) → ((codes "packet " ++ decimal number ++ codes " ") ++ fate_text fate) ++ codes "\n" ≡ packet_line number fate
packet_in_parts number fate = simp append_assoc

module _ (fate : Packet → Fate) where
  -- the lines up to one more
  pub packet_lines_more : (n : ℕ) (packets : List Packet) (i : ℕ) (d : Packet) → i < length packets
      → packet_lines fate n (take (suc i) packets) ≡ packet_lines fate n (take i packets) ++ packet_line (n + i) (fate (get_or packets i d))
  packet_lines_more n [] i d within = absurd (omega arith)
  packet_lines_more n (p ∷ ps) zero d within = append-nil (packet_line n (fate p)) ∙ ap (λ m. packet_line m (fate p)) (omega arith)
  packet_lines_more n (p ∷ ps) (suc i) d within =
      ap (λ rest. packet_line n (fate p) ++ rest) (packet_lines_more (n + 1) ps i d (omega arith))
      ∙ sym (append_assoc (packet_line n (fate p)) (packet_lines fate (n + 1) (take i ps)) (packet_line (n + 1 + i) (fate (get_or ps i d))))
      ∙ ap (λ m. (packet_line n (fate p) ++ packet_lines fate (n + 1) (take i ps)) ++ packet_line m (fate (get_or ps i d))) (omega arith)

  pub puts_packet : (a b c : Sunk) (g h k : Gathered) (packets : List Packet) (i : ℕ) (p : Packet) (n : ℕ) → i < length packets → p ≡ get_or packets i p
      → Puts a g b h (packet_lines fate 1 (take i packets)) → Puts b h c k (packet_line n (fate p)) → n ≡ i + 1 → Puts a g c k (packet_lines fate 1 (take (suc i) packets))
  puts_packet a b c g h k packets i p n within is first second at =
      puts_same a c g k _ _
      (ap (λ p. packet_lines fate 1 (take i packets) ++ packet_line n (fate p)) is ∙ ap (λ m. packet_lines fate 1 (take i packets) ++ packet_line m (fate (get_or packets i p))) (omega (arith, at))
      ∙ sym (packet_lines_more 1 packets i p within))
      (puts_then a b c g h k _ _ first second)
