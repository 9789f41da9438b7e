-- Reading a record from left to right: the value in front of the bytes and the bytes behind it, or the place at which
-- nothing can go on. The private functions answer so; that it is what the definitions say is proved of it.
use Rattle.std.specs.Prelude.{◌≡◌, ℕ, zero, suc, ◌+◌, ◌-◌, ◌*◌, ◌/◌, ◌%◌, ◌^◌, min, Bool, true, false, ◌&&◌, ◌||◌, ◌==◌, nat_le, nat_lt, if◌then◌else◌, List, [], ◌∷◌, length, take, drop, Option, Some, None, Result, Ok, Err, ℤ}
use Rattle.std.specs.Char.{is_ascii_graphic}
use Rattle.std.specs.Int.{Width, w16, w32, w64, byte_len, from_be_bytes, cast_signed}
use Rattle.dots_lists.specs.Steps.{unless}
use Rattle.slot_store.specs.declared.format.Format.{Format}
use Rattle.slot_store.specs.declared.format.Format.TheVariants.{One, Two}
use Rattle.slot_store.specs.Formats.{seal}
use Rattle.ip_scope.specs.declared.family.Family.{Family}
use Rattle.ip_scope.specs.declared.family.Family.TheVariants.{V4, V6}
use Rattle.ip_scope.specs.Family.{width}
use Rattle.ip_scope.specs.Prefix.{PrefixValue}
use Rattle.ip_scope.specs.Ports.{Ports}
use Rattle.acl_lists.specs.declared.limits.TheConstants.{MAX_ITEMS, MAX_NAMES, MAX_TARGETS, MAX_RESOLVED, MAX_ACES}
use Rattle.acl_lists.specs.declared.ace.Ace.{Ace}
use Rattle.acl_lists.specs.declared.acl.Acl.{Acl}
use Rattle.acl_lists.specs.declared.acl.Activation.{Activation}
use Rattle.acl_lists.specs.declared.acl.Activation.TheVariants as activation
use Rattle.acl_lists.specs.declared.alias.Alias.{Alias}
use Rattle.acl_lists.specs.declared.asked.Asked.{Asked}
use Rattle.acl_lists.specs.declared.port_test.PortTest.{PortTest}
use Rattle.acl_lists.specs.declared.port_test.PortTest.TheVariants as port
use Rattle.dots_history.specs.declared.change.Change.{Change}
use Rattle.dots_history.specs.declared.change.Change.TheVariants as change
use Rattle.dots_history.specs.declared.config.Config.{Config}
use Rattle.dots_history.specs.declared.config.Values.{Values}
use Rattle.dots_history.specs.declared.entry.Entry.{Entry}
use Rattle.dots_history.specs.declared.entry.MessageKey.{MessageKey}
use Rattle.dots_history.specs.declared.entry.MessageKey.TheVariants as key
use Rattle.dots_history.specs.declared.put.Put.{Put}
use Rattle.dots_history.specs.declared.put.Target.{Target}
use Rattle.slot_journal.specs.declared.record_fault.EntryFault.{EntryFault}
use Rattle.slot_journal.specs.declared.record_fault.EntryFault.TheVariants.{NotEntry, NoMemory}
use Rattle.slot_journal.specs.Layout.{body_bytes}

-- what is read and the bytes behind it, or the place
abbrev pub Read : Type 0 → Type 0
Read A = Result (A × List ℕ) ℕ

infixl 10 ◌>>=◌
abbrev pub ◌>>=◌ : {A B : Type 0} → Result A ℕ → (A → Result B ℕ) → Result B ℕ
(Ok x) >>= f = f x
(Err at) >>= f = Err at

-- which fault is want of memory, and at which place another is
abbrev pub lacks : EntryFault → Bool
lacks (NotEntry at) = false
lacks NoMemory = true

abbrev pub place_of : EntryFault → ℕ
place_of (NotEntry at) = at
place_of NoMemory = 0

-- What a function returned, seen by view, is what reading gives, unless memory ran out.
abbrev pub Stops : {Y : Type 0} → EntryFault → Result Y ℕ → Type 0
Stops fault read = unless (lacks fault) (read ≡ Err (place_of fault))

abbrev pub Gives : {X Y : Type 0} → (X → Y) → Result X EntryFault → Result Y ℕ → Type 0
Gives view (Ok x) read = read ≡ Ok (view x)
Gives view (Err fault) read = Stops fault read

-- Below, end is where the input ends, whose last bytes are read.

-- ---- how readers are joined

-- a value, and behind it another by a reader that may look at the first
abbrev pub pair_at : {A B : Type 0} → (ℕ → List ℕ → Read A) → (A → ℕ → List ℕ → Read B) → ℕ → List ℕ → Read (A × B)
pair_at first next end bytes = first end bytes >>= λ x. next x.0 end x.1 >>= λ y. Ok ((x.0, y.0), y.1)

-- a value and another behind it
abbrev pub both_at : {A B : Type 0} → (ℕ → List ℕ → Read A) → (ℕ → List ℕ → Read B) → ℕ → List ℕ → Read (A × B)
both_at first second = pair_at first (λ _. second)

-- the first of two values
abbrev pub first : {A B : Type 0} → A × B → A
first p = p.0

-- the second of two values
abbrev pub second : {A B : Type 0} → A × B → B
second p = p.1

-- what is made of a value
abbrev pub made_at : {A B : Type 0} → (A → B) → (ℕ → List ℕ → Read A) → ℕ → List ℕ → Read B
made_at make read end bytes = read end bytes >>= λ x. Ok (make x.0, x.1)

-- nothing
abbrev pub nothing_at : {A : Type 0} → A → ℕ → List ℕ → Read A
nothing_at value end bytes = Ok (value, bytes)

abbrev pub prepended : {A : Type 0} → A × List A → List A
prepended p = p.0 ∷ p.1

-- so many items
unfoldable pub items_at : {A : Type 0} → (ℕ → List ℕ → Read A) → ℕ → ℕ → List ℕ → Read (List A)
items_at read zero end bytes = Ok ([], bytes)
items_at read (suc n) end bytes = made_at prepended (pair_at read (λ _. items_at read n)) end bytes

-- ---- bytes and numbers

-- a byte that passes the test
unfoldable pub byte_at : (ℕ → Bool) → ℕ → List ℕ → Read ℕ
byte_at test end [] = Err end
byte_at test end (b ∷ bytes) = if test b then Ok (b, bytes) else Err (end - length (b ∷ bytes))

abbrev pub between : ℕ → ℕ → ℕ → Bool
between least most b = nat_le least b && nat_le b most

-- so many bytes
unfoldable pub bytes_at : ℕ → ℕ → List ℕ → Read (List ℕ)
bytes_at n end bytes = if nat_lt (length bytes) n then Err end else Ok (take n bytes, drop n bytes)

abbrev pub number_at : Width → ℕ → List ℕ → Read ℕ
number_at w = made_at (from_be_bytes w) (bytes_at (byte_len w))

-- a byte from the least to the most
abbrev pub within_at : ℕ → ℕ → ℕ → List ℕ → Read ℕ
within_at least most = byte_at (between least most)

-- exactly these bytes
unfoldable pub exactly_at : List ℕ → ℕ → List ℕ → Read (Unit {0})
exactly_at [] = nothing_at tt
exactly_at (x ∷ xs) = made_at second (both_at (within_at x x) (exactly_at xs))

-- seconds below 2^48, in eight bytes
abbrev pub time_of : List ℕ → ℕ
time_of low = from_be_bytes w64 (0 ∷ 0 ∷ low)

unfoldable pub time_at : ℕ → List ℕ → Read ℕ
time_at = made_at (λ p. time_of p.1.1) (both_at (within_at 0 0) (both_at (within_at 0 0) (bytes_at 6)))

-- ---- names, bytes and lists

-- a text of visible characters, of at least and at most so many
unfoldable pub visible_at : ℕ → ℕ → ℕ → List ℕ → Read (List ℕ)
visible_at least most = made_at second (pair_at (within_at least most) (λ n. items_at (byte_at is_ascii_graphic) n))

abbrev pub name_at : ℕ → List ℕ → Read (List ℕ)
name_at = visible_at 1 64

-- at most so many bytes
unfoldable pub counted_at : ℕ → ℕ → List ℕ → Read (List ℕ)
counted_at most = made_at second (pair_at (within_at 0 most) bytes_at)

-- at most so many items
unfoldable pub list_at : {A : Type 0} → ℕ → (ℕ → List ℕ → Read A) → ℕ → List ℕ → Read (List A)
list_at most item = made_at second (pair_at (within_at 0 most) (items_at item))

-- a value that may be there
abbrev pub there_at : {A : Type 0} → (ℕ → List ℕ → Read A) → ℕ → ℕ → List ℕ → Read (Option A)
there_at value zero = nothing_at None
there_at value (suc n) = made_at Some value

unfoldable pub optional_at : {A : Type 0} → (ℕ → List ℕ → Read A) → ℕ → List ℕ → Read (Option A)
optional_at value = made_at second (pair_at (within_at 0 1) (there_at value))

abbrev pub flag_at : ℕ → List ℕ → Read Bool
flag_at = made_at (λ b. b == 1) (within_at 0 1)

-- ---- prefixes

abbrev pub is_version : ℕ → Bool
is_version b = (b == 4) || (b == 6)

abbrev pub family_of : ℕ → Family
family_of b = if b == 4 then V4 else V6

unfoldable pub version_at : ℕ → List ℕ → Read Family
version_at = made_at family_of (byte_at is_version)

-- Of the bits of this byte, those behind so many leading ones are zero.
abbrev pub leads : ℕ → ℕ → Bool
leads leading b = b % 2 ^ (8 - min leading 8) == 0

-- a number of so many bytes, whose bits behind so many leading ones are zero
unfoldable pub address_at : ℕ → ℕ → ℕ → List ℕ → Read ℕ
address_at zero leading end bytes = Ok (0, bytes)
address_at (suc n) leading end bytes = made_at (λ p. p.0 * 256 ^ n + p.1) (both_at (byte_at (leads leading)) (address_at n (leading - 8))) end bytes

-- how many of the sixteen bytes of an address are always zero
abbrev pub zeros : Family → ℕ
zeros V4 = 12
zeros V6 = 0

unfoldable pub lowest_at : Family → ℕ → ℕ → List ℕ → Read ℕ
lowest_at family length = made_at second (both_at (address_at (zeros family) 0) (address_at (16 - zeros family) length))

abbrev pub prefix_from : Family × (ℕ × ℕ) → PrefixValue
prefix_from p = record { family = p.0; number = p.1.1; length = p.1.0 }

unfoldable pub prefix_at : ℕ → List ℕ → Read PrefixValue
prefix_at = made_at prefix_from (pair_at version_at (λ family. pair_at (within_at 0 (width family)) (lowest_at family)))

-- ---- ports

-- the low byte of a port from this one on, behind its high one
abbrev pub least_low : ℕ → ℕ → ℕ
least_low lower high = if high == lower / 256 then lower % 256 else 0

-- a port from this one on
unfoldable pub upper_at : ℕ → ℕ → List ℕ → Read ℕ
upper_at lower = made_at (λ p. p.0 * 256 + p.1) (pair_at (within_at (lower / 256) 255) (λ high. within_at (least_low lower high) 255))

abbrev pub ports_from : ℕ × ℕ → Ports
ports_from p = record { lower = p.0; upper = p.1 }

unfoldable pub ports_at : ℕ → List ℕ → Read Ports
ports_at = made_at ports_from (pair_at (number_at w16) upper_at)

abbrev pub value_at : ℕ → ℕ → List ℕ → Read PortTest
value_at zero = nothing_at port.Any
value_at (suc zero) = made_at port.Eq (number_at w16)
value_at (suc (suc zero)) = made_at port.Neq (number_at w16)
value_at (suc (suc (suc zero))) = made_at port.Lte (number_at w16)
value_at (suc (suc (suc (suc zero)))) = made_at port.Gte (number_at w16)
value_at (suc (suc (suc (suc (suc n))))) = made_at port.Range ports_at

unfoldable pub test_at : ℕ → List ℕ → Read PortTest
test_at = made_at second (pair_at (within_at 0 5) value_at)

-- ---- what is asked, aliases and access lists

abbrev pub asked_from : List PrefixValue × (List Ports × (List ℕ × (List (List ℕ) × List (List ℕ)))) → Asked
asked_from p = record { prefixes = p.0; ports = p.1.0; protocols = p.1.1.0; names = p.1.1.1.0; aliases = p.1.1.1.1 }

-- with at most so many names of aliases
unfoldable pub asked_at : ℕ → ℕ → List ℕ → Read Asked
asked_at most = made_at asked_from (both_at (list_at MAX_ITEMS prefix_at) (both_at (list_at MAX_ITEMS ports_at) (both_at (counted_at MAX_ITEMS) (both_at (list_at MAX_NAMES name_at) (list_at most name_at)))))

abbrev pub alias_from : List ℕ × Asked → Alias
alias_from p = record { name = p.0; asked = p.1 }

unfoldable pub alias_at : ℕ → List ℕ → Read Alias
alias_at = made_at alias_from (both_at name_at (asked_at 0))

abbrev pub ace_from : List ℕ × (Option PrefixValue × (Option PrefixValue × (Option ℕ × (PortTest × (PortTest × Bool))))) → Ace
ace_from p = record { name = p.0; source = p.1.0; destination = p.1.1.0; protocol = p.1.1.1.0; source_port = p.1.1.1.1.0; destination_port = p.1.1.1.1.1.0; accept = p.1.1.1.1.1.1 }

abbrev pub conditions_at : ℕ → List ℕ → Read (Option ℕ × (PortTest × (PortTest × Bool)))
conditions_at = both_at (optional_at (within_at 0 255)) (both_at test_at (both_at test_at flag_at))

unfoldable pub ace_at : ℕ → List ℕ → Read Ace
ace_at = made_at ace_from (both_at name_at (both_at (optional_at prefix_at) (both_at (optional_at prefix_at) conditions_at)))

abbrev pub family_at : ℕ → List ℕ → Read Family
family_at = made_at (λ b. if b == 0 then V4 else V6) (within_at 0 1)

abbrev pub activation_of : ℕ → Activation
activation_of zero = activation.WhenMitigating
activation_of (suc zero) = activation.Immediate
activation_of (suc (suc n)) = activation.Deactivate

abbrev pub activation_at : ℕ → List ℕ → Read Activation
activation_at = made_at activation_of (within_at 0 2)

abbrev pub acl_from : List ℕ × (Family × (Activation × List Ace)) → Acl
acl_from p = record { name = p.0; family = p.1.0; activation = p.1.1.0; aces = p.1.1.1 }

unfoldable pub acl_at : ℕ → List ℕ → Read Acl
acl_at = made_at acl_from (both_at name_at (both_at family_at (both_at activation_at (list_at MAX_ACES ace_at))))

-- ---- mitigations and session configurations

abbrev pub target_from : List PrefixValue × (List Ports × List ℕ) → Target
target_from p = record { prefixes = p.0; ports = p.1.0; protocols = p.1.1 }

-- with at most so many prefixes
unfoldable pub target_at : ℕ → ℕ → List ℕ → Read Target
target_at room = made_at target_from (both_at (list_at room prefix_at) (both_at (list_at MAX_ITEMS ports_at) (counted_at MAX_ITEMS)))

-- so many targets, with at most so many prefixes together
unfoldable pub targets_at : ℕ → ℕ → ℕ → List ℕ → Read (List Target)
targets_at zero room end bytes = Ok ([], bytes)
targets_at (suc n) room end bytes = made_at prepended (pair_at (target_at room) (λ target. targets_at n (room - length target.prefixes))) end bytes

unfoldable pub all_targets_at : ℕ → List ℕ → Read (List Target)
all_targets_at = made_at second (pair_at (within_at 0 MAX_TARGETS) (λ n. targets_at n MAX_RESOLVED))

abbrev pub granted_at : ℕ → List ℕ → Read ℤ
granted_at = made_at (cast_signed w32) (number_at w32)

-- the trigger where the number of the change has this one
abbrev pub trigger_at : Format → Bool → ℕ → List ℕ → Read Bool
trigger_at One numbered = nothing_at numbered
trigger_at Two numbered = flag_at

abbrev pub put_from : ℕ × (Asked × (List Target × (ℤ × (ℕ × Bool)))) → Put
put_from p = record { mid = p.0; asked = p.1.0; targets = p.1.1.0; granted = p.1.1.1.0; start = p.1.1.1.1.0; trigger = p.1.1.1.1.1 }

-- where the number of the change has this trigger
unfoldable pub put_at : Format → Bool → ℕ → List ℕ → Read Put
put_at format numbered = made_at put_from (both_at (number_at w32) (both_at (asked_at MAX_NAMES) (both_at all_targets_at (both_at granted_at (both_at (number_at w64) (trigger_at format numbered))))))

abbrev pub values_from : ℕ × (ℕ × (ℕ × (ℕ × (ℕ × ℕ)))) → Values
values_from p = record { interval = p.0; missing = p.1.0; retransmit = p.1.1.0; timeout = p.1.1.1.0; factor = p.1.1.1.1.0; rate = p.1.1.1.1.1 }

unfoldable pub values_at : ℕ → List ℕ → Read Values
values_at = made_at values_from (both_at (number_at w32) (both_at (number_at w32) (both_at (number_at w32) (both_at (number_at w32) (both_at (number_at w32) (number_at w32))))))

abbrev pub config_from : Values × Values → Config
config_from p = record { mitigating = p.0; idle = p.1 }

unfoldable pub config_at : ℕ → List ℕ → Read Config
config_at = made_at config_from (both_at values_at values_at)

-- ---- entries

abbrev pub dropped_alias : List ℕ → Change
dropped_alias name = change.DropAlias name

-- the fields of a change of this number
unfoldable pub fields_at : Format → ℕ → ℕ → List ℕ → Read Change
fields_at format zero = nothing_at change.Register
fields_at format (suc zero) = made_at change.Put (put_at format true)
fields_at format (suc (suc zero)) = made_at change.Withdraw (number_at w32)
fields_at format (suc (suc (suc zero))) = made_at change.SetAlias alias_at
fields_at format (suc (suc (suc (suc zero)))) = made_at change.DropAlias name_at
fields_at format (suc (suc (suc (suc (suc zero))))) = made_at change.SetAcl acl_at
fields_at format (suc (suc (suc (suc (suc (suc zero)))))) = made_at change.DropAcl name_at
fields_at format (suc (suc (suc (suc (suc (suc (suc zero))))))) = nothing_at change.Register
fields_at format (suc (suc (suc (suc (suc (suc (suc (suc zero)))))))) = nothing_at change.Deregister
fields_at format (suc (suc (suc (suc (suc (suc (suc (suc (suc zero))))))))) = made_at (λ p. change.SetConfig p.0 p.1) (both_at (number_at w32) config_at)
fields_at format (suc (suc (suc (suc (suc (suc (suc (suc (suc (suc zero)))))))))) = nothing_at change.ClearConfig
fields_at format (suc (suc (suc (suc (suc (suc (suc (suc (suc (suc (suc zero))))))))))) = nothing_at change.Lost
fields_at format (suc (suc (suc (suc (suc (suc (suc (suc (suc (suc (suc (suc zero)))))))))))) = nothing_at change.Back
fields_at format (suc (suc (suc (suc (suc (suc (suc (suc (suc (suc (suc (suc (suc n))))))))))))) = made_at change.Put (put_at format false)

-- the greatest number of a change
abbrev pub last_number : Format → ℕ
last_number One = 13
last_number Two = 12

unfoldable pub change_at : Format → ℕ → List ℕ → Read Change
change_at format = made_at second (pair_at (within_at 1 (last_number format)) (fields_at format))

abbrev pub id_at : ℕ → ℕ → List ℕ → Read MessageKey
id_at zero = made_at (λ _. key.Http) (both_at (within_at 0 0) (within_at 0 0))
id_at (suc zero) = made_at key.Non (number_at w16)
id_at (suc (suc n)) = made_at key.Con (number_at w16)

unfoldable pub key_at : ℕ → List ℕ → Read MessageKey
key_at = made_at second (pair_at (within_at 0 2) id_at)

-- the length of a reply is in two bytes, the first of which is zero
unfoldable pub reply_at : ℕ → List ℕ → Read (List ℕ)
reply_at = made_at second (both_at (within_at 0 0) (counted_at 64))

abbrev pub entry_from : ℕ × (ℕ × (ℕ × (List ℕ × (MessageKey × (List ℕ × Change))))) → Entry
entry_from p = record { time = p.0; peer = p.1.0; domain = p.1.1.0; cuid = p.1.1.1.0; key = p.1.1.1.1.0; reply = p.1.1.1.1.1.0; change = p.1.1.1.1.1.1 }

abbrev pub tail_at : Format → ℕ → List ℕ → Read (MessageKey × (List ℕ × Change))
tail_at format = both_at key_at (both_at reply_at (change_at format))

unfoldable pub entry_at : Format → ℕ → List ℕ → Read Entry
entry_at format = made_at entry_from (both_at time_at (both_at (number_at w32) (both_at (number_at w16) (both_at (visible_at 0 64) (tail_at format)))))

-- what stands behind these bytes of the fields: nothing, or in the second format their seal
abbrev pub closing_at : Format → List ℕ → ℕ → List ℕ → Read (Unit {0})
closing_at One fields = nothing_at tt
closing_at Two fields = exactly_at (seal fields)

-- the whole record of an entry
unfoldable pub whole_at : Format → ℕ → List ℕ → Read Entry
whole_at format = made_at first (pair_at (entry_at format) (λ entry. closing_at format (body_bytes format entry)))

-- an entry whose bytes end where the input ends
abbrev pub alone : ℕ → Entry × List ℕ → Result Entry ℕ
alone end x = if length x.1 == 0 then Ok x.0 else Err (end - length x.1)

abbrev pub record_at : Format → List ℕ → Result Entry ℕ
record_at format bytes = whole_at format (length bytes) bytes >>= alone (length bytes)
