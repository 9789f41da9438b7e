-- A reading of a string or of parts, as one of the item that they make.
use Rattle.std.proofs.Common.{◌≡◌, ℕ, List, Ok, sym, ap, ◌∙◌}
use Rattle.cbor_profile.specs.declared.fault.CborFault.{CborFault}
use Rattle.cbor_profile.specs.declared.item.Item.{Bytes, Text, Array, Map}
use Rattle.cbor_profile.specs.declared.item.ItemList.{ItemList}
use Rattle.cbor_profile.specs.declared.item.PairList.{PairList}
use Rattle.cbor_profile.specs.Tree.{Tree, byte_string, text}
use Rattle.cbor_profile.specs.ItemTrees.{tree_of, trees, tree_pairs}
use Rattle.cbor_profile.specs.ItemReading.{Read, Fails, as_bytes, as_text, as_array, as_map}
use Rattle.cbor_profile.proofs.Loops.{fails_then}
use Rattle.cbor_profile.proofs.ItemTrees.{tree_of-Bytes, tree_of-Text, tree_of-Array, tree_of-Map}

made : (t u : Tree) (rest : List ℕ) (read : Read Tree) → read ≡ Ok (u, rest) → t ≡ u → read ≡ Ok (t, rest)
made t u rest read good is = good ∙ ap (λ (t : Tree). Ok (t, rest)) (sym is)

pub bytes_made : (read : Read (List ℕ)) (bytes rest : List ℕ) → read ≡ Ok (bytes, rest) → as_bytes read ≡ Ok (tree_of (Bytes bytes), rest)
bytes_made read bytes rest good = made _ (byte_string bytes) rest _ (ap as_bytes good) (tree_of-Bytes bytes)

pub text_made : (read : Read (List ℕ)) (bytes rest : List ℕ) → read ≡ Ok (bytes, rest) → as_text read ≡ Ok (tree_of (Text bytes), rest)
text_made read bytes rest good = made _ (text bytes) rest _ (ap as_text good) (tree_of-Text bytes)

pub array_made : (read : Read (List Tree)) (list : ItemList) (rest : List ℕ) → read ≡ Ok (trees list, rest) → as_array read ≡ Ok (tree_of (Array list), rest)
array_made read list rest good = made _ _ rest _ (ap as_array good) (tree_of-Array list)

pub map_made : (read : Read (List (Tree × Tree))) (list : PairList) (rest : List ℕ) → read ≡ Ok (tree_pairs list, rest) → as_map read ≡ Ok (tree_of (Map list), rest)
map_made read list rest good = made _ _ rest _ (ap as_map good) (tree_of-Map list)

pub bytes_fails : (e : CborFault) (read : Read (List ℕ)) → Fails e read → Fails e (as_bytes read)
bytes_fails e read = fails_then e read (as_bytes read) (λ f bad. ap as_bytes bad)

pub text_fails : (e : CborFault) (read : Read (List ℕ)) → Fails e read → Fails e (as_text read)
text_fails e read = fails_then e read (as_text read) (λ f bad. ap as_text bad)

pub array_fails : (e : CborFault) (read : Read (List Tree)) → Fails e read → Fails e (as_array read)
array_fails e read = fails_then e read (as_array read) (λ f bad. ap as_array bad)

pub map_fails : (e : CborFault) (read : Read (List (Tree × Tree))) → Fails e read → Fails e (as_map read)
map_fails e read = fails_then e read (as_map read) (λ f bad. ap as_map bad)
