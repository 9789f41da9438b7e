-- Resources and their paths.
use Rattle.std.proofs.Common.{◌≡◌, ℕ, Bool, true, false, List, [], ◌∷◌, ◌++◌, length, take, drop, codes, Option, Some, None, refl, sym, ap, ◌∙◌, append_assoc, append-nil, cond}
use Rattle.std.proofs.lemmas.List.{take-append-drop}
use Rattle.std.specs.Prelude.{◌&&◌, bytes_eq}
use Rattle.std.proofs.lemmas.Bool.{and_parts}
use Rattle.std.proofs.lemmas.Slice.Eq.{bytes_eq-Decides}
use Rattle.dots_keys.specs.Paths.{Resource, mitigation, config, heartbeat, parameter, resource_path, path_of, take_parameter, ended, mitigation_at, config_at, resource_named, resource_at}

-- ---- the resource of a path is read of it

pub read_back : (resource : Resource) → resource_at (path_of resource) ≡ Some resource
read_back (mitigation None None None) = refl
read_back (mitigation None None (Some mid)) = refl
read_back (mitigation None (Some cuid) None) = refl
read_back (mitigation None (Some cuid) (Some mid)) = refl
read_back (mitigation (Some cdid) None None) = refl
read_back (mitigation (Some cdid) None (Some mid)) = refl
read_back (mitigation (Some cdid) (Some cuid) None) = refl
read_back (mitigation (Some cdid) (Some cuid) (Some mid)) = refl
read_back (config None) = refl
read_back (config (Some sid)) = refl
read_back heartbeat = refl

-- ---- what is read of a path has it

same_bytes : (a b : List ℕ) → bytes_eq a b ≡ true → a ≡ b
same_bytes a b same = (bytes_eq-Decides a b).0 same

-- a choice that gives something
chosen : {A : Type 0} (b : Bool) (o : Option A) (x : A) → cond b o None ≡ Some x → (b ≡ true) × (o ≡ Some x)
chosen true o x is = (refl, is)
chosen false o x is = absurd (cc)

abbrev left_of : List ℕ → List (List ℕ) → List (List ℕ)
left_of name segments = parameter name (take_parameter name segments).0 ++ (take_parameter name segments).1

taken : (name : List ℕ) (segments : List (List ℕ)) → left_of name segments ≡ segments
taken name [] = refl
taken name (segment ∷ segments) = begins (bytes_eq (take (length name) segment) name) refl
  where
    begins : (b : Bool) → bytes_eq (take (length name) segment) name ≡ b → left_of name (segment ∷ segments) ≡ segment ∷ segments
    begins true same =
        let front : name ++ drop (length name) segment ≡ segment =
        ap (λ (f : List ℕ). f ++ drop (length name) segment) (sym (same_bytes (take (length name) segment) name same)) ∙ take-append-drop (length name) segment in
        rw same (ap (λ (s : List ℕ). s ∷ segments) front)
    begins false same = rw same refl

ended_is : (resource found : Resource) (segments : List (List ℕ)) → ended resource segments ≡ Some found → (segments ≡ []) × (resource ≡ found)
ended_is resource found [] is = (refl, cc)
ended_is resource found (segment ∷ segments) is = absurd (cc)

mitigation_path : (segments : List (List ℕ)) (found : Resource) → mitigation_at segments ≡ Some found → codes "mitigate" ∷ segments ≡ resource_path found
mitigation_path segments found is =
    let cdid = take_parameter (codes "cdid=") segments in
    let cuid = take_parameter (codes "cuid=") cdid.1 in
    let mid = take_parameter (codes "mid=") cuid.1 in
    let end = ended_is (mitigation cdid.0 cuid.0 mid.0) found mid.1 is in
    let a = parameter (codes "cdid=") cdid.0 in
    let b = parameter (codes "cuid=") cuid.0 in
    let m = parameter (codes "mid=") mid.0 in
    let last : cuid.1 ≡ m = sym (taken (codes "mid=") cuid.1) ∙ ap (λ (l : List (List ℕ)). m ++ l) end.0 ∙ append-nil m in
    let middle : cdid.1 ≡ b ++ m = sym (taken (codes "cuid=") cdid.1) ∙ ap (λ (l : List (List ℕ)). b ++ l) last in
    let whole : segments ≡ (a ++ b) ++ m = sym (taken (codes "cdid=") segments) ∙ ap (λ (l : List (List ℕ)). a ++ l) middle ∙ sym (append_assoc a b m) in
    ap (λ (l : List (List ℕ)). codes "mitigate" ∷ l) whole ∙ ap (λ (r : Resource). resource_path r) end.1

config_path : (segments : List (List ℕ)) (found : Resource) → config_at segments ≡ Some found → codes "config" ∷ segments ≡ resource_path found
config_path segments found is =
    let sid = take_parameter (codes "sid=") segments in
    let end = ended_is (config sid.0) found sid.1 is in
    let a = parameter (codes "sid=") sid.0 in
    let whole : segments ≡ a = sym (taken (codes "sid=") segments) ∙ ap (λ (l : List (List ℕ)). a ++ l) end.0 ∙ append-nil a in
    ap (λ (l : List (List ℕ)). codes "config" ∷ l) whole ∙ ap (λ (r : Resource). resource_path r) end.1

heartbeat_path : (segments : List (List ℕ)) (found : Resource) → ended heartbeat segments ≡ Some found → codes "hb" ∷ segments ≡ resource_path found
heartbeat_path segments found is =
    let end = ended_is heartbeat found segments is in
    ap (λ (l : List (List ℕ)). codes "hb" ∷ l) end.0 ∙ ap (λ (r : Resource). resource_path r) end.1

named_path : (name : List ℕ) (segments : List (List ℕ)) (found : Resource) → resource_named name segments ≡ Some found → name ∷ segments ≡ resource_path found
named_path name segments found is = mitigate (bytes_eq name (codes "mitigate")) (bytes_eq name (codes "config")) (bytes_eq name (codes "hb")) refl refl refl is
  where
    mitigate : (a b c : Bool) → bytes_eq name (codes "mitigate") ≡ a → bytes_eq name (codes "config") ≡ b → bytes_eq name (codes "hb") ≡ c
        → cond a (mitigation_at segments) (cond b (config_at segments) (cond c (ended heartbeat segments) None)) ≡ Some found → name ∷ segments ≡ resource_path found
    mitigate true b c is_a is_b is_c is = ap (λ (n : List ℕ). n ∷ segments) (same_bytes name (codes "mitigate") is_a) ∙ mitigation_path segments found is
    mitigate false true c is_a is_b is_c is = ap (λ (n : List ℕ). n ∷ segments) (same_bytes name (codes "config") is_b) ∙ config_path segments found is
    mitigate false false true is_a is_b is_c is = ap (λ (n : List ℕ). n ∷ segments) (same_bytes name (codes "hb") is_c) ∙ heartbeat_path segments found is
    mitigate false false false is_a is_b is_c is = absurd (cc)

pub has_path : (segments : List (List ℕ)) (resource : Resource) → resource_at segments ≡ Some resource → segments ≡ path_of resource
has_path [] resource is = absurd (cc)
has_path (a ∷ []) resource is = absurd (cc)
has_path (a ∷ b ∷ []) resource is = absurd (cc)
has_path (a ∷ b ∷ name ∷ segments) resource is =
    let root = chosen (bytes_eq a (codes ".well-known") && bytes_eq b (codes "dots")) (resource_named name segments) resource is in
    let parts = and_parts (bytes_eq a (codes ".well-known")) (bytes_eq b (codes "dots")) root.0 in
    let first : a ≡ codes ".well-known" = same_bytes a (codes ".well-known") parts.0 in
    let second : b ≡ codes "dots" = same_bytes b (codes "dots") parts.1 in
    ap (λ (s : List ℕ). s ∷ b ∷ name ∷ segments) first ∙ ap (λ (s : List ℕ). codes ".well-known" ∷ s ∷ name ∷ segments) second
    ∙ ap (λ (l : List (List ℕ)). codes ".well-known" ∷ codes "dots" ∷ l) (named_path name segments resource root.1)
