-- A message means one thing.
use Rattle.std.proofs.Common.{◌≡◌, ℕ, ◌==◌, true, false, Bool, List, [], ◌∷◌, ◌++◌, refl, sym, ap, subst, ◌∙◌, Option, Some, None, Result, Ok, Err}
use Rattle.std.specs.Prelude.{◌||◌, not, is_some}
use Rattle.std.specs.Bool.{MatchBool}
use Rattle.std.proofs.lemmas.Bool.{and_parts, or_from}
use Rattle.std.proofs.Math.Seq.{take-append_seam, take-length}
use Rattle.http_cut.specs.Requests.{Request}
use Rattle.serde_json.specs.Data.{Data}
use Rattle.data_channel.specs.declared.reject.RestReject.{RestReject}
use Rattle.data_channel.specs.declared.reject.RestReject.TheVariants as reject
use Rattle.data_channel.specs.declared.request.Head.{Head}
use Rattle.data_channel.specs.declared.request.Head.TheVariants.{Plain, Wants}
use Rattle.data_channel.specs.declared.request.RestRequest.{RestRequest}
use Rattle.data_channel.specs.declared.request.Wanted.{Wanted}
use Rattle.data_channel.specs.Heads.{verb_in, head_at, IsHead, is_yang_json}
use Rattle.data_channel.specs.Paths.{Place, lacks, is_path, IsTarget, IsAt}
use Rattle.data_channel.specs.Places.{path_of, has_query, place_in}
use Rattle.data_channel.specs.Rest.{IsJson, with_json, IsAnswer, ByHead, Rest}
use Rattle.data_channel.proofs.Fronts.{position_of_sign, position_of_none}
use Rattle.data_channel.proofs.Grammar.{read_is_path, path_reads}

-- ---- a target has one path, and a query or none

whole_path : (path : List ℕ) → is_path path ≡ true → path_of path ≡ path
whole_path path lack = rw (position_of_none 63 path lack, take-length path) refl

front_path : (path query : List ℕ) → is_path path ≡ true → path_of (path ++ 63 ∷ query) ≡ path
front_path path query lack = rw (position_of_sign 63 path query lack, take-append_seam path (63 ∷ query)) refl

one_path : (target path : List ℕ) (query : Option (List ℕ)) → IsTarget target path query → path ≡ path_of target
one_path target path None is = sym (ap path_of is.1 ∙ whole_path path is.0)
one_path target path (Some query) is = sym (ap path_of is.1 ∙ front_path path query is.0)

other_sign : (x : ℕ) → not (x == 63) ≡ true → (x == 63) ≡ false
other_sign x is = by_test (x == 63) is
  where
    by_test : (b : Bool) → not b ≡ true → b ≡ false
    by_test true is = sym is
    by_test false is = refl

no_query : (path : List ℕ) → lacks 63 path ≡ true → has_query path ≡ false
no_query [] lack = refl
no_query (x ∷ path) lack =
    let parts = and_parts (not (x == 63)) (lacks 63 path) lack in
    or_from (x == 63) (has_query path) (other_sign x parts.0) (no_query path parts.1)

a_query : (path query : List ℕ) → has_query (path ++ 63 ∷ query) ≡ true
a_query [] query = refl
a_query (x ∷ path) query = by_test (x == 63) (a_query path query)
  where
    by_test : (b : Bool) → has_query (path ++ 63 ∷ query) ≡ true → b || has_query (path ++ 63 ∷ query) ≡ true
    by_test true rest = refl
    by_test false rest = rest

one_query : (target path : List ℕ) (query : Option (List ℕ)) → IsTarget target path query → is_some query ≡ has_query target
one_query target path None is = sym (ap has_query is.1 ∙ no_query path is.0)
one_query target path (Some query) is = sym (ap has_query is.1 ∙ a_query path query)

-- ---- a path is of one resource, or of none

one_place : (path : List ℕ) (found : Option Place) → IsAt path found → found ≡ place_in path
one_place path (Some place) is = sym (path_reads path place is)
one_place path None none = by_place (place_in path) refl
  where
    by_place : (found : Option Place) → place_in path ≡ found → None ≡ found
    by_place None is = refl
    by_place (Some place) is = absurd (none place (read_is_path path place is))

-- ---- one head

one_head : (method target : List ℕ) (head : Result Head RestReject) → IsHead method target head
    → head ≡ head_at (place_in (path_of target)) (verb_in method) (has_query target)
one_head method target head is =
    is.5
    ∙ ap (λ o. head_at o (verb_in method) (is_some is.1)) (one_place is.0 is.2 is.4 ∙ ap place_in (one_path target is.0 is.1 is.3))
    ∙ ap (λ b. head_at (place_in (path_of target)) (verb_in method) b) (one_query target is.0 is.1 is.3)

-- ---- one body

one_json : (body : List ℕ) (one other : Option Data) → IsJson body one → IsJson body other → one ≡ other
one_json body (Some d) (Some e) is also = sym is.1 ∙ also.1
one_json body (Some d) None is also = sym is.1 ∙ also is.0
one_json body None (Some e) is also = sym (is also.0) ∙ also.1
one_json body None None is also = refl

one_answer : (wanted : Wanted) (media : Option (List ℕ)) (body : List ℕ) (one other : Result RestRequest RestReject)
    → IsAnswer wanted media body one → IsAnswer wanted media body other → one ≡ other
one_answer wanted media body one other is also = by_media (is_yang_json media) is also
  where
    by_media : (b : Bool)
        → MatchBool b ((json : Option Data) × IsJson body json × (one ≡ with_json wanted json)) (one ≡ Err reject.Media)
        → MatchBool b ((json : Option Data) × IsJson body json × (other ≡ with_json wanted json)) (other ≡ Err reject.Media)
        → one ≡ other
    by_media true is also = is.2 ∙ ap (with_json wanted) (one_json body is.0 also.0 is.1 also.1) ∙ sym also.2
    by_media false is also = is ∙ sym also

by_head : (head : Result Head RestReject) (media : Option (List ℕ)) (body : List ℕ) (one other : Result RestRequest RestReject)
    → ByHead head media body one → ByHead head media body other → one ≡ other
by_head (Err e) media body one other is also = is ∙ sym also
by_head (Ok (Plain asked)) media body one other is also = is ∙ sym also
by_head (Ok (Wants wanted)) media body one other is also = one_answer wanted media body one other is also

pub one_meaning : (message : Request) (one other : Result RestRequest RestReject) → Rest message one → Rest message other → one ≡ other
one_meaning message one other is also =
    let same : also.0 ≡ is.0 = one_head message.method message.target also.0 also.1 ∙ sym (one_head message.method message.target is.0 is.1) in
    by_head is.0 message.media message.body one other is.2 (subst (λ head. ByHead head message.media message.body other) same also.2)
