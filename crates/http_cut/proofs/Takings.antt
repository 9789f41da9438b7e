-- Requests that are taken from a stream, one call behind the other.
use Rattle.std.proofs.Common.{◌≡◌, true, false, zero, suc, get_or, flat_map, ℕ, ◌<◌, ◌≤◌, List, [], ◌∷◌, ◌++◌, length, take, drop, refl, sym, ap, subst, ◌∙◌, append_assoc, arith, inl, inr}
use Rattle.std.specs.Prelude.{Bool, Result, Ok, Err, IsErrAnd, OnErr, IfOk, ◌==◌, ◌||◌, ◌⊎◌}
use Rattle.std.proofs.lemmas.Bool.{eqb-true, both_ways}
use Rattle.std.proofs.lemmas.List.{append-nil, take-append-drop, map-append, nil_from_length}
use Rattle.std.proofs.lemmas.List.Folds.{list_any-append}
use Rattle.std.proofs.lemmas.Result.{err_from_is_err_and}
use Rattle.dots_lists.specs.declared.memory.NoMemory.{NoMemory}
use Rattle.http_cut.specs.declared.owned.OwnedRequest.{OwnedRequest}
use Rattle.http_cut.specs.declared.stream_end.StreamEnd.{StreamEnd}
use Rattle.http_cut.specs.declared.stream_end.StreamEnd.TheVariants.{Waits, Closes, Refused}
use Rattle.http_cut.specs.Requests.{Request, takes, waits, IsCut}
use Rattle.http_cut.specs.Streams.{IsFirst, ClosesLast, AreRequests, any_closes, HasEnd, IsStream, IsOpen, Buffers, IsBuffered, AreTaken, Ends, AreTakenTo, is_waiting, IsAll, AreTakenOf}
use Rattle.http_cut.specs.Owned.{owned_value, owned_values}
use Rattle.http_cut.proofs.Streams.{requests_append, requests_join, refused_still, one_stream}

pub taken_none : (bytes : List ℕ) (before : List Request) → AreTaken bytes before before bytes
taken_none bytes before = record { requests = []; added = sym (append-nil before); whole = refl; open_yet = refl }

-- requests of which none closes, and then others
any_behind : (first second : List Request) → any_closes first ≡ false → any_closes (first ++ second) ≡ any_closes second
any_behind first second goes_on = list_any-append (λ request. request.close) first second ∙ ap (λ (b : Bool). b || any_closes second) goes_on

added_then : (x y z first second : List Request) → y ≡ x ++ first → z ≡ y ++ second → z ≡ x ++ (first ++ second)
added_then x y z first second is then_is = then_is ∙ ap (λ (r : List Request). r ++ second) is ∙ append_assoc x first second

-- requests were taken, and then others as far as there were any
pub taken_to : (a b c : List ℕ) (x y z : List Request) (end : Result StreamEnd NoMemory) → AreTaken a x y b → AreTakenTo b y z c end → AreTakenTo a x z c end
taken_to a b c x y z end first second = record {
  requests = first.requests ++ second.requests;
  added = added_then x y z first.requests second.requests first.added second.added;
  whole = requests_join a b c first.requests second.requests first.open_yet first.whole second.whole;
  ends = subst (λ (closed : Bool). Ends end closed c) (sym (any_behind first.requests second.requests first.open_yet)) second.ends;
}

pub taken_append : (a b more : List ℕ) (x y : List Request) → AreTaken a x y b → AreTaken (a ++ more) x y (b ++ more)
taken_append a b more x y taken = record { requests = taken.requests; added = taken.added; whole = requests_append a more taken.requests b taken.whole; open_yet = taken.open_yet }

-- of bytes in other words
pub taken_of : (a b c : List ℕ) (x y : List Request) → a ≡ b → AreTaken a x y c → AreTaken b x y c
taken_of a b c x y e taken = subst (λ (z : List ℕ). AreTaken z x y c) e taken

pub taken_to_of : (a b c : List ℕ) (x y : List Request) (end : Result StreamEnd NoMemory) → a ≡ b → AreTakenTo a x y c end → AreTakenTo b x y c end
taken_to_of a b c x y end e taken = subst (λ (z : List ℕ). AreTakenTo z x y c end) e taken

-- the taking ends here
pub taken_here : (a b : List ℕ) (x y : List Request) (end : Result StreamEnd NoMemory) → AreTaken a x y b → Ends end false b → AreTakenTo a x y b end
taken_here a b x y end taken ends = record {
  requests = taken.requests;
  added = taken.added;
  whole = taken.whole;
  ends = subst (λ (closed : Bool). Ends end closed b) (sym taken.open_yet) ends;
}

-- the taking goes on where more is waited for
pub goes_on : (a b : List ℕ) (x y : List Request) (end : Result StreamEnd NoMemory) → is_waiting end ≡ true → AreTakenTo a x y b end → AreTaken a x y b × IsCut b waits
goes_on a b x y (Ok Waits) is taken = (record { requests = taken.requests; added = taken.added; whole = taken.whole; open_yet = taken.ends.0 }, taken.ends.1)
goes_on a b x y (Ok Closes) is taken = absurd (both_ways false refl is)
goes_on a b x y (Ok (Refused fault)) is taken = absurd (both_ways false refl is)
goes_on a b x y (Err fault) is taken = absurd (both_ways false refl is)

pub waiting_end : (b : List ℕ) → IsCut b waits → Ends (Ok Waits) false b
waiting_end b cut = (refl, cut)

-- ---- a request more

cut_first : (buffered : List ℕ) (request : Request) → IsCut buffered (takes request) → IsFirst buffered request
cut_first buffered request (inl x) = x
cut_first buffered request (inr x) = absurd x.1

-- no memory for the request that stands in front
lacking : (a buffered : List ℕ) (x y : List Request) (request : Request) (fault : NoMemory) → AreTaken a x y buffered → IsCut buffered (takes request) → AreTakenTo a x y buffered (Err fault)
lacking a buffered x y request fault taken cut = taken_here a buffered x y (Err fault) taken (refl, (request, cut_first buffered request cut))

pub lacking_by : (a buffered : List ℕ) (x y : List Request) (request : Request) (r : Result StreamEnd NoMemory) (Q : NoMemory → Type 0) → IsErrAnd r Q → AreTaken a x y buffered → IsCut buffered (takes request) → AreTakenTo a x y buffered r
lacking_by a buffered x y request r Q failed taken cut =
    let p = err_from_is_err_and r failed in
    subst (λ (z : Result StreamEnd NoMemory). AreTakenTo a x y buffered z) (sym p.1) (lacking a buffered x y request p.0 taken cut)

-- a copy that was pushed
views_more : (items pushed : List OwnedRequest) (copy : OwnedRequest) (request : Request) → pushed ≡ items ++ copy ∷ [] → owned_value copy ≡ request → owned_values pushed ≡ owned_values items ++ request ∷ []
views_more items pushed copy request is same =
    ap (λ (y : List OwnedRequest). owned_values y) is ∙ map-append owned_value items (copy ∷ []) ∙ ap (λ (r : Request). owned_values items ++ r ∷ []) same

or_false : (b : Bool) → (b || false) ≡ b
or_false true = refl
or_false false = refl

-- one request more, the last where it closes
record OneMore (start : List ℕ) (before after : List Request) (left : List ℕ) (close : Bool) : Type 0 where
  requests : List Request
  added : after ≡ before ++ requests
  whole : AreRequests start requests left
  closing : any_closes requests ≡ close

one_more : (start buffered left : List ℕ) (before : List Request) (items pushed : List OwnedRequest) (copy : OwnedRequest) (request : Request) → AreTaken start before (owned_values items) buffered → IsCut buffered (takes request)
    → pushed ≡ items ++ copy ∷ [] → owned_value copy ≡ request → left ≡ drop request.size buffered → OneMore start before (owned_values pushed) left request.close
one_more start buffered left before items pushed copy request taken cut is same left_is =
    let last = request ∷ [] in record {
      requests = taken.requests ++ last;
      added = added_then before (owned_values items) (owned_values pushed) taken.requests last taken.added (views_more items pushed copy request is same);
      whole = requests_join start buffered left taken.requests last taken.open_yet taken.whole (cut_first buffered request cut, last_one request.close, sym left_is);
      closing = any_behind taken.requests last taken.open_yet ∙ or_false request.close;
    }
  where
    last_one : (b : Bool) → ClosesLast b []
    last_one true = refl
    last_one false = tt

pub one_open : (start buffered left : List ℕ) (before : List Request) (items pushed : List OwnedRequest) (copy : OwnedRequest) (request : Request) → AreTaken start before (owned_values items) buffered → IsCut buffered (takes request)
    → pushed ≡ items ++ copy ∷ [] → owned_value copy ≡ request → left ≡ drop request.size buffered → request.close ≡ false → AreTaken start before (owned_values pushed) left
one_open start buffered left before items pushed copy request taken cut is same left_is stays =
    let more = one_more start buffered left before items pushed copy request taken cut is same left_is in
    record { requests = more.requests; added = more.added; whole = more.whole; open_yet = more.closing ∙ stays }

pub one_closed : (start buffered left : List ℕ) (before : List Request) (items pushed : List OwnedRequest) (copy : OwnedRequest) (request : Request) → AreTaken start before (owned_values items) buffered → IsCut buffered (takes request)
    → pushed ≡ items ++ copy ∷ [] → owned_value copy ≡ request → left ≡ drop request.size buffered → request.close ≡ true → AreTakenTo start before (owned_values pushed) left (Ok Closes)
one_closed start buffered left before items pushed copy request taken cut is same left_is closes =
    let more = one_more start buffered left before items pushed copy request taken cut is same left_is in
    record { requests = more.requests; added = more.added; whole = more.whole; ends = more.closing ∙ closes }

-- ---- pieces

pub empty : (bytes : List ℕ) → true ≡ (length bytes == 0) → bytes ≡ []
empty bytes e = nil_from_length bytes (eqb-true (length bytes) 0 (sym e))

pub not_empty : (bytes : List ℕ) → false ≡ (length bytes == 0) → 0 < length bytes
not_empty [] e = absurd (both_ways true (sym e) refl)
not_empty (b ∷ bytes) e = omega arith

-- no end but waiting has all bytes
pub all_left : (end : Result StreamEnd NoMemory) (left : List ℕ) → is_waiting end ≡ false → IsAll (is_waiting end) left
all_left end left is = subst (λ (b : Bool). IsAll b left) (sym is) tt

pub all_come : (end : Result StreamEnd NoMemory) (left : List ℕ) → is_waiting end ≡ true → IsAll (is_waiting end) left → left ≡ []
all_come end left is all = subst (λ (b : Bool). IsAll b left) is all

-- some bytes of a piece came, and what is buffered is the rest of all that came
pub record HasCome (old piece rest : List ℕ) (before after : List Request) (buffered : List ℕ) : Type 0 where
  pub came : List ℕ
  pub parts : piece ≡ came ++ rest
  pub taken : AreTaken (old ++ came) before after buffered

pub come_none : (old piece : List ℕ) (before : List Request) → HasCome old piece piece before before old
come_none old piece before = record { came = []; parts = refl; taken = taken_of old (old ++ []) old before before (sym (append-nil old)) (taken_none old before) }

pub come_then : (old piece rest buffered buffered_then : List ℕ) (before after after_then : List Request) (end : Result StreamEnd NoMemory) → is_waiting end ≡ true
    → HasCome old piece rest before after buffered → AreTakenTo buffered after after_then buffered_then end → HasCome old piece rest before after_then buffered_then × IsCut buffered_then waits
come_then old piece rest buffered buffered_then before after after_then end is come taken =
    let on = goes_on (old ++ come.came) buffered_then before after_then end is (taken_to (old ++ come.came) buffered buffered_then before after after_then end come.taken taken) in
    (record { came = come.came; parts = come.parts; taken = on.0 }, on.1)

pub come_more : (old piece rest buffered left buffered_then : List ℕ) (before after : List Request) (n : ℕ) → HasCome old piece rest before after buffered → buffered_then ≡ buffered ++ take n rest → left ≡ drop n rest
    → HasCome old piece left before after buffered_then
come_more old piece rest buffered left buffered_then before after n come is left_is =
    let more = take n rest in record {
      came = come.came ++ more;
      parts = come.parts ∙ ap (λ (y : List ℕ). come.came ++ y) (sym (take-append-drop n rest) ∙ ap (λ (y : List ℕ). more ++ y) (sym left_is)) ∙ sym (append_assoc come.came more left);
      taken = subst (λ (y : List ℕ). AreTaken (old ++ (come.came ++ more)) before after y) (sym is)
          (taken_of ((old ++ come.came) ++ more) (old ++ (come.came ++ more)) (buffered ++ more) before after (append_assoc old come.came more) (taken_append (old ++ come.came) buffered more before after come.taken));
    }

pub come_ends : (old piece rest buffered buffered_then : List ℕ) (before after after_then : List Request) (end : Result StreamEnd NoMemory) → is_waiting end ≡ false
    → HasCome old piece rest before after buffered → AreTakenTo buffered after after_then buffered_then end → AreTakenOf old piece before after_then buffered_then end
come_ends old piece rest buffered buffered_then before after after_then end is come taken = record {
  came = come.came;
  left = rest;
  parts = come.parts;
  taken = taken_to (old ++ come.came) buffered buffered_then before after after_then end come.taken taken;
  all = all_left end rest is;
}

pub come_all : (old piece rest buffered : List ℕ) (before after : List Request) → rest ≡ [] → HasCome old piece rest before after buffered → IsCut buffered waits → AreTakenOf old piece before after buffered (Ok Waits)
come_all old piece rest buffered before after none come cut = record {
  came = come.came;
  left = rest;
  parts = come.parts;
  taken = taken_here (old ++ come.came) buffered before after (Ok Waits) come.taken (refl, cut);
  all = none;
}

module _ {X : Type 0} (f : X → List ℕ) where
  flat_map_drop : (xs : List X) (i : ℕ) (d : X) → i < length xs → flat_map f (drop i xs) ≡ f (get_or xs i d) ++ flat_map f (drop (suc i) xs)
  flat_map_drop [] i d within = absurd (omega (arith, within))
  flat_map_drop (y ∷ ys) zero d within = refl
  flat_map_drop (y ∷ ys) (suc i) d within = flat_map_drop ys i d (omega (arith, within))

  -- a piece of which all came
  pub next_piece : (old buffered buffered_then text : List ℕ) (xs : List X) (i : ℕ) (d : X) (before after after_then : List Request) (end : Result StreamEnd NoMemory) → i < length xs → text ≡ f (get_or xs i d) → is_waiting end ≡ true
      → HasCome old (flat_map f xs) (flat_map f (drop i xs)) before after buffered → AreTakenOf buffered text after after_then buffered_then end
      → HasCome old (flat_map f xs) (flat_map f (drop (suc i) xs)) before after_then buffered_then × IsCut buffered_then waits
  next_piece old buffered buffered_then text xs i d before after after_then end within is waiting come taken =
      let rest = flat_map f (drop (suc i) xs) in
      let whole : text ≡ taken.came = taken.parts ∙ ap (λ (y : List ℕ). taken.came ++ y) (all_come end taken.left waiting taken.all) ∙ append-nil taken.came in
      let split : flat_map f (drop i xs) ≡ taken.came ++ rest = flat_map_drop xs i d within ∙ ap (λ (y : List ℕ). y ++ rest) (sym is ∙ whole) in
      let start = old ++ come.came in
      let on = goes_on (start ++ taken.came) buffered_then before after_then end waiting
      (taken_to (start ++ taken.came) (buffered ++ taken.came) buffered_then before after after_then end (taken_append start buffered taken.came before after come.taken) taken.taken) in (
        record {
          came = come.came ++ taken.came;
          parts = come.parts ∙ ap (λ (y : List ℕ). come.came ++ y) split ∙ sym (append_assoc come.came taken.came rest);
          taken = taken_of (start ++ taken.came) (old ++ (come.came ++ taken.came)) buffered_then before after_then (append_assoc old come.came taken.came) on.0;
        },
        on.1,
      )

  -- a piece in which the taking ended
  pub last_piece : (old buffered buffered_then text : List ℕ) (xs : List X) (i : ℕ) (d : X) (before after after_then : List Request) (end : Result StreamEnd NoMemory) → i < length xs → text ≡ f (get_or xs i d) → is_waiting end ≡ false
      → HasCome old (flat_map f xs) (flat_map f (drop i xs)) before after buffered → AreTakenOf buffered text after after_then buffered_then end
      → AreTakenOf old (flat_map f xs) before after_then buffered_then end
  last_piece old buffered buffered_then text xs i d before after after_then end within is over come taken =
      let rest = flat_map f (drop (suc i) xs) in
      let split : flat_map f (drop i xs) ≡ taken.came ++ (taken.left ++ rest) =
      flat_map_drop xs i d within ∙ ap (λ (y : List ℕ). y ++ rest) (sym is ∙ taken.parts) ∙ append_assoc taken.came taken.left rest in
      let start = old ++ come.came in record {
        came = come.came ++ taken.came;
        left = taken.left ++ rest;
        parts = come.parts ∙ ap (λ (y : List ℕ). come.came ++ y) split ∙ sym (append_assoc come.came taken.came (taken.left ++ rest));
        taken = taken_to_of (start ++ taken.came) (old ++ (come.came ++ taken.came)) buffered_then before after_then end (append_assoc old come.came taken.came)
            (taken_to (start ++ taken.came) (buffered ++ taken.came) buffered_then before after after_then end (taken_append start buffered taken.came before after come.taken) taken.taken);
        all = all_left end (taken.left ++ rest) over;
      }

-- no pieces are left
pub no_piece : {X : Type 0} (f : X → List ℕ) (xs : List X) (i : ℕ) → length xs ≤ i → flat_map f (drop i xs) ≡ []
no_piece f [] zero within = refl
no_piece f [] (suc i) within = refl
no_piece f (x ∷ xs) zero within = absurd (omega (arith, within))
no_piece f (x ∷ xs) (suc i) within = no_piece f xs i (omega (arith, within))

-- ---- all of a stream

all_bytes : (old brought came left : List ℕ) → brought ≡ came ++ left → (old ++ came) ++ left ≡ old ++ brought
all_bytes old brought came left parts = append_assoc old came left ∙ ap (λ (y : List ℕ). old ++ y) (sym parts)

pub buffered_of : (old brought : List ℕ) (out : List Request) (buffered : List ℕ) (end : Result StreamEnd NoMemory) → AreTakenOf old brought [] out buffered end → IsBuffered old brought out buffered
buffered_of old brought out buffered end taken = record {
  came = taken.came;
  left = taken.left;
  parts = taken.parts;
  whole = subst (λ (r : List Request). AreRequests (old ++ taken.came) r buffered) (sym taken.taken.added) taken.taken.whole;
}

end_still : (end : StreamEnd) (closed : Bool) (buffered left : List ℕ) → IsAll (is_waiting (Ok end)) left → HasEnd end closed buffered → HasEnd end closed (buffered ++ left)
end_still Waits closed buffered left all ends = (ends.0, subst (λ (y : List ℕ). IsCut y waits) (sym (ap (λ (y : List ℕ). buffered ++ y) all ∙ append-nil buffered)) ends.1)
end_still Closes closed buffered left all ends = ends
end_still (Refused fault) closed buffered left all ends = (ends.0, refused_still buffered left fault ends.1)

buffers : (end : StreamEnd) (closed : Bool) (buffered left : List ℕ) → IsAll (is_waiting (Ok end)) left → HasEnd end closed buffered → Buffers end buffered (buffered ++ left)
buffers Waits closed buffered left all ends = sym (ap (λ (y : List ℕ). buffered ++ y) all ∙ append-nil buffered)
buffers Closes closed buffered left all ends = (left, refl)
buffers (Refused fault) closed buffered left all ends = (left, refl, ends.1)

stream_here : (old brought : List ℕ) (out : List Request) (buffered : List ℕ) (end : StreamEnd) → AreTakenOf old brought [] out buffered (Ok end)
    → (rest : List ℕ) × IsStream (old ++ brought) out end rest × Buffers end buffered rest
stream_here old brought out buffered end taken =
    let left = taken.left in
    let requests = taken.taken.requests in
    let here : AreRequests (old ++ brought) requests (buffered ++ left) =
    subst (λ (y : List ℕ). AreRequests y requests (buffered ++ left)) (all_bytes old brought taken.came left taken.parts) (requests_append (old ++ taken.came) left requests buffered taken.taken.whole) in
    let ends = end_still end (any_closes requests) buffered left taken.all taken.taken.ends in (
      buffered ++ left,
      record {
        whole = subst (λ (r : List Request). AreRequests (old ++ brought) r (buffered ++ left)) (sym taken.taken.added) here;
        ends = subst (λ (r : List Request). HasEnd end (any_closes r) (buffered ++ left)) (sym taken.taken.added) ends;
      },
      buffers end (any_closes requests) buffered left taken.all taken.taken.ends,
    )

pub stream_of : (old brought : List ℕ) (out : List Request) (buffered : List ℕ) (end : Result StreamEnd NoMemory) → AreTakenOf old brought [] out buffered end
    → IfOk end (λ end. (rest : List ℕ) × IsStream (old ++ brought) out end rest × Buffers end buffered rest)
stream_of old brought out buffered (Ok end) taken = stream_here old brought out buffered end taken
stream_of old brought out buffered (Err fault) taken = tt

pub only_stream : (old brought : List ℕ) (out : List Request) (buffered : List ℕ) (end : Result StreamEnd NoMemory) → AreTakenOf old brought [] out buffered end
    → IfOk end (λ end. (requests : List Request) (other : StreamEnd) (rest : List ℕ) → IsStream (old ++ brought) requests other rest → (out ≡ requests) × ((end ≡ other) ⊎ IsOpen rest))
only_stream old brought out buffered (Ok end) taken = λ requests other rest is.
    let here = stream_here old brought out buffered end taken in
    one_stream (old ++ brought) out requests end other here.0 rest here.1 is
only_stream old brought out buffered (Err fault) taken = tt

pub lacked_of : (old brought : List ℕ) (out : List Request) (buffered : List ℕ) (end : Result StreamEnd NoMemory) → AreTakenOf old brought [] out buffered end
    → OnErr end ((any_closes out ≡ false) × ((request : Request) × IsFirst buffered request))
lacked_of old brought out buffered (Ok end) taken = tt
lacked_of old brought out buffered (Err fault) taken = (ap (λ (r : List Request). any_closes r) taken.taken.added ∙ taken.taken.ends.0, taken.taken.ends.1)
