-- An exchange and its entry are each read from the other.
use Rattle.std.proofs.Common.{◌≡◌, ℕ, zero, suc, ◌+◌, ◌<◌, ◌≤◌, Bool, true, false, List, [], ◌∷◌, ◌++◌, length, take, drop, get_or, refl, sym, ap, ◌∙◌, take-append-drop, arith}
use Rattle.std.specs.Prelude.{◌^◌, ◌==◌, ◌&&◌, not, nat_le, nat_lt, Some, None, unwrap_or, IsTrue}
use Rattle.std.specs.Option.{is_some}
use Rattle.std.specs.Int.{w64, to_be_bytes, from_be_bytes}
use Rattle.std.specs.List.{AllByRecursion}
use Rattle.std.proofs.lemmas.Bool.{false≢true, and_parts, and_from, eqb-true, leb-true, le-leb, lt-ltb, cond-true, cond-false, not-true}
use Rattle.std.proofs.lemmas.Nat.{be_bytes_8, from_be_bytes-to_be_bytes_8}
use Rattle.std.proofs.lemmas.List.{length-take-le}
use Rattle.dots_history.specs.declared.entry.Entry.{Entry}
use Rattle.dots_history.specs.declared.change.Change.{Change}
use Rattle.dots_history.specs.declared.change.Change.TheVariants as change
use Rattle.dots_history.specs.Bounds.{within_bounds}
use Rattle.dots_history.specs.Calm.{is_http}
use Rattle.dots_history.specs.Capacities.{is_registration}
use Rattle.dots_gateway.specs.declared.exchange.Exchange.{Exchange}
use Rattle.slot_journal.specs.Values.{IsEntry, IsByte}
use Rattle.gateway_agent.specs.Forms.{exchange_domain, entry_of, is_form, is_form_of_reply, exchange_in, is_of_request}

-- ---- the parts of an entry of this form

record IsForm (e : Entry) : Type 0 where
  domain : e.domain ≡ exchange_domain
  cuid : length e.cuid ≡ 0
  key : is_http e.key ≡ false
  least : 8 ≤ length e.reply
  most : length e.reply ≤ 16
  change : is_registration e.change ≡ true

form_parts : (e : Entry) → is_form e ≡ true → IsForm e
form_parts e is =
    let a = and_parts (e.domain == exchange_domain) _ is in
    let b = and_parts (length e.cuid == 0) _ a.1 in
    let c = and_parts (not (is_http e.key)) _ b.1 in
    let d = and_parts (is_form_of_reply (length e.reply)) (is_registration e.change) c.1 in
    let r = and_parts (nat_le 8 (length e.reply)) (nat_le (length e.reply) 16) d.0 in
    record {
      domain = eqb-true e.domain exchange_domain a.0;
      cuid = eqb-true (length e.cuid) 0 b.0;
      key = not-true (is_http e.key) c.0;
      least = leb-true 8 (length e.reply) r.0;
      most = leb-true (length e.reply) 16 r.1;
      change = d.1;
    }

pub form_domain : (e : Entry) → is_form e ≡ true → e.domain ≡ exchange_domain
form_domain e is = (form_parts e is).domain

-- ---- back from its entry

pub token_small : (x : Exchange) → is_of_request x ≡ true → length x.token ≤ 8
token_small x is = leb-true (length x.token) 8 (and_parts (not (is_http x.key)) (nat_le (length x.token) 8) is).1

reply_size : (x : Exchange) → length (to_be_bytes w64 x.number ++ x.token) ≡ 8 + length x.token
reply_size x = omega arith

has_form : (x : Exchange) → is_of_request x ≡ true → is_form (entry_of x) ≡ true
unfolding is_registration
has_form x is =
    let parts = and_parts (not (is_http x.key)) (nat_le (length x.token) 8) is in
    let small = leb-true (length x.token) 8 parts.1 in
    let size = reply_size x in
    and_from (not (is_http x.key)) (is_form_of_reply (length (to_be_bytes w64 x.number ++ x.token)) && true) parts.0
    (and_from (is_form_of_reply (length (to_be_bytes w64 x.number ++ x.token))) true
    (and_from (nat_le 8 (length (to_be_bytes w64 x.number ++ x.token))) (nat_le (length (to_be_bytes w64 x.number ++ x.token)) 16)
    (le-leb 8 (length (to_be_bytes w64 x.number ++ x.token)) (omega (arith, size)))
    (le-leb (length (to_be_bytes w64 x.number ++ x.token)) 16 (omega (arith, size, small))))
    refl)

pub back : (x : Exchange) → is_of_request x ≡ true → x.number < 2 ^ 64 → exchange_in (entry_of x) ≡ Some x
back x is small =
    cond-true (is_form (entry_of x)) _ None (has_form x is)
    ∙ ap (λ (n : ℕ). Some (record { number = n; peer = x.peer; key = x.key; token = x.token; time = x.time })) (from_be_bytes-to_be_bytes_8 x.number small)

-- ---- the entry alone

pub some_same : {A : Type 0} (x y : A) → Some x ≡ Some y → x ≡ y
some_same x y is = ap (λ o. unwrap_or o x) is

none_some : {A : Type 0} (x : A) → None ≡ Some x → ⊥
none_some x is = false≢true (ap is_some is)

nothing_long : (xs : List ℕ) → length xs ≡ 0 → xs ≡ []
nothing_long [] none = refl
nothing_long (x ∷ xs) none = absurd (omega (arith, none))

registers : (c : Change) → is_registration c ≡ true → c ≡ change.Register
unfolding is_registration
registers change.Register is = refl
registers (change.Put put) is = absurd (false≢true is)
registers (change.Withdraw mid) is = absurd (false≢true is)
registers (change.SetAlias alias) is = absurd (false≢true is)
registers (change.DropAlias name) is = absurd (false≢true is)
registers (change.SetAcl acl) is = absurd (false≢true is)
registers (change.DropAcl name) is = absurd (false≢true is)
registers change.Deregister is = absurd (false≢true is)
registers (change.SetConfig sid config) is = absurd (false≢true is)
registers change.ClearConfig is = absurd (false≢true is)
registers change.Lost is = absurd (false≢true is)
registers change.Back is = absurd (false≢true is)

byte_at : (xs : List ℕ) (i : ℕ) → AllByRecursion IsByte xs → get_or xs i 0 < 256
byte_at [] i fits = omega arith
byte_at (x ∷ xs) zero fits = let first = fits.0 in omega (arith, first)
byte_at (x ∷ xs) (suc i) fits = byte_at xs i fits.1

take_bytes : (n : ℕ) (xs : List ℕ) → AllByRecursion IsByte xs → AllByRecursion IsByte (take n xs)
take_bytes zero xs fits = tt
take_bytes (suc n) [] fits = tt
take_bytes (suc n) (x ∷ xs) fits = (fits.0, take_bytes n xs fits.1)

reply_back : (reply : List ℕ) → AllByRecursion IsByte reply → 8 ≤ length reply → reply ≡ to_be_bytes w64 (from_be_bytes w64 (take 8 reply)) ++ drop 8 reply
reply_back reply fits least =
    sym (take-append-drop 8 reply)
    ∙ ap (λ l. l ++ drop 8 reply)
    (sym (be_bytes_8 (take 8 reply) (from_be_bytes w64 (take 8 reply)) (length-take-le 8 reply least) (λ i. byte_at (take 8 reply) i (take_bytes 8 reply fits)) refl))

-- what is read of an entry of this form
abbrev read_of : Entry → Exchange
read_of e = record { number = from_be_bytes w64 (take 8 e.reply); peer = e.peer; key = e.key; token = drop 8 e.reply; time = e.time }

is_its_entry : (e : Entry) → IsEntry e → IsForm e → e ≡ entry_of (read_of e)
is_its_entry e typed form =
    let domain = form.domain in
    let cuid = nothing_long e.cuid form.cuid in
    let reply = reply_back e.reply typed.reply form.least in
    let registered = registers e.change form.change in
    λ i. record { time = e.time; peer = e.peer; domain = domain i; cuid = cuid i; key = e.key; reply = reply i; change = registered i }

pub only : (e : Entry) (x : Exchange) → IsEntry e → exchange_in e ≡ Some x → e ≡ entry_of x
only e x typed is = by_form (is_form e) refl
  where
    by_form : (b : Bool) → is_form e ≡ b → e ≡ entry_of x
    by_form true form =
        is_its_entry e typed (form_parts e form)
        ∙ ap entry_of (some_same (read_of e) x (sym (cond-true (is_form e) (Some (read_of e)) None form) ∙ is))
    by_form false other = absurd (none_some x (sym (cond-false (is_form e) (Some (read_of e)) None other) ∙ is))

pub none_is_read : (e : Entry) → is_form e ≡ false → exchange_in e ≡ None
none_is_read e other = cond-false (is_form e) (Some (read_of e)) None other

pub none_read : (e : Entry) (x : Exchange) → is_form e ≡ false → exchange_in e ≡ Some x → ⊥
none_read e x other is = none_some x (sym (none_is_read e other) ∙ is)

-- ---- bounds

pub fits_bounds : (x : Exchange) → x.time < 2 ^ 48 → length x.token ≤ 8 → IsTrue (within_bounds (entry_of x))
fits_bounds x early small =
    let size = reply_size x in
    and_from (nat_lt x.time (2 ^ 48) && true && nat_le (length (to_be_bytes w64 x.number ++ x.token)) 64) true
    (and_from (nat_lt x.time (2 ^ 48) && true) (nat_le (length (to_be_bytes w64 x.number ++ x.token)) 64)
    (and_from (nat_lt x.time (2 ^ 48)) true (lt-ltb x.time (2 ^ 48) early) refl)
    (le-leb (length (to_be_bytes w64 x.number ++ x.token)) 64 (omega (arith, size, small))))
    refl
