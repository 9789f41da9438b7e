-- What stands of a domain whose lines say what they said is what stood.
use Rattle.std.proofs.Common.{◌≡◌, ℕ, ◌+◌, ◌≤◌, Bool, true, false, cond, not, ◌&&◌, ◌||◌, List, [], ◌∷◌, ◌++◌, filter, map, Option, Some, None, inl, inr, refl, sym, ap, ◌∙◌, subst, le_refl, append_assoc, append-nil, arith}
use Rattle.std.specs.Prelude.{◌==◌, nat_lt, option_map, length}
use Rattle.std.specs.List.{list_any, list_all, AllByRecursion}
use Rattle.std.proofs.lemmas.Bool.{false≢true, cond-true, cond-false, and_parts, and_from, and_right, or_left, or_right, cases_Bool, eq-eqb, eqb-true, ne_eqb, eqb-false, false_from_ne_true}
use Rattle.std.proofs.lemmas.Option.{none-some, same_Some}
use Rattle.dots_settings.specs.Settings.{SettingsValue, IsSettings}
use Rattle.dots_history.specs.declared.entry.Entry.{Entry}
use Rattle.dots_history.specs.Entries.{same_client, put_of, ends, is_signal, signals, may_repeat, option_any}
use Rattle.dots_history.specs.Histories.{Mitigation, View, Kept, Within, Calm, tally, is_recent, or_else, remembered, mitigations, held, alone}
use Rattle.dots_history.specs.Keeping.{kept}
use Rattle.dots_history.specs.Views.{mitigations_of}
use Rattle.dots_history.specs.Calm.{is_of_settings, came_rightly, is_own, IsCalmBy}
use Rattle.dots_history.specs.Fits.{last_time, joins, is_calm}
use Rattle.dots_history.proofs.Apart.{apart}
use Rattle.dots_history.proofs.Isolating.{held_alone}
use Rattle.dots_history.proofs.Alone.{replies_alone}
use Rattle.dots_history.proofs.CalmCuts.{calm_at_end, calm_more, calm_parts, named_is_calm}
use Rattle.dots_history.proofs.Joining.{last_of_push}
use Rattle.dots_history.proofs.ViewLemmas.{dropping}
use Rattle.dots_history.proofs.HistoryReading.{read_of_view}
use Rattle.host_checks.specs.Migrating.{number_in, with_domain, carried, is_still_own, migrated, KeepsDomain, KeepsLines, StandsThere}
use Rattle.host_checks.proofs.Carrying.{to_domain, put_to, IsIn, mitigations_to, held_to, alone_in}
use Rattle.host_checks.proofs.Takings.{taken_calm, domain_kept}
use Rattle.host_checks.proofs.Numbers.{numbers_alone}
use Rattle.host_checks.proofs.SameLines.{own_still}

-- ---- replies to repeats
signals_to : (number peer domain : ℕ) (e : Entry) → IsIn domain e → signals peer number (to_domain number e) ≡ signals peer domain e
unfolding signals
signals_to number peer domain e own =
    ap (λ b. is_signal e.change && ((e.peer == peer) && b)) (eq-eqb number number refl ∙ sym (eq-eqb e.domain domain own))

tally_to : (number peer domain : ℕ) (later : List Entry) → AllByRecursion (IsIn domain) later → tally (signals peer number) (map (to_domain number) later) ≡ tally (signals peer domain) later
tally_to number peer domain [] all = refl
tally_to number peer domain (e ∷ later) all =
    ap (λ b. cond b 1 0 + tally (signals peer number) (map (to_domain number) later)) (signals_to number peer domain e all.0)
    ∙ ap (λ k. cond (signals peer domain e) 1 0 + k) (tally_to number peer domain later all.1)

recent_to : (n number domain : ℕ) (e : Entry) (later : List Entry) → IsIn domain e → AllByRecursion (IsIn domain) later
    → is_recent n (to_domain number e) (map (to_domain number) later) ≡ is_recent n e later
recent_to n number domain e later own all =
    ap (λ k. is_signal e.change && nat_lt k n) (tally_to number e.peer domain later all)
    ∙ ap (λ d. is_signal e.change && nat_lt (tally (signals e.peer d) later) n) (sym own)

either_to : (number : ℕ) (o : Option Entry) (b : Bool) (e : Entry)
    → or_else (option_map (to_domain number) o) (cond b (Some (to_domain number e)) None) ≡ option_map (to_domain number) (or_else o (cond b (Some e) None))
either_to number None true e = refl
either_to number None false e = refl
either_to number (Some x) true e = refl
either_to number (Some x) false e = refl

remembered_to : (number domain n t peer id : ℕ) (entries : List Entry) → AllByRecursion (IsIn domain) entries
    → remembered n t peer number id (map (to_domain number) entries) ≡ option_map (to_domain number) (remembered n t peer domain id entries)
remembered_to number domain n t peer id [] all = refl
remembered_to number domain n t peer id (e ∷ later) all =
    ap
    (λ o. or_else o (cond (signals peer number (to_domain number e) && (is_recent n (to_domain number e) (map (to_domain number) later) && may_repeat t id e.time e.key)) (Some (to_domain number e)) None))
    (remembered_to number domain n t peer id later all.1)
    ∙ ap
    (λ b. or_else (option_map (to_domain number) (remembered n t peer domain id later)) (cond (b && (is_recent n (to_domain number e) (map (to_domain number) later) && may_repeat t id e.time e.key)) (Some (to_domain number e)) None))
    (signals_to number peer domain e all.0)
    ∙ ap
    (λ b. or_else (option_map (to_domain number) (remembered n t peer domain id later)) (cond (signals peer domain e && (b && may_repeat t id e.time e.key)) (Some (to_domain number e)) None))
    (recent_to n number domain e later all.0 all.1)
    ∙ either_to number (remembered n t peer domain id later) (signals peer domain e && (is_recent n e later && may_repeat t id e.time e.key)) e

-- ---- of a domain that is kept
calm_of : (settings : SettingsValue) (entries : List Entry) → is_calm settings entries ≡ true → Calm entries
calm_of settings entries is = (calm_at_end settings (last_time entries) entries is (le_refl (last_time entries))).peers

own_lines : (old new : SettingsValue) (domain number : ℕ) (entries : List Entry) → IsSettings old → KeepsLines old new domain number → list_all (is_own old) entries ≡ true
    → list_all (λ (e : Entry). not (e.domain == domain) || is_of_settings new (with_domain e number)) entries ≡ true
own_lines old new domain number [] valid lines all = refl
own_lines old new domain number (e ∷ later) valid lines all =
    let parts = and_parts (is_own old e) (list_all (is_own old) later) all in
    and_from
    (not (e.domain == domain) || is_of_settings new (with_domain e number))
    (list_all (λ (x : Entry). not (x.domain == domain) || is_of_settings new (with_domain x number)) later)
    (elim (cases_Bool (e.domain == domain)) [
      | inl own ↦
          or_right
          (not (e.domain == domain))
          (is_of_settings new (with_domain e number))
          (own_still old new domain number e valid lines (eqb-true e.domain domain own) (and_parts (is_of_settings old e) (came_rightly e) parts.0).0)
      | inr other ↦ or_left (not (e.domain == domain)) (is_of_settings new (with_domain e number)) (ap not other)
    ])
    (own_lines old new domain number later valid lines parts.1)

pub lines_keep : (old new : SettingsValue) (domain number : ℕ) (entries : List Entry) → IsSettings old → KeepsLines old new domain number → is_calm old entries ≡ true
    → KeepsDomain old new domain number entries
lines_keep old new domain number entries valid lines calm = record {
  number_is = lines.number_is;
  own = own_lines old new domain number entries valid lines (calm_at_end old (last_time entries) entries calm (le_refl (last_time entries))).own;
  limits = lines.limits;
}

pub entries_kept : (old new : SettingsValue) (domain number : ℕ) (entries : List Entry) → IsSettings old → IsSettings new → is_calm old entries ≡ true → KeepsDomain old new domain number entries
    → alone number (migrated old new entries) ≡ map (to_domain number) (alone domain entries)
entries_kept old new domain number entries valid valid_new calm keeps =
    domain_kept old new domain number entries calm (numbers_alone old new domain number valid valid_new keeps.number_is) keeps

pub stands_there : (old new : SettingsValue) (domain number n t : ℕ) (history : List Entry) → IsSettings old → IsSettings new → is_calm old history ≡ true → last_time history ≤ t
    → KeepsLines old new domain number → StandsThere n t domain number history (migrated old new (kept n t history))
stands_there old new domain number n t history valid valid_new calm less lines =
    let few = kept n t history in
    let there = migrated old new few in
    let calm_few = named_is_calm old n t history calm in
    let at_end = calm_at_end old t history calm less in
    let same = read_of_view n t few history (dropping n t history at_end.times at_end.peers).same_view in
    let alike = entries_kept old new domain number few valid valid_new calm_few (lines_keep old new domain number few valid lines calm_few) in
    let own = alone_in domain few in
    record {
      mitigations = sym (apart number t there)
          ∙ ap (mitigations t) alike
          ∙ mitigations_to number domain t (alone domain few) own
          ∙ ap (map (put_to number)) (apart domain t few ∙ ap (mitigations_of domain) same.live);
      held = sym (held_alone number there (calm_of new there (taken_calm old new [] few refl)))
          ∙ ap held alike
          ∙ held_to number domain (alone domain few) own
          ∙ ap (map (to_domain number)) (held_alone domain few (calm_of old few calm_few) ∙ ap (alone domain) same.written);
      replies = λ peer id.
          sym (replies_alone n t peer number id there)
          ∙ ap (remembered n t peer number id) alike
          ∙ remembered_to number domain n t peer id (alone domain few) own
          ∙ ap (option_map (to_domain number)) (replies_alone n t peer domain id few ∙ same.replies peer domain id);
    }
