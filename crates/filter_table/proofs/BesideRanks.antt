-- What stands beside ranks once there is one more, one less, or the first level alone.
use Rattle.std.proofs.Common.{◌≡◌, ℕ, ◌<◌, List, map, length, take, drop, sym, ap, subst, ◌∙◌, arith}
use Rattle.std.specs.List.{insert, remove}
use Rattle.std.proofs.lemmas.List.{drop-map, length-map}
use Rattle.filter_table.specs.declared.rank.Rank.{Rank}
use Rattle.filter_table.specs.declared.level.Level.{Level}
use Rattle.filter_table.specs.Ranks.{slot_of, place_of, with_rank}
use Rattle.filter_table.specs.Numbers.{low_of}
use Rattle.filter_table.specs.Levels.{levels_of, one_more, one_less}
use Rattle.filter_table.specs.RankLaws.{AreRanked}
use Rattle.filter_table.specs.Beside.{StandBeside}
use Rattle.filter_table.proofs.Each.{map_insert, map_remove}
use Rattle.filter_table.proofs.Order.{place_within, taken_back}
use Rattle.filter_table.proofs.Ranked.{ranked_with, ranked_without, ranked_back, kinds_rise}
use Rattle.filter_table.proofs.Counting.{levels_with, levels_without}
use Rattle.filter_table.proofs.Runs.{FirstLevel}

pub beside_with : (rank : Rank) (ranks later : List Rank) (numbers more slots others : List ℕ) (levels counts : List Level) (at : ℕ) → StandBeside ranks numbers slots levels
    → at ≡ place_of rank ranks → later ≡ insert ranks at rank → more ≡ insert numbers at (low_of rank) → others ≡ insert slots at (slot_of rank) → counts ≡ one_more rank.kind levels
    → StandBeside later more others counts
beside_with rank ranks later numbers more slots others levels counts at beside here rows news ones counted =
    let all : later ≡ with_rank rank ranks = rows ∙ ap (λ (n : ℕ). insert ranks n rank) here in
    record {
      in_order = subst AreRanked (sym all) (ranked_with rank ranks beside.in_order);
      numbers_are = news ∙ ap (λ ns. insert ns at (low_of rank)) beside.numbers_are ∙ sym (map_insert low_of ranks at rank) ∙ ap (map low_of) (sym rows);
      slots_are = ones ∙ ap (λ ns. insert ns at (slot_of rank)) beside.slots_are ∙ sym (map_insert slot_of ranks at rank) ∙ ap (map slot_of) (sym rows);
      levels_are = counted ∙ ap (one_more rank.kind) beside.levels_are ∙ sym (levels_with rank ranks (kinds_rise ranks beside.in_order)) ∙ ap levels_of (sym all);
    }

pub beside_without : (rank : Rank) (ranks rest later : List Rank) (numbers fewer slots others : List ℕ) (levels counts : List Level) (at : ℕ) → StandBeside ranks numbers slots levels
    → ranks ≡ with_rank rank rest
    → at ≡ place_of rank ranks → later ≡ remove ranks at → fewer ≡ remove numbers at → others ≡ remove slots at → counts ≡ one_less rank.kind levels
    → StandBeside later fewer others counts
beside_without rank ranks rest later numbers fewer slots others levels counts at beside split here rows news ones counted =
    let left : later ≡ rest = rows ∙ ap (remove ranks) here ∙ ap (λ rs. remove rs (place_of rank rs)) split ∙ taken_back rank rest in
    let order : AreRanked later = subst AreRanked (sym rows) (ranked_without ranks at beside.in_order) in
    record {
      in_order = order;
      numbers_are = news ∙ ap (λ ns. remove ns at) beside.numbers_are ∙ sym (map_remove low_of ranks at) ∙ ap (map low_of) (sym rows);
      slots_are = ones ∙ ap (λ ns. remove ns at) beside.slots_are ∙ sym (map_remove slot_of ranks at) ∙ ap (map slot_of) (sym rows);
      levels_are = counted ∙ ap (one_less rank.kind) beside.levels_are
          ∙ sym (ap levels_of left ∙ levels_without rank ranks rest split (kinds_rise rest (subst AreRanked left order)));
    }

pub beside_behind : (ranks later : List Rank) (numbers fewer slots others : List ℕ) (levels : List Level) (l : Level) (ls : List Level) → StandBeside ranks numbers slots levels → FirstLevel l ls ranks
    → later ≡ drop l.len ranks → fewer ≡ drop l.len numbers → others ≡ drop l.len slots → StandBeside later fewer others ls
beside_behind ranks later numbers fewer slots others levels l ls beside first rows news ones = record {
  in_order = subst AreRanked (sym rows) (ranked_back l.len ranks beside.in_order);
  numbers_are = news ∙ ap (drop l.len) beside.numbers_are ∙ drop-map low_of l.len ranks ∙ ap (map low_of) (sym rows);
  slots_are = ones ∙ ap (drop l.len) beside.slots_are ∙ drop-map slot_of l.len ranks ∙ ap (map slot_of) (sym rows);
  levels_are = sym first.later ∙ ap levels_of (sym rows);
}

-- a rank that is there has a place
pub place_there : (rank : Rank) (ranks rest : List Rank) → ranks ≡ with_rank rank rest → place_of rank ranks < length ranks
place_there rank ranks rest split = subst (λ rs. place_of rank rs < length rs) (sym split) (place_within rank rest)
