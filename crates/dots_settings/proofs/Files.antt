-- A file means what its first 65,537 bytes do.
use Rattle.std.proofs.Common.{◌≡◌, ℕ, ◌+◌, ◌^◌, ◌≤◌, Bool, nat_lt, List, [], ◌∷◌, length, take, length-take, min, Option, Some, None, Result, Ok, Err, IfSome, IfOk, IfErr, refl, sym, ap, subst, ◌∙◌, arith}
use Rattle.std.proofs.lemmas.Bool.Decides.{nat_tests}
use Rattle.std.proofs.lemmas.List.{take_all}
use Rattle.std.specs.Bool.{MatchBool}
use Rattle.dots_settings.specs.declared.fault.SettingsFault.{SettingsFault}
use Rattle.dots_settings.specs.declared.fault.SettingsFault.TheVariants as fault
use Rattle.dots_settings.specs.Lines.{lines_of, content_of}
use Rattle.dots_settings.specs.File.{Stand, HasFault, SettingsAre, SettingsFail, IsRefused, is_past}
use Rattle.dots_settings.specs.Settings.{SettingsValue, settings_of}

small : (file : List ℕ) → length (content_of file) ≤ 2 ^ 16 + 1
small file = omega (arith, length-take (2 ^ 16 + 1) file)

again : (file : List ℕ) → content_of (content_of file) ≡ content_of file
again file = take_all (2 ^ 16 + 1) (content_of file) (small file)

pub settings_of_file : (file : List ℕ) (settings : SettingsValue) → SettingsAre (content_of file) settings → SettingsAre file settings
settings_of_file file settings are = record {
  rows = are.rows;
  stand = subst (λ (bytes : List ℕ). Stand (lines_of bytes) are.rows) (again file) are.stand;
  short = omega (arith, length-take (2 ^ 16 + 1) file, are.short);
  given = are.given ∙ ap (λ bytes. settings_of (length (lines_of bytes)) are.rows) (take_all (2 ^ 16 + 1) file (omega (arith, length-take (2 ^ 16 + 1) file, are.short)));
}

longer : (n m : ℕ) → m ≡ min (2 ^ 16 + 1) n → nat_lt (2 ^ 16) m ≡ nat_lt (2 ^ 16) n
longer n m e = grind (arith, nat_tests)

past_same : (file : List ℕ) (behind : List (List ℕ)) → is_past (content_of file) behind ≡ is_past file behind
past_same file [] = longer (length file) (length (content_of file)) (length-take (2 ^ 16 + 1) file)
past_same file (line ∷ behind) = refl

pub fault_of_file : (file : List ℕ) (why : SettingsFault) → SettingsFail (content_of file) why → SettingsFail file why
fault_of_file file why fail = record {
  before = fail.before;
  line = fail.line;
  behind = fail.behind;
  split = ap lines_of (sym (again file)) ∙ fail.split;
  rows = fail.rows;
  stand = fail.stand;
  at_fault = subst (λ (b : Bool). MatchBool b (why ≡ fault.Capacity (length fail.before + 1)) (HasFault fail.rows (length fail.before + 1) fail.line why)) (past_same file fail.behind) fail.at_fault;
}

refusal_of_file : (file : List ℕ) (why : SettingsFault) → IsRefused (content_of file) why → IsRefused file why
refusal_of_file file (fault.Line n) refused = fault_of_file file _ refused
refusal_of_file file (fault.Twice n) refused = fault_of_file file _ refused
refusal_of_file file (fault.Unknown n) refused = fault_of_file file _ refused
refusal_of_file file (fault.Overlap a b) refused = fault_of_file file _ refused
refusal_of_file file (fault.Capacity n) refused = fault_of_file file _ refused
refusal_of_file file fault.ReadFault refused = tt
refusal_of_file file fault.NoMemory refused = tt

pub read_settings_are : (left : Option (List ℕ)) (bytes : List ℕ) (result : Result SettingsValue SettingsFault) → IfSome left (λ file. bytes ≡ take (2 ^ 16 + 1) file) → IfOk result (SettingsAre bytes)
    → IfOk result (λ settings. IfSome left (λ file. SettingsAre file settings))
read_settings_are left bytes (Err why) read are = tt
read_settings_are None bytes (Ok settings) read are = tt
read_settings_are (Some file) bytes (Ok settings) read are = settings_of_file file settings (subst (λ (xs : List ℕ). SettingsAre xs settings) read are)

pub read_fault_is : (left : Option (List ℕ)) (bytes : List ℕ) (result : Result SettingsValue SettingsFault) → IfSome left (λ file. bytes ≡ take (2 ^ 16 + 1) file) → IfErr result (IsRefused bytes)
    → IfErr result (λ why. IfSome left (λ file. IsRefused file why))
read_fault_is left bytes (Ok settings) read refused = tt
read_fault_is None bytes (Err why) read refused = tt
read_fault_is (Some file) bytes (Err why) read refused = refusal_of_file file why (subst (λ (xs : List ℕ). IsRefused xs why) read refused)
