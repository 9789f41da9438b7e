-- Sources that were read, and files that are told of by their front.
use Rattle.std.proofs.Common.{◌≡◌, ℕ, ◌+◌, ◌^◌, ◌≤◌, List, ◌++◌, length, take, length-take, Option, Some, None, sym, ap, subst, ◌∙◌, append-nil, arith}
use Rattle.std.specs.Prelude.{IfSome}
use Rattle.std.specs.Io.KnownBytes.{Consumes, IsAtEnd}
use Rattle.std.proofs.lemmas.List.{take_all}
use Rattle.dots_settings.specs.declared.fault.SettingsFault.{SettingsFault}
use Rattle.dots_settings.specs.File.{SettingsFail}
use Rattle.dots_settings.specs.Lines.{content_of}
use Rattle.dots_settings.proofs.Files.{settings_of_file, fault_of_file}
use Rattle.dots_script.specs.declared.checked.Checked.{Checked}
use Rattle.dots_script.specs.declared.checked.Checked.TheVariants as checked
use Rattle.dots_script.specs.Checks.{ChecksSettings, ChecksScript, fault_report}

-- what was read to the end is all that was left
pub read_whole : (old new : Option (List ℕ)) (bytes : List ℕ) → Consumes old new bytes → IsAtEnd new → IfSome old (λ left. bytes ≡ left)
read_whole None new bytes c e = tt
read_whole (Some xs) None bytes c e = absurd c
read_whole (Some xs) (Some ys) bytes c e = sym (c ∙ ap (λ rest. bytes ++ rest) e ∙ append-nil bytes)

again : (file : List ℕ) → content_of (content_of file) ≡ content_of file
again file = take_all (2 ^ 16 + 1) (content_of file) (omega (arith, length-take (2 ^ 16 + 1) file))

-- that bytes which are read whole have this fault
pub fault_reported : (content text : List ℕ) (told : SettingsFault) → length content ≤ 2 ^ 16 + 1 → SettingsFail content told → text ≡ fault_report content told → ChecksSettings content (checked.AtFault text)
fault_reported content text told short fails is =
    (told, fails, is ∙ ap (λ (bytes : List ℕ). fault_report bytes told) (sym (take_all (2 ^ 16 + 1) content short)))

-- what is told of the bytes of a file that are read is told of the file
checks_file : (file : List ℕ) (told : Checked) → ChecksSettings (content_of file) told → ChecksSettings file told
checks_file file (checked.Good text) (settings, are, is) = (settings, settings_of_file file settings are, is)
checks_file file (checked.AtFault text) (told, fails, is) =
    (told, fault_of_file file told fails, is ∙ ap (λ (content : List ℕ). fault_report content told) (again file))

pub checks_settings : (left : Option (List ℕ)) (bytes : List ℕ) (told : Checked) → IfSome left (λ file. bytes ≡ take (2 ^ 16 + 1) file) → ChecksSettings bytes told
    → IfSome left (λ file. ChecksSettings file told)
checks_settings None bytes told read checks = tt
checks_settings (Some file) bytes told read checks = checks_file file told (subst (λ (xs : List ℕ). ChecksSettings xs told) read checks)

pub checks_script : (left : Option (List ℕ)) (bytes : List ℕ) (told : Checked) → IfSome left (λ file. bytes ≡ file) → ChecksScript bytes told
    → IfSome left (λ file. ChecksScript file told)
checks_script None bytes told read checks = tt
checks_script (Some file) bytes told read checks = subst (λ (xs : List ℕ). ChecksScript xs told) read checks
