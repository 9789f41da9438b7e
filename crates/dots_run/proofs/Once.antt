-- What is to be told is one text.
use Rattle.std.proofs.Common.{◌≡◌, ℕ, List, Option, Some, sym, ap, ◌∙◌, subst}
use Rattle.dots_settings.specs.declared.fault.SettingsFault.{SettingsFault}
use Rattle.dots_settings.specs.Lines.{content_of}
use Rattle.dots_settings.specs.Settings.{SettingsValue}
use Rattle.dots_settings.proofs.OneFile.{no_settings_at_fault, one_settings, one_fault}
use Rattle.dots_script.specs.declared.checked.Checked.{Checked}
use Rattle.dots_script.specs.declared.checked.Checked.TheVariants as checked
use Rattle.dots_script.specs.Checks.{ChecksSettings, ChecksScript, fault_report}
use Rattle.dots_script.specs.Summary.{summary}
use Rattle.dots_run.specs.declared.topic.Topic.{Topic}
use Rattle.dots_run.specs.declared.topic.Topic.TheVariants as topic
use Rattle.dots_run.specs.Load.{ReportsLoad}
use Rattle.dots_run.specs.Reporting.{Comes, IsOf}
use Rattle.dots_run.proofs.Loads.{one_report}
use Rattle.dots_run.proofs.Scripts.{one_check}

one_settings_check : (file : List ℕ) (one other : Checked) → ChecksSettings file one → ChecksSettings file other → one ≡ other
one_settings_check file (checked.Good text) (checked.Good other) (settings, are, text_is) (settings', are', other_is) =
    ap checked.Good (text_is ∙ ap (λ (s : SettingsValue). summary s) (one_settings file settings settings' are are') ∙ sym other_is)
one_settings_check file (checked.Good text) (checked.AtFault other) (settings, are, text_is) (fault, fails, other_is) = absurd (no_settings_at_fault file settings fault are fails)
one_settings_check file (checked.AtFault text) (checked.Good other) (fault, fails, text_is) (settings, are, other_is) = absurd (no_settings_at_fault file settings fault are fails)
one_settings_check file (checked.AtFault text) (checked.AtFault other) (fault, fails, text_is) (fault', fails', other_is) =
    ap checked.AtFault (text_is ∙ ap (λ (f : SettingsFault). fault_report (content_of file) f) (one_fault file fault fault' fails fails') ∙ sym other_is)

some_once : (x y : List ℕ) (left : Option (List ℕ)) → left ≡ Some x → left ≡ Some y → x ≡ y
some_once x y left a b = cc (sym a ∙ b)

once : (check : List ℕ → Checked → Type 0) → ((file : List ℕ) (one other : Checked) → check file one → check file other → one ≡ other)
    → (left : Option (List ℕ)) (one other : Checked) → Comes check left one → Comes check left other → one ≡ other
once check law left one other a b = law a.bytes one other a.is (subst (λ bytes. check bytes other) (some_once b.bytes a.bytes left b.told a.told) b.is)

one_load : (number : ℕ) (one other : Checked) → ReportsLoad number one → ReportsLoad number other → one ≡ other
one_load number (checked.Good text) (checked.Good other) a b = ap checked.Good (one_report number text other a b)
one_load number (checked.Good text) (checked.AtFault other) a b = absurd b
one_load number (checked.AtFault text) other a b = absurd a

pub one_text : (topic : Topic) (left : Option (List ℕ)) (one other : Checked) → IsOf topic left one → IsOf topic left other → one ≡ other
one_text topic.Settings left one other a b = once ChecksSettings one_settings_check left one other a b
one_text topic.Script left one other a b = once ChecksScript one_check left one other a b
one_text topic.Usage left one other a b = a ∙ sym b
one_text topic.Version left one other a b = a ∙ sym b
one_text (topic.Load number) left one other a b = one_load number one other a b
