-- One more line is taken, or refused.
use Rattle.std.proofs.Common.{◌≡◌, ℕ, true, false, List, [], ◌∷◌, ◌++◌, None, Ok, map, refl, sym, ap, subst, ◌∙◌, append-nil, append_assoc, if◌then◌else◌}
use Rattle.std.specs.Borrow.{Bor}
use Rattle.std.proofs.lemmas.Grind.{flat_map-append}
use Rattle.sha2.specs.declared.Sha256.{Sha256}
use Rattle.sha2.specs.Hashers.{Holds256}
use Rattle.dots_settings.specs.declared.reading.Taken.{Taken}
use Rattle.dots_settings.specs.Lines.{is_skipped, fields_of}
use Rattle.dots_settings.specs.Form.{FormValue, Says, form_of}
use Rattle.dots_settings.specs.Row.{Row, row_of}
use Rattle.dots_settings.specs.Draft.{DraftValue, draft_of}
use Rattle.dots_settings.specs.Faults.{fault_of}
use Rattle.dots_settings.specs.Settings.{is_packet, hashed_of, digest_text}
use Rattle.dots_settings.specs.Admitting.{draft_value, admitted}
use Rattle.dots_settings.specs.Taking.{TakesLine}
use Rattle.dots_settings.proofs.Rows.{stand_then_skipped, stand_then_row}
use Rattle.dots_settings.proofs.Drafts.{draft_then}

digest_then : (rows : List Row) (row : Row) → digest_text (rows ++ row ∷ []) ≡ digest_text rows ++ hashed_of row
digest_then rows row = flat_map-append hashed_of rows (row ∷ []) ∙ ap (λ xs. digest_text rows ++ xs) (append-nil (hashed_of row))

pub skips_line : (taken : Taken) (line : List ℕ) → is_skipped line ≡ true → TakesLine line taken taken
skips_line taken line skipped = record {
  number = refl;
  taken = λ lines rows place has. (rows, record { stand = stand_then_skipped lines rows line has.stand skipped; said = has.said; hashed = has.hashed });
}

-- what is read of the fields of a line is what the line says
pub says_read : (line : List ℕ) (slice fields : List (Bor (List ℕ))) (form : FormValue) → slice ≡ fields → map (λ field. field.now) fields ≡ fields_of line
    → Ok form ≡ form_of (map (λ field. field.now) slice) → Says line form
says_read line slice fields form same are is = ap form_of (sym are ∙ ap (map (λ field. field.now)) (sym same)) ∙ sym is

pub takes_row : (old new : Taken) (line : List ℕ) (form : FormValue) → is_skipped line ≡ false → Says line form → fault_of (draft_value old.draft) old.number form ≡ None
    → draft_value new.draft ≡ admitted (draft_value old.draft) old.number form → new.number ≡ old.number
    → ((text : List ℕ) → Holds256 old.hasher text → Holds256 new.hasher (text ++ hashed_of (row_of old.number line form))) → TakesLine line old new
takes_row old new line form unskipped says none admits number hashes = record {
  number = number;
  taken = λ lines rows place has.
      let here : fault_of (draft_of rows) old.number form ≡ None = subst (λ (draft : DraftValue). fault_of draft old.number form ≡ None) has.said none in (
        rows ++ row_of old.number line form ∷ [],
        record {
          stand = stand_then_row lines rows line form old.number has.stand unskipped says place here;
          said = admits ∙ ap (λ draft. admitted draft old.number form) has.said ∙ sym (draft_then rows old.number line form here);
          hashed = subst (Holds256 new.hasher) (sym (digest_then rows (row_of old.number line form))) (hashes (digest_text rows) has.hashed);
        },
      );
}

pub packet_unhashed : (hasher : Sha256) (number : ℕ) (line : List ℕ) (form : FormValue) → is_packet form ≡ true → (text : List ℕ) → Holds256 hasher text → Holds256 hasher (text ++ hashed_of (row_of number line form))
packet_unhashed hasher number line form packet text holds =
    subst (Holds256 hasher) (sym (ap (λ b. text ++ (if b then [] else line ++ 10 ∷ [])) packet ∙ append-nil text)) holds

pub row_hashed : (old new : Sha256) (number : ℕ) (line : List ℕ) (form : FormValue) → is_packet form ≡ false → ((text : List ℕ) → Holds256 old text → Holds256 new (text ++ line ++ 10 ∷ []))
    → (text : List ℕ) → Holds256 old text → Holds256 new (text ++ hashed_of (row_of number line form))
row_hashed old new number line form other hashes text holds =
    subst (Holds256 new) (append_assoc text line (10 ∷ []) ∙ sym (ap (λ b. text ++ (if b then [] else line ++ 10 ∷ [])) other)) (hashes text holds)
