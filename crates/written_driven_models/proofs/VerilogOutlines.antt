-- A written driver is one section.
use Rattle.std.proofs.Common.{◌≡◌, ℕ, suc, ◌+◌, Bool, false, List, [], ◌∷◌, ◌++◌, length, Option, refl, sym, ap, subst, ◌∙◌}
use Rattle.std.proofs.Common.{arith, codes, append_assoc, length-append}
use Rattle.std.proofs.lemmas.Bool.{or_parts}
use Rattle.std.specs.Str.{bytes_eq}
use Rattle.written_modules.specs.verilog_tokens.Tokens.{Token, scan, lexis}
use Rattle.driver_models.specs.declared.model.DriverModel.{DriverModel}
use Rattle.verilog_drivers.specs.DriverText.{driver_section, driver_text}
use Rattle.written_modules.specs.driver_sections.Marks.{ends}
use Rattle.written_modules.specs.driver_sections.Sections.{section_length}
use Rattle.written_modules.proofs.grammar_reader.Fronts.{Front, Anything}
use Rattle.written_modules.proofs.grammar_reader.Spelling.{SpellsBy, barred_less, literal, behind}
use Rattle.written_modules.specs.section_outlines.Marked.{begins, ends_next}
use Rattle.written_modules.specs.section_outlines.VerilogMarks.{verilog_marks}
use Rattle.written_modules.proofs.section_outlines.Offsets.{behind_pair, over_token}
use Rattle.written_modules.proofs.section_outlines.Passing.{section_is}
use Rattle.written_modules.proofs.section_outlines.Outlined.{Outlined, IsSection, plain, section_before}
use Rattle.written_modules.proofs.Spelling.{verilog, Spells}
use Rattle.written_driven_models.proofs.VerilogTokens.{IsNamedDriver, inner_text, inner_tokens, inner_spelled, before_is}

-- no section begins in what is spelled
pub no_beginning : {P : List ℕ → Type 0} {t u : Bool} {text : List ℕ} {f : Front} → Spells P t text f u
    → SpellsBy lexis (begins verilog verilog_marks) P t text f u
no_beginning h = barred_less (λ t x s e.
    (or_parts (begins verilog verilog_marks t x s) (ends_next verilog verilog_marks t x s) e).0) h

no_end : {P : List ℕ → Type 0} {t u : Bool} {text : List ℕ} {f : Front} → Spells P t text f u
    → SpellsBy lexis (ends_next verilog verilog_marks) P t text f u
no_end h = barred_less (λ t x s e. (or_parts (begins verilog verilog_marks t x s) (ends_next verilog verilog_marks t x s) e).1) h

-- The driver without its last word.

first_line : SpellsBy lexis (ends_next verilog verilog_marks) Anything false (codes "`celldefine\n")
    (λ s. codes "`celldefine" ∷ s) false
first_line = literal (λ r. refl) refl

abbrev front : DriverModel → List ℕ
front d = codes "`celldefine\n" ++ inner_text d

front_spelled : (d : DriverModel) → IsNamedDriver d
    → SpellsBy lexis (ends_next verilog verilog_marks) Anything false (front d) (λ s. codes "`celldefine" ∷ inner_tokens d s)
    false
front_spelled d h = behind first_line (no_end (inner_spelled d h))

-- The last word, before a line end.

last_word : (at : ℕ) (r : List ℕ) →
    ends bytes_eq verilog_marks.ending false (scan false at 0 (codes "`endcelldefine" ++ (10 ∷ r))).0 ≡ (at + 14) ∷ ends bytes_eq
    verilog_marks.ending false (scan false (at + 14) 0 (10 ∷ r)).0
last_word at r =
    let x : Token = record { at = at; bytes = codes "`endcelldefine" } in
    let rest : List Token × Option ℕ = scan false (at + 14) 0 (10 ∷ r) in
    ap (λ (found : List Token × Option ℕ). ends bytes_eq verilog_marks.ending false found.0)
    (over_token lexis false at 96 (codes "endcelldefine") (10 ∷ r) refl refl)
    ∙ ap (ends bytes_eq verilog_marks.ending false) (behind_pair lexis x rest)

-- The section.

-- the section behind its first byte
abbrev section_behind : DriverModel → List ℕ
section_behind d = codes "celldefine\n" ++ (inner_text d ++ codes "`endcelldefine")

parts : (a b c d : List ℕ) → (a ++ (b ++ c)) ++ d ≡ (a ++ b) ++ (c ++ d)
parts a b c d =
    append_assoc a (b ++ c) d ∙ ap (λ (s : List ℕ). a ++ s) (append_assoc b c d) ∙ sym (append_assoc a b (c ++ d))

size : (d : DriverModel) → IsNamedDriver d → (r : List ℕ)
    → section_length verilog verilog_marks ((96 ∷ section_behind d) ++ (10 ∷ r)) ≡ suc (length (section_behind d))
size d h r =
    let last : List ℕ = codes "`endcelldefine" in
    let n : length (front d) + 14 ≡ suc (length (section_behind d)) =
    omega (
      arith,
      length-append (codes "`celldefine\n") (inner_text d),
      length-append (codes "celldefine\n")
          (inner_text d ++ last),
      length-append (inner_text d) last,
    ) in
    ap (section_length verilog verilog_marks) (parts (codes "`celldefine\n") (inner_text d) last (10 ∷ r))
    ∙ section_is verilog verilog_marks ((front_spelled d h).passes (last ++ (10 ∷ r)) tt) (length (front d) + 14)
    (ends bytes_eq verilog_marks.ending false (scan false (length (front d) + 14) 0 (10 ∷ r)).0) (last_word (length (front d)) r)
    ∙ n

is_section : (d : DriverModel) → IsNamedDriver d → (r : List ℕ)
    → IsSection verilog verilog_marks false 96 (section_behind d) (10 ∷ r)
is_section d h r = record { less = 10; alone = refl; token = refl; begun = refl; size = size d h r }

line_end : SpellsBy lexis (begins verilog verilog_marks) Anything false (codes "\n") (λ s. s) false
line_end = literal (λ r. refl) refl

section_same : (d : DriverModel) → driver_section d ≡ 96 ∷ section_behind d
unfolding driver_section
section_same d = before_is d (codes "`endcelldefine")

text_same : (d : DriverModel) → driver_text d ≡ (96 ∷ section_behind d) ++ codes "\n"
unfolding driver_text
text_same d =
    before_is d (codes "`endcelldefine\n")
    ∙ ap (λ (s : List ℕ). codes "`celldefine\n" ++ s) (sym (append_assoc (inner_text d) (codes "`endcelldefine") (codes "\n")))

-- a driver's text is a section and a line end
pub driver_outlined : (d : DriverModel) → IsNamedDriver d
    → Outlined verilog verilog_marks false (driver_text d) (λ s. s) (driver_section d ∷ []) false
driver_outlined d h =
    subst (λ (x : List ℕ). Outlined verilog verilog_marks false (driver_text d) (λ s. s) (x ∷ []) false) (sym (section_same d))
    (subst (λ (x : List ℕ). Outlined verilog verilog_marks false x (λ s. s) ((96 ∷ section_behind d) ∷ []) false)
    (sym (text_same d))
    (section_before (λ s. refl) 96 (section_behind d) (is_section d h) (plain line_end)))
