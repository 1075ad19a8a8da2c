-- A written driver is one section.
use Rattle.std.proofs.Common.{◌≡◌, ℕ, suc, ◌+◌, true, false, List, [], ◌∷◌, ◌++◌, length, drop, refl, sym, ap, subst, ◌∙◌, arith}
use Rattle.std.proofs.Common.{codes, append_assoc, length-append}
use Rattle.written_entities.specs.vhdl_tokens.Tokens.{scan, token_length}
use Rattle.written_entities.specs.vhdl_tokens.Spelling.{is_same}
use Rattle.driver_models.specs.declared.model.DriverModel.{DriverModel}
use Rattle.vhdl_drivers.specs.DriverText.{driven_count, driver_header_text, signals_text, core_text, process_text}
use Rattle.vhdl_drivers.specs.DriverText.{statements_text, driver_text}
use Rattle.vhdl_drivers.specs.DriverSection.{driver_section}
use Rattle.vhdl_drivers.specs.WellFormed.{IsWrittenDriver}
use Rattle.written_modules.specs.driver_sections.Marks.{ends}
use Rattle.written_modules.specs.driver_sections.Sections.{section_length, begins_section}
use Rattle.written_modules.proofs.grammar_reader.Fronts.{Anything}
use Rattle.written_modules.proofs.grammar_reader.Spelling.{literal}
use Rattle.written_modules.specs.section_outlines.VhdlMarks.{vhdl_marks}
use Rattle.written_modules.proofs.section_outlines.Passing.{section_is}
use Rattle.written_modules.proofs.section_outlines.Outlined.{Outlined, IsSection, plain, section, one_behind}
use Rattle.written_entities.proofs.Spelling.{vhdl, SpellsOutside}
use Rattle.written_driven_models.proofs.VhdlTokens.{before_end, before_end_spelled}

-- The words that end the section.

abbrev last_words : List ℕ
last_words = codes "end driven;"

-- where a section ends that they close
ends_there : (at : ℕ) (r : List ℕ) → ends is_same vhdl_marks.ending false (scan false at 0 (last_words ++ r)).0
    ≡ (at + 1 + 1 + 1 + 1 + 1 + 1 + 1 + 1 + 1 + 1 + 1) ∷ ends is_same vhdl_marks.ending false
    (scan false (at + 1 + 1 + 1 + 1 + 1 + 1 + 1 + 1 + 1 + 1 + 1) 0 r).0
ends_there at r = refl

-- The section.

joined : (a b c d e f g h : List ℕ) → f ++ g ≡ h → (a ++ (b ++ (c ++ (d ++ (e ++ f))))) ++ g ≡ a ++ (b ++ (c ++ (d ++ (e ++ h))))
joined a b c d e f g h same =
    append_assoc a (b ++ (c ++ (d ++ (e ++ f)))) g
    ∙ ap (λ (s : List ℕ). a ++ s) (append_assoc b (c ++ (d ++ (e ++ f))) g
    ∙ ap (λ (s : List ℕ). b ++ s) (append_assoc c (d ++ (e ++ f)) g
    ∙ ap (λ (s : List ℕ). c ++ s) (append_assoc d (e ++ f) g
    ∙ ap (λ (s : List ℕ). d ++ s) (append_assoc e f g ∙ ap (λ (s : List ℕ). e ++ s) same))))

section_parts : (d : DriverModel) → driver_section d ≡ before_end d ++ last_words
unfolding driver_section
section_parts d =
    sym (joined (driver_header_text d) (signals_text (driven_count d)) (core_text d) (process_text d) (statements_text d)
    (codes "  end process;\n") last_words (codes "  end process;\nend driven;") refl)

text_parts : (d : DriverModel) → driver_text d ≡ driver_section d ++ codes "\n"
unfolding driver_section driver_text
text_parts d =
    sym (joined (driver_header_text d) (signals_text (driven_count d)) (core_text d) (process_text d) (statements_text d)
    (codes "  end process;\nend driven;") (codes "\n") (codes "  end process;\nend driven;\n") refl)

-- the section behind its first byte
abbrev section_behind : DriverModel → List ℕ
section_behind d = drop 1 (driver_section d)

section_same : (d : DriverModel) → driver_section d ≡ 117 ∷ section_behind d
unfolding driver_section driver_header_text
section_same d = refl

first_token : (d : DriverModel) (r : List ℕ) → token_length false (117 ∷ section_behind d ++ r) ≡ 3
unfolding driver_section driver_header_text
first_token d r = refl

begun : (d : DriverModel) (r : List ℕ) → begins_section vhdl vhdl_marks false 0 (117 ∷ section_behind d ++ r) ≡ true
unfolding driver_section driver_header_text
begun d r = refl

size : (d : DriverModel) → IsWrittenDriver d → (r : List ℕ)
    → section_length vhdl vhdl_marks ((117 ∷ section_behind d) ++ r) ≡ suc (length (section_behind d))
size d w r =
    let at : ℕ = length (before_end d) in
    let whole : 117 ∷ section_behind d ≡ before_end d ++ last_words = sym (section_same d) ∙ section_parts d in
    let n : at + 1 + 1 + 1 + 1 + 1 + 1 + 1 + 1 + 1 + 1 + 1 ≡ suc (length (section_behind d)) =
    omega (arith, ap length whole, length-append (before_end d) last_words) in
    ap (λ (s : List ℕ). section_length vhdl vhdl_marks (s ++ r)) whole
    ∙ ap (section_length vhdl vhdl_marks) (append_assoc (before_end d) last_words r)
    ∙ section_is vhdl vhdl_marks ((before_end_spelled d w).passes (last_words ++ r) tt)
    (at + 1 + 1 + 1 + 1 + 1 + 1 + 1 + 1 + 1 + 1 + 1)
    (ends is_same vhdl_marks.ending false (scan false (at + 1 + 1 + 1 + 1 + 1 + 1 + 1 + 1 + 1 + 1 + 1) 0 r).0) (ends_there at r)
    ∙ n

is_section : (d : DriverModel) → IsWrittenDriver d → (r : List ℕ) → IsSection vhdl vhdl_marks false 117 (section_behind d) r
is_section d w r = record { less = 2; alone = refl; token = first_token d r; begun = begun d r; size = size d w r }

line_end : SpellsOutside Anything false (codes "\n") (λ s. s) false
line_end = literal (λ r. refl) refl

-- a driver's text is a section and a line end
pub driver_outlined : (d : DriverModel) → IsWrittenDriver d
    → Outlined vhdl vhdl_marks false (driver_text d) (λ s. s) (driver_section d ∷ []) false
driver_outlined d w =
    subst (λ (x : List ℕ). Outlined vhdl vhdl_marks false x (λ s. s) (driver_section d ∷ []) false) (sym (text_parts d))
    (subst (λ (x : List ℕ). Outlined vhdl vhdl_marks false (x ++ codes "\n") (λ s. s) (x ∷ []) false) (sym (section_same d))
    (one_behind (section (λ s. refl) 117 (section_behind d) (is_section d w)) (plain line_end)))
