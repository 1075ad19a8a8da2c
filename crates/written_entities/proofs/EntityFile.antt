-- The text of well formed entities is read as these entities.
use Rattle.std.proofs.Common.{◌≡◌, ℕ, false, List, [], ◌∷◌, ◌++◌, flat_map, refl, sym, ap, ◌∙◌, subst}
use Rattle.std.specs.List.{AllByRecursion}
use Rattle.std.proofs.lemmas.List.{map-append}
use Rattle.std.proofs.lemmas.List.Elements.{recursion_from_All}
use Rattle.vital_models.specs.declared.model.VEntity.{VEntity}
use Rattle.vhdl_tokens.specs.Tokens.{scan}
use Rattle.vhdl_tokens.specs.Separators.{spelled}
use Rattle.vhdl_grammar.specs.VhdlRules.{is_among}
use Rattle.vhdl_grammar.specs.VhdlText.{entity_names, next_entity, file, language, IsVhdlText, vhdl_text}
use Rattle.vhdl_grammar.specs.WellFormed.{AreApart, IsWellFormedEntity, AreWellFormed}
use Rattle.vhdl_grammar.proofs.VhdlAnswers.{is_answer}
use Rattle.vhdl_writer.specs.Entity.{entity_text}
use Rattle.grammar_reader.proofs.Fronts.{Anything, each}
use Rattle.grammar_reader.specs.ReadBack.{ReadsBack}
use Rattle.grammar_reader.proofs.Derivations.{Reads, gives, in_turn, turn, through}
use Rattle.grammar_reader.proofs.TextsReadBack.{is_text, reads_back}
use Rattle.written_entities.specs.Laws.{entities_text, WrittenEntitiesReadBack}
use Rattle.grammar_reader.proofs.Spelling.{all_found, behind, nothing}
use Rattle.written_entities.proofs.Names.{entity_named}
use Rattle.written_entities.proofs.Spelling.{SpellsOutside}
use Rattle.written_entities.proofs.NameReading.{is_new}
use Rattle.written_entities.proofs.Parts.{fact_at}
use Rattle.written_entities.proofs.EntityReading.{entity_more, entity_tokens, entity_spelled, entity_read}

entities_spelled : (es : List VEntity) → AllByRecursion IsWellFormedEntity es
    → SpellsOutside Anything false (flat_map entity_text es) (each entity_tokens es) false
entities_spelled [] h = nothing
entities_spelled (e ∷ es) h = behind (entity_spelled e h.0) (entities_spelled es h.1)

file_spelled : (es : List VEntity) → AreWellFormed es
    → spelled (scan false 0 0 (entities_text es)) ≡ (each entity_tokens es [], false)
unfolding entities_text
file_spelled es h = all_found (entities_spelled es (recursion_from_All IsWellFormedEntity es h.entities))

new_entity : (es : List VEntity) → AreWellFormed es → (before : List VEntity) (e : VEntity) (after : List VEntity)
    → before ++ e ∷ after ≡ es → is_among (entity_names before) e.name ≡ false
new_entity es h before e after same =
    let split : entity_names es ≡ entity_names before ++ e.name ∷ entity_names after =
    ap entity_names (sym same) ∙ map-append (λ (x : VEntity). x.name) before (e ∷ after) in
    is_new (entity_names before) e.name (entity_names after)
    (entity_named e.name (fact_at IsWellFormedEntity es h.entities before e after same).name) (subst AreApart split h.apart)

next_read : (es : List VEntity) → AreWellFormed es
    → (before : List VEntity) (e : VEntity) (after : List VEntity) (s : List (List ℕ)) → before ++ e ∷ after ≡ es
    → Reads (next_entity before) (entity_more e s) (before ++ e ∷ []) s
unfolding next_entity
next_read es h before e after s same =
    in_turn (entity_read (entity_names before) e (fact_at IsWellFormedEntity es h.entities before e after same)
    (new_entity es h before e after same) s) gives

file_read : (es : List VEntity) → AreWellFormed es → Reads file (each entity_tokens es []) es []
unfolding file
file_read es h =
    in_turn (through (λ (l : List VEntity). l) entity_tokens [] es
    (λ before e after s same. turn refl (next_read es h before e after s same)) [] tt) (record { taken = (refl, refl, refl) })

-- bytes with the tokens of well formed entities read as these
pub read_from : (bytes : List ℕ) (es : List VEntity) → AreWellFormed es
    → spelled (scan false 0 0 bytes) ≡ (each entity_tokens es [], false) → ReadsBack vhdl_text IsVhdlText bytes es
unfolding vhdl_text
read_from bytes es h e = reads_back vhdl_text IsVhdlText bytes es (is_answer bytes).value
    (is_text language bytes es (each entity_tokens es []) e (file_read es h))

-- what is well formed reads back
pub entities_read_back : WrittenEntitiesReadBack
entities_read_back es h = read_from (entities_text es) es h (file_spelled es h)
