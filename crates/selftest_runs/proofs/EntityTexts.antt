-- The text of an entity reads as this entity alone.
use Rattle.std.proofs.Common.{◌≡◌, ℕ, List, [], ◌∷◌, sym, ap, subst, ◌∙◌}
use Rattle.std.specs.Str.{str_eq_ignore_ascii_case}
use Rattle.std.proofs.lemmas.List.{append-nil}
use Rattle.std.proofs.lemmas.List.Elements.{All-nil, All-cons}
use Rattle.text_io.specs.declared.slots.OutSlot.TheVariants.{VitalText}
use Rattle.text_io.specs.declared.slots.OutSlot.{OutSlot}
use Rattle.text_io.specs.Desk.{DeskState, wrote}
use Rattle.cell_machine.specs.CellData.{CellData}
use Rattle.vital_models.specs.declared.model.VEntity.{VEntity}
use Rattle.vital_models.specs.Generated.{entity_of}
use Rattle.vhdl_grammar.specs.WellFormed.{IsWellFormedEntity, AreWellFormed}
use Rattle.vhdl_writer.specs.Entity.{entity_text}
use Rattle.written_entities.specs.Laws.{entities_text}
use Rattle.generated_entities.specs.Laws.{EntityIsWellFormed}
use Rattle.generated_modules.specs.Cells.{IsNumberedCell}
use Rattle.selftest_runs.specs.EntityNames.{IsNameOfEntity}
use Rattle.selftest_runs.specs.KeptTexts.{keeps_text}
use Rattle.selftest_runs.proofs.KeptTextLemmas.{told}
use Rattle.selftest_runs.proofs.NamesAlone.{one_apart}

text_told : (kept : OutSlot) (text more : List ℕ) → keeps_text kept text ≡ wrote (keeps_text VitalText []) VitalText more
    → text ≡ more
unfolding keeps_text wrote
text_told kept text more e = told text more _ (ap (λ (s : DeskState). s.written VitalText) e)

-- what a desk keeps that the entity was written to
pub entity_written : (kept : OutSlot) (text : List ℕ) (m : VEntity) (empty : DeskState)
    → empty ≡ keeps_text VitalText [] → keeps_text kept text ≡ wrote empty VitalText (entity_text m)
    → text ≡ entities_text (m ∷ [])
unfolding entities_text
entity_written kept text m empty d e =
    text_told kept text (entity_text m) (e ∙ ap (λ (s : DeskState). wrote s VitalText (entity_text m)) d)
    ∙ sym (append-nil (entity_text m))

-- an entity alone is well formed where it is
one_entity : (m : VEntity) → IsWellFormedEntity m → AreWellFormed (m ∷ [])
one_entity m h = record {
  entities = All-cons IsWellFormedEntity m [] h (All-nil IsWellFormedEntity);
  apart =
      one_apart str_eq_ignore_ascii_case m.name;
}

pub generated_entity :
    (cell : CellData) (name : List ℕ) → EntityIsWellFormed → IsNumberedCell cell → IsNameOfEntity cell name → (m : VEntity)
    → m ≡ entity_of cell name
    → AreWellFormed (m ∷ [])
generated_entity cell name law h named m e =
    one_entity m (subst IsWellFormedEntity (sym (e ∙ ap (entity_of cell) named.is)) (law cell named.given h))
