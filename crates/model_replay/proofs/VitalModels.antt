-- The models of a VHDL text are a catalog's, and can be run.
use Rattle.std.proofs.Common.{◌≡◌, ℕ, false, List, ◌∷◌, length, map, get_or, Ok, refl, sym, ap, subst, ◌∙◌}
use Rattle.std.specs.Str.{bytes_eq, str_eq_ignore_ascii_case}
use Rattle.std.specs.List.{IsDistinct}
use Rattle.std.proofs.lemmas.List.{length-map}
use Rattle.std.proofs.lemmas.Simd.{map-map}
use Rattle.std.proofs.lemmas.Bool.{or_parts as neither}
use Rattle.file_models.specs.bool_functions.NameList.{AreDistinct}
use Rattle.file_models.proofs.bool_functions.NameLists.{IsDistinct-map}
use Rattle.vhdl_tokens.specs.Kept.{lowered}
use Rattle.vhdl_tokens.specs.Tokens.{is_name}
use Rattle.vital_models.specs.declared.model.VOutput.{VOutput}
use Rattle.vital_models.specs.declared.model.VEntity.{VEntity}
use Rattle.vital_models.specs.Sound.{IsSound}
use Rattle.vhdl_grammar.specs.VhdlDeclarations.{port_names}
use Rattle.vhdl_grammar.specs.VhdlText.{entity_names, vhdl_text}
use Rattle.vhdl_grammar.specs.WellFormed.{AreApart, IsCount, IsWellFormedEntity, AreWellFormed}
use Rattle.vhdl_grammar.specs.Laws.{TextsAreWellFormed}
use Rattle.vhdl_grammar.proofs.VhdlAnswers.{is_answer}
use Rattle.model_traces.specs.EntityTrace.{entity_machine}
use Rattle.file_models.specs.sectioned_texts.declared.driven_models.DrivenModels.{DrivenModels}
use Rattle.file_models.specs.sectioned_texts.DrivenModels.{rest_of, driven_models}
use Rattle.file_models.proofs.sectioned_texts.TextLaws.{drivers_stand}
use Rattle.vhdl_drivers.proofs.StandingDrivers.{text_may_stand}
use Rattle.vhdl_drivers.specs.VitalSections.{vital_sections}
use Rattle.file_models.specs.declared.file_model.FileModel.{FileModel}
use Rattle.file_models.specs.FileModels.{file_models}
use Rattle.file_models.proofs.ReadDrivers.{read_parts}
use Rattle.file_models.proofs.RestLengths.{rest_length}
use Rattle.file_models.proofs.RunnableModels.{RunsByPorts, all_run}
use Rattle.file_models.proofs.DistinctNames.{TakesOwnName, names_apart}
use Rattle.model_files.specs.ModelNames.{model_names, HasOwnPorts}
use Rattle.model_replay.specs.Vital.{vital}
use Rattle.model_replay.specs.Laws.{AreEntities, EntitiesHaveOwnNames, WellFormedEntitiesHaveOwnNames}
use Rattle.model_replay.proofs.NewNames.{apart_new, apart_spelled}
use Rattle.model_replay.proofs.PortCounts.{length-ports_from}
use Rattle.model_replay.proofs.OwnPorts.{ArePortsApart, HasPorts, all_have}
use Rattle.model_replay.proofs.SameNames.{same_equivalence, same_name}
use Rattle.model_replay.proofs.TextAnswers.{ok_mapped}
use Rattle.model_replay.proofs.NamedDrivers.{IsNamed}
use Rattle.model_replay.proofs.FoundModels.{AreFound}
use Rattle.model_replay.proofs.VitalDrivers.{text_is_named}

takes_own : TakesOwnName vital_sections
takes_own p e h = (neither (p e.name) false h).0

-- Ports.

-- the names behind the first are different too
apart_behind : (x : List ℕ) (names : List (List ℕ)) → AreApart (x ∷ names) → AreApart names
unfolding IsDistinct
apart_behind x names h = h.1

entity_ports : (e : VEntity) → IsWellFormedEntity e → ArePortsApart e.ports
entity_ports e h = apart_spelled (port_names e.ports) (apart_behind e.name (port_names e.ports) h.apart)

entity_runs : (e : VEntity) → IsSound e → RunsByPorts vital_sections entity_machine e
entity_runs e h = record {
  inputs = refl;
  outputs = sym (length-map e.outputs (λ (output : VOutput). output.port)) ∙ ap length h.driven ∙ length-ports_from 0 e.ports;
}

-- The models of a text.

-- what is known of the models and the drivers of a text
abbrev pub AreFoundIn : DrivenModels VEntity → Type 0
AreFoundIn = AreFound vital_sections AreWellFormed is_name str_eq_ignore_ascii_case

pub found_beside : (bytes : List ℕ) (found : DrivenModels VEntity) → driven_models vital_sections bytes ≡ Ok found
    → AreWellFormed found.models → AreFoundIn found
found_beside bytes found e h =
    let parts = read_parts vital_sections (IsNamed is_name str_eq_ignore_ascii_case) text_is_named bytes found e in
    record { models = h; stand = drivers_stand vital_sections text_may_stand bytes found e; named = parts.drivers }

pub found_in : TextsAreWellFormed → (bytes : List ℕ) (found : DrivenModels VEntity) → IsCount (length bytes)
    → driven_models vital_sections bytes ≡ Ok found → AreFoundIn found
unfolding vhdl_text
found_in well bytes found few e =
    let parts = read_parts vital_sections (IsNamed is_name str_eq_ignore_ascii_case) text_is_named bytes found e in
    let rest = rest_of vital_sections bytes in
    let short : IsCount (length rest) = subst IsCount (sym (rest_length vital_sections.vocabulary vital_sections.marks bytes)) few
    in
    found_beside bytes found e (well rest found.models short (((is_answer rest).value found.models).1 parts.models))

own_of : (f : FileModel VEntity) → HasPorts f → HasOwnPorts vital f
own_of f h = record { names = h.names; inputs = h.inputs; outputs = h.outputs }

pub of_found : (found : DrivenModels VEntity) → AreFoundIn found → AreEntities (file_models vital_sections found)
of_found found h =
    let models = file_models vital_sections found in
    let apart = names_apart vital_sections takes_own str_eq_ignore_ascii_case same_equivalence found h.stand
    (λ k d below x. same_name (get_or found.drivers k d).name x (h.named k d below).name) h.models.apart in
    let ports = all_have vital_sections found (λ k d below. entity_ports (get_or found.models k d) (h.models.entities k d below))
    h.stand
    (λ k d below. apart_spelled (port_names (get_or found.drivers k d).ports) (h.named k d below).ports) in
    record {
      of_text = record {
        own = record {
          names = apart_new (model_names vital models) (apart_spelled (model_names vital models) apart);
          ports =
              λ k d below. own_of (get_or models k d) (ports k d below);
        };
        well_formed = all_run vital_sections IsSound entity_machine entity_runs found
            (λ k d below. (h.models.entities k d below).sound) h.stand;
      };
      apart = apart;
    }

pub own_names : TextsAreWellFormed → EntitiesHaveOwnNames
own_names well bytes models few e =
    let found = ok_mapped (file_models vital_sections) (λ fault. fault) (driven_models vital_sections bytes) models e in
    subst AreEntities found.2 (of_found found.0 (found_in well bytes found.0 few found.1))

pub own_names_beside : WellFormedEntitiesHaveOwnNames
own_names_beside bytes found e h = of_found found (found_beside bytes found e h)

-- what the names of entities are folded to is different too
pub folded_apart : (es : List VEntity) → AreApart (entity_names es) → AreDistinct (map (λ (e : VEntity). lowered e.name) es)
folded_apart es h = subst AreDistinct (map-map lowered (λ (e : VEntity). e.name) es)
    (IsDistinct-map lowered bytes_eq (entity_names es) h)
