-- The models of a Verilog text are a catalog's, and can be run.
use Rattle.std.proofs.Common.{◌≡◌, ℕ, false, List, [], ◌∷◌, ◌++◌, map, get_or, Ok, refl, sym, subst, ◌∙◌, append_assoc}
use Rattle.std.specs.Prelude.{flat_map}
use Rattle.std.specs.Str.{bytes_eq}
use Rattle.std.specs.List.{IsDistinct, AllByRecursion, list_any}
use Rattle.std.proofs.lemmas.List.Folds.{list_any-append}
use Rattle.std.proofs.lemmas.Cmp.{nat_list_eq_equiv as bytes_equivalence}
use Rattle.std.proofs.lemmas.Bool.{or_parts as neither}
use Rattle.verilog_tokens.specs.Tokens.{is_name}
use Rattle.verilog_grammar.specs.specify_blocks.declared.model.VModule.{VModule}
use Rattle.verilog_grammar.specs.specify_blocks.Sound.{IsSound}
use Rattle.verilog_grammar.specs.VerilogModules.{port_names}
use Rattle.verilog_grammar.specs.WellFormed.{AreApart, IsWellFormedModule, AreWellFormed, udp_names, outer_names, register_names}
use Rattle.verilog_grammar.specs.VerilogText.{verilog_text}
use Rattle.verilog_grammar.proofs.ReadText.{text_modules}
use Rattle.verilog_grammar.proofs.VerilogAnswers.{is_answer}
use Rattle.model_traces.specs.ModuleTrace.{module_machine}
use Rattle.file_models.specs.sectioned_texts.declared.driven_models.DrivenModels.{DrivenModels}
use Rattle.file_models.specs.sectioned_texts.DrivenModels.{rest_of, driven_models}
use Rattle.file_models.proofs.sectioned_texts.TextLaws.{drivers_stand}
use Rattle.verilog_drivers.proofs.StandingDrivers.{text_may_stand}
use Rattle.verilog_drivers.specs.VerilogSections.{verilog_sections}
use Rattle.file_models.specs.declared.file_model.FileModel.{FileModel}
use Rattle.file_models.specs.FileModels.{file_models}
use Rattle.file_models.proofs.ReadDrivers.{read_parts}
use Rattle.file_models.proofs.RunnableModels.{RunsByPorts, all_run}
use Rattle.file_models.proofs.DistinctNames.{TakesOwnName, names_apart}
use Rattle.model_files.specs.ModelNames.{model_names, HasOwnPorts}
use Rattle.model_replay.specs.Verilog.{verilog}
use Rattle.model_replay.specs.Laws.{AreOfText, ModulesHaveOwnNames}
use Rattle.model_replay.proofs.NewNames.{all_back, apart_front, apart_back, apart_new}
use Rattle.model_replay.proofs.PortCounts.{length-output_ports}
use Rattle.model_replay.proofs.OwnPorts.{ArePortsApart, HasPorts, all_have}
use Rattle.model_replay.proofs.TextAnswers.{ok_mapped}
use Rattle.model_replay.proofs.NamedDrivers.{IsNamed}
use Rattle.model_replay.proofs.FoundModels.{AreFound}
use Rattle.model_replay.proofs.VerilogDrivers.{text_is_named}

-- The names of the modules.

own_name_last : (m : VModule) (rest : List (List ℕ)) → outer_names m ++ rest ≡ udp_names m.udps ++ m.name ∷ rest
own_name_last m rest = append_assoc (udp_names m.udps) (m.name ∷ []) rest

abbrev own_names_of : List VModule → List (List ℕ)
own_names_of ms = map (λ (m : VModule). m.name) ms

all_modules : (P : List ℕ → Type 0) (ms : List VModule) → AllByRecursion P (flat_map outer_names ms)
    → AllByRecursion P (own_names_of ms)
all_modules P [] h = tt
all_modules P (m ∷ ms) h =
    let own = all_back P (udp_names m.udps) (m.name ∷ flat_map outer_names ms)
    (subst (AllByRecursion P) (own_name_last m (flat_map outer_names ms)) h) in
    (own.0, all_modules P ms own.1)

pub modules_apart : (ms : List VModule) → AreApart (flat_map outer_names ms) → AreApart (map (λ (m : VModule). m.name) ms)
unfolding IsDistinct
modules_apart [] h = tt
modules_apart (m ∷ ms) h =
    let own : AreApart (m.name ∷ flat_map outer_names ms) =
    apart_back (udp_names m.udps) (m.name ∷ flat_map outer_names ms)
    (subst AreApart (own_name_last m (flat_map outer_names ms)) h) in
    (all_modules (λ y. bytes_eq m.name y ≡ false) ms own.0, modules_apart ms own.1)

takes_own : TakesOwnName verilog_sections
takes_own p m e =
    let both = neither (list_any p (udp_names m.udps)) (list_any p (m.name ∷ []))
    (sym (list_any-append p (udp_names m.udps) (m.name ∷ [])) ∙ e) in
    (neither (p m.name) false both.1).0

-- Their ports.

module_ports : (m : VModule) → IsWellFormedModule m → ArePortsApart m.ports
module_ports m h = apart_front (port_names m.ports) m.wires
    (apart_front (port_names m.ports ++ m.wires) (register_names m.notifier) h.apart)

module_runs : (m : VModule) → IsSound m → RunsByPorts verilog_sections module_machine m
module_runs m h = record { inputs = refl; outputs = length-output_ports m.ports }

-- The models of a text.

-- what is known of the models and the drivers of a text
abbrev pub AreFoundIn : DrivenModels VModule → Type 0
AreFoundIn = AreFound verilog_sections AreWellFormed is_name bytes_eq

pub found_in : (bytes : List ℕ) (found : DrivenModels VModule) → driven_models verilog_sections bytes ≡ Ok found → AreFoundIn found
unfolding verilog_text
found_in bytes found e =
    let parts = read_parts verilog_sections (IsNamed is_name bytes_eq) text_is_named bytes found e in
    let rest = rest_of verilog_sections bytes in
    record {
      models = text_modules rest found.models (((is_answer rest).value found.models).1 parts.models);
      stand = drivers_stand verilog_sections text_may_stand bytes found e;
      named = parts.drivers;
    }

own_of : (f : FileModel VModule) → HasPorts f → HasOwnPorts verilog f
own_of f h = record { names = h.names; inputs = h.inputs; outputs = h.outputs }

pub of_found : (found : DrivenModels VModule) → AreFoundIn found → AreOfText verilog (file_models verilog_sections found)
of_found found h =
    let models = file_models verilog_sections found in
    let apart = names_apart verilog_sections takes_own bytes_eq bytes_equivalence found h.stand (λ k d below x. refl)
    (modules_apart found.models h.models.apart) in
    let ports = all_have verilog_sections found (λ k d below. module_ports (get_or found.models k d) (h.models.modules k d below))
    h.stand (λ k d below. (h.named k d below).ports) in
    record {
      own = record {
        names = apart_new (model_names verilog models) apart;
        ports =
            λ k d below. own_of (get_or models k d) (ports k d below);
      };
      well_formed = all_run verilog_sections IsSound module_machine module_runs found
          (λ k d below. (h.models.modules k d below).sound) h.stand;
    }

pub own_names : ModulesHaveOwnNames
own_names bytes models e =
    let found = ok_mapped (file_models verilog_sections) (λ fault. fault) (driven_models verilog_sections bytes) models e in
    subst (AreOfText verilog) found.2 (of_found found.0 (found_in bytes found.0 found.1))
