use Rattle.std.proofs.Common.{◌≤◌, List, length, sym, subst, arith}
use Rattle.std.specs.Prelude.{All}
use Rattle.vital_models.specs.declared.model.VEntity.{VEntity}
use Rattle.vhdl_grammar.specs.WellFormed.{IsCount}
use Rattle.file_models.specs.declared.file_model.FileModel.{FileModel}
use Rattle.model_files.specs.ModelNames.{HaveOwnNames}
use Rattle.model_replay.specs.Vital.{vital}
use Rattle.model_replay.proofs.VitalModels.{folded_apart, found_in, of_found}
use Rattle.model_replay.proofs.vital.VitalModelLanguage.read.Goals as goal

pub file_models-requires-clause-apart : goal.file_models-requires-clause-apart
file_models-requires-clause-apart c =
    let few : length c.args.text.now ≤ 67108864 = c.requires in
    let short : IsCount (length c.args.text.now) = omega (arith, few) in
    folded_apart c.in_ok-found.found.models (found_in c.texts_are_well_formed.ensures c.args.text.now c.in_ok-found.found short c.in_ok-found.ensures.found).models.apart

pub file_models-requires-clause-are_names : goal.file_models-requires-clause-are_names
file_models-requires-clause-are_names c =
    let few : length c.args.text.now ≤ 67108864 = c.requires in
    let short : IsCount (length c.args.text.now) = omega (arith, few) in
    λ k d below. ((found_in c.texts_are_well_formed.ensures c.args.text.now c.in_ok-found.found short c.in_ok-found.ensures.found).named k d below).core

pub returns-clause-well_formed : goal.returns-clause-well_formed
returns-clause-well_formed c =
    let few : length c.args.text.now ≤ 67108864 = c.requires in
    let short : IsCount (length c.args.text.now) = omega (arith, few) in
    subst (λ (models : List (FileModel VEntity)). All vital.is_well_formed models) (sym c.in_ok-file_models.ensures)
    (of_found c.in_ok-found.found (found_in c.texts_are_well_formed.ensures c.args.text.now c.in_ok-found.found short c.in_ok-found.ensures.found)).of_text.well_formed

pub returns-clause-own : goal.returns-clause-own
returns-clause-own c =
    let few : length c.args.text.now ≤ 67108864 = c.requires in
    let short : IsCount (length c.args.text.now) = omega (arith, few) in
    subst (λ (models : List (FileModel VEntity)). HaveOwnNames vital models) (sym c.in_ok-file_models.ensures)
    (of_found c.in_ok-found.found (found_in c.texts_are_well_formed.ensures c.args.text.now c.in_ok-found.found short c.in_ok-found.ensures.found)).of_text.own
