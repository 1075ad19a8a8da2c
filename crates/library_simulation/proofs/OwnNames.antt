-- No two models of a Verilog file share a name, and no two of a VHDL file share one, whatever the case of its letters.
use Rattle.std.proofs.Common.{◌≡◌, ℕ, List, [], ◌∷◌, ◌++◌, sym, ap, subst, ◌∙◌, append_assoc, is_some}
use Rattle.std.specs.List.{IsDistinct, list_any}
use Rattle.std.specs.Str.{bytes_eq}
use Rattle.std.proofs.lemmas.List.{append-nil}
use Rattle.std.proofs.lemmas.Map.Keys.{IsDistinct-push}
use Rattle.std.proofs.lemmas.Simd.{map-map}
use Rattle.std.proofs.lemmas.Cmp.{nat_list_eq_equiv as bytes_equivalence}
use Rattle.bool_functions.specs.NameList.{number_of, AreDistinct}
use Rattle.bool_functions.proofs.NameLists.{IsDistinct-map}
use Rattle.cell_attributes.proofs.Clashes.{found_is}
use Rattle.specify_blocks.specs.declared.model.VModule.{VModule}
use Rattle.vhdl_tokens.specs.Kept.{lowered}
use Rattle.vital_models.specs.declared.model.VEntity.{VEntity}
use Rattle.vhdl_grammar.specs.WellFormed.{AreApart}
use Rattle.file_models.specs.declared.file_model.FileModel.{FileModel}
use Rattle.model_files.specs.ModelNames.{model_names, AreNew, HaveOwnNames}
use Rattle.model_replay.specs.Verilog.{verilog}
use Rattle.model_replay.specs.Vital.{vital}
use Rattle.library_simulation.specs.NamedModels.{module_names, lowered_names}

-- names that are new, each behind those before it, are distinct
new_apart : (before names : List (List ℕ)) → AreDistinct before → AreNew before names → AreDistinct (before ++ names)
new_apart before [] h new = subst AreDistinct (sym (append-nil before)) h
new_apart before (name ∷ names) h new =
    let absent : list_any (bytes_eq name) before ≡ is_some (number_of before name) = sym (found_is before name) in
    subst AreDistinct (append_assoc before (name ∷ []) names)
    (new_apart (before ++ name ∷ []) names (IsDistinct-push bytes_equivalence before name h (absent ∙ ap is_some new.0)) new.1)

no_names : AreDistinct []
unfolding IsDistinct
no_names = tt

pub modules_apart : (modules : List (FileModel VModule)) → HaveOwnNames verilog modules → AreDistinct (module_names modules)
modules_apart modules own = new_apart [] (module_names modules) no_names own.names

pub entities_apart : (entities : List (FileModel VEntity)) → AreApart (model_names vital entities)
    → AreDistinct (lowered_names entities)
entities_apart entities apart =
    subst AreDistinct (map-map lowered (λ (f : FileModel VEntity). f.name) entities)
    (IsDistinct-map lowered bytes_eq (model_names vital entities) apart)
