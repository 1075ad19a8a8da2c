-- The models and the drivers of a text in whose sections drivers stand, in any language of models. (That sections of a file of
-- models hold drivers, each of them one, is this project's rule.)
use Rattle.std.specs.Prelude.{ℕ, ◌+◌, ◌==◌, Bool, false, ◌&&◌, ◌||◌, nat_le, nat_lt, if◌then◌else◌, List, [], ◌∷◌, ◌++◌, map}
use Rattle.std.specs.Prelude.{flat_map, reverse, take, Result, Ok, Err}
use Rattle.std.specs.List.{filter}
use Rattle.std.specs.Result.{result_map_both, result_unwrap_or}
use Rattle.lexer.specs.Tokens.{scan_of}
use Rattle.lexer.specs.declared.span.Span.{Span}
use Rattle.stimulus.specs.LineMeanings.{and_then}
use Rattle.udp_tables.specs.declared.models.ModelFault.{ModelFault}
use Rattle.udp_tables.specs.declared.models.ModelFault.TheVariants as fault
use Rattle.udp_tables.specs.ModelFaults.{fault_place, fault_rank}
use Rattle.driver_models.specs.declared.model.DriverModel.{DriverModel}
use Rattle.driver_models.specs.Cores.{Core}
use Rattle.sectioned_texts.specs.declared.driven_models.DrivenModels.{DrivenModels}
use Rattle.driver_sections.specs.Marks.{Vocabulary, Marks, Ending, ends}
use Rattle.driver_sections.specs.Sections.{sections, blanked, text_of}

-- A language of models, and of sections that hold drivers: its tokens; how sections are marked, and how models end; the models of
-- a text without sections, or its fault; the names that a model takes; a model as one that may be a core; and the driver that a
-- section holds, or its fault, where these names are taken and the models that may be cores are these.
pub record SectionLanguage (M : Type 0) : Type 0 where
  pub vocabulary : Vocabulary
  pub marks : Marks
  pub model_end : Ending
  pub text : List ℕ → Result (List M) ModelFault
  pub names : M → List (List ℕ)
  pub core : M → Core
  pub section : List (List ℕ) → List Core → List ℕ → Result DriverModel ModelFault

-- a fault of a part of a text, by the offset where the part begins, as one of the text
abbrev pub fault_behind : ℕ → ModelFault → ModelFault
fault_behind from (fault.Lexical at) = fault.Lexical (from + at)
fault_behind from (fault.Syntax at) = fault.Syntax (from + at)
fault_behind from (fault.TwoEdges at) = fault.TwoEdges (from + at)
fault_behind from (fault.Width at) = fault.Width (from + at)
fault_behind from (fault.Undefined at) = fault.Undefined (from + at)
fault_behind from (fault.Twice at) = fault.Twice (from + at)
fault_behind from (fault.Undriven at) = fault.Undriven (from + at)
fault_behind from (fault.Unequal at) = fault.Unequal (from + at)
fault_behind from fault.Memory = fault.Memory

-- of two faults the first counts: its offset is less, or is the same and its kind no later
abbrev pub counts_first : ModelFault → ModelFault → Bool
counts_first f g = nat_lt (fault_place f) (fault_place g)
    || ((fault_place f == fault_place g) && nat_le (fault_rank f) (fault_rank g))

-- a fault, or one that counts before it
abbrev pub first_fault : {A : Type 0} → ModelFault → Result A ModelFault → ModelFault
first_fault f (Ok a) = f
first_fault f (Err g) = if counts_first f g then f else g

-- Of the fronts of a text that end at these offsets, the models of the first that is a text; no models where none is.
abbrev pub front_models : {M : Type 0} → (List ℕ → Result (List M) ModelFault) → List ℕ → List ℕ → List M
front_models text bytes [] = []
front_models text bytes (to ∷ others) = result_unwrap_or (text (take to bytes)) (front_models text bytes others)

module _ {M : Type 0} (l : SectionLanguage M) where
  -- the offsets behind the models of a text, from the last on
  abbrev pub model_ends : List ℕ → List ℕ
  model_ends bytes = reverse (ends l.vocabulary.is_same l.model_end false (scan_of l.vocabulary.lexis bytes).0)

  -- the models that stand whole before a fault of a text: those of the longest front that ends behind a model and is a text
  abbrev pub whole_models : List ℕ → ModelFault → List M
  whole_models bytes f = front_models l.text bytes (filter (λ to. nat_le to (fault_place f)) (model_ends bytes))

  -- the names that are taken by these models and these drivers
  abbrev pub taken_names : List M → List DriverModel → List (List ℕ)
  taken_names models drivers = flat_map l.names models ++ map (λ (driver : DriverModel). driver.name) drivers

  -- the driver of a section of a text, where these names are taken and the models that may be cores are these
  abbrev pub section_driver : List ℕ → List (List ℕ) → List Core → Span → Result DriverModel ModelFault
  section_driver bytes names cores s =
      result_map_both (λ driver. driver) (fault_behind s.at) (l.section names cores (text_of bytes s))

  -- these drivers, and those of the sections behind them, in order; or the fault of the first section that holds none
  abbrev pub more_drivers : List ℕ → List M → List DriverModel → List Span → Result (List DriverModel) ModelFault
  more_drivers bytes models drivers [] = Ok drivers
  more_drivers bytes models drivers (s ∷ sections) =
      and_then (section_driver bytes (taken_names models drivers) (map l.core models) s)
      (λ driver. more_drivers bytes models (drivers ++ driver ∷ []) sections)

  -- these models, and the drivers of these sections of a text; or the fault of the first section that holds none
  abbrev pub with_drivers : List ℕ → List Span → List M → Result (DrivenModels M) ModelFault
  with_drivers bytes found models =
      and_then (more_drivers bytes models [] found) (λ drivers. Ok (record { models = models; drivers = drivers }))

  -- the fault of a text with these sections, the rest around which has this one
  abbrev pub rest_fault : List ℕ → List Span → List ℕ → ModelFault → ModelFault
  rest_fault bytes found rest f = first_fault f (more_drivers bytes (whole_models rest f) [] found)

  -- the models and the drivers of a text with these sections, the rest around which is read to this; or its fault
  abbrev pub driven_by : List ℕ → List Span → List ℕ → Result (List M) ModelFault → Result (DrivenModels M) ModelFault
  driven_by bytes found rest (Ok models) = with_drivers bytes found models
  driven_by bytes found rest (Err f) = Err (rest_fault bytes found rest f)

  -- the rest of a text around its sections
  abbrev pub rest_of : List ℕ → List ℕ
  rest_of bytes = blanked bytes (sections l.vocabulary l.marks bytes)

  -- The models and the drivers of a text, or its fault: of those of the rest and of the sections the one that counts first.
  -- Sections stand one behind the other, and a fault of a section lies in it: so the fault of the first section that has one
  -- counts before those of the others.
  unfoldable pub driven_models : List ℕ → Result (DrivenModels M) ModelFault
  driven_models bytes = driven_by bytes (sections l.vocabulary l.marks bytes) (rest_of bytes) (l.text (rest_of bytes))
