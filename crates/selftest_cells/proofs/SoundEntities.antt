-- The damaged entity of a sound one is sound: damage keeps each table's columns.
use Rattle.std.proofs.Common.{◌≡◌, ◌&&◌, All, List, [], ◌∷◌, length, map, nat_lt, refl, sym, ap, ◌∙◌, subst}
use Rattle.std.specs.List.{list_all}
use Rattle.std.proofs.lemmas.List.Elements.{All-weaker}
use Rattle.cell_machine.specs.declared.outputs.Source.{Source}
use Rattle.cell_machine.specs.declared.outputs.Source.TheVariants as source
use Rattle.vital_models.specs.declared.model.VState.{VState}
use Rattle.vital_models.specs.declared.model.VTruth.{VTruth}
use Rattle.vital_models.specs.declared.model.OutValue.{OutValue}
use Rattle.vital_models.specs.declared.model.OutValue.TheVariants as value
use Rattle.vital_models.specs.declared.model.VOutput.{VOutput}
use Rattle.vital_models.specs.declared.model.HPath.{HPath}
use Rattle.udp_tables.specs.declared.timing_checks.TimingCheck.{TimingCheck}
use Rattle.vital_models.specs.declared.model.VEntity.{VEntity}
use Rattle.vital_models.specs.Sound.{columns_of, IsState, IsTruth, feeds, IsValue, IsPath, IsOutput, IsCheck, IsSound}
use Rattle.selftest_cells.specs.Damage.{alter_first, damaged_state_row, damaged_state, damaged_truth_row, damaged_value}
use Rattle.selftest_cells.specs.Damage.{damaged_output, damaged_by, DamagedEntitiesAreSound}
use Rattle.selftest_cells.proofs.AlteredLists.{all-alter_first, all-alter_second, map-alter_first}

-- as many states, and other outputs, leave the places of an entity as they are
module _ (e : VEntity) (ss : List VState) (os : List VOutput) (same : length ss ≡ length e.states) where
  abbrev pub after : VEntity
  after = record e { states = ss; outputs = os }

  state_kept : (s : VState) → IsState e s → IsState after s
  state_kept s h = record { rows = h.rows; fed = h.fed; violated = h.violated }

  damaged_state_kept : (s : VState) → IsState after s → IsState after (damaged_state s)
  damaged_state_kept s h =
      record {
        rows = all-alter_second damaged_state_row (λ row. length row.inputs ≡ columns_of s) (λ row k. k) s.table.rows h.rows;
        fed = h.fed;
        violated = h.violated;
      }

  truth_kept : (t : VTruth) → IsTruth e t → IsTruth after t
  truth_kept t h = record { rows = h.rows; fed = h.fed }

  feeds_kept : (s : Source) → feeds after s ≡ feeds e s
  feeds_kept (source.Pin p) = refl
  feeds_kept (source.State g) = ap (nat_lt g) same

  sources_kept : (inputs : List Source) → list_all (feeds after) inputs ≡ list_all (feeds e) inputs
  sources_kept [] = refl
  sources_kept (s ∷ inputs) =
      ap (λ b. b && list_all (feeds after) inputs) (feeds_kept s) ∙ ap (λ b. feeds e s && b) (sources_kept inputs)

  value_kept : (v : OutValue) → IsValue e v → IsValue after v
  value_kept (value.Constant one) h = h
  value_kept (value.Table table inputs) h = (h.0, sources_kept inputs ∙ h.1)

  damaged_value_kept : (v : OutValue) → IsValue after v → IsValue after (damaged_value v)
  damaged_value_kept (value.Constant one) h = h
  damaged_value_kept (value.Table table inputs) h =
      (all-alter_first damaged_truth_row (λ row. length row.inputs ≡ length inputs) (λ row k. k) table.rows h.0, h.1)

  path_kept : (p : HPath) → IsPath e p → IsPath after p
  path_kept p h = record { starts = h.starts; gated = h.gated }

  output_kept : (o : VOutput) → IsOutput e o → IsOutput after o
  output_kept o h = record {
    valued = value_kept o.value h.valued;
    paths =
        All-weaker (IsPath e) (IsPath after) path_kept o.paths h.paths;
  }

  damaged_output_kept : (o : VOutput) → IsOutput after o → IsOutput after (damaged_output o)
  damaged_output_kept o h = record { valued = damaged_value_kept o.value h.valued; paths = h.paths }

  check_kept : (k : TimingCheck) → IsCheck e k → IsCheck after k
  check_kept k h = record { first = h.first; second = h.second; events = h.events; enabled = h.enabled }

  -- the altered entity, of sound parts
  sound_after :
      IsSound e
      → All (IsState after) ss → All (IsOutput after) os
      → map (λ (o : VOutput). o.port) os ≡ map (λ (o : VOutput). o.port) e.outputs
      → IsSound after
  sound_after h states outputs ports =
      record {
        states = states;
        conditions = All-weaker (IsTruth e) (IsTruth after) truth_kept e.conditions h.conditions;
        driven = ports ∙ h.driven;
        outputs = outputs;
        checks = All-weaker (IsCheck e) (IsCheck after) check_kept e.checks h.checks;
      }

by_states : (ss : List VState) (e : VEntity) → e.states ≡ ss → IsSound e → IsSound (damaged_by ss e)
by_states [] e same h =
    let os : List VOutput = alter_first damaged_output e.outputs in
    sound_after e e.states os refl h
    (All-weaker (IsState e) (IsState (after e e.states os refl)) (state_kept e e.states os refl) e.states h.states)
    (all-alter_first damaged_output (IsOutput (after e e.states os refl)) (damaged_output_kept e e.states os refl) e.outputs
    (All-weaker (IsOutput e) (IsOutput (after e e.states os refl)) (output_kept e e.states os refl) e.outputs h.outputs))
    (map-alter_first damaged_output (λ (o : VOutput). o.port) (λ o. refl) e.outputs)
by_states (s ∷ ss) e same h =
    let more : List VState = damaged_state s ∷ ss in
    let long : length more ≡ length e.states = ap length (sym same) in
    sound_after e more e.outputs long h
    (all-alter_first damaged_state (IsState (after e more e.outputs long)) (damaged_state_kept e more e.outputs long) (s ∷ ss)
    (All-weaker (IsState e) (IsState (after e more e.outputs long)) (state_kept e more e.outputs long) (s ∷ ss)
    (subst (All (IsState e)) same h.states)))
    (All-weaker (IsOutput e) (IsOutput (after e more e.outputs long)) (output_kept e more e.outputs long) e.outputs h.outputs)
    refl

pub damaged_is_sound : DamagedEntitiesAreSound
damaged_is_sound e h = by_states e.states e refl h
