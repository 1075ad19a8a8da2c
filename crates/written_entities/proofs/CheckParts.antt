-- The parts of calls of timing checks in a written entity are read from their tokens.
use Rattle.std.proofs.Common.{◌≡◌, ℕ, ◌+◌, ◌≤◌, Bool, true, false, not, nat_eq, nat_lt, if◌then◌else◌, IsTrue, List, [], ◌∷◌}
use Rattle.std.proofs.Common.{◌++◌, length, flat_map, Option, Some, None, slice_get, refl, sym, ap, ◌∙◌, arith, decimal}
use Rattle.std.specs.Option.{option_map, option_map_or}
use Rattle.std.proofs.lemmas.Bool.Decides.{nat_tests}
use Rattle.std.proofs.lemmas.List.{length-map}
use Rattle.std.proofs.lemmas.Option.{slice_get-map}
use Rattle.std.proofs.lemmas.Bool.{lt-ltb as less}
use Rattle.cell_machine.specs.declared.checks.CheckKind.{CheckKind}
use Rattle.cell_machine.specs.declared.checks.Edge.{Edge}
use Rattle.cell_machine.specs.declared.checks.Edge.TheVariants as edge
use Rattle.cell_machine.specs.CellRules.{is_one_edge}
use Rattle.udp_tables.specs.declared.timing_checks.TimingCheck.{TimingCheck}
use Rattle.vital_models.specs.declared.model.VEntity.{VEntity}
use Rattle.grammar_reader.specs.Words.{valued}
use Rattle.vhdl_grammar.specs.VhdlChecks.{Checks, has_data, tested, referred, enabling_condition, always_enabled, enabled}
use Rattle.vhdl_grammar.specs.VhdlChecks.{reference_edge, transition, equal_to, same_number, both_limits, one_limit}
use Rattle.vhdl_grammar.specs.WellFormed.{IsNumber, IsCount, IsWellFormedEntity, conditions_of_check}
use Rattle.grammar_reader.proofs.Bytes.{number_is}
use Rattle.grammar_reader.proofs.Derivations.{Reads, gives, token, in_turn, chosen, passed}
use Rattle.grammar_reader.proofs.ItemPlaces.{get_at}
use Rattle.written_entities.proofs.Words.{word}
use Rattle.written_entities.proofs.NameReading.{expected, two_expected, three_expected, time_read, part_read}
use Rattle.written_entities.proofs.Parts.{place_below, check_number}
use Rattle.written_entities.proofs.PortLookUps.{input_read}
use Rattle.written_entities.proofs.LookUpOrder.{seen_after, seen_with_item}
use Rattle.written_entities.proofs.ConditionReading.{scope, uses_of, Looks, condition_read}
use Rattle.written_entities.proofs.Tests.{if_true}
use Rattle.written_entities.proofs.CheckTokens.{edge_word, transition_front, tested_front, referred_front, limits_front}
use Rattle.written_entities.proofs.CheckTokens.{enabled_behind, limit_front}
use Rattle.written_entities.proofs.CheckFacts.{of_when, conditions_are}
use Rattle.written_entities.proofs.VariableTokens.{is_period, is_period_check}

has_period : (e : VEntity) (before : List TimingCheck) (k : TimingCheck) (after : List TimingCheck)
    → before ++ k ∷ after ≡ e.checks → slice_get (scope e).variables.periods (length before) ≡ Some (is_period k.kind)
has_period e before k after same =
    slice_get-map is_period_check e.checks (length before)
    ∙ ap (λ (l : List TimingCheck). option_map is_period_check (slice_get l (length before))) (sym same)
    ∙ ap (option_map is_period_check) (get_at before k after)

its_data : (e : VEntity) (before : List TimingCheck) (k : TimingCheck) (after : List TimingCheck) (b : Bool)
    → before ++ k ∷ after ≡ e.checks → is_period k.kind ≡ b → has_data (scope e) b (length before) ≡ true
its_data e before k after b same h =
    ap (λ (o : Option Bool). option_map_or (λ (c : Bool). if b then c else not c) o false)
    (has_period e before k after same ∙ ap (λ (c : Bool). Some c) h) ∙ by b
  where
    by : (c : Bool) → (if c then c else not c) ≡ true
    by true = refl
    by false = refl

pub tested_read : (e : VEntity) → IsWellFormedEntity e
    → (word : List ℕ) (before : List TimingCheck) (k : TimingCheck) (after : List TimingCheck) (b : Bool)
    (p : ℕ) {s : List (List ℕ)} → before ++ k ∷ after ≡ e.checks → is_period k.kind ≡ b
    → IsTrue (Rattle.udp_tables.specs.Ports.is_input_port e.ports p)
    → Reads (tested (scope e) b word (length before)) (tested_front word e (length before + 1) p s) p s
unfolding tested
tested_read e w word before k after b p same h input =
    let below : length before + 1 ≤ length e.checks = place_below before k after e.checks same in
    let number : IsCount (length before + 1) = check_number e w (length before + 1) below in
    in_turn three_expected
    (in_turn (part_read (nat_lt (length before) (length (scope e).variables.periods)) 120 (length before + 1) refl number
    (less (length before) (length (scope e).variables.periods) (omega (arith, below, length-map e.checks is_period_check))))
    (in_turn three_expected (in_turn
    (part_read (has_data (scope e) b (length before)) 100 (length before + 1) refl number
    (its_data e before k after b same h))
    (in_turn three_expected (in_turn (input_read e w p input) (in_turn expected gives))))))

pub referred_read : (e : VEntity) → IsWellFormedEntity e → (p : ℕ) {s : List (List ℕ)}
    → IsTrue (Rattle.udp_tables.specs.Ports.is_input_port e.ports p) → Reads (referred (scope e)) (referred_front e p s) p s
unfolding referred
referred_read e w p input = in_turn two_expected (in_turn (input_read e w p input) (in_turn expected gives))

pub enabled_read : (e : VEntity) → IsWellFormedEntity e → (seen : ℕ) (when : Option ℕ) (is : List ℕ) {s : List (List ℕ)}
    → Looks e seen (of_when when ++ is)
    → Reads (enabled (scope e) (uses_of e seen)) (enabled_behind e when s) (when, uses_of e (seen_after seen (of_when when))) s
unfolding enabled enabling_condition always_enabled
enabled_read e w seen None is h = in_turn two_expected (passed refl (in_turn expected gives))
enabled_read e w seen (Some i) is h =
    in_turn two_expected (chosen refl (in_turn (condition_read e w seen i is h) (in_turn two_expected gives)))

edge_read : (g : Edge) {s : List (List ℕ)} → is_one_edge g ≡ true → Reads (valued reference_edge) (edge_word g ∷ s) g s
edge_read edge.Any h = absurd cc
edge_read edge.Rise h = token refl
edge_read edge.Fall h = token refl

pub transition_read : (g : Edge) {s : List (List ℕ)} → is_one_edge g ≡ true → Reads transition (transition_front g s) g s
unfolding transition
transition_read g h = in_turn three_expected (in_turn (edge_read g h) (in_turn two_expected gives))

same_limit : (limit : ℕ) {s : List (List ℕ)} → IsNumber limit → Reads (same_number limit) (decimal limit ∷ s) tt s
unfolding same_number
same_limit limit h = token (ap (equal_to limit) (number_is limit h) ∙ if_true (nat_eq limit limit) _ _ (grind (arith, nat_tests)))

pub limits_read : (kind : CheckKind) (limit : ℕ) {s : List (List ℕ)} → IsNumber limit
    → Reads (both_limits kind) (limits_front kind limit s) limit s
unfolding both_limits
limits_read kind limit h = in_turn expected
    (in_turn (time_read limit h) (in_turn three_expected (in_turn (same_limit limit h) (in_turn two_expected gives))))

pub limit_read : (limit : ℕ) {s : List (List ℕ)} → IsNumber limit → Reads one_limit (limit_front limit s) limit s
unfolding one_limit
limit_read limit h = in_turn expected (in_turn (time_read limit h) (in_turn expected gives))

-- the checks so far
abbrev pub checked : VEntity → List TimingCheck → Checks
checked e before = record { checks = before; uses = uses_of e (seen_after 0 (flat_map conditions_of_check before)) }

pub with_it : (e : VEntity) (before : List TimingCheck) (k : TimingCheck)
    → ◌≡◌ {A = Checks} (record {
      checks = before ++ k ∷ [];
      uses =
          uses_of e (seen_after (seen_after 0 (flat_map conditions_of_check before)) (of_when k.condition));
    })
    (checked e (before ++ k ∷ []))
with_it e before k =
    ap (λ (n : ℕ). record { checks = before ++ k ∷ []; uses = uses_of e n })
    (ap (seen_after (seen_after 0 (flat_map conditions_of_check before))) (sym (conditions_are k))
    ∙ seen_with_item conditions_of_check 0 before k)

abbrev pub of_kind : TimingCheck → CheckKind → TimingCheck
of_kind k kind = record k { kind = kind }
