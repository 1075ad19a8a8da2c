-- The calls of timing checks in a written entity are read from their tokens.
use Rattle.std.proofs.Common.{◌≡◌, ℕ, ◌+◌, true, false, ◌&&◌, nat_eq, List, [], ◌∷◌, ◌++◌, length, flat_map, ◌⊎◌, inl, inr, Some}
use Rattle.std.proofs.Common.{Option, refl, sym, ap, ◌∙◌, subst, codes}
use Rattle.std.proofs.lemmas.Bool.{and_parts, eqb-true, eq-eqb as equal}
use Rattle.std.proofs.lemmas.List.{length-map}
use Rattle.grammar_rules.specs.Rule as r
use Rattle.cell_machine.specs.declared.checks.CheckKind.{CheckKind}
use Rattle.cell_machine.specs.declared.checks.CheckKind.TheVariants as check_kind
use Rattle.cell_machine.specs.declared.checks.Edge.{Edge}
use Rattle.cell_machine.specs.declared.checks.Edge.TheVariants as edge
use Rattle.cell_machine.specs.declared.checks.Event.{Event}
use Rattle.cell_machine.specs.CellRules.{is_any_edge, is_one_edge, are_opposite}
use Rattle.udp_tables.specs.declared.timing_checks.TimingCheck.{TimingCheck}
use Rattle.vital_models.specs.declared.model.VEntity.{VEntity}
use Rattle.vital_models.specs.Sound.{has_events}
use Rattle.grammar_reader.specs.declared.refusal.Refusal.TheVariants.{Syntax}
use Rattle.grammar_reader.specs.Words.{Grammar, allowed_by, valued, begins_as}
use Rattle.vhdl_grammar.specs.declared.scope.Scope.{Scope}
use Rattle.vhdl_grammar.specs.VhdlChecks.{procedure_of, Checks, setup_or_hold, check_with, setup_hold, recovery_or_removal}
use Rattle.vhdl_grammar.specs.VhdlChecks.{control_edge, active_low, recovery_removal, Pulse, pulse_of, pulse_check, period_pulse}
use Rattle.vhdl_grammar.specs.VhdlChecks.{enabled, check, checks}
use Rattle.vhdl_grammar.specs.WellFormed.{IsWellFormedEntity, conditions_of_check}
use Rattle.vhdl_writer.specs.Statements.{test_at, reference_at}
use Rattle.grammar_reader.proofs.Fronts.{Front}
use Rattle.grammar_reader.proofs.Derivations.{Reads, to_same, gives, token, in_turn, no_turn, turn, turns, goes_on}
use Rattle.written_entities.proofs.NameReading.{expected, two_expected}
use Rattle.written_entities.proofs.Counting.{counted, over}
use Rattle.written_entities.proofs.LookUpOrder.{seen_after}
use Rattle.written_entities.proofs.ConditionReading.{scope, uses_of}
use Rattle.written_entities.proofs.CheckTokens.{high_token, setup_hold_front, recovery_token, active_token}
use Rattle.written_entities.proofs.CheckTokens.{recovery_removal_front, width_token, pulse_token, period_pulse_front, check_word}
use Rattle.written_entities.proofs.CheckTokens.{enabled_behind, check_more, check_front}
use Rattle.written_entities.proofs.CheckFacts.{IsWrittenCheck, test_pin, reference_pin, of_when, check_looks, written_check}
use Rattle.written_entities.proofs.CheckParts.{tested_read, referred_read, enabled_read, transition_read, limits_read, limit_read}
use Rattle.written_entities.proofs.CheckParts.{checked, with_it, of_kind}
use Rattle.written_entities.proofs.VariableTokens.{is_period, is_period_check}

any_event : (v : Event) → is_any_edge v.edge ≡ true → ◌≡◌ {A = Event} (record { pin = v.pin; edge = edge.Any }) v
any_event v h = ap (λ (g : Edge). record { pin = v.pin; edge = g }) (by v.edge h)
  where
    by : (g : Edge) → is_any_edge g ≡ true → edge.Any ≡ g
    by edge.Any h = refl
    by edge.Rise h = absurd cc
    by edge.Fall h = absurd cc

-- one of two kinds
abbrev IsOneOf : CheckKind → CheckKind → CheckKind → Type 0
IsOneOf a b kind = (kind ≡ a) ⊎ (kind ≡ b)

of_two : (P : CheckKind → Type 0) {a b kind : CheckKind} → IsOneOf a b kind → P a → P b → P kind
of_two P (inl e) p q = subst P (sym e) p
of_two P (inr e) p q = subst P (sym e) q

-- a word that tells which of two kinds it is
kind_read : (of : List ℕ → Option CheckKind) (word : CheckKind → List ℕ) {a b kind : CheckKind} {s : List (List ℕ)}
    → IsOneOf a b kind → of (word a) ≡ Some a → of (word b) ≡ Some b → Reads (valued of) (word kind ∷ s) kind s
kind_read of word {s = s} h d e =
    of_two (λ (kind : CheckKind). Reads (valued of) (word kind ∷ s) kind s) h (token (ap (allowed_by Syntax) d))
    (token (ap (allowed_by Syntax) e))

-- Setup and hold, recovery and removal.

abbrev IsSetupOrHold : CheckKind → Type 0
IsSetupOrHold kind = IsOneOf check_kind.Setup check_kind.Hold kind

setup_hold_is : (k : TimingCheck) (kind : CheckKind) → IsSetupOrHold kind → has_events k kind ≡ true
    → check_with kind (record { pin = (test_at k kind).pin; edge = edge.Any })
    (record { pin = (reference_at k kind).pin; edge = (reference_at k kind).edge }) k.limit k.condition ≡ of_kind k kind
setup_hold_is k kind (inl a) e =
    rw a (ap (λ (v : Event). of_kind (record k { first = v }) check_kind.Setup)
    (any_event k.first (and_parts (is_any_edge k.first.edge) (is_one_edge k.second.edge) (rw a at e)).0))
setup_hold_is k kind (inr a) e =
    rw a (ap (λ (v : Event). of_kind (record k { second = v }) check_kind.Hold)
    (any_event k.second (and_parts (is_one_edge k.first.edge) (is_any_edge k.second.edge) (rw a at e)).1))

setup_hold_edge : (k : TimingCheck) (kind : CheckKind) → IsSetupOrHold kind → has_events k kind ≡ true
    → is_one_edge (reference_at k kind).edge ≡ true
setup_hold_edge k kind (inl a) e = rw a (and_parts (is_any_edge k.first.edge) (is_one_edge k.second.edge) (rw a at e)).1
setup_hold_edge k kind (inr a) e = rw a (and_parts (is_one_edge k.first.edge) (is_any_edge k.second.edge) (rw a at e)).0

abbrev IsRecoveryOrRemoval : CheckKind → Type 0
IsRecoveryOrRemoval kind = IsOneOf check_kind.Recovery check_kind.Removal kind

recovery_is : (k : TimingCheck) (kind : CheckKind) → IsRecoveryOrRemoval kind
    → check_with kind (record { pin = (test_at k kind).pin; edge = (test_at k kind).edge })
    (record { pin = (reference_at k kind).pin; edge = (reference_at k kind).edge }) k.limit k.condition ≡ of_kind k kind
recovery_is k kind (inl a) = rw a refl
recovery_is k kind (inr a) = rw a refl

recovery_edges : (k : TimingCheck) (kind : CheckKind) → IsRecoveryOrRemoval kind → has_events k kind ≡ true
    → (is_one_edge (test_at k kind).edge ≡ true) × (is_one_edge (reference_at k kind).edge ≡ true)
recovery_edges k kind (inl a) e = rw a (and_parts (is_one_edge k.first.edge) (is_one_edge k.second.edge) (rw a at e))
recovery_edges k kind (inr a) e = let p = and_parts (is_one_edge k.first.edge) (is_one_edge k.second.edge) (rw a at e)
    in rw a (p.1, p.0)

control_read : (g : Edge) {s : List (List ℕ)} → is_one_edge g ≡ true → Reads (valued control_edge) (active_token g ∷ s) g s
control_read edge.Any h = absurd cc
control_read edge.Rise h = token refl
control_read edge.Fall h = token refl

active_read : (g : Edge) {s : List (List ℕ)} → is_one_edge g ≡ true
    → Reads active_low (codes "ActiveLow" ∷ codes "=>" ∷ active_token g ∷ codes "," ∷ s) g s
unfolding active_low
active_read g h = in_turn two_expected (in_turn (control_read g h) (in_turn expected gives))

-- Pulses and periods.

abbrev IsPulseOrPeriod : CheckKind → Type 0
IsPulseOrPeriod kind = IsOneOf check_kind.Width check_kind.Period kind

-- the pulse that is read, and its check
record IsPulse (k : TimingCheck) (kind : CheckKind) (pulse : Pulse) : Type 0 where
  told : pulse_of (pulse_token k kind) ≡ Some pulse
  same : pulse_check pulse k.first.pin k.limit k.condition ≡ of_kind k kind

pulse_events : (k : TimingCheck) (kind : CheckKind) (a b : Edge) → k.first.edge ≡ a → k.second.edge ≡ b
    → nat_eq k.first.pin k.second.pin ≡ true
    → pulse_check (record { kind = kind; first = a; second = b }) k.first.pin k.limit k.condition ≡ of_kind k kind
pulse_events k kind a b e f h =
    let pins : k.first.pin ≡ k.second.pin = eqb-true k.first.pin k.second.pin h in
    let first : ◌≡◌ {A = Event} (record { pin = k.first.pin; edge = a }) k.first =
    ap (λ (g : Edge). record { pin = k.first.pin; edge = g }) (sym e) in
    let second : ◌≡◌ {A = Event} (record { pin = k.first.pin; edge = b }) k.second =
    ap (λ (g : Edge). record { pin = k.first.pin; edge = g }) (sym f)
    ∙ ap (λ (p : ℕ). record { pin = p; edge = k.second.edge }) pins in
    ap (λ (v : Event). of_kind (record k { first = v; second = record { pin = k.first.pin; edge = b } }) kind) first
    ∙ ap (λ (v : Event). of_kind (record k { second = v }) kind) second

-- a pulse whose word tells these edges
a_width : (k : TimingCheck) (a b : Edge)
    → pulse_of (width_token a) ≡ Some (record { kind = check_kind.Width; first = a; second = b }) → k.first.edge ≡ a
    → k.second.edge ≡ b → nat_eq k.first.pin k.second.pin ≡ true → (pulse : Pulse) × IsPulse k check_kind.Width pulse
a_width k a b told e f h = (
  record { kind = check_kind.Width; first = a; second = b },
  record {
    told =
        ap (λ (g : Edge). pulse_of (width_token g)) e ∙ told;
    same = pulse_events k check_kind.Width a b e f h;
  },
)

width_pulse : (k : TimingCheck) (a b : Edge) → k.first.edge ≡ a → k.second.edge ≡ b → are_opposite a b ≡ true
    → nat_eq k.first.pin k.second.pin ≡ true → (pulse : Pulse) × IsPulse k check_kind.Width pulse
width_pulse k edge.Rise edge.Fall e f o h = a_width k edge.Rise edge.Fall refl e f h
width_pulse k edge.Fall edge.Rise e f o h = a_width k edge.Fall edge.Rise refl e f h
width_pulse k _ _ e f o h = absurd cc

any_is : (g : Edge) → is_any_edge g ≡ true → g ≡ edge.Any
any_is edge.Any h = refl
any_is edge.Rise h = absurd cc
any_is edge.Fall h = absurd cc

its_pulse : (k : TimingCheck) (kind : CheckKind) → IsPulseOrPeriod kind → has_events k kind ≡ true → (pulse : Pulse)
    × IsPulse k kind pulse
its_pulse k kind (inl a) e =
    let p = and_parts (nat_eq k.first.pin k.second.pin) (are_opposite k.first.edge k.second.edge) (rw a at e) in
    rw a (width_pulse k k.first.edge k.second.edge refl refl p.1 p.0)
its_pulse k kind (inr a) e =
    let p = and_parts (nat_eq k.first.pin k.second.pin) (is_any_edge k.first.edge && is_any_edge k.second.edge) (rw a at e) in
    let q = and_parts (is_any_edge k.first.edge) (is_any_edge k.second.edge) p.1 in
    rw a (
      record { kind = check_kind.Period; first = edge.Any; second = edge.Any },
      record {
        told = refl;
        same = pulse_events k check_kind.Period edge.Any edge.Any (any_is k.first.edge q.0)
            (any_is k.second.edge q.1) p.0;
      },
    )

-- A check behind others.
module _ (e : VEntity) (w : IsWellFormedEntity e) (before : List TimingCheck) (k : TimingCheck) (after : List TimingCheck)
    (same : before ++ k ∷ after ≡ e.checks) where
  written : IsWrittenCheck e (length before + 1) k
  written = written_check e w before k after same

  abbrev seen : ℕ
  seen = seen_after 0 (flat_map conditions_of_check before)

  when_read : {s : List (List ℕ)}
      → Reads (enabled (scope e) (uses_of e seen)) (enabled_behind e k.condition s)
      (k.condition, uses_of e (seen_after seen (of_when k.condition))) s
  when_read = let looks = check_looks e w before k after same in enabled_read e w seen k.condition looks.0 looks.1

  -- the checks with the one that is read
  with_read : (j : TimingCheck) → j ≡ of_kind k k.kind
      → ◌≡◌ {A = Checks} (record { checks = before ++ j ∷ []; uses = uses_of e (seen_after seen (of_when k.condition)) })
      (checked e (before ++ k ∷ []))
  with_read j is =
      ap (λ (j : TimingCheck). record { checks = before ++ j ∷ []; uses = uses_of e (seen_after seen (of_when k.condition)) }) is
      ∙ with_it e before k

  -- the check is read by this grammar from these tokens
  abbrev IsRead : (Scope → Checks → Grammar Checks) → (VEntity → ℕ → TimingCheck → Front) → Type 0
  IsRead p f =
      (s : List (List ℕ)) → Reads (p (scope e) (checked e before)) (f e (length before + 1) k s) (checked e (before ++ k ∷ [])) s

  setup_hold_read : IsSetupOrHold k.kind → IsRead setup_hold setup_hold_front
  unfolding setup_hold
  setup_hold_read h s =
      in_turn (tested_read e w (codes "TimingData") before k after false (test_at k k.kind).pin same
      (of_two (λ (kind : CheckKind). is_period kind ≡ false) h refl refl) (test_pin e (length before + 1) k written k.kind))
      (in_turn (referred_read e w (reference_at k k.kind).pin (reference_pin e (length before + 1) k written k.kind))
      (in_turn (kind_read setup_or_hold high_token h refl refl)
      (in_turn (limits_read k.kind k.limit written.limit) (in_turn when_read
      (in_turn (transition_read (reference_at k k.kind).edge (setup_hold_edge k k.kind h written.sound.events))
      (to_same (with_read _ (setup_hold_is k k.kind h written.sound.events)) gives))))))

  recovery_removal_read : IsRecoveryOrRemoval k.kind → IsRead recovery_removal recovery_removal_front
  unfolding recovery_removal
  recovery_removal_read h s =
      let edges = recovery_edges k k.kind h written.sound.events in
      in_turn (tested_read e w (codes "TimingData") before k after false (test_at k k.kind).pin same
      (of_two (λ (kind : CheckKind). is_period kind ≡ false) h refl refl) (test_pin e (length before + 1) k written k.kind))
      (in_turn (referred_read e w (reference_at k k.kind).pin (reference_pin e (length before + 1) k written k.kind))
      (in_turn (kind_read recovery_or_removal recovery_token h refl refl) (in_turn (limit_read k.limit written.limit)
      (in_turn (active_read (test_at k k.kind).edge edges.0)
      (in_turn when_read (in_turn (transition_read (reference_at k k.kind).edge edges.1)
      (to_same (with_read _ (recovery_is k k.kind h)) gives)))))))

  period_pulse_read : IsPulseOrPeriod k.kind → IsRead period_pulse period_pulse_front
  unfolding period_pulse
  period_pulse_read h s =
      let pulse = its_pulse k k.kind h written.sound.events in
      in_turn (tested_read e w (codes "PeriodData") before k after true k.first.pin same
      (of_two (λ (kind : CheckKind). is_period kind ≡ true) h refl refl) written.sound.first)
      (in_turn (token (ap (allowed_by Syntax) pulse.1.told)) (in_turn (limit_read k.limit written.limit)
      (in_turn when_read (in_turn two_expected (to_same (with_read _ pulse.1.same) gives)))))

  -- a turn by the kind of the check, and the other turns
  kind_turn : {end : Checks} {left q : List (List ℕ)}
      → Reads (r.Many (λ _. begins_as procedure_of) (check (scope e)) (checked e (before ++ k ∷ []))) q end left
      → (kind : CheckKind) → k.kind ≡ kind
      → Reads (r.Many (λ _. begins_as procedure_of) (check (scope e)) (checked e before))
      (check_word kind ∷ check_more e (length before + 1) k kind q) end left
  kind_turn rest check_kind.Setup h = turns (turn refl (setup_hold_read (inl h) _)) rest
  kind_turn rest check_kind.Hold h = turns (turn refl (setup_hold_read (inr h) _)) rest
  kind_turn rest check_kind.Recovery h = turns (turn refl (recovery_removal_read (inl h) _)) rest
  kind_turn rest check_kind.Removal h = turns (turn refl (recovery_removal_read (inr h) _)) rest
  kind_turn rest check_kind.Width h = turns (turn refl (period_pulse_read (inl h) _)) rest
  kind_turn rest check_kind.Period h = turns (turn refl (period_pulse_read (inr h) _)) rest

-- all checks, where no other begins
pub checks_read : (e : VEntity) → IsWellFormedEntity e → (s : List (List ℕ))
    → Rattle.grammar_rules.specs.Rule.Stops (begins_as procedure_of) s
    → Reads (checks (scope e)) (counted (check_front e) 1 e.checks s) (checked e e.checks) s
unfolding checks
checks_read e w s stop =
    in_turn (over (checked e) (check_front e) [] e.checks
    (λ before k after q same rest. kind_turn e w before k after same rest k.kind refl) s (no_turn stop))
    (in_turn (goes_on (nat_eq (length e.checks) (length (scope e).variables.periods)) s
    (equal (length e.checks) (length (scope e).variables.periods) (sym (length-map e.checks is_period_check)))) gives)
