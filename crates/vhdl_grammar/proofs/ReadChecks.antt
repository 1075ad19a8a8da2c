-- The checks that are read, with their conditions.
use Rattle.std.proofs.Common.{◌≡◌, ℕ, Bool, true, false, nat_eq, nat_lt, if◌then◌else◌, IsTrue, List, [], ◌∷◌, ◌++◌, length, ◌⊎◌}
use Rattle.std.proofs.Common.{inl, inr, Option, Some, None, refl, sym, ap, subst, ◌∙◌, codes, ◌&&◌}
use Rattle.std.specs.Prelude.{All, flat_map}
use Rattle.std.proofs.lemmas.Bool.{and_from, eq-eqb, eqb-true}
use Rattle.std.proofs.lemmas.List.{append-nil}
use Rattle.std.proofs.lemmas.List.Elements.{All-nil, All-push}
use Rattle.std.proofs.lemmas.Grind.{flat_map-append}
use Rattle.grammar_rules.proofs.Promises.{Promises, gives, in_turn, many, choice, weaker}
use Rattle.cell_machine.specs.declared.checks.CheckKind.{CheckKind}
use Rattle.cell_machine.specs.declared.checks.CheckKind.TheVariants as check_kind
use Rattle.cell_machine.specs.declared.checks.Edge.{Edge}
use Rattle.cell_machine.specs.declared.checks.Edge.TheVariants as edge
use Rattle.cell_machine.specs.declared.checks.Event.{Event}
use Rattle.cell_machine.specs.CellRules.{is_one_edge}
use Rattle.udp_tables.specs.declared.timing_checks.TimingCheck.{TimingCheck}
use Rattle.vital_tables.specs.Sound.{has_events}
use Rattle.udp_tables.specs.Ports.{is_input_port}
use Rattle.vhdl_tokens.specs.Spelling.{is_same}
use Rattle.grammar_reader.specs.Words.{Grammar, ◌>>=◌}
use Rattle.vhdl_grammar.specs.declared.scope.Scope.{Scope}
use Rattle.vhdl_grammar.specs.VhdlRules.{a_time}
use Rattle.vhdl_grammar.specs.VhdlNames.{Uses}
use Rattle.vhdl_grammar.specs.VhdlChecks.{Procedure, SetupHold, RecoveryRemoval, PeriodPulse, Checks, tested, referred}
use Rattle.vhdl_grammar.specs.VhdlChecks.{enabling_condition, always_enabled, enabled, reference_edge, transition, setup_or_hold}
use Rattle.vhdl_grammar.specs.VhdlChecks.{both_limits, check_with, with_check, setup_hold, recovery_or_removal, control_edge}
use Rattle.vhdl_grammar.specs.VhdlChecks.{one_limit, active_low, recovery_removal, Pulse, pulse_of, pulse_check, period_pulse}
use Rattle.vhdl_grammar.specs.VhdlChecks.{check, checks}
use Rattle.vhdl_grammar.specs.WellFormed.{IsNumber, conditions_of_check}
use Rattle.vhdl_grammar.proofs.ReadNames.{IsSpelled, numbers, values, goes_on, behind}
use Rattle.vhdl_grammar.proofs.ReadLists.{input_ports, AreLookedUp, none_looked_up, conditions}

-- Parts of checks.

abbrev IsInput : Scope → ℕ → Type 0
IsInput scope p = IsTrue (is_input_port scope.ports p)

tested_inputs : (scope : Scope) (is_period : Bool) (word : List ℕ) (j : ℕ)
    → Promises IsSpelled (tested scope is_period word j) (IsInput scope)
unfolding tested
tested_inputs scope is_period word j =
    behind (λ a. behind (λ b. behind
    (λ c. behind (λ d. behind (λ e. in_turn (input_ports scope.ports) (λ p h. behind (λ f. gives h)))))))

referred_inputs : (scope : Scope) → Promises IsSpelled (referred scope) (IsInput scope)
unfolding referred
referred_inputs scope = behind (λ a. in_turn (input_ports scope.ports) (λ p h. behind (λ b. gives h)))

pub times : Promises IsSpelled a_time IsNumber
unfolding a_time
times = in_turn numbers (λ n h. behind (λ a. gives h))

-- the condition of a check is one of so many
abbrev pub is_enabled_in : ℕ → Option ℕ → Bool
is_enabled_in n None = true
is_enabled_in n (Some i) = nat_lt i n

abbrev numbers_in : Option ℕ → List ℕ
numbers_in None = []
numbers_in (Some i) = i ∷ []

-- a condition, or none, behind look-ups of these
record IsEnabling (scope : Scope) (is : List ℕ) (found : Option ℕ × Uses) : Type 0 where
  condition : IsTrue (is_enabled_in (length scope.tables.conditions) found.0)
  looked_up : AreLookedUp scope (is ++ numbers_in found.0) found.1

enabling : (scope : Scope) (is : List ℕ) (uses : Uses) → AreLookedUp scope is uses
    → Promises IsSpelled (enabled scope uses) (IsEnabling scope is)
unfolding enabled enabling_condition always_enabled
enabling scope is uses h =
    behind (λ a. choice
    (λ x b p e. in_turn (conditions scope is uses h)
    (λ found f. behind (λ c. gives (record { condition = f.condition; looked_up = f.looked_up }))))
    (behind (λ b. gives (record {
      condition = refl;
      looked_up =
          subst (λ (js : List ℕ). AreLookedUp scope js uses) (sym (append-nil is)) h;
    }))))

one_of : {A : Type 0} (a b : Bool) (v w k : A) → (if a then Some v else (if b then Some w else None)) ≡ Some k → (v ≡ k) ⊎ (w ≡ k)
one_of true b v w k e = inl cc
one_of false true v w k e = inr cc
one_of false false v w k e = absurd cc

reference_edges : (x : List ℕ) (e : Edge) → reference_edge x ≡ Some e → is_one_edge e ≡ true
reference_edges x e h = elim (one_of (is_same x (codes "'R'")) (is_same x (codes "'F'")) edge.Rise edge.Fall e h) [
  | inl i ↦ subst (λ e. is_one_edge e ≡ true) i refl
  | inr i ↦ subst (λ e. is_one_edge e ≡ true) i refl
]

control_edges : (x : List ℕ) (e : Edge) → control_edge x ≡ Some e → is_one_edge e ≡ true
control_edges x e h = elim (one_of (is_same x (codes "true")) (is_same x (codes "false")) edge.Rise edge.Fall e h) [
  | inl i ↦ subst (λ e. is_one_edge e ≡ true) i refl
  | inr i ↦ subst (λ e. is_one_edge e ≡ true) i refl
]

transitions : Promises IsSpelled transition (λ e. is_one_edge e ≡ true)
unfolding transition
transitions =
    behind (λ a. in_turn (weaker (values reference_edge) (λ e f. reference_edges f.0 e f.1)) (λ e h. behind (λ b. gives h)))

controls : Promises IsSpelled active_low (λ e. is_one_edge e ≡ true)
unfolding active_low
controls =
    behind (λ a. in_turn (weaker (values control_edge) (λ e f. control_edges f.0 e f.1)) (λ e h. behind (λ b. gives h)))

limits : Promises IsSpelled one_limit IsNumber
unfolding one_limit
limits = behind (λ a. in_turn times (λ n h. behind (λ b. gives h)))

equal_limits : (kind : CheckKind) → Promises IsSpelled (both_limits kind) IsNumber
unfolding both_limits
equal_limits kind =
    behind (λ a. in_turn times (λ n h. behind (λ b. behind (λ c. behind (λ d. gives h)))))

-- Checks.

-- a check that a text can tell
pub record IsToldCheck (scope : Scope) (k : TimingCheck) : Type 0 where
  pub first : IsTrue (is_input_port scope.ports k.first.pin)
  pub second : IsTrue (is_input_port scope.ports k.second.pin)
  pub events : IsTrue (has_events k k.kind)
  pub enabled : IsTrue (is_enabled_in (length scope.tables.conditions) k.condition)
  pub limit : IsNumber k.limit

-- a check of two signals, with these edges, limit and condition
abbrev IsToldAs : Scope → CheckKind → Edge → Type 0
IsToldAs scope kind test_edge =
    (test reference limit : ℕ) (e : Edge) (when : Option ℕ) → IsInput scope test → IsInput scope reference → is_one_edge e ≡ true
    → IsTrue (is_enabled_in (length scope.tables.conditions) when) → IsNumber limit
    → IsToldCheck scope (check_with kind (record { pin = test; edge = test_edge }) (record { pin = reference; edge = e }) limit
    when)

told_setup : (scope : Scope) → IsToldAs scope check_kind.Setup edge.Any
told_setup scope test reference limit e when t r one w l = record { first = t; second = r; events = one; enabled = w; limit = l }

told_hold : (scope : Scope) → IsToldAs scope check_kind.Hold edge.Any
told_hold scope test reference limit e when t r one w l =
    record { first = r; second = t; events = and_from (is_one_edge e) true one refl; enabled = w; limit = l }

told_recovery : (scope : Scope) (c : Edge) → is_one_edge c ≡ true → IsToldAs scope check_kind.Recovery c
told_recovery scope c h test reference limit e when t r one w l =
    record { first = t; second = r; events = and_from (is_one_edge c) (is_one_edge e) h one; enabled = w; limit = l }

told_removal : (scope : Scope) (c : Edge) → is_one_edge c ≡ true → IsToldAs scope check_kind.Removal c
told_removal scope c h test reference limit e when t r one w l =
    record { first = r; second = t; events = and_from (is_one_edge e) (is_one_edge c) one h; enabled = w; limit = l }

setup_or_hold_told : (scope : Scope) (x : List ℕ) (kind : CheckKind) → setup_or_hold x ≡ Some kind → IsToldAs scope kind edge.Any
setup_or_hold_told scope x kind h =
    elim (one_of (is_same x (codes "SetupHigh")) (is_same x (codes "HoldHigh")) check_kind.Setup check_kind.Hold kind h) [
      | inl i ↦ subst (λ (kind : CheckKind). IsToldAs scope kind edge.Any) i (told_setup scope)
      | inr i ↦ subst (λ (kind : CheckKind). IsToldAs scope kind edge.Any) i (told_hold scope)
    ]

recovery_or_removal_told : (scope : Scope) (x : List ℕ) (kind : CheckKind) → recovery_or_removal x ≡ Some kind → (c : Edge)
    → is_one_edge c ≡ true → IsToldAs scope kind c
recovery_or_removal_told scope x kind h c one =
    elim (one_of (is_same x (codes "Recovery")) (is_same x (codes "Removal")) check_kind.Recovery check_kind.Removal kind h) [
      | inl i ↦ subst (λ (kind : CheckKind). IsToldAs scope kind c) i (told_recovery scope c one)
      | inr i ↦ subst (λ (kind : CheckKind). IsToldAs scope kind c) i (told_removal scope c one)
    ]

-- The condition of a check is the one that its text looks up.

with_conditions : (kind : CheckKind) (first second : Event) (limit : ℕ) (when : Option ℕ)
    → conditions_of_check (record { kind = kind; first = first; second = second; limit = limit; condition = when }) ≡ numbers_in
    when
with_conditions kind first second limit None = refl
with_conditions kind first second limit (Some i) = refl

kind_conditions : (kind : CheckKind) (test reference : Event) (limit : ℕ) (when : Option ℕ)
    → conditions_of_check (check_with kind test reference limit when) ≡ numbers_in when
kind_conditions check_kind.Setup test reference limit when = with_conditions check_kind.Setup test reference limit when
kind_conditions check_kind.Hold test reference limit when = with_conditions check_kind.Hold reference test limit when
kind_conditions check_kind.Recovery test reference limit when = with_conditions check_kind.Recovery test reference limit when
kind_conditions check_kind.Removal test reference limit when = with_conditions check_kind.Removal reference test limit when
kind_conditions check_kind.Width test reference limit when = with_conditions check_kind.Width test reference limit when
kind_conditions check_kind.Period test reference limit when = with_conditions check_kind.Period test reference limit when

-- the checks so far
pub record AreChecks (scope : Scope) (all : Checks) : Type 0 where
  pub told : All (IsToldCheck scope) all.checks
  pub looked_up : AreLookedUp scope (flat_map conditions_of_check all.checks) all.uses

conditions-push : (all : List TimingCheck) (k : TimingCheck)
    → flat_map conditions_of_check (all ++ k ∷ []) ≡ flat_map conditions_of_check all ++ conditions_of_check k
conditions-push all k =
    flat_map-append conditions_of_check all (k ∷ []) ∙ ap (λ (is : List ℕ). flat_map conditions_of_check all ++ is)
    (append-nil (conditions_of_check k))

push_check : (scope : Scope) (before : Checks) (k : TimingCheck) (when : Option ℕ × Uses) → AreChecks scope before
    → IsToldCheck scope k → conditions_of_check k ≡ numbers_in when.0
    → IsEnabling scope (flat_map conditions_of_check before.checks) when → AreChecks scope (with_check before k when.1)
push_check scope before k when h told same looked = record {
  told = All-push (IsToldCheck scope) before.checks k h.told told;
  looked_up = subst (λ (is : List ℕ). AreLookedUp scope is when.1)
      (sym (conditions-push before.checks k ∙ ap (λ (is : List ℕ). flat_map conditions_of_check before.checks ++ is) same))
      looked.looked_up;
}

-- what is read behind the two signals of a check
behind_signals : {B : Type 0} {P : B → Type 0} {rest : ℕ → ℕ → Grammar B} (scope : Scope) (before : Checks)
    → ((test reference : ℕ) → IsInput scope test → IsInput scope reference → Promises IsSpelled (rest test reference) P)
    → Promises IsSpelled (tested scope false (codes "TimingData") (length before.checks) >>= λ test. referred scope >>= rest test) P
behind_signals scope before more =
    in_turn (tested_inputs scope false (codes "TimingData") (length before.checks))
    (λ test t. in_turn (referred_inputs scope) (λ reference r. more test reference t r))

setup_holds : (scope : Scope) (before : Checks) → AreChecks scope before
    → Promises IsSpelled (setup_hold scope before) (AreChecks scope)
unfolding setup_hold
setup_holds scope before h =
    behind_signals scope before (λ test reference t r. in_turn (values setup_or_hold) (λ kind f.
    in_turn (equal_limits kind) (λ limit l.
    in_turn (enabling scope (flat_map conditions_of_check before.checks) before.uses h.looked_up) (λ when w.
    in_turn transitions (λ e one.
    gives (push_check scope before (check_with kind (record { pin = test; edge = edge.Any })
    (record { pin = reference; edge = e }) limit when.0) when h
    (setup_or_hold_told scope f.0 kind f.1 test reference limit e when.0 t r one w.condition l)
    (kind_conditions kind (record { pin = test; edge = edge.Any }) (record { pin = reference; edge = e }) limit when.0) w))))))

recovery_removals : (scope : Scope) (before : Checks) → AreChecks scope before
    → Promises IsSpelled (recovery_removal scope before) (AreChecks scope)
unfolding recovery_removal
recovery_removals scope before h =
    behind_signals scope before (λ test reference t r. in_turn (values recovery_or_removal) (λ kind f.
    in_turn limits (λ limit l.
    in_turn controls (λ control c.
    in_turn (enabling scope (flat_map conditions_of_check before.checks) before.uses h.looked_up) (λ when w.
    in_turn transitions (λ e one.
    gives (push_check scope before (check_with kind (record { pin = test; edge = control }) (record { pin = reference; edge = e })
    limit when.0) when h
    (recovery_or_removal_told scope f.0 kind f.1 control c test reference limit e when.0 t r one w.condition l)
    (kind_conditions kind (record { pin = test; edge = control }) (record { pin = reference; edge = e }) limit when.0) w)))))))

-- a check of one signal
abbrev IsToldPulse : Scope → Pulse → Type 0
IsToldPulse scope pulse =
    (p limit : ℕ) (when : Option ℕ) → IsInput scope p → IsTrue (is_enabled_in (length scope.tables.conditions) when)
    → IsNumber limit
    → IsToldCheck scope (pulse_check pulse p limit when)

told_pulse : (scope : Scope) (pulse : Pulse)
    → ((p limit : ℕ) (when : Option ℕ) → IsTrue (has_events (pulse_check pulse p limit when) pulse.kind))
    → IsToldPulse scope pulse
told_pulse scope pulse events p limit when t w l =
    record { first = t; second = t; events = events p limit when; enabled = w; limit = l }

-- a pin is itself, and the edges are those of the kind
itself : (p : ℕ) → IsTrue (nat_eq p p && true)
itself p = and_from (nat_eq p p) true (eq-eqb p p refl) refl

one_of_three : {A : Type 0} (a b c : Bool) (v w x k : A)
    → (if a then Some v else (if b then Some w else (if c then Some x else None))) ≡ Some k → (v ≡ k) ⊎ ((w ≡ k) ⊎ (x ≡ k))
one_of_three true b c v w x k e = inl cc
one_of_three false true c v w x k e = inr (inl cc)
one_of_three false false true v w x k e = inr (inr cc)
one_of_three false false false v w x k e = absurd cc

pulses_told : (scope : Scope) (word : List ℕ) (pulse : Pulse) → pulse_of word ≡ Some pulse → IsToldPulse scope pulse
pulses_told scope word pulse h =
    elim
    (one_of_three (is_same word (codes "PulseWidthHigh")) (is_same word (codes "PulseWidthLow")) (is_same word (codes "Period"))
    (record { kind = check_kind.Width; first = edge.Rise; second = edge.Fall })
    (record { kind = check_kind.Width; first = edge.Fall; second = edge.Rise })
    (record { kind = check_kind.Period; first = edge.Any; second = edge.Any }) pulse h) [
      | inl i ↦ subst (IsToldPulse scope) i (told_pulse scope _ (λ p limit when. itself p))
      | inr (inl i) ↦ subst (IsToldPulse scope) i (told_pulse scope _ (λ p limit when. itself p))
      | inr (inr i) ↦ subst (IsToldPulse scope) i (told_pulse scope _ (λ p limit when. itself p))
    ]

period_pulses : (scope : Scope) (before : Checks) → AreChecks scope before
    → Promises IsSpelled (period_pulse scope before) (AreChecks scope)
unfolding period_pulse
period_pulses scope before h =
    in_turn (tested_inputs scope true (codes "PeriodData") (length before.checks)) (λ test t.
    in_turn (values pulse_of) (λ pulse f.
    in_turn limits (λ limit l.
    in_turn (enabling scope (flat_map conditions_of_check before.checks) before.uses h.looked_up) (λ when w.
    behind (λ a. gives (push_check scope before (pulse_check pulse test limit when.0) when h
    (pulses_told scope f.0 pulse f.1 test limit when.0 t w.condition l)
    (with_conditions pulse.kind (record { pin = test; edge = pulse.first }) (record { pin = test; edge = pulse.second }) limit
    when.0) w))))))

one_check : (scope : Scope) (before : Checks) → AreChecks scope before → (of : Procedure)
    → Promises IsSpelled (check scope before of) (AreChecks scope)
one_check scope before h SetupHold = setup_holds scope before h
one_check scope before h RecoveryRemoval = recovery_removals scope before h
one_check scope before h PeriodPulse = period_pulses scope before h

-- the checks of an entity, one for each of its variables
pub record AreAllChecks (scope : Scope) (all : Checks) : Type 0 where
  pub are : AreChecks scope all
  pub count : length all.checks ≡ length scope.variables.periods

pub all_checks : (scope : Scope) → Promises IsSpelled (checks scope) (AreAllChecks scope)
unfolding checks
all_checks scope =
    in_turn (many {Q = AreChecks scope} (record { told = All-nil (IsToldCheck scope); looked_up = none_looked_up scope })
    (λ w x of q p e. one_check scope w q of)) (λ all h.
    in_turn (goes_on (nat_eq (length all.checks) (length scope.variables.periods))) (λ a n.
    gives (record { are = h; count = eqb-true (length all.checks) (length scope.variables.periods) n })))
