-- The tokens of the calls of timing checks in a written entity.
use Rattle.std.proofs.Common.{◌≡◌, ℕ, ◌+◌, ◌<◌, Bool, true, false, List, ◌∷◌, ◌++◌, length, Option, Some, None, refl, sym, subst}
use Rattle.std.proofs.Common.{codes, decimal}
use Rattle.cell_machine.specs.declared.checks.CheckKind.{CheckKind}
use Rattle.cell_machine.specs.declared.checks.CheckKind.TheVariants as check_kind
use Rattle.cell_machine.specs.declared.checks.Edge.{Edge}
use Rattle.cell_machine.specs.declared.checks.Edge.TheVariants as edge
use Rattle.udp_tables.specs.declared.timing_checks.TimingCheck.{TimingCheck}
use Rattle.vital_models.specs.declared.model.VEntity.{VEntity}
use Rattle.vhdl_grammar.specs.VhdlChecks.{checks}
use Rattle.vhdl_grammar.specs.VhdlChecks as grammar
use Rattle.vhdl_grammar.specs.WellFormed.{IsWellFormedEntity}
use Rattle.vhdl_writer.specs.Joined.{numbered_texts}
use Rattle.vhdl_writer.specs.Names.{port_at}
use Rattle.vhdl_writer.specs.Statements.{one_text, enabled_text, test_at, reference_at, transition_text, high_word, low_word}
use Rattle.vhdl_writer.specs.Statements.{setup_hold_text, recovery_word, active_text, recovery_removal_text, width_word}
use Rattle.vhdl_writer.specs.Statements.{pulse_word, period_pulse_text, kind_text, check_text}
use Rattle.grammar_reader.proofs.Fronts.{Front, Anything}
use Rattle.grammar_reader.proofs.Spelling.{literal, joins, behind, anywhere}
use Rattle.written_entities.proofs.Spelling.{Spells, argument}
use Rattle.written_entities.proofs.Words.{Ends, word, name, number, true_word}
use Rattle.written_entities.proofs.Counting.{counted, counted_anywhere}
use Rattle.written_entities.proofs.Parts.{part_behind, IsBehind, by_kind}
use Rattle.written_entities.proofs.PortLookUps.{input_named}
use Rattle.written_entities.proofs.ConditionReading.{condition_front, condition_spelled}
use Rattle.written_entities.proofs.Elements.{call_end}
use Rattle.written_entities.proofs.CheckFacts.{IsWrittenCheck, test_pin, reference_pin, written_check}

-- Tokens.

abbrev enabled_front : VEntity → Option ℕ → Front
enabled_front e None s = codes "true" ∷ s
enabled_front e (Some i) s = codes "VitalTruthTable" ∷ condition_front e i (codes "=" ∷ codes "'1'" ∷ s)

abbrev pub edge_word : Edge → List ℕ
edge_word edge.Any = codes "'R'"
edge_word edge.Rise = codes "'R'"
edge_word edge.Fall = codes "'F'"

abbrev pub transition_front : Edge → Front
transition_front g s = codes "," ∷ codes "RefTransition" ∷ codes "=>" ∷ edge_word g ∷ codes ")" ∷ codes ";" ∷ s

abbrev pub high_token : CheckKind → List ℕ
high_token check_kind.Hold = codes "HoldHigh"
high_token _ = codes "SetupHigh"

abbrev pub tested_front : List ℕ → VEntity → ℕ → ℕ → Front
tested_front word e n p s =
    codes "(" ∷ codes "Violation" ∷ codes "=>" ∷ (120 ∷ 95 ∷ decimal n) ∷ codes "," ∷ word ∷ codes "=>" ∷ (100 ∷ 95 ∷ decimal n)
    ∷ codes "," ∷ codes "TestSignal" ∷ codes "=>" ∷ port_at e p ∷ codes "," ∷ s

abbrev pub referred_front : VEntity → ℕ → Front
referred_front e p s = codes "RefSignal" ∷ codes "=>" ∷ port_at e p ∷ codes "," ∷ s

abbrev pub limits_front : CheckKind → ℕ → Front
limits_front kind limit s =
    codes "=>" ∷ decimal limit ∷ codes "ps" ∷ codes "," ∷ grammar.low_word kind ∷ codes "=>" ∷ decimal limit ∷ codes "ps" ∷ codes
    "," ∷ s

abbrev pub enabled_behind : VEntity → Option ℕ → Front
enabled_behind e when s = codes "CheckEnabled" ∷ codes "=>" ∷ enabled_front e when s

abbrev pub setup_hold_front : VEntity → ℕ → TimingCheck → Front
setup_hold_front e n k s =
    tested_front (codes "TimingData") e n (test_at k k.kind).pin
    (referred_front e (reference_at k k.kind).pin (high_token k.kind ∷ limits_front k.kind k.limit
    (enabled_behind e k.condition (transition_front (reference_at k k.kind).edge s))))

abbrev pub recovery_token : CheckKind → List ℕ
recovery_token check_kind.Removal = codes "Removal"
recovery_token _ = codes "Recovery"

abbrev pub active_token : Edge → List ℕ
active_token edge.Any = codes "true"
active_token edge.Rise = codes "true"
active_token edge.Fall = codes "false"

abbrev pub limit_front : ℕ → Front
limit_front limit s = codes "=>" ∷ decimal limit ∷ codes "ps" ∷ codes "," ∷ s

abbrev pub recovery_removal_front : VEntity → ℕ → TimingCheck → Front
recovery_removal_front e n k s =
    tested_front (codes "TimingData") e n (test_at k k.kind).pin
    (referred_front e (reference_at k k.kind).pin (recovery_token k.kind ∷ limit_front k.limit
    (codes "ActiveLow" ∷ codes "=>" ∷ active_token (test_at k k.kind).edge ∷ codes "," ∷ enabled_behind e k.condition
    (transition_front (reference_at k k.kind).edge s))))

abbrev pub width_token : Edge → List ℕ
width_token edge.Any = codes "PulseWidthHigh"
width_token edge.Rise = codes "PulseWidthHigh"
width_token edge.Fall = codes "PulseWidthLow"

abbrev pub pulse_token : TimingCheck → CheckKind → List ℕ
pulse_token k check_kind.Period = codes "Period"
pulse_token k _ = width_token k.first.edge

abbrev pub period_pulse_front : VEntity → ℕ → TimingCheck → Front
period_pulse_front e n k s =
    tested_front (codes "PeriodData") e n k.first.pin
    (pulse_token k k.kind ∷ limit_front k.limit (enabled_behind e k.condition (codes ")" ∷ codes ";" ∷ s)))

-- the word of a check's procedure, and what stands behind it
abbrev pub check_word : CheckKind → List ℕ
check_word check_kind.Recovery = codes "VitalRecoveryRemovalCheck"
check_word check_kind.Removal = codes "VitalRecoveryRemovalCheck"
check_word check_kind.Width = codes "VitalPeriodPulseCheck"
check_word check_kind.Period = codes "VitalPeriodPulseCheck"
check_word _ = codes "VitalSetupHoldCheck"

abbrev pub check_more : VEntity → ℕ → TimingCheck → CheckKind → Front
check_more e n k check_kind.Recovery s = recovery_removal_front e n k s
check_more e n k check_kind.Removal s = recovery_removal_front e n k s
check_more e n k check_kind.Width s = period_pulse_front e n k s
check_more e n k check_kind.Period s = period_pulse_front e n k s
check_more e n k _ s = setup_hold_front e n k s

abbrev pub check_front : VEntity → ℕ → TimingCheck → Front
check_front e n k s = check_word k.kind ∷ check_more e n k k.kind s

setup_hold_word : {t : Bool} → Spells Anything t
    (codes "    VitalSetupHoldCheck (Violation => ")
    (λ s. codes "VitalSetupHoldCheck" ∷ codes "(" ∷ codes "Violation" ∷ codes "=>" ∷ s) false
setup_hold_word = literal (λ r. refl) refl

recovery_removal_word : {t : Bool}
    → Spells Anything t (codes "    VitalRecoveryRemovalCheck (Violation => ")
    (λ s. codes "VitalRecoveryRemovalCheck" ∷ codes "(" ∷ codes "Violation" ∷ codes "=>" ∷ s) false
recovery_removal_word = literal (λ r. refl) refl

period_pulse_word : {t : Bool} → Spells Anything t
    (codes "    VitalPeriodPulseCheck (Violation => ")
    (λ s. codes "VitalPeriodPulseCheck" ∷ codes "(" ∷ codes "Violation" ∷ codes "=>" ∷ s) false
period_pulse_word = literal (λ r. refl) refl

setup_high : IsBehind (codes ", SetupHigh => ") (λ s. codes "," ∷ codes "SetupHigh" ∷ codes "=>" ∷ s)
setup_high = record { spelled = literal (λ r. refl) refl; begins = λ r. refl }

hold_high : IsBehind (codes ", HoldHigh => ") (λ s. codes "," ∷ codes "HoldHigh" ∷ codes "=>" ∷ s)
hold_high = record { spelled = literal (λ r. refl) refl; begins = λ r. refl }

setup_low : IsBehind (codes " ps, SetupLow => ") (λ s. codes "ps" ∷ codes "," ∷ codes "SetupLow" ∷ codes "=>" ∷ s)
setup_low = record { spelled = literal (λ r. refl) refl; begins = λ r. refl }

hold_low : IsBehind (codes " ps, HoldLow => ") (λ s. codes "ps" ∷ codes "," ∷ codes "HoldLow" ∷ codes "=>" ∷ s)
hold_low = record { spelled = literal (λ r. refl) refl; begins = λ r. refl }

enabled_word : {t : Bool} → Spells Anything t (codes " ps, CheckEnabled => ")
    (λ s. codes "ps" ∷ codes "," ∷ codes "CheckEnabled" ∷ codes "=>" ∷ s) false
enabled_word = literal (λ r. refl) refl

rise_transition : IsBehind (codes ", RefTransition => 'R');\n")
    (λ s. codes "," ∷ codes "RefTransition" ∷ codes "=>" ∷ codes "'R'" ∷ codes ")" ∷ codes ";" ∷ s)
rise_transition = record { spelled = literal (λ r. refl) refl; begins = λ r. refl }

fall_transition : IsBehind (codes ", RefTransition => 'F');\n")
    (λ s. codes "," ∷ codes "RefTransition" ∷ codes "=>" ∷ codes "'F'" ∷ codes ")" ∷ codes ";" ∷ s)
fall_transition = record { spelled = literal (λ r. refl) refl; begins = λ r. refl }

recovery_limit : IsBehind (codes ", Recovery => ") (λ s. codes "," ∷ codes "Recovery" ∷ codes "=>" ∷ s)
recovery_limit = record { spelled = literal (λ r. refl) refl; begins = λ r. refl }

removal_limit : IsBehind (codes ", Removal => ") (λ s. codes "," ∷ codes "Removal" ∷ codes "=>" ∷ s)
removal_limit = record { spelled = literal (λ r. refl) refl; begins = λ r. refl }

active_word : IsBehind (codes " ps, ActiveLow => true, CheckEnabled => ")
    (λ s. codes "ps" ∷ codes "," ∷ codes "ActiveLow" ∷ codes "=>" ∷ codes "true" ∷ codes "," ∷ codes "CheckEnabled" ∷ codes "=>"
    ∷ s)
active_word = record { spelled = literal (λ r. refl) refl; begins = λ r. refl }

inactive_word : IsBehind (codes " ps, ActiveLow => false, CheckEnabled => ")
    (λ s. codes "ps" ∷ codes "," ∷ codes "ActiveLow" ∷ codes "=>" ∷ codes "false" ∷ codes "," ∷ codes "CheckEnabled" ∷ codes "=>"
    ∷ s)
inactive_word = record { spelled = literal (λ r. refl) refl; begins = λ r. refl }

high_pulse : IsBehind (codes ", PulseWidthHigh => ") (λ s. codes "," ∷ codes "PulseWidthHigh" ∷ codes "=>" ∷ s)
high_pulse = record { spelled = literal (λ r. refl) refl; begins = λ r. refl }

low_pulse : IsBehind (codes ", PulseWidthLow => ") (λ s. codes "," ∷ codes "PulseWidthLow" ∷ codes "=>" ∷ s)
low_pulse = record { spelled = literal (λ r. refl) refl; begins = λ r. refl }

period_limit : IsBehind (codes ", Period => ") (λ s. codes "," ∷ codes "Period" ∷ codes "=>" ∷ s)
period_limit = record { spelled = literal (λ r. refl) refl; begins = λ r. refl }

is_one : {t : Bool} → Spells Anything t (codes " = '1'") (λ s. codes "=" ∷ codes "'1'" ∷ s) false
is_one = literal (λ r. refl) refl

enabled_spelled : (e : VEntity) → IsWellFormedEntity e → (when : Option ℕ) → ((i : ℕ) → when ≡ Some i → i < length e.conditions)
    → Spells Ends false (enabled_text e when) (enabled_front e when) false
unfolding one_text
enabled_spelled e w None h = true_word
enabled_spelled e w (Some i) h = anywhere (behind (condition_spelled e w i (h i refl)) is_one)

transition : (g : Edge) → IsBehind (transition_text g) (transition_front g)
transition edge.Any = rise_transition
transition edge.Rise = rise_transition
transition edge.Fall = fall_transition

high : (kind : CheckKind) → IsBehind (high_word kind) (λ s. codes "," ∷ high_token kind ∷ codes "=>" ∷ s)
high = by_kind (λ (kind : CheckKind). IsBehind (high_word kind) (λ s. codes "," ∷ high_token kind ∷ codes "=>" ∷ s)) setup_high
    hold_high setup_high setup_high setup_high setup_high

low : (kind : CheckKind) → IsBehind (low_word kind) (λ s. codes "ps" ∷ codes "," ∷ grammar.low_word kind ∷ codes "=>" ∷ s)
low = by_kind (λ (kind : CheckKind). IsBehind (low_word kind)
    (λ s. codes "ps" ∷ codes "," ∷ grammar.low_word kind ∷ codes "=>" ∷ s)) setup_low hold_low setup_low setup_low setup_low
    setup_low

behind_begins : (P : List ℕ → Type 0) (a b : List ℕ) → ((r : List ℕ) → P (a ++ r)) → (r : List ℕ) → P ((a ++ b) ++ r)
behind_begins P a b h r = subst P (sym (Rattle.std.proofs.Common.append_assoc a b r)) (h (b ++ r))

-- the call of a check that has a reference, from what its limits are
referring_spelled : {start rest : List ℕ} {f g : Front} (e : VEntity) (n : ℕ) (k : TimingCheck) → IsWrittenCheck e n k
    → Spells Anything false start f false
    → ((r : List ℕ) → Ends (rest ++ r)) → Spells Anything true rest g false
    → Spells Anything false (start ++ (120 ∷ 95 ∷ decimal n
    ++ (codes ", TimingData => " ++ (100 ∷ 95 ∷ decimal n ++ (codes ", TestSignal => " ++ (port_at e (test_at k k.kind).pin
    ++ (codes ", RefSignal => " ++ (port_at e (reference_at k k.kind).pin ++ rest))))))))
    (λ s. f ((120 ∷ 95 ∷ decimal n) ∷ codes "," ∷ codes "TimingData" ∷ codes "=>" ∷ (100 ∷ 95 ∷ decimal n)
    ∷ codes "," ∷ codes "TestSignal" ∷ codes "=>" ∷ port_at e (test_at k k.kind).pin ∷ codes "," ∷ codes "RefSignal" ∷ codes "=>"
    ∷ port_at e (reference_at k k.kind).pin ∷ g s)) false
referring_spelled e n k h start begins limits =
    part_behind 120 n refl h.number start (λ r q. refl)
    (part_behind 100 n refl h.number (argument (codes "TimingData") (λ r. refl)) (λ r q. refl)
    (behind (argument (codes "TestSignal") (λ r. refl))
    (joins (name (port_at e (test_at k k.kind).pin) (input_named e h.formed (test_at k k.kind).pin (test_pin e n k h k.kind)))
    (λ r q. refl)
    (behind (argument (codes "RefSignal") (λ r. refl))
    (joins (name (port_at e (reference_at k k.kind).pin)
    (input_named e h.formed (reference_at k k.kind).pin (reference_pin e n k h k.kind))) (λ r q. begins r) limits)))))

setup_hold_spelled : (e : VEntity) (n : ℕ) (k : TimingCheck) → IsWrittenCheck e n k
    → Spells Anything false (setup_hold_text e n k) (λ s. codes "VitalSetupHoldCheck" ∷ setup_hold_front e n k s) false
unfolding setup_hold_text
setup_hold_spelled e n k h =
    let at : Edge = (reference_at k k.kind).edge in
    referring_spelled e n k h setup_hold_word (behind_begins Ends (high_word k.kind) _ (high k.kind).begins)
    (behind (high k.kind).spelled (joins (number k.limit h.limit)
    (λ r q. behind_begins Ends (low_word k.kind) _ (low k.kind).begins r)
    (behind (low k.kind).spelled (joins (number k.limit h.limit) (λ r q. refl)
    (behind enabled_word (joins (enabled_spelled e h.formed k.condition h.condition) (λ r q. (transition at).begins r)
    (transition at).spelled))))))

recovery : (kind : CheckKind) → IsBehind (recovery_word kind) (λ s. codes "," ∷ recovery_token kind ∷ codes "=>" ∷ s)
recovery = by_kind (λ (kind : CheckKind). IsBehind (recovery_word kind) (λ s. codes "," ∷ recovery_token kind ∷ codes "=>" ∷ s))
    recovery_limit recovery_limit recovery_limit removal_limit recovery_limit recovery_limit

active : (g : Edge) → IsBehind (active_text g)
    (λ s. codes "ps" ∷ codes "," ∷ codes "ActiveLow" ∷ codes "=>" ∷ active_token g ∷ codes "," ∷ codes "CheckEnabled" ∷ codes "=>"
    ∷ s)
active edge.Any = active_word
active edge.Rise = active_word
active edge.Fall = inactive_word

recovery_removal_spelled : (e : VEntity) (n : ℕ) (k : TimingCheck) → IsWrittenCheck e n k
    → Spells Anything false (recovery_removal_text e n k)
    (λ s. codes "VitalRecoveryRemovalCheck" ∷ recovery_removal_front e n k s) false
unfolding recovery_removal_text
recovery_removal_spelled e n k h =
    let control : Edge = (test_at k k.kind).edge in
    let at : Edge = (reference_at k k.kind).edge in
    referring_spelled e n k h recovery_removal_word (behind_begins Ends (recovery_word k.kind) _ (recovery k.kind).begins)
    (behind (recovery k.kind).spelled
    (joins (number k.limit h.limit) (λ r q. behind_begins Ends (active_text control) _ (active control).begins r)
    (behind (active control).spelled
    (joins (enabled_spelled e h.formed k.condition h.condition) (λ r q. (transition at).begins r) (transition at).spelled))))

width : (g : Edge) → IsBehind (width_word g) (λ s. codes "," ∷ width_token g ∷ codes "=>" ∷ s)
width edge.Any = high_pulse
width edge.Rise = high_pulse
width edge.Fall = low_pulse

pulse : (k : TimingCheck) (kind : CheckKind) → IsBehind (pulse_word k kind) (λ s. codes "," ∷ pulse_token k kind ∷ codes "=>" ∷ s)
pulse k =
    let wide = width k.first.edge in
    by_kind (λ (kind : CheckKind). IsBehind (pulse_word k kind) (λ s. codes "," ∷ pulse_token k kind ∷ codes "=>" ∷ s)) wide wide
    wide wide wide period_limit

period_pulse_spelled : (e : VEntity) (n : ℕ) (k : TimingCheck) → IsWrittenCheck e n k
    → Spells Anything false (period_pulse_text e n k) (λ s. codes "VitalPeriodPulseCheck" ∷ period_pulse_front e n k s) false
unfolding period_pulse_text
period_pulse_spelled e n k h =
    part_behind 120 n refl h.number period_pulse_word (λ r q. refl)
    (part_behind 100 n refl h.number (argument (codes "PeriodData") (λ r. refl)) (λ r q. refl)
    (behind (argument (codes "TestSignal") (λ r. refl))
    (joins (name (port_at e k.first.pin) (input_named e h.formed k.first.pin h.sound.first))
    (λ r q. behind_begins Ends (pulse_word k k.kind) _ (pulse k k.kind).begins r)
    (behind (pulse k k.kind).spelled (joins (number k.limit h.limit) (λ r q. refl)
    (behind enabled_word (joins (enabled_spelled e h.formed k.condition h.condition) (λ r q. refl) call_end)))))))

kind_spelled : (e : VEntity) (n : ℕ) (k : TimingCheck) (kind : CheckKind) → IsWrittenCheck e n k
    → Spells Anything false (kind_text e n k kind) (λ s. check_word kind ∷ check_more e n k kind s) false
kind_spelled e n k check_kind.Setup h = setup_hold_spelled e n k h
kind_spelled e n k check_kind.Hold h = setup_hold_spelled e n k h
kind_spelled e n k check_kind.Recovery h = recovery_removal_spelled e n k h
kind_spelled e n k check_kind.Removal h = recovery_removal_spelled e n k h
kind_spelled e n k check_kind.Width h = period_pulse_spelled e n k h
kind_spelled e n k check_kind.Period h = period_pulse_spelled e n k h

check_spelled : (e : VEntity) (n : ℕ) (k : TimingCheck) → IsWrittenCheck e n k
    → Spells Anything false (check_text e n k) (check_front e n k) false
unfolding check_text
check_spelled e n k h = kind_spelled e n k k.kind h

pub checks_spelled : (e : VEntity) → IsWellFormedEntity e
    → Spells Anything false (numbered_texts (check_text e) 1 e.checks) (counted (check_front e) 1 e.checks) false
checks_spelled e w = counted_anywhere (check_text e) (check_front e) e.checks
    (λ before k after same. check_spelled e (length before + 1) k (written_check e w before k after same))
