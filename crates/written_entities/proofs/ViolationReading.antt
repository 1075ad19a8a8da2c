-- The violation of a written entity: its tokens and their reading.
use Rattle.std.proofs.Common.{◌≡◌, ℕ, ◌+◌, ◌≤◌, Bool, false, nat_eq, nat_lt, List, [], ◌∷◌, ◌++◌, length, refl, sym, ap, ◌∙◌}
use Rattle.std.proofs.Common.{arith, subst, codes, decimal}
use Rattle.std.proofs.lemmas.List.{length-map}
use Rattle.std.proofs.lemmas.Bool.{eq-eqb as equal, lt-ltb as less}
use Rattle.udp_tables.specs.declared.timing_checks.TimingCheck.{TimingCheck}
use Rattle.vital_models.specs.declared.model.VEntity.{VEntity}
use Rattle.vhdl_tokens.specs.Words.{is_reserved, is_used, vhdl_words, used_words}
use Rattle.vhdl_grammar.specs.VhdlChecks.{checks, next_report, any_report, violation}
use Rattle.vhdl_grammar.specs.WellFormed.{IsWellFormedEntity}
use Rattle.vhdl_writer.specs.Statements.{report_text, reports_text, violation_text}
use Rattle.grammar_reader.proofs.Fronts.{Front, Anything}
use Rattle.grammar_reader.proofs.Derivations.{Reads, to_same, gives, in_turn, no_turn, turn, turns, goes_on}
use Rattle.grammar_reader.proofs.ItemPlaces.{one_longer}
use Rattle.grammar_reader.proofs.Spelling.{literal, joins, behind, nothing}
use Rattle.written_entities.proofs.Spelling.{Spells}
use Rattle.written_entities.proofs.Words.{Ends, part}
use Rattle.written_entities.proofs.NameReading.{expected, two_expected, part_read}
use Rattle.written_entities.proofs.Counting.{counted, apart_front, apart_spelled, over}
use Rattle.written_entities.proofs.Parts.{shown, place_below, check_number}
use Rattle.written_entities.proofs.ConditionReading.{scope}
use Rattle.written_entities.proofs.Tests.{some_items}
use Rattle.written_entities.proofs.Elements.{line_end}
use Rattle.written_entities.proofs.VariableTokens.{is_period_check}

violation_start : {t : Bool} → Spells Anything t (codes "    viol := ") (λ s. codes "viol" ∷ codes ":=" ∷ s) false
violation_start = literal (λ r. refl) refl

or_word : {t : Bool} → Spells Anything t (codes " or ") (λ s. codes "or" ∷ s) false
unfolding is_reserved is_used vhdl_words used_words
or_word = literal (λ r. refl) refl

abbrev report_front : ℕ → TimingCheck → Front
report_front n k s = (120 ∷ 95 ∷ decimal n) ∷ s

abbrev pub violation_by : List TimingCheck → Front
violation_by [] s = s
violation_by (k ∷ checks) s = codes "viol" ∷ codes ":=" ∷ apart_front (λ q. codes "or" ∷ q) report_front (k ∷ checks)
    (codes ";" ∷ s)

abbrev pub violation_front : VEntity → Front
violation_front e s = violation_by e.checks s

violation_by_spelled : (e : VEntity) → IsWellFormedEntity e → (checks : List TimingCheck) → checks ≡ e.checks
    → Spells Anything false (violation_text checks) (violation_by checks) false
unfolding reports_text
violation_by_spelled e w [] same = nothing
violation_by_spelled e w (k ∷ checks) same =
    shown (nat_lt 0 (length (k ∷ checks))) (some_items (length checks))
    (behind violation_start (joins (apart_spelled {P = Ends} (codes " or ") (λ q. codes "or" ∷ q) report_text
    (λ n x. 120 ∷ 95 ∷ decimal n) report_front (λ n x. refl) or_word (λ r. refl) k checks
    (λ before x after at. part 120 (length before + 1) refl
    (check_number e w (length before + 1) (place_below before x after e.checks (at ∙ same))))) (λ r q. refl) line_end))

pub violation_spelled : (e : VEntity) → IsWellFormedEntity e
    → Spells Anything false (violation_text e.checks) (violation_front e) false
violation_spelled e w = violation_by_spelled e w e.checks refl

report_read : (e : VEntity) → IsWellFormedEntity e
    → (before : List TimingCheck) (k : TimingCheck) (after : List TimingCheck) (q : List (List ℕ))
    → before ++ k ∷ after ≡ e.checks
    → Reads (next_report (length e.checks) (length before)) ((120 ∷ 95 ∷ decimal (length before + 1)) ∷ q)
    (length (before ++ k ∷ [])) q
unfolding next_report
report_read e w before k after q same =
    let below : length before + 1 ≤ length e.checks = place_below before k after e.checks same in
    to_same (one_longer before k)
    (in_turn (part_read (nat_lt (length before) (length e.checks)) 120 (length before + 1) refl
    (check_number e w (length before + 1) below) (less (length before) (length e.checks) (omega (arith, below)))) gives)

violation_by_read : (e : VEntity) → IsWellFormedEntity e → (checks : List TimingCheck) → checks ≡ e.checks → (s : List (List ℕ))
    → Reads (violation (length checks)) (violation_by checks s) tt s
unfolding any_report
violation_by_read e w [] same s = gives
violation_by_read e w (k ∷ checks) same s =
    let step : (before : List TimingCheck) (x : TimingCheck) (after : List TimingCheck) (q : List (List ℕ))
    → before ++ x ∷ after ≡ k ∷ checks
    → Reads (next_report (length (k ∷ checks)) (length before)) ((120 ∷ 95 ∷ decimal (length before + 1)) ∷ q)
    (length (before ++ x ∷ [])) q =
    (λ before x after q at. subst (λ (n : ℕ). Reads (next_report n (length before)) ((120 ∷ 95 ∷ decimal (length before + 1)) ∷ q)
    (length (before ++ x ∷ [])) q) (ap length (sym same))
    (report_read e w before x after q (at ∙ same))) in
    in_turn two_expected (in_turn (step [] k checks (counted (λ n y q. codes "or" ∷ report_front n y q) 2 checks (codes ";" ∷ s))
    refl)
    (in_turn (over (λ (l : List TimingCheck). length l) (λ n y q. codes "or" ∷ report_front n y q) (k ∷ []) checks
    (λ before x after q at rest. turns (turn refl (step before x after q at)) rest) (codes ";" ∷ s) (no_turn refl))
    (in_turn (goes_on (nat_eq (length (k ∷ checks)) (length (k ∷ checks))) (codes ";" ∷ s)
    (equal (length (k ∷ checks)) (length (k ∷ checks)) refl)) expected)))

pub violation_read : (e : VEntity) → IsWellFormedEntity e → (s : List (List ℕ))
    → Reads (violation (length (scope e).variables.periods)) (violation_front e s) tt s
violation_read e w s =
    subst (λ (n : ℕ). Reads (violation n) (violation_front e s) tt s) (sym (length-map e.checks is_period_check))
    (violation_by_read e w e.checks refl s)
