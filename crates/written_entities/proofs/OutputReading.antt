-- The lines of outputs in a written entity: their tokens and their reading.
use Rattle.std.proofs.Common.{◌≡◌, ℕ, zero, suc, ◌+◌, Bool, true, false, not, nat_eq, nat_lt, if◌then◌else◌, List, [], ◌∷◌, ◌++◌}
use Rattle.std.proofs.Common.{length, map, flat_map, Option, Some, slice_get, refl, sym, ap, ◌∙◌, arith, subst, codes, decimal}
use Rattle.std.specs.Option.{option_map, option_map_or, option_and_then}
use Rattle.std.proofs.lemmas.List.{length-map, map-append, append-nil}
use Rattle.std.proofs.lemmas.Option.{slice_get-map}
use Rattle.std.proofs.lemmas.Bool.{and_from as and_yes, eq-eqb as equal}
use Rattle.grammar_rules.specs.Rule.{Verdict, Fits, Stops}
use Rattle.grammar_rules.specs.Rule as r
use Rattle.grammar_reader.specs.declared.refusal.Refusal.{Refusal}
use Rattle.udp_tables.specs.declared.models.VPort.{VPort}
use Rattle.vital_models.specs.declared.model.VOutput.{VOutput}
use Rattle.vital_models.specs.declared.model.HPath.{HPath}
use Rattle.vital_models.specs.declared.model.VEntity.{VEntity}
use Rattle.vital_models.specs.Sound.{output_ports_from, IsOutput}
use Rattle.vhdl_tokens.specs.Tokens.{is_name}
use Rattle.vhdl_tokens.specs.Spelling.{is_same}
use Rattle.vhdl_grammar.specs.VhdlDeclarations.{name_of_port, output_count}
use Rattle.vhdl_grammar.specs.VhdlNames.{Uses}
use Rattle.vhdl_grammar.specs.VhdlOutputs.{paths, output_name, has_glitch, Lines, is_text_of, text_by, path_call_start, path_call}
use Rattle.vhdl_grammar.specs.VhdlOutputs.{assigned_value, assignment, is_unpathed, assigns_so_named, call_or_assignment}
use Rattle.vhdl_grammar.specs.VhdlOutputs.{begins_line, line_by, output_lines}
use Rattle.vhdl_grammar.specs.WellFormed.{IsCount, IsPortName, IsWrittenOutput, IsWellFormedEntity, conditions_of_check}
use Rattle.vhdl_grammar.specs.WellFormed.{conditions_of_path, conditions_of_output}
use Rattle.vhdl_writer.specs.Joined.{numbered_texts}
use Rattle.vhdl_writer.specs.Names.{port_at}
use Rattle.vhdl_writer.specs.Outputs.{path_text, output_line}
use Rattle.grammar_reader.proofs.Fronts.{Front, Anything}
use Rattle.grammar_reader.proofs.Derivations.{Reads, gives, token, in_turn, chosen, passed, no_turn, Turn, turn, turns, goes_on}
use Rattle.grammar_reader.proofs.ItemPlaces.{get_at}
use Rattle.written_entities.proofs.Names.{IsNamed, part_named, port_named, same_name, same_self, case_turned}
use Rattle.written_entities.proofs.Spelling.{Spells}
use Rattle.written_entities.proofs.NameReading.{expected, two_expected, three_expected, six_expected, so_named, part_read}
use Rattle.written_entities.proofs.Counting.{counted, counted_anywhere, apart_front, over}
use Rattle.written_entities.proofs.Parts.{fact_at, place_below, output_number}
use Rattle.written_entities.proofs.PortLookUps.{port_is, port_at_is}
use Rattle.written_entities.proofs.VariableReading.{has_paths, so_many_outputs}
use Rattle.written_entities.proofs.LookUpOrder.{seen_after, behind_look_ups, seen_with_item, looks_at}
use Rattle.written_entities.proofs.ConditionReading.{scope, uses_of, Looks}
use Rattle.written_entities.proofs.QuotedNames.{quoted, quoted_is}
use Rattle.written_entities.proofs.Tests.{if_true, if_false, some_items}
use Rattle.written_entities.proofs.PathReading.{path_front, ArePaths, paths_spelled, paths_read}
use Rattle.written_entities.proofs.AssignmentTokens.{call_front, assignment_front, assignment_spelled}

abbrev paths_front : VEntity → List HPath → Front
paths_front e all s = apart_front (λ q. codes "," ∷ q) (path_front e) all s

abbrev line_by_paths : VEntity → ℕ → ℕ → List HPath → Front
line_by_paths e n p all s = assignment_front n (port_at e p) (paths_front e) all s

abbrev pub line_front : VEntity → ℕ → VOutput → Front
line_front e n output s = line_by_paths e n output.port output.paths s

-- Outputs.

-- a port that is an output, between others
port_from : (k : ℕ) (ports : List VPort) (o p : ℕ) → slice_get (output_ports_from k ports) o ≡ Some p → (i : ℕ) × (p ≡ k + i)
    × (port : VPort) × (slice_get ports i ≡ Some port)
port_from k [] o p h = absurd cc
port_from k (port ∷ ports) o p h = by port.input h (λ n g. port_from (k + 1) ports n p g)
  where
    moved : (i : ℕ) × (p ≡ k + 1 + i) × (q : VPort) × (slice_get ports i ≡ Some q) → (i : ℕ) × (p ≡ k + i) × (q : VPort)
        × (slice_get (port ∷ ports) i ≡ Some q)
    moved (i, e, q, g) = (suc i, omega (arith, e), q, g)

    here : (o : ℕ) → slice_get (k ∷ output_ports_from (k + 1) ports) o ≡ Some p
        → ((n : ℕ) → slice_get (output_ports_from (k + 1) ports) n ≡ Some p → (i : ℕ) × (p ≡ k + 1 + i) × (q : VPort)
        × (slice_get ports i ≡ Some q))
        → (i : ℕ) × (p ≡ k + i) × (q : VPort) × (slice_get (port ∷ ports) i ≡ Some q)
    here zero g rest = let same : k ≡ p = cc in (0, omega (arith, same), port, refl)
    here (suc n) g rest = moved (rest n g)

    by : (b : Bool) → slice_get (if b then output_ports_from (k + 1) ports else k ∷ output_ports_from (k + 1) ports) o ≡ Some p
        → ((n : ℕ) → slice_get (output_ports_from (k + 1) ports) n ≡ Some p → (i : ℕ) × (p ≡ k + 1 + i) × (q : VPort)
        × (slice_get ports i ≡ Some q))
        → (i : ℕ) × (p ≡ k + i) × (q : VPort) × (slice_get (port ∷ ports) i ≡ Some q)
    by true g rest = moved (rest o g)
    by false g rest = here o g rest

-- An output at its place: its port, by name.
record IsOutputAt (e : VEntity) (o : ℕ) (output : VOutput) : Type 0 where
  port : VPort
  known : slice_get e.ports output.port ≡ Some port
  named : output_name (scope e) o ≡ Some (port_at e output.port)
  pathed : has_glitch (scope e) o ≡ has_paths output

output_at : (e : VEntity) → IsWellFormedEntity e → (before : List VOutput) (output : VOutput) (after : List VOutput)
    → before ++ output ∷ after ≡ e.outputs → IsOutputAt e (length before) output
output_at e w before output after same =
    let there : slice_get e.outputs (length before) ≡ Some output =
    ap (λ (l : List VOutput). slice_get l (length before)) (sym same) ∙ get_at before output after in
    let its_port : slice_get (output_ports_from 0 e.ports) (length before) ≡ Some output.port =
    ap (λ (l : List ℕ). slice_get l (length before)) (sym w.sound.driven)
    ∙ slice_get-map (λ (x : VOutput). x.port) e.outputs (length before) ∙ ap (option_map (λ (x : VOutput). x.port)) there in
    let found = port_from 0 e.ports (length before) output.port its_port in
    let place : found.0 ≡ output.port = omega (arith, found.1) in
    let known : slice_get e.ports output.port ≡ Some found.2 = subst (λ (i : ℕ). slice_get e.ports i ≡ Some found.2) place found.3
    in
    record {
      port = found.2;
      known = known;
      named = ap (λ (p : Option ℕ). option_and_then (λ q. option_map name_of_port (slice_get e.ports q)) p) its_port
          ∙ ap (option_map name_of_port) known
          ∙ ap (λ (x : List ℕ). Some x) (sym (port_at_is e output.port found.2 known));
      pathed = ap (λ (b : Option Bool). option_map_or (λ (c : Bool). c) b false)
          (slice_get-map has_paths e.outputs (length before) ∙ ap (option_map has_paths) there);
    }

port_named_at : (e : VEntity) → IsWellFormedEntity e → (o : ℕ) (output : VOutput) → IsOutputAt e o output
    → IsNamed (port_at e output.port)
port_named_at e w o output h = port_named (port_at e output.port)
    (subst IsPortName (sym (port_at_is e output.port h.port h.known)) (port_is e w output.port h.port h.known))

-- how many conditions have been looked up before the lines of outputs
abbrev pub seen_by_checks : VEntity → ℕ
seen_by_checks e = seen_after 0 (flat_map conditions_of_check e.checks)

abbrev pub seen_before : VEntity → List VOutput → ℕ
seen_before e before = seen_after (seen_by_checks e) (flat_map conditions_of_output before)

pub lines_look : (e : VEntity) → IsWellFormedEntity e → Looks e (seen_by_checks e) (flat_map conditions_of_output e.outputs ++ [])
lines_look e w =
    subst (λ (l : List ℕ). Looks e (seen_by_checks e) l) (sym (append-nil (flat_map conditions_of_output e.outputs)))
    (behind_look_ups (length e.conditions) 0 (flat_map conditions_of_check e.checks) (flat_map conditions_of_output e.outputs)
    w.in_order)

its_paths : (e : VEntity) → IsWellFormedEntity e → (before : List VOutput) (output : VOutput) (after : List VOutput)
    → before ++ output ∷ after ≡ e.outputs
    → ArePaths e (seen_before e before) output.paths (flat_map conditions_of_output after ++ [])
its_paths e w before output after same =
    let written : IsWrittenOutput output = fact_at IsWrittenOutput e.outputs w.outputs before output after same in
    record {
      formed = w;
      sound = (fact_at (IsOutput e) e.outputs w.sound.outputs before output after same).paths;
      written = written.paths;
      few = written.few;
      looks = looks_at conditions_of_output (length e.conditions) (seen_by_checks e) before output after []
          (subst (λ (l : List VOutput). Looks e (seen_by_checks e) (flat_map conditions_of_output l ++ [])) (sym same)
          (lines_look e w));
    }

line_spelled : (e : VEntity) (n : ℕ) (output : VOutput) (seen : ℕ) (others : List ℕ) → IsCount n → IsNamed (port_at e output.port)
    → ArePaths e seen output.paths others
    → Spells Anything false (output_line e n output) (line_front e n output) false
line_spelled e n output seen others m x h =
    assignment_spelled n (port_at e output.port) (numbered_texts (path_text e) 1) (paths_front e) output.paths m x
    (λ path all same. paths_spelled e seen path all others (subst (λ (l : List HPath). ArePaths e seen l others) same h))

pub lines_spelled : (e : VEntity) → IsWellFormedEntity e
    → Spells Anything false (numbered_texts (output_line e) 1 e.outputs) (counted (line_front e) 1 e.outputs) false
lines_spelled e w =
    counted_anywhere (output_line e) (line_front e) e.outputs
    (λ before output after same. line_spelled e (length before + 1) output (seen_before e before)
    (flat_map conditions_of_output after ++ [])
    (output_number e w (length before + 1) (place_below before output after e.outputs same))
    (port_named_at e w (length before) output (output_at e w before output after same))
    (its_paths e w before output after same))

-- Reading of lines.

abbrev pub paths_of : VOutput → List HPath
paths_of output = output.paths

-- the lines so far
abbrev pub lines_up_to : VEntity → List VOutput → Lines
lines_up_to e before = (map paths_of before, uses_of e (seen_before e before))

text_read : (e : VEntity) (o : ℕ) (x : List ℕ) {s : List (List ℕ)} → output_name (scope e) o ≡ Some x
    → Reads (r.Token (text_by (output_name (scope e) o)) Rattle.grammar_reader.specs.declared.refusal.Refusal.TheVariants.Syntax)
    (quoted x ∷ s) tt s
text_read e o x h =
    token (if_true (is_text_of (output_name (scope e) o) (quoted x)) _ _
    (ap (λ (n : Option (List ℕ)). is_text_of n (quoted x)) h ∙ quoted_is x))

start_read : (e : VEntity) → IsWellFormedEntity e → (o : ℕ) (output : VOutput) (s : List (List ℕ)) → IsOutputAt e o output
    → IsCount (o + 1) → has_paths output ≡ true
    → Reads (path_call_start (scope e) o)
    (codes "(" ∷ codes "OutSignal" ∷ codes "=>" ∷ port_at e output.port ∷ codes "," ∷ codes "GlitchData" ∷ codes "=>"
    ∷ (103 ∷ 95 ∷ decimal (o + 1)) ∷ codes "," ∷ codes "OutSignalName"
    ∷ codes "=>" ∷ quoted (port_at e output.port) ∷ codes "," ∷ codes "OutTemp" ∷ codes "=>" ∷ (122 ∷ 95 ∷ decimal (o + 1))
    ∷ codes "," ∷ s) tt s
unfolding path_call_start
start_read e w o output s h m some =
    in_turn three_expected (in_turn (so_named (output_name (scope e) o) (port_named_at e w o output h) h.named)
    (in_turn three_expected
    (in_turn (part_read (has_glitch (scope e) o) 103 (o + 1) refl m (h.pathed ∙ some))
    (in_turn three_expected (in_turn (text_read e o (port_at e output.port) h.named)
    (in_turn three_expected (in_turn (so_named (Some (122 ∷ 95 ∷ decimal (o + 1))) (part_named 122 (o + 1) refl m) refl)
    expected)))))))

call_read : (e : VEntity) → IsWellFormedEntity e
    → (done : List (List HPath)) (o seen : ℕ) (output : VOutput) (path : HPath) (all : List HPath) (others : List ℕ)
    (s : List (List ℕ)) → length done ≡ o
    → IsOutputAt e o output → IsCount (o + 1) → output.paths ≡ path ∷ all → ArePaths e seen (path ∷ all) others
    → Reads (path_call (scope e) (done, uses_of e seen)) (call_front (o + 1) (port_at e output.port) (paths_front e (path ∷ all)) s)
    (done ++ (path ∷ all) ∷ [], uses_of e (seen_after seen (flat_map conditions_of_path (path ∷ all)))) s
unfolding path_call
call_read e w done o seen output path all others s place h m same paths =
    let some : has_paths output ≡ true = ap (λ (l : List HPath). nat_lt 0 (length l)) same ∙ some_items (length all) in
    let tail : List (List ℕ) = codes "Paths" ∷ codes "=>" ∷ codes
    "(" ∷ apart_front (λ q. codes "," ∷ q) (path_front e) (path ∷ all)
    (codes ")" ∷ codes "," ∷ codes "Mode" ∷ codes "=>" ∷ codes "VitalTransport" ∷ codes ")" ∷ codes ";" ∷ s) in
    in_turn (subst (λ (n : ℕ). Reads (path_call_start (scope e) n)
    (codes "(" ∷ codes "OutSignal" ∷ codes "=>" ∷ port_at e output.port ∷ codes "," ∷ codes "GlitchData" ∷ codes "=>"
    ∷ (103 ∷ 95 ∷ decimal (o + 1)) ∷ codes ","
    ∷ codes "OutSignalName" ∷ codes "=>" ∷ quoted (port_at e output.port) ∷ codes "," ∷ codes "OutTemp" ∷ codes "=>"
    ∷ (122 ∷ 95 ∷ decimal (o + 1)) ∷ codes "," ∷ tail) tt tail) (sym place) (start_read e w o output tail h m some))
    (in_turn two_expected (in_turn (paths_read e seen path all others
    (codes "," ∷ codes "Mode" ∷ codes "=>" ∷ codes "VitalTransport" ∷ codes ")" ∷ codes ";" ∷ s) paths)
    (in_turn six_expected gives)))

assigned_read : (done : List (List HPath)) (uses : Uses) (o : ℕ) {s : List (List ℕ)} → length done ≡ o → IsCount (o + 1)
    → Reads (assigned_value (done, uses)) ((122 ∷ 95 ∷ decimal (o + 1)) ∷ codes ";" ∷ s) (done ++ [] ∷ [], uses) s
unfolding assigned_value
assigned_read done uses o place m =
    in_turn (so_named (Some (122 ∷ 95 ∷ decimal (length done + 1))) (part_named 122 (o + 1) refl m)
    (ap (λ (n : ℕ). Some (122 ∷ 95 ∷ decimal (n + 1))) place)) (in_turn expected gives)

assignment_read : (done : List (List HPath)) (uses : Uses) (o : ℕ) {s : List (List ℕ)} → length done ≡ o → IsCount (o + 1)
    → Reads (assignment (done, uses)) (codes "<=" ∷ (122 ∷ 95 ∷ decimal (o + 1)) ∷ codes ";" ∷ s) (done ++ [] ∷ [], uses) s
unfolding assignment
assignment_read done uses o place m = in_turn expected (assigned_read done uses o place m)

-- a token that is the name of an output without paths
unpathed_as : (e : VEntity) (o : ℕ) (output : VOutput) (x : List ℕ) → IsOutputAt e o output → has_paths output ≡ false
    → is_same x (port_at e output.port) ≡ true → is_unpathed (scope e) o x ≡ true
unpathed_as e o output x h none same =
    and_yes (not (has_glitch (scope e) o)) (option_map_or (λ y. is_same x y) (output_name (scope e) o) false)
    (ap not (h.pathed ∙ none))
    (ap (λ (y : Option (List ℕ)). option_map_or (λ z. is_same x z) y false) h.named ∙ same)

direct_begins : (e : VEntity) → IsWellFormedEntity e → (lines : Lines) (o : ℕ) (output : VOutput) → length lines.0 ≡ o
    → IsOutputAt e o output → has_paths output ≡ false
    → is_same (port_at e output.port) (codes "VitalPathDelay01") ≡ false
    → begins_line (scope e) lines (port_at e output.port) ≡ Some (Fits false)
direct_begins e w lines o output place h none other =
    let x : List ℕ = port_at e output.port in
    let its : is_unpathed (scope e) o x ≡ true = unpathed_as e o output x h none (same_self x) in
    if_false (is_same x (codes "VitalPathDelay01")) _ _ other
    ∙ if_true (is_name x) _ _ (port_named_at e w o output h).named
    ∙ ap (λ (v : Verdict Bool Refusal). Some v)
    (if_true (is_unpathed (scope e) (length lines.0) x) _ _ (ap (λ (k : ℕ). is_unpathed (scope e) k x) place ∙ its))

-- an output without paths that has the name of the procedure of path delays
so_assigned : (e : VEntity) → IsWellFormedEntity e → (lines : Lines) (o : ℕ) (output : VOutput) → length lines.0 ≡ o
    → IsOutputAt e o output → has_paths output ≡ false
    → is_same (port_at e output.port) (codes "VitalPathDelay01") ≡ true
    → assigns_so_named (scope e) (length lines.0) (codes "<=") ≡ true
so_assigned e w lines o output place h none same =
    let x : List ℕ = port_at e output.port in
    let turned : is_same (codes "VitalPathDelay01") x ≡ true =
    case_turned (codes "VitalPathDelay01") x ∙ sym (same_name x (codes "VitalPathDelay01") (port_named_at e w o output h)) ∙ same
    in
    ap (λ (k : ℕ). is_unpathed (scope e) k (codes "VitalPathDelay01")) place
    ∙ unpathed_as e o output (codes "VitalPathDelay01") h none turned

direct_turn : (e : VEntity) → IsWellFormedEntity e
    → (done : List (List HPath)) (uses : Uses) (o : ℕ) (output : VOutput) (s : List (List ℕ)) → length done ≡ o
    → IsOutputAt e o output → IsCount (o + 1)
    → has_paths output ≡ false → Turn (begins_line (scope e)) (line_by (scope e)) (done, uses)
    (line_by_paths e (o + 1) output.port [] s) (done ++ [] ∷ [], uses) s
unfolding call_or_assignment
direct_turn e w done uses o output s place h m none = by (is_same (port_at e output.port) (codes "VitalPathDelay01")) refl
  where
    by : (b : Bool) → is_same (port_at e output.port) (codes "VitalPathDelay01") ≡ b
        → Turn (begins_line (scope e)) (line_by (scope e)) (done, uses) (line_by_paths e (o + 1) output.port [] s)
        (done ++ [] ∷ [], uses) s
    by true same =
        turn (if_true (is_same (port_at e output.port) (codes "VitalPathDelay01")) _ _ same)
        (chosen (if_true (assigns_so_named (scope e) (length done) (codes "<=")) _ _
        (so_assigned e w (done, uses) o output place h none same)) (assigned_read done uses o place m))
    by false other = turn (direct_begins e w (done, uses) o output place h none other) (assignment_read done uses o place m)

abbrev AllLines : VEntity → Lines → List (List ℕ) → Lines → List (List ℕ) → Type 0
AllLines e lines s end left = Reads (r.Many (begins_line (scope e)) (line_by (scope e)) lines) s end left

line_turn : (e : VEntity) → IsWellFormedEntity e
    → (done : List (List HPath)) (o seen : ℕ) (output : VOutput) (all : List HPath) (others : List ℕ) {end : Lines}
    {left : List (List ℕ)} (q : List (List ℕ)) → length done ≡ o
    → IsOutputAt e o output → IsCount (o + 1) → output.paths ≡ all → ArePaths e seen all others
    → AllLines e (done ++ all ∷ [], uses_of e (seen_after seen (flat_map conditions_of_path all))) q end left
    → AllLines e (done, uses_of e seen) (line_by_paths e (o + 1) output.port all q) end left
unfolding call_or_assignment
line_turn e w done o seen output [] others q place h m same paths rest =
    let none : has_paths output ≡ false = ap (λ (l : List HPath). nat_lt 0 (length l)) same in
    turns (direct_turn e w done (uses_of e seen) o output q place h m none) rest
line_turn e w done o seen output (path ∷ all) others q place h m same paths rest =
    turns (turn refl (passed refl (call_read e w done o seen output path all others q place h m same paths))) rest

lines_with : (e : VEntity) (before : List VOutput) (output : VOutput)
    → ◌≡◌ {A = Lines} (lines_up_to e (before ++ output ∷ [])) (
      map paths_of before ++ output.paths ∷ [],
      uses_of e
          (seen_after (seen_before e before) (flat_map conditions_of_path output.paths)),
    )
lines_with e before output =
    ap (λ (l : List (List HPath)). (l, uses_of e (seen_before e (before ++ output ∷ []))))
    (map-append paths_of before (output ∷ []))
    ∙ ap (λ (n : ℕ). (map paths_of before ++ output.paths ∷ [], uses_of e n))
    (sym (seen_with_item conditions_of_output (seen_by_checks e) before output))

pub lines_read : (e : VEntity) → IsWellFormedEntity e → (s : List (List ℕ))
    → Stops (begins_line (scope e) (lines_up_to e e.outputs)) s
    → Reads (output_lines (scope e) (uses_of e (seen_by_checks e))) (counted (line_front e) 1 e.outputs s)
    (lines_up_to e e.outputs) s
unfolding output_lines
lines_read e w s stop =
    in_turn (over (lines_up_to e) (line_front e) [] e.outputs
    (λ before output after q same rest.
    line_turn e w (map paths_of before) (length before) (seen_before e before) output output.paths
    (flat_map conditions_of_output after ++ []) q (length-map before paths_of)
    (output_at e w before output after same)
    (output_number e w (length before + 1) (place_below before output after e.outputs same)) refl
    (its_paths e w before output after same)
    (subst (λ (l : Lines). AllLines e l q (lines_up_to e e.outputs) s) (lines_with e before output) rest)) s (no_turn stop))
    (in_turn (goes_on (nat_eq (length (map paths_of e.outputs)) (output_count e.ports)) s
    (equal (length (map paths_of e.outputs)) (output_count e.ports) (length-map e.outputs paths_of ∙ so_many_outputs e w)))
    gives)
