-- The tokens of the line that assigns an output, by its number and its name: of an entity, and of a model of drivers.
use Rattle.std.proofs.Common.{◌≡◌, ℕ, Bool, false, nat_lt, List, [], ◌∷◌, length, refl, sym, subst, codes, decimal}
use Rattle.vhdl_grammar.specs.WellFormed.{IsCount}
use Rattle.vhdl_writer.specs.Assignments.{path_call_start_text, path_call_text, direct_text, assignment_text}
use Rattle.grammar_reader.proofs.Fronts.{Front, Anything}
use Rattle.grammar_reader.proofs.Spelling.{literal, joins, behind}
use Rattle.written_entities.proofs.Names.{IsNamed}
use Rattle.written_entities.proofs.Spelling.{Spells, argument}
use Rattle.written_entities.proofs.Words.{name}
use Rattle.written_entities.proofs.Elements.{line_end, indented}
use Rattle.written_entities.proofs.Parts.{part_behind}
use Rattle.written_entities.proofs.QuotedNames.{quoted, quoted_behind}
use Rattle.written_entities.proofs.Tests.{some_items}

-- a call of paths behind its word
abbrev pub call_front : ℕ → List ℕ → Front → Front
call_front n x paths s =
    codes "(" ∷ codes "OutSignal" ∷ codes "=>" ∷ x ∷ codes "," ∷ codes "GlitchData" ∷ codes "=>"
    ∷ (103 ∷ 95 ∷ decimal n) ∷ codes "," ∷ codes "OutSignalName" ∷ codes "=>" ∷ quoted x
    ∷ codes "," ∷ codes "OutTemp" ∷ codes "=>" ∷ (122 ∷ 95 ∷ decimal n) ∷ codes "," ∷ codes "Paths" ∷ codes "=>" ∷ codes
    "(" ∷ paths (codes ")" ∷ codes "," ∷ codes "Mode" ∷ codes "=>" ∷ codes "VitalTransport" ∷ codes ")" ∷ codes ";" ∷ s)

-- the line of an output that has these paths or none
abbrev pub assignment_front : {A : Type 0} → ℕ → List ℕ → (List A → Front) → List A → Front
assignment_front n x f [] s = x ∷ codes "<=" ∷ (122 ∷ 95 ∷ decimal n) ∷ codes ";" ∷ s
assignment_front n x f (path ∷ paths) s = codes "VitalPathDelay01" ∷ call_front n x (f (path ∷ paths)) s

path_call_word : {t : Bool} → Spells Anything t
    (codes "    VitalPathDelay01 (OutSignal => ")
    (λ s. codes "VitalPathDelay01" ∷ codes "(" ∷ codes "OutSignal" ∷ codes "=>" ∷ s) false
path_call_word = literal (λ r. refl) refl

paths_word : {t : Bool} → Spells Anything t
    (codes ", Paths => (") (λ s. codes "," ∷ codes "Paths" ∷ codes "=>" ∷ codes "(" ∷ s) false
paths_word = literal (λ r. refl) refl

paths_end : {t : Bool} → Spells Anything t (codes "), Mode => VitalTransport);\n") (λ s. codes ")" ∷ codes "," ∷ codes "Mode"
    ∷ codes "=>" ∷ codes "VitalTransport" ∷ codes ")" ∷ codes ";" ∷ s) false
paths_end = literal (λ r. refl) refl

takes : {t : Bool} → Spells Anything t (codes " <= ") (λ s. codes "<=" ∷ s) false
takes = literal (λ r. refl) refl

call_start_front : ℕ → List ℕ → Front
call_start_front n x s =
    codes "VitalPathDelay01" ∷ codes "(" ∷ codes "OutSignal" ∷ codes "=>" ∷ x ∷ codes "," ∷ codes "GlitchData" ∷ codes "=>"
    ∷ (103 ∷ 95 ∷ decimal n) ∷ codes "," ∷ codes "OutSignalName" ∷ codes "=>" ∷ quoted x
    ∷ codes "," ∷ codes "OutTemp" ∷ codes "=>" ∷ (122 ∷ 95 ∷ decimal n) ∷ codes "," ∷ codes "Paths" ∷ codes "=>" ∷ codes "(" ∷ s

call_start : (n : ℕ) (x : List ℕ) → IsCount n → IsNamed x
    → Spells Anything false (path_call_start_text n x) (call_start_front n x) false
unfolding path_call_start_text call_start_front
call_start n x h k =
    behind path_call_word (joins (name x k) (λ r q. refl)
    (part_behind 103 n refl h (argument (codes "GlitchData") (λ r. refl)) (λ r q. refl)
    (quoted_behind x k (argument (codes "OutSignalName") (λ r. refl))
    (part_behind 122 n refl h (argument (codes "OutTemp") (λ r. refl)) (λ r q. refl) paths_word))))

call_spelled : (n : ℕ) (x text : List ℕ) (f : Front) → IsCount n → IsNamed x → Spells Anything false text f false
    → Spells Anything false (path_call_text n x text) (λ s. codes "VitalPathDelay01" ∷ call_front n x f s) false
unfolding path_call_text call_start_front
call_spelled n x text f h k paths = behind (call_start n x h k) (behind paths paths_end)

direct_spelled : (n : ℕ) (x : List ℕ) → IsCount n → IsNamed x
    → Spells Anything false (direct_text n x) (λ s. x ∷ codes "<=" ∷ (122 ∷ 95 ∷ decimal n) ∷ codes ";" ∷ s) false
unfolding direct_text
direct_spelled n x h k = behind indented
    (joins (name x k) (λ r q. refl) (part_behind 122 n refl h takes (λ r q. refl) line_end))

-- the line of an output whose paths have this text and these tokens
pub assignment_spelled : {A : Type 0} (n : ℕ) (x : List ℕ) (text : List A → List ℕ) (f : List A → Front) (paths : List A)
    → IsCount n → IsNamed x
    → ((path : A) (others : List A) → paths ≡ path ∷ others → Spells Anything false (text (path ∷ others)) (f (path ∷ others)) false)
    → Spells Anything false (assignment_text n x (nat_lt 0 (length paths)) (text paths)) (assignment_front n x f paths) false
assignment_spelled n x text f [] h k list = direct_spelled n x h k
assignment_spelled n x text f (path ∷ others) h k list =
    subst (λ (b : Bool). Spells Anything false (assignment_text n x b (text (path ∷ others)))
    (assignment_front n x f (path ∷ others)) false) (sym (some_items (length others)))
    (call_spelled n x (text (path ∷ others)) (f (path ∷ others)) h k (list path others refl))
