-- The signals to which a written process responds: their tokens and their reading.
use Rattle.std.proofs.Common.{◌≡◌, ℕ, ◌+◌, ◌<◌, Bool, true, false, cond, nat_eq, if◌then◌else◌, List, [], ◌∷◌, ◌++◌, length}
use Rattle.std.proofs.Common.{filter, Option, Some, None, slice_get, refl, sym, ap, ◌∙◌, arith, subst, codes}
use Rattle.std.specs.List.{AllByRecursion, position_from}
use Rattle.std.proofs.lemmas.Bool.Decides.{nat_tests}
use Rattle.std.proofs.lemmas.List.Elements.{recursion_from_All}
use Rattle.std.proofs.lemmas.Iterator.Adapters.{position_from-zero}
use Rattle.udp_tables.specs.declared.models.VPort.{VPort}
use Rattle.vital_models.specs.declared.model.VEntity.{VEntity}
use Rattle.vhdl_tokens.specs.Words.{is_reserved, is_used, vhdl_words, used_words}
use Rattle.vhdl_grammar.specs.VhdlDeclarations.{port_names, input_names, listed_name, listed_names, sensitivity}
use Rattle.vhdl_grammar.specs.WellFormed.{IsPortName, IsWellFormedEntity}
use Rattle.vhdl_writer.specs.Joined.{numbered_texts}
use Rattle.vhdl_writer.specs.Declarations.{is_input, first_input, signal_start, signal_text, signals_end, process_text}
use Rattle.grammar_reader.proofs.Fronts.{Front, Anything, each}
use Rattle.grammar_reader.proofs.Derivations.{Reads, to_same, gives, in_turn, turn, through, goes_on}
use Rattle.grammar_reader.proofs.ItemPlaces.{at_place, get_at, one_longer}
use Rattle.grammar_reader.proofs.Spelling.{literal, joins, behind, nothing}
use Rattle.written_entities.proofs.Names.{IsNamed, port_named}
use Rattle.written_entities.proofs.Spelling.{Spells}
use Rattle.written_entities.proofs.Words.{Ends, word, name}
use Rattle.written_entities.proofs.NameReading.{expected, so_named}
use Rattle.written_entities.proofs.Elements.{comma}
use Rattle.written_entities.proofs.Tests.{equal_self}

-- Tokens.

abbrev pub next_signal : List ℕ → Front
next_signal x s = codes "," ∷ x ∷ s

abbrev pub signals_front : List (List ℕ) → Front
signals_front [] s = s
signals_front (x ∷ xs) s = codes "(" ∷ x ∷ each next_signal xs (codes ")" ∷ s)

begin_word : {t : Bool} → Spells Anything t (codes "begin\n  ") (λ s. codes "begin" ∷ s) false
unfolding is_reserved is_used vhdl_words used_words
begin_word = literal (λ r. refl) refl

signals_start : {t : Bool} → Spells Anything t (codes " (") (λ s. codes "(" ∷ s) false
signals_start = literal (λ r. refl) refl

signals_last : {t : Bool} → Spells Anything t (codes ")\n") (λ s. codes ")" ∷ s) false
signals_last = literal (λ r. refl) refl

line_end : Spells Anything false (codes "\n") (λ s. s) false
line_end = literal (λ r. refl) refl

process_word : {t : Bool} → Spells Ends t (codes "begin\n  process") (λ s. codes "begin" ∷ codes "process" ∷ s) false
unfolding is_reserved is_used vhdl_words used_words
process_word = behind begin_word (word (codes "process") refl refl refl)

-- the signals behind the first one
signals_behind : (k n : ℕ) (ports : List VPort) → k + 1 < n → AllByRecursion IsPortName (port_names ports)
    → Spells Ends true (numbered_texts (signal_text (Some k)) n ports) (each next_signal (input_names ports)) true
    × ((r : List ℕ) → Ends r → Ends (numbered_texts (signal_text (Some k)) n ports ++ r))
unfolding signal_text
signals_behind k n [] l h = (nothing, λ r q. q)
signals_behind k n (port ∷ ports) l h = by port.input (signals_behind k (n + 1) ports (omega (arith, l)) h.1)
  where
    other : nat_eq (k + 1) n ≡ false
    other = grind (arith, nat_tests, l)

    by : (b : Bool)
        → Spells Ends true (numbered_texts (signal_text (Some k)) (n + 1) ports) (each next_signal (input_names ports)) true
        × ((r : List ℕ) → Ends r → Ends (numbered_texts (signal_text (Some k)) (n + 1) ports ++ r))
        → Spells Ends true ((if b then (if nat_eq (k + 1) n then codes " (" else codes ", ") ++ port.name else [])
        ++ numbered_texts (signal_text (Some k)) (n + 1) ports)
        (each next_signal (port_names (cond b (port ∷ filter (λ (p : VPort). p.input) ports)
        (filter (λ (p : VPort). p.input) ports)))) true
        × ((r : List ℕ) → Ends r → Ends
        (((if b then (if nat_eq (k + 1) n then codes " (" else codes ", ") ++ port.name else [])
        ++ numbered_texts (signal_text (Some k)) (n + 1) ports) ++ r))
    by true rest = rw other (joins (behind comma (name port.name (port_named port.name h.0))) rest.1 rest.0, λ r q. refl)
    by false rest = rest

-- the signals and their end
signals_from : (i : ℕ) (ports : List VPort) (first : Option ℕ) → position_from is_input i ports ≡ first
    → AllByRecursion IsPortName (port_names ports)
    → Spells Anything false (numbered_texts (signal_text first) (i + 1) ports ++ signals_end first)
    (signals_front (input_names ports)) false
    × ((r : List ℕ) → Ends ((numbered_texts (signal_text first) (i + 1) ports ++ signals_end first) ++ r))
unfolding signal_text
signals_from i [] None e h = (line_end, λ r. refl)
signals_from i [] (Some j) e h = absurd cc
signals_from i (port ∷ ports) first e h = by port.input e (λ f. signals_from (i + 1) ports first f h.1)
  where
    by : (b : Bool) → cond b (Some i) (position_from is_input (i + 1) ports) ≡ first
        → (position_from is_input (i + 1) ports ≡ first
        → Spells Anything false (numbered_texts (signal_text first) (i + 1 + 1) ports ++ signals_end first)
        (signals_front (input_names ports)) false
        × ((r : List ℕ) → Ends ((numbered_texts (signal_text first) (i + 1 + 1) ports ++ signals_end first) ++ r)))
        → Spells Anything false (((if b then signal_start first (i + 1) ++ port.name else [])
        ++ numbered_texts (signal_text first) (i + 1 + 1) ports) ++ signals_end first)
        (signals_front (port_names (cond b (port ∷ filter (λ (p : VPort). p.input) ports)
        (filter (λ (p : VPort). p.input) ports)))) false
        × ((r : List ℕ) → Ends ((((if b then signal_start first (i + 1) ++ port.name else [])
        ++ numbered_texts (signal_text first) (i + 1 + 1) ports) ++ signals_end first) ++ r))
    by true f rest =
        let here : nat_eq (i + 1) (i + 1) ≡ true = grind (arith, nat_tests) in
        let more = signals_behind i (i + 1 + 1) ports (omega arith) h.1 in
        subst (λ (o : Option ℕ).
        Spells Anything false (((signal_start o (i + 1) ++ port.name) ++ numbered_texts (signal_text o) (i + 1 + 1) ports)
        ++ signals_end o) (signals_front (port.name ∷ input_names ports)) false
        × ((r : List ℕ) → Ends ((((signal_start o (i + 1) ++ port.name) ++ numbered_texts (signal_text o) (i + 1 + 1) ports)
        ++ signals_end o) ++ r))) f
        (rw here (
          joins (joins (behind signals_start (name port.name (port_named port.name h.0))) more.1 more.0)
              (λ r q. refl) signals_last,
          λ r. refl,
        ))
    by false f rest = rest f

-- the process of a well formed entity
pub process_spelled : (e : VEntity) → IsWellFormedEntity e
    → Spells Anything false (process_text e) (λ s. codes "begin" ∷ codes "process" ∷ signals_front (input_names e.ports) s) false
unfolding process_text
process_spelled e w =
    let signals = signals_from 0 e.ports (first_input e.ports) (sym (position_from-zero is_input e.ports))
    (recursion_from_All IsPortName (port_names e.ports) w.ports) in
    joins process_word (λ r q. signals.1 r) signals.0

-- Reading.

inputs_named : (ports : List VPort) → AllByRecursion IsPortName (port_names ports) → AllByRecursion IsNamed (input_names ports)
inputs_named [] h = tt
inputs_named (port ∷ ports) h = by port.input (inputs_named ports h.1)
  where
    by : (b : Bool) → AllByRecursion IsNamed (input_names ports)
        → AllByRecursion IsNamed (port_names
        (cond b (port ∷ filter (λ (p : VPort). p.input) ports) (filter (λ (p : VPort). p.input) ports)))
    by true rest = (port_named port.name h.0, rest)
    by false rest = rest

signal_read : (names : List (List ℕ)) → AllByRecursion IsNamed names
    → (before : List (List ℕ)) (x : List ℕ) (after q : List (List ℕ)) → before ++ x ∷ after ≡ names
    → Reads (listed_name names (length before)) (x ∷ q) (length (before ++ x ∷ [])) q
unfolding listed_name
signal_read names h before x after q same =
    let here : slice_get names (length before) ≡ Some x = ap (λ (l : List (List ℕ)). slice_get l (length before)) (sym same)
    ∙ get_at before x after in
    let n : IsNamed x = at_place IsNamed before x after (subst (AllByRecursion IsNamed) (sym same) h) in
    to_same (one_longer before x) (in_turn (so_named (slice_get names (length before)) n here) gives)

-- the names of signals, of which there is one at least
pub names_read : (x : List ℕ) (xs : List (List ℕ)) → AllByRecursion IsNamed (x ∷ xs) → (s : List (List ℕ))
    → Reads (listed_names (x ∷ xs)) (signals_front (x ∷ xs) s) tt s
unfolding listed_names
names_read x xs h s =
    in_turn expected (in_turn (signal_read (x ∷ xs) h [] x xs (each next_signal xs (codes ")" ∷ s)) refl)
    (in_turn (through (λ (l : List (List ℕ)). length l) next_signal (x ∷ []) xs
    (λ before y after q same. turn refl (signal_read (x ∷ xs) h before y after q same)) (codes ")" ∷ s) refl)
    (in_turn (goes_on (nat_eq (length (x ∷ xs)) (length (x ∷ xs))) (codes ")" ∷ s) (equal_self (length (x ∷ xs)))) expected)))

sensitive_to : (names : List (List ℕ)) → AllByRecursion IsNamed names → (s : List (List ℕ))
    → Reads (sensitivity names) (signals_front names s) tt s
sensitive_to [] h s = gives
sensitive_to (x ∷ xs) h s = names_read x xs h s

pub sensitivity_read : (e : VEntity) → IsWellFormedEntity e → (s : List (List ℕ))
    → Reads (sensitivity (input_names e.ports)) (signals_front (input_names e.ports) s) tt s
sensitivity_read e w s = sensitive_to (input_names e.ports)
    (inputs_named e.ports (recursion_from_All IsPortName (port_names e.ports) w.ports)) s
