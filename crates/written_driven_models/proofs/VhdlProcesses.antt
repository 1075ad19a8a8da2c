-- The process of a written driver is read from its tokens.
use Rattle.std.proofs.Common.{◌≡◌, ℕ, zero, suc, ◌+◌, ◌<◌, ◌≤◌, ◌^◌, Bool, true, false, nat_lt, ◌==◌, List, [], ◌∷◌, ◌++◌, length}
use Rattle.std.proofs.Common.{map, Some, slice_get, refl, sym, ap, ◌∙◌, subst, arith, codes, decimal, append_assoc}
use Rattle.std.specs.List.{AllByRecursion, range_with_len}
use Rattle.std.proofs.lemmas.Bool.{and_right, lt-ltb, eq-eqb}
use Rattle.std.proofs.lemmas.List.FromFn.{map-range_with_len_more, get_or-map-range_with_len, length-map-range_with_len}
use Rattle.std.proofs.lemmas.Option.{slice_get-get_or}
use Rattle.written_modules.specs.grammar_rules.Rule.{Stops}
use Rattle.written_modules.specs.grammar_rules.Rule as r
use Rattle.written_modules.specs.udp_tables.declared.models.VPort.{VPort}
use Rattle.written_entities.specs.vhdl_tokens.Spelling.{is_same}
use Rattle.written_entities.specs.vhdl_grammar.VhdlRules.{begins, this_name}
use Rattle.written_entities.specs.vhdl_grammar.VhdlDeclarations.{input_names, listed_names, last_true, is_last_false}
use Rattle.written_entities.specs.vhdl_grammar.WellFormed.{IsCount}
use Rattle.driven_traces.specs.declared.delays.DrivePath.{DrivePath}
use Rattle.driver_models.specs.declared.model.DriverModel.{DriverModel}
use Rattle.driver_models.specs.Terminals.{all_numbered}
use Rattle.driver_models.specs.Wires.{numbered}
use Rattle.vhdl_drivers.specs.DriverText.{data_word, enable_word, own_paths}
use Rattle.vhdl_drivers.specs.DriverSections.{signal_names, process_start, variable_of, value_variable}
use Rattle.vhdl_drivers.specs.DriverSections.{delays_variable}
use Rattle.vhdl_drivers.specs.DriverSections.{driven_variable, driven_variables, buffer, buffers}
use Rattle.vhdl_drivers.specs.WellFormed.{IsWrittenDriver}
use Rattle.written_modules.proofs.grammar_reader.Fronts.{Front, each}
use Rattle.written_modules.proofs.grammar_reader.Derivations.{Reads, from_same, to_same, gives, in_turn, no_turn, turn, turns}
use Rattle.written_modules.proofs.grammar_reader.Derivations.{goes_on}
use Rattle.written_entities.proofs.Names.{IsNamed, part_named, same_self}
use Rattle.written_entities.proofs.NameReading.{expected, two_expected, three_expected, five_expected, known_as, so_named}
use Rattle.written_entities.proofs.SignalReading.{names_read}
use Rattle.written_entities.proofs.Counting.{counted}
use Rattle.written_driven_models.proofs.TerminalReading.{names_joined}
use Rattle.written_driven_models.proofs.VhdlNames.{signals_named, inputs_named}
use Rattle.written_entities.proofs.VariableTokens.{glitch_front}
use Rattle.written_driven_models.proofs.VhdlTokens.{next_name_front, listed_front, driven_variables_front}
use Rattle.written_driven_models.proofs.VhdlTokens.{buffer_front}

-- The list of signals.

each_joined : {A : Type 0} (f : A → Front) (xs ys : List A) (s : List (List ℕ)) → each f (xs ++ ys) s ≡ each f xs (each f ys s)
each_joined f [] ys s = refl
each_joined f (x ∷ xs) ys s = ap (f x) (each_joined f xs ys s)

all_joined : {A : Type 0} (P : A → Type 0) (xs ys : List A) → AllByRecursion P xs → AllByRecursion P ys
    → AllByRecursion P (xs ++ ys)
all_joined P [] ys h k = k
all_joined P (x ∷ xs) ys h k = (h.0, all_joined P xs ys h.1 k)

list_read : (others : List (List ℕ)) (last : List ℕ) (s : List (List ℕ)) → AllByRecursion IsNamed (others ++ last ∷ []) →
    Reads (listed_names (others ++ last ∷ [])) (codes "(" ∷ each next_name_front others (last ∷ codes ")" ∷ s)) tt s
list_read [] last s h = names_read last [] h s
list_read (x ∷ xs) last s h = from_same (ap (λ (l : List (List ℕ)). codes "(" ∷ l) (names_joined x xs last (codes ")" ∷ s)))
    (names_read x (xs ++ last ∷ []) h s)

signals_named_by : (m : DriverModel) → IsWrittenDriver m → (count : ℕ) → IsCount count
    → AllByRecursion IsNamed (signal_names m.ports count)
signals_named_by m w count few =
    all_joined IsNamed (input_names m.ports) (all_numbered data_word count ++ all_numbered enable_word count) (inputs_named m w)
    (all_joined IsNamed (all_numbered data_word count) (all_numbered enable_word count) (signals_named 100 count refl few)
    (signals_named 101 count refl few))

-- all signals but the last
abbrev others_of : List VPort → ℕ → List (List ℕ)
others_of ports n = input_names ports ++ (all_numbered data_word (suc n) ++ all_numbered enable_word n)

last_of : (ports : List VPort) (n : ℕ) → others_of ports n ++ numbered enable_word (suc n) ∷ [] ≡ signal_names ports (suc n)
last_of ports n =
    append_assoc (input_names ports) (all_numbered data_word (suc n) ++ all_numbered enable_word n)
    (numbered enable_word (suc n) ∷ [])
    ∙ ap (λ (l : List (List ℕ)). input_names ports ++ l)
    (append_assoc (all_numbered data_word (suc n)) (all_numbered enable_word n) (numbered enable_word (suc n) ∷ []))

others_joined : (ports : List VPort) (n : ℕ) (s : List (List ℕ)) →
    each next_name_front (input_names ports)
    (each next_name_front (all_numbered data_word (suc n)) (each next_name_front (all_numbered enable_word n) s)) ≡ each
    next_name_front (others_of ports n) s
others_joined ports n s =
    ap (each next_name_front (input_names ports))
    (sym (each_joined next_name_front (all_numbered data_word (suc n)) (all_numbered enable_word n) s))
    ∙ sym (each_joined next_name_front (input_names ports) (all_numbered data_word (suc n) ++ all_numbered enable_word n) s)

-- the tokens of the list for so many driven outputs
abbrev list_front : DriverModel → ℕ → Front
list_front m count s =
    codes "process" ∷ codes "(" ∷ each next_name_front (input_names m.ports)
    (each next_name_front (all_numbered data_word count) (listed_front enable_word count (codes ")" ∷ s)))

pub start_read : (m : DriverModel) → IsWrittenDriver m → (count : ℕ) (s : List (List ℕ)) → 1 ≤ count → IsCount count
    → Reads (process_start m.ports count) (list_front m count s) tt s
unfolding process_start
start_read m w zero s some few = absurd (omega (arith, some))
start_read m w (suc n) s some few =
    let last : List ℕ = numbered enable_word (suc n) in
    let all : AllByRecursion IsNamed (others_of m.ports n ++ last ∷ []) =
    subst (AllByRecursion IsNamed) (sym (last_of m.ports n)) (signals_named_by m w (suc n) few) in
    in_turn expected (from_same (ap (λ (l : List (List ℕ)). codes "(" ∷ l) (others_joined m.ports n (last ∷ codes ")" ∷ s)))
    (subst (λ (l : List (List ℕ)). Reads (listed_names l)
    (codes "(" ∷ each next_name_front (others_of m.ports n) (last ∷ codes ")" ∷ s)) tt s) (last_of m.ports n)
    (list_read (others_of m.ports n) last s all)))

-- The variables.

value_known : (count : ℕ) (l : List Bool) → length l < count
    → variable_of count l (numbered (codes "z_") (length l + 1)) ≡ Some false
value_known count l h = rw (lt-ltb (length l) count h, same_self (numbered (codes "z_") (length l + 1))) refl

last_is_false : (l : List Bool) → is_last_false (l ++ false ∷ []) ≡ true
last_is_false [] = refl
last_is_false (b ∷ []) = refl
last_is_false (b ∷ c ∷ l) = last_is_false (c ∷ l)

made_true : (l : List Bool) → last_true (l ++ false ∷ []) ≡ l ++ true ∷ []
made_true [] = refl
made_true (b ∷ []) = refl
made_true (b ∷ c ∷ l) = ap (λ (q : List Bool). b ∷ q) (made_true (c ∷ l))

delays_known : (count : ℕ) (l : List Bool)
    → variable_of count (l ++ false ∷ []) (numbered (codes "g_") (length (l ++ false ∷ []))) ≡ Some true
delays_known count l =
    let n : ℕ = length (l ++ false ∷ []) in
    rw (
      and_right (nat_lt n count) (is_same (numbered (codes "g_") n) (numbered (codes "z_") (n + 1))) refl,
      last_is_false l,
      same_self (numbered (codes "g_") n),
    ) refl

value_read : (count : ℕ) (l : List Bool) (k : ℕ) (s : List (List ℕ)) → length l ≡ k → k < count → IsCount count →
    Reads (driven_variable count l) (numbered (codes "z_") (k + 1) ∷ codes ":" ∷ codes "std_logic" ∷ codes ":=" ∷ codes "'X'"
    ∷ codes ";" ∷ s) (l ++ false ∷ []) s
unfolding driven_variable value_variable
value_read count l k s same h few =
    in_turn (known_as (variable_of count l) (part_named 122 (k + 1) refl (omega (arith, h, few)))
    (subst (λ (n : ℕ). variable_of count l (numbered (codes "z_") (n + 1)) ≡ Some false) same
    (value_known count l (omega (arith, same, h)))))
    (in_turn five_expected gives)

delays_read : (count : ℕ) (l : List Bool) (k : ℕ) (s : List (List ℕ)) → length (l ++ false ∷ []) ≡ k + 1 → k < count
    → IsCount count →
    Reads (driven_variable count (l ++ false ∷ []))
    (numbered (codes "g_") (k + 1) ∷ codes ":" ∷ codes "VitalGlitchDataType" ∷ codes ";" ∷ s) (l ++ true ∷ []) s
unfolding driven_variable delays_variable
delays_read count l k s same h few =
    in_turn (known_as (variable_of count (l ++ false ∷ [])) (part_named 103 (k + 1) refl (omega (arith, h, few)))
    (subst (λ (n : ℕ). variable_of count (l ++ false ∷ []) (numbered (codes "g_") n) ≡ Some true) same (delays_known count l)))
    (in_turn three_expected (to_same (made_true l) gives))

-- whether the driven output with a number, from 0, has paths
abbrev has_paths : DriverModel → ℕ → Bool
has_paths m k = nat_lt 0 (length (own_paths m (k + 1)))

-- the same of so many
abbrev pub all_have : DriverModel → ℕ → List Bool
all_have m n = map (has_paths m) (range_with_len 0 n)

one_more : (m : DriverModel) (n : ℕ) → all_have m (n + 1) ≡ all_have m n ++ has_paths m n ∷ []
one_more m n = map-range_with_len_more (has_paths m) 0 n n (omega arith)

count_of : (m : DriverModel) (n : ℕ) → length (all_have m n) ≡ n
count_of m n = length-map-range_with_len (has_paths m) 0 n

pub has_at : (m : DriverModel) (n k : ℕ) → k < n → slice_get (all_have m n) k ≡ Some (has_paths m k)
has_at m n k h =
    slice_get-get_or (all_have m n) k false (omega (arith, h, count_of m n))
    ∙ ap Some (get_or-map-range_with_len (has_paths m) 0 n k k false h (omega arith))

grown : (l : List Bool) (b : Bool) (k : ℕ) → length l ≡ k → length (l ++ b ∷ []) ≡ k + 1
grown [] b k e = omega (arith, e)
grown (c ∷ l) b k e = let more = grown l b (length l) refl in omega (arith, more, e)

module _ (m : DriverModel) (count : ℕ) (few : IsCount count) where
  abbrev variables_from : List Bool → Rattle.written_modules.specs.grammar_reader.Words.Grammar (List Bool)
  variables_from l = r.Many (λ _. begins (codes "variable")) (λ found _. driven_variable count found) l

  -- the variables of an output behind those of others
  output_read : (k : ℕ) (paths : List DrivePath) (s : List (List ℕ)) (v : List Bool) (left : List (List ℕ)) → k < count
      → own_paths m (k + 1) ≡ paths →
      Reads (variables_from (all_have m (k + 1))) s v left →
      Reads (variables_from (all_have m k))
      (codes "variable" ∷ numbered (codes "z_") (k + 1) ∷ codes ":" ∷ codes "std_logic" ∷ codes ":=" ∷ codes "'X'" ∷ codes ";"
      ∷ glitch_front (k + 1) paths s) v left
  output_read k [] s v left h e rest =
      let here : has_paths m k ≡ false = ap (λ (q : List DrivePath). nat_lt 0 (length q)) e in
      turns (turn refl (value_read count (all_have m k) k s (count_of m k) h few))
      (subst (λ (l : List Bool). Reads (variables_from l) s v left)
      (one_more m k ∙ ap (λ (b : Bool). all_have m k ++ b ∷ []) here) rest)
  output_read k (path ∷ paths) s v left h e rest =
      let here : has_paths m k ≡ true = ap (λ (q : List DrivePath). nat_lt 0 (length q)) e
      ∙ lt-ltb 0 (length (path ∷ paths)) (omega arith) in
      turns (turn refl (value_read count (all_have m k) k
      (codes "variable" ∷ numbered (codes "g_") (k + 1) ∷ codes ":" ∷ codes "VitalGlitchDataType" ∷ codes ";" ∷ s)
      (count_of m k) h few))
      (turns (turn refl (delays_read count (all_have m k) k s (grown (all_have m k) false k (count_of m k)) h few))
      (subst (λ (l : List Bool). Reads (variables_from l) s v left)
      (one_more m k ∙ ap (λ (b : Bool). all_have m k ++ b ∷ []) here) rest))

  outputs_read : (todo : List ℕ) (k : ℕ) (s : List (List ℕ)) → k + length todo ≡ count → Stops (begins (codes "variable")) s →
      Reads (variables_from (all_have m k)) (counted (driven_variables_front m) (k + 1) todo s) (all_have m count) s
  outputs_read [] k s e stop = let all : k ≡ count = omega (arith, e) in to_same (ap (all_have m) all) (no_turn stop)
  outputs_read (place ∷ todo) k s e stop =
      output_read k (own_paths m (k + 1)) (counted (driven_variables_front m) (k + 1 + 1) todo s) (all_have m count) s
      (omega (arith, e)) refl
      (outputs_read todo (k + 1) s (omega (arith, e)) stop)

  pub variables_read : (drives : List ℕ) (s : List (List ℕ)) → length drives ≡ count → Stops (begins (codes "variable")) s →
      Reads (driven_variables count) (counted (driven_variables_front m) 1 drives s) (all_have m count) s
  unfolding driven_variables
  variables_read drives s e stop =
      in_turn (outputs_read drives 0 s (omega (arith, e)) stop)
      (in_turn (goes_on (length (all_have m count) == count) s (eq-eqb (length (all_have m count)) count (count_of m count)))
      gives)

-- The buffers.

pub part_read : (letter n : ℕ) {s : List (List ℕ)} → IsNamed (letter ∷ 95 ∷ decimal n)
    → Reads (this_name (Some (letter ∷ 95 ∷ decimal n))) ((letter ∷ 95 ∷ decimal n) ∷ s) tt s
part_read letter n h = so_named (Some (letter ∷ 95 ∷ decimal n)) h refl

buffer_read : (n place : ℕ) (s : List (List ℕ)) → IsCount n → Reads (buffer n) (buffer_front n place s) tt s
unfolding buffer
buffer_read n place s h =
    in_turn (part_read 122 n (part_named 122 n refl h))
    (in_turn three_expected (in_turn (part_read 100 n (part_named 100 n refl h)) (in_turn expected
    (in_turn (part_read 101 n (part_named 101 n refl h)) two_expected))))

pub buffers_read : (drives : List ℕ) (n : ℕ) (s : List (List ℕ)) → n + length drives ≤ 2 ^ 64
    → Reads (buffers n (length drives)) (counted buffer_front n drives s) tt s
buffers_read [] n s h = gives
buffers_read (place ∷ drives) n s h =
    in_turn (buffer_read n place (counted buffer_front (n + 1) drives s) (omega (arith, h)))
    (buffers_read drives (n + 1) s (omega (arith, h)))
