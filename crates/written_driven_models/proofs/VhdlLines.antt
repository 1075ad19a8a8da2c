-- The lines of the driven outputs of a written driver are read from their tokens.
use Rattle.std.proofs.Common.{◌≡◌, ℕ, ◌+◌, ◌-◌, ◌<◌, ◌≤◌, ◌^◌, Bool, true, false, nat_eq, nat_lt, List, [], ◌∷◌}
use Rattle.std.proofs.Common.{◌++◌, length, map, filter, Option, Some, slice_get, refl, sym, ap, ◌∙◌, subst, arith, codes}
use Rattle.std.proofs.Common.{decimal, append_assoc}
use Rattle.std.specs.List.{AllByRecursion}
use Rattle.std.specs.Option.{option_map_or}
use Rattle.std.proofs.lemmas.Bool.{lt-ltb, eqb-true}
use Rattle.std.proofs.lemmas.List.{append-nil}
use Rattle.std.proofs.lemmas.List.Elements.{recursion_from_All}
use Rattle.written_modules.specs.udp_tables.declared.models.VPort.{VPort}
use Rattle.written_entities.specs.vhdl_tokens.Words.{is_reserved, is_used, vhdl_words, used_words}
use Rattle.written_entities.specs.vhdl_tokens.Tokens.{is_name}
use Rattle.written_entities.specs.vhdl_tokens.Spelling.{is_same}
use Rattle.written_entities.specs.vhdl_grammar.VhdlOutputs.{delays}
use Rattle.written_entities.specs.vhdl_grammar.WellFormed.{IsCount, IsNumber}
use Rattle.driven_traces.specs.declared.delays.DrivePath.{DrivePath}
use Rattle.driven_traces.specs.Drivers.{IsPathOf}
use Rattle.driver_models.specs.declared.model.DriverModel.{DriverModel}
use Rattle.driver_models.specs.PathEnds.{input_number}
use Rattle.driver_models.specs.Cores.{Core}
use Rattle.driver_texts.specs.NumberedPorts.{NumberedPort, ports_of, driven_names}
use Rattle.driver_texts.specs.PortNames.{inputs, outputs, name_at}
use Rattle.vhdl_drivers.specs.DriverText.{paths_to, own_paths}
use Rattle.vhdl_drivers.specs.DriverSections.{drive_path, drive_paths, path_call_start, path_call, assignment}
use Rattle.vhdl_drivers.specs.DriverSections.{has_glitch}
use Rattle.vhdl_drivers.specs.DriverSections.{line_by, driven_lines, statements, process}
use Rattle.vhdl_drivers.specs.WellFormed.{HasNumbers, IsWrittenDriver, IsWellFormedDriver}
use Rattle.written_modules.proofs.grammar_reader.Derivations.{Reads, from_same, to_same, gives, token, in_turn, no_turn, turn}
use Rattle.written_modules.proofs.grammar_reader.Derivations.{turns}
use Rattle.written_modules.proofs.grammar_reader.ItemPlaces.{get_at, one_longer, at_place}
use Rattle.written_entities.proofs.Names.{IsNamed, part_named}
use Rattle.written_entities.proofs.NameReading.{expected, two_expected, three_expected, four_expected, seven_expected, known_as}
use Rattle.written_entities.proofs.NameReading.{so_named, time_read, this_number_read}
use Rattle.written_entities.proofs.QuotedNames.{quoted, quoted_is}
use Rattle.written_entities.proofs.PathReading.{index_is, index_fits}
use Rattle.written_entities.proofs.Counting.{counted, over}
use Rattle.written_driven_models.proofs.NumberedDrives.{Numbered, at_end, an_input, plain, driven, input_more, output_more}
use Rattle.written_driven_models.proofs.DriverPorts as sound
use Rattle.written_driven_models.proofs.PathEndReading.{passing_at, input_number_is}
use Rattle.written_driven_models.proofs.VhdlNames.{NamedPort, ports_named, all_filtered, few_filtered, output_named}
use Rattle.written_driven_models.proofs.VhdlTokens.{drive_path_front, drive_paths_front, path_call_front, line_by_front}
use Rattle.written_driven_models.proofs.VhdlTokens.{driven_line_front, statements_front, process_front}
use Rattle.written_driven_models.proofs.VhdlFacts.{language, are_names, ports_apart}
use Rattle.written_driven_models.proofs.VhdlPathOrder.{paths_from, all_from}
use Rattle.written_driven_models.proofs.VhdlProcesses.{all_have, has_at, start_read, variables_read, buffers_read, part_read}

-- Names of driven outputs.

-- the names of driven ports are those at their places among the outputs
names_are : {total : ℕ} (place number : ℕ) (left : List ℕ) (ports : List VPort) (ats : List NumberedPort)
    → Numbered total place number left ports ats →
    (all before : List VPort) → before ++ outputs ports ≡ all → length before ≡ place → driven_names ats ≡ map (name_at all) left
names_are place number left [] [] at_end all before same long = refl
names_are place number left [] (at ∷ ats) n all before same long = elim n [ ]
names_are place number left (port ∷ ports) [] n all before same long = elim n [ ]
names_are place number left (port ∷ ports) (at ∷ ats) (an_input _ e n) all before same long =
    names_are place number left ports ats n all before (ap (λ (l : List VPort). before ++ l) (sym (input_more port ports e))
    ∙ same) long
names_are place number left (port ∷ ports) (at ∷ ats) (plain _ e n) all before same long =
    names_are (place + 1) number left ports ats n all (before ++ port ∷ [])
    (append_assoc before (port ∷ []) (outputs ports) ∙ ap (λ (l : List VPort). before ++ l) (sym (output_more port ports e))
    ∙ same) (sym (one_longer before port) ∙ ap (λ (k : ℕ). k + 1) long)
names_are place number (_ ∷ left) (port ∷ ports) (at ∷ ats) (driven _ e n) all before same long =
    let split : before ++ port ∷ outputs ports ≡ all = ap (λ (l : List VPort). before ++ l) (sym (output_more port ports e))
    ∙ same in
    let here : slice_get all place ≡ Some port = ap (λ (l : List VPort). slice_get l place) (sym split)
    ∙ ap (slice_get (before ++ port ∷ outputs ports)) (sym long) ∙ get_at before port (outputs ports) in
    ap (λ (x : List ℕ). x ∷ driven_names ats) (sym (sound.port_name_is all place port here))
    ∙ ap (λ (l : List (List ℕ)). name_at all place ∷ l)
    (names_are (place + 1) (number + 1) left ports ats n all (before ++ port ∷ [])
    (append_assoc before (port ∷ []) (outputs ports) ∙ split) (sym (one_longer before port) ∙ ap (λ (k : ℕ). k + 1) long))

-- Paths.

-- a path to the driven output with a number, from 0
record IsOwnPath (m : DriverModel) (k : ℕ) (path : DrivePath) : Type 0 where
  leads : path.drive ≡ k
  from : IsNamed (name_at (inputs m.ports) path.from)
  start : input_number is_same m.ports (name_at (inputs m.ports) path.from) ≡ Some path.from
  numbers : HasNumbers path

times_read : (rise fall : ℕ) (s : List (List ℕ)) → IsNumber rise → IsNumber fall →
    Reads delays (codes "(" ∷ decimal rise ∷ codes "ps" ∷ codes "," ∷ decimal fall ∷ codes "ps" ∷ codes ")" ∷ codes "," ∷ s)
    (rise, fall) s
unfolding delays
times_read rise fall s h k = in_turn expected
    (in_turn (time_read rise h) (in_turn expected (in_turn (time_read fall k) (in_turn two_expected gives))))

path_read : (m : DriverModel) (k : ℕ) (all : List DrivePath) → length all ≤ 10 ^ 15 → AllByRecursion (IsOwnPath m k) all →
    (before : List DrivePath) (path : DrivePath) (after : List DrivePath) (s : List (List ℕ)) → before ++ path ∷ after ≡ all →
    Reads (drive_path m.ports k before) (drive_path_front m (length before + 1) path s) (before ++ path ∷ []) s
unfolding drive_path
path_read m k all few h before path after s same =
    let own : IsOwnPath m k path = at_place (IsOwnPath m k) before path after
    (subst (AllByRecursion (IsOwnPath m k)) (sym same) h) in
    let more : List (List ℕ) =
    codes "=>" ∷ codes "(" ∷ name_at (inputs m.ports) path.from ∷ codes "'" ∷ codes "last_event" ∷ codes "," ∷ codes
    "(" ∷ decimal path.rise ∷ codes "ps" ∷ codes ","
    ∷ decimal path.fall ∷ codes "ps" ∷ codes ")" ∷ codes "," ∷ codes "true" ∷ codes ")" ∷ s in
    let value : before ++ record { from = path.from; drive = k; rise = path.rise; fall = path.fall } ∷ [] ≡ before ++ path ∷ [] =
    ap (λ (d : ℕ). before ++ record { from = path.from; drive = d; rise = path.rise; fall = path.fall } ∷ []) (sym own.leads) in
    from_same (ap (λ (n : ℕ). decimal n ∷ more) (index_is (length before)))
    (in_turn (this_number_read (length before) (index_fits before path after all same few))
    (in_turn two_expected (in_turn (known_as (input_number is_same m.ports) own.from own.start)
    (in_turn three_expected (in_turn (times_read path.rise path.fall (codes "true" ∷ codes ")" ∷ s) own.numbers.rise
    own.numbers.fall) (in_turn two_expected (to_same value gives)))))))

paths_read : (m : DriverModel) (k : ℕ) (path : DrivePath) (paths : List DrivePath) (s : List (List ℕ))
    → length (path ∷ paths) ≤ 10 ^ 15 → AllByRecursion (IsOwnPath m k) (path ∷ paths) →
    Reads (drive_paths m.ports k) (drive_paths_front m (path ∷ paths) (codes ")" ∷ s)) (path ∷ paths) (codes ")" ∷ s)
unfolding drive_paths
paths_read m k path paths s few h =
    in_turn (path_read m k (path ∷ paths) few h [] path paths
    (counted (λ n y q. codes "," ∷ drive_path_front m n y q) 2 paths (codes ")" ∷ s)) refl)
    (over (λ (l : List DrivePath). l) (λ n y q. codes "," ∷ drive_path_front m n y q) (path ∷ []) paths
    (λ before x after q same rest. turns (turn refl (path_read m k (path ∷ paths) few h before x after q same)) rest)
    (codes ")" ∷ s) (no_turn refl))

-- Lines.

call_is_name : is_name (codes "VitalPathDelay01") ≡ true
unfolding is_reserved is_used vhdl_words used_words
call_is_name = refl

call_start_read : (k : ℕ) (x : List ℕ) (s : List (List ℕ)) → IsNamed x → IsCount (k + 1) →
    Reads (path_call_start k x)
    (codes "(" ∷ codes "OutSignal" ∷ codes "=>" ∷ x ∷ codes "," ∷ codes "GlitchData" ∷ codes "=>" ∷ (103 ∷ 95 ∷ decimal (k + 1))
    ∷ codes "," ∷ codes "OutSignalName" ∷ codes "=>" ∷ quoted x
    ∷ codes "," ∷ codes "OutTemp" ∷ codes "=>" ∷ (122 ∷ 95 ∷ decimal (k + 1)) ∷ codes "," ∷ codes "Paths" ∷ codes "=>" ∷ codes
    "(" ∷ s) tt s
unfolding path_call_start
call_start_read k x s n few =
    in_turn three_expected (in_turn (so_named (Some x) n refl)
    (in_turn three_expected (in_turn (part_read 103 (k + 1) (part_named 103 (k + 1) refl few)) (in_turn three_expected
    (in_turn (token (rw (quoted_is x) refl))
    (in_turn three_expected (in_turn (part_read 122 (k + 1) (part_named 122 (k + 1) refl few)) four_expected)))))))

call_read : (m : DriverModel) (k : ℕ) (x : List ℕ) (path : DrivePath) (paths found : List DrivePath) (s : List (List ℕ))
    → IsNamed x → IsCount (k + 1) → length (path ∷ paths) ≤ 10 ^ 15 →
    AllByRecursion (IsOwnPath m k) (path ∷ paths)
    → Reads (path_call m.ports k x found) (path_call_front m (k + 1) x (path ∷ paths) s) (found ++ path ∷ paths) s
unfolding path_call
call_read m k x path paths found s n few less h =
    in_turn (token (rw call_is_name refl))
    (in_turn (call_start_read k x (drive_paths_front m (path ∷ paths) (codes ")" ∷ codes "," ∷ codes "Mode" ∷ codes "=>"
    ∷ codes "VitalTransport" ∷ codes ")" ∷ codes ";" ∷ s)) n few)
    (in_turn (paths_read m k path paths (codes "," ∷ codes "Mode" ∷ codes "=>" ∷ codes "VitalTransport" ∷ codes ")" ∷ codes ";"
    ∷ s) less h) (in_turn seven_expected gives)))

assigned : (m : DriverModel) (k : ℕ) (x : List ℕ) (s : List (List ℕ)) → IsNamed x → IsCount (k + 1)
    → Reads (assignment k x) (line_by_front m (k + 1) x [] s) tt s
unfolding assignment
assigned m k x s n few = in_turn (so_named (Some x) n refl)
    (in_turn expected (in_turn (part_read 122 (k + 1) (part_named 122 (k + 1) refl few)) expected))

line_by_paths : (m : DriverModel) (k : ℕ) (x : List ℕ) (paths found : List DrivePath) (b : Bool) (s : List (List ℕ)) → IsNamed x
    → IsCount (k + 1) → length paths ≤ 10 ^ 15 →
    AllByRecursion (IsOwnPath m k) paths → b ≡ nat_lt 0 (length paths)
    → Reads (line_by m.ports k x found b) (line_by_front m (k + 1) x paths s) (found ++ paths) s
line_by_paths m k x [] found b s n few less h e =
    rw e (in_turn (assigned m k x s n few) (to_same (sym (append-nil found)) gives))
line_by_paths m k x (path ∷ paths) found b s n few less h e =
    let some : b ≡ true = e ∙ lt-ltb 0 (length (path ∷ paths)) (omega arith) in
    rw some (call_read m k x path paths found s n few less h)

-- what passes a test, each of them
all_pass : {A : Type 0} (test : A → Bool) (xs : List A) → AllByRecursion (λ x. test x ≡ true) (filter test xs)
all_pass test [] = tt
all_pass test (x ∷ xs) = by (test x) refl (all_pass test xs)
  where
    by : (b : Bool) → test x ≡ b → AllByRecursion (λ y. test y ≡ true) (filter test xs)
        → AllByRecursion (λ y. test y ≡ true) (Rattle.std.proofs.Common.cond b (x ∷ filter test xs) (filter test xs))
    by true e rest = (e, rest)
    by false e rest = rest

module _ (names : List (List ℕ)) (cores : List Core) (m : DriverModel) (h : IsWellFormedDriver names cores m) where
  abbrev w : IsWrittenDriver m
  w = h.written

  own_path : (k : ℕ) (path : DrivePath) → IsPathOf m.driver path → HasNumbers path → path.drive ≡ k → IsOwnPath m k path
  own_path k path p n e =
      let named = ports_named m w in
      let start = sound.path_start m w.sound path p in
      let its_start : name_at (inputs m.ports) path.from ≡ start.port.name =
      sound.port_name_is (inputs m.ports) path.from start.port start.stands in
      record {
        leads = e;
        from = subst IsNamed (sym its_start)
            (passing_at NamedPort (λ p. p.input) m.ports path.from start.port named start.stands);
        start = ap (input_number is_same m.ports) its_start
            ∙ input_number_is language m.ports path.from start.port (are_names m.ports named) (ports_apart m.ports named h.apart)
            start.stands;
        numbers = n;
      }

  own_each : (k : ℕ) (paths : List DrivePath) → AllByRecursion (IsPathOf m.driver) paths → AllByRecursion HasNumbers paths
      → AllByRecursion (λ (path : DrivePath). nat_eq path.drive k ≡ true) paths →
      AllByRecursion (IsOwnPath m k) paths
  own_each k [] p n e = tt
  own_each k (path ∷ paths) p n e = (own_path k path p.0 n.0 (eqb-true path.drive k e.0), own_each k paths p.1 n.1 e.1)

  own_all : (k : ℕ) → AllByRecursion (IsOwnPath m k) (paths_to k m.driver.paths)
  own_all k =
      own_each k (paths_to k m.driver.paths)
      (all_filtered (IsPathOf m.driver) (λ (path : DrivePath). nat_eq path.drive k) m.driver.paths
      (recursion_from_All (IsPathOf m.driver) m.driver.paths w.sound.driver.paths))
      (all_filtered HasNumbers (λ (path : DrivePath). nat_eq path.drive k) m.driver.paths
      (recursion_from_All HasNumbers m.driver.paths w.paths))
      (all_pass (λ (path : DrivePath). nat_eq path.drive k) m.driver.paths)

  own_few : (k : ℕ) → length (paths_to k m.driver.paths) ≤ 10 ^ 15
  own_few k = few_filtered (λ (path : DrivePath). nat_eq path.drive k) m.driver.paths (10 ^ 15) w.few_paths

  own_is : (k : ℕ) → own_paths m (k + 1) ≡ paths_to k m.driver.paths
  own_is k = ap (λ (n : ℕ). paths_to n m.driver.paths) (index_is k)

  abbrev count : ℕ
  count = length m.driver.drives

  glitch_is : (k : ℕ) → k < count → has_glitch (all_have m count) k ≡ nat_lt 0 (length (paths_to k m.driver.paths))
  glitch_is k l = ap (λ (o : Option Bool). option_map_or (λ (b : Bool). b) o false) (has_at m count k l)
      ∙ ap (λ (q : List DrivePath). nat_lt 0 (length q)) (own_is k)

  line_read : (k place : ℕ) (found : List DrivePath) (s : List (List ℕ)) → k < count → IsNamed (name_at (outputs m.ports) place) →
      Reads (line_by m.ports k (name_at (outputs m.ports) place) found (has_glitch (all_have m count) k))
      (driven_line_front m (k + 1) place s) (found ++ paths_to k m.driver.paths) s
  line_read k place found s l n =
      from_same (ap (λ (q : List DrivePath). line_by_front m (k + 1) (name_at (outputs m.ports) place) q s) (own_is k))
      (line_by_paths m k (name_at (outputs m.ports) place) (paths_to k m.driver.paths) found (has_glitch (all_have m count) k) s n
      (omega (arith, l, w.few)) (own_few k) (own_all k) (glitch_is k l))

  lines_read : (todo : List ℕ) (k : ℕ) (found : List DrivePath) (s : List (List ℕ)) → k + length todo ≡ count
      → AllByRecursion (λ place. IsNamed (name_at (outputs m.ports) place)) todo →
      Reads (driven_lines m.ports (all_have m count) k (map (name_at (outputs m.ports)) todo) found)
      (counted (driven_line_front m) (k + 1) todo s) (found ++ paths_from m.driver.paths k (length todo)) s
  lines_read [] k found s e n = to_same (sym (append-nil found)) gives
  lines_read (place ∷ todo) k found s e n =
      in_turn (line_read k place found (counted (driven_line_front m) (k + 1 + 1) todo s) (omega (arith, e)) n.0)
      (to_same (append_assoc found (paths_to k m.driver.paths) (paths_from m.driver.paths (k + 1) (length todo)))
      (lines_read todo (k + 1) (found ++ paths_to k m.driver.paths) s (omega (arith, e)) n.1))

  places_named : (places : List ℕ) → AllByRecursion (λ place. place < m.driver.outputs) places
      → AllByRecursion (λ place. IsNamed (name_at (outputs m.ports) place)) places
  places_named [] l = tt
  places_named (place ∷ places) l = (output_named m w place l.0, places_named places l.1)

  names_of_drives : driven_names (ports_of m) ≡ map (name_at (outputs m.ports)) m.driver.drives
  names_of_drives = names_are 0 0 m.driver.drives m.ports (ports_of m) (sound.numbered m w.sound) (outputs m.ports) [] refl refl

  drives_of : (paths : List DrivePath) → AllByRecursion (IsPathOf m.driver) paths
      → AllByRecursion (λ (path : DrivePath). path.drive < count) paths
  drives_of [] p = tt
  drives_of (path ∷ paths) p = (p.0.drive, drives_of paths p.1)

  in_order : paths_from m.driver.paths 0 count ≡ m.driver.paths
  in_order = all_from count m.driver.paths h.order
      (drives_of m.driver.paths (recursion_from_All (IsPathOf m.driver) m.driver.paths w.sound.driver.paths))

  statements_read : (s : List (List ℕ)) →
      Reads (statements m.ports m.driver.drives (all_have m count))
      (codes "begin" ∷ counted Rattle.written_driven_models.proofs.VhdlTokens.buffer_front 1 m.driver.drives
      (counted (driven_line_front m) 1 m.driver.drives s)) m.driver.paths s
  unfolding statements
  statements_read s =
      let lines : Reads (driven_lines m.ports (all_have m count) 0 (map (name_at (outputs m.ports)) m.driver.drives) [])
      (counted (driven_line_front m) 1 m.driver.drives s) m.driver.paths s =
      to_same in_order (lines_read m.driver.drives 0 [] s (omega arith)
      (places_named m.driver.drives (recursion_from_All (λ place. place < m.driver.outputs) m.driver.drives
      w.sound.driver.outputs))) in
      in_turn expected (in_turn (buffers_read m.driver.drives 1 (counted (driven_line_front m) 1 m.driver.drives s)
      (omega (arith, w.few)))
      (subst (λ (l : List (List ℕ)). Reads (driven_lines m.ports (all_have m count) 0 l [])
      (counted (driven_line_front m) 1 m.driver.drives s) m.driver.paths s) (sym names_of_drives) lines))

  pub process_read : (s : List (List ℕ))
      → Reads (process m.ports m.driver.drives) (process_front m (statements_front m s)) m.driver.paths s
  unfolding process
  process_read s =
      let behind : List (List ℕ) = codes "begin" ∷ counted Rattle.written_driven_models.proofs.VhdlTokens.buffer_front 1
      m.driver.drives (counted (driven_line_front m) 1 m.driver.drives s) in
      in_turn (start_read m w count (statements_front m s) w.some w.few)
      (in_turn (variables_read m count w.few m.driver.drives behind refl refl) (statements_read s))
