-- The terminals of the core of a driver are read from their tokens.
use Rattle.std.proofs.Common.{◌≡◌, ℕ, zero, suc, ◌+◌, ◌<◌, ◌≤◌, Bool, true, false, nat_eq, ◌||◌, List, [], ◌∷◌, ◌++◌, length, inl}
use Rattle.std.proofs.Common.{inr, None, refl, sym, ap, ◌∙◌, arith, codes, append_assoc}
use Rattle.std.specs.List.{AllByRecursion}
use Rattle.std.proofs.lemmas.Bool.{eq-eqb, cases_Bool, eqb-true, eqb-false}
use Rattle.std.proofs.lemmas.List.Folds.{list_any-append}
use Rattle.std.proofs.lemmas.List.{append-nil}
use Rattle.written_modules.specs.udp_tables.declared.models.VPort.{VPort}
use Rattle.written_modules.specs.grammar_rules.Rule.{Stops}
use Rattle.written_modules.specs.grammar_reader.Words.{Grammar, ◌>>=◌, begins, is_among}
use Rattle.driver_models.specs.declared.terminals.Terminals.{Terminals}
use Rattle.driver_models.specs.Wires.{numbered}
use Rattle.driver_models.specs.Terminals.{all_numbered, is_driven_by, output_terminal, input_terminal, port_terminal}
use Rattle.driver_models.specs.Terminals.{more_terminals, more_enables, no_terminal, core_terminals}
use Rattle.driver_texts.specs.NumberedPorts.{NumberedPort}
use Rattle.driver_texts.specs.CoreTerminals.{terminal_by}
use Rattle.written_modules.proofs.grammar_reader.Fronts.{Front, each}
use Rattle.written_modules.proofs.grammar_reader.Derivations.{Reads, from_same, to_same, gives, in_turn, passed}
use Rattle.written_modules.proofs.grammar_reader.ItemPlaces.{one_longer}
use Rattle.written_driven_models.proofs.Languages.{IsDriverLanguage, word_read, known_read, this_read}
use Rattle.written_driven_models.proofs.WireReading.{names_from, all_are}
use Rattle.written_driven_models.proofs.NumberedDrives.{Numbered, at_end, an_input, plain, driven}

-- a terminal before another one
abbrev pub terminal_tokens : List ℕ → NumberedPort → Front
terminal_tokens value at s = terminal_by value at.port.name at.number ∷ codes "," ∷ s

-- a name before another one
abbrev pub name_tokens : List ℕ → Front
name_tokens x s = x ∷ codes "," ∷ s

-- the names of so many wires
abbrev pub wires_listed : List ℕ → ℕ → Front
wires_listed word zero s = s
wires_listed word (suc n) s = each name_tokens (all_numbered word n) (numbered word (suc n) ∷ s)

-- a terminal behind another one
abbrev pub next_tokens : List ℕ → NumberedPort → Front
next_tokens value at s = codes "," ∷ terminal_by value at.port.name at.number ∷ s

-- the names of so many wires, from the one with a number on, each behind a comma
abbrev pub wire_list : List ℕ → ℕ → ℕ → Front
wire_list word number zero s = s
wire_list word number (suc n) s = codes "," ∷ numbered word number ∷ wire_list word (number + 1) n s

-- the name of a port, where it is no driven output, is none of so many wires to buffers' inputs
abbrev pub IsFree : (List ℕ → List ℕ → Bool) → List ℕ → ℕ → NumberedPort → Type 0
IsFree is_same value count at = at.port.input ≡ false → at.number ≡ None
    → is_among is_same (all_numbered value count) at.port.name ≡ false

-- a port that can stand at the core
pub record IsTerminal (is_name : List ℕ → Bool) (is_same : List ℕ → List ℕ → Bool) (value : List ℕ) (count : ℕ)
    (at : NumberedPort) : Type 0 where
  pub name : is_name at.port.name ≡ true
  pub free : IsFree is_same value count at

module _ {is_name : List ℕ → Bool} {is_same : List ℕ → List ℕ → Bool} {value enable : List ℕ}
    (lang : IsDriverLanguage is_name is_same value enable) (count : ℕ) where
  abbrev terminals_of : ℕ → List ℕ → Terminals
  terminals_of place done = record { outputs = place; drives = done }

  -- the names of wires

  last_among : (n k : ℕ) → k ≤ n → (k < n → is_among is_same (all_numbered value n) (numbered value (k + 1)) ≡ true) →
      (is_among is_same (all_numbered value n) (numbered value (k + 1))
      || (is_same (numbered value (k + 1)) (numbered value (suc n)) || false)) ≡ true
  last_among n k l h = elim (cases_Bool (nat_eq k n)) [
    | inl t ↦ (let same : suc n ≡ k + 1 = (let e = eqb-true k n t in omega (arith, e)) in
        rw (ap (is_same (numbered value (k + 1))) (ap (numbered value) same) ∙ lang.itself (numbered value (k + 1)))
        (or_true (is_among is_same (all_numbered value n) (numbered value (k + 1)))))
    | inr f ↦ (let e = eqb-false k n f in rw (h (omega (arith, e, l))) refl)
  ]
    where
      or_true : (b : Bool) → (b || true) ≡ true
      or_true true = refl
      or_true false = refl

  is_wire : (n k : ℕ) → k < n → is_among is_same (all_numbered value n) (numbered value (k + 1)) ≡ true
  is_wire zero k h = absurd (omega (arith, h))
  is_wire (suc n) k h =
      list_any-append (is_same (numbered value (k + 1))) (all_numbered value n) (numbered value (suc n) ∷ [])
      ∙ last_among n k (omega (arith, h)) (λ l. is_wire n k l)

  -- one terminal

  input_read : (own : List ℕ) (found : Terminals) (s : List (List ℕ)) → is_name own ≡ true
      → Reads (input_terminal is_name is_same value enable count own found) (own ∷ s) found s
  unfolding input_terminal
  input_read own found s n = in_turn (this_read is_name is_same lang.itself own n) gives

  plain_read : (own : List ℕ) (place : ℕ) (done : List ℕ) (s : List (List ℕ)) → is_name own ≡ true
      → is_among is_same (all_numbered value count) own ≡ false →
      Reads (output_terminal is_name is_same value enable count own (terminals_of place done)) (own ∷ s)
      (terminals_of (place + 1) done) s
  unfolding output_terminal
  plain_read own place done s n free =
      in_turn (known_read is_name is_same lang.itself (is_driven_by is_name is_same value enable count own (length done)) own
      false n (rw (free, lang.itself own) refl)) gives

  driven_read : (own : List ℕ) (place : ℕ) (done : List ℕ) (s : List (List ℕ)) → length done < count →
      Reads (output_terminal is_name is_same value enable count own (terminals_of place done))
      (numbered value (length done + 1) ∷ s) (terminals_of (place + 1) (done ++ place ∷ [])) s
  unfolding output_terminal
  driven_read own place done s l =
      let x : List ℕ = numbered value (length done + 1) in
      in_turn (known_read is_name is_same lang.itself (is_driven_by is_name is_same value enable count own (length done)) x true
      (lang.value_is_name (length done + 1))
      (rw (is_wire count (length done) l, lang.itself x) refl)) gives

  -- terminals one behind the other

  abbrev IsPort : NumberedPort → Type 0
  IsPort = IsTerminal is_name is_same value count

  module _ (total : ℕ) where
    -- the terminals of these ports are read, behind others
    abbrev AreRead : List VPort → List NumberedPort → ℕ → List ℕ → List ℕ → List (List ℕ) → Type 0
    AreRead ports ats place done left s =
        Reads (more_terminals is_name is_same value enable count ports (terminals_of place done)) (each (next_tokens value) ats s)
        (terminals_of total (done ++ left)) s

    -- the terminal of a first port, and those of the others
    abbrev first_and_more : VPort → List VPort → Terminals → Grammar Terminals
    first_and_more port ports found =
        port_terminal is_name is_same value enable count port found >>= λ more. more_terminals is_name is_same value enable count
        ports more

    -- the same, whatever was read before them
    abbrev AllAreRead : List VPort → List NumberedPort → List (List ℕ) → Type 0
    AllAreRead ports ats s =
        (place number : ℕ) (left : List ℕ) → Numbered total place number left ports ats → (done : List ℕ) → length done ≡ number
        → length done + length left ≡ count →
        AreRead ports ats place done left s

    first_read : (place number : ℕ) (port : VPort) (ports : List VPort) (at : NumberedPort) (ats : List NumberedPort)
        (left : List ℕ) (s : List (List ℕ)) →
        Numbered total place number left (port ∷ ports) (at ∷ ats) → AllAreRead ports ats s → IsPort at → (done : List ℕ)
        → length done ≡ number → length done + length left ≡ count →
        Reads (first_and_more port ports (terminals_of place done))
        (terminal_by value at.port.name at.number ∷ each (next_tokens value) ats s) (terminals_of total (done ++ left)) s
    first_read place number port ports at ats left s (an_input _ e h) rest p done same long =
        in_turn (rw e (input_read port.name (terminals_of place done) (each (next_tokens value) ats s) p.name))
        (rest place number left h done same long)
    first_read place number port ports at ats left s (plain _ e h) rest p done same long =
        in_turn (rw e (plain_read port.name place done (each (next_tokens value) ats s) p.name (p.free e refl)))
        (rest (place + 1) number left h done same long)
    first_read place number port ports at ats (_ ∷ left) s (driven _ e h) rest p done same long =
        let grown : length (done ++ place ∷ []) ≡ length done + 1 = sym (one_longer done place) in
        let this : Reads (output_terminal is_name is_same value enable count port.name (terminals_of place done))
        (numbered value (number + 1) ∷ each (next_tokens value) ats s)
        (terminals_of (place + 1) (done ++ place ∷ [])) (each (next_tokens value) ats s) =
        from_same (ap (λ (n : ℕ). numbered value (n + 1) ∷ each (next_tokens value) ats s) (sym same))
        (driven_read port.name place done (each (next_tokens value) ats s) (omega (arith, long))) in
        in_turn (rw e this)
        (to_same (ap (terminals_of total) (append_assoc done (place ∷ []) left))
        (rest (place + 1) (number + 1) left h (done ++ place ∷ []) (omega (arith, grown, same)) (omega (arith, grown, long))))

    more_read : (ports : List VPort) (ats : List NumberedPort) (s : List (List ℕ)) → AllByRecursion IsPort ats
        → AllAreRead ports ats s
    more_read [] ats s all place number left at_end done same long =
        to_same (ap (terminals_of total) (sym (append-nil done))) gives
    more_read (port ∷ ports) [] s all place number left h done same long = elim h [ ]
    more_read (port ∷ ports) (at ∷ ats) s all place number left h done same long =
        in_turn (word_read is_name is_same lang.itself (codes ","))
        (first_read place number port ports at ats left s h (more_read ports ats s all.1) all.0 done same long)

    -- wires to enables

    enables_read : (n number : ℕ) (s : List (List ℕ))
        → Reads (more_enables is_name is_same value enable count true number n) (wire_list enable number n s) tt s
    enables_read zero number s = gives
    enables_read (suc n) number s =
        in_turn (word_read is_name is_same lang.itself (codes ","))
        (in_turn (this_read is_name is_same lang.itself (numbered enable number) (lang.enable_is_name number))
        (enables_read n (number + 1) s))

    none_read : (s : List (List ℕ)) → Stops (begins is_same (codes ",")) s
        → Reads (no_terminal is_name is_same value enable count) s tt s
    unfolding no_terminal
    none_read s stop = passed stop gives

    all_read : (port : VPort) (ports : List VPort) (at : NumberedPort) (ats : List NumberedPort) (drives : List ℕ)
        (s : List (List ℕ)) →
        Numbered total 0 0 drives (port ∷ ports) (at ∷ ats) → AllByRecursion IsPort (at ∷ ats) → length drives ≡ count
        → Stops (begins is_same (codes ",")) s →
        Reads (core_terminals is_name is_same value enable count (port ∷ ports))
        (terminal_by value at.port.name at.number ∷ each (next_tokens value) ats (wire_list enable 1 count s)) drives s
    unfolding core_terminals
    all_read port ports at ats drives s h all long stop =
        let none : 0 + length drives ≡ count = omega (arith, long) in
        in_turn (first_read 0 0 port ports at ats drives (wire_list enable 1 count s) h
        (more_read ports ats (wire_list enable 1 count s) all.1) all.0 [] refl none)
        (in_turn (rw (eq-eqb (length drives) count long) (enables_read count 1 s)) (in_turn (none_read s stop) gives))

-- Names before others are names behind others.

shifted : {A : Type 0} (f : A → List ℕ) (x : A) (xs : List A) (s : List (List ℕ)) →
    each (λ y s. f y ∷ codes "," ∷ s) (x ∷ xs) s ≡ f x ∷ each (λ y s. codes "," ∷ f y ∷ s) xs (codes "," ∷ s)
shifted f x [] s = refl
shifted f x (y ∷ xs) s = ap (λ l. f x ∷ codes "," ∷ l) (shifted f y xs s)

wires_shifted : (word : List ℕ) (n number : ℕ) (s : List (List ℕ)) →
    codes "," ∷ each name_tokens (names_from word number n) (numbered word (number + n) ∷ s) ≡ wire_list word number (suc n) s
wires_shifted word zero number s = let same : number + 0 ≡ number = omega arith in ap (λ k. codes "," ∷ numbered word k ∷ s) same
wires_shifted word (suc n) number s =
    let same : number + suc n ≡ number + 1 + n = omega arith in
    ap (λ k. codes "," ∷ numbered word number ∷ codes "," ∷ each name_tokens (names_from word (number + 1) n)
    (numbered word k ∷ s)) same
    ∙ ap (λ l. codes "," ∷ numbered word number ∷ l) (wires_shifted word n (number + 1) s)

-- the terminals of the core: what stands for each port, then the wires to enables
abbrev pub core_tokens : List ℕ → List ℕ → ℕ → List NumberedPort → Front
core_tokens value enable count ats s = each (terminal_tokens value) ats (wires_listed enable count s)

core_shifted : (value enable : List ℕ) (n : ℕ) (at : NumberedPort) (ats : List NumberedPort) (s : List (List ℕ)) →
    core_tokens value enable (suc n) (at ∷ ats) s ≡ terminal_by value at.port.name at.number ∷ each (next_tokens value) ats
    (wire_list enable 1 (suc n) s)
core_shifted value enable n at ats s =
    let same : suc n ≡ 1 + n = omega arith in
    shifted (λ (a : NumberedPort). terminal_by value a.port.name a.number) at ats (wires_listed enable (suc n) s)
    ∙ ap (λ l. terminal_by value at.port.name at.number ∷ each (next_tokens value) ats l)
    (ap (λ l. codes "," ∷ each name_tokens l (numbered enable (suc n) ∷ s)) (all_are enable n)
    ∙ ap (λ k. codes "," ∷ each name_tokens (names_from enable 1 n) (numbered enable k ∷ s)) same ∙ wires_shifted enable n 1 s)

module _ {is_name : List ℕ → Bool} {is_same : List ℕ → List ℕ → Bool} {value enable : List ℕ}
    (lang : IsDriverLanguage is_name is_same value enable) where
  -- the terminals of a driver's core, where at least one output is driven
  pub terminals_read : (total n : ℕ) (ports : List VPort) (ats : List NumberedPort) (drives : List ℕ) (s : List (List ℕ))
      → Numbered total 0 0 drives ports ats →
      AllByRecursion (IsTerminal is_name is_same value (suc n)) ats → length drives ≡ suc n → Stops (begins is_same (codes ",")) s
      →
      Reads (core_terminals is_name is_same value enable (suc n) ports) (core_tokens value enable (suc n) ats s) drives s
  terminals_read total n [] ats drives s at_end all long stop = absurd (omega (arith, long))
  terminals_read total n (port ∷ ports) [] drives s h all long stop = elim h [ ]
  terminals_read total n (port ∷ ports) (at ∷ ats) drives s h all long stop =
      from_same (core_shifted value enable n at ats s) (all_read lang (suc n) total port ports at ats drives s h all long stop)

-- Lists of names.

next_joined : (xs : List (List ℕ)) (last : List ℕ) (s : List (List ℕ)) →
    each (λ x q. codes "," ∷ x ∷ q) xs (codes "," ∷ last ∷ s) ≡ each (λ x q. codes "," ∷ x ∷ q) (xs ++ last ∷ []) s
next_joined [] last s = refl
next_joined (x ∷ xs) last s = ap (λ l. codes "," ∷ x ∷ l) (next_joined xs last s)

-- names before others, and a last one, are the first of them and others behind it
pub names_joined : (x : List ℕ) (xs : List (List ℕ)) (last : List ℕ) (s : List (List ℕ)) →
    each name_tokens (x ∷ xs) (last ∷ s) ≡ x ∷ each (λ y q. codes "," ∷ y ∷ q) (xs ++ last ∷ []) s
names_joined x xs last s = shifted (λ y. y) x xs (last ∷ s) ∙ ap (λ l. x ∷ l) (next_joined xs last s)
