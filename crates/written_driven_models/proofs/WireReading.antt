-- The declarations of the wires of a driver are read from their tokens.
use Rattle.std.proofs.Common.{◌≡◌, ℕ, zero, suc, ◌+◌, ◌<◌, Bool, true, nat_eq, List, [], ◌∷◌, ◌++◌, map, Some, refl, sym, ap}
use Rattle.std.proofs.Common.{subst, ◌∙◌, arith}
use Rattle.std.specs.List.{AllByRecursion, range_with_len}
use Rattle.std.proofs.lemmas.Bool.{and_right, lt-ltb, eq-eqb}
use Rattle.std.proofs.lemmas.List.FromFn.{map-range_with_len_more}
use Rattle.written_modules.specs.grammar_rules.Rule.{Stops}
use Rattle.written_modules.specs.grammar_rules.Rule as r
use Rattle.written_modules.specs.grammar_reader.Words.{Grammar, begins}
use Rattle.driver_models.specs.declared.wires.Wires.{Wires}
use Rattle.driver_models.specs.Terminals.{all_numbered}
use Rattle.driver_models.specs.Wires.{numbered, no_wires, next_wire, declared_wire, declared_wires}
use Rattle.written_modules.proofs.grammar_reader.Fronts.{Front, each}
use Rattle.written_modules.proofs.grammar_reader.Derivations.{Reads, from_same, gives, in_turn, no_turn, Turn, turn, turns}
use Rattle.written_modules.proofs.grammar_reader.Derivations.{goes_on}
use Rattle.written_driven_models.proofs.Languages.{IsDriverLanguage, word_read, word_begins, known_read, end_read}

-- a declaration: a word, a name, and the words behind it
abbrev pub wire_tokens : List ℕ → List (List ℕ) → List ℕ → Front
wire_tokens word tail x s = word ∷ x ∷ (tail ++ s)

-- the names of a word with the numbers from one on, so many
abbrev pub names_from : List ℕ → ℕ → ℕ → List (List ℕ)
names_from word i n = map (numbered word) (range_with_len i n)

pub all_are : (word : List ℕ) (n : ℕ) → all_numbered word n ≡ names_from word 1 n
all_are word zero = refl
all_are word (suc n) =
    let last : 1 + n ≡ suc n = omega arith in
    let long : n + 1 ≡ suc n = omega arith in
    ap (λ l. l ++ numbered word (suc n) ∷ []) (all_are word n) ∙ sym (map-range_with_len_more (numbered word) 1 n (suc n) last)
    ∙ ap (names_from word 1) long

all_with : {A : Type 0} (P : A → Type 0) (xs : List A) (x : A) → AllByRecursion P xs → P x → AllByRecursion P (xs ++ x ∷ [])
all_with P [] x h p = (p, tt)
all_with P (y ∷ xs) x h p = (h.0, all_with P xs x h.1 p)

-- what holds of the names of a word with each number holds of so many of them
pub all_named : (P : List ℕ → Type 0) (word : List ℕ) → ((n : ℕ) → P (numbered word n)) → (n : ℕ)
    → AllByRecursion P (all_numbered word n)
all_named P word h zero = tt
all_named P word h (suc n) = all_with P (all_numbered word n) (numbered word (suc n)) (all_named P word h n) (h (suc n))

module _ {is_name : List ℕ → Bool} {is_same : List ℕ → List ℕ → Bool} {value enable : List ℕ}
    (lang : IsDriverLanguage is_name is_same value enable)
    (word : List ℕ) (tail : List (List ℕ)) where
  abbrev wires_of : ℕ → ℕ → Wires
  wires_of n k = record { values = n; enables = k }

  abbrev declarations : Wires → Grammar Wires
  declarations found = r.Many (λ _. begins is_same word) (λ found _. declared_wire is_name is_same value enable tail found) found

  wire_read : (found more : Wires) (x : List ℕ) (s : List (List ℕ)) → is_name x ≡ true
      → next_wire is_name is_same value enable found x ≡ Some more →
      Reads (declared_wire is_name is_same value enable tail found) (x ∷ (tail ++ s)) more s
  unfolding declared_wire
  wire_read found more x s n e =
      in_turn (known_read is_name is_same lang.itself (next_wire is_name is_same value enable found) x more n e)
      (end_read is_name is_same lang.itself more tail s)

  wire_turn : (found more : Wires) (x : List ℕ) (s : List (List ℕ)) → is_name x ≡ true
      → next_wire is_name is_same value enable found x ≡ Some more →
      Turn (λ _. begins is_same word) (λ found _. declared_wire is_name is_same value enable tail found) found
      (wire_tokens word tail x s) more s
  wire_turn found more x s n e = turn (word_begins is_name is_same lang.itself word) (wire_read found more x s n e)

  next_value : (n : ℕ) → next_wire is_name is_same value enable (wires_of n 0) (numbered value (n + 1)) ≡ Some
      (wires_of (n + 1) 0)
  next_value n = rw (lang.itself (numbered value (n + 1))) refl

  next_enable : (n k : ℕ) → k < n → next_wire is_name is_same value enable (wires_of n k) (numbered enable (k + 1)) ≡ Some
      (wires_of n (k + 1))
  next_enable n k h =
      rw (
        and_right (nat_eq k 0) (is_same (numbered enable (k + 1)) (numbered value (n + 1))) (lang.apart (k + 1) (n + 1)),
        lt-ltb
            k n h,
        lang.itself (numbered enable (k + 1)),
      ) refl

  values_read : (n i : ℕ) (s left : List (List ℕ)) (v : Wires) → Reads (declarations (wires_of (i + n) 0)) s v left →
      Reads (declarations (wires_of i 0)) (each (wire_tokens word tail) (names_from value (i + 1) n) s) v left
  values_read zero i s left v h =
      let same : i + 0 ≡ i = omega arith in
      subst (λ (k : ℕ). Reads (declarations (wires_of k 0)) s v left) same h
  values_read (suc n) i s left v h =
      let same : i + suc n ≡ i + 1 + n = omega arith in
      turns (wire_turn (wires_of i 0) (wires_of (i + 1) 0) (numbered value (i + 1))
      (each (wire_tokens word tail) (names_from value (i + 1 + 1) n) s) (lang.value_is_name (i + 1)) (next_value i))
      (values_read n (i + 1) s left v (subst (λ (k : ℕ). Reads (declarations (wires_of k 0)) s v left) same h))

  enables_read : (n i count : ℕ) (s : List (List ℕ)) → i + n ≡ count → Stops (begins is_same word) s →
      Reads (declarations (wires_of count i)) (each (wire_tokens word tail) (names_from enable (i + 1) n) s)
      (wires_of count count) s
  enables_read zero i count s e stop =
      let same : i ≡ count = omega (arith, e) in
      subst (λ (k : ℕ). Reads (declarations (wires_of count i)) s (wires_of count k) s) same (no_turn stop)
  enables_read (suc n) i count s e stop =
      turns (wire_turn (wires_of count i) (wires_of count (i + 1)) (numbered enable (i + 1))
      (each (wire_tokens word tail) (names_from enable (i + 1 + 1) n) s) (lang.enable_is_name (i + 1))
      (next_enable count i (omega (arith, e)))) (enables_read n (i + 1) count s (omega (arith, e)) stop)

  all_read : (n : ℕ) (s : List (List ℕ)) → Stops (begins is_same word) s →
      Reads (declared_wires is_name is_same value enable word tail)
      (each (wire_tokens word tail) (names_from value 1 (suc n)) (each (wire_tokens word tail) (names_from enable 1 (suc n)) s))
      (suc n) s
  unfolding declared_wires
  all_read n s stop =
      let enables : List (List ℕ) = each (wire_tokens word tail) (names_from enable 1 (suc n)) s in
      let same : suc n ≡ 1 + n = omega arith in
      let more = subst (λ (k : ℕ). Reads (declarations (wires_of k 0)) enables (wires_of (suc n) (suc n)) s) same
      (enables_read (suc n) 0 (suc n) s (omega arith) stop) in
      in_turn (word_read is_name is_same lang.itself word)
      (in_turn (wire_read no_wires (wires_of 1 0) (numbered value 1) (each (wire_tokens word tail) (names_from value 2 n) enables)
      (lang.value_is_name 1) (next_value 0))
      (in_turn (values_read n 1 enables s (wires_of (suc n) (suc n)) more)
      (in_turn (goes_on (nat_eq (suc n) (suc n)) s (eq-eqb (suc n) (suc n) refl)) gives)))

  -- the declarations of so many wires to buffers' inputs, and of as many to enables
  pub wires_read : (n : ℕ) (s : List (List ℕ)) → Stops (begins is_same word) s →
      Reads (declared_wires is_name is_same value enable word tail)
      (each (wire_tokens word tail) (all_numbered value (suc n)) (each (wire_tokens word tail) (all_numbered enable (suc n)) s))
      (suc n) s
  wires_read n s stop =
      from_same (ap (λ l. each (wire_tokens word tail) l (each (wire_tokens word tail) (all_numbered enable (suc n)) s))
      (all_are value (suc n))
      ∙ ap (λ l. each (wire_tokens word tail) (names_from value 1 (suc n)) (each (wire_tokens word tail) l s))
      (all_are enable (suc n))) (all_read n s stop)
