-- Of drivers that are read the driven outputs are outputs and ascend, and paths begin at inputs, in any language.
use Rattle.std.proofs.Common.{◌≡◌, ℕ, ◌+◌, ◌<◌, ◌≤◌, Bool, true, false, not, nat_lt, cond, if◌then◌else◌, IsTrue, List, []}
use Rattle.std.proofs.Common.{◌∷◌, ◌++◌, length, nat_eq, slice_get, Option, Some, None, refl, ap, ◌∙◌, arith}
use Rattle.std.specs.Prelude.{All, is_some}
use Rattle.std.specs.List.{AllByRecursion}
use Rattle.std.specs.Option.{option_map_or}
use Rattle.std.proofs.lemmas.Bool.{and_from, and_parts, lt-ltb}
use Rattle.std.proofs.lemmas.List.Sums.{sum_by-cons}
use Rattle.std.proofs.lemmas.List.Elements.{All-push}
use Rattle.std.proofs.lemmas.List.Elements.{All-head, All-tail}
use Rattle.std.proofs.lemmas.Option.{slice_get_within}
use Rattle.grammar_rules.specs.Rule as r
use Rattle.grammar_rules.proofs.Promises.{Promises, token, gives, in_turn, keeps}
use Rattle.grammar_reader.specs.declared.refusal.Refusal.TheVariants.{Syntax, Undefined}
use Rattle.grammar_reader.specs.Words.{Grammar, allowed_by, known}
use Rattle.grammar_reader.proofs.Passing.{fits_if, fits_allowed, IsFound}
use Rattle.udp_tables.specs.declared.models.VPort.{VPort}
use Rattle.cell_machine.specs.CellRules.{is_ascending}
use Rattle.driver_models.specs.declared.terminals.Terminals.{Terminals}
use Rattle.driver_models.specs.Models.{input_count, output_count}
use Rattle.driver_models.specs.Terminals.{no_terminals, with_output, output_terminal, input_terminal, port_terminal, terminal_by}
use Rattle.driver_models.specs.Terminals.{more_terminals, port_terminals, core_terminals}
use Rattle.driver_models.specs.PathEnds.{input_from}
use Rattle.driver_texts.specs.NumberedPorts.{port_number, outputs_with, driven_with, numbered_ports, driven_names}

-- nothing is asked of a token
abbrev pub AnyToken : List ℕ → Type 0
AnyToken x = Unit {0}

pub all_tokens : (s : List (List ℕ)) → AllByRecursion AnyToken s
all_tokens [] = tt
all_tokens (x ∷ s) = (tt, all_tokens s)

-- behind a part of which nothing is said
pub behind : {A B : Type 0} {p : Grammar A} {g : A → Grammar B} {Q : B → Type 0} → ((a : A) → Promises AnyToken (g a) Q)
    → Promises AnyToken (r.Then p g) Q
behind {p = p} more = in_turn (keeps AnyToken p) (λ a _. more a)

-- what two promises say
pub both : {A : Type 0} {p : Grammar A} {Q R S : A → Type 0} → Promises AnyToken p Q → Promises AnyToken p R
    → ((a : A) → Q a → R a → S a) → Promises AnyToken p S
both g h f = record {
  kept = λ s a left all t.
      let k = g.kept s a left all t in
      let l = h.kept s a left all t in
      (f a k.0 l.0, k.1);
}

-- a name stands for a value that is found of it
pub known_values : {A : Type 0} (is_name : List ℕ → Bool) (find : List ℕ → Option A)
    → Promises AnyToken (known is_name find) (IsFound find)
known_values is_name find = token (λ x a p e.
    let n = fits_if (is_name x) (allowed_by Undefined (find x)) Syntax a e in
    (x, fits_allowed Undefined (find x) a n.1))

-- The places of driven outputs.

-- a place behind all others
push_place : (xs : List ℕ) (n : ℕ) → IsTrue (is_ascending xs) → All (λ p. p < n) xs → IsTrue (is_ascending (xs ++ n ∷ []))
push_place [] n h below = refl
push_place (x ∷ []) n h below = and_from (nat_lt x n) true (lt-ltb x n (All-head (λ p. p < n) x [] below)) refl
push_place (x ∷ y ∷ ys) n h below =
    let parts = and_parts (nat_lt x y) (is_ascending (y ∷ ys)) h in
    and_from (nat_lt x y) (is_ascending (y ∷ (ys ++ n ∷ []))) parts.0
    (push_place (y ∷ ys) n parts.1 (All-tail (λ p. p < n) x (y ∷ ys) below))

-- the terminals that were read are those of outputs, before these ports
record AreGood (total : ℕ) (ports : List VPort) (found : Terminals) : Type 0 where
  ascending : IsTrue (is_ascending found.drives)
  below : All (λ p. p < found.outputs) found.drives
  left : found.outputs + output_count ports ≡ total

-- how many outputs and inputs there are with one port more
output_more : (port : VPort) (ports : List VPort) → port.input ≡ false → output_count (port ∷ ports) ≡ 1 + output_count ports
output_more port ports e =
    sum_by-cons (λ (x : VPort). cond (not x.input) 1 0) port ports ∙ ap (λ (b : Bool). cond (not b) 1 0 + output_count ports) e

output_same : (port : VPort) (ports : List VPort) → port.input ≡ true → output_count (port ∷ ports) ≡ 0 + output_count ports
output_same port ports e =
    sum_by-cons (λ (x : VPort). cond (not x.input) 1 0) port ports ∙ ap (λ (b : Bool). cond (not b) 1 0 + output_count ports) e

input_more : (port : VPort) (ports : List VPort) → port.input ≡ true → input_count (port ∷ ports) ≡ 1 + input_count ports
input_more port ports e =
    sum_by-cons (λ (x : VPort). cond x.input 1 0) port ports ∙ ap (λ (b : Bool). cond b 1 0 + input_count ports) e

input_same : (port : VPort) (ports : List VPort) → port.input ≡ false → input_count (port ∷ ports) ≡ 0 + input_count ports
input_same port ports e =
    sum_by-cons (λ (x : VPort). cond x.input 1 0) port ports ∙ ap (λ (b : Bool). cond b 1 0 + input_count ports) e

with_good : (total : ℕ) (port : VPort) (ports : List VPort) (found : Terminals) (driven : Bool) → port.input ≡ false
    → AreGood total (port ∷ ports) found → AreGood total ports (with_output found driven)
with_good total port ports found true e h =
    let more : All (λ p. p < found.outputs + 1) found.drives = λ k d l. let one = h.below k d l in omega (arith, one) in
    let own : found.outputs < found.outputs + 1 = omega arith in
    let counted : output_count (port ∷ ports) ≡ 1 + output_count ports = output_more port ports e in
    let left : found.outputs + output_count (port ∷ ports) ≡ total = h.left in
    record {
      ascending = push_place found.drives found.outputs h.ascending h.below;
      below = All-push (λ p. p < found.outputs + 1) found.drives found.outputs more own;
      left = omega (arith, counted, left);
    }
with_good total port ports found false e h =
    let counted : output_count (port ∷ ports) ≡ 1 + output_count ports = output_more port ports e in
    let left : found.outputs + output_count (port ∷ ports) ≡ total = h.left in
    record {
      ascending = h.ascending;
      below = λ k d l. let one = h.below k d l in omega (arith, one);
      left = omega (arith, counted, left);
    }

-- places of outputs, ascending
pub record AreDrives (outputs : ℕ) (drives : List ℕ) : Type 0 where
  pub ascending : IsTrue (is_ascending drives)
  pub below : All (λ p. p < outputs) drives

drives_of : (total : ℕ) (found : Terminals) → AreGood total [] found → AreDrives total found.drives
drives_of total found h =
    let none : output_count [] ≡ 0 = refl in
    let all : found.outputs + output_count [] ≡ total = h.left in
    record { ascending = h.ascending; below = λ k d l. let one = h.below k d l in omega (arith, one, all, none) }

module _ (is_name : List ℕ → Bool) (is_same : List ℕ → List ℕ → Bool) (value enable : List ℕ) (count : ℕ) where
  one_terminal : (total : ℕ) (port : VPort) (ports : List VPort) (found : Terminals) → AreGood total (port ∷ ports) found
      → Promises AnyToken (port_terminal is_name is_same value enable count port found) (AreGood total ports)
  unfolding input_terminal output_terminal
  one_terminal total port ports found h = by port.input refl
    where
      by : (b : Bool) → port.input ≡ b
          → Promises AnyToken (terminal_by is_name is_same value enable count b port.name found) (AreGood total ports)
      by true e =
          let counted : output_count (port ∷ ports) ≡ 0 + output_count ports = output_same port ports e in
          let left : found.outputs + output_count (port ∷ ports) ≡ total = h.left in
          behind (λ a. gives (record { ascending = h.ascending; below = h.below; left = omega (arith, counted, left) }))
      by false e = behind (λ driven. gives (with_good total port ports found driven e h))

  others : (total : ℕ) (ports : List VPort) (found : Terminals) → AreGood total ports found
      → Promises AnyToken (more_terminals is_name is_same value enable count ports found) (AreGood total [])
  others total [] found h = gives h
  others total (port ∷ ports) found h =
      behind (λ a. in_turn (one_terminal total port ports found h) (λ more good. others total ports more good))

  none_good : (ports : List VPort) → AreGood (output_count ports) ports no_terminals
  none_good ports = record { ascending = refl; below = λ k d l. absurd (omega arith); left = omega arith }

  all_terminals : (ports : List VPort)
      → Promises AnyToken (port_terminals is_name is_same value enable count ports) (AreGood (output_count ports) [])
  all_terminals [] = gives (none_good [])
  all_terminals (port ∷ ports) =
      in_turn (one_terminal (output_count (port ∷ ports)) port ports no_terminals (none_good (port ∷ ports)))
      (λ first good. others (output_count (port ∷ ports)) ports first good)

  pub terminals : (ports : List VPort)
      → Promises AnyToken (core_terminals is_name is_same value enable count ports) (AreDrives (output_count ports))
  unfolding core_terminals
  terminals ports =
      in_turn (all_terminals ports) (λ found good. behind (λ a. behind (λ b. gives (drives_of (output_count ports) found good))))

-- The starts of paths.

pub input_within : (is_same : List ℕ → List ℕ → Bool) (n : ℕ) (ports : List VPort) (x : List ℕ) (k : ℕ)
    → input_from is_same n ports x ≡ Some k → k < n + input_count ports
input_within is_same n [] x k e = absurd cc
input_within is_same n (port ∷ ports) x k e =
    by port.input (is_same x port.name) refl (λ m f. input_within is_same m ports x k f) e
  where
    by : (a b : Bool) → port.input ≡ a → ((m : ℕ) → input_from is_same m ports x ≡ Some k → k < m + input_count ports)
        → (if a then (if b then Some n else input_from is_same (n + 1) ports x) else input_from is_same n ports x) ≡ Some k
        → k < n + input_count (port ∷ ports)
    by true true i again e =
        let same : n ≡ k = cc in
        let counted : input_count (port ∷ ports) ≡ 1 + input_count ports = input_more port ports i in
        omega (arith, same, counted)
    by true false i again e =
        let more = again (n + 1) e in
        let counted : input_count (port ∷ ports) ≡ 1 + input_count ports = input_more port ports i in
        omega (arith, more, counted)
    by false b i again e =
        let more = again n e in
        let counted : input_count (port ∷ ports) ≡ 0 + input_count ports = input_same port ports i in
        omega (arith, more, counted)

-- The names of driven outputs.

-- the number of a port that is driven is the next one, and that of a driven output
number_within : (drives : List ℕ) (place number : ℕ) (port : VPort) (own : ℕ) → port_number drives place number port ≡ Some own
    → (own ≡ number + 1) × (number < length drives)
number_within drives place number port own e = by port.input (slice_get drives number) refl e
  where
    at : (b : Bool) (p : ℕ) → slice_get drives number ≡ Some p → (if b then Some (number + 1) else None) ≡ Some own
        → (own ≡ number + 1) × (number < length drives)
    at true p f e = (cc, slice_get_within drives number p f)
    at false p f e = absurd cc

    by : (a : Bool) (o : Option ℕ) → slice_get drives number ≡ o
        → (if a then None else (if option_map_or (nat_eq place) o false then Some (number + 1) else None)) ≡ Some own
        → (own ≡ number + 1) × (number < length drives)
    by true o f e = absurd cc
    by false None f e = absurd cc
    by false (Some p) f e = at (nat_eq place p) p f e

-- no more outputs are named than are driven
pub names_within : (drives : List ℕ) (place number : ℕ) (ports : List VPort) → number ≤ length drives
    → number + length (driven_names (numbered_ports drives place number ports)) ≤ length drives
names_within drives place number [] h = omega (arith, h)
names_within drives place number (port ∷ ports) h =
    one_more (port_number drives place number port) (λ own e. number_within drives place number port own e)
    (λ n g. names_within drives (outputs_with place port) n ports g)
  where
    one_more : (o : Option ℕ) → ((own : ℕ) → o ≡ Some own → (own ≡ number + 1) × (number < length drives))
        → ((n : ℕ) → n ≤ length drives → n + length (driven_names (numbered_ports drives (outputs_with place port) n ports))
        ≤ length drives)
        → number + length (if is_some o
        then port.name ∷ driven_names (numbered_ports drives (outputs_with place port) (driven_with number o) ports)
        else driven_names (numbered_ports drives (outputs_with place port) (driven_with number o) ports)) ≤ length drives
    one_more None next more = more number h
    one_more (Some own) next more =
        let n = next own refl in
        let same = n.0 in
        let below = n.1 in
        let rest = more own (omega (arith, same, below)) in
        omega (arith, same, rest)
