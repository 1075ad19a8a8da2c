-- Names of ports, at the next token.
use Rattle.std.proofs.Common.{◌≡◌, ℕ, ◌+◌, true, false, slice_set, List, [], ◌∷◌, ◌++◌, Option, Some, None, Result, Ok, Err, OnOk}
use Rattle.std.proofs.Common.{refl, sym, ap, subst, ◌∙◌}
use Rattle.std.proofs.lemmas.List.{map-append}
use Rattle.grammar_reader.specs.declared.refusal.Stop.{Stop}
use Rattle.grammar_rules.specs.Reading.{Outcome, choose, read}
use Rattle.grammar_reader.specs.declared.refusal.Refusal.{Refusal}
use Rattle.grammar_reader.specs.declared.refusal.Refusal.TheVariants.{Undefined}
use Rattle.grammar_reader.specs.Next.{next_bytes, rest}
use Rattle.verilog_tokens.specs.Tokens.{is_name}
use Rattle.udp_tables.specs.declared.models.VPort.{VPort}
use Rattle.udp_tables.specs.VerilogRules.{known}
use Rattle.verilog_udp_reader.proofs.Words as words
use Rattle.verilog_grammar.specs.VerilogModules.{Inputs, with_input, first_port, port_names}

-- a header has a port, where a name is next, and else none
pub choose_port : {B : Type 0} (s : List (List ℕ)) (go : List ℕ → List (List ℕ) → Outcome (List ℕ) Refusal B)
    (other : Outcome (List ℕ) Refusal B) →
    is_name (next_bytes s) ≡ true → choose first_port s go other ≡ go (next_bytes s) (rest s)
choose_port [] go other e = absurd cc
choose_port (x ∷ s) go other e = rw e refl

pub choose_no_port : {B : Type 0} (s : List (List ℕ)) (go : List ℕ → List (List ℕ) → Outcome (List ℕ) Refusal B)
    (other : Outcome (List ℕ) Refusal B) →
    is_name (next_bytes s) ≡ false → choose first_port s go other ≡ other
choose_no_port [] go other e = refl
choose_no_port (x ∷ s) go other e = rw e refl

-- the next token, where its bytes are at hand, and stand for no value or for one
module _ {A : Type 0} (find : List ℕ → Option A) (x : List ℕ) (s : List (List ℕ)) where
  pub known_none : x ≡ next_bytes s → is_name x ≡ true → find x ≡ None → read (known find) s ≡ Err (Undefined, s)
  known_none e n f = words.known_none find s (subst (λ y. is_name y ≡ true) e n) (subst (λ y. find y ≡ None) e f)

  pub known_some : (a : A) → x ≡ next_bytes s → is_name x ≡ true → find x ≡ Some a → read (known find) s ≡ Ok (a, rest s)
  known_some a e n f = words.known_some find s a (subst (λ y. is_name y ≡ true) e n) (subst (λ y. find y ≡ Some a) e f)

abbrev ok_inputs : Inputs → List (List ℕ) → Outcome (List ℕ) Refusal Inputs
ok_inputs found left = Ok (found, left)

-- the ports with one that becomes an input
pub input_found : (x name : List ℕ) (ports more : List VPort) (p : ℕ) (left behind : List (List ℕ)) →
    name ≡ x → more ≡ slice_set ports p (record { name = name; input = true }) → left ≡ behind →
    ok_inputs (with_input x ports p) behind ≡ ok_inputs (record { ports = more; behind = p + 1 }) left
input_found x name ports more p left behind e f g = cc

-- the names of ports with one more
pub ports_named : (names new : List (List ℕ)) (ports more : List VPort) (port : VPort) (x : List ℕ) (r : Result (Unit {0}) Stop)
    → names ≡ port_names ports → port.name ≡ x
    → OnOk r (more ≡ ports ++ port ∷ []) → OnOk r (new ≡ names ++ x ∷ []) → OnOk r (new ≡ port_names more)
ports_named names new ports more port x (Ok done) e f em en =
    en ∙ ap (λ (ns : List (List ℕ)). ns ++ x ∷ []) e ∙ ap (λ (n : List ℕ). port_names ports ++ n ∷ []) (sym f)
    ∙ sym (map-append _ ports (port ∷ [])) ∙ sym (ap port_names em)
ports_named names new ports more port x (Err stop) e f em en = tt
