-- Names that are added to a list with the same names as another.
use Rattle.std.proofs.Common.{◌≡◌, ◌<◌, ℕ, ◌+◌, Bool, true, false, ◌||◌, List, [], ◌∷◌, ◌++◌, take, get_or, length, Result, Ok}
use Rattle.std.proofs.Common.{Err, IfOk, OnOk, refl, sym, ap, subst, ◌∙◌, append_assoc}
use Rattle.std.specs.Str.{bytes_eq}
use Rattle.std.proofs.lemmas.List.{take_more, map-append}
use Rattle.std.proofs.lemmas.List.Folds.{list_any-append}
use Rattle.std.proofs.lemmas.Slice.Eq.{bytes_eq-Decides}
use Rattle.grammar_rules.specs.Reading.{Outcome, read}
use Rattle.grammar_reader.specs.declared.refusal.Refusal.{Refusal}
use Rattle.grammar_reader.specs.declared.refusal.Stop.{Stop}
use Rattle.grammar_reader.proofs.Tests.{there, not_there}
use Rattle.grammar_reader.specs.Next.{next_bytes}
use Rattle.grammar_reader.specs.Reading.{Reads}
use Rattle.verilog_tokens.specs.Tokens.{is_name}
use Rattle.udp_tables.specs.declared.models.VPort.{VPort}
use Rattle.udp_tables.specs.VerilogRules.{is_among, new_name}
use Rattle.verilog_grammar.specs.VerilogModules.{port_names}
use Rattle.verilog_grammar.specs.SameNames.{HaveSame}

-- a name that was there already changes nothing
pub same_kept : (names : List (List ℕ)) (name : List ℕ) → is_among names name ≡ true → HaveSame names (names ++ name ∷ [])
same_kept names name e = λ x. by_name x (bytes_eq x name) refl ∙ sym (list_any-append (bytes_eq x) names (name ∷ []))
  where
    by_name : (x : List ℕ) (b : Bool) → bytes_eq x name ≡ b → is_among names x ≡ (is_among names x || is_among (name ∷ []) x)
    by_name x true f = there (is_among names x) (is_among (name ∷ []) x) (ap (is_among names) ((bytes_eq-Decides x name).0 f) ∙ e)
    by_name x false f = not_there (is_among names x) (is_among (name ∷ []) x) (ap (λ b. b || false) f)

-- one name more behind lists with the same names
added_same : (old new others : List (List ℕ)) (name : List ℕ) → HaveSame new (old ++ name ∷ []) → HaveSame old others
    → HaveSame new (others ++ name ∷ [])
added_same old new others name e h = λ x.
    e x ∙ list_any-append (bytes_eq x) old (name ∷ []) ∙ ap (λ b. b || is_among (name ∷ []) x) (h x)
    ∙ sym (list_any-append (bytes_eq x) others (name ∷ []))

-- the names of one port more
pub more_ports : (old new : List (List ℕ)) (ports : List VPort) (i : ℕ) (port : VPort) → i < length ports
    → port ≡ get_or ports i port
    → HaveSame old (port_names (take i ports)) → HaveSame new (old ++ port.name ∷ [])
    → HaveSame new (port_names (take (i + 1) ports))
more_ports old new ports i port h e same a =
    let longer : take (i + 1) ports ≡ take i ports ++ port ∷ [] =
    take_more ports i port h ∙ ap (λ p. take i ports ++ p ∷ []) (sym e) in
    let named : port_names (take (i + 1) ports) ≡ port_names (take i ports) ++ port.name ∷ [] =
    ap port_names longer ∙ map-append _ (take i ports) (port ∷ []) in
    subst (HaveSame new) (sym named) (added_same old new (port_names (take i ports)) port.name a same)

abbrev name_of : Outcome (List ℕ) Refusal (List ℕ) → List ℕ
name_of (Ok p) = p.0
name_of (Err e) = []

name_fits : (x name : List ℕ) (s left : List (List ℕ)) → ◌≡◌ {A = Outcome (List ℕ) Refusal (List ℕ)} (Ok (x, s)) (Ok (name, left))
    → name ≡ x
name_fits x name s left e = sym (ap name_of e)

-- the name that was read is the next token, which was none of the names
name_read : (names s left : List (List ℕ)) (name : List ℕ) → read (new_name names) s ≡ Ok (name, left)
    → (name ≡ next_bytes s) × (is_among names (next_bytes s) ≡ false)
name_read names [] left name e = absurd cc
name_read names (x ∷ s) left name e = by_tests (is_name x) (is_among names x) refl refl e
  where
    by_tests : (named among : Bool) → is_name x ≡ named → is_among names x ≡ among
        → read (new_name names) (x ∷ s) ≡ Ok (name, left) → (name ≡ x) × (is_among names x ≡ false)
    by_tests false among e f g = absurd (let h = rw e at g in cc)
    by_tests true true e f g = absurd (let h = rw (e, f) at g in cc)
    by_tests true false e f g = (name_fits x name s left (rw (e, f) at g), f)

-- so the name of a wire is
pub wire_named : (others s left : List (List ℕ)) (r : Result (List ℕ) Stop) → Reads (read (new_name others) s) r left
    → IfOk r (λ name. name ≡ next_bytes s)
wire_named others s left (Ok name) reads = (name_read others s left name reads).0
wire_named others s left (Err stop) reads = tt

pub wire_fresh : (names others s left : List (List ℕ)) (r : Result (List ℕ) Stop) → HaveSame names others
    → Reads (read (new_name others) s) r left
    → IfOk r (λ _. is_among names (next_bytes s) ≡ false)
wire_fresh names others s left (Ok name) h reads = h (next_bytes s) ∙ (name_read others s left name reads).1
wire_fresh names others s left (Err stop) h reads = tt

-- it then stands behind all
pub wire_added : (names new ports wires more : List (List ℕ)) (token name : List ℕ) → HaveSame names (ports ++ wires)
    → new ≡ names ++ token ∷ []
    → more ≡ wires ++ name ∷ [] → name ≡ token → HaveSame new (ports ++ more)
wire_added names new ports wires more token name h en em et =
    let all : HaveSame (names ++ token ∷ []) ((ports ++ wires) ++ token ∷ []) =
    added_same names (names ++ token ∷ []) (ports ++ wires) token (λ x. refl) h in
    let longer : (ports ++ wires) ++ token ∷ [] ≡ ports ++ more =
    append_assoc ports wires (token ∷ []) ∙ ap (λ n. ports ++ (wires ++ n ∷ [])) (sym et) ∙ ap (λ ws. ports ++ ws) (sym em) in
    subst (λ ns. HaveSame ns (ports ++ more)) (sym en) (subst (HaveSame (names ++ token ∷ [])) longer all)

pub wire_added_where : (names new ports wires more : List (List ℕ)) (token name : List ℕ) (r : Result (Unit {0}) Stop)
    → HaveSame names (ports ++ wires) → name ≡ token
    → OnOk r (more ≡ wires ++ name ∷ []) → OnOk r (new ≡ names ++ token ∷ []) → OnOk r (HaveSame new (ports ++ more))
wire_added_where names new ports wires more token name (Ok done) h et em en =
    wire_added names new ports wires more token name h en em et
wire_added_where names new ports wires more token name (Err stop) h et em en = tt
