-- The declarations of a written module are read from their tokens.
use Rattle.std.proofs.Common.{◌≡◌, ℕ, Bool, true, false, not, List, [], ◌∷◌, ◌++◌, Option, Some, None, refl, sym, ap, ◌∙◌, subst}
use Rattle.std.proofs.Common.{codes, append_assoc}
use Rattle.std.specs.List.{AllByRecursion}
use Rattle.std.specs.Str.{bytes_eq}
use Rattle.grammar_rules.specs.Rule.{Stops}
use Rattle.udp_tables.specs.declared.models.VPort.{VPort}
use Rattle.udp_tables.specs.VerilogRules.{begins}
use Rattle.verilog_grammar.specs.VerilogModules.{port_names, declared_wire, declared_wires, declared_notifier, notifier}
use Rattle.verilog_grammar.specs.VerilogModules.{declarations}
use Rattle.verilog_grammar.specs.specify_blocks.declared.model.VModule.{VModule}
use Rattle.verilog_grammar.specs.WellFormed.{IsName, AreApart, register_names}
use Rattle.grammar_reader.proofs.Fronts.{Front, each}
use Rattle.written_modules.proofs.PrimitiveTokens.{declared}
use Rattle.written_modules.proofs.ModuleTokens.{IsNamedPort, IsNamed, listed, declared_where, output_tokens, register_tokens}
use Rattle.written_modules.proofs.ModuleTokens.{declaration_tokens}
use Rattle.grammar_reader.proofs.Derivations.{Reads, gives, in_turn, chosen, passed, Turn, turn, through}
use Rattle.written_modules.proofs.NameReading.{expected, newly_named, is_new}
use Rattle.grammar_reader.proofs.ItemPlaces.{at_place}
use Rattle.written_modules.proofs.PortReading.{ArePorts, header_read, inputs_read, outputs_read}

-- Other tokens than a word.

-- the next token, if there is one, is not this word
abbrev pub Other : List ℕ → List (List ℕ) → Type 0
Other w [] = Unit {0}
Other w (x ∷ s) = bytes_eq x w ≡ false

pub stops : (w : List ℕ) (s : List (List ℕ)) → Other w s → Stops (begins w) s
stops w [] h = tt
stops w (x ∷ s) h = rw h refl

pub each_other : {A : Type 0} (w : List ℕ) (f : A → Front) → ((x : A) (s : List (List ℕ)) → Other w s → Other w (f x s))
    → (xs : List A) (s : List (List ℕ)) → Other w s → Other w (each f xs s)
each_other w f h [] s o = o
each_other w f h (x ∷ xs) s o = h x (each f xs s) (each_other w f h xs s o)

register_other : (w : List ℕ) (n : Option (List ℕ)) (s : List (List ℕ)) → bytes_eq (codes "reg") w ≡ false → Other w s
    → Other w (register_tokens n s)
register_other w None s e o = o
register_other w (Some x) s e o = e

pub where_other : (w word x : List ℕ) (b : Bool) (s : List (List ℕ)) → bytes_eq word w ≡ false → Other w s
    → Other w (declared_where b word x s)
where_other w word x true s e o = e
where_other w word x false s e o = o

-- none of the words of declarations follows
pub record EndsDeclarations (s : List (List ℕ)) : Type 0 where
  pub input : Other (codes "input") s
  pub output : Other (codes "output") s
  pub wire : Other (codes "wire") s
  pub reg : Other (codes "reg") s

-- Wires and the register.

-- the names that a module declares
pub record AreDeclared (m : VModule) : Type 0 where
  pub ports : AllByRecursion IsNamedPort m.ports
  pub wires : AllByRecursion IsName m.wires
  pub register : IsNamed m.notifier
  pub apart : AreApart (port_names m.ports ++ (m.wires ++ register_names m.notifier))

wire_turn : (ports : List VPort) (wires others : List (List ℕ)) → AllByRecursion IsName wires
    → AreApart (port_names ports ++ (wires ++ others))
    → (before : List (List ℕ)) (x : List ℕ) (after s : List (List ℕ)) → before ++ x ∷ after ≡ wires
    → Turn (λ _. begins (codes "wire")) (λ wires _. declared_wire ports wires) before (declared (codes "wire") x s)
    (before ++ x ∷ []) s
unfolding declared_wire
wire_turn ports wires others named apart before x after s same =
    let split : port_names ports ++ (wires ++ others) ≡ (port_names ports ++ before) ++ x ∷ (after ++ others) =
    ap (λ (l : List (List ℕ)). port_names ports ++ (l ++ others)) (sym same)
    ∙ ap (λ (l : List (List ℕ)). port_names ports ++ l) (append_assoc before (x ∷ after) others)
    ∙ sym (append_assoc (port_names ports) before (x ∷ (after ++ others))) in
    turn refl (in_turn (newly_named (port_names ports ++ before)
    (at_place IsName before x after (subst (AllByRecursion IsName) (sym same) named))
    (is_new (port_names ports ++ before) x (after ++ others) (subst AreApart split apart))) (in_turn expected gives))

wires_read : (ports : List VPort) (wires others s : List (List ℕ)) → AllByRecursion IsName wires
    → AreApart (port_names ports ++ (wires ++ others)) → Stops (begins (codes "wire")) s
    → Reads (declared_wires ports) (each (declared (codes "wire")) wires s) wires s
unfolding declared_wires
wires_read ports wires others s named apart stop =
    through (λ (l : List (List ℕ)). l) (declared (codes "wire")) [] wires (wire_turn ports wires others named apart) s stop

register_read : (ports : List VPort) (wires : List (List ℕ)) (n : Option (List ℕ)) (s : List (List ℕ)) → IsNamed n
    → AreApart (port_names ports ++ (wires ++ register_names n)) → Other (codes "reg") s
    → Reads (notifier ports wires) (register_tokens n s) n s
unfolding notifier declared_notifier
register_read ports wires None s h apart o = passed (stops (codes "reg") s o) gives
register_read ports wires (Some x) s h apart o =
    chosen refl (in_turn (newly_named (port_names ports ++ wires) h
    (is_new (port_names ports ++ wires) x [] (subst AreApart (sym (append_assoc (port_names ports) wires (x ∷ []))) apart)))
    (in_turn expected gives))

-- All declarations.

-- a module without instances
abbrev pub bare : VModule → VModule
bare m = record m { instances = []; paths = []; checks = [] }

pub declarations_read : (m : VModule) (s : List (List ℕ)) → AreDeclared m → EndsDeclarations s
    → Reads (declarations m.name m.udps) (codes "(" ∷ listed m.ports (codes ")" ∷ codes ";" ∷ declaration_tokens m s)) (bare m) s
unfolding declarations
declarations_read m s h e =
    let others : List (List ℕ) = m.wires ++ register_names m.notifier in
    let ports : ArePorts m.ports others = record { named = h.ports; apart = h.apart } in
    let registers : List (List ℕ) = register_tokens m.notifier s in
    let wires : List (List ℕ) = each (declared (codes "wire")) m.wires registers in
    let outputs : List (List ℕ) = each output_tokens m.ports wires in
    let no_wire : Other (codes "wire") registers = register_other (codes "wire") m.notifier s refl e.wire in
    let no_output : Other (codes "output") wires =
    each_other (codes "output") (declared (codes "wire")) (λ x s o. refl) m.wires registers
    (register_other (codes "output") m.notifier s refl e.output) in
    let no_input : Other (codes "input") outputs =
    each_other (codes "input") output_tokens
    (λ port s o. where_other (codes "input") (codes "output") port.name (not port.input) s refl o) m.ports wires
    (each_other (codes "input") (declared (codes "wire")) (λ x s o. refl) m.wires registers
    (register_other (codes "input") m.notifier s refl e.input)) in
    let found = inputs_read m.ports others outputs ports (stops (codes "input") outputs no_input) in
    in_turn (header_read m.ports others (declaration_tokens m s) ports)
    (in_turn found.1 (in_turn (outputs_read m.ports wires h.ports (stops (codes "output") wires no_output))
    (in_turn (wires_read m.ports m.wires (register_names m.notifier) registers h.wires h.apart
    (stops (codes "wire") registers no_wire))
    (in_turn (register_read m.ports m.wires m.notifier s h.register h.apart e.reg) gives))))
