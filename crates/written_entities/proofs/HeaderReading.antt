-- The header of a written entity: its tokens and their reading.
use Rattle.std.proofs.Common.{◌≡◌, ℕ, ◌+◌, Bool, true, false, nat_eq, nat_lt, if◌then◌else◌, List, [], ◌∷◌, ◌++◌, length, Some}
use Rattle.std.proofs.Common.{refl, sym, ap, ◌∙◌, arith, subst, codes}
use Rattle.std.specs.List.{AllByRecursion, list_all, list_any}
use Rattle.std.specs.Char.{is_ascii_alphabetic, is_ascii_alphanumeric}
use Rattle.std.proofs.lemmas.Bool.{and_parts}
use Rattle.std.proofs.lemmas.Bool.Decides.{nat_tests}
use Rattle.std.proofs.lemmas.List.{map-append}
use Rattle.std.proofs.lemmas.List.Elements.{recursion_from_All}
use Rattle.udp_tables.specs.declared.models.VPort.{VPort}
use Rattle.vital_models.specs.declared.model.VEntity.{VEntity}
use Rattle.grammar_reader.specs.Words.{valued}
use Rattle.vhdl_tokens.specs.Words.{is_reserved, is_used, vhdl_words, used_words}
use Rattle.vhdl_tokens.specs.Kept.{is_plain}
use Rattle.vhdl_grammar.specs.VhdlRules.{is_among}
use Rattle.vhdl_grammar.specs.VhdlDeclarations.{packages, name_of_port, port_names, has_underscore, is_input_word, next_port}
use Rattle.vhdl_grammar.specs.VhdlDeclarations.{port_list, ports_of, entity_header, architecture_header}
use Rattle.vhdl_grammar.specs.WellFormed.{IsPortName, AreApart, IsWellFormedEntity}
use Rattle.vhdl_writer.specs.Declarations.{direction_text, port_text, some_ports_text, ports_text, header_text}
use Rattle.grammar_reader.proofs.Fronts.{Front, Anything}
use Rattle.grammar_reader.proofs.Derivations.{Reads, gives, token, in_turn, chosen, passed, no_turn, turn, turns}
use Rattle.grammar_reader.proofs.ItemPlaces.{at_place}
use Rattle.grammar_reader.proofs.Spelling.{literal, joins, behind, nothing}
use Rattle.written_entities.proofs.Names.{IsNamed, entity_named, port_named}
use Rattle.written_entities.proofs.Spelling.{Spells, SpellsOutside, outside}
use Rattle.written_entities.proofs.Words.{Ends, word, name}
use Rattle.written_entities.proofs.NameReading.{expected, two_expected, three_expected, seven_expected, so_named, is_new}
use Rattle.written_entities.proofs.Counting.{counted, apart_front, apart_spelled, over}
use Rattle.written_entities.proofs.Parts.{shown}
use Rattle.written_entities.proofs.Tests.{some_items}
use Rattle.written_entities.proofs.Elements.{call_end}

-- Tokens.

abbrev pub direction_word : Bool → List ℕ
direction_word true = codes "in"
direction_word false = codes "out"

abbrev pub port_front : ℕ → VPort → Front
port_front n port s = port.name ∷ codes ":" ∷ direction_word port.input ∷ codes "std_ulogic" ∷ s

abbrev pub ports_front : List VPort → Front
ports_front [] s = s
ports_front (port ∷ ports) s = codes "port" ∷ codes
    "(" ∷ apart_front (λ q. codes ";" ∷ q) port_front (port ∷ ports) (codes ")" ∷ codes ";" ∷ s)

-- the tokens behind "library" up to the entity's name, and those behind it
abbrev pub package_front : Front
package_front s =
    codes "IEEE" ∷ codes ";" ∷ codes "use" ∷ codes "IEEE" ∷ codes "." ∷ codes "std_logic_1164" ∷ codes "." ∷ codes "all" ∷ codes
    ";"
    ∷ codes "use" ∷ codes "IEEE" ∷ codes "." ∷ codes "VITAL_Timing" ∷ codes "." ∷ codes "all" ∷ codes ";"
    ∷ codes "use" ∷ codes "IEEE" ∷ codes "." ∷ codes "VITAL_Primitives" ∷ codes "." ∷ codes "all" ∷ codes ";" ∷ s

abbrev pub entity_front : VEntity → Front
entity_front e s = codes "is" ∷ ports_front e.ports (codes "end" ∷ e.name ∷ codes ";" ∷ s)

abbrev pub architecture_front : VEntity → Front
architecture_front e s = codes "architecture" ∷ codes "vital" ∷ codes "of" ∷ e.name ∷ codes "is" ∷ s

packages_word : {t : Bool} → SpellsOutside Anything t
    (codes "library IEEE;\nuse IEEE.std_logic_1164.all;\nuse IEEE.VITAL_Timing.all;\nuse IEEE.VITAL_Primitives.all;\nentity ")
    (λ s. codes "library" ∷ codes "IEEE" ∷ codes ";" ∷ codes "use" ∷ codes "IEEE" ∷ codes "." ∷ codes "std_logic_1164" ∷ codes "."
    ∷ codes "all" ∷ codes ";" ∷ codes "use" ∷ codes "IEEE" ∷ codes "." ∷ codes "VITAL_Timing" ∷ codes "." ∷ codes "all" ∷ codes
    ";" ∷ codes "use" ∷ codes "IEEE" ∷ codes "." ∷ codes "VITAL_Primitives" ∷ codes "." ∷ codes "all" ∷ codes ";" ∷ codes "entity"
    ∷ s) false
unfolding is_reserved is_used vhdl_words used_words
packages_word = literal (λ r. refl) refl

pub is_word : {t : Bool} → Spells Anything t (codes " is\n") (λ s. codes "is" ∷ s) false
unfolding is_reserved is_used vhdl_words used_words
is_word = literal (λ r. refl) refl

end_word : {t : Bool} → SpellsOutside Anything t (codes "end ") (λ s. codes "end" ∷ s) false
unfolding is_reserved is_used vhdl_words used_words
end_word = literal (λ r. refl) refl

architecture_word : {t : Bool} → SpellsOutside Anything t (codes ";\narchitecture vital of ")
    (λ s. codes ";" ∷ codes "architecture" ∷ codes "vital" ∷ codes "of" ∷ s) false
unfolding is_reserved is_used vhdl_words used_words
architecture_word = literal (λ r. refl) refl

ports_word : {t : Bool} → Spells Anything t (codes "  port (") (λ s. codes "port" ∷ codes "(" ∷ s) false
ports_word = literal (λ r. refl) refl

semicolon : {t : Bool} → Spells Anything t (codes "; ") (λ s. codes ";" ∷ s) false
semicolon = literal (λ r. refl) refl

in_word : {t : Bool} → Spells Anything t (codes " : in ") (λ s. codes ":" ∷ codes "in" ∷ s) false
unfolding is_reserved is_used vhdl_words used_words
in_word = literal (λ r. refl) refl

out_word : {t : Bool} → Spells Anything t (codes " : out ") (λ s. codes ":" ∷ codes "out" ∷ s) false
unfolding is_reserved is_used vhdl_words used_words
out_word = literal (λ r. refl) refl

standard : {t : Bool} → Spells Ends t (codes "std_ulogic") (λ s. codes "std_ulogic" ∷ s) false
unfolding is_reserved is_used vhdl_words used_words
standard = word (codes "std_ulogic") refl refl refl

direction : {t : Bool} (b : Bool)
    → Spells Ends t (if b then codes " : in std_ulogic" else codes " : out std_ulogic")
    (λ s. codes ":" ∷ direction_word b ∷ codes "std_ulogic" ∷ s) false
direction true = behind in_word standard
direction false = behind out_word standard

direction_begins : (b : Bool) (r : List ℕ) → Ends ((if b then codes " : in std_ulogic" else codes " : out std_ulogic") ++ r)
direction_begins true r = refl
direction_begins false r = refl

port_spelled : (n : ℕ) (port : VPort) → IsNamed port.name
    → Spells Ends false (port.name ++ direction_text port) (port_front n port) false
port_spelled n port h = joins (name port.name h) (λ r q. direction_begins port.input r) (direction port.input)

port_text_is : (n : ℕ) (port : VPort)
    → port_text n port ≡ Rattle.vhdl_writer.specs.Joined.apart_text (codes "; ") n ++ (port.name ++ direction_text port)
unfolding port_text
port_text_is n port = refl

-- the name of each port
abbrev pub AreNamed : List VPort → Type 0
AreNamed ports = (before : List VPort) (port : VPort) (after : List VPort) → before ++ port ∷ after ≡ ports → IsNamed port.name

-- ports, of which there is one at least
pub some_ports_spelled : (port : VPort) (ports : List VPort) → AreNamed (port ∷ ports)
    → Spells Anything false (some_ports_text (port ∷ ports)) (ports_front (port ∷ ports)) false
some_ports_spelled port ports h =
    behind ports_word (joins (apart_spelled (codes "; ") (λ q. codes ";" ∷ q) port_text (λ n x. x.name ++ direction_text x)
    port_front port_text_is semicolon (λ r. refl) port ports
    (λ before x after same. port_spelled (length before + 1) x (h before x after same))) (λ r q. refl) call_end)

ports_spelled : (ports : List VPort) → AreNamed ports → Spells Anything false (ports_text ports) (ports_front ports) false
ports_spelled [] h = nothing
ports_spelled (port ∷ ports) h = shown (nat_lt 0 (length (port ∷ ports))) (some_items (length ports))
    (some_ports_spelled port ports h)

port_at_place : (e : VEntity) → IsWellFormedEntity e → (before : List VPort) (port : VPort) (after : List VPort)
    → before ++ port ∷ after ≡ e.ports → IsPortName port.name
port_at_place e w before port after same =
    let all : AllByRecursion IsPortName (port_names e.ports) = recursion_from_All IsPortName (port_names e.ports) w.ports in
    let split : port_names e.ports ≡ port_names before ++ port.name ∷ port_names after =
    ap port_names (sym same) ∙ map-append name_of_port before (port ∷ after) in
    at_place IsPortName (port_names before) port.name (port_names after) (subst (AllByRecursion IsPortName) split all)

all_named : (e : VEntity) → IsWellFormedEntity e → AreNamed e.ports
all_named e w before port after same = port_named port.name (port_at_place e w before port after same)

-- the name of a well formed entity
own_name : {t : Bool} (e : VEntity) → IsWellFormedEntity e → SpellsOutside Ends t e.name (λ s. e.name ∷ s) true
own_name e w = outside (name e.name (entity_named e.name w.name))

-- the header of a well formed entity
pub header_spelled : (e : VEntity) → IsWellFormedEntity e
    → SpellsOutside Anything false (header_text e)
    (λ s. codes "library" ∷ package_front (codes "entity" ∷ e.name ∷ entity_front e (architecture_front e s))) false
unfolding header_text
header_spelled e w =
    behind packages_word (joins (own_name e w) (λ r q. refl)
    (behind (outside is_word) (behind (outside (ports_spelled e.ports (all_named e w)))
    (behind end_word (joins (own_name e w) (λ r q. refl)
    (behind architecture_word (joins (own_name e w) (λ r q. refl) (outside is_word))))))))

-- Reading.

pub packages_read : {s : List (List ℕ)} → Reads packages (package_front s) tt s
unfolding packages
packages_read = in_turn two_expected (in_turn seven_expected (in_turn seven_expected seven_expected))

no_mark : (c : ℕ) → is_ascii_alphanumeric c ≡ true → nat_eq 95 c ≡ false
no_mark c h = grind (arith, nat_tests)

letter_too : (c : ℕ) → is_ascii_alphabetic c ≡ true → nat_eq 95 c ≡ false
letter_too c h = grind (arith, nat_tests)

none_marked : (x : List ℕ) → list_all is_ascii_alphanumeric x ≡ true → list_any (nat_eq 95) x ≡ false
none_marked [] h = refl
none_marked (c ∷ x) h =
    let p = and_parts (is_ascii_alphanumeric c) (list_all is_ascii_alphanumeric x) h in
    rw (no_mark c p.0) (none_marked x p.1)

without_mark : (x : List ℕ) → is_plain x ≡ true → has_underscore x ≡ false
without_mark [] h = absurd cc
without_mark (b ∷ x) h =
    let p = and_parts (is_ascii_alphabetic b) (list_all is_ascii_alphanumeric x) h in
    rw (letter_too b p.0) (none_marked x p.1)

direction_read : (b : Bool) {s : List (List ℕ)} → Reads (valued is_input_word) (direction_word b ∷ s) b s
direction_read true = token refl
direction_read false = token refl

-- ports that an entity of this name can declare
pub record AreDeclared (entity : List ℕ) (ports : List VPort) : Type 0 where
  pub names : (before : List VPort) (port : VPort) (after : List VPort) → before ++ port ∷ after ≡ ports → IsPortName port.name
  pub new : (before : List VPort) (port : VPort) (after : List VPort) → before ++ port ∷ after ≡ ports
      → is_among (entity ∷ port_names before) port.name ≡ false

port_read : (entity : List ℕ) (ports : List VPort) → AreDeclared entity ports
    → (before : List VPort) (port : VPort) (after : List VPort) (s : List (List ℕ)) → before ++ port ∷ after ≡ ports
    → Reads (next_port entity before) (port_front 0 port s) (before ++ port ∷ []) s
unfolding next_port
port_read entity ports h before port after s same =
    let p : IsPortName port.name = h.names before port after same in
    let n : IsNamed port.name = port_named port.name p in
    in_turn (token (rw (n.named, without_mark port.name p.plain, h.new before port after same) refl))
    (in_turn expected (in_turn (direction_read port.input) (in_turn expected gives)))

-- a list of ports, of which there is one at least, behind its word
pub port_list_read : (entity : List ℕ) (port : VPort) (ports : List VPort) (s : List (List ℕ)) → AreDeclared entity (port ∷ ports)
    → Reads (port_list entity) (codes
    "(" ∷ apart_front (λ q. codes ";" ∷ q) port_front (port ∷ ports) (codes ")" ∷ codes ";" ∷ s)) (port ∷ ports) s
unfolding port_list
port_list_read entity port ports s h =
    let more : List (List ℕ) = counted (λ n y q. codes ";" ∷ port_front n y q) 2 ports (codes ")" ∷ codes ";" ∷ s) in
    in_turn expected (in_turn (port_read entity (port ∷ ports) h [] port ports more refl)
    (in_turn (over (λ (l : List VPort). l) (λ n y q. codes ";" ∷ port_front n y q) (port ∷ []) ports
    (λ before x after q i rest. turns (turn refl (port_read entity (port ∷ ports) h before x after q i)) rest)
    (codes ")" ∷ codes ";" ∷ s) (no_turn refl))
    (in_turn two_expected gives)))

name_new : (e : VEntity) → IsWellFormedEntity e → (before : List VPort) (port : VPort) (after : List VPort)
    → before ++ port ∷ after ≡ e.ports → is_among (e.name ∷ port_names before) port.name ≡ false
name_new e w before port after same =
    let split : e.name ∷ port_names e.ports ≡ (e.name ∷ port_names before) ++ port.name ∷ port_names after =
    ap (λ (l : List VPort). e.name ∷ port_names l) (sym same)
    ∙ ap (λ (l : List (List ℕ)). e.name ∷ l) (map-append name_of_port before (port ∷ after)) in
    is_new (e.name ∷ port_names before) port.name (port_names after)
    (port_named port.name (port_at_place e w before port after same)) (subst AreApart split w.apart)

its_ports : (e : VEntity) → IsWellFormedEntity e → AreDeclared e.name e.ports
its_ports e w = record { names = port_at_place e w; new = name_new e w }

ports_read : (entity : List ℕ) (ports : List VPort) → AreDeclared entity ports → (s : List (List ℕ))
    → Reads (ports_of entity) (ports_front ports (codes "end" ∷ s)) ports (codes "end" ∷ s)
unfolding ports_of
ports_read entity [] h s = passed refl gives
ports_read entity (port ∷ ports) h s = chosen refl (port_list_read entity port ports (codes "end" ∷ s) h)

pub entity_header_read : (e : VEntity) → IsWellFormedEntity e → (s : List (List ℕ))
    → Reads (entity_header e.name) (entity_front e s) e.ports s
unfolding entity_header
entity_header_read e w s =
    in_turn expected (in_turn (ports_read e.name e.ports (its_ports e w) (e.name ∷ codes ";" ∷ s))
    (in_turn expected (in_turn (so_named (Some e.name) (entity_named e.name w.name) refl) (in_turn expected gives))))

pub architecture_header_read : (e : VEntity) → IsWellFormedEntity e → (s : List (List ℕ))
    → Reads (architecture_header e.name) (architecture_front e s) tt s
unfolding architecture_header
architecture_header_read e w s = in_turn three_expected
    (in_turn (so_named (Some e.name) (entity_named e.name w.name) refl) expected)
