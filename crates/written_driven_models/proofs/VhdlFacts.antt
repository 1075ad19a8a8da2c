-- VHDL as a language of drivers, and what holds of the ports of a well formed driver.
use Rattle.std.proofs.Common.{◌≡◌, ℕ, zero, suc, ◌+◌, true, false, not, List, [], ◌∷◌, ◌++◌, length, map, refl, sym, ap, ◌∙◌}
use Rattle.std.proofs.Common.{subst, decimal}
use Rattle.std.specs.List.{AllByRecursion, IsDistinct}
use Rattle.std.specs.Char.{is_ascii_alphabetic}
use Rattle.std.specs.Str.{str_eq_ignore_ascii_case}
use Rattle.std.proofs.lemmas.Bool.{and_parts, and_from}
use Rattle.std.proofs.lemmas.List.{map-append}
use Rattle.std.proofs.lemmas.List.Elements.{recursion_from_All}
use Rattle.std.proofs.lemmas.List.Folds.{list_any-append}
use Rattle.written_entities.specs.vhdl_tokens.Words.{is_vhdl_word}
use Rattle.written_entities.specs.vhdl_tokens.Tokens.{is_name}
use Rattle.written_entities.specs.vhdl_tokens.Spelling.{is_same}
use Rattle.written_entities.specs.vhdl_grammar.VhdlRules.{is_among}
use Rattle.written_entities.specs.vhdl_grammar.VhdlDeclarations.{port_names, name_of_port}
use Rattle.written_entities.specs.vhdl_grammar.WellFormed.{IsPortName, AreApart}
use Rattle.written_modules.specs.udp_tables.declared.models.VPort.{VPort}
use Rattle.driver_models.specs.declared.model.DriverModel.{DriverModel}
use Rattle.driver_models.specs.Terminals.{all_numbered}
use Rattle.driver_models.specs.Wires.{numbered}
use Rattle.driver_texts.specs.NumberedPorts.{NumberedPort, ports_of}
use Rattle.vhdl_drivers.specs.DriverText.{data_word, enable_word}
use Rattle.vhdl_drivers.specs.WellFormed.{IsWrittenDriver}
use Rattle.written_modules.proofs.grammar_reader.ItemPlaces.{at_place}
use Rattle.written_entities.proofs.Names.{IsNamed, port_named, scored_no_word, same_self, case_turned, same_letters, same_name}
use Rattle.written_entities.proofs.NameReading.{unlike_plain, is_new}
use Rattle.written_entities.proofs.HeaderReading.{AreDeclared}
use Rattle.written_driven_models.proofs.Languages.{IsDriverLanguage}
use Rattle.written_driven_models.proofs.NumberedDrives.{Numbered, at_end, an_input, plain, driven}
use Rattle.written_driven_models.proofs.DriverPorts as sound
use Rattle.written_driven_models.proofs.TerminalReading.{IsTerminal}
use Rattle.written_driven_models.proofs.VhdlNames.{NamedPort}

-- The language.

same_turned : (x y : List ℕ) → is_name x ≡ true → is_name y ≡ true → is_same x y ≡ is_same y x
same_turned [] y n m = absurd (cc n)
same_turned (b ∷ x) [] n m = absurd (cc m)
same_turned (b ∷ x) (c ∷ y) n m =
    same_letters b x (c ∷ y) (and_parts (is_ascii_alphabetic b) (not (is_vhdl_word (b ∷ x))) n).0 ∙ case_turned (b ∷ x) (c ∷ y)
    ∙ sym (same_letters c y (b ∷ x) (and_parts (is_ascii_alphabetic c) (not (is_vhdl_word (c ∷ y))) m).0)

scored_name : (b : ℕ) (ds : List ℕ) → is_ascii_alphabetic b ≡ true → is_name (b ∷ 95 ∷ ds) ≡ true
scored_name b ds l = and_from (is_ascii_alphabetic b) (not (is_vhdl_word (b ∷ 95 ∷ ds))) l (ap not (scored_no_word b ds))

pub language : IsDriverLanguage is_name is_same data_word enable_word
language = record {
  itself = same_self;
  turned = same_turned;
  value_is_name = λ n. scored_name 100 (decimal n) refl;
  enable_is_name = λ n. scored_name 101 (decimal n) refl;
  apart = λ n k. refl;
}

-- Ports.

pub are_names : (ports : List VPort) → AllByRecursion NamedPort ports
    → AllByRecursion (λ (port : VPort). is_name port.name ≡ true) ports
are_names [] h = tt
are_names (port ∷ ports) h = (h.0.named, are_names ports h.1)

others_apart : (port : VPort) (others : List VPort) → IsNamed port.name
    → AllByRecursion (λ y. str_eq_ignore_ascii_case port.name y ≡ false) (port_names others) →
    AllByRecursion (λ y. is_same port.name y ≡ false) (map (λ (p : VPort). p.name) others)
others_apart port [] n h = tt
others_apart port (other ∷ others) n h = (same_name port.name other.name n ∙ h.0, others_apart port others n h.1)

pub ports_apart : (ports : List VPort) → AllByRecursion NamedPort ports → AreApart (port_names ports)
    → IsDistinct is_same (map (λ (p : VPort). p.name) ports)
unfolding IsDistinct
ports_apart [] n h = tt
ports_apart (port ∷ ports) n h = (others_apart port ports n.0 h.0, ports_apart ports n.1 h.1)

abbrev IsPlain : VPort → Type 0
IsPlain port = IsPortName port.name

all_plain : (ports : List VPort) → AllByRecursion IsPortName (port_names ports) → AllByRecursion IsPlain ports
all_plain [] h = tt
all_plain (port ∷ ports) h = (h.0, all_plain ports h.1)

-- the name of a port is none of a signal
no_signal : (x : List ℕ) → IsPortName x → (count : ℕ) → is_among (all_numbered data_word count) x ≡ false
no_signal x n zero = refl
no_signal x n (suc k) =
    let other : is_same x (numbered data_word (suc k)) ≡ false =
    same_turned x (numbered data_word (suc k)) (port_named x n).named (scored_name 100 (decimal (suc k)) refl)
    ∙ unlike_plain 100 (decimal (suc k)) x refl n.plain in
    list_any-append (is_same x) (all_numbered data_word k) (numbered data_word (suc k) ∷ []) ∙ rw (no_signal x n k, other) refl

plain_terminals : {total : ℕ} (count place number : ℕ) (left : List ℕ) (ports : List VPort) (ats : List NumberedPort)
    → Numbered total place number left ports ats → AllByRecursion IsPlain ports →
    AllByRecursion (IsTerminal is_name is_same data_word count) ats
plain_terminals count place number left [] [] at_end h = tt
plain_terminals count place number left [] (at ∷ ats) n h = elim n [ ]
plain_terminals count place number left (port ∷ ports) [] n h = elim n [ ]
plain_terminals count place number left (port ∷ ports) (at ∷ ats) (an_input _ e n) h = (
  record { name = (port_named port.name h.0).named; free = λ f g. no_signal port.name h.0 count },
  plain_terminals count place
      number left ports ats n h.1,
)
plain_terminals count place number left (port ∷ ports) (at ∷ ats) (plain _ e n) h = (
  record { name = (port_named port.name h.0).named; free = λ f g. no_signal port.name h.0 count },
  plain_terminals count
      (place + 1) number left ports ats n h.1,
)
plain_terminals count place number (_ ∷ left) (port ∷ ports) (at ∷ ats) (driven _ e n) h = (
  record { name = (port_named port.name h.0).named; free = λ f g. no_signal port.name h.0 count },
  plain_terminals count
      (place + 1) (number + 1) left ports ats n h.1,
)

-- no name is empty
no_empty : (x : List ℕ) → IsNamed x → is_same x [] ≡ false
no_empty [] n = absurd (cc n.identifier)
no_empty (b ∷ x) n = same_name (b ∷ x) [] n

module _ (m : DriverModel) (w : IsWrittenDriver m) where
  its_plain : AllByRecursion IsPlain m.ports
  its_plain = all_plain m.ports (recursion_from_All IsPortName (port_names m.ports) w.ports)

  pub terminals_free : AllByRecursion (IsTerminal is_name is_same data_word (length m.driver.drives)) (ports_of m)
  terminals_free = plain_terminals (length m.driver.drives) 0 0 m.driver.drives m.ports (ports_of m)
      (sound.numbered m w.sound) its_plain

  pub ports_declared : AreApart (port_names m.ports) → AreDeclared [] m.ports
  ports_declared apart = record {
    names = λ before port after same. at_place IsPlain before port after (subst (AllByRecursion IsPlain) (sym same) its_plain);
    new = λ before port after same. new before port after same;
  }
    where
      new : (before : List VPort) (port : VPort) (after : List VPort) → before ++ port ∷ after ≡ m.ports
          → is_among ([] ∷ port_names before) port.name ≡ false
      new before port after same =
          let n : IsNamed port.name = port_named port.name
          (at_place IsPlain before port after (subst (AllByRecursion IsPlain) (sym same) its_plain)) in
          let split : port_names m.ports ≡ port_names before ++ port.name ∷ port_names after =
          ap port_names (sym same) ∙ map-append name_of_port before (port ∷ after) in
          rw (no_empty port.name n) (is_new (port_names before) port.name (port_names after) n (subst AreApart split apart))
