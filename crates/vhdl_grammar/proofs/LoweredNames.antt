-- Names that are looked up in lower case.
use Rattle.std.proofs.Common.{◌≡◌, ℕ, zero, suc, ◌+◌, ◌≤◌, Bool, true, false, not, cond, ◌==◌, if◌then◌else◌, List, []}
use Rattle.std.proofs.Common.{◌∷◌, ◌++◌, length, take, drop, Option, Some, None, refl, sym, ap, subst, ◌∙◌, arith}
use Rattle.std.specs.Char.{is_ascii_alphabetic}
use Rattle.std.specs.List.{list_any, position, position_from}
use Rattle.std.specs.Option.{is_some, option_map}
use Rattle.std.specs.Str.{bytes_eq, str_eq_ignore_ascii_case}
use Rattle.std.proofs.lemmas.Bool.{eqb-true}
use Rattle.std.proofs.lemmas.Iterator.Adapters.{position_from-zero}
use Rattle.std.proofs.lemmas.List.{append-nil, map-append}
use Rattle.std.specs.Cmp.{first_so as first_true}
use Rattle.bool_functions.specs.NameList.{number_of, Adds}
use Rattle.bool_functions.proofs.NameLists.{list_any-map, position-map, position-none}
use Rattle.bool_functions.proofs.FoldedNames.{some_position, added_same}
use Rattle.grammar_reader.proofs.Places.{drop_far, none_behind}
use Rattle.udp_tables.specs.declared.models.VPort.{VPort}
use Rattle.vital_tables.specs.declared.model.VEntity.{VEntity}
use Rattle.vital_tables.specs.Sound.{output_ports_from}
use Rattle.vhdl_tokens.specs.Words.{is_vhdl_word}
use Rattle.vhdl_tokens.specs.Kept.{lowered}
use Rattle.vhdl_tokens.specs.Tokens.{is_name}
use Rattle.vhdl_tokens.specs.Spelling.{is_character, is_same}
use Rattle.vhdl_grammar.specs.VhdlRules.{is_among}
use Rattle.vhdl_grammar.specs.VhdlDeclarations.{name_of_port, port_names}
use Rattle.vhdl_grammar.specs.VhdlNames.{port_of}
use Rattle.vhdl_grammar.specs.VhdlText.{entity_names}
use Rattle.vhdl_grammar.specs.Lowered.{all_lowered, HaveSame}

letter_no_apostrophe : (b : ℕ) → is_ascii_alphabetic b ≡ true → (b == 39) ≡ false
letter_no_apostrophe b e = by (b == 39) refl
  where
    by : (c : Bool) → (b == 39) ≡ c → (b == 39) ≡ false
    by false f = f
    by true f = absurd (let g = subst (λ (n : ℕ). is_ascii_alphabetic n ≡ true) (eqb-true b 39 f) e in cc)

-- a name is no character literal
no_character : (x : List ℕ) → is_name x ≡ true → is_character x ≡ false
no_character [] e = absurd cc
no_character (b ∷ bs) e = letter_no_apostrophe b (first_true (is_ascii_alphabetic b) (not (is_vhdl_word (b ∷ bs))) e)

-- so it is the same as another where both are one in lower case
pub same_lowered : (x y : List ℕ) → is_name x ≡ true → is_same x y ≡ bytes_eq (lowered x) (lowered y)
same_lowered x y e = ap (λ (b : Bool). if b then bytes_eq x y else str_eq_ignore_ascii_case x y) (no_character x e)

among_lowered : (names : List (List ℕ)) (x : List ℕ) → is_name x ≡ true
    → is_among names x ≡ list_any (bytes_eq (lowered x)) (all_lowered names)
among_lowered names x e =
    (λ i. list_any (λ (y : List ℕ). same_lowered x y e i) names) ∙ sym (list_any-map lowered (bytes_eq (lowered x)) names)

-- a name is one of others exactly where it is found in lower case
pub found_among : (known others : List (List ℕ)) (x : List ℕ) → HaveSame known others → is_name x ≡ true
    → is_some (number_of known (lowered x)) ≡ is_among others x
found_among known others x h e = some_position (bytes_eq (lowered x)) known ∙ h (lowered x) ∙ sym (among_lowered others x e)

-- one more entity
pub entity_added : (old new : List (List ℕ)) (entities : List VEntity) (entity : VEntity) (found : Option ℕ)
    → Adds old (lowered entity.name) found new
    → HaveSame old (entity_names entities) → HaveSame new (entity_names (entities ++ entity ∷ []))
entity_added old new entities entity found a h =
    subst (HaveSame new) (sym (map-append (λ (e : VEntity). e.name) entities (entity ∷ [])))
    (added_same lowered old new (entity_names entities) entity.name found a h)

-- the number of a port, by its name
pub port_number : (ports : List VPort) (names : List (List ℕ)) → names ≡ all_lowered (port_names ports) → (x : List ℕ)
    → is_name x ≡ true → number_of names (lowered x) ≡ port_of ports x
port_number ports names named x e =
    ap (λ (l : List (List ℕ)). number_of l (lowered x)) named
    ∙ position-map lowered (bytes_eq (lowered x)) (port_names ports)
    ∙ position-map name_of_port (λ (y : List ℕ). bytes_eq (lowered x) (lowered y)) ports
    ∙ sym (λ i. position (λ (port : VPort). same_lowered x port.name e i) ports)

-- a name is one of a port's
pub port_found : (ports : List VPort) (x : List ℕ) → is_some (port_of ports x) ≡ is_among (port_names ports) x
port_found ports x = some_position (λ (port : VPort). is_same x port.name) ports
    ∙ sym (list_any-map name_of_port (is_same x) ports)

by_input : (b : Bool) (k : ℕ) (longer outputs last : List ℕ) → longer ≡ outputs ++ last
    → (if b then longer else k ∷ longer) ≡ (if b then outputs else k ∷ outputs) ++ last
by_input true k longer outputs last e = e
by_input false k longer outputs last e = ap (λ (l : List ℕ). k ∷ l) e

outputs_append : (k n : ℕ) (ports : List VPort) (port : VPort) → n ≡ k + length ports
    → output_ports_from k (ports ++ port ∷ []) ≡ output_ports_from k ports ++ (if port.input then [] else n ∷ [])
outputs_append k n [] port e = let same : k ≡ n = omega arith in ap (λ (m : ℕ). if port.input then [] else m ∷ []) same
outputs_append k n (p ∷ ports) port e =
    by_input p.input k (output_ports_from (k + 1) (ports ++ port ∷ [])) (output_ports_from (k + 1) ports)
    (if port.input then [] else n ∷ [])
    (outputs_append (k + 1) n ports port (omega arith))

-- the outputs with a port's number, where it is one
by_output : (b : Bool) (outputs others : List ℕ) (n : ℕ) → outputs ≡ others
    → (if b then outputs else outputs ++ n ∷ []) ≡ others ++ (if b then [] else n ∷ [])
by_output true outputs others n e = e ∙ sym (append-nil others)
by_output false outputs others n e = ap (λ (l : List ℕ). l ++ n ∷ []) e

-- the numbers of the outputs with one more port
pub outputs_added : (ports : List VPort) (outputs : List ℕ) (port : VPort) → outputs ≡ output_ports_from 0 ports
    → (if port.input then outputs else outputs ++ length ports ∷ []) ≡ output_ports_from 0 (ports ++ port ∷ [])
outputs_added ports outputs port counted =
    by_output port.input outputs (output_ports_from 0 ports) (length ports) counted
    ∙ sym (outputs_append 0 (length ports) ports port (omega arith))

-- one more port, whose name is new
name_added : (ports : List VPort) (names new : List (List ℕ)) (port : VPort) (found : Option ℕ)
    → names ≡ all_lowered (port_names ports) → is_name port.name ≡ true → is_among (port_names ports) port.name ≡ false
    → Adds names (lowered port.name) found new → new ≡ all_lowered (port_names (ports ++ port ∷ []))
name_added ports names new port found named is_named is_new a = by found a
  where
    fresh : number_of names (lowered port.name) ≡ None
    fresh =
        position-none (bytes_eq (lowered port.name)) names
        (ap (list_any (bytes_eq (lowered port.name))) named ∙ sym (among_lowered (port_names ports) port.name is_named)
        ∙ is_new)

    by : (o : Option ℕ) → Adds names (lowered port.name) o new → new ≡ all_lowered (port_names (ports ++ port ∷ []))
    by (Some i) h =
        h.2 ∙ ap (λ (l : List (List ℕ)). l ++ lowered port.name ∷ []) named
        ∙ sym (map-append lowered (port_names ports) (port.name ∷ []))
        ∙ ap all_lowered (sym (map-append name_of_port ports (port ∷ [])))
    by None h = absurd (h.0 fresh)

-- a name that is none of the ports' is none of those behind the first n
new_behind : (n : ℕ) (ports : List VPort) (x : List ℕ) → is_among (port_names ports) x ≡ false
    → is_among (port_names (drop n ports)) x ≡ false
new_behind n ports x e =
    list_any-map name_of_port (is_same x) (drop n ports)
    ∙ none_behind (λ (port : VPort). is_same x port.name) n ports (sym (list_any-map name_of_port (is_same x) ports) ∙ e)

-- one more port behind the first 16
pub far_added : (ports : List VPort) (names new : List (List ℕ)) (port : VPort) (found : Option ℕ) → 16 ≤ length ports
    → names ≡ all_lowered (port_names (drop 16 ports)) → is_name port.name ≡ true → is_among (port_names ports) port.name ≡ false
    → Adds names (lowered port.name) found new → new ≡ all_lowered (port_names (drop 16 (ports ++ port ∷ [])))
far_added ports names new port found many named is_named is_new a =
    name_added (drop 16 ports) names new port found named is_named (new_behind 16 ports port.name is_new) a
    ∙ ap (λ (l : List VPort). all_lowered (port_names l)) (drop_far 16 ports port many)

module _ {A : Type 0} (p : A → Bool) where
  from_far : (n i : ℕ) (xs : List A) → position_from p i (take n xs) ≡ None → n ≤ length xs
      → position_from p i xs ≡ position_from p (i + n) (drop n xs)
  from_far zero i xs e h = let same : i ≡ i + 0 = omega arith in ap (λ k. position_from p k xs) same
  from_far (suc n) i [] e h = absurd (omega arith)
  from_far (suc n) i (x ∷ xs) e h = by (p x) (λ f. from_far n (i + 1) xs f (omega (arith, h))) e
    where
      by : (b : Bool) → (position_from p (i + 1) (take n xs) ≡ None
          → position_from p (i + 1) xs ≡ position_from p (i + 1 + n) (drop n xs))
          → cond b (Some i) (position_from p (i + 1) (take n xs)) ≡ None
          → cond b (Some i) (position_from p (i + 1) xs) ≡ position_from p (i + suc n) (drop n xs)
      by true next f = absurd cc
      by false next f =
          let same : i + 1 + n ≡ i + suc n = omega arith in next f ∙ ap (λ k. position_from p k (drop n xs)) same

  later : (n i : ℕ) (xs : List A) → position_from p (n + i) xs ≡ option_map (λ k. n + k) (position_from p i xs)
  later n i [] = refl
  later n i (x ∷ xs) = by (p x) (later n (i + 1) xs)
    where
      by : (b : Bool) → position_from p (n + (i + 1)) xs ≡ option_map (λ k. n + k) (position_from p (i + 1) xs)
          → cond b (Some (n + i)) (position_from p (n + i + 1) xs)
          ≡ option_map (λ k. n + k) (cond b (Some i) (position_from p (i + 1) xs))
      by true next = refl
      by false next =
          let same : n + i + 1 ≡ n + (i + 1) = omega arith in ap (λ k. position_from p k xs) same ∙ next

  -- the place of a thing that is none of the first n
  pub position_far : (n : ℕ) (xs : List A) → position p (take n xs) ≡ None → n ≤ length xs
      → position p xs ≡ option_map (λ k. n + k) (position p (drop n xs))
  position_far n xs e h =
      let same : 0 + n ≡ n + 0 = omega arith in
      position_from-zero p xs ∙ from_far n 0 xs (sym (position_from-zero p (take n xs)) ∙ e) h
      ∙ ap (λ k. position_from p k (drop n xs)) same ∙ later n 0 (drop n xs)
      ∙ ap (option_map (λ k. n + k)) (sym (position_from-zero p (drop n xs)))

-- the number of a port that is none of the first 16
pub far_number : (ports : List VPort) (names : List (List ℕ)) → names ≡ all_lowered (port_names (drop 16 ports)) → 16 ≤ length ports
    → (x : List ℕ) → is_name x ≡ true → port_of (take 16 ports) x ≡ None
    → port_of ports x ≡ option_map (λ k. 16 + k) (number_of names (lowered x))
far_number ports names named many x e none =
    position_far (λ (port : VPort). is_same x port.name) 16 ports none many
    ∙ ap (option_map (λ k. 16 + k)) (sym (port_number (drop 16 ports) names named x e))
