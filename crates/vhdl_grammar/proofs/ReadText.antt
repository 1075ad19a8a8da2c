-- The entities of a text are well formed.
use Rattle.std.proofs.Common.{◌≡◌, ℕ, ◌<◌, ◌^◌, true, false, if◌then◌else◌, IsTrue, List, [], ◌∷◌, ◌++◌, length, get_or, sym}
use Rattle.std.proofs.Common.{subst, arith, codes}
use Rattle.std.specs.Prelude.{All, flat_map}
use Rattle.std.specs.List.{IsDistinct}
use Rattle.std.proofs.lemmas.Bool.{eqb-true}
use Rattle.std.proofs.lemmas.List.{map_push}
use Rattle.std.proofs.lemmas.List.Elements.{All-nil, All-push}
use Rattle.grammar_rules.specs.Rule.{Fits, Foul}
use Rattle.grammar_rules.proofs.Promises.{Promises, token, gives, last, in_turn, many}
use Rattle.vital_tables.specs.declared.model.VEntity.{VEntity}
use Rattle.grammar_reader.specs.declared.refusal.Refusal.TheVariants.{Syntax, Twice, Undriven}
use Rattle.grammar_reader.specs.Texts.{text_tokens}
use Rattle.vhdl_tokens.specs.Tokens.{is_name, lexis}
use Rattle.vhdl_grammar.specs.declared.scope.Scope.{Scope}
use Rattle.vhdl_grammar.specs.VhdlRules.{is_among, new_name}
use Rattle.vhdl_grammar.specs.VhdlNames.{Uses}
use Rattle.vhdl_grammar.specs.VhdlText.{are_looked_up, entity_end, statements, entity, entity_names, next_entity, file}
use Rattle.vhdl_grammar.specs.VhdlText.{IsVhdlText}
use Rattle.vhdl_grammar.specs.WellFormed.{IsEntityName, AreApart, IsCount, part_count, conditions_of_check, AreWellFormed}
use Rattle.vhdl_grammar.proofs.ReadNames.{IsSpelled, a_name, fits_if, fits_unless, push_apart, where_holds, behind, surely}
use Rattle.vhdl_grammar.proofs.ReadTokens.{tokens_spelled}
use Rattle.vhdl_grammar.proofs.ReadHeaders.{IsScope, scopes}
use Rattle.vhdl_grammar.proofs.ReadChecks.{all_checks}
use Rattle.vhdl_grammar.proofs.ReadColumns.{all_states}
use Rattle.vhdl_grammar.proofs.ReadOutputs.{all_values, all_lines}
use Rattle.vhdl_grammar.proofs.ReadEntities.{IsReadEntity, read_entity}
use Rattle.vhdl_grammar.proofs.ReadCounts.{parts_in_text}

-- the name of an entity that is none of these
record IsNewName (names : List (List ℕ)) (x : List ℕ) : Type 0 where
  name : IsEntityName x
  token : IsTrue (is_name x)
  new : is_among names x ≡ false

new_names : (names : List (List ℕ)) → Promises IsSpelled (new_name names) (IsNewName names)
new_names names = token (λ x name p e.
    let n = fits_if (is_name x) (if is_among names x then Foul Twice x else Fits x) Syntax name e in
    let f = fits_unless (is_among names x) Twice x name n.1 in
    subst (IsNewName names) f.1 (record { name = a_name x p n.0; token = n.0; new = f.0 }))

ends : (scope : Scope) (uses : Uses) → Promises IsSpelled (entity_end scope uses) (λ _. are_looked_up scope uses ≡ true)
unfolding entity_end
ends scope uses =
    behind (λ a. in_turn (where_holds (are_looked_up scope uses) Undriven (codes "end")) (λ b h. surely (λ c. h)))

-- an entity behind others of these names
record IsNewEntity (names : List (List ℕ)) (e : VEntity) : Type 0 where
  read : IsReadEntity e
  token : IsTrue (is_name e.name)
  new : is_among names e.name ≡ false

stated : (names : List (List ℕ)) (name : List ℕ) (scope : Scope) → IsNewName names name → IsScope name scope
    → Promises IsSpelled (statements scope) (IsNewEntity names)
unfolding statements
stated names name scope new s =
    in_turn (all_checks scope) (λ all c.
    behind (λ a. in_turn (all_states scope) (λ columns states.
    in_turn (all_values scope) (λ values v.
    in_turn (all_lines scope (flat_map conditions_of_check all.checks) all.uses c.are.looked_up) (λ lines l.
    in_turn (ends scope lines.1) (λ b u.
    gives (record {
      read = read_entity name scope all columns values lines new.name s
          (record { checks = c; states = states; valued = v; lined = l; looked_up = u })
          (eqb-true (length lines.1) (length scope.tables.conditions) u);
      token = subst (λ (x : List ℕ). IsTrue (is_name x)) (sym s.named) new.token;
      new = subst (λ (x : List ℕ). is_among names x ≡ false) (sym s.named) new.new;
    })))))))

entities : (names : List (List ℕ)) → Promises IsSpelled (entity names) (IsNewEntity names)
unfolding entity
entities names =
    behind (λ a. behind (λ b. in_turn (new_names names) (λ name new.
    in_turn (scopes name) (λ scope s.
    stated names name scope new s))))

record AreRead (es : List VEntity) : Type 0 where
  entities : All IsReadEntity es
  apart : AreApart (entity_names es)

none_read : AreRead []
unfolding IsDistinct
none_read = record { entities = All-nil IsReadEntity; apart = tt }

push_entity : (es : List VEntity) (e : VEntity) → AreRead es → IsNewEntity (entity_names es) e → AreRead (es ++ e ∷ [])
push_entity es e h new = record {
  entities = All-push IsReadEntity es e h.entities new.read;
  apart = subst AreApart (sym (map_push (λ (e : VEntity). e.name) es e))
      (push_apart (entity_names es) e.name h.apart new.token new.new);
}

one_entity : (es : List VEntity) → AreRead es → Promises IsSpelled (next_entity es) AreRead
unfolding next_entity
one_entity es h = in_turn (entities (entity_names es)) (λ e new. gives (push_entity es e h new))

files : Promises IsSpelled file AreRead
unfolding file
files = in_turn (many none_read (λ w x a q p e. one_entity w q)) (λ es h. last h)

pub text_entities : (bytes : List ℕ) (es : List VEntity) → IsCount (length bytes) → IsVhdlText bytes es → AreWellFormed es
text_entities bytes es number h =
    let read = (files.kept (text_tokens lexis bytes) es [] (tokens_spelled bytes) h.takes).0 in
    record {
      entities = λ k d below. read.entities k d below (few k d below);
      apart = read.apart;
    }
  where
    few : (k : ℕ) (d : VEntity) → k < length es → IsCount (part_count (get_or es k d))
    few k d below = let part = parts_in_text bytes es h.takes k d below in let bound : length bytes < 2 ^ 64 = number
        in omega (arith, part, bound)
