-- The elements of aggregates, where an element is read by a function of what there is so far and of the tokens left. A rule that
-- is told by `elements` of the grammar is read as this says. (IEEE 1076-1993, 7.3.2.)
use Rattle.std.specs.Prelude.{codes}
use Rattle.grammar_rules.specs.Reading.{and_then, choose, read}
use Rattle.grammar_reader.specs.Words.{begins_by}
use Rattle.grammar_reader.specs.Repeated.{Part, repeated}
use Rattle.vhdl_tokens.specs.Spelling.{is_same}
use Rattle.vhdl_grammar.specs.VhdlRules.{expect, is_number_token}

-- "=>" ELEMENT
abbrev pub only_element : {S : Type 0} → Part S → Part S
only_element element start s = and_then (read (expect (codes "=>")) s) (λ _ r. element start r)

-- "," ELEMENT { "," ELEMENT }
abbrev pub more_elements : {S : Type 0} → Part S → Part S
more_elements element first s =
    and_then (read (expect (codes ",")) s)
    (λ _ r. and_then (element first r) (λ second q. repeated is_same (codes ",") element second q))

-- ELEMENT "," ELEMENT { "," ELEMENT }
abbrev pub several_elements : {S : Type 0} → Part S → Part S
several_elements element start s = and_then (element start s) (λ first r. more_elements element first r)

-- the elements of an aggregate, behind its bracket
abbrev pub elements : {S : Type 0} → Part S → Part S
elements element start s = choose (begins_by (is_number_token 0)) s (λ _ r. only_element element start r)
    (several_elements element start s)
