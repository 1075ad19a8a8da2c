-- The text of a well formed primitive is read as this primitive.
use Rattle.std.proofs.Common.{◌≡◌, ℕ, Bool, false, List, [], ◌∷◌, refl, sym, ap, ◌∙◌, subst, codes}
use Rattle.grammar_rules.specs.Rule.{Takes}
use Rattle.grammar_rules.proofs.Exact.{complete}
use Rattle.grammar_rules.proofs.Steps.{value_is}
use Rattle.udp_tables.specs.declared.table.Udp.{Udp}
use Rattle.udp_tables.specs.VerilogPrimitives.{primitive}
use Rattle.grammar_reader.specs.declared.refusal.Refusal.{Refusal}
use Rattle.verilog_tokens.specs.Tokens.{lexis}
use Rattle.grammar_reader.specs.Texts.{text_tokens, lexical_place}
use Rattle.verilog_grammar.specs.WellFormed.{IsWellFormedUdp}
use Rattle.verilog_writer.specs.Primitive.{primitive_text}
use Rattle.written_modules.specs.Laws.{IsPrimitiveText, PrimitiveReadBack}
use Rattle.grammar_reader.proofs.Spelling.{all_found}
use Rattle.written_modules.proofs.Spelling.{found}
use Rattle.written_modules.proofs.PrimitiveTokens.{primitive_tokens, primitive_spelled}
use Rattle.written_modules.proofs.PrimitiveReading.{udp_more, primitive_read}
use Rattle.grammar_reader.proofs.ItemPlaces.{none_if}

text_found : (udp : Udp) → IsWellFormedUdp udp → found false (primitive_text udp) ≡ (primitive_tokens udp [], false)
text_found udp w = all_found (primitive_spelled udp w)

is_text : (udp : Udp) → IsWellFormedUdp udp → IsPrimitiveText (primitive_text udp) udp
is_text udp w =
    let e = text_found udp w in
    record {
      lexes = none_if (lexical_place lexis (primitive_text udp)) (ap (λ (p : List (List ℕ) × Bool). p.1) e);
      others = udp.name ∷ udp_more udp.sequential udp.output udp.inputs udp.rows [];
      begins = ap (λ (p : List (List ℕ) × Bool). p.0) e;
      takes = (primitive_read [] udp [] w refl).taken;
    }

same_others : (s others more : List (List ℕ)) (x : List ℕ) → s ≡ x ∷ others → s ≡ x ∷ more → others ≡ more
same_others s others more x e f = cc

same_value : (s : List (List ℕ)) (a b : Udp) → Takes (primitive []) s a [] → Takes (primitive []) s b [] → a ≡ b
same_value s a b h k = value_is {T = List ℕ} {K = Refusal} {A = Udp}
    (sym (complete (primitive []) s a [] h) ∙ complete (primitive []) s b [] k)

only_one : (bytes : List ℕ) (udp other : Udp) → IsPrimitiveText bytes udp → IsPrimitiveText bytes other → other ≡ udp
only_one bytes udp other h k =
    same_value h.others other udp
    (subst (λ (s : List (List ℕ)). Takes (primitive []) s other [])
    (same_others (text_tokens lexis bytes) k.others h.others (codes "primitive") k.begins h.begins) k.takes) h.takes

-- a primitive that is well formed reads back
pub primitive_read_back : (udp : Udp) → IsWellFormedUdp udp → PrimitiveReadBack udp
primitive_read_back udp w = record {
  text = is_text udp w;
  only =
      λ other k. only_one (primitive_text udp) udp other (is_text udp w) k;
}
