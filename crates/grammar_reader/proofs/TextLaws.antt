-- What holds of every text by a grammar, in any language.
use Rattle.std.proofs.Common.{◌≡◌, ℕ, Bool, List, [], ◌∷◌, Option, Some, None, is_some, refl, sym, ap, ◌∙◌, subst}
use Rattle.std.proofs.lemmas.List.{append-nil}
use Rattle.grammar_rules.specs.Rule.{Takes, Front}
use Rattle.grammar_rules.specs.Loose.{loose}
use Rattle.grammar_rules.proofs.Places.{refuses_at_first}
use Rattle.grammar_rules.proofs.LooseLaws.{fouls_in_fronts}
use Rattle.lexer.specs.Tokens.{Token, scan_of, spellings}
use Rattle.lexer.specs.Separators.{spelled, HaveSameTokens}
use Rattle.grammar_reader.specs.Texts.{Texts, IsText, text_tokens}
use Rattle.grammar_reader.specs.TextLaws.{HaveSameValues, HasFaultAtFirstToken}

parts : (r q : List Token × Option ℕ) → spelled r ≡ spelled q → (spellings r.0 ≡ spellings q.0) × (is_some r.1 ≡ is_some q.1)
parts (ts, f) (us, g) e = (ap (λ (p : List (List ℕ) × Bool). p.0) e, ap (λ (p : List (List ℕ) × Bool). p.1) e)

both_none : (f g : Option ℕ) → is_some f ≡ is_some g → f ≡ None → g ≡ None
both_none f None e h = refl
both_none None (Some at) e h = absurd cc
both_none (Some at) (Some place) e h = absurd cc

-- the value of a text is that of another with the same tokens
as_other : {A F : Type 0} (l : Texts A F) (text other : List ℕ) → HaveSameTokens l.lexis text other → (a : A) → IsText l text a
    → IsText l other a
as_other l text other h a t =
    let p = parts (scan_of l.lexis text) (scan_of l.lexis other) h in
    record {
      lexes = both_none (scan_of l.lexis text).1 (scan_of l.lexis other).1 p.1 t.lexes;
      takes =
          subst (λ (s : List (List ℕ)). Takes l.file s a []) p.0 t.takes;
    }

pub same_values : {A F : Type 0} (l : Texts A F) (text other : List ℕ) → HaveSameTokens l.lexis text other
    → HaveSameValues l text other
same_values l text other h a = (as_other l text other h a, as_other l other text (sym h) a)

pub fault_at_first_token : {A F : Type 0} (l : Texts A F) (text : List ℕ) → HasFaultAtFirstToken l text
fault_at_first_token l text = record {
  refused = λ k x m h. (refuses_at_first (loose l.file)).place (text_tokens l.lexis text) k (x ∷ m) h;
  broken = λ k m h. (fouls_in_fronts l.file).front (text_tokens l.lexis text) k m h;
  unfinished = λ k h.
      let p = (refuses_at_first (loose l.file)).place (text_tokens l.lexis text) k [] h in
      subst (λ (s : List (List ℕ)). Front (loose l.file) s) (sym (p.1 ∙ append-nil p.0)) p.2;
}
