use Rattle.std.proofs.Common.{◌≡◌, ◌+◌, ◌<◌, ◌≤◌, ℕ, Bool, true, false, List, [], ◌∷◌, ◌++◌, length, drop, refl, sym, ap, subst}
use Rattle.std.proofs.Common.{◌∙◌, arith, append_assoc, length-drop}
use Rattle.std.proofs.lemmas.List.{append-nil}
use Rattle.lexer.specs.declared.span.Span.{Span}
use Rattle.lexer.specs.Spans.{LieInside}
use Rattle.lexer.proofs.Turns.{inside_more}
use Rattle.driver_sections.specs.Fronts.{IsNext, behind_gap, tokens_at}
use Rattle.driver_sections.specs.Marks.{Vocabulary, Marks, are_next, vocabulary}
use Rattle.driver_sections.specs.Sections.{section_length, sections_from, StandApart}
use Rattle.driver_sections.specs.Told.{marks_of}
use Rattle.driver_sections.proofs.FoundSections.{with_section, with_token, without_token}
use Rattle.driver_sections.proofs.Spaces.{apart_more, apart_later}
use Rattle.driver_sections.proofs.sections.find_sections.Goals as goal

pub loop-token-preserved-in-Continue-1 : goal.loop-token-preserved-in-Continue-1
loop-token-preserved-in-Continue-1 g c =
    let v : Vocabulary = vocabulary g.S.Lexicon.lexis g.L.Language.is_same in
    let m : Marks = marks_of c.args.marks.now in
    let flag : Bool = g.S.TokenState.flag c.loop-token.before in
    let text : List ℕ = c.args.text.now in
    let found : List Span = c.loop-token.found.items in
    let from : ℕ = c.loop-token.next in
    let t : Span = c.in-Some.token in
    let n : ℕ = c.section_length.result in
    let s : Span = record { at = t.at; end = t.at + n } in
    let next : IsNext v.lexis flag text from t = c.in-Some.ensures.next in
    let some : t.at < t.end = next.some in
    let within : t.end ≤ length text = next.within in
    let place : t.at ≡ behind_gap v.lexis text from = next.place in
    let inside : t.at + n ≤ length text = omega (arith, some, within, length-drop t.at text, ap (length {A = ℕ}) c.split_at.ensures.back, c.section_length.ensures.within) in
    let p : 0 < n = c.section_length.ensures.some (omega (arith, some, within, length-drop t.at text, ap (length {A = ℕ}) c.split_at.ensures.back)) in
    let is : n ≡ section_length v m (drop t.at text) = c.section_length.ensures.value ∙ ap (section_length v m) c.split_at.ensures.back in
    let begun : are_next v.is_same m.beginning (tokens_at v.lexis flag text t) ≡ true = sym c.are_next.ensures ∙ c.if-are_next.true in
    let items : c.push.new.self.items ≡ found ++ s ∷ [] = c.in_ok-push.ensures.items in
    record {
      all = ap (λ (xs : List Span). xs ++ sections_from v m flag (t.at + n) 0 (drop (t.at + n) text)) items
          ∙ append_assoc found (s ∷ []) (sections_from v m flag (t.at + n) 0 (drop (t.at + n) text))
          ∙ ap (λ (xs : List Span). found ++ xs) (sym (with_section v m flag text from t next begun n is p inside))
          ∙ c.loop-token.invariant.all;
      apart = subst (StandApart 0 (t.at + n)) (sym items) (apart_more 0 from found s c.loop-token.invariant.apart (omega (arith, place)) (omega arith));
      inside = subst (LieInside text) (sym items) (inside_more text found s c.loop-token.invariant.inside (omega arith) inside);
      within = inside;
    }

pub loop-token-preserved : goal.loop-token-preserved
loop-token-preserved g c =
    let v : Vocabulary = vocabulary g.S.Lexicon.lexis g.L.Language.is_same in
    let m : Marks = marks_of c.args.marks.now in
    let flag : Bool = g.S.TokenState.flag c.loop-token.before in
    let text : List ℕ = c.args.text.now in
    let t : Span = c.in-Some.token in
    let next : IsNext v.lexis flag text c.loop-token.next t = c.in-Some.ensures.next in
    let some : t.at < t.end = next.some in
    let place : t.at ≡ behind_gap v.lexis text c.loop-token.next = next.place in
    let other : are_next v.is_same m.beginning (tokens_at v.lexis flag text t) ≡ false = sym c.are_next.ensures ∙ c.if-are_next.false in
    record {
      all = ap (λ (set : Bool). c.loop-token.found.items ++ sections_from v m set t.end 0 (drop t.end text)) c.after-before.ensures
          ∙ ap (λ (xs : List Span). c.loop-token.found.items ++ xs) (sym (with_token v m flag text c.loop-token.next t next other))
          ∙ c.loop-token.invariant.all;
      apart = apart_later 0 c.loop-token.next t.end c.loop-token.found.items c.loop-token.invariant.apart (omega (arith, some, place));
      inside = c.loop-token.invariant.inside;
      within = next.within;
    }

pub returns-clause-found : goal.returns-clause-found
returns-clause-found g c =
    let found : List Span = c.loop-token.found.items in
    let none = without_token (vocabulary g.S.Lexicon.lexis g.L.Language.is_same) (marks_of c.args.marks.now) (g.S.TokenState.flag c.loop-token.before) c.args.text.now c.loop-token.next (c.in_default.ensures.none refl) in
    sym (append-nil found) ∙ ap (λ (xs : List Span). found ++ xs) (sym none) ∙ c.loop-token.invariant.all

pub returns-clause-apart : goal.returns-clause-apart
returns-clause-apart g c =
    apart_later 0 c.loop-token.next (length c.args.text.now) c.loop-token.found.items c.loop-token.invariant.apart c.loop-token.invariant.within
