-- How the tokens of a text come from those of its pieces, in any language.
use Rattle.std.proofs.Common.{◌≡◌, ℕ, suc, Bool, false, List, [], ◌∷◌, ◌++◌, length, Some, refl, sym, ap, ◌∙◌, subst, flat_map}
use Rattle.std.proofs.lemmas.List.{append-nil}
use Rattle.std.specs.List.{AllByRecursion}
use Rattle.lexer.specs.Tokens.{Lexis, scan}
use Rattle.lexer.specs.Separators.{spelled}
use Rattle.grammar_reader.proofs.Fronts.{Front, in_front, Anything, each, each_begins}
use Rattle.grammar_reader.proofs.Passages.{Barred, Passes, token, at_end, one_behind, tokens_found, passed, passes_found}
use Rattle.grammar_reader.proofs.Passages as passages

-- Before bytes that pass a test the text is these tokens, none of which is barred. The flags are those before it and after it.
pub record SpellsBy (l : Lexis) (barred : Barred) (P : List ℕ → Type 0) (t : Bool) (text : List ℕ) (f : Front) (u : Bool) :
    Type 0 where
  pub passes : (r : List ℕ) → P r → Passes l barred t text r f u

-- the tokens of a text with other bytes behind it
pub found_is : {l : Lexis} {barred : Barred} {P : List ℕ → Type 0} {t u : Bool} {text : List ℕ} {f : Front}
    → SpellsBy l barred P t text f u
    → (r : List ℕ) → P r → spelled (scan l t 0 0 (text ++ r)) ≡ in_front f (spelled (scan l u 0 0 r))
found_is h r p = tokens_found (h.passes r p) 0 0

-- the tokens of a text alone
pub all_found : {l : Lexis} {barred : Barred} {t u : Bool} {text : List ℕ} {f : Front} → SpellsBy l barred Anything t text f u
    → spelled (scan l t 0 0 text) ≡ (f [], false)
all_found {l} {t = t} {text = text} h = ap (λ (s : List ℕ). spelled (scan l t 0 0 s)) (sym (append-nil text)) ∙ found_is h [] tt

-- what bars less
pub barred_less : {l : Lexis} {barred other : Barred} {P : List ℕ → Type 0} {t u : Bool} {text : List ℕ} {f : Front}
    → ((t : Bool) (x s : List ℕ) → barred t x s ≡ false → other t x s ≡ false) → SpellsBy l barred P t text f u
    → SpellsBy l other P t text f u
barred_less less h = record { passes = λ r p. passages.barred_less less (h.passes r p) }

-- bytes of which the tokens are found by computing
pub literal : {l : Lexis} {barred : Barred} {P : List ℕ → Type 0} {t u : Bool} {text : List ℕ} {f : Front}
    → ((r : List ℕ) → passed l barred t 0 text r ≡ Some (f [], u))
    → (λ s. f [] ++ s) ≡ f → SpellsBy l barred P t text f u
literal {l} {barred} {t = t} {u = u} {text = text} {f = f} h e = record {
  passes = λ r p. subst (λ (g : Front). Passes l barred t text r g u) e (passes_found l barred text r t (f []) u (h r));
}

-- what is known of one token before bytes that pass a test
pub record IsToken (l : Lexis) (barred : Barred) (P : List ℕ → Type 0) (t : Bool) (b : ℕ) (w : List ℕ) (u : Bool) : Type 0 where
  pub alone : (r : List ℕ) → P r → l.separator_length (b ∷ w ++ r) ≡ 0
  pub size : (r : List ℕ) → P r → l.token_length t (b ∷ w ++ r) ≡ suc (length w)
  pub free : (r : List ℕ) → barred t (b ∷ w) r ≡ false
  pub after : l.flag_after t (b ∷ w) ≡ u

-- one token
pub one_token : {l : Lexis} {barred : Barred} {P : List ℕ → Type 0} {t u : Bool} (b : ℕ) (w : List ℕ) → IsToken l barred P t b w u
    → SpellsBy l barred P t (b ∷ w) (λ s. (b ∷ w) ∷ s) u
one_token {l} {barred} {t = t} b w h = record {
  passes = λ r p. token b w [] (ap (λ (s : List ℕ). b ∷ s) (sym (append-nil w))) (h.alone r p) (h.size r p) (h.free r)
      (subst (Passes l barred (l.flag_after t (b ∷ w)) [] r (λ s. s)) h.after at_end);
}

-- one text behind another
pub joins : {l : Lexis} {barred : Barred} {P Q : List ℕ → Type 0} {t u v : Bool} {a b : List ℕ} {f g : Front}
    → SpellsBy l barred P t a f u
    → ((r : List ℕ) → Q r → P (b ++ r)) → SpellsBy l barred Q u b g v → SpellsBy l barred Q t (a ++ b) (λ s. f (g s)) v
joins {b = b} h k i = record { passes = λ r q. one_behind (h.passes (b ++ r) (k r q)) b r refl (i.passes r q) }

-- one text behind another that may stand before any bytes
pub behind : {l : Lexis} {barred : Barred} {Q : List ℕ → Type 0} {t u v : Bool} {a b : List ℕ} {f g : Front}
    → SpellsBy l barred Anything t a f u → SpellsBy l barred Q u b g v
    → SpellsBy l barred Q t (a ++ b) (λ s. f (g s)) v
behind h i = joins h (λ r q. tt) i

-- no text
pub nothing : {l : Lexis} {barred : Barred} {P : List ℕ → Type 0} {t : Bool} → SpellsBy l barred P t [] (λ s. s) t
nothing = record { passes = λ r p. at_end }

-- what stands before any bytes stands before those that pass a test
pub anywhere : {l : Lexis} {barred : Barred} {P : List ℕ → Type 0} {t u : Bool} {text : List ℕ} {f : Front}
    → SpellsBy l barred Anything t text f u → SpellsBy l barred P t text f u
anywhere h = record { passes = λ r p. h.passes r tt }

-- texts one behind the other
pub each_spelled : {l : Lexis} {barred : Barred} {A : Type 0} {P : List ℕ → Type 0} {t : Bool} {text : A → List ℕ} {f : A
    → Front} (Q : A → Type 0)
    → ((x : A) → Q x → SpellsBy l barred P t (text x) (f x) t) → ((x : A) (r : List ℕ) → P r → P (text x ++ r)) → (xs : List A)
    → AllByRecursion Q xs
    → SpellsBy l barred P t (flat_map text xs) (each f xs) t
each_spelled Q h k [] all = nothing
each_spelled {P = P} {text = text} Q h k (x ∷ xs) all =
    joins (h x all.0) (λ r p. each_begins P text k xs r p) (each_spelled Q h k xs all.1)
