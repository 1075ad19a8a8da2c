-- A separator or a token in front of bytes, and what stands before a place of them when other bytes come there.
use Rattle.std.proofs.Common.{◌≡◌, ℕ, ◌+◌, Bool, true, false, ◌||◌, ◌==◌, List, [], ◌∷◌, ◌++◌, length, refl, sym, ap, subst, ◌∙◌}
use Rattle.std.proofs.Common.{arith, length-append, append_assoc}
use Rattle.std.specs.List.{list_any}
use Rattle.liberty_text.specs.declared.token.Token.{Token}
use Rattle.liberty_text.specs.declared.token.TokenKind.{TokenKind}
use Rattle.liberty_text.specs.declared.token.TokenKind.TheVariants.{Word, Text}
use Rattle.liberty_text.specs.declared.token.Stop.{Stop}
use Rattle.liberty_text.specs.declared.class.Class.TheVariants.{LineEnd, Blank, Mark}
use Rattle.liberty_text.specs.Scanner.{class_of, token}
use Rattle.liberty_text.specs.Tokens.{ends_word, WordBytes, TextBytes, CommentBytes, AreBlanks, Lexes}
use Rattle.liberty_text.specs.Tokens as lex
use Rattle.liberty_groups.proofs.Pieces.{word_any, word_end}

-- The bytes are those of a separator or of a token, and others, which begin at an offset. Before other bytes it stands as well,
-- where no Word goes on with them or one would have gone on with those that they come for.
pub record Step (at : ℕ) (line : Bool) (bs : List ℕ) (us : List Token) (there : ℕ) (ended : Bool) (rest : List ℕ) : Type 0 where
  pub u : List ℕ
  pub split : bs ≡ u ++ rest
  pub place : there ≡ at + length u
  pub adds : (z : List ℕ) (V : List Token) (s : Stop) → (ends_word rest ≡ true → ends_word z ≡ true) → Lexes there ended z V s
      → Lexes at line (u ++ z) (us ++ V) s
  pub word : ends_word bs ≡ true → (z : List ℕ) → ends_word (u ++ z) ≡ true

-- a byte that is no token, and ends a Word
passed : {at : ℕ} {line : Bool} {b : ℕ} {rest : List ℕ} (behind : Bool)
    → ((z : List ℕ) (V : List Token) (s : Stop) → Lexes (at + 1) behind z V s → Lexes at line (b ∷ z) V s)
    → ((z : List ℕ) → ends_word (b ∷ z) ≡ true) → Step at line (b ∷ rest) [] (at + 1) behind rest
passed {b = b} behind adds ends = record {
  u = b ∷ [];
  split = refl;
  place = omega arith;
  adds = λ z V s k x. adds z V s x;
  word =
      λ _ z. ends z;
}

pub step_blank : {at : ℕ} {line : Bool} {b : ℕ} {rest : List ℕ} → class_of b ≡ Blank
    → Step at line (b ∷ rest) [] (at + 1) line rest
step_blank {line = line} e = passed line (λ z V s x. lex.blank e x) (λ z. rw e refl)

-- a byte that ends a line
pub step_line_end : {at : ℕ} {line : Bool} {b : ℕ} {rest : List ℕ} → class_of b ≡ LineEnd
    → Step at line (b ∷ rest) [] (at + 1) true rest
step_line_end e = passed true (λ z V s x. lex.line_end e x) (λ z. rw e refl)

-- a byte that is a token of its own
pub step_mark : {at : ℕ} {line : Bool} {b : ℕ} {rest : List ℕ} (kind : TokenKind) → class_of b ≡ Mark kind →
    Step at line (b ∷ rest) (token kind at (at + 1) line ∷ []) (at + 1) false rest
step_mark {b = b} kind e = record {
  u = b ∷ [];
  split = refl;
  place = omega arith;
  adds = λ z V s k x. lex.mark kind e x;
  word =
      λ _ z. rw e refl;
}

-- a body between bytes that open and a byte that closes
enclosed : {at : ℕ} {line : Bool} {bs : List ℕ} {us : List Token} {there : ℕ} {ended : Bool} {rest : List ℕ} (first body : List ℕ)
    (close : ℕ)
    → bs ≡ first ++ (body ++ (close ∷ rest)) → there ≡ at + (length first + (length body + 1))
    → ((z : List ℕ) (V : List Token) (s : Stop) → Lexes there ended z V s
    → Lexes at line (first ++ (body ++ (close ∷ z))) (us ++ V) s)
    → ((z : List ℕ) → ends_word (first ++ z) ≡ true) → Step at line bs us there ended rest
enclosed {at = at} {line = line} {us = us} {rest = rest} first body close split place adds word = record {
  u = first ++ (body ++ (close ∷ []));
  split = split ∙ sym (joined rest);
  place = omega (arith, place, length-append first (body ++ (close ∷ [])), length-append body (close ∷ []));
  adds = λ z V s k x. subst (λ (t : List ℕ). Lexes at line t (us ++ V) s) (sym (joined z)) (adds z V s x);
  word = λ _ z. subst (λ (t : List ℕ). ends_word t ≡ true) (sym (append_assoc first (body ++ (close ∷ [])) z))
      (word ((body ++ (close ∷ [])) ++ z));
}
  where
    joined : (z : List ℕ) → (first ++ (body ++ (close ∷ []))) ++ z ≡ first ++ (body ++ (close ∷ z))
    joined z = append_assoc first (body ++ (close ∷ [])) z ∙ ap (λ (t : List ℕ). first ++ t) (append_assoc body (close ∷ []) z)

pub step_continuation : {at : ℕ} {line : Bool} {bs : List ℕ} (blanks rest : List ℕ) → AreBlanks blanks
    → bs ≡ 92 ∷ blanks ++ (10 ∷ rest) →
    Step at line bs [] (at + 1 + length blanks + 1) line rest
step_continuation blanks rest all split =
    enclosed (92 ∷ []) blanks 10 split (omega arith) (λ z V s x. lex.continuation blanks z all refl x) (λ z. refl)

-- a comment, which counts as a line end where it has one
pub step_comment : {at : ℕ} {line : Bool} {bs : List ℕ} (body rest : List ℕ) → CommentBytes false true body
    → bs ≡ 47 ∷ 42 ∷ body ++ (47 ∷ rest) →
    Step at line bs [] (at + 2 + length body + 1) (line || list_any (λ b. b == 10) body) rest
step_comment body rest all split = enclosed (47 ∷ 42 ∷ []) body 47 split (omega arith) (λ z V s x. lex.comment body z all refl x)
    (λ z. refl)

-- a text between double quotes
pub step_text : {at : ℕ} {line : Bool} {bs : List ℕ} (body rest : List ℕ) → TextBytes false false body
    → bs ≡ 34 ∷ body ++ (34 ∷ rest) →
    Step at line bs (token Text at (at + 1 + length body + 1) line ∷ []) (at + 1 + length body + 1) false rest
step_text body rest all split = enclosed (34 ∷ []) body 34 split (omega arith) (λ z V s x. lex.text body z all refl x) (λ z. refl)

-- a Word, behind which no byte goes on with it
pub step_word : {at : ℕ} {line : Bool} {bs : List ℕ} (b : ℕ) (w rest : List ℕ) → WordBytes (b ∷ w) rest → bs ≡ b ∷ w ++ rest →
    Step at line bs (token Word at (at + 1 + length w) line ∷ []) (at + 1 + length w) false rest
step_word b w rest (lex.word_byte f more) split = record {
  u = b ∷ w;
  split = split;
  place = omega arith;
  adds = λ z V s k x. lex.word b w z (word_any (lex.word_byte f more) z (k (word_end more))) refl x;
  word = λ h z. (let g = subst (λ (t : List ℕ). ends_word t ≡ true) split h in absurd cc);
}

-- The bytes are q, behind these tokens, and others, which begin at an offset. Before any bytes that may come there q stands as
-- well.
pub record Front (May : List ℕ → Type 0) (at : ℕ) (line : Bool) (bs : List ℕ) (E : List Token) (a : ℕ) (l : Bool) (o : List ℕ) :
    Type 0 where
  pub q : List ℕ
  pub split : bs ≡ q ++ o
  pub place : a ≡ at + length q
  pub goes : (z : List ℕ) (V : List Token) (s : Stop) → May z → Lexes a l z V s → Lexes at line (q ++ z) (E ++ V) s
  pub word : ends_word bs ≡ true → (z : List ℕ) → May z → ends_word (q ++ z) ≡ true

-- one separator or token more in front
pub front_on : {May : List ℕ → Type 0} {at : ℕ} {line : Bool} {bs : List ℕ} {us : List Token} {there : ℕ} {ended : Bool}
    {rest : List ℕ} {E : List Token} {a : ℕ} {l : Bool} {o : List ℕ}
    → Step at line bs us there ended rest → Front May there ended rest E a l o → Front May at line bs (us ++ E) a l o
front_on {at = at} {line = line} {us = us} {E = E} {a = a} {o = o} p f = record {
  q = p.u ++ f.q;
  split = p.split ∙ ap (λ (s : List ℕ). p.u ++ s) f.split ∙ sym (append_assoc p.u f.q o);
  place = omega (arith, f.place, p.place, length-append p.u f.q);
  goes = λ z V s m x.
      subst (λ (t : List ℕ). Lexes at line t ((us ++ E) ++ V) s) (sym (append_assoc p.u f.q z))
      (subst (λ (ts : List Token). Lexes at line (p.u ++ (f.q ++ z)) ts s) (sym (append_assoc us E V))
      (p.adds (f.q ++ z) (E ++ V) s (λ h. f.word h z m) (f.goes z V s m x)));
  word = λ h z m. subst (λ (t : List ℕ). ends_word t ≡ true) (sym (append_assoc p.u f.q z)) (p.word h (f.q ++ z));
}

-- nothing in front
pub front_here : {May : List ℕ → Type 0} {at : ℕ} {line : Bool} {bs : List ℕ}
    → ((z : List ℕ) → May z → ends_word bs ≡ true → ends_word z ≡ true) → Front May at line bs [] at line bs
front_here may = record { q = []; split = refl; place = omega arith; goes = λ z V s m x. x; word = λ h z m. may z m h }
