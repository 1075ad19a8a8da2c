-- The front of a text: what is read of it, beside what is read of the whole.
use Rattle.std.proofs.Common.{◌≡◌, ℕ, ◌+◌, ◌≤◌, ◌<◌, Bool, true, false, List, [], ◌∷◌, ◌++◌, length, ◌⊎◌, inl, inr, refl, sym, ap}
use Rattle.std.proofs.Common.{subst, ◌∙◌, arith, length-append, append_assoc}
use Rattle.std.proofs.lemmas.List.{append-nil}
use Rattle.liberty_text.specs.declared.token.Token.{Token}
use Rattle.liberty_text.specs.declared.token.TokenKind.TheVariants.{Word, Text}
use Rattle.liberty_text.specs.declared.token.Stop.{Stop}
use Rattle.liberty_text.specs.declared.token.Stop.TheVariants.{End, OpenText, OpenComment, OpenContinuation}
use Rattle.liberty_text.specs.Scanner.{token}
use Rattle.liberty_text.specs.Tokens.{is_word_class, opens_comment, ends_word, WordBytes, TextBytes, CommentBytes, AreBlanks}
use Rattle.liberty_text.specs.Tokens.{Lexes}
use Rattle.liberty_text.specs.Tokens as lex
use Rattle.liberty_groups.proofs.Pieces.{word_any, word_end, word_front, word_slash, ends_kept, text_front, text_spaced}
use Rattle.liberty_groups.proofs.Pieces.{comment_front, blanks_front, splits}

-- a comment or a continuation is open
abbrev pub IsSoft : Stop → Type 0
IsSoft (OpenComment a) = Unit {0}
IsSoft (OpenContinuation a) = Unit {0}
IsSoft _ = ⊥

-- What the front bs of a text is read as, where the text is read as the tokens us. It ends between
-- tokens, in a comment or a continuation, in a text, in a word or at the end of one, before the star of
-- a comment behind a word, or before the star of one that no word stands before.
pub data IsCutOf (at : ℕ) (line : Bool) (bs : List ℕ) (us : List Token) : Type 0 where
  between : (E U : List Token) → Lexes at line bs E End → us ≡ E ++ U → IsCutOf at line bs us
  in_soft : (E U : List Token) (s : Stop) → IsSoft s → Lexes at line bs E s → us ≡ E ++ U → IsCutOf at line bs us
  in_text : (E U : List Token) (a e f : ℕ) (l : Bool) → Lexes at line bs E (OpenText a) →
      Lexes at line (bs ++ 32 ∷ 34 ∷ []) (E ++ token Text a f l ∷ []) End → us ≡ E ++ token Text a e l ∷ U → IsCutOf at line bs us
  in_word : (E U : List Token) (a e n : ℕ) (l : Bool) → n ≡ at + length bs → Lexes at line bs (E ++ token Word a n l ∷ []) End →
      us ≡ E ++ token Word a e l ∷ U → a < n → n ≤ e → IsCutOf at line bs us
  in_slash : (E U : List Token) (a e n : ℕ) (l : Bool) (p : List ℕ) → n ≡ at + length bs → bs ≡ p ++ 47 ∷ [] →
      Lexes at line bs (E ++ token Word a n l ∷ []) End → us ≡ E ++ token Word a e l ∷ U → a < e → e + 1 ≡ n
      → IsCutOf at line bs us
  slash_alone : (E U : List Token) (a n : ℕ) (l : Bool) (p : List ℕ) → n ≡ at + length bs → bs ≡ p ++ 47 ∷ [] →
      Lexes at line bs (E ++ token Word a n l ∷ []) End → us ≡ E ++ U → a + 1 ≡ n → IsCutOf at line bs us

-- A cut behind a construct q with tokens pre is one in front of which q stands.
extend : {at a : ℕ} {line l : Bool} {bs front : List ℕ} {us vs : List Token} (q : List ℕ) (pre : List Token) →
    bs ≡ q ++ front → us ≡ pre ++ vs → a ≡ at + length q →
    ((z : List ℕ) (V : List Token) (s : Stop) → (z ≡ front) ⊎ (z ≡ front ++ 32 ∷ 34 ∷ []) → Lexes a l z V s
    → Lexes at line (q ++ z) (pre ++ V) s) →
    IsCutOf a l front vs → IsCutOf at line bs us
extend {at = at} {line = line} {bs = bs} {front = front} {us = us} q pre split tokens place goes (between E U d e) =
    between (pre ++ E) U (subst (λ (t : List ℕ). Lexes at line t (pre ++ E) End) (sym split) (goes front E End (inl refl) d))
    (tokens ∙ ap (λ (t : List Token). pre ++ t) e ∙ sym (append_assoc pre E U))
extend {at = at} {line = line} {bs = bs} {front = front} {us = us} q pre split tokens place goes (in_soft E U s soft d e) =
    in_soft (pre ++ E) U s soft (subst (λ (t : List ℕ). Lexes at line t (pre ++ E) s) (sym split) (goes front E s (inl refl) d))
    (tokens ∙ ap (λ (t : List Token). pre ++ t) e ∙ sym (append_assoc pre E U))
extend {at = at} {line = line} {bs = bs} {front = front} {us = us} q pre split tokens place goes (in_text E U b e f l d c i) =
    in_text (pre ++ E) U b e f l (subst (λ (t : List ℕ). Lexes at line t (pre ++ E) (OpenText b)) (sym split)
    (goes front E (OpenText b) (inl refl) d))
    (subst (λ (t : List ℕ). Lexes at line t ((pre ++ E) ++ token Text b f l ∷ []) End)
    (sym (append_assoc q front (32 ∷ 34 ∷ [])) ∙ ap (λ (t : List ℕ). t ++ 32 ∷ 34 ∷ []) (sym split))
    (subst (λ (t : List Token). Lexes at line (q ++ (front ++ 32 ∷ 34 ∷ [])) t End)
    (sym (append_assoc pre E (token Text b f l ∷ [])))
    (goes (front ++ 32 ∷ 34 ∷ []) (E ++ token Text b f l ∷ []) End (inr refl) c)))
    (tokens ∙ ap (λ (t : List Token). pre ++ t) i ∙ sym (append_assoc pre E (token Text b e l ∷ U)))
extend {at = at} {line = line} {bs = bs} {front = front} {us = us} q pre split tokens place goes (in_word E U b e n l h d i j k) =
    in_word (pre ++ E) U b e n l (let x = ap length split in let y = length-append q front in omega arith)
    (subst (λ (t : List ℕ). Lexes at line t ((pre ++ E) ++ token Word b n l ∷ []) End) (sym split)
    (subst (λ (t : List Token). Lexes at line (q ++ front) t End) (sym (append_assoc pre E (token Word b n l ∷ [])))
    (goes front (E ++ token Word b n l ∷ []) End (inl refl) d)))
    (tokens ∙ ap (λ (t : List Token). pre ++ t) i ∙ sym (append_assoc pre E (token Word b e l ∷ U))) j k
extend {at = at} {line = line} {bs = bs} {front = front} {us = us} q pre split tokens place goes
    (in_slash E U b e n l p h g d i j k) =
    in_slash (pre ++ E) U b e n l (q ++ p) (let x = ap length split in let y = length-append q front in omega arith)
    (split ∙ ap (λ (t : List ℕ). q ++ t) g ∙ sym (append_assoc q p (47 ∷ [])))
    (subst (λ (t : List ℕ). Lexes at line t ((pre ++ E) ++ token Word b n l ∷ []) End) (sym split)
    (subst (λ (t : List Token). Lexes at line (q ++ front) t End) (sym (append_assoc pre E (token Word b n l ∷ [])))
    (goes front (E ++ token Word b n l ∷ []) End (inl refl) d)))
    (tokens ∙ ap (λ (t : List Token). pre ++ t) i ∙ sym (append_assoc pre E (token Word b e l ∷ U))) j k
extend {at = at} {line = line} {bs = bs} {front = front} {us = us} q pre split tokens place goes
    (slash_alone E U b n l p h g d i j) =
    slash_alone (pre ++ E) U b n l (q ++ p) (let x = ap length split in let y = length-append q front in omega arith)
    (split ∙ ap (λ (t : List ℕ). q ++ t) g ∙ sym (append_assoc q p (47 ∷ [])))
    (subst (λ (t : List ℕ). Lexes at line t ((pre ++ E) ++ token Word b n l ∷ []) End) (sym split)
    (subst (λ (t : List Token). Lexes at line (q ++ front) t End) (sym (append_assoc pre E (token Word b n l ∷ [])))
    (goes front (E ++ token Word b n l ∷ []) End (inl refl) d)))
    (tokens ∙ ap (λ (t : List Token). pre ++ t) i ∙ sym (append_assoc pre E U)) j

head_is : {a b : ℕ} {s t : List ℕ} → a ∷ s ≡ b ∷ t → a ≡ b
head_is e = cc

tail_is : {a b : ℕ} {s t : List ℕ} → a ∷ s ≡ b ∷ t → s ≡ t
tail_is e = cc

-- a front that covers a construct of a first byte, a body and a last byte
covers : (first : List ℕ) (u : List ℕ) (last x : ℕ) (r bs : List ℕ) → bs ≡ u ++ x ∷ r → x ≡ last
    → first ++ bs ≡ (first ++ u ++ last ∷ []) ++ r
covers first u last x r bs e h =
    ap (λ (s : List ℕ). first ++ s) (e ∙ ap (λ (y : ℕ). u ++ (y ∷ r)) h)
    ∙ sym (append_assoc first u (last ∷ r))
    ∙ sym (append_assoc (first ++ u) (last ∷ []) r)

pub cuts : {at : ℕ} {line : Bool} {full : List ℕ} {us : List Token} → Lexes at line full us End → (bs more : List ℕ)
    → full ≡ bs ++ more → IsCutOf at line bs us
cuts lex.end [] more e = between [] [] lex.end refl
cuts lex.end (c ∷ bs) more e = absurd cc
cuts {us = us} (lex.blank f d) [] more e = between [] us lex.end refl
cuts {at = at} (lex.blank {b = b} f d) (c ∷ bs) more e =
    extend (b ∷ []) [] (ap (λ (x : ℕ). x ∷ bs) (sym (head_is e))) refl (omega arith) (λ z V s w x. lex.blank f x)
    (cuts d bs more (tail_is e))
cuts {us = us} (lex.line_end f d) [] more e = between [] us lex.end refl
cuts {at = at} (lex.line_end {b = b} f d) (c ∷ bs) more e =
    extend (b ∷ []) [] (ap (λ (x : ℕ). x ∷ bs) (sym (head_is e))) refl (omega arith) (λ z V s w x. lex.line_end f x)
    (cuts d bs more (tail_is e))
cuts {us = us} (lex.continuation blanks rest all split d) [] more e = between [] us lex.end refl
cuts {at = at} {line = line} {us = us} (lex.continuation blanks rest all split d) (c ∷ bs) more e =
    let g : c ∷ (bs ++ more) ≡ 92 ∷ (blanks ++ (10 ∷ rest)) = sym e ∙ split in
    let k = length-append blanks (10 ∷ []) in
    elim (splits bs more blanks (10 ∷ rest) (tail_is g)) [
      | inl (v, i, j) ↦
          in_soft [] us (OpenContinuation at) tt
          (subst (λ (x : ℕ). Lexes at line (x ∷ bs) [] (OpenContinuation at)) (sym (head_is g))
          (lex.open_continuation (blanks_front bs v (subst AreBlanks i all)))) refl
      | inr (x, r, i, j) ↦
          extend (92 ∷ blanks ++ 10 ∷ []) []
          (ap (λ (y : ℕ). y ∷ bs) (head_is g) ∙ covers (92 ∷ []) blanks 10 x r bs i (sym (head_is j))) refl (omega arith)
          (λ z V s w y. lex.continuation blanks z all (ap (λ (t : List ℕ). 92 ∷ t) (append_assoc blanks (10 ∷ []) z)) y)
          (cuts d r more (tail_is j))
    ]
cuts {us = us} (lex.comment body rest all split d) [] more e = between [] us lex.end refl
cuts {at = at} {line = line} {us = us} (lex.comment body rest all split d) (c ∷ []) more e =
    let g : c ∷ more ≡ 47 ∷ 42 ∷ (body ++ (47 ∷ rest)) = sym e ∙ split in
    slash_alone [] us at (at + 1 + 0) line [] (omega arith) (ap (λ (x : ℕ). x ∷ []) (head_is g))
    (subst (λ (x : ℕ). Lexes at line (x ∷ []) (token Word at (at + 1 + 0) line ∷ []) End) (sym (head_is g))
    (lex.word 47 [] [] (lex.word_byte refl (lex.word_ends refl)) refl lex.end)) refl (omega arith)
cuts {at = at} {line = line} {us = us} (lex.comment body rest all split d) (c ∷ b ∷ bs) more e =
    let g : c ∷ b ∷ (bs ++ more) ≡ 47 ∷ 42 ∷ (body ++ (47 ∷ rest)) = sym e ∙ split in
    let k = length-append body (47 ∷ []) in
    elim (splits bs more body (47 ∷ rest) (tail_is (tail_is g))) [
      | inl (v, i, j) ↦
          (let p = comment_front bs v (subst (CommentBytes false true) i all) in
          in_soft [] us (OpenComment at) tt
          (subst (λ (x : ℕ). Lexes at line (x ∷ b ∷ bs) [] (OpenComment at)) (sym (head_is g))
          (subst (λ (x : ℕ). Lexes at line (47 ∷ x ∷ bs) [] (OpenComment at)) (sym (head_is (tail_is g)))
          (lex.open_comment p.0 p.1))) refl)
      | inr (x, r, i, j) ↦
          extend (47 ∷ 42 ∷ body ++ 47 ∷ []) []
          (ap (λ (y : ℕ). y ∷ b ∷ bs) (head_is g) ∙ ap (λ (y : ℕ). 47 ∷ y ∷ bs) (head_is (tail_is g))
          ∙ covers (47 ∷ 42 ∷ []) body 47 x r bs i (sym (head_is j))) refl (omega arith)
          (λ z V s w y. lex.comment body z all (ap (λ (t : List ℕ). 47 ∷ 42 ∷ t) (append_assoc body (47 ∷ []) z)) y)
          (cuts d r more (tail_is j))
    ]
cuts {us = us} (lex.mark kind f d) [] more e = between [] us lex.end refl
cuts {at = at} {line = line} (lex.mark {b = b} kind f d) (c ∷ bs) more e =
    extend (b ∷ []) (token kind at (at + 1) line ∷ []) (ap (λ (x : ℕ). x ∷ bs) (sym (head_is e))) refl (omega arith)
    (λ z V s w x. lex.mark kind f x) (cuts d bs more (tail_is e))
cuts {us = us} (lex.text body rest all split d) [] more e = between [] us lex.end refl
cuts {at = at} {line = line} (lex.text {ts = ts} body rest all split d) (c ∷ bs) more e =
    let g : c ∷ (bs ++ more) ≡ 34 ∷ (body ++ (34 ∷ rest)) = sym e ∙ split in
    let k = length-append body (34 ∷ []) in
    elim (splits bs more body (34 ∷ rest) (tail_is g)) [
      | inl (v, i, j) ↦
          (let p = text_front bs v (subst (TextBytes false false) i all) in
          let f = at + 1 + length (bs ++ 32 ∷ []) + 1 in
          in_text [] ts at (at + 1 + length body + 1) f line
          (subst (λ (x : ℕ). Lexes at line (x ∷ bs) [] (OpenText at)) (sym (head_is g)) (lex.open_text p.0 p.1))
          (subst (λ (x : ℕ). Lexes at line (x ∷ (bs ++ 32 ∷ 34 ∷ [])) (token Text at f line ∷ []) End) (sym (head_is g))
          (lex.text (bs ++ 32 ∷ []) [] (text_spaced p.1) (ap (λ (t : List ℕ). 34 ∷ t) (sym (append_assoc bs (32 ∷ []) (34 ∷ []))))
          lex.end)) refl)
      | inr (x, r, i, j) ↦
          extend (34 ∷ body ++ 34 ∷ []) (token Text at (at + 1 + length body + 1) line ∷ [])
          (ap (λ (y : ℕ). y ∷ bs) (head_is g) ∙ covers (34 ∷ []) body 34 x r bs i (sym (head_is j))) refl (omega arith)
          (λ z V s w y. lex.text body z all (ap (λ (t : List ℕ). 34 ∷ t) (append_assoc body (34 ∷ []) z)) y)
          (cuts d r more (tail_is j))
    ]
cuts {us = us} (lex.word b w rest bytes split d) [] more e = between [] us lex.end refl
cuts {at = at} {line = line} (lex.word {ts = ts} b w rest (lex.word_byte f inner) split d) (c ∷ bs) more e =
    let g : c ∷ (bs ++ more) ≡ b ∷ (w ++ rest) = sym e ∙ split in
    let h : b ≡ c = sym (head_is g) in
    elim (splits bs more w rest (tail_is g)) [
      | inl (v, i, j) ↦
          (let p = word_front (b ∷ bs) v rest (subst (λ (t : List ℕ). WordBytes (b ∷ t) rest) i (lex.word_byte f inner)) in
          let k = ap length i in let m = length-append bs v in
          in_word [] ts at (at + 1 + length w) (at + 1 + length bs) line (omega arith)
          (subst (λ (x : ℕ). Lexes at line (x ∷ bs) (token Word at (at + 1 + length bs) line ∷ []) End) h
          (lex.word b bs [] p (ap (λ (t : List ℕ). b ∷ t) (sym (append-nil bs))) lex.end)) refl (omega arith) (omega arith))
      | inr (x, r, i, j) ↦
          (elim (ends_kept x r more (subst (λ (t : List ℕ). ends_word t ≡ true) j (word_end inner))) [
            | inl kept ↦
                (let goes : (z : List ℕ) → (z ≡ x ∷ r) ⊎ (z ≡ (x ∷ r) ++ 32 ∷ 34 ∷ []) → ends_word z ≡ true =
                λ z w. elim w [
                  | inl q ↦ subst (λ (t : List ℕ). ends_word t ≡ true) (append-nil (x ∷ r) ∙ sym q) (kept [])
                  | inr q ↦ subst (λ (t : List ℕ). ends_word t ≡ true) (sym q) (kept (32 ∷ 34 ∷ []))
                ] in
                extend (b ∷ w) (token Word at (at + 1 + length w) line ∷ [])
                (ap (λ (y : ℕ). y ∷ bs) (sym h) ∙ ap (λ (t : List ℕ). b ∷ t) i) refl (omega arith)
                (λ z V s q y. lex.word b w z (word_any (lex.word_byte f inner) z (goes z q)) refl y)
                (cuts d (x ∷ r) more j))
            | inr (none, slash) ↦
                (let p : bs ≡ w ++ 47 ∷ [] = i ∙ ap (λ (t : List ℕ). w ++ x ∷ t) none ∙ ap (λ (y : ℕ). w ++ y ∷ []) slash in
                let k = ap length p in let m = length-append w (47 ∷ []) in
                in_slash [] ts at (at + 1 + length w) (at + 1 + length bs) line (b ∷ w) (omega arith)
                (ap (λ (y : ℕ). y ∷ bs) (sym h) ∙ ap (λ (t : List ℕ). b ∷ t) p)
                (subst (λ (y : ℕ). Lexes at line (y ∷ bs) (token Word at (at + 1 + length bs) line ∷ []) End) h
                (lex.word b bs [] (subst (λ (t : List ℕ). WordBytes (b ∷ t) []) (sym p) (word_slash (lex.word_byte f inner)))
                (ap (λ (t : List ℕ). b ∷ t) (sym (append-nil bs))) lex.end))
                refl (omega arith) (omega arith))
          ])
    ]
