-- Some library text begins with the bytes exactly where the code says that it may go on.
use Rattle.std.proofs.Common.{◌≡◌, ℕ, ◌+◌, ◌==◌, ◌||◌, ◌&&◌, Bool, true, false, nat_eq, List, [], ◌∷◌, ◌++◌, length, drop}
use Rattle.std.proofs.Common.{slice_range, Option, Some, None, inl, inr, refl, sym, ap, subst, ◌∙◌, arith, length-append}
use Rattle.std.proofs.Common.{append_assoc}
use Rattle.std.specs.Prelude.{option_and_then, is_some, codes}
use Rattle.std.specs.Str.{bytes_eq}
use Rattle.std.specs.List.{starts_with, list_any}
use Rattle.std.proofs.lemmas.List.{append-nil}
use Rattle.std.proofs.lemmas.Bool.{or_cases as or_splits, and_parts as and_splits}
use Rattle.liberty_text.specs.declared.token.Token.{Token}
use Rattle.liberty_text.specs.declared.token.TokenKind.TheVariants.{Word, Text}
use Rattle.liberty_text.specs.declared.token.Stop.{Stop}
use Rattle.liberty_text.specs.declared.token.Stop.TheVariants.{End, BadByte, OpenText, OpenComment, OpenContinuation}
use Rattle.liberty_text.specs.Scanner.{token, scan_of}
use Rattle.liberty_text.specs.Tokens.{ends_word, WordBytes, TextBytes, CommentBytes, Lexes, Reads}
use Rattle.liberty_text.specs.Tokens as lex
use Rattle.liberty_text.proofs.Complete.{one_reading}
use Rattle.liberty_groups.specs.declared.outline.Standing.{Standing}
use Rattle.liberty_groups.specs.declared.outline.Standing.TheVariants.{Start, AfterLibrary}
use Rattle.liberty_groups.specs.Lexeme.{Lexeme, lexemes_of, LieInside}
use Rattle.liberty_groups.specs.Outline.{stands, has_outline}
use Rattle.liberty_groups.specs.Answer.{IsLibraryText, IsFrontOfText, may_become_other, goes_on_after}
use Rattle.liberty_groups.proofs.Lexemes.{bytes_are, begins_with, slice_more, slice_end, lexemes_more, lexemes-append}
use Rattle.liberty_groups.proofs.Lexemes.{inside_reads, inside_front}
use Rattle.liberty_groups.proofs.Pieces.{text_spaced, comment_starred, splits, head_same, tail_same}
use Rattle.liberty_groups.proofs.Contexts.{Context, context, IsOpen}
use Rattle.liberty_groups.proofs.LastWords.{LastWord, last_word}
use Rattle.liberty_groups.proofs.Completions.{stands-append, done_whole, tail, completes, library_bytes, first_word}

-- Bytes q and an open end o, closed by cl behind the tokens E and C, where the outline stands at p.
closing : (bytes q o cl : List ℕ) (a : ℕ) (l m : Bool) (E C : List Token) (p : Standing) → bytes ≡ q ++ o → a ≡ 0 + length q →
    ((y : List ℕ) (V : List Token) (s : Stop) → Lexes a l ((o ++ cl) ++ y) V s → Lexes 0 false (q ++ ((o ++ cl) ++ y)) (E ++ V) s)
    →
    ((y : List ℕ) (V : List Token) (s : Stop) → Lexes (a + length (o ++ cl)) m y V s → Lexes a l ((o ++ cl) ++ y) (C ++ V) s) →
    stands Start (lexemes_of (bytes ++ cl) (E ++ C)) ≡ Some p → IsFrontOfText bytes
closing bytes q o cl a l m E C p split place goes opens at =
    let text = bytes ++ cl in
    let long = length-append q (o ++ cl) in
    let long' : length text ≡ a + length (o ++ cl) =
    (let i = ap length split in let j = length-append bytes cl in let k = length-append q o in let h = length-append o cl
    in omega arith) in
    let joins : (y : List ℕ) → q ++ ((o ++ cl) ++ y) ≡ text ++ y =
    λ y. sym (append_assoc q (o ++ cl) y)
    ∙ ap (λ (t : List ℕ). t ++ y) (sym (append_assoc q o cl) ∙ ap (λ (t : List ℕ). t ++ cl) (sym split)) in
    let reads : (y : List ℕ) (V : List Token) (s : Stop) → Lexes (length text) m y V s
    → Lexes 0 false (text ++ y) ((E ++ C) ++ V) s =
    λ y V s d. subst (λ (t : List ℕ). Lexes 0 false t ((E ++ C) ++ V) s) (joins y)
    (subst (λ (t : List Token). Lexes 0 false (q ++ ((o ++ cl) ++ y)) t s) (sym (append_assoc E C V))
    (goes y (C ++ V) s (opens y V s (subst (λ (n : ℕ). Lexes n m y V s) long' d)))) in
    let here : Lexes 0 false text (E ++ C) End =
    subst (λ (t : List ℕ). Lexes 0 false t (E ++ C) End) (append-nil text)
    (subst (λ (t : List Token). Lexes 0 false (text ++ []) t End) (append-nil (E ++ C)) (reads [] [] End lex.end)) in
    let c = completes p text (length text) m refl in
    let same : lexemes_of (text ++ tail p) ((E ++ C) ++ c.0) ≡ lexemes_of text (E ++ C) ++ lexemes_of (text ++ tail p) c.0 =
    lexemes-append (text ++ tail p) (E ++ C) c.0
    ∙ ap (λ (t : List Lexeme). t ++ lexemes_of (text ++ tail p) c.0) (lexemes_more text (tail p) (E ++ C) (inside_reads here)) in
    let w = done_whole (lexemes_of (text ++ tail p) ((E ++ C) ++ c.0))
    (ap (stands Start) same ∙ stands-append Start p (lexemes_of text (E ++ C)) (lexemes_of (text ++ tail p) c.0) at ∙ c.2) in (
      cl ++ tail p,
      subst IsLibraryText (append_assoc bytes cl (tail p)) ((E ++ C) ++ c.0, w.0, reads (tail p) c.0 End c.1, w.1),
    )

-- what stands for bytes also stands with no token more, in a longer text
longer_stands : (bytes more : List ℕ) (ts : List Token) (p : Standing) → LieInside bytes ts
    → stands Start (lexemes_of bytes ts) ≡ Some p →
    stands Start (lexemes_of (bytes ++ more) (ts ++ [])) ≡ Some p
longer_stands bytes more ts p h e =
    ap (λ (t : List Token). stands Start (lexemes_of (bytes ++ more) t)) (append-nil ts)
    ∙ ap (stands Start) (lexemes_more bytes more ts h) ∙ e

-- bytes that are the front of a library, and end between tokens or in a comment or a continuation
pub front_goes_on : (bytes : List ℕ) (ts : List Token) (stop : Stop) (p : Standing) → Reads bytes ts stop
    → stands Start (lexemes_of bytes ts) ≡ Some p →
    goes_on_after bytes stop ≡ true → IsFrontOfText bytes
front_goes_on bytes ts End p d e g =
    let c = context d in
    let none : c.o ≡ [] = c.is_open in
    closing bytes c.q [] (32 ∷ []) c.a c.l c.l ts [] p (c.split ∙ ap (λ (t : List ℕ). c.q ++ t) none) c.place
    (λ y V s x. c.goes _ V s refl x)
    (λ y V s x. lex.blank refl x) (longer_stands bytes (32 ∷ []) ts p (inside_reads d) e)
front_goes_on bytes ts (BadByte b) p d e g = absurd cc
front_goes_on bytes ts (OpenComment b) p d e g = comment (context d) (context d).is_open
  where
    comment : (c : Context 0 false bytes ts (OpenComment b)) → IsOpen (OpenComment b) c.a c.o → IsFrontOfText bytes
    comment c (i, body, last, begun, all) =
        let o = 47 ∷ 42 ∷ body in
        let j : length (o ++ 32 ∷ 42 ∷ 47 ∷ []) ≡ 2 + length (body ++ 32 ∷ 42 ∷ []) + 1 =
        (let k = length-append body (32 ∷ 42 ∷ 47 ∷ []) in let h = length-append body (32 ∷ 42 ∷ []) in omega arith) in
        let place : c.a + length (o ++ 32 ∷ 42 ∷ 47 ∷ []) ≡ c.a + 2 + length (body ++ 32 ∷ 42 ∷ []) + 1 = omega arith in
        closing bytes c.q o (32 ∷ 42 ∷ 47 ∷ []) c.a c.l (c.l || list_any (λ x. x == 10) (body ++ 32 ∷ 42 ∷ [])) ts [] p
        (c.split ∙ ap (λ (t : List ℕ). c.q ++ t) begun) c.place (λ y V s x. c.goes _ V s refl x)
        (λ y V s x. lex.comment (body ++ 32 ∷ 42 ∷ []) y (comment_starred all)
        (ap (λ (t : List ℕ). 47 ∷ 42 ∷ t)
        (append_assoc body (32 ∷ 42 ∷ 47 ∷ []) y ∙ sym (append_assoc body (32 ∷ 42 ∷ []) (47 ∷ y))))
        (subst (λ (n : ℕ). Lexes n (c.l || list_any (λ x. x == 10) (body ++ 32 ∷ 42 ∷ [])) y V s) place x))
        (longer_stands bytes (32 ∷ 42 ∷ 47 ∷ []) ts p (inside_reads d) e)
front_goes_on bytes ts (OpenContinuation b) p d e g = continuation (context d) (context d).is_open
  where
    continuation : (c : Context 0 false bytes ts (OpenContinuation b)) → IsOpen (OpenContinuation b) c.a c.o → IsFrontOfText bytes
    continuation c (i, blanks, begun, all) =
        let o = 92 ∷ blanks in
        let place : c.a + length (o ++ 10 ∷ []) ≡ c.a + 1 + length blanks + 1 =
        (let k = length-append blanks (10 ∷ []) in omega arith) in
        closing bytes c.q o (10 ∷ []) c.a c.l c.l ts [] p (c.split ∙ ap (λ (t : List ℕ). c.q ++ t) begun) c.place
        (λ y V s x. c.goes _ V s refl x)
        (λ y V s x. lex.continuation blanks y all (ap (λ (t : List ℕ). 92 ∷ t) (append_assoc blanks (10 ∷ []) y))
        (subst (λ (n : ℕ). Lexes n c.l y V s) place x))
        (longer_stands bytes (10 ∷ []) ts p (inside_reads d) e)
front_goes_on bytes ts (OpenText b) p d e g = text (context d) (context d).is_open
  where
    text : (c : Context 0 false bytes ts (OpenText b)) → IsOpen (OpenText b) c.a c.o → IsFrontOfText bytes
    text c (i, body, last, begun, all) =
        let o = 34 ∷ body in
        let cl = 32 ∷ 34 ∷ [] in
        let f = c.a + 1 + length (body ++ 32 ∷ []) + 1 in
        let C = token Text c.a f c.l ∷ [] in
        let place : c.a + length (o ++ cl) ≡ f = (let k = length-append body cl in let h = length-append body (32 ∷ [])
        in omega arith) in
        let split = c.split ∙ ap (λ (t : List ℕ). c.q ++ t) begun in
        let opens : (y : List ℕ) (V : List Token) (s : Stop) → Lexes (c.a + length (o ++ cl)) false y V s
        → Lexes c.a c.l ((o ++ cl) ++ y) (C ++ V) s =
        λ y V s x. lex.text (body ++ 32 ∷ []) y (text_spaced all)
        (ap (λ (t : List ℕ). 34 ∷ t) (append_assoc body cl y ∙ sym (append_assoc body (32 ∷ []) (34 ∷ y))))
        (subst (λ (n : ℕ). Lexes n false y V s) place x) in
        let joins : c.q ++ ((o ++ cl) ++ []) ≡ bytes ++ cl =
        ap (λ (t : List ℕ). c.q ++ t) (append-nil (o ++ cl)) ∙ sym (append_assoc c.q o cl)
        ∙ ap (λ (t : List ℕ). t ++ cl) (sym split) in
        let closed : Reads (bytes ++ cl) (ts ++ C) End =
        subst (λ (t : List ℕ). Lexes 0 false t (ts ++ C) End) joins
        (c.goes ((o ++ cl) ++ []) C End refl (opens [] [] End lex.end)) in
        let scanned : scan_of (bytes ++ cl) ≡ (ts ++ C, End) = (one_reading (bytes ++ cl) (ts ++ C) End).0 closed in
        let outlined : is_some (stands Start (lexemes_of (bytes ++ cl) (ts ++ C))) ≡ true =
        ap (λ (r : List Token × Stop). has_outline (lexemes_of (bytes ++ cl) r.0)) (sym scanned) ∙ g in
        let q = some_of (stands Start (lexemes_of (bytes ++ cl) (ts ++ C))) outlined in
        closing bytes c.q o cl c.a c.l false ts C q.0 split c.place (λ y V s x. c.goes _ V s refl x) opens q.1
      where
        some_of : (o : Option Standing) → is_some o ≡ true → (q : Standing) × (o ≡ Some q)
        some_of None h = absurd cc
        some_of (Some q) h = (q, refl)

-- the letters of the name of a library
abbrev pub name : List ℕ
name = 108 ∷ 105 ∷ 98 ∷ 114 ∷ 97 ∷ 114 ∷ 121 ∷ []

star_stars : CommentBytes false true (42 ∷ [])
star_stars = lex.comment_byte refl lex.comment_ends

-- the bytes of a word from an offset on, where the bytes before it and behind it are known
pub word_slice : (text q u r : List ℕ) (a n : ℕ) → text ≡ q ++ (u ++ r) → a ≡ length q → n ≡ a + length u
    → slice_range text a n ≡ u
word_slice text q u r a n e f g =
    let k = length-append q u in
    ap (λ (t : List ℕ). slice_range t a n) (e ∙ sym (append_assoc q u r))
    ∙ slice_more (q ++ u) r a n (omega arith) (omega arith)
    ∙ slice_end q u a n f g

no_more : (r s : List ℕ) → [] ≡ r ++ s → r ≡ []
no_more [] s e = refl
no_more (x ∷ r) s e = absurd cc

-- one word that is the name of a library, at its place
name_stands : (text : List ℕ) (a n : ℕ) (l : Bool) → slice_range text a n ≡ name
    → stands Start (lexemes_of text ([] ++ token Word a n l ∷ [])) ≡ Some AfterLibrary
name_stands text a n l e = ap (λ (o : Option Standing). option_and_then (λ q. Some q) o) (first_word text a n l e)

-- a last word that is a slash, before a comment
slash_goes_on : (bytes : List ℕ) (E : List Token) (a n : ℕ) (l : Bool) (p : Standing) → (w : LastWord 0 false bytes E a n l)
    → LieInside bytes E →
    stands Start (lexemes_of bytes E) ≡ Some p → w.b ∷ w.w ≡ 47 ∷ [] → IsFrontOfText bytes
slash_goes_on bytes E a n l p w h e i =
    let m = l || list_any (λ x. x == 10) (42 ∷ []) in
    closing bytes w.q (47 ∷ []) (42 ∷ 42 ∷ 47 ∷ []) a l m E [] p (w.split ∙ ap (λ (t : List ℕ). w.q ++ t) i) w.place
    (λ y V s x. w.goes _ V s x)
    (λ y V s x. (let k : a + 4 ≡ a + 2 + 1 + 1 = omega arith
    in lex.comment (42 ∷ []) y star_stars refl (subst (λ (j : ℕ). Lexes j m y V s) k x)))
    (longer_stands bytes (42 ∷ 42 ∷ 47 ∷ []) E p h e)

-- a last word, alone, with which the name of a library begins
name_goes_on : (bytes : List ℕ) (a n : ℕ) (l : Bool) → (w : LastWord 0 false bytes [] a n l) → (r : List ℕ)
    → name ++ 47 ∷ [] ≡ (w.b ∷ w.w) ++ r → IsFrontOfText bytes
name_goes_on bytes a n l w r e =
    elim (splits (w.b ∷ w.w) r name (47 ∷ []) (sym e)) [ inl i ↦ short i.0 i.1 | inr i ↦ with_slash i.0 i.1 i.2 i.3 ]
  where
    place : a ≡ length w.q
    place = let h = w.place in omega arith

    short : (v : List ℕ) → name ≡ (w.b ∷ w.w) ++ v → IsFrontOfText bytes
    short v i =
        let k = a + 1 + length (w.w ++ v) in
        let cl = v ++ 32 ∷ [] in
        let c = token Word a k l ∷ [] in
        let g = length-append w.w v in let h = length-append v (32 ∷ []) in let f = length-append w.w cl in
        let text : bytes ++ cl ≡ w.q ++ (name ++ 32 ∷ []) =
        ap (λ (t : List ℕ). t ++ cl) w.split ∙ append_assoc w.q (w.b ∷ w.w) cl
        ∙ ap (λ (t : List ℕ). w.q ++ t) (sym (append_assoc (w.b ∷ w.w) v (32 ∷ [])))
        ∙ ap (λ (t : List ℕ). w.q ++ (t ++ 32 ∷ [])) (sym i) in
        let u : k ≡ a + length name = (let j = ap length i in omega arith) in
        closing bytes w.q (w.b ∷ w.w) cl a l false [] c AfterLibrary w.split w.place (λ y V s x. w.goes _ V s x)
        (λ y V s x. lex.word w.b (w.w ++ v) (32 ∷ y)
        (subst (λ (t : List ℕ). WordBytes t (32 ∷ y)) i (library_bytes (32 ∷ y) refl))
        (append_assoc (w.b ∷ w.w) cl y ∙ ap (λ (t : List ℕ). (w.b ∷ w.w) ++ t) (append_assoc v (32 ∷ []) y)
        ∙ sym (append_assoc (w.b ∷ w.w) v (32 ∷ y)))
        (let z : a + length ((w.b ∷ w.w) ++ cl) ≡ k + 1 = omega arith
        in lex.blank refl (subst (λ (j : ℕ). Lexes j false y V s) z x)))
        (name_stands (bytes ++ cl) a k l (word_slice (bytes ++ cl) w.q name (32 ∷ []) a k text place u))

    with_slash : (c : ℕ) (t : List ℕ) → w.b ∷ w.w ≡ name ++ c ∷ t → 47 ∷ [] ≡ (c ∷ t) ++ r → IsFrontOfText bytes
    with_slash c t i j =
        let slash : 47 ≡ c = head_same j in
        let none : t ≡ [] = no_more t r (tail_same j) in
        let o = name ++ 47 ∷ [] in
        let cl = 42 ∷ 42 ∷ 47 ∷ [] in
        let word : w.b ∷ w.w ≡ o = i ∙ ap (λ (s : List ℕ). name ++ c ∷ s) none ∙ ap (λ (x : ℕ). name ++ x ∷ []) (sym slash) in
        let k = a + 1 + 6 in
        let split : bytes ≡ w.q ++ o = w.split ∙ ap (λ (t : List ℕ). w.q ++ t) word in
        let text : bytes ++ cl ≡ w.q ++ (name ++ (47 ∷ cl)) = ap (λ (t : List ℕ). t ++ cl) split ∙ append_assoc w.q o cl in
        let u : k ≡ a + length name = omega arith in
        closing bytes w.q o cl a l (false || list_any (λ x. x == 10) (42 ∷ [])) [] (token Word a k l ∷ []) AfterLibrary split
        w.place (λ y V s x. w.goes _ V s x)
        (λ y V s x. lex.word 108 (105 ∷ 98 ∷ 114 ∷ 97 ∷ 114 ∷ 121 ∷ []) (47 ∷ 42 ∷ 42 ∷ 47 ∷ y)
        (library_bytes (47 ∷ 42 ∷ 42 ∷ 47 ∷ y) refl) refl
        (let z : a + 11 ≡ k + 2 + 1 + 1 = omega arith in
        lex.comment (42 ∷ []) y star_stars refl
        (subst (λ (j : ℕ). Lexes j (false || list_any (λ x. x == 10) (42 ∷ [])) y V s) z x)))
        (name_stands (bytes ++ cl) a k l (word_slice (bytes ++ cl) w.q name (47 ∷ cl) a k text place u))

-- a last word that may become another token
pub word_goes_on : (bytes : List ℕ) (E : List Token) (a n : ℕ) (l is_only : Bool) (p : Standing)
    → Reads bytes (E ++ token Word a n l ∷ []) End → n ≡ length bytes →
    stands Start (lexemes_of bytes E) ≡ Some p → may_become_other is_only (slice_range bytes a n) ≡ true
    → (is_only ≡ true → E ≡ []) → IsFrontOfText bytes
word_goes_on bytes E a n l is_only p d h e m only =
    let w = last_word d E a n l refl (omega arith) in
    let long = w.long in
    let at = w.place in
    let bytes_are_word : slice_range bytes a n ≡ w.b ∷ w.w =
    ap (λ (t : List ℕ). slice_range t a n) w.split ∙ slice_end w.q (w.b ∷ w.w) a n (omega arith) (omega arith) in
    elim (or_splits (bytes_eq (slice_range bytes a n) (codes "/"))
    (is_only && starts_with nat_eq (codes "library/") (slice_range bytes a n)) m) [
      | inl i ↦ slash_goes_on bytes E a n l p w (inside_front bytes E (token Word a n l ∷ []) (inside_reads d)) e
          (sym bytes_are_word ∙ bytes_are (slice_range bytes a n) (codes "/") i)
      | inr i ↦
          (let j = and_splits is_only (starts_with nat_eq (codes "library/") (slice_range bytes a n)) i in
          let none = only j.0 in
          let first : Reads bytes ([] ++ token Word a n l ∷ []) End =
          subst (λ (t : List Token). Lexes 0 false bytes (t ++ token Word a n l ∷ []) End) none d in
          let v = last_word first [] a n l refl (omega arith) in
          let long' = v.long in
          let at' = v.place in
          let word' : slice_range bytes a n ≡ v.b ∷ v.w =
          ap (λ (t : List ℕ). slice_range t a n) v.split ∙ slice_end v.q (v.b ∷ v.w) a n (omega arith) (omega arith) in
          name_goes_on bytes a n l v (drop (length (slice_range bytes a n)) (codes "library/"))
          (begins_with (codes "library/") (slice_range bytes a n) j.1
          ∙ ap (λ (t : List ℕ). t ++ drop (length (slice_range bytes a n)) (codes "library/")) word'))
    ]
