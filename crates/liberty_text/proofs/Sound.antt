-- What is found byte by byte is a reading by the lexical grammar.
use Rattle.std.proofs.Common.{◌≡◌, ◌⊎◌, ℕ, ◌+◌, ◌++◌, Bool, true, false, not, List, [], ◌∷◌, Some, None, length, ◌==◌, ◌||◌, ◌&&◌}
use Rattle.std.proofs.Common.{refl, sym, ◌∙◌, ap, subst, inl, inr, arith, cond, ◌<◌}
use Rattle.std.proofs.lemmas.Bool.Decides.{nat_tests}
use Rattle.std.specs.List.{list_any}
use Rattle.std.proofs.lemmas.Bool.{and_parts as both, not-true as is_false}
use Rattle.std.proofs.Math.Bool.{or_assoc}
use Rattle.liberty_text.specs.declared.token.TokenKind.TheVariants.{Word, Text}
use Rattle.liberty_text.specs.declared.token.Token.{Token}
use Rattle.liberty_text.specs.declared.token.Stop.{Stop}
use Rattle.liberty_text.specs.declared.token.Stop.TheVariants.{End, BadByte, OpenText, OpenComment, OpenContinuation}
use Rattle.liberty_text.specs.declared.class.Class.{Class}
use Rattle.liberty_text.specs.declared.class.Class.TheVariants.{LineEnd, Blank, Mark, Quote, Backslash, WordByte, Bad}
use Rattle.liberty_text.specs.declared.scanner.Mode.{Mode}
use Rattle.liberty_text.specs.declared.scanner.Mode.TheVariants.{Between, InWord, InText, InComment, InContinuation, Stopped}
use Rattle.liberty_text.specs.Scanner.{class_of, token, opened_by, opened, in_word_by, comment_in_word, in_word, in_continuation}
use Rattle.liberty_text.specs.Scanner.{after_token, run, scan_of}
use Rattle.liberty_text.specs.Tokens.{is_word_class, opens_comment, ends_word, WordBytes, TextBytes, CommentBytes, AreBlanks}
use Rattle.liberty_text.specs.Tokens.{IsNoBlank, Lexes, Reads}
use Rattle.liberty_text.specs.Tokens as lex

-- a text that is open at an offset closes behind these bytes, or does not close
pub record TextCloses (begun : ℕ) (line escaped : Bool) (at : ℕ) (bs : List ℕ) (ts : List Token) (stop : Stop) : Type 0 where
  pub body : List ℕ
  pub rest : List ℕ
  pub others : List Token
  pub within : TextBytes escaped false body
  pub split : bs ≡ body ++ (34 ∷ rest)
  pub tokens : ts ≡ token Text begun (at + length body + 1) line ∷ others
  pub goes_on : Lexes (at + length body + 1) false rest others stop

pub record TextStays (begun : ℕ) (escaped : Bool) (bs : List ℕ) (ts : List Token) (stop : Stop) : Type 0 where
  pub last : Bool
  pub within : TextBytes escaped last bs
  pub tokens : ts ≡ []
  pub stops : stop ≡ OpenText begun

pub record CommentCloses (line star : Bool) (at : ℕ) (bs : List ℕ) (ts : List Token) (stop : Stop) : Type 0 where
  pub body : List ℕ
  pub rest : List ℕ
  pub within : CommentBytes star true body
  pub split : bs ≡ body ++ (47 ∷ rest)
  pub goes_on : Lexes (at + length body + 1) (line || list_any (λ b. b == 10) body) rest ts stop

pub record CommentStays (begun : ℕ) (star : Bool) (bs : List ℕ) (ts : List Token) (stop : Stop) : Type 0 where
  pub last : Bool
  pub within : CommentBytes star last bs
  pub tokens : ts ≡ []
  pub stops : stop ≡ OpenComment begun

-- a word that goes on with these bytes
pub record WordGoesOn (begun : ℕ) (line : Bool) (at : ℕ) (bs : List ℕ) (ts : List Token) (stop : Stop) : Type 0 where
  pub body : List ℕ
  pub rest : List ℕ
  pub others : List Token
  pub within : WordBytes body rest
  pub split : bs ≡ body ++ rest
  pub tokens : ts ≡ token Word begun (at + length body) line ∷ others
  pub goes_on : Lexes (at + length body) false rest others stop

-- blanks up to a line end, up to another byte, or up to the end
pub record Continues (line : Bool) (at : ℕ) (bs : List ℕ) (ts : List Token) (stop : Stop) : Type 0 where
  pub blanks : List ℕ
  pub rest : List ℕ
  pub within : AreBlanks blanks
  pub split : bs ≡ blanks ++ (10 ∷ rest)
  pub goes_on : Lexes (at + length blanks + 1) line rest ts stop

pub record IsBroken (begun : ℕ) (bs : List ℕ) (ts : List Token) (stop : Stop) : Type 0 where
  pub blanks : List ℕ
  pub byte : ℕ
  pub rest : List ℕ
  pub within : AreBlanks blanks
  pub other : IsNoBlank (class_of byte)
  pub split : bs ≡ blanks ++ (byte ∷ rest)
  pub tokens : ts ≡ []
  pub stops : stop ≡ BadByte begun

pub record StaysBlank (begun : ℕ) (bs : List ℕ) (ts : List Token) (stop : Stop) : Type 0 where
  pub within : AreBlanks bs
  pub tokens : ts ≡ []
  pub stops : stop ≡ OpenContinuation begun

-- what the tokens and the stop are that come behind a mode
abbrev pub Follows : Mode → ℕ → List ℕ → List Token → Stop → Type 0
Follows (Between line) at bs ts stop = Lexes at line bs ts stop
Follows (InWord begun line None) at bs ts stop = begun < at → WordGoesOn begun line at bs ts stop
Follows (InWord begun line (Some slash)) at bs ts stop =
    slash + 1 ≡ at → (begun ≡ slash → Lexes slash line (47 ∷ bs) ts stop)
    × (begun < slash → WordGoesOn begun line slash (47 ∷ bs) ts stop)
Follows (InText begun line escaped) at bs ts stop =
    TextCloses begun line escaped at bs ts stop ⊎ TextStays begun escaped bs ts stop
Follows (InComment begun line star) at bs ts stop =
    CommentCloses line star at bs ts stop ⊎ CommentStays begun star bs ts stop
Follows (InContinuation begun line) at bs ts stop =
    Continues line at bs ts stop ⊎ (IsBroken begun bs ts stop ⊎ StaysBlank begun bs ts stop)
Follows (Stopped begun) at bs ts stop = (ts ≡ []) × (stop ≡ BadByte begun)

-- so it is behind what a step gives
abbrev pub FollowsStep : Mode × List Token → ℕ → List ℕ → (List Token → Stop → Type 0) → Type 0
FollowsStep (mode, ts) at bs P = P (ts ++ (run mode at bs).0) (run mode at bs).1

abbrev pub IsSound : List ℕ → Type 0
IsSound bs = (mode : Mode) (at : ℕ) → Follows mode at bs (run mode at bs).0 (run mode at bs).1

pub line_end_byte : (b : ℕ) → class_of b ≡ LineEnd → b ≡ 10
line_end_byte b e = grind (arith, nat_tests)

pub quote_byte : (b : ℕ) → class_of b ≡ Quote → b ≡ 34
quote_byte b e = grind (arith, nat_tests)

pub backslash_byte : (b : ℕ) → class_of b ≡ Backslash → b ≡ 92
backslash_byte b e = grind (arith, nat_tests)

pub slash_class : class_of 47 ≡ WordByte
slash_class = refl

pub text_moves : {begun at b : ℕ} {line escaped : Bool} {bs : List ℕ} {ts : List Token} {stop : Stop} →
    (b == 34 && not escaped) ≡ false →
    TextCloses begun line (b == 92) (at + 1) bs ts stop ⊎ TextStays begun (b == 92) bs ts stop →
    TextCloses begun line escaped at (b ∷ bs) ts stop ⊎ TextStays begun escaped (b ∷ bs) ts stop
text_moves {begun = begun} {at = at} {b = b} {line = line} {stop = stop} e (inl k) =
    let moved : at + 1 + length k.body + 1 ≡ at + length (b ∷ k.body) + 1 = omega arith in
    inl (record {
      body = b ∷ k.body;
      rest = k.rest;
      others = k.others;
      within = lex.text_byte e k.within;
      split = ap (λ l. b ∷ l) k.split;
      tokens = k.tokens ∙ ap (λ n. token Text begun n line ∷ k.others) moved;
      goes_on = subst (λ n. Lexes n false k.rest k.others stop) moved k.goes_on;
    })
text_moves e (inr k) = inr (record { last = k.last; within = lex.text_byte e k.within; tokens = k.tokens; stops = k.stops })

pub comment_moves : {begun at b : ℕ} {line star : Bool} {bs : List ℕ} {ts : List Token} {stop : Stop} →
    (b == 47 && star) ≡ false →
    CommentCloses (line || b == 10) (b == 42) (at + 1) bs ts stop ⊎ CommentStays begun (b == 42) bs ts stop →
    CommentCloses line star at (b ∷ bs) ts stop ⊎ CommentStays begun star (b ∷ bs) ts stop
comment_moves {at = at} {b = b} {line = line} {ts = ts} {stop = stop} e (inl k) =
    let moved : at + 1 + length k.body + 1 ≡ at + length (b ∷ k.body) + 1 = omega arith in
    let joined : ((line || b == 10) || list_any (λ x. x == 10) k.body) ≡ (line || list_any (λ x. x == 10) (b ∷ k.body)) =
    or_assoc line (b == 10) _ in
    inl (record {
      body = b ∷ k.body;
      rest = k.rest;
      within = lex.comment_byte e k.within;
      split = ap (λ l. b ∷ l) k.split;
      goes_on = subst (λ n. Lexes n (line || list_any (λ x. x == 10) (b ∷ k.body)) k.rest ts stop) moved
          (subst (λ l. Lexes (at + 1 + length k.body + 1) l k.rest ts stop) joined k.goes_on);
    })
comment_moves e (inr k) = inr (record { last = k.last; within = lex.comment_byte e k.within; tokens = k.tokens; stops = k.stops })

-- a text closes at this byte
pub text_closes : {begun at b : ℕ} {line escaped : Bool} {bs : List ℕ} {ts : List Token} {stop : Stop} →
    (b == 34 && not escaped) ≡ true → Lexes (at + 1) false bs ts stop →
    TextCloses begun line escaped at (b ∷ bs) (token Text begun (at + 1) line ∷ ts) stop
text_closes {begun = begun} {at = at} {b = b} {line = line} {escaped = escaped} {bs = bs} {ts = ts} {stop = stop} e next =
    let parts = both (b == 34) (not escaped) e in
    let quote : b ≡ 34 = grind (arith, nat_tests, parts.0) in
    let moved : at + 1 ≡ at + length {A = ℕ} [] + 1 = omega arith in
    record {
      body = [];
      rest = bs;
      others = ts;
      within = subst (λ v. TextBytes v false []) (sym (is_false escaped parts.1)) lex.text_ends;
      split = ap (λ x. x ∷ bs) quote;
      tokens = ap (λ n. token Text begun n line ∷ ts) moved;
      goes_on = subst (λ n. Lexes n false bs ts stop) moved next;
    }

-- a comment closes at this byte
pub comment_closes : {at b : ℕ} {line star : Bool} {bs : List ℕ} {ts : List Token} {stop : Stop} →
    (b == 47 && star) ≡ true → Lexes (at + 1) line bs ts stop → CommentCloses line star at (b ∷ bs) ts stop
comment_closes {at = at} {b = b} {line = line} {star = star} {bs = bs} {ts = ts} {stop = stop} e next =
    let parts = both (b == 47) star e in
    let slash : b ≡ 47 = grind (arith, nat_tests, parts.0) in
    let moved : at + 1 ≡ at + length {A = ℕ} [] + 1 = omega arith in
    record {
      body = [];
      rest = bs;
      within = subst (λ v. CommentBytes v true []) (sym parts.1) lex.comment_ends;
      split = ap (λ x. x ∷ bs) slash;
      goes_on = subst (λ n. Lexes n (line || false) bs ts stop) moved
          (subst (λ l. Lexes (at + 1) l bs ts stop) (sym (or_false line)) next);
    }
  where
    or_false : (a : Bool) → (a || false) ≡ a
    or_false true = refl
    or_false false = refl

pub in_text_sound : {begun at b : ℕ} {line escaped : Bool} {bs : List ℕ} → IsSound bs →
    Follows (InText begun line escaped) at (b ∷ bs) (run (InText begun line escaped) at (b ∷ bs)).0
    (run (InText begun line escaped) at (b ∷ bs)).1
in_text_sound {begun = begun} {at = at} {b = b} {line = line} {escaped = escaped} {bs = bs} ih =
    by_test (b == 34 && not escaped) refl
  where
    by_test : (q : Bool) → (b == 34 && not escaped) ≡ q →
        FollowsStep (cond q (Between false, token Text begun (at + 1) line ∷ []) (InText begun line (b == 92), [])) (at + 1) bs
        (Follows (InText begun line escaped) at (b ∷ bs))
    by_test true e = inl (text_closes e (ih (Between false) (at + 1)))
    by_test false e = text_moves e (ih (InText begun line (b == 92)) (at + 1))

pub in_comment_sound : {begun at b : ℕ} {line star : Bool} {bs : List ℕ} → IsSound bs →
    Follows (InComment begun line star) at (b ∷ bs) (run (InComment begun line star) at (b ∷ bs)).0
    (run (InComment begun line star) at (b ∷ bs)).1
in_comment_sound {begun = begun} {at = at} {b = b} {line = line} {star = star} {bs = bs} ih = by_test (b == 47 && star) refl
  where
    by_test : (q : Bool) → (b == 47 && star) ≡ q →
        FollowsStep (cond q (Between line, []) (InComment begun (line || b == 10) (b == 42), [])) (at + 1) bs
        (Follows (InComment begun line star) at (b ∷ bs))
    by_test true e = inl (comment_closes e (ih (Between line) (at + 1)))
    by_test false e = comment_moves e (ih (InComment begun (line || b == 10) (b == 42)) (at + 1))

-- a byte behind a backslash and blanks
pub in_continuation_sound : {begun at b : ℕ} {line : Bool} {bs : List ℕ} → IsSound bs →
    Follows (InContinuation begun line) at (b ∷ bs) (run (InContinuation begun line) at (b ∷ bs)).0
    (run (InContinuation begun line) at (b ∷ bs)).1
in_continuation_sound {begun = begun} {at = at} {b = b} {line = line} {bs = bs} ih = by_class (class_of b) refl
  where
    blank : {ts : List Token} {stop : Stop} → class_of b ≡ Blank →
        Continues line (at + 1) bs ts stop ⊎ (IsBroken begun bs ts stop ⊎ StaysBlank begun bs ts stop) →
        Continues line at (b ∷ bs) ts stop ⊎ (IsBroken begun (b ∷ bs) ts stop ⊎ StaysBlank begun (b ∷ bs) ts stop)
    blank {ts = ts} {stop = stop} e (inl k) =
        let moved : at + 1 + length k.blanks + 1 ≡ at + length (b ∷ k.blanks) + 1 = omega arith in
        inl (record {
          blanks = b ∷ k.blanks;
          rest = k.rest;
          within = (e, k.within);
          split = ap (λ l. b ∷ l) k.split;
          goes_on = subst (λ n. Lexes n line k.rest ts stop) moved k.goes_on;
        })
    blank e (inr (inl k)) = inr (inl (record {
      blanks = b ∷ k.blanks;
      byte = k.byte;
      rest = k.rest;
      within = (e, k.within);
      other = k.other;
      split = ap (λ l. b ∷ l) k.split;
      tokens = k.tokens;
      stops = k.stops;
    }))
    blank e (inr (inr k)) = inr (inr (record { within = (e, k.within); tokens = k.tokens; stops = k.stops }))

    broken : {ts : List Token} {stop : Stop} → IsNoBlank (class_of b) → (ts ≡ []) × (stop ≡ BadByte begun)
        → IsBroken begun (b ∷ bs) ts stop
    broken other k = record {
      blanks = [];
      byte = b;
      rest = bs;
      within = tt;
      other = other;
      split = refl;
      tokens = k.0;
      stops = k.1;
    }

    by_class : (k : Class) → class_of b ≡ k →
        FollowsStep (in_continuation begun line k) (at + 1) bs (Follows (InContinuation begun line) at (b ∷ bs))
    by_class LineEnd e =
        let moved : at + 1 ≡ at + length {A = ℕ} [] + 1 = omega arith in
        inl (record {
          blanks = [];
          rest = bs;
          within = tt;
          split = ap (λ x. x ∷ bs) (line_end_byte b e);
          goes_on = subst (λ n. Lexes n line bs (run (Between line) (at + 1) bs).0 (run (Between line) (at + 1) bs).1) moved
              (ih (Between line) (at + 1));
        })
    by_class Blank e = blank e (ih (InContinuation begun line) (at + 1))
    by_class (Mark kind) e = inr (inl (broken (subst IsNoBlank (sym e) tt) (ih (Stopped begun) (at + 1))))
    by_class Quote e = inr (inl (broken (subst IsNoBlank (sym e) tt) (ih (Stopped begun) (at + 1))))
    by_class Backslash e = inr (inl (broken (subst IsNoBlank (sym e) tt) (ih (Stopped begun) (at + 1))))
    by_class WordByte e = inr (inl (broken (subst IsNoBlank (sym e) tt) (ih (Stopped begun) (at + 1))))
    by_class Bad e = inr (inl (broken (subst IsNoBlank (sym e) tt) (ih (Stopped begun) (at + 1))))

-- no comment opens at a byte that is no slash
pub no_slash : (b : ℕ) (bs : List ℕ) → (b == 47) ≡ false → opens_comment (b ∷ bs) ≡ false
no_slash b [] e = refl
no_slash b (x ∷ bs) e = subst (λ v. (v && x == 42) ≡ false) (sym e) refl

-- no comment opens at a slash without a star
pub no_star : (b : ℕ) (bs : List ℕ) → (b == 42) ≡ false → opens_comment (47 ∷ b ∷ bs) ≡ false
no_star b bs e = e

-- a word goes on with a byte of a word that opens no comment
pub word_moves : {begun at b : ℕ} {line : Bool} {bs : List ℕ} {ts : List Token} {stop : Stop} →
    class_of b ≡ WordByte → opens_comment (b ∷ bs) ≡ false → WordGoesOn begun line (at + 1) bs ts stop →
    WordGoesOn begun line at (b ∷ bs) ts stop
word_moves {begun = begun} {at = at} {b = b} {line = line} {bs = bs} {stop = stop} e opens k =
    let moved : at + 1 + length k.body ≡ at + length (b ∷ k.body) = omega arith in
    let here : ends_word (b ∷ bs) ≡ false = subst (λ v. (not (is_word_class v) || opens_comment (b ∷ bs)) ≡ false) (sym e) opens
    in
    record {
      body = b ∷ k.body;
      rest = k.rest;
      others = k.others;
      within = lex.word_byte (subst (λ l. ends_word (b ∷ l) ≡ false) k.split here) k.within;
      split = ap (λ l. b ∷ l) k.split;
      tokens = k.tokens ∙ ap (λ n. token Word begun n line ∷ k.others) moved;
      goes_on = subst (λ n. Lexes n false k.rest k.others stop) moved k.goes_on;
    }

-- a word ends before these bytes
pub word_stops : {begun at : ℕ} {line : Bool} {bs : List ℕ} {ts : List Token} {stop : Stop} →
    ends_word bs ≡ true → Lexes at false bs ts stop → WordGoesOn begun line at bs (token Word begun at line ∷ ts) stop
word_stops {begun = begun} {at = at} {line = line} {bs = bs} {ts = ts} {stop = stop} e next =
    let moved : at ≡ at + length {A = ℕ} [] = omega arith in
    record {
      body = [];
      rest = bs;
      others = ts;
      within = lex.word_ends e;
      split = refl;
      tokens = ap (λ n. token Word begun n line ∷ ts) moved;
      goes_on = subst (λ n. Lexes n false bs ts stop) moved next;
    }

-- a word that begins at a byte
pub word_begins : {at b : ℕ} {line : Bool} {bs : List ℕ} {ts : List Token} {stop : Stop} →
    class_of b ≡ WordByte → opens_comment (b ∷ bs) ≡ false → WordGoesOn at line (at + 1) bs ts stop →
    Lexes at line (b ∷ bs) ts stop
word_begins {at = at} {b = b} {line = line} {bs = bs} {ts = ts} {stop = stop} e opens k =
    let here : ends_word (b ∷ bs) ≡ false = subst (λ v. (not (is_word_class v) || opens_comment (b ∷ bs)) ≡ false) (sym e) opens
    in
    subst (λ l. Lexes at line (b ∷ bs) l stop) (sym k.tokens)
    (lex.word b k.body k.rest (lex.word_byte (subst (λ l. ends_word (b ∷ l) ≡ false) k.split here) k.within)
    (ap (λ l. b ∷ l) k.split) k.goes_on)

-- a comment that begins at a slash and a star
pub comment_begins : {begun at : ℕ} {line : Bool} {bs : List ℕ} {ts : List Token} {stop : Stop} → begun + 1 ≡ at →
    CommentCloses line false (at + 1) bs ts stop ⊎ CommentStays begun false bs ts stop →
    Lexes begun line (47 ∷ 42 ∷ bs) ts stop
comment_begins {begun = begun} {at = at} {line = line} {bs = bs} {ts = ts} {stop = stop} e (inl k) =
    let moved : at + 1 + length k.body + 1 ≡ begun + 2 + length k.body + 1 = omega arith in
    lex.comment k.body k.rest k.within (ap (λ l. 47 ∷ 42 ∷ l) k.split)
    (subst (λ n. Lexes n (line || list_any (λ b. b == 10) k.body) k.rest ts stop) moved k.goes_on)
comment_begins {begun = begun} {line = line} {bs = bs} {ts = ts} {stop = stop} e (inr k) =
    subst (λ l. Lexes begun line (47 ∷ 42 ∷ bs) l stop) (sym k.tokens)
    (subst (λ v. Lexes begun line (47 ∷ 42 ∷ bs) [] v) (sym k.stops) (lex.open_comment k.last k.within))

-- a text that begins at a quote
pub text_begins : {at : ℕ} {line : Bool} {bs : List ℕ} {ts : List Token} {stop : Stop} →
    TextCloses at line false (at + 1) bs ts stop ⊎ TextStays at false bs ts stop →
    Lexes at line (34 ∷ bs) ts stop
text_begins {at = at} {line = line} {bs = bs} {ts = ts} {stop = stop} (inl k) =
    subst (λ l. Lexes at line (34 ∷ bs) l stop) (sym k.tokens)
    (lex.text k.body k.rest k.within (ap (λ l. 34 ∷ l) k.split) k.goes_on)
text_begins {at = at} {line = line} {bs = bs} {ts = ts} {stop = stop} (inr k) =
    subst (λ l. Lexes at line (34 ∷ bs) l stop) (sym k.tokens)
    (subst (λ v. Lexes at line (34 ∷ bs) [] v) (sym k.stops) (lex.open_text k.last k.within))

-- a separator or a bad byte that begins at a backslash
pub continuation_begins : {at : ℕ} {line : Bool} {bs : List ℕ} {ts : List Token} {stop : Stop} →
    Continues line (at + 1) bs ts stop ⊎ (IsBroken at bs ts stop ⊎ StaysBlank at bs ts stop) →
    Lexes at line (92 ∷ bs) ts stop
continuation_begins (inl k) = lex.continuation k.blanks k.rest k.within (ap (λ l. 92 ∷ l) k.split) k.goes_on
continuation_begins {at = at} {line = line} {bs = bs} {ts = ts} {stop = stop} (inr (inl k)) =
    subst (λ l. Lexes at line (92 ∷ bs) l stop) (sym k.tokens)
    (subst (λ v. Lexes at line (92 ∷ bs) [] v) (sym k.stops)
    (lex.bad_backslash k.blanks k.byte k.rest k.within k.other (ap (λ l. 92 ∷ l) k.split)))
continuation_begins {at = at} {line = line} {bs = bs} {ts = ts} {stop = stop} (inr (inr k)) =
    subst (λ l. Lexes at line (92 ∷ bs) l stop) (sym k.tokens)
    (subst (λ v. Lexes at line (92 ∷ bs) [] v) (sym k.stops) (lex.open_continuation k.within))

-- a byte between tokens
pub between_sound : {at b : ℕ} {line : Bool} {bs : List ℕ} → IsSound bs →
    FollowsStep (opened line at b) (at + 1) bs (Lexes at line (b ∷ bs))
between_sound {at = at} {b = b} {line = line} {bs = bs} ih = by_class (class_of b) refl
  where
    word : (q : Bool) → class_of b ≡ WordByte → (b == 47) ≡ q →
        FollowsStep (InWord at line (cond q (Some at) None), []) (at + 1) bs (Lexes at line (b ∷ bs))
    word true e q =
        let slash : 47 ≡ b = grind (arith, nat_tests, q) in
        subst (λ v. Lexes at line (v ∷ bs) (run (InWord at line (Some at)) (at + 1) bs).0
        (run (InWord at line (Some at)) (at + 1) bs).1) slash
        ((ih (InWord at line (Some at)) (at + 1) refl).0 refl)
    word false e q = word_begins e (no_slash b bs q) (ih (InWord at line None) (at + 1) (omega arith))

    by_class : (k : Class) → class_of b ≡ k → FollowsStep (opened_by line at b k) (at + 1) bs (Lexes at line (b ∷ bs))
    by_class LineEnd e = lex.line_end e (ih (Between true) (at + 1))
    by_class Blank e = lex.blank e (ih (Between line) (at + 1))
    by_class (Mark kind) e = lex.mark kind e (ih (Between false) (at + 1))
    by_class Quote e =
        subst (λ v. Lexes at line (v ∷ bs) (run (InText at line false) (at + 1) bs).0 (run (InText at line false) (at + 1) bs).1)
        (sym (quote_byte b e)) (text_begins (ih (InText at line false) (at + 1)))
    by_class Backslash e =
        subst (λ v. Lexes at line (v ∷ bs) (run (InContinuation at line) (at + 1) bs).0
        (run (InContinuation at line) (at + 1) bs).1) (sym (backslash_byte b e))
        (continuation_begins (ih (InContinuation at line) (at + 1)))
    by_class WordByte e = word (b == 47) e refl
    by_class Bad e =
        let stopped = ih (Stopped at) (at + 1) in
        subst (λ l. Lexes at line (b ∷ bs) l (run (Stopped at) (at + 1) bs).1) (sym stopped.0)
        (subst (λ v. Lexes at line (b ∷ bs) [] v) (sym stopped.1) (lex.bad e))

-- a byte behind those of a word that goes on
pub word_goes_on : {begun at b : ℕ} {line : Bool} {bs : List ℕ} → IsSound bs → begun < at →
    FollowsStep (in_word_by begun line at b (class_of b)) (at + 1) bs (WordGoesOn begun line at (b ∷ bs))
word_goes_on {begun = begun} {at = at} {b = b} {line = line} {bs = bs} ih past = by_class (class_of b) refl
  where
    word : (q : Bool) → class_of b ≡ WordByte → (b == 47) ≡ q →
        FollowsStep (InWord begun line (cond q (Some at) None), []) (at + 1) bs (WordGoesOn begun line at (b ∷ bs))
    word true e q =
        let slash : 47 ≡ b = grind (arith, nat_tests, q) in
        subst (λ v. WordGoesOn begun line at (v ∷ bs) (run (InWord begun line (Some at)) (at + 1) bs).0
        (run (InWord begun line (Some at)) (at + 1) bs).1) slash
        ((ih (InWord begun line (Some at)) (at + 1) refl).1 past)
    word false e q = word_moves e (no_slash b bs q) (ih (InWord begun line None) (at + 1) (omega arith))

    stops : (k : Class) → class_of b ≡ k → is_word_class k ≡ false →
        FollowsStep (after_token (token Word begun at line) (opened false at b)) (at + 1) bs (WordGoesOn begun line at (b ∷ bs))
    stops k e other =
        let ends : ends_word (b ∷ bs) ≡ true =
        subst (λ v. (not (is_word_class v) || opens_comment (b ∷ bs)) ≡ true) (sym e)
        (subst (λ v. (not v || opens_comment (b ∷ bs)) ≡ true) (sym other) refl) in
        word_stops ends (between_sound ih)

    by_class : (k : Class) → class_of b ≡ k
        → FollowsStep (in_word_by begun line at b k) (at + 1) bs (WordGoesOn begun line at (b ∷ bs))
    by_class WordByte e = word (b == 47) e refl
    by_class LineEnd e = stops LineEnd e refl
    by_class Blank e = stops Blank e refl
    by_class (Mark kind) e = stops (Mark kind) e refl
    by_class Quote e = stops Quote e refl
    by_class Backslash e = stops Backslash e refl
    by_class Bad e = stops Bad e refl

-- a word goes on behind its slash
pub slash_goes_on : {begun slash at b : ℕ} {line : Bool} {bs : List ℕ} {ts : List Token} {stop : Stop} → slash + 1 ≡ at →
    class_of 47 ≡ WordByte → opens_comment (47 ∷ b ∷ bs) ≡ false →
    (begun < at → WordGoesOn begun line at (b ∷ bs) ts stop) →
    (begun ≡ slash → Lexes slash line (47 ∷ b ∷ bs) ts stop) × (begun < slash → WordGoesOn begun line slash (47 ∷ b ∷ bs) ts stop)
slash_goes_on {begun = begun} {slash = slash} {at = at} {b = b} {line = line} {bs = bs} {ts = ts} {stop = stop} next e opens go_on
    =
    let moved : (n : ℕ) → WordGoesOn n line at (b ∷ bs) ts stop
    → WordGoesOn n line (slash + 1) (b ∷ bs) ts stop = λ n. subst (λ m. WordGoesOn n line m (b ∷ bs) ts stop) (sym next) in (
      λ same. word_begins e opens (moved slash (subst (λ n. WordGoesOn n line at (b ∷ bs) ts stop) same (go_on (omega arith)))),
      λ less. word_moves e opens (moved begun (go_on (omega arith))),
    )

-- a byte behind a slash of a word
pub slash_sound : {begun slash at b : ℕ} {line : Bool} {bs : List ℕ} → IsSound bs → slash + 1 ≡ at →
    FollowsStep (in_word begun line (Some slash) at b) (at + 1) bs
    (λ ts stop. (begun ≡ slash → Lexes slash line (47 ∷ b ∷ bs) ts stop)
    × (begun < slash → WordGoesOn begun line slash (47 ∷ b ∷ bs) ts stop))
slash_sound {begun = begun} {slash = slash} {at = at} {b = b} {line = line} {bs = bs} ih next = by_star (b == 42) refl
  where
    Claim : List Token → Stop → Type 0
    Claim ts stop = (begun ≡ slash → Lexes slash line (47 ∷ b ∷ bs) ts stop)
        × (begun < slash → WordGoesOn begun line slash (47 ∷ b ∷ bs) ts stop)

    comment : (l : Bool) → 42 ≡ b → Lexes slash l (47 ∷ b ∷ bs) (run (InComment slash l false) (at + 1) bs).0
        (run (InComment slash l false) (at + 1) bs).1
    comment l e =
        subst (λ v. Lexes slash l (47 ∷ v ∷ bs) (run (InComment slash l false) (at + 1) bs).0
        (run (InComment slash l false) (at + 1) bs).1) e
        (comment_begins next (ih (InComment slash l false) (at + 1)))

    by_begin : (q : Bool) → 42 ≡ b → (begun == slash) ≡ q →
        FollowsStep (cond q (InComment slash line false, []) (InComment slash false false, token Word begun slash line ∷ []))
        (at + 1) bs Claim
    by_begin true star e = (λ _. comment line star, λ less. absurd (grind (arith, nat_tests, e, less)))
    by_begin false star e = (
      λ same. absurd (grind (arith, nat_tests, e, same)),
      λ _. word_stops (subst (λ v. ends_word (47 ∷ v ∷ bs) ≡ true) star refl) (comment false star),
    )

    by_star : (q : Bool) → (b == 42) ≡ q →
        FollowsStep (cond q (comment_in_word begun line slash) (in_word_by begun line at b (class_of b))) (at + 1) bs Claim
    by_star true e = by_begin (begun == slash) (grind (arith, nat_tests, e)) refl
    by_star false e = slash_goes_on next slash_class (no_star b bs e) (word_goes_on ih)

pub sound : (bs : List ℕ) → IsSound bs
sound [] (Between line) at = lex.end
sound [] (InWord begun line None) at = λ past. word_stops refl lex.end
sound [] (InWord begun line (Some slash)) at = λ next.
    let last : (l : Bool) → WordGoesOn begun l slash (47 ∷ []) (token Word begun at l ∷ []) End =
    λ l. word_moves slash_class refl
    (subst (λ n. WordGoesOn begun l n [] (token Word begun at l ∷ []) End) (sym next) (word_stops refl lex.end)) in (
      λ same. subst (λ n. Lexes n line (47 ∷ []) (token Word begun at line ∷ []) End) same
          (word_begins slash_class refl (subst (λ n. WordGoesOn begun line n [] (token Word begun at line ∷ []) End)
          (sym (ap (λ n. n + 1) same ∙ next)) (word_stops refl lex.end))),
      λ less. last line,
    )
sound [] (InText begun line escaped) at = inr (record { last = escaped; within = lex.text_ends; tokens = refl; stops = refl })
sound [] (InComment begun line star) at = inr (record { last = star; within = lex.comment_ends; tokens = refl; stops = refl })
sound [] (InContinuation begun line) at = inr (inr (record { within = tt; tokens = refl; stops = refl }))
sound [] (Stopped begun) at = (refl, refl)
sound (b ∷ bs) (Between line) at = between_sound (sound bs)
sound (b ∷ bs) (InWord begun line None) at = word_goes_on (sound bs)
sound (b ∷ bs) (InWord begun line (Some slash)) at = slash_sound (sound bs)
sound (b ∷ bs) (InText begun line escaped) at = in_text_sound (sound bs)
sound (b ∷ bs) (InComment begun line star) at = in_comment_sound (sound bs)
sound (b ∷ bs) (InContinuation begun line) at = in_continuation_sound (sound bs)
sound (b ∷ bs) (Stopped begun) at = sound bs (Stopped begun) (at + 1)

-- what is found byte by byte, whatever it is called
pub reads : (bytes : List ℕ) (ts : List Token) (stop : Stop) → ts ≡ (scan_of bytes).0 → stop ≡ (scan_of bytes).1 →
    Reads bytes ts stop
reads bytes ts stop e f =
    subst (λ l. Lexes 0 false bytes l stop) (sym e)
    (subst (λ v. Lexes 0 false bytes (scan_of bytes).0 v) (sym f) (sound bytes (Between false) 0))
