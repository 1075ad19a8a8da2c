-- What a text stands for, by rules and piece by piece, and what a value is written as.
use Rattle.std.proofs.Common.{◌≡◌, ℕ, ◌+◌, ◌++◌, zero, suc, Bool, true, false, not, List, [], ◌∷◌, Option, Some, None, length}
use Rattle.std.proofs.Common.{drop, ◌==◌, ◌&&◌, ◌||◌, refl, sym, ◌∙◌, ap, subst, arith, cond}
use Rattle.std.proofs.lemmas.Bool.Decides.{nat_tests}
use Rattle.std.specs.List.{list_any}
use Rattle.liberty_text.specs.declared.class.Class.{Class}
use Rattle.liberty_text.specs.declared.class.Class.TheVariants.{LineEnd, Blank, Mark, Quote, Backslash, WordByte, Bad}
use Rattle.liberty_text.specs.Scanner.{class_of}
use Rattle.liberty_text.specs.Tokens.{AreBlanks, TextBytes}
use Rattle.liberty_text.specs.Tokens as lex
use Rattle.liberty_text.specs.TextValue.{blank_line_by, blank_line_behind, blank_line, begins_with_quote, behind_backslash, piece}
use Rattle.liberty_text.specs.TextValue.{value_behind, value_of, StandsFor, HaveOneValue, quoted, ends_in_backslash, IsQuotable}
use Rattle.liberty_text.specs.TextValue.{ReadsBack, QuotesReadBack}
use Rattle.liberty_text.specs.TextValue as text
use Rattle.liberty_text.proofs.Sound.{line_end_byte}
use Rattle.liberty_text.proofs.TextValues.{value_skip}

-- blanks and a line end stand at the front of the bytes
pub record BlankLine (passed : ℕ) (bs : List ℕ) (n : ℕ) : Type 0 where
  pub blanks : List ℕ
  pub more : List ℕ
  pub all : AreBlanks blanks
  pub split : bs ≡ blanks ++ (10 ∷ more)
  pub count : n ≡ passed + length blanks + 1

pub blank_found : (passed : ℕ) (bs : List ℕ) (n : ℕ) → blank_line_behind passed bs ≡ Some n → BlankLine passed bs n
blank_found passed [] n = λ e. absurd cc
blank_found passed (b ∷ bs) n = by_class (blank_found (passed + 1) bs n) (class_of b) refl
  where
    one_more : class_of b ≡ Blank → BlankLine (passed + 1) bs n → BlankLine passed (b ∷ bs) n
    one_more f k = record {
      blanks = b ∷ k.blanks;
      more = k.more;
      all = (f, k.all);
      split = ap (λ l. b ∷ l) k.split;
      count = omega (arith, k.count);
    }

    by_class : (blank_line_behind (passed + 1) bs ≡ Some n → BlankLine (passed + 1) bs n) → (k : Class) → class_of b ≡ k
        → blank_line_by k passed (blank_line_behind (passed + 1) bs) ≡ Some n → BlankLine passed (b ∷ bs) n
    by_class next LineEnd f e = record {
      blanks = [];
      more = bs;
      all = tt;
      split = ap (λ x. x ∷ bs) (line_end_byte b f);
      count = let counted : passed + 1 ≡ n = cc in omega (arith, counted);
    }
    by_class next Blank f e = one_more f (next e)
    by_class next (Mark kind) f e = absurd cc
    by_class next Quote f e = absurd cc
    by_class next Backslash f e = absurd cc
    by_class next WordByte f e = absurd cc
    by_class next Bad f e = absurd cc

pub blank_hits : (passed : ℕ) (blanks more : List ℕ) → AreBlanks blanks
    → blank_line_behind passed (blanks ++ (10 ∷ more)) ≡ Some (passed + length blanks + 1)
blank_hits passed [] more all = ap Some (omega arith)
blank_hits passed (b ∷ bs) more (f, all) =
    ap (λ k. blank_line_by k passed (blank_line_behind (passed + 1) (bs ++ (10 ∷ more)))) f
    ∙ blank_hits (passed + 1) bs more all
    ∙ ap Some (omega arith)

-- behind blanks and a line end the others stand
pub drop_blanks : (blanks more : List ℕ) → drop (suc (length blanks)) (blanks ++ (10 ∷ more)) ≡ more
drop_blanks [] more = refl
drop_blanks (b ∷ bs) more = drop_blanks bs more

pub after_blanks : (n : ℕ) (blanks more : List ℕ) → n ≡ 0 + length blanks + 1 → drop n (blanks ++ (10 ∷ more)) ≡ more
after_blanks n blanks more e =
    let one_more : n ≡ suc (length blanks) = omega arith in
    ap (λ k. drop k (blanks ++ (10 ∷ more))) one_more ∙ drop_blanks blanks more

-- what a backslash stands for with nothing to go with it
pub plain_backslash : (bs : List ℕ) → blank_line bs ≡ None → begins_with_quote bs ≡ false → piece 92 bs ≡ (92 ∷ [], 0)
plain_backslash bs e f = ap (λ o. behind_backslash o (begins_with_quote bs)) e ∙ ap (behind_backslash None) f

-- what a byte stands for that is no backslash and no line end
pub plain_byte : (b : ℕ) (bs : List ℕ) → (b == 10) ≡ false → (b == 92) ≡ false → piece b bs ≡ (b ∷ [], 0)
plain_byte b bs e f =
    ap (λ q. cond q (32 ∷ [], 0) (cond (b == 92) (behind_backslash (blank_line bs) (begins_with_quote bs)) (b ∷ [], 0))) e
    ∙ ap (λ q. cond q (behind_backslash (blank_line bs) (begins_with_quote bs)) (b ∷ [], 0)) f

-- a byte that stands for itself joins the value
pub plain_value : (b : ℕ) (bs value : List ℕ) → piece b bs ≡ (b ∷ [], 0) → value_of bs ≡ value → value_of (b ∷ bs) ≡ b ∷ value
plain_value b bs value e f = ap (λ p. p.0 ++ value_behind p.1 bs) e ∙ ap (λ l. b ∷ l) f

-- no blanks with a line end stand there
pub no_blank_line : (bs : List ℕ) → ((blanks more : List ℕ) → AreBlanks blanks → bs ≡ blanks ++ (10 ∷ more) → ⊥)
    → blank_line bs ≡ None
no_blank_line bs none = by_answer (blank_line bs) refl
  where
    by_answer : (o : Option ℕ) → blank_line bs ≡ o → o ≡ None
    by_answer None e = refl
    by_answer (Some n) e = let k = blank_found 0 bs n e in absurd (none k.blanks k.more k.all k.split)

-- no quote stands there
pub no_quote_there : (bs : List ℕ) → ((more : List ℕ) → bs ≡ 34 ∷ more → ⊥) → begins_with_quote bs ≡ false
no_quote_there [] none = refl
no_quote_there (b ∷ bs) none = by_test (b == 34) refl
  where
    by_test : (q : Bool) → (b == 34) ≡ q → q ≡ false
    by_test false e = refl
    by_test true e = let same : b ≡ 34 = grind (arith, nat_tests, e) in absurd (none bs (ap (λ x. x ∷ bs) same))

-- a value by rules is the value piece by piece
pub value_complete : {bs value : List ℕ} → StandsFor bs value → value_of bs ≡ value
value_complete text.nothing = refl
value_complete (text.continued blanks rest all split d) =
    ap value_of split
    ∙ ap (λ o. (behind_backslash o (begins_with_quote (blanks ++ (10 ∷ rest)))).0
    ++ value_behind (behind_backslash o (begins_with_quote (blanks ++ (10 ∷ rest)))).1 (blanks ++ (10 ∷ rest)))
    (blank_hits 0 blanks rest all)
    ∙ value_skip (0 + length blanks + 1) (blanks ++ (10 ∷ rest))
    ∙ ap value_of (after_blanks (0 + length blanks + 1) blanks rest refl)
    ∙ value_complete d
value_complete (text.space d) = ap (λ l. 32 ∷ l) (value_complete d)
value_complete (text.quote d) = ap (λ l. 34 ∷ l) (value_complete d)
value_complete (text.itself {b = b} {rest = rest} {value = value} no_line no_blanks no_quote d) =
    plain_value b rest value (by_test (b == 92) refl) (value_complete d)
  where
    by_test : (q : Bool) → (b == 92) ≡ q → piece b rest ≡ (b ∷ [], 0)
    by_test true e =
        let same : b ≡ 92 = grind (arith, nat_tests, e) in
        subst (λ x. piece x rest ≡ (x ∷ [], 0)) (sym same)
        (plain_backslash rest (no_blank_line rest (no_blanks same)) (no_quote_there rest (no_quote same)))
    by_test false e = plain_byte b rest (grind (arith, nat_tests, no_line)) e

-- the quote that stands there
pub quote_first : (bs : List ℕ) → begins_with_quote bs ≡ true → (more : List ℕ) × (bs ≡ 34 ∷ more)
quote_first [] e = absurd cc
quote_first (b ∷ bs) e = let same : b ≡ 34 = grind (arith, nat_tests, e) in (bs, ap (λ x. x ∷ bs) same)

-- the value piece by piece is one by rules
pub value_sound : (bs : List ℕ) (n : ℕ) → StandsFor (drop n bs) (value_behind n bs)
value_sound [] zero = text.nothing
value_sound [] (suc n) = text.nothing
value_sound (b ∷ bs) (suc n) = value_sound bs n
value_sound (b ∷ bs) zero = by_line (value_sound bs) (b == 10) refl
  where
    backslash : ((n : ℕ) → StandsFor (drop n bs) (value_behind n bs)) → (o : Option ℕ) (q : Bool) → blank_line bs ≡ o
        → begins_with_quote bs ≡ q →
        StandsFor (92 ∷ bs) ((behind_backslash o q).0 ++ value_behind (behind_backslash o q).1 bs)
    backslash next (Some n) q e f =
        let k = blank_found 0 bs n e in
        let others : drop n bs ≡ k.more = ap (drop n) k.split ∙ after_blanks n k.blanks k.more k.count in
        text.continued k.blanks k.more k.all (ap (λ l. 92 ∷ l) k.split)
        (subst (λ l. StandsFor l (value_behind n bs)) others (next n))
    backslash next None true e f =
        let k = quote_first bs f in
        subst (λ l. StandsFor (92 ∷ l) (34 ∷ value_behind 1 bs)) (sym k.1)
        (text.quote (subst (λ l. StandsFor l (value_behind 1 bs)) (ap (drop 1) k.1) (next 1)))
    backslash next None false e f =
        text.itself (λ g. absurd (omega arith))
        (λ g blanks more all split. let hit : blank_line bs ≡ Some (0 + length blanks + 1) =
        ap blank_line split ∙ blank_hits 0 blanks more all in absurd cc)
        (λ g more split. let hit : begins_with_quote bs ≡ true = ap begins_with_quote split in absurd cc)
        (next 0)

    by_backslash : ((n : ℕ) → StandsFor (drop n bs) (value_behind n bs)) → (q : Bool) → (b == 92) ≡ q → (b == 10) ≡ false →
        (let p = cond q (behind_backslash (blank_line bs) (begins_with_quote bs)) (b ∷ [], 0)
        in StandsFor (b ∷ bs) (p.0 ++ value_behind p.1 bs))
    by_backslash next true e f =
        let same : 92 ≡ b = grind (arith, nat_tests, e) in
        let p = behind_backslash (blank_line bs) (begins_with_quote bs) in
        subst (λ x. StandsFor (x ∷ bs) (p.0 ++ value_behind p.1 bs)) same
        (backslash next (blank_line bs) (begins_with_quote bs) refl refl)
    by_backslash next false e f =
        text.itself (λ g. absurd (grind (arith, nat_tests, f, g))) (λ g. absurd (grind (arith, nat_tests, e, g)))
        (λ g. absurd (grind (arith, nat_tests, e, g))) (next 0)

    by_line : ((n : ℕ) → StandsFor (drop n bs) (value_behind n bs)) → (q : Bool) → (b == 10) ≡ q →
        (let p = cond q (32 ∷ [], 0) (cond (b == 92) (behind_backslash (blank_line bs) (begins_with_quote bs)) (b ∷ [], 0))
        in StandsFor (b ∷ bs) (p.0 ++ value_behind p.1 bs))
    by_line next true e =
        let same : 10 ≡ b = grind (arith, nat_tests, e) in
        subst (λ x. StandsFor (x ∷ bs) (32 ∷ value_of bs)) same (text.space (next 0))
    by_line next false e = by_backslash next (b == 92) refl e

-- bytes between quotes stand for one value
pub one_value : (bytes : List ℕ) → HaveOneValue bytes
one_value bytes value = (value_complete, λ e. subst (StandsFor bytes) e (value_sound bytes 0))

-- a value holds no line feed
pub no_line_feed : {bs value : List ℕ} → StandsFor bs value → list_any (λ b. b == 10) value ≡ false
no_line_feed text.nothing = refl
no_line_feed (text.continued blanks rest all split d) = no_line_feed d
no_line_feed (text.space d) = no_line_feed d
no_line_feed (text.quote d) = no_line_feed d
no_line_feed (text.itself {b = b} {value = value} no_line no_blanks no_quote d) =
    let other : (b == 10) ≡ false = grind (arith, nat_tests, no_line) in
    ap (λ q. q || list_any (λ x. x == 10) value) other ∙ no_line_feed d

-- what is written between quotes
pub quoted_byte : (b : ℕ) (bs : List ℕ) → (b == 34) ≡ false → quoted (b ∷ bs) ≡ b ∷ quoted bs
quoted_byte b bs e = ap (λ q. cond q (92 ∷ 34 ∷ quoted bs) (b ∷ quoted bs)) e

pub quoted_quote : (b : ℕ) (bs : List ℕ) → (b == 34) ≡ true → quoted (b ∷ bs) ≡ 92 ∷ 34 ∷ quoted bs
quoted_quote b bs e = ap (λ q. cond q (92 ∷ 34 ∷ quoted bs) (b ∷ quoted bs)) e

-- what is written between quotes begins with no bare quote
pub quoted_begins : (bs : List ℕ) → begins_with_quote (quoted bs) ≡ false
quoted_begins [] = refl
quoted_begins (b ∷ bs) = by_test (b == 34) refl
  where
    by_test : (q : Bool) → (b == 34) ≡ q → begins_with_quote (quoted (b ∷ bs)) ≡ false
    by_test true e = ap begins_with_quote (quoted_quote b bs e)
    by_test false e = ap begins_with_quote (quoted_byte b bs e) ∙ e

-- one line holds no line end
pub line_parts : (b : ℕ) (bs : List ℕ) → list_any (λ x. x == 10) (b ∷ bs) ≡ false → ((b == 10) ≡ false)
    × (list_any (λ x. x == 10) bs ≡ false)
line_parts b bs e = by_test (b == 10) refl e
  where
    by_test : (q : Bool) → (b == 10) ≡ q → (q || list_any (λ x. x == 10) bs) ≡ false → ((b == 10) ≡ false)
        × (list_any (λ x. x == 10) bs ≡ false)
    by_test true f g = absurd cc
    by_test false f g = (f, g)

pub quoted_one_line : (passed : ℕ) (bs : List ℕ) → list_any (λ x. x == 10) bs ≡ false
    → blank_line_behind passed (quoted bs) ≡ None
quoted_one_line passed [] e = refl
quoted_one_line passed (b ∷ bs) e = by_test (quoted_one_line (passed + 1) bs) (b == 34) refl
  where
    by_class : (blank_line_behind (passed + 1) (quoted bs) ≡ None) → (k : Class) → class_of b ≡ k
        → blank_line_by k passed (blank_line_behind (passed + 1) (quoted bs)) ≡ None
    by_class next LineEnd f = let parts = line_parts b bs e in let line = line_end_byte b f
        in absurd (grind (arith, nat_tests, parts.0, line))
    by_class next Blank f = next
    by_class next (Mark kind) f = refl
    by_class next Quote f = refl
    by_class next Backslash f = refl
    by_class next WordByte f = refl
    by_class next Bad f = refl

    by_test : (list_any (λ x. x == 10) bs ≡ false → blank_line_behind (passed + 1) (quoted bs) ≡ None) → (q : Bool)
        → (b == 34) ≡ q → blank_line_behind passed (quoted (b ∷ bs)) ≡ None
    by_test next true f = ap (blank_line_behind passed) (quoted_quote b bs f)
    by_test next false f = ap (blank_line_behind passed) (quoted_byte b bs f)
        ∙ by_class (next (line_parts b bs e).1) (class_of b) refl

-- a value of one line is read back
pub quoted_value : (bs : List ℕ) → list_any (λ x. x == 10) bs ≡ false → value_of (quoted bs) ≡ bs
quoted_value [] e = refl
quoted_value (b ∷ bs) e = by_test (quoted_value bs (line_parts b bs e).1) (b == 34) refl
  where
    by_backslash : (q : Bool) → (b == 92) ≡ q → piece b (quoted bs) ≡ (b ∷ [], 0)
    by_backslash true f =
        let same : 92 ≡ b = grind (arith, nat_tests, f) in
        subst (λ x. piece x (quoted bs) ≡ (x ∷ [], 0)) same
        (plain_backslash (quoted bs) (quoted_one_line 0 bs (line_parts b bs e).1) (quoted_begins bs))
    by_backslash false f = plain_byte b (quoted bs) (line_parts b bs e).0 f

    by_test : value_of (quoted bs) ≡ bs → (q : Bool) → (b == 34) ≡ q → value_of (quoted (b ∷ bs)) ≡ b ∷ bs
    by_test next true f =
        let same : 34 ≡ b = grind (arith, nat_tests, f) in
        ap value_of (quoted_quote b bs f) ∙ ap (λ l. 34 ∷ l) next ∙ ap (λ x. x ∷ bs) same
    by_test next false f = ap value_of (quoted_byte b bs f) ∙ plain_value b (quoted bs) bs (by_backslash (b == 92) refl) next

-- what is written between quotes may stand there
pub quoted_bytes : (before : Bool) (bs : List ℕ) → TextBytes before (ends_in_backslash before bs) (quoted bs)
quoted_bytes before [] = lex.text_ends
quoted_bytes before (b ∷ bs) = by_test (λ e. quoted_bytes e bs) (b == 34) refl
  where
    by_test : ((e : Bool) → TextBytes e (ends_in_backslash e bs) (quoted bs)) → (q : Bool) → (b == 34) ≡ q
        → TextBytes before (ends_in_backslash (b == 92) bs) (quoted (b ∷ bs))
    by_test next true f =
        let other : false ≡ (b == 92) = grind (arith, nat_tests, f) in
        subst (λ l. TextBytes before (ends_in_backslash (b == 92) bs) l) (sym (quoted_quote b bs f))
        (lex.text_byte refl (lex.text_byte refl
        (subst (λ e. TextBytes false (ends_in_backslash e bs) (quoted bs)) other (next false))))
    by_test next false f =
        subst (λ l. TextBytes before (ends_in_backslash (b == 92) bs) l) (sym (quoted_byte b bs f))
        (lex.text_byte (ap (λ q. q && not before) f) (next (b == 92)))

-- the last of the bytes of a text is one backslash or none
pub one_last : {before first second : Bool} {bs : List ℕ} → TextBytes before first bs → TextBytes before second bs
    → first ≡ second
one_last lex.text_ends lex.text_ends = refl
one_last (lex.text_byte e d) (lex.text_byte f g) = one_last d g

pub quotes_read_back : (value : List ℕ) → QuotesReadBack value
quotes_read_back value = (
  λ k. record {
    same = quoted_value value k.one_line;
    closes = subst (λ last. TextBytes false last (quoted value)) k.closes (quoted_bytes false value);
  },
  λ k. record {
    one_line = subst (λ l. list_any (λ b. b == 10) l ≡ false) k.same (no_line_feed (value_sound (quoted value) 0));
    closes = one_last (quoted_bytes false value) k.closes;
  },
)
