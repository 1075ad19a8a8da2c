-- Bytes that are scanned token by token, as far as no outer brace ends.
use Rattle.std.proofs.Common.{◌≡◌, ℕ, ◌+◌, ◌-◌, ◌<◌, ◌≤◌, nat_lt, Bool, true, false, List, [], ◌∷◌, ◌++◌, take, drop, length}
use Rattle.std.proofs.Common.{Option, Some, None, refl, sym, ap, subst, ◌∙◌, arith}
use Rattle.std.proofs.lemmas.Bool.Decides.{nat_tests}
use Rattle.std.proofs.lemmas.List.{append_assoc, length-take-le, length-drop}
use Rattle.std.proofs.Math.Seq.{take-add}
use Rattle.liberty_text.specs.declared.token.TokenKind.{TokenKind}
use Rattle.liberty_text.specs.declared.token.Token.{Token}
use Rattle.liberty_text.specs.declared.scanner.Mode.{Mode}
use Rattle.liberty_text.specs.declared.scanner.Mode.TheVariants.{Between}
use Rattle.liberty_text.specs.Scanner.{step}
use Rattle.liberty_text.specs.Runs.{mode_behind, tokens_ended, has_mark}
use Rattle.cell_cursor.specs.declared.part.Place.{Place}
use Rattle.cell_cursor.specs.Braces.{depth_behind, depth_after, is_outer, has_outer, ShowsOuter, kinds_of}
use Rattle.cell_cursor.specs.Scanned.{NoneOuterEnds, last_mark}
use Rattle.cell_cursor.proofs.RunTokens.{AreFew, none_before_of, run_few, run_closes, counted_some, counted_none, outer_some}
use Rattle.cell_cursor.proofs.RunTokens.{outer_none, depth_more, unmarked_plain, plain_last}
use Rattle.cell_cursor.proofs.Depths.{kinds_append}

-- some bytes, and then others

mode_on : (mode : Mode) (at : ℕ) (xs ys : List ℕ)
    → mode_behind mode at (xs ++ ys) ≡ mode_behind (mode_behind mode at xs) (at + length xs) ys
mode_on mode at [] ys = ap (λ (n : ℕ). mode_behind mode n ys) (omega arith)
mode_on mode at (x ∷ xs) ys =
    let same : at + 1 + length xs ≡ at + length (x ∷ xs) = omega arith in
    mode_on (step mode at x).0 (at + 1) xs ys ∙ ap (λ (n : ℕ). mode_behind (mode_behind (step mode at x).0 (at + 1) xs) n ys) same

ended_on : (mode : Mode) (at : ℕ) (xs ys : List ℕ)
    → tokens_ended mode at (xs ++ ys) ≡ tokens_ended mode at xs ++ tokens_ended (mode_behind mode at xs) (at + length xs) ys
ended_on mode at [] ys = ap (λ (n : ℕ). tokens_ended mode n ys) (omega arith)
ended_on mode at (x ∷ xs) ys =
    let same : at + 1 + length xs ≡ at + length (x ∷ xs) = omega arith in
    let s = step mode at x in
    ap (λ (l : List Token). s.1 ++ l)
    (ended_on s.0 (at + 1) xs ys ∙ ap (λ (n : ℕ). tokens_ended s.0 (at + 1) xs ++ tokens_ended (mode_behind s.0 (at + 1) xs) n ys)
    same)
    ∙ sym (append_assoc s.1 (tokens_ended s.0 (at + 1) xs) (tokens_ended (mode_behind s.0 (at + 1) xs) (at + length (x ∷ xs)) ys))

-- So many of more bytes were scanned behind tokens, with what stood open behind those: these are the tokens now, this stands
-- open, and so many groups are open. None of the tokens is an outer brace.
pub record Passed (here : Place) (ts : List Token) (mode : Mode) (at : ℕ) (more : List ℕ) (count : ℕ) (tokens : List Token)
    (now : Mode) (depth : ℕ) : Type 0 where
  pub within : count ≤ length more
  pub tokens_are : tokens ≡ ts ++ tokens_ended mode at (take count more)
  pub mode_is : now ≡ mode_behind mode at (take count more)
  pub counted : depth ≡ depth_after 0 (kinds_of tokens)
  pub few : depth ≤ at + count
  pub inner : has_outer here (kinds_of ts) ≡ false → NoneOuterEnds here ts mode at more (count + 1)

-- What is known of one more run of bytes, of which a brace of a group or a semicolon ends at most with the last one.
pub record Runs (mode : Mode) (at : ℕ) (left : List ℕ) (count : ℕ) (tokens tokens' : List Token) (now : Mode)
    (kind : Option TokenKind) : Type 0 where
  pub within : count ≤ length left
  pub tokens_are : tokens' ≡ tokens ++ tokens_ended mode at (take count left)
  pub mode_is : now ≡ mode_behind mode at (take count left)
  pub none_before : (n : ℕ) → n < count → has_mark (tokens_ended mode at (take n left)) ≡ false
  pub kind_is : kind ≡ last_mark (tokens_ended mode at (take count left))

run_is_few : (mode : Mode) (at : ℕ) (left : List ℕ) (count : ℕ) (tokens tokens' : List Token) (now : Mode)
    (kind : Option TokenKind) → Runs mode at left count tokens tokens' now kind →
    AreFew (tokens_ended mode at (take count left))
run_is_few mode at left count tokens tokens' now kind r =
    run_few mode at (take count left) (none_before_of mode at left count r.within r.none_before)

-- where such a mark has ended with the last of them nothing stands open behind it
pub run_ends : {mode : Mode} {at : ℕ} {left : List ℕ} {count : ℕ} {tokens tokens' : List Token} {now : Mode} {k : TokenKind}
    → Runs mode at left count tokens tokens' now (Some k) → now ≡ Between false
run_ends {mode} {at} {left} {count} {tokens} {tokens'} {now} {k} r =
    r.mode_is ∙ run_closes mode at (take count left) k (none_before_of mode at left count r.within r.none_before)
    (sym r.kind_is)

last_too : (here : Place) (ts : List Token) (mode : Mode) (at : ℕ) (more : List ℕ) (count : ℕ) (tokens' : List Token)
    → NoneOuterEnds here ts mode at more count → has_outer here (kinds_of tokens') ≡ false →
    tokens' ≡ ts ++ tokens_ended mode at (take count more) → NoneOuterEnds here ts mode at more (count + 1)
last_too here ts mode at more count tokens' before last e n less = by_test (nat_lt n count) refl
  where
    by_test : (b : Bool) → nat_lt n count ≡ b → has_outer here (kinds_of (ts ++ tokens_ended mode at (take n more))) ≡ false
    by_test true t = before n (grind (arith, nat_tests, t))
    by_test false t =
        let is_last : n ≡ count = grind (arith, nat_tests, t, less) in
        ap (λ (i : ℕ). has_outer here (kinds_of (ts ++ tokens_ended mode at (take i more)))) is_last
        ∙ ap (λ (l : List Token). has_outer here (kinds_of l)) (sym e) ∙ last

module _ {here : Place} {ts : List Token} {mode : Mode} {at : ℕ} {more : List ℕ} {count : ℕ} {tokens : List Token} {m : Mode}
    {depth : ℕ} where
  ended_so_far : (left : List ℕ) (n : ℕ) → Passed here ts mode at more count tokens m depth → left ≡ drop count more →
      tokens_ended mode at (take (count + n) more) ≡ tokens_ended mode at (take count more)
      ++ tokens_ended m (at + count) (take n left)
  ended_so_far left n p e =
      let size : length (take count more) ≡ count = length-take-le count more p.within in
      ap (tokens_ended mode at) (take-add count n more ∙ ap (λ (l : List ℕ). take count more ++ take n l) (sym e))
      ∙ ended_on mode at (take count more) (take n left)
      ∙ ap (λ (k : ℕ). tokens_ended mode at (take count more) ++ tokens_ended (mode_behind mode at (take count more)) (at + k)
      (take n left)) size
      ∙ ap (λ (x : Mode). tokens_ended mode at (take count more) ++ tokens_ended x (at + count) (take n left)) (sym p.mode_is)

  -- none of the tokens is an outer brace
  pub open_before : Passed here ts mode at more count tokens m depth → has_outer here (kinds_of ts) ≡ false
      → has_outer here (kinds_of tokens) ≡ false
  open_before p none = ap (λ (l : List Token). has_outer here (kinds_of l)) p.tokens_are ∙ p.inner none count (omega arith)

  -- One more run of bytes behind them
  module _ {left : List ℕ} {taken : ℕ} {tokens' : List Token} {m' : Mode} {kind : Option TokenKind} where
    pub tokens_so_far : Passed here ts mode at more count tokens m depth → left ≡ drop count more
        → Runs m (at + count) left taken tokens tokens' m' kind →
        tokens' ≡ ts ++ tokens_ended mode at (take (count + taken) more)
    tokens_so_far p e r =
        r.tokens_are ∙ ap (λ (l : List Token). l ++ tokens_ended m (at + count) (take taken left)) p.tokens_are
        ∙ append_assoc ts (tokens_ended mode at (take count more)) (tokens_ended m (at + count) (take taken left))
        ∙ ap (λ (l : List Token). ts ++ l) (sym (ended_so_far left taken p e))

    pub mode_so_far : Passed here ts mode at more count tokens m depth → left ≡ drop count more
        → Runs m (at + count) left taken tokens tokens' m' kind →
        m' ≡ mode_behind mode at (take (count + taken) more)
    mode_so_far p e r =
        let size : length (take count more) ≡ count = length-take-le count more p.within in
        r.mode_is
        ∙ ap (λ (x : Mode). mode_behind x (at + count) (take taken left)) p.mode_is
        ∙ ap (λ (k : ℕ). mode_behind (mode_behind mode at (take count more)) (at + k) (take taken left)) (sym size)
        ∙ sym (mode_on mode at (take count more) (take taken left))
        ∙ ap (mode_behind mode at) (sym
        (take-add count taken more ∙ ap (λ (l : List ℕ). take count more ++ take taken l) (sym e)))

    pub within_so_far : Passed here ts mode at more count tokens m depth → left ≡ drop count more
        → Runs m (at + count) left taken tokens tokens' m' kind → count + taken ≤ length more
    within_so_far p e r = let size = ap length e in omega (arith, p.within, r.within, size, length-drop count more)

    -- no outer brace ends before the last of the bytes
    pub none_so_far : Passed here ts mode at more count tokens m depth → left ≡ drop count more
        → Runs m (at + count) left taken tokens tokens' m' kind →
        has_outer here (kinds_of ts) ≡ false → NoneOuterEnds here ts mode at more (count + taken)
    none_so_far p e r none n less = by_test (nat_lt n (count + 1)) refl
      where
        by_test : (b : Bool) → nat_lt n (count + 1) ≡ b
            → has_outer here (kinds_of (ts ++ tokens_ended mode at (take n more))) ≡ false
        by_test true t = p.inner none n (grind (arith, nat_tests, t))
        by_test false t =
            let far : count + 1 ≤ n = grind (arith, nat_tests, t) in
            let n_is : n ≡ count + (n - count) = omega (arith, far) in
            let ended = tokens_ended mode at (take count more) in
            let new = tokens_ended m (at + count) (take (n - count) left) in
            ap (λ (k : ℕ). has_outer here (kinds_of (ts ++ tokens_ended mode at (take k more)))) n_is
            ∙ ap (λ (l : List Token). has_outer here (kinds_of (ts ++ l))) (ended_so_far left (n - count) p e)
            ∙ ap (λ (l : List Token). has_outer here (kinds_of l)) (sym (append_assoc ts ended new))
            ∙ ap (has_outer here) (kinds_append (ts ++ ended) new)
            ∙ plain_last here (kinds_of (ts ++ ended)) (kinds_of new)
            (unmarked_plain new (r.none_before (n - count) (omega (arith, far, less))))
            ∙ p.inner none count (omega arith)

  module _ {left : List ℕ} {taken : ℕ} {tokens' : List Token} {m' : Mode} {k : TokenKind} where
    -- such a mark has ended with the run
    pub outer_so_far : (d : ℕ) (may : Bool) → Passed here ts mode at more count tokens m depth
        → Runs m (at + count) left taken tokens tokens' m' (Some k) → d ≡ depth_behind depth k →
        (may ≡ false → (before : ℕ) → d ≡ depth_behind before k → is_outer here before k ≡ false)
        → has_outer here (kinds_of ts) ≡ false → ShowsOuter may here (kinds_of tokens')
    outer_so_far d may p r behind asked none =
        outer_some here tokens tokens' (tokens_ended m (at + count) (take taken left)) depth d k k may r.tokens_are r.kind_is
        (run_is_few m (at + count) left taken tokens tokens' m' (Some k) r) p.counted refl behind asked (open_before p none)

    pub counted_so_far : (d : ℕ) → Passed here ts mode at more count tokens m depth
        → Runs m (at + count) left taken tokens tokens' m' (Some k) → d ≡ depth_behind depth k
        → d ≡ depth_after 0 (kinds_of tokens')
    counted_so_far d p r behind =
        counted_some tokens tokens' (tokens_ended m (at + count) (take taken left)) depth d k k r.tokens_are r.kind_is
        (run_is_few m (at + count) left taken tokens tokens' m' (Some k) r) p.counted refl behind

    pub passed_token : (d : ℕ) (may : Bool) → Passed here ts mode at more count tokens m depth → left ≡ drop count more
        → Runs m (at + count) left taken tokens tokens' m' (Some k) → d ≡ depth_behind depth k →
        (may ≡ false → (before : ℕ) → d ≡ depth_behind before k → is_outer here before k ≡ false) → may ≡ false → 0 < taken
        → Passed here ts mode at more (count + taken) tokens' m' d
    passed_token d may p e r behind asked inside some = record {
      within = within_so_far p e r;
      tokens_are = tokens_so_far p e r;
      mode_is = mode_so_far p e r;
      counted = counted_so_far d p r behind;
      few = omega (arith, p.few, behind, depth_more depth k, some);
      inner = λ none.
          last_too here ts mode at more (count + taken) tokens' (none_so_far p e r none)
          (subst (λ (x : Bool). ShowsOuter x here (kinds_of tokens')) inside (outer_so_far d may p r behind asked none))
          (tokens_so_far p e r);
    }

  -- none has ended with the run
  pub passed_rest : {left : List ℕ} {taken : ℕ} {tokens' : List Token} {m' : Mode}
      → Passed here ts mode at more count tokens m depth → left ≡ drop count more →
      Runs m (at + count) left taken tokens tokens' m' None → Passed here ts mode at more (count + taken) tokens' m' depth
  passed_rest {left} {taken} {tokens'} {m'} p e r =
      let new = tokens_ended m (at + count) (take taken left) in
      let few = run_is_few m (at + count) left taken tokens tokens' m' None r in
      record {
        within = within_so_far p e r;
        tokens_are = tokens_so_far p e r;
        mode_is = mode_so_far p e r;
        counted = counted_none tokens tokens' new depth r.tokens_are r.kind_is few p.counted;
        few = omega (arith, p.few);
        inner = λ none. last_too here ts mode at more (count + taken) tokens' (none_so_far p e r none)
            (outer_none here tokens tokens' new r.tokens_are r.kind_is few (open_before p none)) (tokens_so_far p e r);
      }
