-- Over which braces a reading walks: from so many open groups to so many, and whether it walks over a brace of a kind.
use Rattle.std.proofs.Common.{◌≡◌, ℕ, zero, suc, ◌||◌, Bool, false, List, [], ◌∷◌, ◌++◌, length, Option, Some, None, Ok, Err}
use Rattle.std.proofs.Common.{refl, sym, ap, ◌∙◌}
use Rattle.std.proofs.lemmas.List.{append_assoc}
use Rattle.std.proofs.Math.Bool.{or-false as or_false}
use Rattle.grammar_rules.specs.Rule.{Rule, Verdict, Fits, Foul, Misfit}
use Rattle.grammar_rules.specs.Rule as r
use Rattle.grammar_rules.specs.Reading.{Outcome, and_then, judge, judge_first, repeat, read}
use Rattle.liberty_text.specs.declared.token.TokenKind.{TokenKind}
use Rattle.liberty_groups.specs.Lexeme.{Lexeme}
use Rattle.cell_cursor.specs.Braces.{depth_behind, depth_after, shows, lexeme_kinds}
use Rattle.cell_cursor.proofs.Depths.{depth_append, shows_append}

-- a kind of brace, where so many groups are open
abbrev pub Brace : Type 0
Brace = ℕ → TokenKind → Bool

abbrev pub never : {A : Type 0} → A → Bool
never a = false

-- What was read led from so many open groups to so many, over such a brace where the value says so. What was refused at the end
-- has none.
abbrev pub Walk : {K A : Type 0} → Brace → ℕ → ℕ → (A → Bool) → List Lexeme → Outcome Lexeme K A → Type 0
Walk is d e c s (Ok p) = (used : List TokenKind) × (lexeme_kinds s ≡ used ++ lexeme_kinds p.1) × (depth_after d used ≡ e)
    × (shows is d used ≡ c p.0)
Walk is d e c s (Err z) = z.1 ≡ [] → shows is d (lexeme_kinds s) ≡ false

abbrev pub Walks : {K A : Type 0} → Brace → ℕ → ℕ → (A → Bool) → Rule Lexeme K A → Type 0
Walks is d e c p = (s : List Lexeme) → Walk is d e c s (read p s)

-- some tokens, and then a walk
pub walk_on : {K A : Type 0} (is : Brace) (d e f : ℕ) (c : A → Bool) (s m : List Lexeme) (used : List TokenKind)
    (o : Outcome Lexeme K A) →
    lexeme_kinds s ≡ used ++ lexeme_kinds m → depth_after d used ≡ e → shows is d used ≡ false → Walk is e f c m o
    → Walk is d f c s o
walk_on is d e f c s m used (Ok p) split depth none (more, split', depth', shown) = (
  used ++ more,
  split ∙ ap (λ (l : List TokenKind). used ++ l) split' ∙ sym (append_assoc used more (lexeme_kinds p.1)),
  depth_append d used more ∙ ap (λ (k : ℕ). depth_after k more) depth ∙ depth',
  shows_append is d used more ∙ ap (λ (x : Bool). x || shows is (depth_after d used) more) none
      ∙ ap (λ (k : ℕ). shows is k more) depth ∙ shown,
)
walk_on is d e f c s m used (Err z) split depth none w = λ nothing.
    ap (shows is d) split
    ∙ shows_append is d used (lexeme_kinds m)
    ∙ ap (λ (x : Bool). x || shows is (depth_after d used) (lexeme_kinds m)) none
    ∙ ap (λ (k : ℕ). shows is k (lexeme_kinds m)) depth
    ∙ w nothing

-- one token, and then a walk
pub walk_token : {K A : Type 0} (is : Brace) (d e f : ℕ) (c : A → Bool) (x : Lexeme) (m : List Lexeme) (o : Outcome Lexeme K A) →
    depth_behind d x.token.kind ≡ e → is d x.token.kind ≡ false → Walk is e f c m o → Walk is d f c (x ∷ m) o
walk_token is d e f c x m o depth none w =
    walk_on is d e f c (x ∷ m) m (x.token.kind ∷ []) o refl depth (or_false (is d x.token.kind) ∙ none) w

pub walk_then : {K A B : Type 0} (is : Brace) (d e f : ℕ) (c : B → Bool) (s : List Lexeme) (o : Outcome Lexeme K A) (g : A
    → List Lexeme → Outcome Lexeme K B) →
    Walk is d e never s o → ((a : A) (m : List Lexeme) → Walk is e f c m (g a m)) → Walk is d f c s (and_then o g)
walk_then is d e f c s (Ok p) g (used, split, depth, none) h =
    walk_on is d e f c s p.1 used (g p.0 p.1) split depth none (h p.0 p.1)
walk_then is d e f c s (Err z) g w h = w

none_left : (x : Lexeme) (s : List Lexeme) → x ∷ s ≡ [] → ⊥
none_left x s e = cc

walk_judged : {K A : Type 0} (is : Brace) (d e : ℕ) (c : A → Bool) (x : Lexeme) (s : List Lexeme) (v : Verdict A K) →
    ((a : A) → v ≡ Fits a → (depth_behind d x.token.kind ≡ e) × (is d x.token.kind ≡ c a))
    → Walk {K = K} is d e c (x ∷ s) (judge v (λ a. Ok (a, s)) (λ j. Err (j, x ∷ s)))
walk_judged is d e c x s (Fits a) h = let k = h a refl in (x.token.kind ∷ [], refl, k.0, or_false (is d x.token.kind) ∙ k.1)
walk_judged is d e c x s (Foul j a) h = λ nothing. absurd (none_left x s nothing)
walk_judged is d e c x s (Misfit j) h = λ nothing. absurd (none_left x s nothing)

walk_first : {K A B : Type 0} (is : Brace) (d f : ℕ) (c : B → Bool) (x : Lexeme) (s : List Lexeme) (v : Option (Verdict A K))
    (g : A → Outcome Lexeme K B) (other : Outcome Lexeme K B) →
    ((a : A) → v ≡ Some (Fits a) → (is d x.token.kind ≡ false) × Walk is (depth_behind d x.token.kind) f c s (g a))
    → Walk is d f c (x ∷ s) other →
    Walk is d f c (x ∷ s) (judge_first v g (λ k. Err (k, x ∷ s)) other)
walk_first is d f c x s None g other h w = w
walk_first is d f c x s (Some (Fits a)) g other h w = let k = h a refl
    in walk_token is d (depth_behind d x.token.kind) f c x s (g a) refl k.0 k.1
walk_first is d f c x s (Some (Foul j a)) g other h w = λ nothing. absurd (none_left x s nothing)
walk_first is d f c x s (Some (Misfit j)) g other h w = λ nothing. absurd (none_left x s nothing)

-- the rules

pub walks_gives : {A : Type 0} (K : Type 0) (is : Brace) (d : ℕ) (c : A → Bool) (a : A) → c a ≡ false
    → Walks {K = K} is d d c (r.Gives a)
walks_gives K is d c a h s = ([], refl, refl, sym h)

pub walks_token : {K A : Type 0} (is : Brace) (d e : ℕ) (c : A → Bool) (f : Lexeme → Verdict A K) (k : K) →
    ((x : Lexeme) (a : A) → f x ≡ Fits a → (depth_behind d x.token.kind ≡ e) × (is d x.token.kind ≡ c a))
    → Walks is d e c (r.Token f k)
walks_token is d e c f k h [] = λ nothing. refl
walks_token is d e c f k h (x ∷ s) = walk_judged is d e c x s (f x) (h x)

pub walks_peek : {K A : Type 0} (is : Brace) (d : ℕ) (f : Lexeme → Verdict A K) (k : K) → Walks is d d never (r.Peek f k)
walks_peek is d f k [] = λ nothing. refl
walks_peek {K} {A} is d f k (x ∷ s) = by_verdict (f x)
  where
    by_verdict : (v : Verdict A K) → Walk {K = K} is d d never (x ∷ s) (judge v (λ a. Ok (a, x ∷ s)) (λ j. Err (j, x ∷ s)))
    by_verdict (Fits a) = ([], refl, refl, refl)
    by_verdict (Foul j a) = λ nothing. absurd (none_left x s nothing)
    by_verdict (Misfit j) = λ nothing. absurd (none_left x s nothing)

pub walks_then : {K A B : Type 0} (is : Brace) (d e f : ℕ) (c : B → Bool) (p : Rule Lexeme K A) (g : A → Rule Lexeme K B) →
    Walks is d e never p → ((a : A) → Walks is e f c (g a)) → Walks is d f c (r.Then p g)
walks_then is d e f c p g h i s = walk_then is d e f c s (read p s) (λ a m. read (g a) m) (h s) (λ a m. i a m)

pub walks_choice : {K A B : Type 0} (is : Brace) (d e : ℕ) (c : B → Bool) (f : Lexeme → Option (Verdict A K)) (g : A
    → Rule Lexeme K B) (p : Rule Lexeme K B) →
    ((x : Lexeme) (a : A) → f x ≡ Some (Fits a) → (is d x.token.kind ≡ false) × Walks is (depth_behind d x.token.kind) e c (g a))
    → Walks is d e c p → Walks is d e c (r.Choice f g p)
walks_choice is d e c f g p h w [] = w []
walks_choice is d e c f g p h w (x ∷ s) =
    walk_first is d e c x s (f x) (λ a. read (g a) s) (read p (x ∷ s)) (λ a fits. let k = h x a fits in (k.0, k.1 s)) (w (x ∷ s))

pub walks_many : {K A S : Type 0} (is : Brace) (d : ℕ) (f : S → Lexeme → Option (Verdict A K)) (g : S → A
    → Rule Lexeme K S) (u : S) →
    ((v : S) (x : Lexeme) (a : A) → f v x ≡ Some (Fits a) → (is d x.token.kind ≡ false) × (depth_behind d x.token.kind ≡ d)
    × Walks is d d never (g v a)) → Walks is d d never (r.Many f g u)
walks_many {K} {A} {S} is d f g u h s = turns (length s) u s
  where
    turns : (n : ℕ) (v : S) (s : List Lexeme) → Walk is d d never s (repeat f (λ w a m. read (g w a) m) n v s)
    turns zero v s = ([], refl, refl, refl)
    turns (suc n) v [] = ([], refl, refl, refl)
    turns (suc n) v (x ∷ s) =
        walk_first is d d never x s (f v x) (λ a. and_then (read (g v a) s) (λ w q. repeat f (λ w a m. read (g w a) m) n w q))
        (Ok (v, x ∷ s))
        (λ a fits. let k = h v x a fits in (
          k.0,
          walk_on is (depth_behind d x.token.kind) d d never s s []
              (and_then (read (g v a) s) (λ w q. repeat f (λ w a m. read (g w a) m) n w q)) refl k.1 refl
              (walk_then is d d d never s (read (g v a) s) (λ w q. repeat f (λ w a m. read (g w a) m) n w q) (k.2 s)
              (λ w q. turns n w q)),
        ))
        ([], refl, refl, refl)
