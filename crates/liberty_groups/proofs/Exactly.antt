-- The answer of the code is the one that the definition says, and no other.
use Rattle.std.proofs.Common.{◌≡◌, ℕ, ◌==◌, ◌&&◌, Bool, true, false, List, [], ◌∷◌, ◌++◌, length, slice_range, Option, Some, None}
use Rattle.std.proofs.Common.{Ok, Err, inl, inr, refl, sym, ap, subst, ◌∙◌, arith, cond}
use Rattle.std.specs.Prelude.{unwrap_or}
use Rattle.std.proofs.lemmas.Bool.Decides.{nat_tests}
use Rattle.std.proofs.lemmas.Bool.{and_parts as and_splits}
use Rattle.liberty_text.specs.declared.token.Token.{Token}
use Rattle.liberty_text.specs.declared.token.TokenKind.{TokenKind}
use Rattle.liberty_text.specs.declared.token.TokenKind.TheVariants.{Word, Text, Brace, Colon, Semicolon, Comma}
use Rattle.liberty_text.specs.declared.token.Stop.{Stop}
use Rattle.liberty_text.specs.declared.token.Stop.TheVariants as stops
use Rattle.liberty_text.specs.Scanner.{token, scan_of}
use Rattle.liberty_text.specs.Tokens.{Reads}
use Rattle.liberty_text.proofs.Complete.{one_reading}
use Rattle.grammar_rules.specs.Rule.{Takes, Refuses, Front}
use Rattle.grammar_rules.specs.Reading.{Outcome, read}
use Rattle.grammar_rules.proofs.Steps.{rest_of}
use Rattle.grammar_rules.proofs.Exact.{complete, sound}
use Rattle.grammar_rules.proofs.Refusals.{refuses, refused}
use Rattle.grammar_rules.proofs.Fronts.{UsesUp, front_ends, ends_front}
use Rattle.grammar_rules.proofs.Places.{refuses_at_first}
use Rattle.liberty_groups.specs.declared.fault.LibraryFault.{LibraryFault}
use Rattle.liberty_groups.specs.declared.fault.Refusal.{Refusal}
use Rattle.liberty_groups.specs.declared.read.End.{End}
use Rattle.liberty_groups.specs.declared.read.End.TheVariants.{Whole, Cut, Fault}
use Rattle.liberty_groups.specs.Lexeme.{Lexeme, lexeme_of, lexemes_of}
use Rattle.liberty_groups.specs.Fault.{fault_at, lexical_fault}
use Rattle.liberty_groups.specs.Library.{Found, library, is_word}
use Rattle.liberty_groups.specs.Answer.{IsFrontOfText, GathersFirst, FaultsAt, EndsSo, IsReading, may_become_other, is_nil}
use Rattle.liberty_groups.specs.Answer.{is_last, is_unfinished, halt_at, halt_of, found_in, fault_of, goes_on_after, may_go_on}
use Rattle.liberty_groups.specs.Answer.{end_by, end_of, outcome_of, found_of_bytes, end_of_bytes}
use Rattle.liberty_groups.specs.declared.outline.Standing.TheVariants.{Start}
use Rattle.liberty_groups.specs.Outline.{stands}
use Rattle.liberty_groups.proofs.Pieces.{head_same, tail_same}
use Rattle.liberty_groups.proofs.Completions.{whole, used_stands}
use Rattle.liberty_groups.proofs.Cuts.{front_goes_on, word_goes_on}
use Rattle.liberty_groups.proofs.Decides.{decides, front_halts, front_of_text}

-- the last of the tokens with their bytes
last_lexeme : (text : List ℕ) (ts : List Token) (front : List Lexeme) (x : Lexeme) → lexemes_of text ts ≡ front ++ x ∷ [] →
    (E : List Token) × (t : Token) × (ts ≡ E ++ t ∷ []) × (lexemes_of text E ≡ front) × (lexeme_of text t ≡ x)
last_lexeme text [] [] x e = absurd cc
last_lexeme text [] (y ∷ front) x e = absurd cc
last_lexeme text (t ∷ []) [] x e = ([], t, refl, refl, head_same e)
last_lexeme text (t ∷ u ∷ ts) [] x e = absurd (let i = ap length e in omega arith)
last_lexeme text (t ∷ ts) (y ∷ front) x e =
    let i = last_lexeme text ts front x (tail_same e) in
    let h : lexeme_of text t ≡ y = head_same e in (
      t ∷ i.0,
      i.1,
      ap (λ (s : List Token). t ∷ s) i.2,
      ap (λ (s : List Lexeme). lexeme_of text t ∷ s) i.3
          ∙ ap (λ (z : Lexeme). z ∷ front) h,
      i.4,
    )

a_word : (k : TokenKind) → is_word k ≡ true → k ≡ Word
a_word Word e = refl
a_word Text e = absurd cc
a_word (Brace b) e = absurd cc
a_word Colon e = absurd cc
a_word Semicolon e = absurd cc
a_word Comma e = absurd cc

is_none : {T : Type 0} (s : List T) → is_nil s ≡ true → s ≡ []
is_none [] e = refl
is_none (x ∷ s) e = absurd cc

-- a refused last word, in a reading
unfinished_goes_on : (bytes : List ℕ) (ts : List Token) (x : Lexeme) (front : List Lexeme) → Reads bytes ts stops.End
    → lexemes_of bytes ts ≡ front ++ x ∷ [] →
    Front library front → is_unfinished (length bytes) (is_last (lexemes_of bytes ts)) (x ∷ []) ≡ true → IsFrontOfText bytes
unfinished_goes_on bytes ts x front d s f u =
    let i = last_lexeme bytes ts front x s in
    let v = and_splits (is_word x.token.kind)
    (x.token.end == length bytes && may_become_other (is_last (lexemes_of bytes ts)) x.bytes) u in
    let w = and_splits (x.token.end == length bytes) (may_become_other (is_last (lexemes_of bytes ts)) x.bytes) v.1 in
    let t = i.1 in
    let same : t ≡ x.token = ap (λ (z : Lexeme). z.token) i.4 in
    let kind : t.kind ≡ Word = ap (λ (z : Token). z.kind) same ∙ a_word x.token.kind v.0 in
    let is : t ≡ token Word t.at t.end t.line_before = ap (λ (k : TokenKind). token k t.at t.end t.line_before) kind in
    let here : t.end ≡ length bytes = ap (λ (z : Token). z.end) same ∙ number x.token.end (length bytes) w.0 in
    let bytes_are : slice_range bytes t.at t.end ≡ x.bytes = ap (λ (z : Lexeme). z.bytes) i.4 in
    let p = used_stands front (front_ends library front f) in
    word_goes_on bytes i.0 t.at t.end t.line_before (is_last (lexemes_of bytes ts)) p.0
    (subst (λ (l : List Token). Reads bytes l stops.End) (i.2 ∙ ap (λ (z : Token). i.0 ++ z ∷ []) is) d) here
    (ap (stands Start) i.3 ∙ p.1)
    (ap (may_become_other (is_last (lexemes_of bytes ts))) bytes_are ∙ w.1)
    (λ only. alone i.0 t (ap is_last (ap (lexemes_of bytes) (sym i.2)) ∙ only))
  where
    number : (m n : ℕ) → (m == n) ≡ true → m ≡ n
    number m n e = grind (arith, nat_tests, e)

    alone : (E : List Token) (t : Token) → is_last (lexemes_of bytes (E ++ t ∷ [])) ≡ true → E ≡ []
    alone [] t e = refl
    alone (c ∷ []) t e = absurd cc
    alone (c ∷ b ∷ E) t e = absurd cc

-- bytes that may go on are the front of a library text
pub goes_front : (bytes : List ℕ) (ts : List Token) (stop : Stop) → Reads bytes ts stop → decides bytes ts stop ≡ true
    → IsFrontOfText bytes
goes_front bytes ts stop d h = by_outcome (read library (lexemes_of bytes ts)) refl
  where
    s : List Lexeme
    s = lexemes_of bytes ts

    when_used : UsesUp (read library (lexemes_of bytes ts)) → IsFrontOfText bytes
    when_used u =
        let p = used_stands (lexemes_of bytes ts) u in
        front_goes_on bytes ts stop p.0 d p.1
        (sym (front_halts bytes (length bytes) (is_last (lexemes_of bytes ts)) (read library (lexemes_of bytes ts)) stop u)
        ∙ h)

    by_stop : (stop : Stop) → Reads bytes ts stop → (z : (Found × Refusal) × List Lexeme) (x : Lexeme) (m : List Lexeme)
        → read library (lexemes_of bytes ts) ≡ Err (z.0, x ∷ m) →
        may_go_on bytes (halt_at (length bytes) (is_last (lexemes_of bytes ts)) z.0.1 (x ∷ m)) stop ≡ true → IsFrontOfText bytes
    by_stop stops.End d z x m e g =
        let v = and_splits (is_nil m) (is_word x.token.kind
        && (x.token.end == length bytes && may_become_other (is_last (lexemes_of bytes ts)) x.bytes)) g in
        let none : m ≡ [] = is_none m v.0 in
        let r = (refuses_at_first library).place (lexemes_of bytes ts) z.0 (x ∷ m)
        (refused library (lexemes_of bytes ts) z.0 (x ∷ m) e) in
        unfinished_goes_on bytes ts x r.0 d (r.1 ∙ ap (λ (t : List Lexeme). r.0 ++ x ∷ t) none) r.2
        (subst (λ (t : List Lexeme). is_unfinished (length bytes) (is_last (lexemes_of bytes ts)) (x ∷ t) ≡ true) none g)
    by_stop (stops.BadByte a) d z x m e g = absurd cc
    by_stop (stops.OpenText a) d z x m e g = absurd cc
    by_stop (stops.OpenComment a) d z x m e g = absurd cc
    by_stop (stops.OpenContinuation a) d z x m e g = absurd cc

    by_outcome : (o : Outcome Lexeme (Found × Refusal) Found) → read library (lexemes_of bytes ts) ≡ o → IsFrontOfText bytes
    by_outcome (Ok y) e = when_used (ap rest_of e
        ∙ whole (lexemes_of bytes ts) y.0 y.1 (sound library (lexemes_of bytes ts) y.0 y.1 e))
    by_outcome (Err z) e = by_rest z.1 refl
      where
        by_rest : (m : List Lexeme) → z.1 ≡ m → IsFrontOfText bytes
        by_rest [] i = when_used (ap rest_of e ∙ i)
        by_rest (x ∷ m) i =
            let e' : read library (lexemes_of bytes ts) ≡ Err (z.0, x ∷ m) = e ∙ ap (λ (t : List Lexeme). Err (z.0, t)) i in
            by_stop stop d z x m e' (ap (λ (o : Outcome Lexeme (Found × Refusal) Found). may_go_on bytes
            (halt_of (length bytes) (is_last (lexemes_of bytes ts)) o) stop) (sym e') ∙ h)

-- what the code says of a fault: it comes so, or the text is whole
abbrev FaultIs : ℕ → List Lexeme → Stop → Option LibraryFault → Type 0
FaultIs len s stop None = (stop ≡ stops.End) × (found : Found) × Takes library s found []
FaultIs len s stop (Some f) = FaultsAt len s stop f

fault_is : (len : ℕ) (s : List Lexeme) (only : Bool) (stop : Stop)
    → FaultIs len s stop (fault_of len (halt_of len only (read library s)) stop)
fault_is len s only stop = by_outcome (read library s) refl
  where
    when_whole : (stop : Stop) (found : Found) → Takes library s found [] → FaultIs len s stop (lexical_fault stop)
    when_whole stops.End found t = (refl, found, t)
    when_whole (stops.BadByte a) found t = inr (inl (ends_front library s (ap rest_of (complete library s found [] t)), refl))
    when_whole (stops.OpenText a) found t = inr (inl (ends_front library s (ap rest_of (complete library s found [] t)), refl))
    when_whole (stops.OpenComment a) found t = inr (inl (ends_front library s (ap rest_of (complete library s found [] t)), refl))
    when_whole (stops.OpenContinuation a) found t =
        inr (inl (ends_front library s (ap rest_of (complete library s found [] t)), refl))

    when_short : (stop : Stop) (found : Found) (k : Refusal) → Refuses library s (found, k) []
        → FaultsAt len s stop (unwrap_or (lexical_fault stop) (fault_at k len))
    when_short stops.End found k t = inr (inr (refl, found, k, t, refl))
    when_short (stops.BadByte a) found k t =
        inr (inl (ends_front library s (ap rest_of (refuses library s (found, k) [] t)), refl))
    when_short (stops.OpenText a) found k t =
        inr (inl (ends_front library s (ap rest_of (refuses library s (found, k) [] t)), refl))
    when_short (stops.OpenComment a) found k t =
        inr (inl (ends_front library s (ap rest_of (refuses library s (found, k) [] t)), refl))
    when_short (stops.OpenContinuation a) found k t =
        inr (inl (ends_front library s (ap rest_of (refuses library s (found, k) [] t)), refl))

    by_rest : (k : Found × Refusal) (m : List Lexeme) → Refuses library s k m
        → FaultIs len s stop (fault_of len (halt_at len only k.1 m) stop)
    by_rest k [] t = when_short stop k.0 k.1 t
    by_rest k (x ∷ m) t = inl (k.0, k.1, x, m, t, refl)

    by_outcome : (o : Outcome Lexeme (Found × Refusal) Found) → read library s ≡ o
        → FaultIs len s stop (fault_of len (halt_of len only o) stop)
    by_outcome (Ok y) e =
        let t = sound library s y.0 y.1 e in
        when_whole stop y.0 (subst (λ (r : List Lexeme). Takes library s y.0 r) (whole s y.0 y.1 t) t)
    by_outcome (Err z) e = by_rest z.0 z.1 (refused library s z.0 z.1 e)

-- a fault that comes so is the one of the code
fault_one : (len : ℕ) (s : List Lexeme) (only : Bool) (stop : Stop) (f : LibraryFault) → FaultsAt len s stop f →
    fault_of len (halt_of len only (read library s)) stop ≡ Some f
fault_one len s only stop f (inl (found, k, x, m, t, e)) =
    ap (λ (o : Outcome Lexeme (Found × Refusal) Found). fault_of len (halt_of len only o) stop)
    (refuses library s (found, k) (x ∷ m) t) ∙ ap Some (sym e)
fault_one len s only stop f (inr (inl (front, e))) = by_outcome (read library s) (front_ends library s front)
  where
    by_outcome : (o : Outcome Lexeme (Found × Refusal) Found) → UsesUp o → fault_of len (halt_of len only o) stop ≡ Some f
    by_outcome (Ok y) u = e
    by_outcome (Err z) u =
        ap (λ (m : List Lexeme). fault_of len (halt_at len only z.0.1 m) stop) u
        ∙ ap (λ (o : Option LibraryFault). Some (unwrap_or o (fault_at z.0.1 len))) e
fault_one len s only stop f (inr (inr (none, found, k, t, e))) =
    ap (λ (o : Outcome Lexeme (Found × Refusal) Found). fault_of len (halt_of len only o) stop)
    (refuses library s (found, k) [] t)
    ∙ ap (λ (o : Option LibraryFault). Some (unwrap_or o (fault_at k len))) none ∙ ap Some (sym e)

gathers_so : (s : List Lexeme) → GathersFirst s (found_in (read library s))
gathers_so s = by_outcome (read library s) refl
  where
    by_outcome : (o : Outcome Lexeme (Found × Refusal) Found) → read library s ≡ o → GathersFirst s (found_in o)
    by_outcome (Ok y) e =
        let t = sound library s y.0 y.1 e in
        inl (subst (λ (r : List Lexeme). Takes library s y.0 r) (whole s y.0 y.1 t) t)
    by_outcome (Err z) e = inr (z.0.1, z.1, refused library s z.0 z.1 e)

gathers_one : (s : List Lexeme) (found : Found) → GathersFirst s found → found ≡ found_in (read library s)
gathers_one s found (inl t) = sym (ap found_in (complete library s found [] t))
gathers_one s found (inr (k, m, t)) = sym (ap found_in (refuses library s (found, k) m t))

-- with the tokens of the bytes
ends_so : (bytes : List ℕ) (is_whole : Bool) (ts : List Token) (stop : Stop) → Reads bytes ts stop → scan_of bytes ≡ (ts, stop) →
    EndsSo bytes is_whole (lexemes_of bytes ts) stop
    (end_of bytes is_whole (halt_of (length bytes) (is_last (lexemes_of bytes ts)) (read library (lexemes_of bytes ts))) stop)
ends_so bytes true ts stop d e =
    by_fault (fault_of (length bytes)
    (halt_of (length bytes) (is_last (lexemes_of bytes ts)) (read library (lexemes_of bytes ts))) stop)
    (fault_is (length bytes) (lexemes_of bytes ts) (is_last (lexemes_of bytes ts)) stop)
  where
    by_fault : (f : Option LibraryFault) → FaultIs (length bytes) (lexemes_of bytes ts) stop f
        → EndsSo bytes true (lexemes_of bytes ts) stop (end_by f)
    by_fault None h = h
    by_fault (Some f) h = h
ends_so bytes false ts stop d e = by_test (decides bytes ts stop) refl
  where
    out : Outcome Lexeme (Found × Refusal) Found
    out = read library (lexemes_of bytes ts)

    never : decides bytes ts stop ≡ false → IsFrontOfText bytes → ⊥
    never q f =
        let h : decides bytes ts stop ≡ true = ap (λ (v : List Token × Stop). decides bytes v.0 v.1) (sym e)
        ∙ front_of_text bytes f in absurd cc

    goes_on : (stop : Stop) → stop ≡ stops.End → (found : Found) → Takes library (lexemes_of bytes ts) found []
        → decides bytes ts stop ≡ true
    goes_on stop s found t =
        front_halts bytes (length bytes) (is_last (lexemes_of bytes ts)) (read library (lexemes_of bytes ts)) stop
        (ap rest_of (complete library (lexemes_of bytes ts) found [] t))
        ∙ ap (goes_on_after bytes) s

    by_fault : (f : Option LibraryFault) → decides bytes ts stop ≡ false → FaultIs (length bytes) (lexemes_of bytes ts) stop f
        → EndsSo bytes false (lexemes_of bytes ts) stop (end_by f)
    by_fault None q (s, found, t) = absurd (let h = goes_on stop s found t in cc)
    by_fault (Some f) q h = (never q, h)

    by_test : (q : Bool) → decides bytes ts stop ≡ q →
        EndsSo bytes false (lexemes_of bytes ts) stop
        (cond q Cut (end_by (fault_of (length bytes)
        (halt_of (length bytes) (is_last (lexemes_of bytes ts)) (read library (lexemes_of bytes ts))) stop)))
    by_test true q = goes_front bytes ts stop d q
    by_test false q =
        by_fault (fault_of (length bytes)
        (halt_of (length bytes) (is_last (lexemes_of bytes ts)) (read library (lexemes_of bytes ts))) stop) q
        (fault_is (length bytes) (lexemes_of bytes ts) (is_last (lexemes_of bytes ts)) stop)

pub reads_so : (bytes : List ℕ) (is_whole : Bool) → IsReading bytes is_whole (found_of_bytes bytes) (end_of_bytes bytes is_whole)
unfolding outcome_of
reads_so bytes is_whole =
    let d : Reads bytes (scan_of bytes).0 (scan_of bytes).1 = (one_reading bytes (scan_of bytes).0 (scan_of bytes).1).1 refl
    in record {
      tokens = (scan_of bytes).0;
      stop = (scan_of bytes).1;
      lexes = d;
      gathers = gathers_so (lexemes_of bytes (scan_of bytes).0);
      ends = ends_so bytes is_whole (scan_of bytes).0 (scan_of bytes).1 d refl;
    }

end_one : (bytes : List ℕ) (is_whole : Bool) (ts : List Token) (stop : Stop) (end : End) → Reads bytes ts stop
    → scan_of bytes ≡ (ts, stop) → EndsSo bytes is_whole (lexemes_of bytes ts) stop end →
    end ≡ end_of bytes is_whole (halt_of (length bytes) (is_last (lexemes_of bytes ts)) (read library (lexemes_of bytes ts))) stop
end_one bytes true ts stop Whole d e (s, found, t) =
    sym (ap (λ (o : Outcome Lexeme (Found × Refusal) Found). end_by
    (fault_of (length bytes) (halt_of (length bytes) (is_last (lexemes_of bytes ts)) o) stop))
    (complete library (lexemes_of bytes ts) found [] t)
    ∙ ap (λ (v : Stop). end_by (lexical_fault v)) s)
end_one bytes true ts stop Cut d e h = absurd h
end_one bytes true ts stop (Fault f) d e h =
    sym (ap end_by (fault_one (length bytes) (lexemes_of bytes ts) (is_last (lexemes_of bytes ts)) stop f h))
end_one bytes false ts stop Whole d e h = absurd h
end_one bytes false ts stop Cut d e h =
    let q : decides bytes ts stop ≡ true = ap (λ (v : List Token × Stop). decides bytes v.0 v.1) (sym e) ∙ front_of_text bytes h
    in rw q refl
end_one bytes false ts stop (Fault f) d e (never, h) = by_test (decides bytes ts stop) refl
  where
    by_test : (q : Bool) → decides bytes ts stop ≡ q →
        Fault f ≡ cond (decides bytes ts stop) Cut
        (end_by (fault_of (length bytes)
        (halt_of (length bytes) (is_last (lexemes_of bytes ts)) (read library (lexemes_of bytes ts))) stop))
    by_test true q = absurd (never (goes_front bytes ts stop d q))
    by_test false q =
        sym (ap (λ (b : Bool). cond b Cut
        (end_by (fault_of (length bytes)
        (halt_of (length bytes) (is_last (lexemes_of bytes ts)) (read library (lexemes_of bytes ts))) stop))) q
        ∙ ap end_by (fault_one (length bytes) (lexemes_of bytes ts) (is_last (lexemes_of bytes ts)) stop f h))

pub found_one : (bytes : List ℕ) (is_whole : Bool) (found : Found) (end : End) → IsReading bytes is_whole found end
    → found ≡ found_of_bytes bytes
unfolding outcome_of
found_one bytes is_whole found end r =
    let e : scan_of bytes ≡ (r.tokens, r.stop) = (one_reading bytes r.tokens r.stop).0 r.lexes in
    gathers_one (lexemes_of bytes r.tokens) found r.gathers
    ∙ ap (λ (v : List Token × Stop). found_in (read library (lexemes_of bytes v.0))) (sym e)

pub ends_one : (bytes : List ℕ) (is_whole : Bool) (found : Found) (end : End) → IsReading bytes is_whole found end
    → end ≡ end_of_bytes bytes is_whole
unfolding outcome_of
ends_one bytes is_whole found end r =
    let e : scan_of bytes ≡ (r.tokens, r.stop) = (one_reading bytes r.tokens r.stop).0 r.lexes in
    end_one bytes is_whole r.tokens r.stop end r.lexes e r.ends
    ∙ ap (λ (v : List Token × Stop). end_of bytes is_whole
    (halt_of (length bytes) (is_last (lexemes_of bytes v.0)) (read library (lexemes_of bytes v.0))) v.1) (sym e)
