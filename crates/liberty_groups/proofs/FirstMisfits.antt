-- A fault of the grammar is at the first token with which no library text goes on.
use Rattle.std.proofs.Common.{◌≡◌, ℕ, true, false, List, [], ◌∷◌, ◌++◌, length, take, Some, None, inl, inr, refl, sym, ap, subst}
use Rattle.std.proofs.Common.{◌∙◌, arith, length-append, append_assoc}
use Rattle.std.proofs.lemmas.List.{append-nil, take_all}
use Rattle.std.proofs.Math.Seq.{take-append_seam}
use Rattle.liberty_text.specs.declared.token.Token.{Token}
use Rattle.liberty_text.specs.declared.token.Stop.{Stop}
use Rattle.liberty_text.specs.declared.token.Stop.TheVariants as stops
use Rattle.liberty_text.specs.declared.scanner.Mode.TheVariants.{Between}
use Rattle.liberty_text.specs.Scanner.{run, scan_of}
use Rattle.liberty_text.specs.Tokens.{Reads, Lexes}
use Rattle.liberty_text.specs.Tokens as lex
use Rattle.liberty_text.proofs.Complete.{one_reading}
use Rattle.liberty_text.proofs.Sound.{sound as sound_text}
use Rattle.grammar_rules.specs.Rule.{Takes, Refuses, Front}
use Rattle.grammar_rules.proofs.Steps.{rest_of}
use Rattle.grammar_rules.proofs.Exact.{complete}
use Rattle.grammar_rules.proofs.Fronts.{front_ends, ends_front}
use Rattle.grammar_rules.proofs.Places.{refuses_at_first}
use Rattle.liberty_groups.specs.declared.fault.LibraryFault.{LibraryFault}
use Rattle.liberty_groups.specs.declared.fault.Refusal.{Refusal}
use Rattle.liberty_groups.specs.declared.fault.Refusal.TheVariants.{Syntax, TooDeep, NotLibrary}
use Rattle.liberty_groups.specs.declared.read.End.{End}
use Rattle.liberty_groups.specs.declared.outline.Standing.TheVariants.{Start}
use Rattle.liberty_groups.specs.Lexeme.{Lexeme, lexeme_of, lexemes_of}
use Rattle.liberty_groups.specs.Fault.{fault_at, lexical_fault}
use Rattle.liberty_groups.specs.Library.{Found, library}
use Rattle.liberty_groups.specs.Outline.{stands}
use Rattle.liberty_groups.specs.Answer.{IsLibraryText, IsFrontOfText, FaultsAt, EndsSo}
use Rattle.liberty_groups.specs.FirstMisfit.{EndsBefore, IsFirstMisfit, IsAtFirstMisfit, FaultsAreFirst}
use Rattle.liberty_groups.proofs.Around.{Around, around}
use Rattle.liberty_groups.proofs.Completions.{used_stands, stands_used, stands_front}
use Rattle.liberty_groups.proofs.Cuts.{front_goes_on}
use Rattle.liberty_groups.proofs.Exactly.{reads_so}
use Rattle.liberty_groups.proofs.Lexemes.{lexemes_more, lexemes-append, inside_reads}
use Rattle.liberty_groups.proofs.Pieces.{head_same, tail_same}

-- a token of a text, by its place among the tokens with their bytes
middle_lexeme : (text : List ℕ) (ts : List Token) (front : List Lexeme) (x : Lexeme) (m : List Lexeme)
    → lexemes_of text ts ≡ front ++ x ∷ m →
    (E : List Token) × (t : Token) × (B : List Token) × (ts ≡ E ++ t ∷ B) × (lexemes_of text E ≡ front) × (lexeme_of text t ≡ x)
middle_lexeme text [] [] x m e = absurd cc
middle_lexeme text [] (y ∷ front) x m e = absurd cc
middle_lexeme text (t ∷ ts) [] x m e = ([], t, ts, refl, refl, head_same e)
middle_lexeme text (t ∷ ts) (y ∷ front) x m e =
    let i = middle_lexeme text ts front x m (tail_same e) in
    let h : lexeme_of text t ≡ y = head_same e in (
      t ∷ i.0,
      i.1,
      i.2,
      ap (λ (s : List Token). t ∷ s) i.3,
      ap (λ (s : List Lexeme). lexeme_of text t ∷ s) i.4
          ∙ ap (λ (z : Lexeme). z ∷ front) h,
      i.5,
    )

-- a library begins with fronts only
front_of_whole : (s t : List Lexeme) (found : Found) → Takes library (s ++ t) found [] → Front library s
front_of_whole s t found h =
    let p = used_stands (s ++ t) (ap rest_of (complete library (s ++ t) found [] h)) in
    let q = stands_front Start p.0 s t p.1 in
    ends_front library s (stands_used s q.0 q.1)

-- the bytes before a refused token
front_before : (bytes : List ℕ) (E : List Token) (t : Token) (c : Around 0 false bytes E t) → Front library (lexemes_of bytes E)
    → IsFrontOfText (take t.at bytes)
front_before bytes E t c front =
    let here : Reads c.q E stops.End =
    subst (λ (b : List ℕ). Lexes 0 false b E stops.End) (append-nil c.q)
    (subst (λ (l : List Token). Lexes 0 false (c.q ++ []) l stops.End) (append-nil E)
    (c.goes [] [] stops.End (λ _. refl) lex.end)) in
    let size : t.at ≡ length c.q = (let p = c.place in omega arith) in
    let same : take t.at bytes ≡ c.q = ap (λ (n : ℕ). take n bytes) size ∙ ap (take (length c.q)) c.split
    ∙ take-append_seam c.q (c.w ++ c.r) in
    let lexemes : lexemes_of bytes E ≡ lexemes_of c.q E = ap (λ (b : List ℕ). lexemes_of b E) c.split
    ∙ lexemes_more c.q (c.w ++ c.r) E (inside_reads here) in
    let p = used_stands (lexemes_of bytes E) (front_ends library (lexemes_of bytes E) front) in
    subst IsFrontOfText (sym same) (front_goes_on c.q E stops.End p.0 here (ap (stands Start) (sym lexemes) ∙ p.1) refl)

-- with a refused token no library begins
none_behind : (bytes : List ℕ) (E : List Token) (t : Token) (c : Around 0 false bytes E t)
    → (Front library (lexemes_of bytes E ++ lexeme_of bytes t ∷ []) → ⊥) →
    (y : List ℕ) → EndsBefore t y → IsLibraryText (take t.end bytes ++ y) → ⊥
none_behind bytes E t c never y ends (us, found, reads, takes) =
    let head = c.q ++ c.w in
    let size : t.end ≡ length head = (let p = c.place in let l = c.long in let k = length-append c.q c.w in omega arith) in
    let whole : bytes ≡ head ++ c.r = c.split ∙ sym (append_assoc c.q c.w c.r) in
    let same : take t.end bytes ≡ head = ap (λ (n : ℕ). take n bytes) size ∙ ap (take (length head)) whole
    ∙ take-append_seam head c.r in
    let V = (run (Between false) t.end y).0 in
    let s = (run (Between false) t.end y).1 in
    let behind : Lexes 0 false (head ++ y) (E ++ t ∷ V) s =
    subst (λ (b : List ℕ). Lexes 0 false b (E ++ t ∷ V) s) (sym (append_assoc c.q c.w y))
    (c.goes (c.w ++ y) (t ∷ V) s (c.begins y) (c.spells y V s ends (sound_text y (Between false) t.end))) in
    let reads' : Reads (head ++ y) us stops.End = subst (λ (b : List ℕ). Reads (b ++ y) us stops.End) same reads in
    let tokens : us ≡ E ++ t ∷ V =
    ap (λ (v : List Token × Stop). v.0)
    (sym ((one_reading (head ++ y) us stops.End).0 reads') ∙ (one_reading (head ++ y) (E ++ t ∷ V) s).0 behind) in
    let short : Reads head (E ++ t ∷ []) stops.End =
    subst (λ (b : List ℕ). Lexes 0 false b (E ++ t ∷ []) stops.End) (ap (λ (b : List ℕ). c.q ++ b) (append-nil c.w))
    (c.goes (c.w ++ []) (t ∷ []) stops.End (c.begins []) (c.spells [] [] stops.End (λ _. refl) lex.end)) in
    let inside = inside_reads short in
    let there : lexemes_of (head ++ y) (E ++ t ∷ []) ≡ lexemes_of bytes (E ++ t ∷ []) =
    lexemes_more head y (E ++ t ∷ []) inside
    ∙ sym (ap (λ (b : List ℕ). lexemes_of b (E ++ t ∷ [])) whole ∙ lexemes_more head c.r (E ++ t ∷ []) inside) in
    let split : lexemes_of (take t.end bytes ++ y) us ≡ (lexemes_of bytes E ++ lexeme_of bytes t ∷ [])
    ++ lexemes_of (head ++ y) V =
    ap (λ (b : List ℕ). lexemes_of (b ++ y) us) same
    ∙ ap (lexemes_of (head ++ y)) (tokens ∙ sym (append_assoc E (t ∷ []) V))
    ∙ lexemes-append (head ++ y) (E ++ t ∷ []) V
    ∙ ap (λ (l : List Lexeme). l ++ lexemes_of (head ++ y) V) (there ∙ lexemes-append bytes E (t ∷ [])) in
    never (front_of_whole (lexemes_of bytes E ++ lexeme_of bytes t ∷ []) (lexemes_of (head ++ y) V) found
    (subst (λ (l : List Lexeme). Takes library l found []) split takes))

refused_first : (bytes : List ℕ) (ts : List Token) (stop : Stop) (k : Found × Refusal) (x : Lexeme) (m : List Lexeme)
    → Reads bytes ts stop →
    Refuses library (lexemes_of bytes ts) k (x ∷ m) → IsFirstMisfit bytes x.token.at
refused_first bytes ts stop k x m d h =
    let r = (refuses_at_first library).place (lexemes_of bytes ts) k (x ∷ m) h in
    let i = middle_lexeme bytes ts r.0 x m r.1 in
    let c = around d i.0 i.1 i.2 i.3 in
    let same : i.1 ≡ x.token = ap (λ (z : Lexeme). z.token) i.5 in
    let front : Front library (lexemes_of bytes i.0) = subst (λ (l : List Lexeme). Front library l) (sym i.4) r.2 in
    let never : Front library (lexemes_of bytes i.0 ++ lexeme_of bytes i.1 ∷ []) → ⊥ = λ f.
    r.3 (subst (λ (z : Lexeme). Front library (r.0 ++ z ∷ [])) i.5
    (subst (λ (l : List Lexeme). Front library (l ++ lexeme_of bytes i.1 ∷ [])) i.4 f)) in
    let found : scan_of bytes ≡ (ts, stop) = (one_reading bytes ts stop).0 d in
    subst (IsFirstMisfit bytes) (ap (λ (t : Token). t.at) same) (
      front_before bytes i.0 i.1 c front,
      inr
          (i.0, i.1, i.2, ap (λ (v : List Token × Stop). v.0) found ∙ i.3, refl, none_behind bytes i.0 i.1 c never),
    )

short_first : (bytes : List ℕ) (ts : List Token) (stop : Stop) (k : Found × Refusal) → Reads bytes ts stop
    → lexical_fault stop ≡ None →
    Refuses library (lexemes_of bytes ts) k [] → IsFirstMisfit bytes (length bytes)
short_first bytes ts stops.End k d none h =
    let r = (refuses_at_first library).place (lexemes_of bytes ts) k [] h in
    let front : Front library (lexemes_of bytes ts) =
    subst (λ (l : List Lexeme). Front library l) (sym (r.1 ∙ append-nil r.0)) r.2 in
    let p = used_stands (lexemes_of bytes ts) (front_ends library (lexemes_of bytes ts) front) in (
      subst IsFrontOfText (sym (take_all (length bytes) bytes (omega arith))) (front_goes_on bytes ts stops.End p.0 d p.1 refl),
      inl refl,
    )
short_first bytes ts (stops.BadByte a) k d none h = absurd cc
short_first bytes ts (stops.OpenText a) k d none h = absurd cc
short_first bytes ts (stops.OpenComment a) k d none h = absurd cc
short_first bytes ts (stops.OpenContinuation a) k d none h = absurd cc

fault_first : (bytes : List ℕ) (k : Refusal) (at : ℕ) → IsFirstMisfit bytes at → IsAtFirstMisfit bytes (fault_at k at)
fault_first bytes (Syntax e) at h = h
fault_first bytes TooDeep at h = h
fault_first bytes NotLibrary at h = h

same_fault : {a b : LibraryFault} → Some a ≡ Some b → a ≡ b
same_fault e = cc

lexical_first : (bytes : List ℕ) (stop : Stop) (f : LibraryFault) → lexical_fault stop ≡ Some f → IsAtFirstMisfit bytes f
lexical_first bytes stops.End f e = absurd cc
lexical_first bytes (stops.BadByte a) f e = subst (IsAtFirstMisfit bytes) (same_fault e) tt
lexical_first bytes (stops.OpenText a) f e = subst (IsAtFirstMisfit bytes) (same_fault e) tt
lexical_first bytes (stops.OpenComment a) f e = subst (IsAtFirstMisfit bytes) (same_fault e) tt
lexical_first bytes (stops.OpenContinuation a) f e = subst (IsAtFirstMisfit bytes) (same_fault e) tt

at_first : (bytes : List ℕ) (ts : List Token) (stop : Stop) (f : LibraryFault) → Reads bytes ts stop
    → FaultsAt (length bytes) (lexemes_of bytes ts) stop f → IsAtFirstMisfit bytes f
at_first bytes ts stop f d (inl (found, k, x, m, h, e)) =
    subst (IsAtFirstMisfit bytes) (sym e) (fault_first bytes k x.token.at (refused_first bytes ts stop (found, k) x m d h))
at_first bytes ts stop f d (inr (inl (front, e))) = lexical_first bytes stop f e
at_first bytes ts stop f d (inr (inr (none, found, k, h, e))) =
    subst (IsAtFirstMisfit bytes) (sym e) (fault_first bytes k (length bytes) (short_first bytes ts stop (found, k) d none h))

pub faults_are_first : (bytes : List ℕ) → FaultsAreFirst bytes
faults_are_first bytes f e =
    let r = reads_so bytes true in
    at_first bytes r.tokens r.stop f r.lexes
    (subst (λ (v : End). EndsSo bytes true (lexemes_of bytes r.tokens) r.stop v) e r.ends)
