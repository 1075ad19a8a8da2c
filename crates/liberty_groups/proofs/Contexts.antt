-- What stands before the open end of a text, and before its last word, stays when other bytes come behind.
use Rattle.std.proofs.Common.{◌≡◌, ℕ, ◌+◌, Bool, true, false, List, [], ◌∷◌, ◌++◌, length, refl}
use Rattle.liberty_text.specs.declared.token.Token.{Token}
use Rattle.liberty_text.specs.declared.token.Stop.{Stop}
use Rattle.liberty_text.specs.declared.token.Stop.TheVariants.{End, BadByte, OpenText, OpenComment, OpenContinuation}
use Rattle.liberty_text.specs.Tokens.{ends_word, TextBytes, CommentBytes, AreBlanks, Lexes}
use Rattle.liberty_text.specs.Tokens as lex
use Rattle.liberty_groups.proofs.TokenSteps.{Step, step_blank, step_line_end, step_continuation, step_comment, step_mark}
use Rattle.liberty_groups.proofs.TokenSteps.{step_text, step_word, Front, front_on, front_here}

-- what is open where the bytes of a text stop
abbrev pub IsOpen : Stop → ℕ → List ℕ → Type 0
IsOpen End a o = o ≡ []
IsOpen (OpenText b) a o = (b ≡ a) × (body : List ℕ) × (last : Bool) × (o ≡ 34 ∷ body) × TextBytes false last body
IsOpen (OpenComment b) a o = (b ≡ a) × (body : List ℕ) × (last : Bool) × (o ≡ 47 ∷ 42 ∷ body) × CommentBytes false last body
IsOpen (OpenContinuation b) a o = (b ≡ a) × (blanks : List ℕ) × (o ≡ 92 ∷ blanks) × AreBlanks blanks
IsOpen (BadByte b) a o = Unit {0}

-- The bytes are q, which stands whatever comes behind it, and an open end o, from an offset a on.
pub record Context (at : ℕ) (line : Bool) (bs : List ℕ) (ts : List Token) (stop : Stop) : Type 0 where
  pub q : List ℕ
  pub o : List ℕ
  pub a : ℕ
  pub l : Bool
  pub split : bs ≡ q ++ o
  pub place : a ≡ at + length q
  pub is_open : IsOpen stop a o
  pub goes : (z : List ℕ) (V : List Token) (s : Stop) → ends_word z ≡ true → Lexes a l z V s → Lexes at line (q ++ z) (ts ++ V) s
  pub word : ends_word bs ≡ true → (z : List ℕ) → ends_word z ≡ true → ends_word (q ++ z) ≡ true

-- bytes with which no Word goes on
abbrev EndsWord : List ℕ → Type 0
EndsWord z = ends_word z ≡ true

as_context : {at : ℕ} {line : Bool} {bs : List ℕ} {ts : List Token} {stop : Stop} {a : ℕ} {l : Bool} {o : List ℕ}
    → Front EndsWord at line bs ts a l o → IsOpen stop a o → Context at line bs ts stop
as_context {a = a} {l = l} {o = o} f is_open =
    record { q = f.q; o = o; a = a; l = l; split = f.split; place = f.place; is_open = is_open; goes = f.goes; word = f.word }

front_of : {at : ℕ} {line : Bool} {bs : List ℕ} {ts : List Token} {stop : Stop} (c : Context at line bs ts stop)
    → Front EndsWord at line bs ts c.a c.l c.o
front_of c = record { q = c.q; split = c.split; place = c.place; goes = c.goes; word = c.word }

-- nothing before the open end
here : {at : ℕ} {line : Bool} {bs : List ℕ} {stop : Stop} → IsOpen stop at bs → Context at line bs [] stop
here is_open = as_context (front_here (λ z h e. h)) is_open

-- a separator or a token more in front
on : {at : ℕ} {line : Bool} {bs : List ℕ} {us : List Token} {there : ℕ} {ended : Bool} {rest : List ℕ} {ts : List Token}
    {stop : Stop} →
    Step at line bs us there ended rest → Context there ended rest ts stop → Context at line bs (us ++ ts) stop
on p c = as_context (front_on p (front_of c)) c.is_open

pub context : {at : ℕ} {line : Bool} {bs : List ℕ} {ts : List Token} {stop : Stop} → Lexes at line bs ts stop
    → Context at line bs ts stop
context lex.end = here refl
context (lex.blank e d) = on (step_blank e) (context d)
context (lex.line_end e d) = on (step_line_end e) (context d)
context (lex.continuation blanks rest all split d) = on (step_continuation blanks rest all split) (context d)
context (lex.comment body rest all split d) = on (step_comment body rest all split) (context d)
context (lex.mark kind e d) = on (step_mark kind e) (context d)
context (lex.text body rest all split d) = on (step_text body rest all split) (context d)
context (lex.word b w rest bytes split d) = on (step_word b w rest bytes split) (context d)
context (lex.bad e) = here tt
context (lex.bad_backslash blanks b rest all other split) = here tt
context (lex.open_text {body = body} last all) = here (refl, body, last, refl, all)
context (lex.open_comment {body = body} last all) = here (refl, body, last, refl, all)
context (lex.open_continuation {blanks = blanks} all) = here (refl, blanks, refl, all)
