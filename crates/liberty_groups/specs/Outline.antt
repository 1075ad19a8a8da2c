-- The outline of a library text: where its next token stands, without the tree of its groups.
use Rattle.std.specs.Prelude.{ℕ, zero, suc, ◌+◌, Bool, List, [], ◌∷◌, Option, Some, None, option_and_then, is_some, if◌then◌else◌}
use Rattle.std.specs.Prelude.{nat_lt}
use Rattle.liberty_groups.specs.declared.outline.Standing.{Standing}
use Rattle.liberty_groups.specs.declared.outline.Standing.TheVariants.{Start, AfterLibrary, HeadArguments, AfterHead, Statements}
use Rattle.liberty_groups.specs.declared.outline.Standing.TheVariants.{AfterName, Arguments, AfterArguments, ValueStart, Value}
use Rattle.liberty_groups.specs.declared.outline.Standing.TheVariants.{Done}
use Rattle.liberty_groups.specs.declared.reader.Mark.TheVariants as mark
use Rattle.liberty_groups.specs.declared.reader.Place.TheVariants as place
use Rattle.liberty_groups.specs.declared.reader.Start.{Start as Begun}
use Rattle.liberty_groups.specs.declared.reader.Start.TheVariants as begun
use Rattle.liberty_text.specs.declared.token.Token.{Token}
use Rattle.liberty_text.specs.declared.token.TokenKind.{TokenKind}
use Rattle.liberty_groups.specs.Lexeme.{Lexeme}
use Rattle.liberty_groups.specs.Grammar.{is_mark, is_argument, is_value, goes_on, ends_by, ends_value, start_by}
use Rattle.liberty_groups.specs.Library.{is_library_name, levels_inside}

-- behind the brace that closes a group inside so many others of the library
abbrev pub after_end : ℕ → Standing
after_end zero = Done
after_end (suc depth) = Statements depth

abbrev pub among_statements : ℕ → Begun → Bool → Option Standing
among_statements depth begun.Named ends = Some (AfterName depth)
among_statements depth begun.Empty ends = Some (Statements depth)
among_statements depth begun.Other ends = if ends then Some (after_end depth) else None

abbrev pub at_statement : ℕ → Token → Option Standing
at_statement depth t = among_statements depth (start_by t.kind) (is_mark mark.End t.kind)

abbrev pub at_group : ℕ → Token → Option Standing
at_group depth t =
    if is_mark mark.Begin t.kind then (if nat_lt depth levels_inside then Some (Statements (depth + 1)) else None)
    else at_statement depth t

abbrev pub at_mark : Bool → Standing → Option Standing
at_mark is next = if is then Some next else None

abbrev pub in_arguments : Standing → Standing → Token → Option Standing
in_arguments here behind t =
    if is_argument t.kind then Some here else at_mark (is_mark mark.Close t.kind) behind

abbrev pub after_name : ℕ → TokenKind → Option Standing
after_name depth kind =
    if is_mark mark.Colon kind then Some (ValueStart depth) else at_mark (is_mark mark.Open kind) (Arguments depth)

-- a token with which a value goes on, or which ends it
abbrev pub at_value : ℕ → Bool → Bool → Token → Option Standing
at_value depth goes_on ends t = if goes_on then Some (Value depth) else (if ends then at_statement depth t else None)

-- Where the token after this one stands, if this one can stand here. The flag says whether it is the
-- name of a library.
abbrev pub step : Standing → Token → Bool → Option Standing
step Start t is_library = at_mark is_library AfterLibrary
step AfterLibrary t is_library = at_mark (is_mark mark.Open t.kind) HeadArguments
step HeadArguments t is_library = in_arguments HeadArguments AfterHead t
step AfterHead t is_library = at_mark (is_mark mark.Begin t.kind) (Statements 0)
step (Statements depth) t is_library = at_statement depth t
step (AfterName depth) t is_library = after_name depth t.kind
step (Arguments depth) t is_library = in_arguments (Arguments depth) (AfterArguments depth) t
step (AfterArguments depth) t is_library = at_group depth t
step (ValueStart depth) t is_library = at_value depth (is_value t.kind) (ends_by t.kind) t
step (Value depth) t is_library = at_value depth (goes_on place.Value t) (ends_value place.Value t) t
step Done t is_library = None

-- where the token after these stands
abbrev pub stands : Standing → List Lexeme → Option Standing
stands here [] = Some here
stands here (x ∷ s) = option_and_then (λ next. stands next s) (step here x.token (is_library_name x))

-- the tokens are the front of a library
abbrev pub has_outline : List Lexeme → Bool
has_outline s = is_some (stands Start s)
