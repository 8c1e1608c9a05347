-- lexer.rs: the rules of `TokenKind`, one line for each `#[token]` and `#[regex]`, in its order and under its names.
-- The thirteen directives of the preprocessor are not here: a text with one is refused (cause 10, specs/Text.antt).
use Rattle.std.specs.Prelude.{ℕ, List, [], ◌∷◌}
use Prim.Native.Char.{Char, code}
use Prim.Native.String.{String, [] as []ₛ, ◌∷◌ as ◌∷ₛ◌}
use Rattle.definitions.specs.TokenKind as K
use Rattle.definitions.specs.Pattern.{Range, Pattern, empty, one, other, ◌then◌, ◌or◌, many}

-- what is done after a match: nothing, or a search for the token's end
pub data Callback : Type 0 where
  no_callback : Callback
  lex_block_comment : Callback
  lex_string : Callback
  lex_char : Callback
  lex_bytestring : Callback

pub record Rule : Type 0 where
  pub kind : ℕ
  pub pattern : Pattern
  pub callback : Callback

-- ---------------------------------------------------------------- how a regex is written here

-- the bytes of an ASCII text
abbrev pub ascii : String → List ℕ
ascii []ₛ = []
ascii (c ∷ₛ s) = code c ∷ ascii s

-- a-b inside of brackets
infixl 80 ◌to◌
abbrev pub ◌to◌ : Char → Char → Range
a to b = record { low = code a; high = code b }

abbrev pub each : List ℕ → List Range
each [] = []
each (b ∷ bytes) = record { low = b; high = b } ∷ each bytes

-- [..] and [^..] of single bytes
abbrev pub any : String → Pattern
any s = one (each (ascii s))

abbrev pub none : String → Pattern
none s = other (each (ascii s))

abbrev pub spelled : List ℕ → Pattern
spelled [] = empty
spelled (b ∷ []) = one (each (b ∷ []))
spelled (b ∷ c ∷ bytes) = one (each (b ∷ [])) then spelled (c ∷ bytes)

-- + and ?
abbrev pub some : Pattern → Pattern
some p = p then many p

abbrev pub maybe : Pattern → Pattern
maybe p = p or empty

-- #[token("..")], #[token("..", callback = ..)], #[regex("..")]
abbrev pub token : String → ℕ → Rule
token s k = record { kind = k; pattern = spelled (ascii s); callback = no_callback }

abbrev pub token_callback : String → Callback → ℕ → Rule
token_callback s c k = record { kind = k; pattern = spelled (ascii s); callback = c }

abbrev pub regex : Pattern → ℕ → Rule
regex p k = record { kind = k; pattern = p; callback = no_callback }

-- ---------------------------------------------------------------- the longer regexes

-- ([ \t\r\n]|\\\r?\n)+
abbrev pub whitespace : Pattern
whitespace = some (any " \t\r\n" or (any "\\" then maybe (any "\r") then any "\n"))

-- //[^\n\r]*?, where "a line comment runs up to CR, LF or the end" (document 02)
abbrev pub line_comment : Pattern
line_comment = any "/" then any "/" then many (none "\n\r")

-- ` \t\r\n"'/*+%|{}<>\[()?;:&=@,\-\^!~\\`
abbrev pub not_in_ident : List Range
not_in_ident = each (ascii " \t\r\n\"'/*+%|{}<>[()?;:&=@,-^!~\\")

-- [^ .. 0-9 ..][^ ..]*
abbrev pub ident : Pattern
ident = other ("0" to "9" ∷ not_in_ident) then many (other not_in_ident)

-- ((u|i)(8|16|32|64|128)|[uU]([lL][lL]?)?|[lL][lL]?[uU]?)?
abbrev pub suffix : Pattern
suffix =
    maybe
    ((any "ui" then (spelled (ascii "8") or spelled (ascii "16") or spelled (ascii "32") or spelled (ascii "64") or spelled (ascii "128")))
    or (any "uU" then maybe (any "lL" then maybe (any "lL")))
    or (any "lL" then maybe (any "lL") then maybe (any "uU")))

-- [0-9][0-9_]* and the suffix
abbrev pub decimal : Pattern
decimal = one ("0" to "9" ∷ []) then many (one ("0" to "9" ∷ each (ascii "_"))) then suffix

-- 0(b|B)[0-1_]+ and the suffix, and the like
abbrev pub based : String → List Range → Pattern
based letter digits = any "0" then any letter then some (one digits) then suffix

-- ---------------------------------------------------------------- the rules

abbrev pub rules : List Rule
rules =
    regex whitespace K.Whitespace
    ∷ token_callback "/*" lex_block_comment K.BlockComment
    ∷ token "," K.Comma
    ∷ regex line_comment K.LineComment
    ∷ token "/bits/" K.BitsDirective
    ∷ token "/omit-if-no-ref/" K.OmitIfNoRefDirective
    ∷ token "/include/" K.DtIncludeDirective
    ∷ token "/memreserve/" K.MemreserveDirective
    ∷ token "/delete-node/" K.DeleteNodeDirective
    ∷ token "/delete-property/" K.DeletePropertyDirective
    ∷ token "/dts-v1/" K.V1Directive
    ∷ token "/plugin/" K.PluginDirective
    ∷ regex ident K.Ident
    ∷ token "=" K.Equals
    ∷ token ";" K.Semicolon
    ∷ token "&" K.Ampersand
    ∷ token ":" K.Colon
    ∷ token "@" K.AtSign
    ∷ token_callback "\"" lex_string K.String
    ∷ token_callback "'" lex_char K.Char
    ∷ regex decimal K.Number
    ∷ regex (based "bB" ("0" to "1" ∷ each (ascii "_"))) K.Number
    ∷ regex (based "oO" ("0" to "7" ∷ each (ascii "_"))) K.Number
    ∷ regex (based "xX" ("0" to "9" ∷ "a" to "f" ∷ "A" to "F" ∷ each (ascii "_"))) K.Number
    ∷ token_callback "[" lex_bytestring K.DtBytestring
    ∷ token "{" K.LCurly
    ∷ token "}" K.RCurly
    ∷ token "<" K.LAngle
    ∷ token ">" K.RAngle
    ∷ token "(" K.LParen
    ∷ token ")" K.RParen
    ∷ token "+" K.Plus
    ∷ token "-" K.Minus
    ∷ token "*" K.Asterisk
    ∷ token "/" K.Slash
    ∷ token "%" K.Modulo
    ∷ token "|" K.BitwiseOr
    ∷ token "^" K.BitwiseXor
    ∷ token "~" K.BitwiseNot
    ∷ token "<<" K.BitwiseShl
    ∷ token ">>" K.BitwiseShr
    ∷ token "&&" K.LogicalAnd
    ∷ token "||" K.LogicalOr
    ∷ token "!" K.LogicalNot
    ∷ token "<=" K.RelationalLtEq
    ∷ token ">=" K.RelationalGtEq
    ∷ token "==" K.RelationalEq
    ∷ token "!=" K.RelationalNeq
    ∷ token "?" K.QuestionMark
    ∷ []
