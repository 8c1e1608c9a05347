-- lexer.rs: `LexError`, in its order: 64 to 74 as the kind of an error token and as the number of a lexical error.
use Rattle.std.specs.Prelude.{ℕ}

abbrev pub UnexpectedEndIncbin : ℕ
UnexpectedEndIncbin = 64

abbrev pub IncbinMissingLParen : ℕ
IncbinMissingLParen = 65

abbrev pub IncbinMissingRParen : ℕ
IncbinMissingRParen = 66

abbrev pub IncbinMissingNumber : ℕ
IncbinMissingNumber = 67

abbrev pub IncbinMissingComma : ℕ
IncbinMissingComma = 68

abbrev pub IncbinMissingString : ℕ
IncbinMissingString = 69

abbrev pub UnexpectedEndString : ℕ
UnexpectedEndString = 70

abbrev pub UnexpectedEndBytestring : ℕ
UnexpectedEndBytestring = 71

abbrev pub UnexpectedEndChar : ℕ
UnexpectedEndChar = 72

abbrev pub UnexpectedEndBlockComment : ℕ
UnexpectedEndBlockComment = 73

abbrev pub Default : ℕ
Default = 74
