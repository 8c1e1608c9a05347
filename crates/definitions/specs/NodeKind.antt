-- cst.rs: `NodeKind`, in its order.
use Rattle.std.specs.Prelude.{ℕ}

-- in a program's answer: ignore the marker. It is the number of SourceFile, which no marker makes.
abbrev pub NO_NODE : ℕ
NO_NODE = 0

abbrev pub SourceFile : ℕ
SourceFile = 0

abbrev pub EntryName : ℕ
EntryName = 1

abbrev pub EntryPropValues : ℕ
EntryPropValues = 2

abbrev pub EntryCells : ℕ
EntryCells = 3

abbrev pub EntryPreprocessorConditional : ℕ
EntryPreprocessorConditional = 4

abbrev pub PreprocessorDefinedOperation : ℕ
PreprocessorDefinedOperation = 5

abbrev pub InfixExpr : ℕ
InfixExpr = 6

abbrev pub PrefixExpr : ℕ
PrefixExpr = 7

abbrev pub ParenExpr : ℕ
ParenExpr = 8

abbrev pub LiteralExpr : ℕ
LiteralExpr = 9

abbrev pub ParseError : ℕ
ParseError = 10

abbrev pub DtsDirective : ℕ
DtsDirective = 11

abbrev pub DtsDirectiveArguments : ℕ
DtsDirectiveArguments = 12

abbrev pub PreprocessorConditional : ℕ
PreprocessorConditional = 13

abbrev pub PreprocessorBranch : ℕ
PreprocessorBranch = 14

abbrev pub DtNode : ℕ
DtNode = 15

abbrev pub DtProperty : ℕ
DtProperty = 16

abbrev pub DtCellList : ℕ
DtCellList = 17

abbrev pub DtExpr : ℕ
DtExpr = 18

abbrev pub DtLabel : ℕ
DtLabel = 19

abbrev pub PropValueList : ℕ
PropValueList = 20

abbrev pub DtPhandle : ℕ
DtPhandle = 21

abbrev pub UnitAddress : ℕ
UnitAddress = 22

abbrev pub MacroInvocation : ℕ
MacroInvocation = 23

abbrev pub MacroArgument : ℕ
MacroArgument = 24
