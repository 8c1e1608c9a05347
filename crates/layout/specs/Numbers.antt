-- The numbers of the layout's enums, in the definitions' names.
use Rattle.std.specs.Prelude.{ℕ}
use Rattle.definitions.specs.Layout as L
use Rattle.definitions.specs.TokenKind as K
use Rattle.definitions.specs.NodeKind as N
use Rattle.definitions.specs.Errors as E
use Rattle.layout.specs.declared.token_kind.TokenKind.{TokenKind}
use Rattle.layout.specs.declared.token_kind.TokenKind.TheVariants as TokenKindV
use Rattle.layout.specs.declared.node_kind.NodeKind.{NodeKind}
use Rattle.layout.specs.declared.node_kind.NodeKind.TheVariants as NodeKindV
use Rattle.layout.specs.declared.message.Message.{Message}
use Rattle.layout.specs.declared.message.Message.TheVariants as MessageV
use Rattle.layout.specs.declared.refusal.Refusal.{Refusal}
use Rattle.layout.specs.declared.refusal.Refusal.TheVariants as RefusalV
use Rattle.layout.specs.declared.event_tag.EventTag.{EventTag}
use Rattle.layout.specs.declared.event_tag.EventTag.TheVariants as EventTagV
use Rattle.layout.specs.declared.hint.Hint.{Hint}
use Rattle.layout.specs.declared.hint.Hint.TheVariants as HintV
use Rattle.layout.specs.declared.expected.Expected.{Expected}
use Rattle.layout.specs.declared.expected.Expected.TheVariants as ExpectedV

abbrev pub kind_number : TokenKind → ℕ
kind_number TokenKindV.Whitespace = K.Whitespace
kind_number TokenKindV.BlockComment = K.BlockComment
kind_number TokenKindV.Comma = K.Comma
kind_number TokenKindV.LineComment = K.LineComment
kind_number TokenKindV.IfDirective = K.IfDirective
kind_number TokenKindV.IfdefDirective = K.IfdefDirective
kind_number TokenKindV.IfndefDirective = K.IfndefDirective
kind_number TokenKindV.ElifDirective = K.ElifDirective
kind_number TokenKindV.ElifdefDirective = K.ElifdefDirective
kind_number TokenKindV.ElifndefDirective = K.ElifndefDirective
kind_number TokenKindV.ElseDirective = K.ElseDirective
kind_number TokenKindV.EndifDirective = K.EndifDirective
kind_number TokenKindV.PragmaDirective = K.PragmaDirective
kind_number TokenKindV.DefineDirective = K.DefineDirective
kind_number TokenKindV.UndefDirective = K.UndefDirective
kind_number TokenKindV.IncludeDirective = K.IncludeDirective
kind_number TokenKindV.ErrorDirective = K.ErrorDirective
kind_number TokenKindV.BitsDirective = K.BitsDirective
kind_number TokenKindV.OmitIfNoRefDirective = K.OmitIfNoRefDirective
kind_number TokenKindV.DtIncludeDirective = K.DtIncludeDirective
kind_number TokenKindV.MemreserveDirective = K.MemreserveDirective
kind_number TokenKindV.DeleteNodeDirective = K.DeleteNodeDirective
kind_number TokenKindV.DeletePropertyDirective = K.DeletePropertyDirective
kind_number TokenKindV.V1Directive = K.V1Directive
kind_number TokenKindV.PluginDirective = K.PluginDirective
kind_number TokenKindV.Unrecognized = K.Unrecognized
kind_number TokenKindV.Name = K.Name
kind_number TokenKindV.Ident = K.Ident
kind_number TokenKindV.Equals = K.Equals
kind_number TokenKindV.Semicolon = K.Semicolon
kind_number TokenKindV.Ampersand = K.Ampersand
kind_number TokenKindV.Colon = K.Colon
kind_number TokenKindV.AtSign = K.AtSign
kind_number TokenKindV.String = K.String
kind_number TokenKindV.Char = K.Char
kind_number TokenKindV.Number = K.Number
kind_number TokenKindV.DtBytestring = K.DtBytestring
kind_number TokenKindV.LCurly = K.LCurly
kind_number TokenKindV.RCurly = K.RCurly
kind_number TokenKindV.LAngle = K.LAngle
kind_number TokenKindV.RAngle = K.RAngle
kind_number TokenKindV.LParen = K.LParen
kind_number TokenKindV.RParen = K.RParen
kind_number TokenKindV.Plus = K.Plus
kind_number TokenKindV.Minus = K.Minus
kind_number TokenKindV.Asterisk = K.Asterisk
kind_number TokenKindV.Slash = K.Slash
kind_number TokenKindV.Modulo = K.Modulo
kind_number TokenKindV.BitwiseOr = K.BitwiseOr
kind_number TokenKindV.BitwiseXor = K.BitwiseXor
kind_number TokenKindV.BitwiseNot = K.BitwiseNot
kind_number TokenKindV.BitwiseShl = K.BitwiseShl
kind_number TokenKindV.BitwiseShr = K.BitwiseShr
kind_number TokenKindV.LogicalAnd = K.LogicalAnd
kind_number TokenKindV.LogicalOr = K.LogicalOr
kind_number TokenKindV.LogicalNot = K.LogicalNot
kind_number TokenKindV.RelationalLtEq = K.RelationalLtEq
kind_number TokenKindV.RelationalGtEq = K.RelationalGtEq
kind_number TokenKindV.RelationalEq = K.RelationalEq
kind_number TokenKindV.RelationalNeq = K.RelationalNeq
kind_number TokenKindV.QuestionMark = K.QuestionMark

abbrev pub node_number : NodeKind → ℕ
node_number NodeKindV.SourceFile = N.SourceFile
node_number NodeKindV.EntryName = N.EntryName
node_number NodeKindV.EntryPropValues = N.EntryPropValues
node_number NodeKindV.EntryCells = N.EntryCells
node_number NodeKindV.EntryPreprocessorConditional = N.EntryPreprocessorConditional
node_number NodeKindV.PreprocessorDefinedOperation = N.PreprocessorDefinedOperation
node_number NodeKindV.InfixExpr = N.InfixExpr
node_number NodeKindV.PrefixExpr = N.PrefixExpr
node_number NodeKindV.ParenExpr = N.ParenExpr
node_number NodeKindV.LiteralExpr = N.LiteralExpr
node_number NodeKindV.ParseError = N.ParseError
node_number NodeKindV.DtsDirective = N.DtsDirective
node_number NodeKindV.DtsDirectiveArguments = N.DtsDirectiveArguments
node_number NodeKindV.PreprocessorConditional = N.PreprocessorConditional
node_number NodeKindV.PreprocessorBranch = N.PreprocessorBranch
node_number NodeKindV.DtNode = N.DtNode
node_number NodeKindV.DtProperty = N.DtProperty
node_number NodeKindV.DtCellList = N.DtCellList
node_number NodeKindV.DtExpr = N.DtExpr
node_number NodeKindV.DtLabel = N.DtLabel
node_number NodeKindV.PropValueList = N.PropValueList
node_number NodeKindV.DtPhandle = N.DtPhandle
node_number NodeKindV.UnitAddress = N.UnitAddress
node_number NodeKindV.MacroInvocation = N.MacroInvocation
node_number NodeKindV.MacroArgument = N.MacroArgument

abbrev pub message_number : Message → ℕ
message_number MessageV.Expected = E.msg_expected
message_number MessageV.UnmatchedRcurly = E.unmatched_rcurly
message_number MessageV.UnmatchedSemicolon = E.unmatched_semicolon
message_number MessageV.UnmatchedEndif = E.unmatched_endif
message_number MessageV.StrayContinuation = E.stray_continuation
message_number MessageV.AtSignInLabel = E.at_sign_in_label
message_number MessageV.UnclosedNode = E.unclosed_node
message_number MessageV.NotALabel = E.not_a_label

abbrev pub refusal_number : Refusal → ℕ
refusal_number RefusalV.UnknownEntry = L.UNKNOWN_ENTRY
refusal_number RefusalV.TooLong = L.TOO_LONG
refusal_number RefusalV.OddCount = L.ODD_COUNT
refusal_number RefusalV.BadText = L.BAD_TEXT
refusal_number RefusalV.TooDeep = L.TOO_DEEP
refusal_number RefusalV.NoEventRoom = L.NO_EVENT_ROOM
refusal_number RefusalV.NoReportRoom = L.NO_REPORT_ROOM
refusal_number RefusalV.NoTreeRoom = L.NO_TREE_ROOM
refusal_number RefusalV.HighByte = L.HIGH_BYTE
refusal_number RefusalV.Directive = L.DIRECTIVE
refusal_number RefusalV.BadKind = L.BAD_KIND
refusal_number RefusalV.ZeroLength = L.ZERO_LENGTH
refusal_number RefusalV.BadEnd = L.BAD_END

abbrev pub tag_number : EventTag → ℕ
tag_number EventTagV.Placeholder = L.PLACEHOLDER
tag_number EventTagV.StartNode = L.START_NODE
tag_number EventTagV.AddToken = L.ADD_TOKEN
tag_number EventTagV.AddCombinedToken = L.ADD_COMBINED_TOKEN
tag_number EventTagV.FinishNode = L.FINISH_NODE
tag_number EventTagV.Error = L.ERROR
tag_number EventTagV.LinkedStartNode = L.LINKED_START_NODE

abbrev pub hint_number : Hint → ℕ
hint_number HintV.UnnamedProperty = E.unnamed_property
hint_number HintV.UnnamedNode = E.unnamed_node
hint_number HintV.MissingParentheses = E.missing_parentheses
hint_number HintV.InCells = E.in_cells
hint_number HintV.PropertyNotAllowed = E.property_not_allowed
hint_number HintV.MissingLeftSide = E.missing_left_side

abbrev pub expected_number : Expected → ℕ
expected_number (ExpectedV.Kind k) = kind_number k
expected_number ExpectedV.PreprocessorDirective = E.PreprocessorDirective
expected_number ExpectedV.PreprocessorDefinedOperator = 102
expected_number ExpectedV.Value = E.Value
expected_number ExpectedV.Cell = E.Cell
expected_number ExpectedV.LabelName = E.LabelName
expected_number ExpectedV.InfixOperator = E.InfixOperator
expected_number ExpectedV.PrefixOperator = E.PrefixOperator
expected_number ExpectedV.End = E.End
