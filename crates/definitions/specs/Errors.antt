-- errors.rs: the codes of document 01 for what a report says.
use Rattle.std.specs.Prelude.{ℕ}

-- `Expected`: a kind stands for itself, the other cases are 101 to 108 in their order.
-- (102, PreprocessorDefinedOperator, belongs to the preprocessor condition, which is left out.)
abbrev pub PreprocessorDirective : ℕ
PreprocessorDirective = 101

abbrev pub Value : ℕ
Value = 103

abbrev pub Cell : ℕ
Cell = 104

abbrev pub LabelName : ℕ
LabelName = 105

abbrev pub InfixOperator : ℕ
InfixOperator = 106

abbrev pub PrefixOperator : ℕ
PrefixOperator = 107

abbrev pub End : ℕ
End = 108

-- messages 1 to 7, and 8 in the strict setting
abbrev pub msg_expected : ℕ
msg_expected = 1

abbrev pub unmatched_rcurly : ℕ
unmatched_rcurly = 2

abbrev pub unmatched_semicolon : ℕ
unmatched_semicolon = 3

abbrev pub unmatched_endif : ℕ
unmatched_endif = 4

abbrev pub stray_continuation : ℕ
stray_continuation = 5

abbrev pub at_sign_in_label : ℕ
at_sign_in_label = 6

abbrev pub unclosed_node : ℕ
unclosed_node = 7

abbrev pub not_a_label : ℕ
not_a_label = 8

-- hints 0 to 6
abbrev pub no_hint : ℕ
no_hint = 0

abbrev pub unnamed_property : ℕ
unnamed_property = 1

abbrev pub unnamed_node : ℕ
unnamed_node = 2

abbrev pub missing_parentheses : ℕ
missing_parentheses = 3

abbrev pub in_cells : ℕ
in_cells = 4

abbrev pub property_not_allowed : ℕ
property_not_allowed = 5

abbrev pub missing_left_side : ℕ
missing_left_side = 6
