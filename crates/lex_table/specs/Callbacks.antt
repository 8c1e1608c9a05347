-- The callback that src/callback.rt gives, as a callback of the rules.
use Rattle.std.specs.Prelude.{Option, Some, None}
use Rattle.definitions.specs.Rules as R
use Rattle.lex_table.specs.declared.callback.Callback.{Callback}
use Rattle.lex_table.specs.declared.callback.Callback.TheVariants as C

abbrev pub said : Option Callback → R.Callback
said None = R.no_callback
said (Some C.BlockComment) = R.lex_block_comment
said (Some C.String) = R.lex_string
said (Some C.Char) = R.lex_char
said (Some C.Bytestring) = R.lex_bytestring
