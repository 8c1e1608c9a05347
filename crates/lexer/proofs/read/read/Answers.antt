-- `read`: the second pass, once the first found the text sound.
use Rattle.lexer.proofs.Reading.{sound_text, read_sound}
use Rattle.lexer.proofs.read.read.Goals as goal

pub lex-requires : goal.lex-requires
lex-requires c = (sound_text c.args.bytes.now _ c.in_ok-numbers.ensures.verdict).few

pub returns : goal.returns
returns c =
    read_sound c.args.bytes.now c.args.tokens.now c.lex.new.rows c.in_ok-numbers.numbers c.lex.result c.in_ok-numbers.ensures c.lex.ensures
