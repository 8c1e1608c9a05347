-- The code's query as the definitions have it.
use Rattle.definitions.specs.Caret as Caret
use Rattle.caret.specs.declared.Query.{Query}
use Rattle.caret.specs.declared.Query.TheVariants.{Caret, Range}

abbrev pub query_of : Query → Caret.Query
query_of (Caret offset) = Caret.caret offset
query_of (Range from to) = Caret.range from to
