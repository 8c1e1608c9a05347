-- `enter`: by the entry.
use Rattle.definitions.specs.Grammar.{entry}
use Rattle.parser.proofs.Ways.{ends, call}
use Rattle.grammar.proofs.entry.enter.Goals as goal

pub returns-in-SourceFile : goal.returns-in-SourceFile
unfolding entry
returns-in-SourceFile c =
    rw c.in-SourceFile.is (ends c.entry_sourcefile.ensures)

pub returns-in-ReferenceNoamp : goal.returns-in-ReferenceNoamp
unfolding entry
returns-in-ReferenceNoamp c =
    rw c.in-ReferenceNoamp.is (c.reference_noamp.ensures.way _ _)

pub returns-in-PropValues : goal.returns-in-PropValues
unfolding entry
returns-in-PropValues c =
    rw c.in-PropValues.is (ends (call _ c.propvalues.ensures.opens))

pub returns-in-Cells : goal.returns-in-Cells
unfolding entry
returns-in-Cells c =
    rw c.in-Cells.is (ends c.cells.ensures)
