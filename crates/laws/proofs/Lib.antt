-- HOW THE PROOFS GO. One induction over programs, loops, chains and open calls serves every law of runs: a law shows
-- what holds of each action and is kept by joining and by closing a marker. Each statement of specs/ is then read off
-- an accepted call. The modules, in reading order:
--   Trivia, Skeleton, Tree   lists of tokens, skeletons and trees side by side
--   Engine, Kept             the induction (`Steady`), and its form with eight cases for what a run makes between two
--                            states
--   Marks, Onward            two instances: marks never decrease, the cursor goes on
--   Fuel, Pieces, Shape      turns allowed; a property that a whole hands on to its pieces; the marker's shape
--   Clear, Allowance, Scan   runs without refusal 5; open calls allowed; what is pushed scanned piece by piece
--   Analysis, Sound          analyses that the checker computes on programs, sound for every domain
--   Placed, Between, Swept   placing loses no token; tokens are read off the file; all are taken
--   Decode, Input, Accepted  rows give back their tree; what an accepted call passed, and what it returns
--   NameLook, Names          an instance of the analysis: which names are taken
--   Leaves, LexicalErrors, ReportNumbers   the rows of leaves, of lexical errors and of reports
--   NamesFound, NamesPlaced  the Names that the strict setting judges, read off a skeleton; they are those of its tree
--   Lossless, Limits         the statements `nothing_lost` and `limits`
--   Listed, Once             lists of expectations without repeats, and their two words; the statement `once`
--   Progress, FactsHold, Takes   an instance of the analysis: items, values and top-level parts take a token
--   Witnesses, Refutations   computed cases that meet the premises; wrong answers that do not meet the conclusions
pub mod Trivia
pub mod Skeleton
pub mod Tree
pub mod Engine
pub mod Kept
pub mod Marks
pub mod Onward
pub mod Fuel
pub mod Pieces
pub mod Shape
pub mod Clear
pub mod Allowance
pub mod Scan
pub mod Analysis
pub mod Sound
pub mod Placed
pub mod Between
pub mod Swept
pub mod Decode
pub mod Input
pub mod Accepted
pub mod NameLook
pub mod Names
pub mod Leaves
pub mod LexicalErrors
pub mod ReportNumbers
pub mod NamesFound
pub mod NamesPlaced
pub mod Lossless
pub mod Listed
pub mod Once
pub mod Limits
pub mod Progress
pub mod FactsHold
pub mod Takes
pub mod Witnesses
pub mod Refutations
