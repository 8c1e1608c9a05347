-- HOW THE PROOF GOES.
--   Rows        of whole rows the two verdicts go together, row by row; an odd count was refused at a row or at its end
--   ToldApart   so do the checks of a call's input; input that passes is answered with 0 or 5 to 8 (refusals' `late`);
--               and so `told_apart`
--   Examples    calls of each kind, computed; and answers that the statement excludes
pub mod Rows
pub mod ToldApart
pub mod Examples
