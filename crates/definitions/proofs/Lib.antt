-- What is proved of the definitions alone, without a theorem: document 01's readings, and those of document 02's 1/14
-- to 7/14.
pub mod Readings
pub mod StrictReadings
pub mod TextReadings
pub mod PowerReadings
pub mod RowReadings
pub mod CaretReadings
pub mod OnceReadings
pub mod ParentReadings
