-- What a reviewer reads of C's table: the nodes of an expression, the levels beside document 01's list and beside the
-- table's lines, and the claim.
pub mod Nodes
pub mod Listed
pub mod Tables
pub mod Precedence
