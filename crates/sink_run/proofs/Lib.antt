-- What is proved of the program besides its functions: that its event rows are the readings'.
pub mod Encoded
