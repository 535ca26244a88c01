-- What rests on laws of Listing's definitions that a must-fail edit breaks:
--     Lines   a number of several at each turn
--     Room    how long the lines are
pub mod Lines
pub mod Room
